-- The marked cases of document 01 on job files, job J's file, those of document 02 on the files of supports, and the greatest lengths reached.
-- Assumes nothing.
use Rattle.std.specs.Prelude.{ℕ, refl, List, [], ◌∷◌, ◌++◌, set, replicate}
use Rattle.basis.specs.Marked.{Row, row, Hold}
use Rattle.basis.specs.Writing.{written_values}
use Rattle.job.specs.Job as Job
use Rattle.job.specs.JobJ.{numbers_J}
use Rattle.job.specs.Ranges.{ranges, outside}
use Rattle.support.specs.Support as Support
use Rattle.support.specs.SupportS.{numbers_S}
use Rattle.groups.specs.Encode.{groups, encode, encode_all}
use Rattle.groups.specs.Decode.{last_group, extend, later_groups, limit, decode}
use Rattle.groups.specs.Numbers.{extra, damage, values, value_of}
use Rattle.jobfile.specs.Kind.{Kind, scaffold, support, marks_support, kind_of}
use Rattle.jobfile.specs.Read.{job_in, read_values}
use Rattle.jobfile.specs.Write.{greatest_length, file_written}

-- a job each of whose numbers takes as many bytes as its range lets it
unfoldable pub longest : Kind → List ℕ
longest scaffold =
    1 ∷ 2 ∷ 155 ∷ 200 ∷ 200 ∷ 3 ∷ 5000 ∷ 3 ∷ 10 ∷ 9 ∷ 10000 ∷ 30000 ∷ 5000 ∷ 500 ∷ 2000 ∷ 4000 ∷ 1 ∷ 2000 ∷ 2 ∷ 2000 ∷ 3 ∷ 100000 ∷ 5 ∷ 2000 ∷ 10000 ∷ []
longest support = 3 ∷ 2 ∷ 200 ∷ 100 ∷ 200 ∷ 60000 ∷ 60000 ∷ 2000 ∷ 4000 ∷ 2000 ∷ 5 ∷ 2000 ∷ 10000 ∷ []

-- what writing it into a buffer of so many bytes answers
unfoldable pub written : Kind → ℕ → List ℕ
unfolding longest
written kind room = written_values (file_written kind (longest kind) (replicate room 0))

-- what reading a file answers: the numbers of its job, or the refusal's number and its place
abbrev pub read : List ℕ → List ℕ
read file = read_values (job_in file)

pub rows : List Row
unfolding numbers_J numbers_S encode_all written
rows =
    row (read (128 ∷ 0 ∷ [])) (6 ∷ 0 ∷ [])  -- 80 00
    -- job J, and the same with 80 00 for its 13th number, which is 0
    ∷ row
    (read (1 ∷ 1 ∷ 105 ∷ 150 ∷ 1 ∷ 180 ∷ 1 ∷ 2 ∷ 184 ∷ 23 ∷ 3 ∷ 4 ∷ 2 ∷ 184 ∷ 23 ∷ 136 ∷ 39 ∷ 0 ∷ 172 ∷ 2 ∷ 172 ∷ 2 ∷ 232 ∷ 7 ∷ 1 ∷ 200 ∷ 1 ∷ 1 ∷ 240 ∷ 1 ∷ 1 ∷ 192 ∷ 62 ∷ 4 ∷ 200 ∷ 1 ∷ 208 ∷ 15 ∷ []))
    numbers_J
    ∷ row
    (read (1 ∷ 1 ∷ 105 ∷ 150 ∷ 1 ∷ 180 ∷ 1 ∷ 2 ∷ 184 ∷ 23 ∷ 3 ∷ 4 ∷ 2 ∷ 184 ∷ 23 ∷ 136 ∷ 39 ∷ 128 ∷ 0 ∷ 172 ∷ 2 ∷ 172 ∷ 2 ∷ 232 ∷ 7 ∷ 1 ∷ 200 ∷ 1 ∷ 1 ∷ 240 ∷ 1 ∷ 1 ∷ 192 ∷ 62 ∷ 4 ∷ 200 ∷ 1 ∷ 208 ∷ 15 ∷ []))
    (6 ∷ 17 ∷ [])
    -- support S, in 21 bytes; the same and one byte more, and with its last byte cut off
    ∷ row (read (3 ∷ 1 ∷ 150 ∷ 1 ∷ 30 ∷ 100 ∷ 168 ∷ 70 ∷ 240 ∷ 46 ∷ 172 ∷ 2 ∷ 232 ∷ 7 ∷ 144 ∷ 3 ∷ 4 ∷ 200 ∷ 1 ∷ 208 ∷ 15 ∷ [])) numbers_S
    ∷ row (read (encode_all numbers_S ++ (0 ∷ []))) (7 ∷ 21 ∷ [])
    ∷ row (read (3 ∷ 1 ∷ 150 ∷ 1 ∷ 30 ∷ 100 ∷ 168 ∷ 70 ∷ 240 ∷ 46 ∷ 172 ∷ 2 ∷ 232 ∷ 7 ∷ 144 ∷ 3 ∷ 4 ∷ 200 ∷ 1 ∷ 208 ∷ [])) (6 ∷ 19 ∷ [])
    -- J's numbers after a first number of 3: the 13th ends at byte 18
    ∷ row (read (encode_all (set numbers_J 0 3))) (7 ∷ 18 ∷ [])
    -- a first number of 4 is read as 25 numbers: S's file then ends after 13, and J's is refused at field 1
    ∷ row (read (encode_all (set numbers_S 0 4))) (6 ∷ 21 ∷ [])
    ∷ row (read (encode_all (set numbers_J 0 4))) (3 ∷ 1 ∷ [])
    -- places count from the first number, as 1: tube 3, pad 99
    ∷ row (read (encode_all (set numbers_S 1 3))) (3 ∷ 2 ∷ [])
    ∷ row (read (encode_all (set numbers_S 12 99))) (3 ∷ 13 ∷ [])
    -- writing a support whose first number is not 3
    ∷ row (written_values (file_written support (set numbers_S 0 1) [])) (3 ∷ 1 ∷ [])
    -- the longest jobs need the greatest length: a buffer of one byte less is too short for each
    ∷ row (written scaffold 42 ++ written scaffold 41) (greatest_length scaffold ∷ 8 ∷ greatest_length scaffold ∷ [])
    ∷ row (written support 24 ++ written support 23) (greatest_length support ∷ 8 ∷ greatest_length support ∷ [])
    ∷ []

-- on an `unfolding` line: all that reading and writing compute
unfoldable pub files : Unit {0}
unfolding encode groups encode_all job_in kind_of marks_support value_of damage values extra decode later_groups last_group extend limit Job.job_of Job.numbers Support.support_of Support.numbers ranges outside
files = tt

pub marked : Hold rows
unfolding Hold rows files
marked = (refl, (refl, (refl, (refl, (refl, (refl, (refl, (refl, (refl, (refl, (refl, (refl, (refl, (refl, tt))))))))))))))
