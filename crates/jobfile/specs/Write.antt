-- Writing a job file: what is refused of the numbers (3, 4, 5) and of the buffer (8), in that order, or the file at the front of the buffer.
-- Assumes nothing.
use Rattle.std.specs.Prelude.{ℕ, List, length, Result}
use Rattle.basis.specs.Refusal.{Examined, first}
use Rattle.basis.specs.Writing.{room_refusal, written_or, left_or}
use Rattle.basis.specs.declared.Refusal.{Refusal}
use Rattle.groups.specs.Encode.{encode_all}
use Rattle.jobfile.specs.Kind.{Kind, scaffold, support, examination}

-- the greatest length of an accepted job's file
abbrev pub greatest_length : Kind → ℕ
greatest_length scaffold = 42
greatest_length support = 24

-- what is refused of a job's numbers and a buffer: the numbers, then the buffer
abbrev pub write_refusal : Kind → List ℕ → List ℕ → Examined
write_refusal kind ns out = first (examination kind ns) (room_refusal (encode_all ns) out)

-- the length of the file where nothing is refused, else the refusal
abbrev pub file_written : Kind → List ℕ → List ℕ → Result ℕ Refusal
file_written kind ns out = written_or (write_refusal kind ns out) (length (encode_all ns))

-- the buffer afterwards: as it was where the answer is a refusal, else only the file's own length is written
abbrev pub file_left : Kind → List ℕ → List ℕ → List ℕ
file_left kind ns out = left_or (write_refusal kind ns out) (encode_all ns) out
