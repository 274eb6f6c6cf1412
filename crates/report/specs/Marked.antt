-- The marked case of documents 01 and 02 on the report, and support S's: what the definitions compute under sheet T, and what the papers say, byte for byte.
-- Assumes nothing.
use Rattle.std.specs.Prelude.{refl, List, [], ◌∷◌}
use Rattle.basis.specs.Fraction.{ceil, ◌≼◌, up, down}
use Rattle.basis.specs.Marked.{Row, row, Hold}
use Rattle.job.specs.JobJ.{job_J}
use Rattle.support.specs.SupportS.{support_S}
use Rattle.sheet.specs.SheetT.{sheet_T}
use Rattle.section5.specs.Section5.{judgement, paper}
use Rattle.section5.specs.Formwork as Formwork
use Rattle.report.specs.Report.{report, lines}

pub rows : List Row
unfolding sheet_T job_J support_S
rows =
    row (report (judgement job_J sheet_T))
    (
    -- 1 1 477521
    49 ∷ 32 ∷ 49 ∷ 32 ∷ 52 ∷ 55 ∷ 55 ∷ 53 ∷ 50 ∷ 49 ∷ 10
    -- 2 1 1584
    ∷ 50 ∷ 32 ∷ 49 ∷ 32 ∷ 49 ∷ 53 ∷ 56 ∷ 52 ∷ 10
    -- 3 1 571785
    ∷ 51 ∷ 32 ∷ 49 ∷ 32 ∷ 53 ∷ 55 ∷ 49 ∷ 55 ∷ 56 ∷ 53 ∷ 10
    -- 4 1 2777
    ∷ 52 ∷ 32 ∷ 49 ∷ 32 ∷ 50 ∷ 55 ∷ 55 ∷ 55 ∷ 10
    -- 5 1 4160
    ∷ 53 ∷ 32 ∷ 49 ∷ 32 ∷ 52 ∷ 49 ∷ 54 ∷ 48 ∷ 10
    -- 6 1 171
    ∷ 54 ∷ 32 ∷ 49 ∷ 32 ∷ 49 ∷ 55 ∷ 49 ∷ 10
    -- 7 1 20093
    ∷ 55 ∷ 32 ∷ 49 ∷ 32 ∷ 50 ∷ 48 ∷ 48 ∷ 57 ∷ 51 ∷ 10
    -- 8 0 19030
    ∷ 56 ∷ 32 ∷ 48 ∷ 32 ∷ 49 ∷ 57 ∷ 48 ∷ 51 ∷ 48 ∷ 10
    -- 9 1 5953
    ∷ 57 ∷ 32 ∷ 49 ∷ 32 ∷ 53 ∷ 57 ∷ 53 ∷ 51 ∷ 10
    -- 10 1 20093
    ∷ 49 ∷ 48 ∷ 32 ∷ 49 ∷ 32 ∷ 50 ∷ 48 ∷ 48 ∷ 57 ∷ 51 ∷ 10
    -- 11 2 20093
    ∷ 49 ∷ 49 ∷ 32 ∷ 50 ∷ 32 ∷ 50 ∷ 48 ∷ 48 ∷ 57 ∷ 51 ∷ 10
    -- 12 1 3173
    ∷ 49 ∷ 50 ∷ 32 ∷ 49 ∷ 32 ∷ 51 ∷ 49 ∷ 55 ∷ 51 ∷ 10
    -- height 3277 3173
    ∷ 104 ∷ 101 ∷ 105 ∷ 103 ∷ 104 ∷ 116 ∷ 32 ∷ 51 ∷ 50 ∷ 55 ∷ 55 ∷ 32 ∷ 51 ∷ 49 ∷ 55 ∷ 51 ∷ 10
    -- wind 42 24291
    ∷ 119 ∷ 105 ∷ 110 ∷ 100 ∷ 32 ∷ 52 ∷ 50 ∷ 32 ∷ 50 ∷ 52 ∷ 50 ∷ 57 ∷ 49 ∷ 10
    -- column 1974
    ∷ 99 ∷ 111 ∷ 108 ∷ 117 ∷ 109 ∷ 110 ∷ 32 ∷ 49 ∷ 57 ∷ 55 ∷ 52 ∷ 10
    ∷ []
    )
    -- S: no height line
    ∷ row (report (Formwork.judgement support_S sheet_T))
    (
    -- 1 0 0
    49 ∷ 32 ∷ 48 ∷ 32 ∷ 48 ∷ 10
    -- 2 0 0
    ∷ 50 ∷ 32 ∷ 48 ∷ 32 ∷ 48 ∷ 10
    -- 3 0 0
    ∷ 51 ∷ 32 ∷ 48 ∷ 32 ∷ 48 ∷ 10
    -- 4 0 0
    ∷ 52 ∷ 32 ∷ 48 ∷ 32 ∷ 48 ∷ 10
    -- 5 0 0
    ∷ 53 ∷ 32 ∷ 48 ∷ 32 ∷ 48 ∷ 10
    -- 6 0 0
    ∷ 54 ∷ 32 ∷ 48 ∷ 32 ∷ 48 ∷ 10
    -- 7 1 19200
    ∷ 55 ∷ 32 ∷ 49 ∷ 32 ∷ 49 ∷ 57 ∷ 50 ∷ 48 ∷ 48 ∷ 10
    -- 8 1 17940
    ∷ 56 ∷ 32 ∷ 49 ∷ 32 ∷ 49 ∷ 55 ∷ 57 ∷ 52 ∷ 48 ∷ 10
    -- 9 0 0
    ∷ 57 ∷ 32 ∷ 48 ∷ 32 ∷ 48 ∷ 10
    -- 10 1 19200
    ∷ 49 ∷ 48 ∷ 32 ∷ 49 ∷ 32 ∷ 49 ∷ 57 ∷ 50 ∷ 48 ∷ 48 ∷ 10
    -- 11 1 19200
    ∷ 49 ∷ 49 ∷ 32 ∷ 49 ∷ 32 ∷ 49 ∷ 57 ∷ 50 ∷ 48 ∷ 48 ∷ 10
    -- 12 0 0
    ∷ 49 ∷ 50 ∷ 32 ∷ 48 ∷ 32 ∷ 48 ∷ 10
    -- wind 84 22491
    ∷ 119 ∷ 105 ∷ 110 ∷ 100 ∷ 32 ∷ 56 ∷ 52 ∷ 32 ∷ 50 ∷ 50 ∷ 52 ∷ 57 ∷ 49 ∷ 10
    -- column 1330
    ∷ 99 ∷ 111 ∷ 108 ∷ 117 ∷ 109 ∷ 110 ∷ 32 ∷ 49 ∷ 51 ∷ 51 ∷ 48 ∷ 10
    ∷ []
    )
    ∷ []

pub marked : Hold rows
unfolding Hold rows paper Formwork.clause ceil ◌≼◌ up down lines report
marked = (refl, (refl, tt))
