-- Supports worked out by hand from clause 5.6: in each row what the definitions compute, and what stands on paper.
-- Assumes nothing.
use Rattle.std.specs.Prelude.{ℕ, ◌-◌, List, [], ◌∷◌, length, get_or, set}
use Rattle.basis.specs.Marked.{Row, row}
use Rattle.support.specs.declared.Support.{Support}
use Rattle.support.specs.Support.{support_of}
use Rattle.support.specs.SupportS.{numbers_S, support_S, support_S_with}
use Rattle.sheet.specs.SheetT.{sheet_T}
use Rattle.section5.specs.Section5.{checks}
use Rattle.section5.specs.Formwork.{verdicts, figures, wk, Mw, φ, column}
use Rattle.section5.specs.Marked.{sheet_from, ten_thousandths}

-- S in a gale: w0 2,000 N/m², height factor 4, shape factor 2
unfoldable pub gale : Support
unfolding support_of numbers_S
gale = support_of (set (set (set numbers_S 7 2000) 8 4000) 9 2000)

-- S with an overhang of 1 m and the step h
unfoldable pub tall_with : ℕ → Support
unfolding support_of numbers_S
tall_with h = support_of (set (set numbers_S 3 100) 2 h)

-- the verdict of a check, from 1, under sheet T
unfoldable pub verdict_of : ℕ → Support → ℕ
unfolding sheet_T
verdict_of check s = get_or (verdicts s sheet_T) (check - 1) 0

unfoldable pub rows : List Row
unfolding sheet_T support_S support_S_with gale tall_with verdict_of sheet_from ten_thousandths
rows =
    -- S: N = 1.2 × 9,000 + 1.4 × 6,000, Nw = 1.2 × 9,000 + 1.19 × 6,000
    row (figures support_S) (0 ∷ 0 ∷ 0 ∷ 0 ∷ 0 ∷ 0 ∷ 19200 ∷ 17940 ∷ 0 ∷ 19200 ∷ 19200 ∷ 0 ∷ [])
    -- wk = 0.7 × 1 × 0.4 × 300, Mw = 1.19 × 84 × 1 × 1.5² / 10, Z = (1,500 + 2 × 300) / 15.8 = 132.91, up to a tenth
    ∷ row (wk support_S ∷ Mw support_S ∷ column support_S ∷ []) (84 ∷ 22491 ∷ 1330 ∷ [])
    -- at 133.0 sheet T has 0.468: φ A f = 46,914.66; 17,940 / (0.468 × 489) + 22,491 / 5,080 = 82.8; 0.5 × 200 kPa × 0.2 m² = 20,000
    ∷ row (verdicts support_S sheet_T) (0 ∷ 0 ∷ 0 ∷ 0 ∷ 0 ∷ 0 ∷ 1 ∷ 1 ∷ 0 ∷ 1 ∷ 1 ∷ 0 ∷ [])
    ∷ row (length (verdicts support_S sheet_T) ∷ length (figures support_S) ∷ []) (checks ∷ checks ∷ [])
    -- in calm 8 is due all the same, and passes
    ∷ row (wk (support_S_with 8 0) ∷ Mw (support_S_with 8 0) ∷ verdict_of 8 (support_S_with 8 0) ∷ []) (0 ∷ 0 ∷ 1 ∷ [])
    -- in a gale wk is 11,200, and Mw 2,998,800, more than f W = 1,041,400 by itself: 8 fails alone
    ∷ row (wk gale ∷ Mw gale ∷ verdicts gale sheet_T) (11200 ∷ 2998800 ∷ 0 ∷ 0 ∷ 0 ∷ 0 ∷ 0 ∷ 0 ∷ 1 ∷ 2 ∷ 0 ∷ 1 ∷ 1 ∷ 0 ∷ [])
    -- 7: a dead load of 32,095 N makes N 46,914, 32,096 makes it 46,916
    ∷ row (verdict_of 7 (support_S_with 6 32095) ∷ verdict_of 7 (support_S_with 6 32096) ∷ []) (1 ∷ 2 ∷ [])
    -- 10: a dead load of 26,333 N makes N 39,999.6, up to 40,000; 26,334 makes it 40,001
    ∷ row (verdict_of 10 (support_S_with 6 26333) ∷ verdict_of 10 (support_S_with 6 26334) ∷ []) (1 ∷ 2 ∷ [])
    -- 11: a pad of 1,920 cm² bears 19,200 N, one of 1,919 bears 19,190
    ∷ row (verdict_of 11 (support_S_with 13 1920) ∷ verdict_of 11 (support_S_with 13 1919) ∷ []) (1 ∷ 2 ∷ [])
    -- (195 + 200) / 1.58 is 250 exactly, read at entry 250; with step 196 it is 250.63, read at 251, which no entry has
    ∷ row (column (tall_with 195) ∷ ten_thousandths (φ (tall_with 195) (sheet_from 1000 3))) (2500 ∷ 2500 ∷ 2500 ∷ [])
    ∷ row (column (tall_with 196) ∷ ten_thousandths (φ (tall_with 196) (sheet_from 1000 3))) (2510 ∷ 1161 ∷ 1162 ∷ [])
    ∷ []
