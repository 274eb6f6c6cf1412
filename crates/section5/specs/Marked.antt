-- The marked cases of documents 01 and 02 on figures, checks and heights: in each row what the definitions compute, and what the papers say.
-- Assumes nothing.
use Rattle.std.specs.Prelude.{ℕ, ◌-◌, ◌*◌, List, [], ◌∷◌, length, get_or, set}
use Rattle.basis.specs.Fraction.{Ratio, whole, tenths, ◌⊗◌, up, down}
use Rattle.basis.specs.Marked.{Row, row}
use Rattle.job.specs.declared.Job.{Job}
use Rattle.job.specs.Job.{job_of}
use Rattle.job.specs.JobJ.{numbers_J, job_J, job_J_with, half_closed_J}
use Rattle.sheet.specs.SheetT.{tabulated, sheet_T}
use Rattle.section5.specs.declared.Heights.{Heights}
use Rattle.section5.specs.declared.Heights.TheVariants.{NoLine, Nowhere, Both}
use Rattle.section5.specs.Section5.{checks, verdicts, figures, stability, permitted, heights, exact_N, wk, Mw, φ, column, stability_factor}
use Rattle.section5.specs.PoleForce.{after_structure, after_fittings, after_live_wind}

-- a double row with t = 3, the tube, the spacing lb and the step h
unfoldable pub column_with : ℕ → ℕ → ℕ → Job
unfolding job_of numbers_J
column_with tube lb h = job_of (set (set (set (set numbers_J 1 tube) 2 lb) 5 3) 4 h)

-- the same of tube 1 with spacing 155, and with a live load of 3,000 N/m² over all layers
unfoldable pub light_with : ℕ → Job
unfolding job_of numbers_J
light_with h = job_of (set (set (set (set numbers_J 2 155) 5 3) 4 h) 11 3000)

-- a sheet that begins with an entry and falls by so much from each entry to the next
unfoldable pub sheet_from : ℕ → ℕ → List ℕ
unfolding tabulated
sheet_from first by = tabulated (λ k. first - by * k) 251 []

-- a fraction in ten-thousandths, down and up to a whole number of them
unfoldable pub ten_thousandths : Ratio → List ℕ
ten_thousandths x = down (whole 10000 ⊗ x) ∷ up (whole 10000 ⊗ x) ∷ []

-- what is said of heights, as a row of no or two numbers
unfoldable pub shown : Heights → List ℕ
shown NoLine = []
shown Nowhere = []
shown (Both H P) = H ∷ P ∷ []

-- J whose stability height is 0
unfoldable pub grounded : Job
unfolding job_of numbers_J
grounded = job_of (set (set numbers_J 11 12000) 12 1563)

-- the verdict and the figure of a check, from 1, under sheet T
unfoldable pub verdict_of : ℕ → Job → ℕ
unfolding sheet_T
verdict_of check j = get_or (verdicts j sheet_T) (check - 1) 0

unfoldable pub figure_of : ℕ → Job → ℕ
unfolding sheet_T
figure_of check j = get_or (figures j sheet_T) (check - 1) 0

unfoldable pub rows : List Row
unfolding sheet_T job_J job_J_with half_closed_J column_with light_with sheet_from ten_thousandths shown grounded verdict_of figure_of
rows =
    -- J's figures, wk, Mw, Z in tenths, verdicts and heights
    row (figures job_J sheet_T) (477521 ∷ 1584 ∷ 571785 ∷ 2777 ∷ 4160 ∷ 171 ∷ 20093 ∷ 19030 ∷ 5953 ∷ 20093 ∷ 20093 ∷ 3173 ∷ [])
    ∷ row (wk job_J ∷ Mw job_J ∷ column job_J ∷ []) (42 ∷ 24291 ∷ 1974 ∷ [])
    -- J's pole force step by step: 10,800 of its structure, 13,005 with the fittings, 20,092.5 with the live load, in wind 19,029.375
    ∷ row (ten_thousandths (after_structure job_J 3000)) (108000000 ∷ 108000000 ∷ [])
    ∷ row (ten_thousandths (after_fittings job_J 3000)) (130050000 ∷ 130050000 ∷ [])
    ∷ row (ten_thousandths (exact_N job_J 3000)) (200925000 ∷ 200925000 ∷ [])
    ∷ row (ten_thousandths (after_live_wind job_J 3000)) (190293750 ∷ 190293750 ∷ [])
    -- J's slenderness of 197.4 reads the line between entries 197 and 198 of sheet T, 212 and 208
    ∷ row (ten_thousandths (φ job_J sheet_T)) (2104 ∷ 2104 ∷ [])
    ∷ row (verdicts job_J sheet_T) (1 ∷ 1 ∷ 1 ∷ 1 ∷ 1 ∷ 1 ∷ 1 ∷ 0 ∷ 1 ∷ 1 ∷ 2 ∷ 1 ∷ [])
    ∷ row (length (verdicts job_J sheet_T) ∷ length (figures job_J sheet_T) ∷ []) (checks ∷ checks ∷ [])
    ∷ row (shown (heights job_J (stability job_J sheet_T))) (3277 ∷ 3173 ∷ [])
    -- J with strength 201 passes 11
    ∷ row (verdict_of 11 (job_J_with 24 201) ∷ []) (1 ∷ [])
    -- J at 3,277 passes 7, at 3,278 fails
    ∷ row (verdict_of 7 (job_J_with 7 3277) ∷ verdict_of 7 (job_J_with 7 3278) ∷ []) (1 ∷ 2 ∷ [])
    -- for a double row, stability 2,534 permits 2,534, 2,535 to 2,599 permit 2,534, and 2,600: 26 / 1.026 = 25.341..; 2,601 permits 26.01 / 1.02601 = 25.3506.., 6,000 permits 5,000
    ∷ row (permitted job_J 2533 ∷ permitted job_J 2534 ∷ permitted job_J 2535 ∷ permitted job_J 2599 ∷ []) (2533 ∷ 2534 ∷ 2534 ∷ 2534 ∷ [])
    ∷ row (permitted job_J 2600 ∷ permitted job_J 2601 ∷ permitted job_J 6000 ∷ []) (2534 ∷ 2535 ∷ 5000 ∷ [])
    -- J at 3,173 passes 12, at 3,174 fails
    ∷ row (verdict_of 12 (job_J_with 7 3173) ∷ verdict_of 12 (job_J_with 7 3174) ∷ []) (1 ∷ 2 ∷ [])
    -- J with 30,000 N/m² over all layers, 1.4 × 30,375 N on the pole, which bears 21,091: it has no height, and fails 12 with figure 0
    ∷ row (shown (heights (job_J_with 12 30000) (stability (job_J_with 12 30000) sheet_T))) []
    ∷ row (verdict_of 12 (job_J_with 12 30000) ∷ figure_of 12 (job_J_with 12 30000) ∷ []) (2 ∷ 0 ∷ [])
    -- with 12,000 and nets of 1,563 N, 21,090.6 N at the ground, it stands at 0 and no higher: figure 0 too
    ∷ row (shown (heights grounded (stability grounded sheet_T))) (0 ∷ 0 ∷ [])
    ∷ row (verdict_of 12 grounded ∷ figure_of 12 grounded ∷ []) (2 ∷ 0 ∷ [])
    -- double row, tube 1, spacing 155, t = 3: step 184 passes 6, 185 fails
    ∷ row (verdict_of 6 (column_with 1 155 184) ∷ verdict_of 6 (column_with 1 155 185) ∷ []) (1 ∷ 2 ∷ [])
    -- J with wind 350 has 8 not due, 351 due (and passes)
    ∷ row (verdict_of 8 (job_J_with 15 350) ∷ verdict_of 8 (job_J_with 15 351) ∷ []) (0 ∷ 1 ∷ [])
    -- half closed, of which 0.1, 29.9 and 30 % are shielded: wk is 504 × 0.001, 0.299 and 0.3, and a tie bears 1.4 wk on 16.2 m² and 5,000 N
    ∷ row (wk (half_closed_J 1) ∷ wk (half_closed_J 299) ∷ wk (half_closed_J 300) ∷ []) (1 ∷ 151 ∷ 152 ∷ [])
    ∷ row (figure_of 9 (half_closed_J 1) ∷ figure_of 9 (half_closed_J 299) ∷ figure_of 9 (half_closed_J 300) ∷ []) (5023 ∷ 8425 ∷ 8448 ∷ [])
    -- every entry 117: 250.01, step 190, is read at 251, below entry 250; at 250.1 it would be above, 1170.3, and the pole would stand up to 852, higher than with step 189
    ∷ row (ten_thousandths (φ (light_with 190) (sheet_from 117 0))) (1161 ∷ 1162 ∷ [])
    ∷ row (shown (heights (light_with 189) (stability (light_with 189) (sheet_from 117 0)))) (851 ∷ 851 ∷ [])
    ∷ row (shown (heights (light_with 190) (stability (light_with 190) (sheet_from 117 0)))) (829 ∷ 829 ∷ [])
    -- up to a tenth: 208.34 is read at 208.4
    ∷ row (column (job_J_with 5 190) ∷ []) (2084 ∷ [])
    -- exactly 231, read at that entry; 249.46, read at 249.5 between entries 249 and 250; 250.74, read at 251, which no entry has
    ∷ row (column (column_with 2 105 200) ∷ ten_thousandths (φ (column_with 2 105 200) (sheet_from 1000 3))) (2310 ∷ 3070 ∷ 3070 ∷ [])
    ∷ row (column (column_with 1 130 195) ∷ ten_thousandths (φ (column_with 1 130 195) (sheet_from 1000 3))) (2495 ∷ 2515 ∷ 2515 ∷ [])
    ∷ row (column (column_with 1 130 196) ∷ ten_thousandths (φ (column_with 1 130 196) (sheet_from 1000 3))) (2510 ∷ 1161 ∷ 1162 ∷ [])
    -- at exactly 250.0, entry 250
    ∷ row (ten_thousandths (stability_factor (sheet_from 1000 3) (tenths 2500))) (2500 ∷ 2500 ∷ [])
    ∷ []
