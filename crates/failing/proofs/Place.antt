-- The place among all judgements of a book: of the first that has a failed check, found one by one.
-- Assumes nothing.
use Rattle.std.specs.List.{position_or_len}
use Rattle.std.specs.Prelude.{Option, None, Some, IfSome, position, length}
use Rattle.std.proofs.lemmas.List.FromFn.{length-map-range_with_len, get_or-map-range_with_len}
use Rattle.std.proofs.lemmas.List.Sums.{position_or_len_is, fails_before_first}
use Rattle.std.proofs.lemmas.List.Quantifiers.{position-Some}
use Prim.Native.Nat.{ℕ, ◌≤◌, ◌<◌}
use mathlib.Core.Path.{◌≡◌, refl, sym}
use mathlib.Core.Bool.{true, false}
use mathlib.Core.List.{List}
use native.Mathlib.Omega.{arith}
use lib.ListN.{get_or}
use lib.Dec.{ltb}
use borrow.Author.Tests.{lt-ltb, le-ltb, ltb-false}
use Rattle.basis.proofs.Tests.{cases}
use Rattle.basis.specs.Refusal.{nothing}
use Rattle.job.specs.Job.{job_of}
use Rattle.section5.specs.declared.Judgement.{Judgement}
use Rattle.section5.specs.Section5.{judgement}
use Rattle.book.specs.Book.{row}
use Rattle.book.specs.Read.{count_in, rows_in, book_refusal}
use Rattle.bookfile.proofs.Reading.{few}
use Rattle.failing.specs.Failing.{failed, judgements, place_in}

module _ (sheet book : List ℕ) where
  -- the judgement of row r
  abbrev pub judged_at : ℕ → Judgement
  judged_at r = judgement (job_of (row (rows_in book) r)) sheet

  long : length (judgements sheet book) ≡ count_in book
  unfolding judgements
  long = length-map-range_with_len judged_at 0 (count_in book)

  at : (r : ℕ) → r < count_in book → get_or (judgements sheet book) r (judged_at 0) ≡ judged_at r
  unfolding judgements
  at r h = get_or-map-range_with_len judged_at 0 (count_in book) r r (judged_at 0) h (omega arith)

  -- the first r rows have no failed check
  abbrev pub Passed : ℕ → Type 0
  Passed r = (k : ℕ) → k < r → failed (judged_at k) ≡ false

  pub found : (r : ℕ) → r < count_in book → Passed r → failed (judged_at r) ≡ true → place_in sheet book ≡ Some r
  unfolding place_in
  found r h before here =
      let e = position_or_len_is failed (judgements sheet book) r (judged_at 0) (omega (arith, long)) (λ k l. rw (at k (omega arith)) (before k l)) (λ l. rw (at r h) here) in
      let t = lt-ltb r (count_in book) h in
      let f : position failed (judgements sheet book) ≡ Some r = rw (e, long, t) refl in f

  pub nowhere : Passed (count_in book) → place_in sheet book ≡ None
  unfolding place_in
  nowhere before =
      let e = position_or_len_is failed (judgements sheet book) (count_in book) (judged_at 0) (omega (arith, long)) (λ k l. rw (at k l) (before k l)) (λ l. absurd (omega (arith, long))) in
      let t = le-ltb (count_in book) (count_in book) (omega arith) in
      rw (e, long, t) refl

  -- a place that is found is that of a row, which fails, and none before it does
  pub place_fails : (r : ℕ) → place_in sheet book ≡ Some r → (r < count_in book) × ((failed (judged_at r) ≡ true) × Passed r)
  unfolding place_in
  place_fails r e =
      let p = position-Some failed (judgements sheet book) r (judged_at 0) e in
      let h : r < count_in book = omega (arith, p.0, long) in
      (h, (rw (at r h) at p.1, λ k l. rw (at k (omega arith)) at (p.2 k l)))

  -- and where there is none, no row fails
  pub none_fails : place_in sheet book ≡ None → Passed (count_in book)
  unfolding place_in
  none_fails e k h =
      let n = position_or_len failed (judgements sheet book) in
      let l : length (judgements sheet book) ≤ n = cases (ltb n (length (judgements sheet book))) (λ t. absurd (cc (rw t at e))) (ltb-false n (length (judgements sheet book))) in
      rw (at k h) at (fails_before_first failed (judgements sheet book) k (judged_at 0) (omega (arith, long)))

  -- so it is that of one of 200 rows
  pub place_low : book_refusal book ≡ nothing → (place : Option ℕ) → place ≡ place_in sheet book → IfSome place (λ r. r ≤ 200)
  place_low z None e = tt
  place_low z (Some r) e = omega (arith, (place_fails r (sym e)).0, few book z)
