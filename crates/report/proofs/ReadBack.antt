-- A number's digits are read back as that number, proved.
-- Assumes nothing.
use mathlib.Core.Path.{◌≡◌, refl, sym, ◌∙◌}
use mathlib.Core.List.{List, [], ◌∷◌, ◌++◌, append_assoc, append-nil}
use Prim.Native.Nat.{ℕ, ◌+◌, ◌-◌, ◌*◌, ◌/◌, ◌%◌, ◌<◌}
use native.Mathlib.Omega.{arith}
use lib.Dec.{T, ltb, lit<}
use lib.ListN.{length, get_or, get_or-append}
use lib.Seq.{get_or-append_seam}
use borrow.Author.Tests.{le-leb, ltb-true, ltb-false}
use Rattle.basis.specs.Range.{within}
use Rattle.basis.proofs.Tests.{cases, within_make}
use Rattle.report.specs.Digits.{digit_byte, digits}
use Rattle.report.specs.ReadBack.{is_digit, read_from, number_at, NoDigitFirst, ReadBack}
use Rattle.report.proofs.Digits.{decimal, one, more, one_length, more_length}

-- one digit d after the number m is the number n
read_digit : (m d n : ℕ) (rest : List ℕ) → d < 10 → 10 * m + d ≡ n → read_from m (digit_byte d ∷ rest) ≡ read_from n rest
unfolding read_from
read_digit m d n rest h e =
    let now : 10 * m + (digit_byte d - 48) ≡ n = omega arith in
    rw (le-leb 48 (digit_byte d) (omega arith), le-leb (digit_byte d) 57 (omega arith), now)

read_end : (n : ℕ) (rest : List ℕ) → NoDigitFirst rest → read_from n rest ≡ n
unfolding read_from
read_end n [] h = refl
read_end n (b ∷ rest) h = rw h

-- after a number's digits, reading goes on from the number
read_on : (n : ℕ) (rest : List ℕ) → read_from 0 (digits n ++ rest) ≡ read_from n rest
read_on =
    decimal (λ n. (rest : List ℕ) → read_from 0 (digits n ++ rest) ≡ read_from n rest)
    (λ n h rest. rw (one n h) (read_digit 0 n n rest h (omega arith)))
    (λ n h ih rest. rw (more n h, append_assoc) (ih _ ∙ read_digit (n / 10) (n % 10) n rest (omega arith) (omega arith)))

digit_is : (d : ℕ) → d < 10 → T (is_digit (digit_byte d))
digit_is d h = within_make 48 57 (digit_byte d) (omega arith) (omega arith)

digit_at : (n i : ℕ) → i < length (digits n) → T (is_digit (get_or (digits n) i 0))
digit_at =
    decimal (λ n. (i : ℕ) → i < length (digits n) → T (is_digit (get_or (digits n) i 0)))
    (λ n h i l. let e : i ≡ 0 = omega (arith, one_length n h) in rw (one n h, e) (digit_is n h))
    (λ n h ih i l.
    let front = digits (n / 10) in
    rw (more n h)
    (cases (ltb i (length front)) (λ t. let k = ltb-true i (length front) t in rw (get_or-append front _ 0 i k) (ih i k))
    (λ t.
    let e : i ≡ length front = omega (arith, more_length n h, ltb-false i (length front) t) in
    rw (e, get_or-append_seam front _ [] 0) (digit_is (n % 10) (omega arith)))))

-- whatever follows the digits
first_digit : (n : ℕ) (rest : List ℕ) → 0 < n → T (within 49 57 (get_or (digits n ++ rest) 0 0))
first_digit =
    decimal (λ n. (rest : List ℕ) → 0 < n → T (within 49 57 (get_or (digits n ++ rest) 0 0)))
    (λ n h rest p. rw (one n h) (within_make 49 57 (digit_byte n) (omega arith) (omega arith)))
    (λ n h ih rest p. rw (more n h, append_assoc) (ih _ (omega arith)))

pub read_back : ReadBack
unfolding number_at
read_back =
    record {
      back = λ n rest h. read_on n rest ∙ read_end n rest h;
      all_digits = digit_at;
      no_leading_zero = λ n p. rw (sym (append-nil (digits n))) (first_digit n [] p);
      zero = one 0 (lit< tt);
    }
