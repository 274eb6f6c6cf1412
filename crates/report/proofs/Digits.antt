-- Laws of a number's digits: one digit, one digit more, and how many there are.
-- Assumes nothing.
use mathlib.Core.Path.{◌≡◌, refl, sym, ap, ◌∙◌}
use mathlib.Core.List.{[], ◌∷◌, ◌++◌}
use Prim.Native.Nat.{ℕ, zero, suc, ◌+◌, ◌*◌, ◌/◌, ◌%◌, ◌^◌, ◌≤◌, ◌<◌}
use native.Mathlib.Nat.{le_refl, pow-succ'}
use native.Mathlib.Omega.{arith}
use lib.Dec.{ltb}
use lib.ListN.{length, length-append}
use borrow.Author.Tests.{lt-ltb, le-ltb, ltb-true, ltb-false}
use Rattle.basis.specs.Figure.{Is}
use Rattle.basis.proofs.Tests.{cases}
use Rattle.report.specs.Digits.{digit_byte, digits_within, digits}

within_one : (f n : ℕ) → n < 10 → digits_within f n ≡ digit_byte n ∷ []
unfolding digits_within
within_one zero n h = refl
within_one (suc f) n h = rw (lt-ltb n 10 h, digits_within) refl

within_more : (f n : ℕ) → 10 ≤ n → digits_within (suc f) n ≡ digits_within f (n / 10) ++ (digit_byte (n % 10) ∷ [])
unfolding digits_within
within_more f n h = rw (le-ltb n 10 h, digits_within) refl

-- what is allowed before the last digit changes nothing, once it is enough
within_enough : (f g n : ℕ) → n ≤ f → n ≤ g → digits_within f n ≡ digits_within g n
within_enough zero g n h k = within_one zero n (omega arith) ∙ sym (within_one g n (omega arith))
within_enough (suc f) zero n h k = within_one (suc f) n (omega arith) ∙ sym (within_one zero n (omega arith))
within_enough (suc f) (suc g) n h k =
    cases (ltb n 10) (λ t. let l = ltb-true n 10 t in within_one (suc f) n l ∙ sym (within_one (suc g) n l))
    (λ t. let l = ltb-false n 10 t in rw (within_more f n l, within_more g n l, within_enough f g (n / 10) (omega arith) (omega arith)))

pub one : (n : ℕ) → n < 10 → digits n ≡ digit_byte n ∷ []
unfolding digits
one n = within_one n n

pub more : (n : ℕ) → 10 ≤ n → digits n ≡ digits (n / 10) ++ (digit_byte (n % 10) ∷ [])
unfolding digits
more zero h = absurd (omega arith)
more (suc m) h = rw (within_more m (suc m) h, within_enough m (suc m / 10) (suc m / 10) (omega arith) (omega arith))

-- by the digits: of one, and of those before the last and the last
pub decimal : (P : ℕ → Type 0) → ((n : ℕ) → n < 10 → P n) → ((n : ℕ) → 10 ≤ n → P (n / 10) → P n) → (n : ℕ) → P n
decimal P o m n = go n n (le_refl n)
  where
    go : (f n : ℕ) → n ≤ f → P n
    go zero n h = o n (omega arith)
    go (suc f) n h = cases (ltb n 10) (λ t. o n (ltb-true n 10 t)) (λ t. let l = ltb-false n 10 t in m n l (go f (n / 10) (omega arith)))

pub one_length : (n : ℕ) → n < 10 → length (digits n) ≡ 1
one_length n h = ap length (one n h)

pub more_length : (n : ℕ) → 10 ≤ n → length (digits n) ≡ suc (length (digits (n / 10)))
more_length n h = rw (more n h, length-append) (omega arith)

-- there is one digit at least
digits_some : (n : ℕ) → 1 ≤ length (digits n)
digits_some n =
    cases (ltb n 10) (λ t. omega (arith, one_length n (ltb-true n 10 t)))
    (λ t. omega (arith, more_length n (ltb-false n 10 t)))

ten_pos : (k : ℕ) → 1 ≤ 10 ^ k
ten_pos zero = le_refl 1
ten_pos (suc k) = rw (pow-succ' 10 k) (omega (arith, ten_pos k))

pub digits_most : (k n : ℕ) → n < 10 ^ suc k → length (digits n) ≤ suc k
digits_most zero n h = omega (arith, one_length n h)
digits_most (suc k) n h =
    let p = rw (pow-succ' 10 (suc k)) at h in
    cases (ltb n 10) (λ t. omega (arith, one_length n (ltb-true n 10 t)))
    (λ t. omega (arith, more_length n (ltb-false n 10 t), digits_most k (n / 10) (omega arith)))

pub digits_least : (k n : ℕ) → 10 ^ k ≤ n → suc k ≤ length (digits n)
digits_least zero n h = omega (arith, digits_some n)
digits_least (suc k) n h =
    let p = rw (pow-succ' 10 k) at h in
    let t : 10 ≤ n = omega (arith, ten_pos k) in
    omega (arith, more_length n t, digits_least k (n / 10) (omega arith))

-- a number between two powers of ten
pub digits_counted : (k n : ℕ) → k < 20 → 10 ^ k ≤ n → n < 10 * 10 ^ k → Is (k + 1) (length (digits n)) 20
digits_counted k n b l u = record { is = omega (arith, digits_least k n l, digits_most k n (rw (pow-succ' 10 k) u)); most = omega arith }
