-- Where the numbers of some bytes stand, and what stands at a place, as the code goes down the rows; the contracts within the crate speak of this, and no promise to callers.
-- Assumes nothing.
use Rattle.std.specs.Prelude.{ℕ, zero, suc, ◌+◌, ◌*◌, ◌<◌, Bool, true, ◌&&◌, ◌≡◌, List, map, ltb, length, drop, get_or, None, Result, Ok, Err}
use Rattle.basis.specs.Refusal.{Examined}
use Rattle.basis.specs.Search.{first_fail}
use Rattle.basis.specs.declared.Refusal.TheVariants.{Damaged}
use Rattle.groups.specs.Decode.{decode}
use Rattle.groups.specs.Numbers.{value_of, bytes_of, offset_after, extra}
use Rattle.book.specs.Columns.{series}
use Rattle.book.specs.Book.{good}
use Rattle.bookfile.specs.declared.places.Step.{Step}

-- the number at a place, and the place of the next: 0 and the same place of a damaged one
unfoldable pub value_at : List ℕ → ℕ → ℕ
value_at book at = value_of (decode (drop at book))

unfoldable pub next_at : List ℕ → ℕ → ℕ
next_at book at = at + bytes_of (decode (drop at book))

unfoldable pub step_at : List ℕ → ℕ → Step
step_at book at = record { value = value_at book at; next = next_at book at }

-- the n bytes from a place on are numbers of one byte each
unfoldable pub single : List ℕ → ℕ → ℕ → Bool
single book at zero = true
single book at (suc n) = single book at n && ltb (get_or book (at + n) 0) 128

-- the place of the number j of those that start at k
unfoldable pub place_of : List ℕ → ℕ → ℕ → ℕ
place_of book k j = k + offset_after j (drop k book)

-- where a walk over some numbers ended: after them, or at the first that is damaged
abbrev pub place_in : Result ℕ ℕ → ℕ
place_in (Ok place) = place
place_in (Err place) = place

-- and what is refused then: what follows, or the damage
abbrev pub walk_damage : List ℕ → Result ℕ ℕ → Examined
walk_damage book (Ok place) = extra place (drop place book)
walk_damage book (Err place) = Err (Damaged place)

-- none of the n numbers that start at k is damaged
abbrev pub Sound : List ℕ → ℕ → ℕ → Type 0
Sound book k n = (j : ℕ) → j < n → decode (drop (place_of book k j) book) ≡ None → ⊥

-- the places of the first numbers of 25 columns of n numbers, which start at k
unfoldable pub starts : List ℕ → ℕ → ℕ → List ℕ
starts book k n = series (λ c. place_of book k (n * c)) 0 25

-- the numbers at some places, and the places one number on
unfoldable pub row_at : List ℕ → List ℕ → List ℕ
row_at book places = map (value_at book) places

unfoldable pub moved : List ℕ → List ℕ → List ℕ
moved book places = map (next_at book) places

-- the places r numbers on, and the row there
unfoldable pub moved_by : List ℕ → List ℕ → ℕ → List ℕ
moved_by book places zero = places
moved_by book places (suc r) = moved book (moved_by book places r)

unfoldable pub row_after : List ℕ → List ℕ → ℕ → List ℕ
row_after book places r = row_at book (moved_by book places r)

-- the lowest bad one of n rows that start at some places
unfoldable pub good_after : List ℕ → List ℕ → ℕ → Bool
good_after book places r = good (row_after book places r)

unfoldable pub first_bad_at : List ℕ → List ℕ → ℕ → ℕ
first_bad_at book places n = first_fail (good_after book places) 0 n

-- number c of n rows is put, and nothing else
pub record PutColumn (n c : ℕ) (numbers before after : List ℕ) : Type 0 where
  pub long : length after ≡ length before
  pub here : (r : ℕ) → r < n → get_or after (25 * r + c) 0 ≡ get_or numbers r 0
  pub others : (k : ℕ) → ((r : ℕ) → k ≡ 25 * r + c → ⊥) → get_or after k 0 ≡ get_or before k 0
  pub rest : drop (25 * n) after ≡ drop (25 * n) before
