-- Laws of bytes written after others: there is room for each, and together they stand.
-- Assumes nothing.
use mathlib.Core.Path.{◌≡◌, ◌∙◌, sym}
use mathlib.Core.List.{List, [], ◌++◌}
use Prim.Native.Nat.{ℕ, ◌+◌, ◌≤◌}
use native.Mathlib.Nat.{zero-add}
use native.Mathlib.Omega.{arith}
use lib.ListN.{length, drop, length-append}
use lib.Seq.{sets, length-sets, sets-eq}
use Rattle.report.specs.declared.text.Text.{Text}
use Rattle.report.specs.Put.{Room, Put}
use Rattle.report.proofs.Stores.{sets_append}

pub room_first : {text : Text} {s : List ℕ} (t : List ℕ) → Room (s ++ t) text → Room s text
room_first t h = record { fits = omega (arith, rw length-append at h.fits) }

module _ {s : List ℕ} {a b : Text} (p : Put s a b) where
  pub room_then : {t : List ℕ} → Room (s ++ t) a → Room t b
  room_then h = record { fits = rw (p.next, p.now, length-sets) (omega (arith, rw length-append at h.fits)) }

  pub put_then : {t : List ℕ} {c : Text} → Put t b c → Put (s ++ t) a c
  put_then {t = t} o =
      record {
        lent = o.lent ∙ p.lent;
        next = rw length-append (omega (arith, p.next, o.next));
        now = o.now ∙ rw (p.next, p.now) (sym (sets_append a.out.now a.at s t));
      }

-- the bytes that are left, added to a text, make the whole
pub record Unfinished (rest : List ℕ) (text : Text) (all : List ℕ) (before : Text) : Type 0 where
  pub lent : text.out.ghost_name ≡ before.out.ghost_name
  pub made : sets text.out.now text.at rest ≡ sets before.out.now before.at all
  pub ends : text.at + length rest ≡ before.at + length all
  pub same : length text.out.now ≡ length before.out.now

module _ {text before : Text} {s all : List ℕ} (t : List ℕ) (u : Unfinished (s ++ t) text all before) where
  pub unfinished_room : Room all before → Room s text
  unfinished_room h = record { fits = omega (arith, rw length-append at u.ends) }

  pub unfinished_next : {next : Text} → Put s text next → Unfinished t next all before
  unfinished_next p =
      record {
        lent = p.lent ∙ u.lent;
        made = rw (p.next, p.now, ← sets_append) u.made;
        ends = rw p.next (omega (arith, rw length-append at u.ends));
        same = rw (p.now, length-sets) u.same;
      }

pub unfinished_end : {text before : Text} {all : List ℕ} → Unfinished [] text all before → Put all before text
unfinished_end u = record { lent = u.lent; next = omega arith; now = u.made }

-- a text that begins at the front of a buffer: there is room for what is no longer, and what is added stands at the front
module _ {s l : List ℕ} {a : Text} (h : length s ≤ length l) (e : a.at ≡ 0) (o : a.out.now ≡ l) where
  pub room_front : Room s a
  room_front = record { fits = rw (e, o, zero-add) h }

  pub put_front : {b : Text} → Put s a b → (b.at ≡ length s) × (b.out.now ≡ s ++ drop (length s) l)
  put_front p = (omega (arith, p.next), p.now ∙ rw (e, o) (simp zero-add at (sets-eq s l 0 (rw zero-add h))))
