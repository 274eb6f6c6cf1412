-- `Text::number` meets its contract. The invariant: with the digits of the rest before what is stored, the number stands. Assumes nothing.
use mathlib.Core.Path.{◌≡◌}
use Prim.Native.Nat.{◌+◌, ◌≤◌, ◌<◌}
use lib.ListN.{length}
use lib.Seq.{sets}
use Rattle.report.specs.Digits.{digits}
use Rattle.report.proofs.text.Text.number.Given as goal

abbrev pub invariant-loop-rest : goal.invariant-loop-rest
invariant-loop-rest l =
    record {
      stored : sets l.self.out.now l.self.at (digits l.rest) ≡ sets l.initial.self.out.now l.self.at (digits l.n);
      begin : l.self.at ≡ l.initial.self.at;
      lent : l.self.out.ghost_name ≡ l.initial.self.out.ghost_name;
      digits : l.place ≡ l.self.at + length (digits l.rest);
      within : l.place ≤ l.end;
      fits : l.end < length l.self.out.now;
    }

abbrev pub decreases-loop-rest : goal.decreases-loop-rest
decreases-loop-rest l = l.rest
