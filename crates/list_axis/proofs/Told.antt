-- What a length tells in a ledger that is open.
use Rattle.std.proofs.Common.{◌≡◌, ℕ, ◌≤◌, ℤ, sym, subst, arith}
use Rattle.std.proofs.lemmas.Int.{ints}
use Rattle.axis.specs.Meaning.{Meaning, lines}
use Rattle.axis.specs.Asks.{Tightest}
use Rattle.axis.specs.Distance.{distance}
use Rattle.axis.proofs.Distances.{right_near, right_tightest}
use Rattle.ledger.specs.Means.{Standing}
use Rattle.ledger.proofs.Open.{ledger_right}
use Rattle.list_axis.specs.Rows.{Length}

pub shortest_length : (m : Meaning) → Standing m → (p q : ℕ) (x : ℤ) → p ≤ lines m → q ≤ lines m → x ≡ distance m p q → Length m p q x
shortest_length m s p q x hp hq e =
    let right = ledger_right m s in
    record {
      value = e;
      near = let n = right_near m (distance m) right s.0.paired s.0.ordered p q hp hq in (omega (arith, ints), omega (arith, ints));
      tightest = subst (Tightest m p q) (sym e) (right_tightest m (distance m) right p q (hp, hq));
    }
