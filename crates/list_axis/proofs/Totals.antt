-- A length that falls makes the total fall.
use Rattle.std.proofs.Common.{ℕ, zero, suc, ◌<◌, List, [], ◌∷◌, length, get_or, set, ℤ, pos, negsuc, neg_ℤ, ◌≤ℤ◌, ◌<ℤ◌, arith}
use Rattle.std.proofs.lemmas.Int.{ints}
use Rattle.list_axis.specs.Rows.{above, total}

pub above_less : (x y : ℤ) → neg_ℤ (pos 2880) ≤ℤ x → x <ℤ y → above x < above y
above_less (pos a) (pos b) h l = omega (arith, ints)
above_less (pos a) (negsuc b) h l = absurd (omega (arith, ints))
above_less (negsuc a) (pos b) h l = omega (arith, ints)
above_less (negsuc a) (negsuc b) h l = omega (arith, ints)

pub total_set : (xs : List ℤ) (i : ℕ) (x : ℤ) → i < length xs → above x < above (get_or xs i (pos 0)) → total (set xs i x) < total xs
total_set [] i x h l = absurd (omega arith)
total_set (y ∷ ys) zero x h l = omega arith
total_set (y ∷ ys) (suc i) x h l = let a = total_set ys i x (omega arith) l in omega arith
