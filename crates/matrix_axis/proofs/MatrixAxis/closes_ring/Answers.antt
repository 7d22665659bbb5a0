use Rattle.std.proofs.Common.{inl, inr, arith}
use Rattle.std.proofs.lemmas.Int.{ints}
use Rattle.std.proofs.lemmas.Bool.{cases_Bool}
use Rattle.matrix_axis.proofs.MatrixAxis.closes_ring.Goals as goal

pub returns : goal.returns
returns c = (λ h. omega (arith, ints), λ h. elim (cases_Bool _) [ inl below ↦ below | inr above ↦ absurd (omega (arith, ints)) ])
