use Rattle.std.proofs.Common.{inl, inr, ap, arith}
use Rattle.std.proofs.lemmas.Int.{ints}
use Rattle.std.proofs.lemmas.Bool.{cases_Bool}
use Rattle.axis.specs.Distance.{distance}
use Rattle.ledger.specs.Lengths.{entry}
use Rattle.list_axis.proofs.ListAxis.closes_ring.Goals as goal

pub returns : goal.returns
returns c =
    let b = c.args.bound in
    let told = c.lengths_from-back.ensures b.p c.requires.0.0 in
    let near = told.near in
    let start = ap (λ i. distance c.args.self.now.ledger i b.p) c.from.ensures in
    let end = ap (entry c.lengths_from-back.result) c.from-2.ensures in
    (λ h. omega (arith, ints, told.value), λ h. elim (cases_Bool _) [ inl below ↦ below | inr above ↦ absurd (omega (arith, ints, told.value)) ])
