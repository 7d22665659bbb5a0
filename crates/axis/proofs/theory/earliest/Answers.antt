use Rattle.std.proofs.Common.{refl, subst, arith}
use Rattle.std.proofs.lemmas.Int.{ints}
use Rattle.axis.specs.Theory.{EarliestValue}
use Rattle.axis.proofs.theory.earliest.Goals as goal

pub returns : goal.returns
returns g c =
    let reach = c.in_ok-reach.ensures in
    (reach.named.1, subst (EarliestValue (g.A.Axis.means c.args.axis.now) c.args.line) (omega (arith, ints, reach.near)) (reach.earliest refl))
