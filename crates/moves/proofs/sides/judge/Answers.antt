use Rattle.std.proofs.Common.{arith}
use Rattle.std.proofs.lemmas.Int.{ints}
use Rattle.moves.proofs.sides.judge.Goals as goal

pub returns-then-reach-bound : goal.returns-then-reach-bound
returns-then-reach-bound g c v p k =
    let a = (c.reach.ensures (c.requires.0.1, c.requires.0.0)).most v p in
    omega (arith, ints)

pub returns-then-reach-bound-2 : goal.returns-then-reach-bound-2
returns-then-reach-bound-2 g c v p =
    let a = (c.reach-2.ensures c.requires.0).most v p in
    omega (arith, ints)
