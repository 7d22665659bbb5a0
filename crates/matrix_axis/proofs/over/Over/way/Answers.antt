use Rattle.std.proofs.Common.{arith}
use Rattle.std.proofs.lemmas.Int.{ints}
use Rattle.matrix_axis.proofs.over.Over.way.Goals as goal

pub overflow_add-result-2 : goal.overflow_add-result-2
overflow_add-result-2 c =
    let short = c.args.self.now.short in
    let start = short.to_start c.args.i c.requires.0 in
    let end = short.from_end c.args.j c.requires.1 in
    omega (arith, ints)

pub returns : goal.returns
returns c =
    let short = c.args.self.now.short in
    let start = short.to_start c.args.i c.requires.0 in
    let end = short.from_end c.args.j c.requires.1 in
    omega (arith, ints)
