use Rattle.std.proofs.Common.{arith}
use Rattle.std.proofs.lemmas.Result.{err_from_is_err_and}
use Rattle.reader.proofs.Binding.{entering_more, entering_refused}
use Rattle.reader.proofs.entries.bind_all.Goals as goal

pub loop-k-preserved : goal.loop-k-preserved
loop-k-preserved g c = entering_more c.args.image.now c.args.count c.args.offset _ c.loop-k.k _ c.loop-k.invariant (omega arith) c.in_ok-bind_one.ensures.0 _ c.in_ok-bind_one.ensures.1

pub returns-in_err-bind_one : goal.returns-in_err-bind_one
returns-in_err-bind_one g c =
    let p = err_from_is_err_and c.from_residual.result c.from_residual.ensures.1 in
    rw (p.1, p.2) (entering_refused c.args.image.now c.args.count c.args.offset _ c.loop-k.k _ c.loop-k.invariant (omega arith) _ c.in_err-bind_one.ensures.0)
