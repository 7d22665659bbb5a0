use Rattle.std.proofs.Common.{rules, arith}
use Rattle.reader.proofs.Offsets.{offset_more, offset_all}
use Rattle.reader.proofs.loads.stay_offset.Goals as goal

pub loop-preserved : goal.loop-preserved
loop-preserved c = (omega arith, (omega arith, offset_more c.args.image.now c.args.number c.loop.counter c.loop.at _ (omega arith) (search rules) c.loop.invariant.1.1))

pub returns : goal.returns
returns c = offset_all c.args.image.now c.args.number c.loop.counter c.loop.at _ (omega arith) c.loop.invariant.1.1
