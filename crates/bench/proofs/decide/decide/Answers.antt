use Rattle.std.proofs.Common.{◌∙◌}
use Rattle.bench.proofs.Deciding.{decided_by_pack}
use Rattle.bench.proofs.decide.decide.Goals as goal

pub returns-2 : goal.returns-2
returns-2 g c = decided_by_pack c.args.packing.now c.args.axes.now _ _ _ _ _ _ _ _ c.in_ok-reset.ensures.after c.in_ok-reset-2.ensures.after (c.as_slice-2.ensures.value ∙ c.in_ok-sizes.ensures) c.pack.ensures.answer
