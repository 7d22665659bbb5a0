use Rattle.std.proofs.Common.{◌∙◌, subst}
use Rattle.list_axis.specs.Rows.{EdgesKept}
use Rattle.list_axis.proofs.Ends.{kept_complete}
use Rattle.list_axis.proofs.lengths.lengths_from.Goals as goal

pub returns : goal.returns
returns c = kept_complete c.pass.new.self _ _ (c.pass.ensures.ledger ∙ c.loop.invariant.0) (c.pass.ensures.start ∙ c.loop.invariant.1) (subst (λ m. EdgesKept m c.pass.new.self.row) c.loop.invariant.0 (c.pass.ensures.kept c.loop-test.false))
