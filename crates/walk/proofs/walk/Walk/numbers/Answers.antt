use Rattle.std.proofs.Common.{◌∷◌, [], List, ℕ, ◌∙◌, subst, arith}
use Rattle.axis.specs.Questions.{AllYes}
use Rattle.walk.specs.Fields.{field}
use Rattle.walk.proofs.Rows.{walked_more, walked_end, evenly}
use Rattle.walk.proofs.walk.Walk.numbers.Goals as goal

pub loop-preserved : goal.loop-preserved
loop-preserved c = (c.in_ok-number.ensures.same ∙ c.loop.invariant.0, walked_more _ _ _ _ _ _ c.loop.invariant.1 (omega arith) _ c.in_ok-number.ensures.at (subst (λ (b : List ℕ). AllYes (field b 2 c.loop.self.at ∷ [])) c.loop.invariant.0 c.in_ok-number.ensures.answer))

pub returns-clause-at : goal.returns-clause-at
returns-clause-at c = walked_end _ _ _ _ _ _ c.loop.invariant.1 (omega arith) ∙ evenly 2 c.args.count c.args.self.now.at
