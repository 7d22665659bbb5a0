use Rattle.std.proofs.Common.{ℕ, List, ◌∙◌, subst, arith}
use Rattle.std.proofs.lemmas.Result.{err_from_is_err_and}
use Rattle.axis.specs.Questions.{AllYes, FirstNo}
use Rattle.walk.specs.Fields.{entry_asks}
use Rattle.walk.proofs.Rows.{walked_more, walked_refused}
use Rattle.walk.proofs.walk.Walk.entries.Goals as goal

pub returns-in_err-entry-clause-answer : goal.returns-in_err-entry-clause-answer
returns-in_err-entry-clause-answer c =
    let p = err_from_is_err_and c.from_residual.result c.from_residual.ensures.1 in
    rw (p.1, p.2) (walked_refused _ _ _ _ _ _ c.loop.invariant.1 (omega arith) _ (subst (λ (b : List ℕ). FirstNo (entry_asks b c.loop.self.at) c.in_err-entry.field-0.0) c.loop.invariant.0 c.in_err-entry.ensures.answer))

pub loop-preserved : goal.loop-preserved
loop-preserved c = (c.in_ok-entry.ensures.same ∙ c.loop.invariant.0, walked_more _ _ _ _ _ _ c.loop.invariant.1 (omega arith) _ c.in_ok-entry.ensures.at (subst (λ (b : List ℕ). AllYes (entry_asks b c.loop.self.at)) c.loop.invariant.0 c.in_ok-entry.ensures.answer))
