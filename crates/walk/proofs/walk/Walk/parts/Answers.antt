use Rattle.std.proofs.Common.{ap, ◌∙◌, subst}
use Rattle.std.proofs.lemmas.Result.{err_from_is_err_and}
use Rattle.axis.proofs.Asked.{first_no_append}
use Rattle.walk.specs.Fields.{Asked, rest_asks}
use Rattle.walk.specs.Walked.{Answered}
use Rattle.walk.proofs.Leading.{answered_after}
use Rattle.walk.proofs.walk.Walk.parts.Goals as goal

pub returns-in_err-stays-clause-answer : goal.returns-in_err-stays-clause-answer
returns-in_err-stays-clause-answer c =
    let p = err_from_is_err_and c.from_residual.result c.from_residual.ensures.1 in
    rw (p.1, p.2) (first_no_append _ _ _ c.in_err-stays.ensures.answer)

pub returns-clause-answer : goal.returns-clause-answer
returns-clause-answer c =
    let same = ap (λ b. rest_asks b c.stays.new.self.at) c.in_ok-stays.ensures.same ∙ ap (rest_asks c.args.self.now.image.now) c.in_ok-stays.ensures.at in
    answered_after _ _ _ c.in_ok-stays.ensures.answer (subst (λ (qs : Asked). Answered qs c.rest.result) same c.rest.ensures.answer)
