use Rattle.std.proofs.Common.{ℕ, List, ◌∙◌, ap, subst, arith}
use Rattle.std.proofs.lemmas.Result.{err_from_is_err_and}
use Rattle.axis.specs.Questions.{AllYes, FirstNo}
use Rattle.walk.specs.Fields.{stay_asks, after_stay}
use Rattle.walk.specs.Stays.{part_at, stay_in}
use Rattle.walk.proofs.Rows.{walked_more, walked_refused}
use Rattle.walk.proofs.Slots.{read_more}
use Rattle.walk.proofs.walk.Walk.stays.Goals as goal

pub returns-in_err-stay-clause-answer : goal.returns-in_err-stay-clause-answer
returns-in_err-stay-clause-answer c =
    let p = err_from_is_err_and c.from_residual.result c.from_residual.ensures.1 in
    rw (p.1, p.2) (walked_refused _ _ _ _ _ _ c.loop-slot.invariant.1.0 (omega arith) _ (subst (λ (b : List ℕ). FirstNo (stay_asks b c.loop-slot.self.at) c.in_err-stay.field-0.0) c.loop-slot.invariant.0 c.in_err-stay.ensures.answer))

pub loop-slot-preserved : goal.loop-slot-preserved
loop-slot-preserved c =
    let same = c.loop-slot.invariant.0 in
    let at = c.loop-slot.self.at in
    let far = c.in_ok-stay.ensures.at ∙ ap (λ b. after_stay b at) same in
    let told = c.stay_of.ensures ∙ ap stay_in c.in_ok-stay.ensures.part ∙ ap (λ b. stay_in (part_at b at)) same in
    let yes = subst (λ (b : List ℕ). AllYes (stay_asks b at)) same c.in_ok-stay.ensures.answer in (
      c.in_ok-stay.ensures.same ∙ same,
      (
        walked_more _ _ _ _ _ _ c.loop-slot.invariant.1.0 (omega arith) _ far yes,
        read_more _ _ _ _ _ _ (omega arith) (omega arith) c.loop-slot.invariant.1.1 _ _ told far,
      ),
    )
