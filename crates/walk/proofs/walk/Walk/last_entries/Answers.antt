use Rattle.std.proofs.Common.{◌∙◌, length, inl, refl, sym, ap}
use Rattle.std.proofs.lemmas.Result.{err_from_is_err_and}
use Rattle.axis.proofs.Asked.{first_no_append, first_no_after, all_yes_append}
use Rattle.walk.proofs.Rows.{evenly}
use Rattle.walk.proofs.walk.Walk.last_entries.Goals as goal

pub returns-in_err-entries-clause-answer : goal.returns-in_err-entries-clause-answer
returns-in_err-entries-clause-answer c =
    let p = err_from_is_err_and c.from_residual.result c.from_residual.ensures.1 in
    rw (p.1, p.2) (first_no_append _ _ _ c.in_err-entries.ensures.answer)

pub returns-then-self-clause-answer : goal.returns-then-self-clause-answer
returns-then-self-clause-answer c = first_no_after _ _ _ c.in_ok-entries.ensures.answer (inl (λ e. c.if-self.true (c.in_ok-entries.ensures.at ∙ e ∙ ap length (sym c.in_ok-entries.ensures.same)), rw c.in_ok-entries.ensures.at refl))

pub returns-clause-answer : goal.returns-clause-answer
returns-clause-answer c = all_yes_append _ _ c.in_ok-entries.ensures.answer (sym c.in_ok-entries.ensures.at ∙ c.if-self.false ∙ ap length c.in_ok-entries.ensures.same, tt)

pub returns-clause-at : goal.returns-clause-at
returns-clause-at c = ap length (sym c.in_ok-entries.ensures.same) ∙ sym c.if-self.false ∙ c.in_ok-entries.ensures.at ∙ evenly 5 c.args.count c.args.self.now.at
