use Rattle.std.proofs.Common.{◌≡◌, rules}
use Rattle.std.proofs.lemmas.Result.{err_from_is_err_and}
use Rattle.journal.specs.Tables.{told}
use Rattle.sheet.proofs.Judged.{plan_found, none_found}
use Rattle.sheet.proofs.Sheet.settle.Goals as goal

pub returns-clause-answer : goal.returns-clause-answer
returns-clause-answer g c =
    rw (← c.self.view_is)
    (plan_found (told c.self.inside.stays c.self.inside.entries) _ _ _ _ (search rules) (search rules) c.self.inside.axes _ c.self.invariant.0 c.sizes.ensures.value _ c.pack.ensures.answer c.in_ok-or.field-0 (search rules))

pub returns-in_err-or-clause-answer : goal.returns-in_err-or-clause-answer
returns-in_err-or-clause-answer g c =
    let p = err_from_is_err_and c.from_residual.result c.from_residual.ensures.1 in
    let e : p.0 ≡ c.in_err-or.field-0.0 = search rules in
    rw (p.1, e, ← c.self.view_is)
    (none_found (told c.self.inside.stays c.self.inside.entries) _ _ _ _ (search rules) (search rules) c.self.inside.axes _ c.self.invariant.0 c.sizes.ensures.value _ c.pack.ensures.answer c.in_err-or.field-0.0 (search rules))
