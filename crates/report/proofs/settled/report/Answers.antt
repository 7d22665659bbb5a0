use Rattle.std.proofs.Common.{◌≤◌, length, rules}
use Rattle.boxes.proofs.Ordered.{pairs_few}
use Rattle.report.proofs.Told.{none_reported, plan_reported}
use Rattle.report.proofs.settled.report.Goals as goal

pub returns-in-Ok-clause-text : goal.returns-in-Ok-clause-text
returns-in-Ok-clause-text g c = plan_reported c.args.sheet.now _ _ c.print_plan.result _ _ _ _ _ _ (search rules) c.in-Ok.ensures.answer c.print_plan.ensures

pub returns-in-Err-clause-text : goal.returns-in-Err-clause-text
returns-in-Err-clause-text g c =
    let few : length c.args.sheet.now.stays ≤ 12 = search rules in
    none_reported c.args.sheet.now _ _ _ _ _ few (pairs_few _ few) _ c.in-Err.ensures.answer.0 (search rules)
