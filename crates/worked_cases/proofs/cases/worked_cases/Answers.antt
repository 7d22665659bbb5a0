use Rattle.worked_cases.proofs.Worked.{worked_cases_hold}
use Rattle.worked_cases.proofs.cases.worked_cases.Goals as goal

pub returns : goal.returns
returns c = worked_cases_hold
