use Rattle.text.proofs.Tells.{plan_text_tells_lem}
use Rattle.text.proofs.theory.plan_text_tells.Goals as goal

pub returns : goal.returns
returns c = plan_text_tells_lem
