use Rattle.std.proofs.Common.{rules}
use Rattle.text.specs.Texts.{no_plan_text}
use Rattle.text.proofs.printer.print_no_plan.Goals as goal

pub returns : goal.returns
returns c = c.fill.ensures (no_plan_text) (λ p q put. search rules)
