use Rattle.std.proofs.Common.{rules}
use Rattle.text.specs.Texts.{plan_text}
use Rattle.text.proofs.printer.print_plan.Goals as goal

pub returns : goal.returns
returns c = c.fill.ensures (plan_text c.args.places.now) (λ p q put. search rules)
