use Rattle.std.proofs.Common.{rules}
use Rattle.text.specs.Texts.{fault_text}
use Rattle.text.proofs.printer.print_fault.Goals as goal

pub returns : goal.returns
returns c = c.fill.ensures (fault_text c.args.fault) (λ p q put. search rules)
