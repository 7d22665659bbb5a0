use Rattle.std.proofs.Common.{inl, refl}
use Rattle.answer.proofs.Refusals.{refused_image}
use Rattle.answer.proofs.texts.answer.Goals as goal

pub returns-in-Err-clause-text : goal.returns-in-Err-clause-text
returns-in-Err-clause-text g c = (_, (inl (c.in-Err.fault, (refused_image c.args.image.now c.args.sheet.now c.read.new.sheet _ c.in-Err.ensures, refl)), c.print_fault.ensures))
