use Rattle.journal.specs.Tables.{told}
use Rattle.sheet.proofs.Holding.{back_held, back_gives}
use Rattle.sheet.proofs.Making.{made_less}
use Rattle.sheet.proofs.Sheet.withdraw.Goals as goal

pub returns-in_err-back : goal.returns-in_err-back
returns-in_err-back g c = absurd (back_gives (told c.self.inside.stays c.self.inside.entries) _ c.in-Some.ensures _ _ c.self.invariant.0 _ c.in_err-back.ensures)

pub invariant_of-self-2 : goal.invariant_of-self-2
invariant_of-self-2 g c =
    let k = told c.self.inside.stays c.self.inside.entries in
    rw c.pop.ensures (back_held k _ c.in-Some.ensures _ _ c.self.invariant.0 c.in_ok-back.ensures, made_less k _ c.in-Some.ensures c.self.invariant.1)
