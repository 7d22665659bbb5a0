use Rattle.ledger.proofs.Sounds.{sound_pop, open_pop}
use Rattle.ledger.proofs.Ledger.pop.Goals as goal

pub invariant_of-self : goal.invariant_of-self
invariant_of-self c = sound_pop _ _ _ _ c.self.view_is c.self.invariant _ c.pop.ensures

pub returns-clause-sound : goal.returns-clause-sound
returns-clause-sound c s = sound_pop _ _ _ _ c.self.view_is c.self.invariant _ c.pop.ensures

pub returns-clause-opens : goal.returns-clause-opens
returns-clause-opens c o = open_pop _ _ _ _ c.self.view_is _ c.pop.ensures o
