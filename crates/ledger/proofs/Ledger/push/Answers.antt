use Rattle.ledger.proofs.Sounds.{sound_push}
use Rattle.ledger.proofs.Ledger.push.Goals as goal

pub invariant_of-self : goal.invariant_of-self
invariant_of-self c = sound_push _ _ _ _ c.self.view_is c.self.invariant _ c.push.ensures c.requires.within c.requires.space

pub returns-clause-sound : goal.returns-clause-sound
returns-clause-sound c s = sound_push _ _ _ _ c.self.view_is c.self.invariant _ c.push.ensures c.requires.within c.requires.space
