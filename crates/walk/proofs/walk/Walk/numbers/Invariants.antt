use Rattle.std.proofs.Common.{◌≡◌, ◌+◌, [], ◌∷◌}
use Rattle.walk.specs.Fields.{field}
use Rattle.walk.proofs.Rows.{Walked}
use Rattle.walk.proofs.walk.Walk.numbers.Given as goal

abbrev pub invariant-loop : goal.invariant-loop
invariant-loop l = (l.self.image.now ≡ l.fn.self.image.now) × Walked (λ o. field l.fn.self.image.now 2 o ∷ []) (λ o. o + 2) l.count l.fn.self.at l.counter l.self.at
