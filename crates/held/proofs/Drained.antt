-- The items that a refill took are those of the chain, read by v.
use Rattle.std.proofs.Common.{◌≡◌, List, Option, map, map-id, sym, ◌∙◌}
use Rattle.std.specs.Iterator.{Drains}
use Rattle.std.proofs.lemmas.Iterator.{YieldsList, items_from_drains}

module _ {S A : Type 0} {steps : S → Option A → S → Type 0} {s : S} (xs : List A) (ran : Drains steps s xs) where
  pub drained_by : {B : Type 0} {v : A → B} {all : List B} → YieldsList steps v s all → map v xs ≡ all
  drained_by road = items_from_drains xs (ran.1.0, ran.1.1, λ _. (ran.0, ran.1.2)) road

  pub drained : {all : List A} → YieldsList steps (λ x. x) s all → xs ≡ all
  drained road = sym (map-id xs) ∙ drained_by road
