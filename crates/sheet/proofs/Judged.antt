-- What a packing of the stays' sizes tells of the journal's plans.
use Rattle.std.proofs.Common.{◌≡◌, ℕ, ◌≤◌, List, length, take, Ok, Err, Result, refl, subst, inl, inr}
use Rattle.std.proofs.lemmas.List.{length-map}
use Rattle.std.specs.Result.{result_or}
use Rattle.stack.specs.declared.elements.Trial.{Trial}
use Rattle.boxes.specs.declared.model.Size.{Size}
use Rattle.boxes.specs.declared.model.Place.{Place}
use Rattle.boxes.specs.Order.{pairs}
use Rattle.boxes.specs.Arranged.{step_of, metre_of}
use Rattle.faults.specs.declared.model.SheetFault.{SheetFault}
use Rattle.faults.specs.declared.model.SheetFault.TheVariants.{NoPlan}
use Rattle.moves.specs.Meanings.{Meanings}
use Rattle.packing.specs.Packs.{Found, NotFound, Packed}
use Rattle.journal.specs.Stays.{size_of}
use Rattle.journal.specs.Journal.{Journal, sizes_of}
use Rattle.journal.specs.Steps.{settle, plan, refused, Settled, Step}
use Rattle.sheet.specs.Standing.{axes_of}

module _ (k : Journal) (old new : List Place) (before after : List Trial) where
  module _ {N : Type 0} (m : Meanings) (sizes : List Size) where
    found : (r : Result ℕ N) (n : ℕ) → result_or r (Err NoPlan) ≡ Ok n → Packed m sizes old new before after r → Found m sizes old new before after
    found (Ok x) n or packed = packed
    found (Err x) n or packed = absurd (cc)

    not_found : (r : Result ℕ N) (f : SheetFault) → result_or r (Err NoPlan) ≡ Err f → Packed m sizes old new before after r → NotFound m sizes old new before after × (f ≡ NoPlan)
    not_found (Ok x) f or packed = absurd (cc)
    not_found (Err x) f or packed = (packed, cc)

  module _ (places : length k.stays ≤ length old) (trials : pairs (length k.stays) ≤ length before) where
    settled_plan : Settled k (take (length k.stays) new) (take (pairs (length k.stays)) after)
        → Step k (settle (length old) (length before)) (plan (take (length k.stays) new) (take (pairs (length k.stays)) after)) k
    settled_plan settled =
        ((places, (trials, ((step_of (take (length k.stays) new), (metre_of (take (length k.stays) new), settled.arrangement)), tt))), ((take (length k.stays) new, (take (pairs (length k.stays)) after, (refl, settled))), refl))

    module _ {N : Type 0} (m : Meanings) (sizes : List Size) (held : m ≡ axes_of k) (same : sizes ≡ sizes_of k) (r : Result ℕ N) (packed : Packed m sizes old new before after r) where
      pub plan_found : (n : ℕ) → result_or r (Err NoPlan) ≡ Ok n → Step k (settle (length old) (length before)) (plan (take (length k.stays) new) (take (pairs (length k.stays)) after)) k
      plan_found n or =
          let own = rw (held, same) at (found m sizes r n or packed) in
          settled_plan (subst (λ c. Settled k (take c new) (take (pairs c) after)) (length-map k.stays size_of) own.arranged)

      pub none_found : (f : SheetFault) → result_or r (Err NoPlan) ≡ Err f → Step k (settle (length old) (length before)) (refused f) k
      none_found f or =
          let h = not_found m sizes r f or packed in
          let own = rw (held, same) at h.0 in
          (inr (places, inr (trials, inl ((λ x. own.none x.0 x.1.0 x.1.1), h.1))), refl)
