-- A ledger's ranges are in order, and after one bound came or went it is sound as before.
use Rattle.std.proofs.Common.{◌≡◌, ◌<◌, List, [], ◌∷◌, ◌++◌, length, Some, None, Option, sym, ap, ◌∙◌, subst, inl, inr, arith}
use Rattle.std.specs.List.{ContainsAt}
use Rattle.std.proofs.lemmas.List.{length_push}
use Rattle.std.proofs.ByRecursion.{has_append_left, has_push_cases}
use Rattle.axis.specs.declared.model.Bound.{Bound}
use Rattle.axis.specs.declared.model.Range.{Range}
use Rattle.axis.specs.Meaning.{Meaning, lines}
use Rattle.axis.specs.Asks.{Within}
use Rattle.axis.specs.Distance.{Open}
use Rattle.axis.proofs.Distances.{open_parts}
use Rattle.held.specs.Newest.{Parted}
use Rattle.ledger.specs.Means.{meaning, Sound}

module _ (m : Meaning) (ranges : List Range) (before after : List Bound) (was : meaning ranges before ≡ m) where
  module _ (s : Sound (meaning ranges before)) where
    pub sound_push : (b : Bound) → after ≡ before ++ b ∷ [] → Within (lines m) b → length m.bounds < 90 → Sound (meaning ranges after)
    sound_push b e w few = subst (λ bs. Sound (meaning ranges bs)) (sym e) (record {
      paired = s.paired;
      ordered = s.ordered;
      within = λ c x. elim (has_push_cases before b c x) [ inl y ↦ s.within c y | inr y ↦ subst (Within (length (meaning ranges before).lows)) y (subst (λ x. Within (lines x) b) (sym was) w) ];
      few = omega (arith, length_push before b, ap (λ (x : Meaning). length x.bounds) was);
    })

    pub sound_pop : (newest : Option Bound) → Parted before newest after → Sound (meaning ranges after)
    sound_pop (Some b) e = record {
      paired = s.paired;
      ordered = s.ordered;
      within = λ c x. s.within c (subst (λ bs. ContainsAt bs c) (sym e) (has_append_left after (b ∷ []) c x));
      few = let f = s.few in omega (arith, length_push after b, ap (length {A = Bound}) e);
    }
    sound_pop None e = subst (λ bs. Sound (meaning ranges bs)) (e.0 ∙ sym e.1) s

  pub open_pop : (newest : Option Bound) → Parted before newest after → Open m → Open (meaning ranges after)
  open_pop newest e o = parted newest e (subst Open (sym was) o)
    where
      parted : (newest : Option Bound) → Parted before newest after → Open (meaning ranges before) → Open (meaning ranges after)
      parted (Some b) e o = (open_parts _ after (b ∷ []) (subst (λ bs. Open (meaning ranges bs)) e o)).0
      parted None e o = subst (λ bs. Open (meaning ranges bs)) (e.0 ∙ sym e.1) o
