-- What decides a packing: a reset in each direction, and then what the descent answers.
use Rattle.std.proofs.Common.{◌≡◌, ℕ, List, [], map, ℤ, Ok, Err, Result, vec_items, ap, subst, ◌∙◌}
use Rattle.axis.specs.Meaning.{Meaning}
use Rattle.stack.specs.declared.elements.Trial.{Trial}
use Rattle.boxes.specs.declared.model.Place.{Place}
use Rattle.boxes.specs.declared.model.Size.{Size}
use Rattle.boxes.specs.declared.model.Direction.{Direction}
use Rattle.boxes.specs.declared.model.Direction.TheVariants.{Time, Platform}
use Rattle.moves.specs.Meanings.{Meanings}
use Rattle.moves.specs.Moves.{ResetOn}
use Rattle.packing.specs.Packs.{Packed}
use Rattle.bench.specs.declared.packings.Packing.{Packing}
use Rattle.bench.specs.declared.packings.Ranged.{Ranged}
use Rattle.bench.specs.Ranges.{range_of, axis_of, lined}
use Rattle.bench.specs.Decided.{Answers, Decided}

abbrev bare : List ℤ → List ℤ → Meaning
bare lows highs = record { lows = lows; highs = highs; bounds = [] }

lists_are : {a b c d : List ℤ} → a ≡ c → b ≡ d → bare a b ≡ bare c d
lists_are l h = λ i. bare (l i) (h i)

pub lined_by_reset : (d : Direction) (bs : List Ranged) (m after : Meanings) (lows highs : List ℤ) (u : Unit)
    → ResetOn d m lows highs (Ok u) after → lows ≡ map (λ b. (range_of d b).low) bs → highs ≡ map (λ b. (range_of d b).high) bs → after ≡ lined d bs m
lined_by_reset Time bs m after lows highs u r l h =
    let e : after.time ≡ axis_of Time bs = r.0.1 ∙ lists_are l h in
    λ i. record { time = e i; platform = r.1 i }
lined_by_reset Platform bs m after lows highs u r l h =
    let e : after.platform ≡ axis_of Platform bs = r.0.1 ∙ lists_are l h in
    λ i. record { time = r.1 i; platform = e i }

answered : {N : Type 0} (m : Meanings) (sizes : List Size) (old new : List Place) (before after : List Trial) (r : Result ℕ N) → Packed m sizes old new before after r → Answers m.time m.platform sizes r
answered m sizes old new before after (Ok tries) p = (_, (_, p.arranged.arrangement))
answered m sizes old new before after (Err none) p = p.none

-- the steps were reset first, and then the metres
pub decided_by_pack : {N : Type 0} (k : Packing) (m first second : Meanings) (sizes : List Size) (old new : List Place) (before after : List Trial) (r : Result ℕ N)
    → first ≡ lined Time (vec_items k.boxes) m → second ≡ lined Platform (vec_items k.boxes) first → sizes ≡ map (λ b. b.size) (vec_items k.boxes)
    → Packed second sizes old new before after r → Decided k r
decided_by_pack k m first second sizes old new before after r d e f p =
    let both = e ∙ ap (lined Platform (vec_items k.boxes)) d in
    subst (λ s. Answers (axis_of Time (vec_items k.boxes)) (axis_of Platform (vec_items k.boxes)) s r) f
    (subst (λ a. Answers a.time a.platform sizes r) both (answered second sizes old new before after r p))
