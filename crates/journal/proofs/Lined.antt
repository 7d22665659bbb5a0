-- The ranges of good stays: paired and in order; and what they take up.
use Rattle.std.proofs.Common.{◌≡◌, ℕ, ◌<◌, ◌≤◌, All, List, map, length, get_or, ℤ, pos, sym, ap, ◌∙◌, subst, arith}
use Rattle.std.proofs.lemmas.List.{length-map, get_or-map}
use Rattle.std.proofs.lemmas.Int.{ints}
use Rattle.axis.specs.Asks.{InOrder, Paired, Ordered}
use Rattle.boxes.specs.declared.model.Size.{Size}
use Rattle.boxes.specs.declared.model.Direction.{Direction}
use Rattle.boxes.specs.declared.model.Direction.TheVariants.{Time, Platform}
use Rattle.boxes.specs.Overlaps.{Sized}
use Rattle.journal.specs.declared.model.Stay.{Stay}
use Rattle.journal.specs.Stays.{size_of, no_stay, GoodStay}
use Rattle.journal.specs.Journal.{low_on, high_on}
use Rattle.journal.specs.Asks.{GoodExtents}
use Rattle.journal.specs.declared.tables.Ranges.{Ranges}
use Rattle.journal.specs.Tables.{Lined}

module _ (span platform : ℕ) (good_extents : GoodExtents span platform) where
  in_order : (d : Direction) (s : Stay) → GoodStay span platform s → InOrder (low_on d s) (high_on d span platform s)
  in_order Time s g = (omega (arith, ints), (omega (arith, ints), omega (arith, ints)))
  in_order Platform s g = (omega (arith, ints), (omega (arith, ints), omega (arith, ints)))

  module _ (ss : List Stay) (good : All (GoodStay span platform) ss) where
    lined_ordered : (d : Direction) (lows highs : List ℤ) → lows ≡ map (low_on d) ss → highs ≡ map (high_on d span platform) ss → Ordered lows highs
    lined_ordered d lows highs el eh k h =
        let less : k < length ss = omega (arith, ap length el, length-map ss (low_on d)) in
        let a : get_or lows k (pos 0) ≡ low_on d (get_or ss k no_stay) = ap (λ xs. get_or xs k (pos 0)) el ∙ get_or-map (low_on d) ss k no_stay (pos 0) less in
        let b : get_or highs k (pos 0) ≡ high_on d span platform (get_or ss k no_stay) = ap (λ xs. get_or xs k (pos 0)) eh ∙ get_or-map (high_on d span platform) ss k no_stay (pos 0) less in
        subst (λ (x : ℤ). InOrder x (get_or highs k (pos 0))) (sym a) (subst (InOrder (low_on d (get_or ss k no_stay))) (sym b) (in_order d (get_or ss k no_stay) (good k no_stay less)))

    lined_paired : (d : Direction) (lows highs : List ℤ) → length ss ≤ 12 → lows ≡ map (low_on d) ss → highs ≡ map (high_on d span platform) ss → Paired lows highs
    lined_paired d lows highs few el eh =
        let a = length-map ss (low_on d) in
        let b = length-map ss (high_on d span platform) in
        let x = ap length el in
        let y = ap length eh in
        (omega arith, omega arith)

    pub lined : (d : Direction) (r : Ranges) → length ss ≤ 12 → r.lows ≡ map (low_on d) ss → r.highs ≡ map (high_on d span platform) ss → Lined d span platform ss r
    lined d r few lows highs = record { lows = lows; highs = highs; paired = lined_paired d r.lows r.highs few lows highs; ordered = lined_ordered d r.lows r.highs lows highs }

    pub all_sized : (sizes : List Size) → sizes ≡ map size_of ss → Sized sizes
    all_sized sizes e k h =
        let less : k < length ss = omega (arith, ap length e, length-map ss size_of) in
        let s : get_or sizes k (record { steps = 0; metres = 0 }) ≡ size_of (get_or ss k no_stay) = ap (λ xs. get_or xs k (record { steps = 0; metres = 0 })) e ∙ get_or-map size_of ss k no_stay (record { steps = 0; metres = 0 }) less in
        let g = good k no_stay less in
        let P : Size → Type 0 = λ z. ((1 ≤ z.steps) × (z.steps ≤ 2880)) × ((1 ≤ z.metres) × (z.metres ≤ 2880)) in
        subst P (sym s) ((omega arith, omega arith), (omega arith, omega arith))
