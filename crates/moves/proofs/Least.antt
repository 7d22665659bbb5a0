-- The earliest values of all lines are the least placement.
use Rattle.std.proofs.Common.{◌≡◌, ℕ, zero, suc, ◌+◌, ◌<◌, ◌≤◌, ◌≢◌, List, map, length, get_or, set, ℤ, pos, neg_ℤ, sym, ◌∙◌, subst, add-one, arith, below_more}
use Rattle.std.proofs.lemmas.Int.{ints}
use Rattle.std.proofs.lemmas.List.{get_or-set_same, get_or-set_other, length-map, get_or-map}
use Rattle.boxes.specs.declared.model.Place.{Place}
use Rattle.axis.specs.Meaning.{Meaning, lines, at_line, Largest, Earliest}
use Rattle.axis.specs.Asks.{Valid}
use Rattle.boxes.specs.Arranged.{step_of, metre_of}
use Rattle.moves.specs.Meanings.{Meanings}
use Rattle.moves.proofs.Settled.{nowhere, Settled}
use Rattle.axis.specs.Theory.{EarliestValue}
use Rattle.axis.proofs.Distances.{distances_hold_lem, earliest_largest}

module _ (most : ℕ) (m : Meaning) (valid : Valid most m) (vs : List ℤ) (size : lines m ≡ length vs) (each : (k : ℕ) → k < length vs → EarliestValue m (k + 1) (get_or vs k (pos 0))) where
  from_zero : (r : ℕ) → r ≤ lines m → Largest m 0 r (neg_ℤ (at_line vs r))
  from_zero zero h = ((distances_hold_lem most m valid).largest 0 0 (pos 0) (omega arith, omega arith)).1 (sym ((distances_hold_lem most m valid).itself 0 (omega arith)))
  from_zero (suc r) h = earliest_largest m (suc r) (get_or vs r (pos 0)) (subst (λ i. EarliestValue m i (get_or vs r (pos 0))) (add-one r) (each r (omega arith)))

  pub values_earliest : Earliest m (at_line vs)
  values_earliest =
      let e = (distances_hold_lem most m valid).earliest (λ r. neg_ℤ (at_line vs r)) from_zero in
      record {
        placed = record {
          above = λ r h. let a = e.placed.above r h in omega (arith, ints);
          below = λ r h. let a = e.placed.below r h in omega (arith, ints);
          keeps = λ b h. let a = e.placed.keeps b h in omega (arith, ints);
        };
        least = λ w p r h. let a = e.least w p r h in omega (arith, ints);
      }

-- one box more is settled
module _ (m : Meanings) (ps : List Place) (k : ℕ) (p : Place) where
  more : (P : ℕ → Place → Type 0) → k < length ps → ((i : ℕ) → i < k → P i (get_or ps i nowhere)) → P k p → (i : ℕ) → i < k + 1 → P i (get_or (set ps k p) i nowhere)
  more P h below here =
      below_more (λ i. P i (get_or (set ps k p) i nowhere)) k
      (λ i l. let ne : i ≢ k = omega arith in subst (P i) (sym (get_or-set_other ps k i p nowhere ne)) (below i l))
      (subst (P k) (sym (get_or-set_same ps k p nowhere h)) here)

  pub settled_more : k < length ps → Settled m k ps → EarliestValue m.time (k + 1) (pos p.step) × EarliestValue m.platform (k + 1) (pos p.metre) → Settled m (k + 1) (set ps k p)
  settled_more h s here = record {
    steps = more (λ i x. EarliestValue m.time (i + 1) (pos x.step)) h s.steps here.0;
    metres = more (λ i x. EarliestValue m.platform (i + 1) (pos x.metre)) h s.metres here.1;
  }

-- the numbers of all places
pub places_earliest : (most : ℕ) (m : Meaning) → Valid most m → (f : Place → ℤ) (ps : List Place) → lines m ≡ length ps → ((k : ℕ) → k < length ps → EarliestValue m (k + 1) (f (get_or ps k nowhere))) → Earliest m (at_line (map f ps))
places_earliest most m valid f ps size each =
    values_earliest most m valid (map f ps) (size ∙ sym (length-map ps f))
    (λ k h. let l : k < length ps = omega (arith, length-map ps f) in subst (EarliestValue m (k + 1)) (sym (get_or-map f ps k nowhere (pos 0) l)) (each k l))

-- all boxes are settled, on axes n that mean m
pub settled_all : (ht hp : ℕ) (n m : Meanings) (ps : List Place) (k : ℕ) → n ≡ m → Valid ht n.time → Valid hp n.platform → Settled n k ps → length ps ≤ k → lines m.time ≡ length ps → lines m.platform ≡ length ps
    → Earliest m.time (step_of ps) × Earliest m.platform (metre_of ps)
settled_all ht hp n m ps k e valid_time valid_platform s all timed placed =
    let v = subst (λ (x : Meanings). Valid ht x.time) e valid_time in
    let w = subst (λ (x : Meanings). Valid hp x.platform) e valid_platform in
    let s = subst (λ x. Settled x k ps) e s in (
      places_earliest ht m.time v (λ p. pos p.step) ps timed (λ i h. s.steps i (omega arith)),
      places_earliest hp m.platform w (λ p. pos p.metre) ps placed (λ i h. s.metres i (omega arith)),
    )
