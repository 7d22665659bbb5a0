-- The worked task is accepted, and its numbers are these.
use Rattle.std.proofs.Common.{◌≡◌, ℕ, zero, suc, ◌≤◌, List, [], ◌∷◌, ℤ, pos, neg_ℤ, ◌≤ℤ◌, Ok, Err, Result, refl, subst, inl, inr, arith, rules}
use Rattle.std.proofs.lemmas.Int.{ints}
use Rattle.axis.specs.declared.model.AxisFault.{AxisFault}
use Rattle.axis.specs.Meaning.{Meaning, Remains}
use Rattle.axis.specs.Asks.{Paired, Ordered, Named, AllWithin, Valid, Put}
use Rattle.axis.specs.Theory.{EarliestValue, LatestValue}
use Rattle.axis.specs.Distance.{base, mend, distance, Open, Right}
use Rattle.axis.proofs.Tables.{right_earliest}
use Rattle.axis.proofs.Distances.{distance_right, distances_hold_lem, earliest_largest}
use Rattle.worked_axes.specs.Task.{worked, times, Spanned}

abbrev lows : List ℤ
lows = worked.lows

abbrev highs : List ℤ
highs = worked.highs

abbrev bare : Meaning
bare = record { lows = lows; highs = highs; bounds = [] }

ordered : Ordered lows highs
ordered zero h = search (rules, ints)
ordered (suc zero) h = search (rules, ints)
ordered (suc (suc zero)) h = search (rules, ints)
ordered (suc (suc (suc k))) h = absurd (omega arith)

paired : Paired lows highs
paired = (refl, omega arith)

within : AllWithin 3 worked.bounds
within b (zero, h, at) = subst (λ c. Named 3 c.p c.q × ((neg_ℤ (pos 4000) ≤ℤ c.d) × (c.d ≤ℤ pos 4000))) (at b) search (rules, ints)
within b (suc k, h, at) = absurd (omega arith)

opens : Open worked
unfolding base
opens = refl

right : Right worked (distance worked)
right = distance_right worked paired ordered within opens

remains : Remains worked
remains = (_, (right_earliest worked (distance worked) right).placed)

valid : Valid 90 worked
valid = record { paired = paired; ordered = ordered; within = within; few = omega arith; placed = remains }

pub put_done : (most : ℕ) (m after : Meaning) (r : Result Unit AxisFault) → 90 ≤ most → m ≡ bare → Put most m (record { p = 1; q = 2; d = neg_ℤ (pos 3) }) r after → (r ≡ Ok tt) × (after ≡ worked)
put_done most m after r room e h = done r (subst (λ k. Put most k (record { p = 1; q = 2; d = neg_ℤ (pos 3) }) r after) e h) where
  done : (r : Result Unit AxisFault) → Put most bare (record { p = 1; q = 2; d = neg_ℤ (pos 3) }) r after → (r ≡ Ok tt) × (after ≡ worked)
  done (Ok tt) h = (refl, h.1)
  done (Err f) (inl x, _) = absurd (x.0 (omega arith, omega arith))
  done (Err f) (inr (_, inl x), _) = absurd (x.0 (omega (arith, ints), omega (arith, ints)))
  done (Err f) (inr (_, inr (_, inl x)), _) = absurd (x.0 (omega arith))
  done (Err f) (inr (_, inr (_, inr (_, inl x))), _) = absurd (x.0 remains)
  done (Err f) (inr (_, inr (_, inr (_, inr x))), _) = absurd x.1

earliest_is : (r : ℕ) (x : ℤ) → r ≤ 3 → EarliestValue worked r x → x ≡ neg_ℤ (distance worked 0 r)
earliest_is r x h e =
    let k = ((distances_hold_lem 90 worked valid).largest 0 r (neg_ℤ x) (omega arith, h)).0 (earliest_largest worked r x e) in
    omega (arith, ints)

latest_is : (r : ℕ) (x : ℤ) → r ≤ 3 → LatestValue worked r x → x ≡ distance worked r 0
latest_is r x h e =
    ((distances_hold_lem 90 worked valid).largest r 0 x (h, omega arith)).0 (record {
      most = λ v w. let a = e.greatest v w in let z = w.above 0 (omega arith) in let u = w.below 0 (omega arith) in omega (arith, ints);
      had = (e.had.0, (e.had.1.0, let z = e.had.1.0.above 0 (omega arith) in let u = e.had.1.0.below 0 (omega arith) in omega (arith, ints, e.had.1.1)));
    })

abbrev span : ℕ → ℤ × ℤ
span k = (neg_ℤ (distance worked 0 k), distance worked k 0)

span_is : (k : ℕ) (m : Meaning) (x : ℤ × ℤ) → k ≤ 3 → m ≡ worked → Spanned m k (Ok x) → x ≡ span k
span_is k m x h e s =
    let t = subst (λ m. Spanned m k (Ok x)) e s in
    let a = earliest_is k x.0 h t.0 in
    let b = latest_is k x.1 h t.1 in
    λ i. (a i, b i)

times_are : span 1 ∷ span 2 ∷ span 3 ∷ [] ≡ times
unfolding base mend
times_are = refl

pub times_told : (m : Meaning) (x y z : ℤ × ℤ) → m ≡ worked → Spanned m 1 (Ok x) → Spanned m 2 (Ok y) → Spanned m 3 (Ok z) → x ∷ y ∷ z ∷ [] ≡ times
times_told m x y z e s t u =
    let a = span_is 1 m x (omega arith) e s in
    let b = span_is 2 m y (omega arith) e t in
    let c = span_is 3 m z (omega arith) e u in
    cc times_are
