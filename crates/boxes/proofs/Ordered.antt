-- The order of trials has every pair of boxes, and nothing else.
use Rattle.std.proofs.Common.{◌≡◌, ℕ, zero, suc, ◌+◌, ◌-◌, ◌*◌, ◌/◌, ◌<◌, ◌≤◌, List, map, length, get_or, ℤ, Some, None, Option, sym, refl, ap, ◌∙◌, subst, inl, inr, suc-mul, mul-le-mul, mul-suc, mul-div_cancel, arith}
use Rattle.std.specs.List.{range_with_len, ContainsAt, AllByRecursion}
use Rattle.std.proofs.lemmas.List.{length-append, length-map, get_or-map}
use Rattle.std.proofs.ByRecursion.{All-append, All-from_get_or, All-get_or, all-has, All-weaker, has_append_left, has_append_right}
use Rattle.std.proofs.lemmas.List.FromFn.{length-map-range_with_len, get_or-map-range_with_len}
use Rattle.std.proofs.lemmas.Bool.{cases_eq}
use Rattle.stack.specs.declared.elements.Word.{Word}
use Rattle.stack.specs.declared.elements.Trial.{Trial}
use Rattle.boxes.specs.declared.model.Size.{Size}
use Rattle.boxes.specs.Overlaps.{Overlap, Free}
use Rattle.boxes.specs.Order.{Pair, pairs, pairs_from, trial_order, pair_of, no_trial}
use Rattle.boxes.specs.Arranged.{HoldsTrial, KeepsWords}
use Rattle.boxes.proofs.Lie.{word_free}

abbrev with : ℕ → ℕ → Pair
with i j = record { first = i; second = j }

twice_length : (i c : ℕ) → length (pairs_from i c) * 2 ≡ suc c * c
twice_length i zero = refl
twice_length i (suc c) =
    let e = length-append (map (with i) (range_with_len (i + 1) (suc c))) (pairs_from (i + 1) c) in
    let f = length-map-range_with_len (with i) (i + 1) (suc c) in
    let h = twice_length (i + 1) c in
    omega (arith, mul-suc (suc (suc c)) c, suc-mul (suc c) c, suc-mul c c)

pub length_order : (n : ℕ) → length (trial_order n) ≡ pairs n
length_order zero = refl
length_order (suc m) =
    let e : suc m - 1 ≡ m = omega arith in
    let two : 0 < 2 = omega arith in
    rw e (sym (mul-div_cancel (length (pairs_from 1 m)) two) ∙ ap (λ k. k / 2) (twice_length 1 m))

-- twelve boxes make 66 pairs, and fewer boxes no more
pub pairs_few : (n : ℕ) → n ≤ 12 → pairs n ≤ 66
pairs_few n few =
    let less : n - 1 ≤ 11 = omega arith in
    let product : n * (n - 1) ≤ 12 * 11 = mul-le-mul few less in
    omega arith

-- those of the boxes from i to i + c
from_has : (i c a b : ℕ) → i ≤ a → a < b → b ≤ i + c → ContainsAt (pairs_from i c) (with a b)
from_has i zero a b ha hab hb = absurd (omega arith)
from_has i (suc c) a b ha hab hb =
    let row = map (with i) (range_with_len (i + 1) (suc c)) in
    elim (cases_eq i a) [
      | inl e ↦ has_append_left row (pairs_from (i + 1) c) (with a b) (
        b - (i + 1),
        (let l = length-map-range_with_len (with i) (i + 1) (suc c) in omega arith),
        (λ d. get_or-map-range_with_len (with i) (i + 1) (suc c) (b - (i + 1)) b d (omega arith) (omega arith) ∙ ap (λ k. with k b) e),
      )
      | inr ne ↦ has_append_right row (pairs_from (i + 1) c) (with a b) (from_has (i + 1) c a b (omega arith) hab (omega arith))
    ]

abbrev Within : ℕ → ℕ → Pair → Type 0
Within i n p = (i ≤ p.first) × (p.first < p.second) × (p.second ≤ n)

from_within : (i c n : ℕ) → n ≡ i + c → AllByRecursion (Within i n) (pairs_from i c)
from_within i zero n e = tt
from_within i (suc c) n e =
    let row = map (with i) (range_with_len (i + 1) (suc c)) in
    All-append (Within i n) row (pairs_from (i + 1) c)
    (All-from_get_or (Within i n) row (with 0 0) (λ k h.
    let l = length-map-range_with_len (with i) (i + 1) (suc c) in
    subst (Within i n) (sym (get_or-map-range_with_len (with i) (i + 1) (suc c) k (i + 1 + k) (with 0 0) (omega arith) refl)) (omega arith, omega arith, omega arith)))
    (All-weaker (Within (i + 1) n) (Within i n) (λ p w. (omega arith, w.1, w.2)) (pairs_from (i + 1) c) (from_within (i + 1) c n (omega arith)))

pub order_has : (n i j : ℕ) → 1 ≤ i → i < j → j ≤ n → ContainsAt (trial_order n) (record { first = i; second = j })
order_has n i j hi hij hj = from_has 1 (n - 1) i j hi hij (omega arith)

pub order_within : (n : ℕ) (p : Pair) → ContainsAt (trial_order n) p → (1 ≤ p.first) × (p.first < p.second) × (p.second ≤ n)
order_within zero p h = let z = h.1 in absurd (omega arith)
order_within (suc m) p h = all-has (Within 1 (suc m)) (pairs_from 1 (suc m - 1)) p (from_within 1 (suc m - 1) (suc m) (omega arith)) h

module _ (sizes : List Size) (x y : ℕ → ℤ) where
  trial_free : (i j : ℕ) (word : Option Word) → HoldsTrial sizes x y i j word → ¬ (Overlap sizes x y i j)
  trial_free i j None h = absurd h
  trial_free i j (Some w) h = word_free sizes x y i j w h

  pub all_words_free : (ts : List Trial) → map pair_of ts ≡ trial_order (length sizes) → KeepsWords sizes x y ts → Free sizes x y
  all_words_free ts e h i j hi hij hj =
      let (k, l, same) = subst (λ ps. ContainsAt ps (with i j)) (sym e) (order_has (length sizes) i j hi hij hj) in
      let n : k < length ts = omega (arith, length-map ts pair_of) in
      let t = get_or ts k no_trial in
      let p : pair_of t ≡ with i j = sym (get_or-map pair_of ts k no_trial (with 0 0) n) ∙ same (with 0 0) in
      let free = trial_free t.i t.j t.word (All-get_or (λ t. HoldsTrial sizes x y t.i t.j t.word) ts k no_trial n h) in
      subst (λ p. ¬ (Overlap sizes x y p.first p.second)) p free
