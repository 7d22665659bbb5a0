-- A table with the shortest lengths: what mending it needs, and that it has them again after one bound more.
use Rattle.std.proofs.Common.{◌≡◌, ℕ, ◌+◌, ◌<◌, List, length, get_or, take, drop, ℤ, ◌+ℤ◌, sym, ap, ◌∙◌, subst, arith}
use Rattle.std.specs.Int.{int_min}
use Rattle.std.proofs.lemmas.Int.{ints}
use Rattle.std.proofs.lemmas.List.{take-append-drop, take_more}
use Rattle.std.proofs.ByRecursion.{has_append_left, has_get_or}
use Rattle.axis.specs.declared.model.Bound.{Bound}
use Rattle.axis.specs.Meaning.{Meaning, with_bound, lines}
use Rattle.axis.specs.Asks.{Paired, Ordered, Named, AllWithin}
use Rattle.axis.specs.Distance.{Table, base, mend, mended, distance, Open, Right}
use Rattle.axis.proofs.Distances.{distance_right, right_near, mended_push, open_parts}
use Rattle.ledger.specs.Means.{Standing}
use Rattle.matrix_axis.specs.Cells.{cell, Same, Kept, Closed}

pub right_closed : (m : Meaning) (t : Table) (rows : List (List ℤ)) → Right m t → Paired m.lows m.highs → Ordered m.lows m.highs → Same (lines m) rows t → Closed (lines m) (cell rows)
right_closed m t rows r paired ordered s = record {
  round = λ i j k hi hj hk.
      let o = r.round i j k hi hj hk in
      omega (arith, ints, s i k (hi, hk), s i j (hi, hj), s j k (hj, hk));
  near = λ i j hi hj.
      let n = right_near m t r paired ordered i j hi hj in
      (omega (arith, ints, n.0, s i j (hi, hj)), omega (arith, ints, n.1, s i j (hi, hj)));
}

-- mending reads only the lines that are named
pub same_mend : (n : ℕ) (before after : List (List ℤ)) (t : Table) (b : Bound) → Named n b.p b.q → Same n before t → Same n after (mend (cell before) b) → Same n after (mend t b)
unfolding mend
same_mend n before after t b h s e i j k =
    e i j k
    ∙ ap (λ x. int_min x (cell before i b.p +ℤ (b.d +ℤ cell before b.q j))) (s i j k)
    ∙ ap (λ x. int_min (t i j) (x +ℤ (b.d +ℤ cell before b.q j))) (s i b.p (k.0, h.0))
    ∙ ap (λ x. int_min (t i j) (t i b.p +ℤ (b.d +ℤ x))) (s b.q j (h.1, k.1))

pub kept_put : (m after : Meaning) (b : Bound) (old new : List (List ℤ)) → after ≡ with_bound m b → Named (lines m) b.p b.q → Kept old m → Same (lines m) new (mend (cell old) b) → Kept new after
kept_put m after b old new e h k s =
    subst (Kept new) (sym e)
    (λ i j n. same_mend (lines m) old new (distance m) b h k s i j n ∙ ap (λ (t : Table). t i j) (sym (mended_push (base m.lows m.highs) m.bounds b)))

-- the table with the k oldest bounds
module _ (m : Meaning) (s : Standing m) (k : ℕ) where
  abbrev oldest : Meaning
  oldest = record { lows = m.lows; highs = m.highs; bounds = take k m.bounds }

  oldest_right : Right oldest (distance oldest)
  oldest_right =
      let e = take-append-drop k m.bounds in
      distance_right oldest s.0.paired s.0.ordered
      (λ b h. subst (AllWithin (lines m)) (sym e) s.0.within b (has_append_left (take k m.bounds) (drop k m.bounds) b h))
      (open_parts (base m.lows m.highs) (take k m.bounds) (drop k m.bounds) (subst (λ bs. Open (record { lows = m.lows; highs = m.highs; bounds = bs })) (sym e) s.1)).0

  pub oldest_closed : (rows : List (List ℤ)) → Same (lines m) rows (distance oldest) → Closed (lines m) (cell rows)
  oldest_closed rows e = right_closed oldest (distance oldest) rows oldest_right s.0.paired s.0.ordered e

  pub oldest_more : (d : Bound) (before after : List (List ℤ)) → k < length m.bounds → Same (lines m) before (distance oldest) → Same (lines m) after (mend (cell before) (get_or m.bounds k d)) → Same (lines m) after (mended (base m.lows m.highs) (take (k + 1) m.bounds))
  oldest_more d before after h was e i j n =
      let b = get_or m.bounds k d in
      same_mend (lines m) before after (distance oldest) b (s.0.within b (has_get_or m.bounds k d h)).0 was e i j n
      ∙ ap (λ (t : Table). t i j) (sym (mended_push (base m.lows m.highs) (take k m.bounds) b))
      ∙ ap (λ bs. mended (base m.lows m.highs) bs i j) (sym (take_more m.bounds k d h))
