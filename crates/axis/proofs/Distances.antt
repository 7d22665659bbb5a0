-- The computed lengths are right wherever no ring is negative, and none is where a placement exists.
use Rattle.std.proofs.Common.{◌≡◌, ℕ, zero, suc, ◌≤◌, true, T, List, [], ◌∷◌, ◌++◌, length, ℤ, pos, ◌+ℤ◌, ◌-ℤ◌, neg_ℤ, ◌≤ℤ◌, ◌<ℤ◌, Ok, Err, Result, sym, refl, ◌∙◌, subst, inl, inr, append_assoc, append-nil, arith}
use lib.Signed.{le_z, le_z_yes}
use Rattle.std.specs.List.{ContainsAt, AllByRecursion}
use Rattle.std.proofs.lemmas.Int.{ints, by_lt_z}
use Rattle.std.proofs.lemmas.Bool.{and_parts, and_from}
use Rattle.std.proofs.ByRecursion.{has_push_cases, all_has_itself, All-weaker}
use Rattle.axis.specs.declared.model.Bound.{Bound}
use Rattle.axis.specs.declared.model.AxisFault.{AxisFault}
use Rattle.axis.specs.Meaning.{Meaning, with_bound, lines, at_line, Placement, Remains, Largest, Earliest, Shortest, bound, down, up}
use Rattle.axis.specs.Asks.{Paired, InOrder, Ordered, Named, Within, AllWithin, Valid, Tightest, Tight}
use Rattle.axis.specs.Distance.{Table, base, mend, mended, distance, open_from, Open, Right}
use Rattle.axis.specs.Theory.{Distances, DistancesHold, EarliestValue, LatestValue, ReachOf}
use Rattle.axis.proofs.Walks.{walk_kept, ring_refutes}
use Rattle.axis.proofs.Tables.{right_base, right_mend, right_ring, right_shortest, right_largest, right_earliest}

abbrev with_bounds : Meaning → List Bound → Meaning
with_bounds m bs = record { lows = m.lows; highs = m.highs; bounds = m.bounds ++ bs }

abbrev bare : Meaning → Meaning
bare m = record { lows = m.lows; highs = m.highs; bounds = [] }

-- line 0 included
pub in_order : (lows highs : List ℤ) → Paired lows highs → Ordered lows highs → (r : ℕ) → r ≤ length lows → InOrder (at_line lows r) (at_line highs r)
in_order lows highs p o zero h = (omega (arith, ints), (omega (arith, ints), omega (arith, ints)))
in_order lows highs p o (suc r) h = o r (omega arith)

-- the test of one bound
opens : (x : ℤ) → le_z (pos 0) x ≡ true → pos 0 ≤ℤ x
opens x e = le_z_yes (subst T (sym e) tt)

open_head : (t : Table) (b : Bound) (bs : List Bound) → open_from t (b ∷ bs) ≡ true → (pos 0 ≤ℤ (b.d +ℤ t b.q b.p)) × (open_from (mend t b) bs ≡ true)
open_head t b bs o = let x = and_parts _ _ o in (opens _ x.0, x.1)

open_cons : (t : Table) (b : Bound) (bs : List Bound) → pos 0 ≤ℤ (b.d +ℤ t b.q b.p) → open_from (mend t b) bs ≡ true → open_from t (b ∷ bs) ≡ true
open_cons t b bs h o = and_from _ _ (let z : le_z (pos 0) (b.d +ℤ t b.q b.p) ≡ true = grind (arith, ints) in z) o

pub all_within : (n : ℕ) (bs : List Bound) → AllWithin n bs → AllByRecursion (Within n) bs
all_within n bs h = All-weaker (ContainsAt bs) (Within n) h bs (all_has_itself bs)

right_mended : (m : Meaning) (t : Table) (bs : List Bound) → Right m t → AllByRecursion (Within (lines m)) bs → open_from t bs ≡ true → Right (with_bounds m bs) (mended t bs)
right_mended m t [] r n o = subst (λ l. Right (record { lows = m.lows; highs = m.highs; bounds = l }) t) (sym (append-nil m.bounds)) r
right_mended m t (b ∷ bs) r n o =
    let x = open_head t b bs o in
    subst (λ l. Right (record { lows = m.lows; highs = m.highs; bounds = l }) (mended (mend t b) bs)) (append_assoc m.bounds (b ∷ []) bs)
    (right_mended (with_bound m b) (mend t b) bs (right_mend m t r b n.0.0.0 n.0.0.1 x.0) n.1 x.1)

base_right : (m : Meaning) → Paired m.lows m.highs → Ordered m.lows m.highs → Right (bare m) (base m.lows m.highs)
base_right m paired ordered = right_base m.lows m.highs (λ r h. (in_order m.lows m.highs paired ordered r h).1.0)

pub distance_right : (m : Meaning) → Paired m.lows m.highs → Ordered m.lows m.highs → AllWithin (lines m) m.bounds → Open m → Right m (distance m)
distance_right m paired ordered within o =
    right_mended (bare m) (base m.lows m.highs) m.bounds (base_right m paired ordered) (all_within (lines m) m.bounds within) o

open_kept : (m : Meaning) (t : Table) (bs : List Bound) → Right m t → AllByRecursion (Within (lines m)) bs → (v : ℕ → ℤ) → Placement m v → AllByRecursion (λ b. (v b.p -ℤ v b.q) ≤ℤ b.d) bs → open_from t bs ≡ true
open_kept m t [] r n v w k = refl
open_kept m t (b ∷ bs) r n v w k =
    let a = walk_kept m v w b.q b.p _ (r.walk b.q b.p n.0.0.1 n.0.0.0) in
    let o : pos 0 ≤ℤ (b.d +ℤ t b.q b.p) = omega (arith, ints, k.0) in
    open_cons t b bs o
    (open_kept (with_bound m b) (mend t b) bs (right_mend m t r b n.0.0.0 n.0.0.1 o) n.1 v
    (record { above = w.above; below = w.below; keeps = λ c h. elim (has_push_cases m.bounds b c h) [ inl x ↦ w.keeps c x | inr e ↦ subst (λ x. (v x.p -ℤ v x.q) ≤ℤ x.d) e k.0 ] })
    k.1)

pub open_placed : (m : Meaning) → Paired m.lows m.highs → Ordered m.lows m.highs → AllWithin (lines m) m.bounds → Remains m → Open m
open_placed m paired ordered within (v, w) =
    open_kept (bare m) (base m.lows m.highs) m.bounds (base_right m paired ordered) (all_within (lines m) m.bounds within) v
    (record { above = w.above; below = w.below; keeps = λ b h. let z = h.1 in absurd (omega arith) })
    (All-weaker (ContainsAt m.bounds) (λ b. (v b.p -ℤ v b.q) ≤ℤ b.d) (λ b h. w.keeps b h) m.bounds (all_has_itself m.bounds))

pub valid_right : (most : ℕ) (m : Meaning) → Valid most m → Right m (distance m)
valid_right most m v = distance_right m v.paired v.ordered v.within (open_placed m v.paired v.ordered v.within v.placed)

-- a shortest length is that of every shortest walk
shortest_one : (m : Meaning) (p q : ℕ) (s t : ℤ) → Shortest m p q s → Shortest m p q t → s ≡ t
shortest_one m p q s t a b = let x = a.least t b.walk in let y = b.least s a.walk in omega (arith, ints)

largest_one : (m : Meaning) (p q : ℕ) (s t : ℤ) → Largest m p q s → Largest m p q t → s ≡ t
largest_one m p q s t a b =
    let x = b.most a.had.0 a.had.1.0 in
    let y = a.most b.had.0 b.had.1.0 in
    omega (arith, ints, a.had.1.1, b.had.1.1)

module _ (m : Meaning) (t : Table) (r : Right m t) where
  -- what is shortest is also largest
  pub shortest_tightest : (p q : ℕ) (l : ℤ) → Named (lines m) p q → Shortest m p q l → Tightest m p q l
  shortest_tightest p q l h s = record {
    largest = subst (Largest m p q) (shortest_one m p q (t p q) l (right_shortest m t r p q h.0 h.1) s) (right_largest m t r p q h.0 h.1);
    shortest = s;
  }

  pub right_tightest : (p q : ℕ) → Named (lines m) p q → Tightest m p q (t p q)
  right_tightest p q h = shortest_tightest p q (t p q) h (right_shortest m t r p q h.0 h.1)

  -- a bound that is not too tight for the way back leaves a placement
  pub right_remains : (b : Bound) → Named (lines m) b.p b.q → pos 0 ≤ℤ (b.d +ℤ t b.q b.p) → Remains (with_bound m b)
  right_remains b h o = (_, (right_earliest (with_bound m b) (mend t b) (right_mend m t r b h.0 h.1 o)).placed)

  pub right_refuses : (b : Bound) → Named (lines m) b.p b.q → (b.d +ℤ t b.q b.p) <ℤ pos 0 → ¬ (Remains (with_bound m b))
  right_refuses b h o = ring_refutes (with_bound m b) (right_ring m t r b h.0 h.1 o)

  right_distances : ((p q : ℕ) → t p q ≡ distance m p q) → Distances m
  right_distances same = record {
    largest = λ p q l h. (
      (λ x. largest_one m p q l (t p q) x (right_largest m t r p q h.0 h.1) ∙ same p q),
      (λ e. subst (Largest m p q) (same p q ∙ sym e) (right_largest m t r p q h.0 h.1)),
    );
    shortest = λ p q l h. (
      (λ x. shortest_one m p q l (t p q) x (right_shortest m t r p q h.0 h.1) ∙ same p q),
      (λ e. subst (Shortest m p q) (same p q ∙ sym e) (right_shortest m t r p q h.0 h.1)),
    );
    itself = λ p h. sym (same p p) ∙ r.self p h;
    refuses = λ b h. (
      (λ none. by_lt_z (b.d +ℤ t b.q b.p) (pos 0) (right_ring m t r b h.0 h.1) (λ o. absurd (none (right_remains b h o)))),
      ring_refutes (with_bound m b),
    );
    earliest = λ u h. earliest_from u (λ i hi. largest_one m 0 i (u i) (t 0 i) (h i hi) (right_largest m t r 0 i (omega arith) hi));
  } where
    earliest_from : (u : ℕ → ℤ) → ((i : ℕ) → i ≤ lines m → u i ≡ t 0 i) → Earliest m (λ i. neg_ℤ (u i))
    earliest_from u e =
        let x = right_earliest m t r in
        record {
          placed = record {
            above = λ i hi. let a = x.placed.above i hi in omega (arith, ints, e i hi);
            below = λ i hi. let a = x.placed.below i hi in omega (arith, ints, e i hi);
            keeps = λ b h. let k = r.tight b.p b.q b.d (bound b h) in let a = x.placed.keeps b h in omega (arith, ints, e b.p k.0, e b.q k.1);
          };
          least = λ w k i hi. let a = x.least w k i hi in omega (arith, ints, e i hi);
        }

pub distances_hold_lem : DistancesHold
distances_hold_lem most m v = right_distances m (distance m) (valid_right most m v) (λ p q. refl)

-- lengths lie within the ranges, so 16 bits hold every sum
pub right_near : (m : Meaning) (t : Table) → Right m t → Paired m.lows m.highs → Ordered m.lows m.highs → (i j : ℕ) → i ≤ lines m → j ≤ lines m → (neg_ℤ (pos 2880) ≤ℤ t i j) × (t i j ≤ℤ pos 2880)
right_near m t r paired ordered i j hi hj =
    let oi = in_order m.lows m.highs paired ordered i hi in
    let oj = in_order m.lows m.highs paired ordered j hj in
    let x = (right_earliest m t r).placed in
    let a = x.above i hi in
    let b = x.below j hj in
    let c = walk_kept m _ x i j _ (r.walk i j hi hj) in
    let d = r.tight i 0 _ (down i hi) in
    let e = r.tight 0 j _ (up j hj) in
    let f = r.round i 0 j hi (omega arith) hj in
    (omega (arith, ints), omega (arith, ints))

-- one bound more
pub mended_push : (t : Table) (bs : List Bound) (b : Bound) → mended t (bs ++ b ∷ []) ≡ mend (mended t bs) b
mended_push t [] b = refl
mended_push t (c ∷ bs) b = mended_push (mend t c) bs b

pub open_push : (t : Table) (bs : List Bound) (b : Bound) → open_from t bs ≡ true → pos 0 ≤ℤ (b.d +ℤ mended t bs b.q b.p) → open_from t (bs ++ b ∷ []) ≡ true
open_push t [] b o h = open_cons t b [] h refl
open_push t (c ∷ bs) b o h = let x = open_head t c bs o in open_cons t c (bs ++ b ∷ []) x.0 (open_push (mend t c) bs b x.1 h)

-- what stands without the newer bounds, and what they need
pub open_parts : (t : Table) (bs cs : List Bound) → open_from t (bs ++ cs) ≡ true → (open_from t bs ≡ true) × (open_from (mended t bs) cs ≡ true)
open_parts t [] cs o = (refl, o)
open_parts t (b ∷ bs) cs o =
    let x = open_head t b (bs ++ cs) o in
    let y = open_parts (mend t b) bs cs x.1 in
    (open_cons t b bs x.0 y.0, y.1)

largest_near : (most : ℕ) (m : Meaning) → Valid most m → (p q : ℕ) (t : ℤ) → Named (lines m) p q → Largest m p q t → (neg_ℤ (pos 2880) ≤ℤ t) × (t ≤ℤ pos 2880)
largest_near most m v p q t h l =
    let r = valid_right most m v in
    let n = right_near m (distance m) r v.paired v.ordered p q h.0 h.1 in
    let e = largest_one m p q t (distance m p q) l (right_largest m (distance m) r p q h.0 h.1) in
    (omega (arith, ints), omega (arith, ints))

latest_value : (m : Meaning) (r : ℕ) (t : ℤ) → Largest m r 0 t → LatestValue m r t
latest_value m r t l = record {
  greatest = λ v w. let a = l.most v w in let z = w.below 0 (omega arith) in omega (arith, ints);
  had = (l.had.0, (l.had.1.0, let z = l.had.1.0.below 0 (omega arith) in let u = l.had.1.0.above 0 (omega arith) in omega (arith, ints, l.had.1.1)));
}

earliest_value : (m : Meaning) (r : ℕ) (t : ℤ) → r ≤ lines m → Largest m 0 r t → EarliestValue m r (neg_ℤ t)
earliest_value m r t h l = record {
  least = λ v w. let a = l.most v w in let z = w.above 0 (omega arith) in omega (arith, ints);
  had = (l.had.0, (l.had.1.0, let z = l.had.1.0.below 0 (omega arith) in let u = l.had.1.0.above 0 (omega arith) in omega (arith, ints, l.had.1.1)));
}

-- an earliest value is a largest difference from line 0
pub earliest_largest : (m : Meaning) (r : ℕ) (x : ℤ) → EarliestValue m r x → Largest m 0 r (neg_ℤ x)
earliest_largest m r x e = record {
  most = λ v w. let a = e.least v w in let z = w.above 0 (omega arith) in let u = w.below 0 (omega arith) in omega (arith, ints);
  had = (e.had.0, (e.had.1.0, let z = e.had.1.0.above 0 (omega arith) in let u = e.had.1.0.below 0 (omega arith) in omega (arith, ints, e.had.1.1)));
}

pub reach_of : (most : ℕ) (m : Meaning) → Valid most m → (p q : ℕ) (r : Result ℤ AxisFault) → Tight m p q r → ReachOf m p q r
reach_of most m v p q (Ok t) h = record {
  named = h.0;
  near = largest_near most m v p q t h.0 h.1.largest;
  earliest = λ e. earliest_value m q t h.0.1 (subst (λ i. Largest m i q t) e h.1.largest);
  latest = λ e. latest_value m p t (subst (λ i. Largest m p i t) e h.1.largest);
}
reach_of most m v p q (Err f) h = h
