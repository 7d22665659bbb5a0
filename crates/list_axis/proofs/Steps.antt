-- What relaxing one edge does to the lengths from one line, and how such steps add up.
use Rattle.std.proofs.Common.{◌≡◌, ℕ, ◌+◌, ◌<◌, ◌≤◌, Bool, true, false, ◌||◌, List, length, get_or, take, set, ℤ, pos, ◌+ℤ◌, neg_ℤ, ◌≤ℤ◌, ◌<ℤ◌, sym, refl, ap, ◌∙◌, subst, inl, inr, arith, get_or-set_other, get_or-set_same}
use Rattle.std.specs.List.{ContainsAt}
use Rattle.std.proofs.lemmas.List.{take_more}
use Rattle.std.proofs.ByRecursion.{has_get_or, has_push_cases}
use Rattle.std.proofs.lemmas.Int.{ints}
use Rattle.std.proofs.lemmas.Bool.{cases_eq, or_cases, or_parts}
use Rattle.axis.specs.declared.model.Bound.{Bound}
use Rattle.axis.specs.Meaning.{Meaning, lines, bound, down, up}
use Rattle.axis.specs.Distance.{Right, distance}
use Rattle.axis.proofs.Distances.{in_order, right_near}
use Rattle.ledger.specs.Lengths.{Near, entry}
use Rattle.ledger.specs.Means.{Standing}
use Rattle.ledger.proofs.Open.{ledger_right}
use Rattle.list_axis.specs.declared.lengths.Lengths.{Lengths}
use Rattle.list_axis.specs.Rows.{Found, IsEdge, total, Kept, BoundsKept, highest, lowest}
use Rattle.list_axis.specs.Passing.{Passed}
use Rattle.list_axis.proofs.Totals.{above_less, total_set}

passed_falls : {K : Meaning → List ℤ → Type 0} {a b : Lengths} (x : Bool) → Passed K a b x → total b.row ≤ total a.row
passed_falls true f = let h = f.fell refl in omega arith
passed_falls false f = let e = ap total (f.still refl) in omega arith

module _ {J K : Meaning → List ℤ → Type 0} {a b : Lengths} where
  -- one step and then another
  pub passed_both : (c : Lengths) (x y : Bool) → Passed J a b x → Passed K b c y → Passed (λ m row. J m row × K m row) a c (x || y)
  passed_both c x y f g = record {
    ledger = g.ledger ∙ f.ledger;
    start = g.start ∙ f.start;
    fell = λ e.
        let h = passed_falls x f in
        let k = passed_falls y g in
        elim (or_cases x y e) [ inl z ↦ (let l = f.fell z in omega arith) | inr z ↦ (let l = g.fell z in omega arith) ];
    still = λ e. let z = or_parts x y e in g.still z.1 ∙ f.still z.0;
    kept = λ e. let z = or_parts x y e in (subst (J a.ledger.now) (sym (g.still z.1)) (f.kept z.0), subst (λ m. K m c.row) f.ledger (g.kept z.1));
  }

  pub passed_weaker : (x : Bool) → ((row : List ℤ) → J a.ledger.now row → K a.ledger.now row) → Passed J a b x → Passed K a b x
  passed_weaker x w f = record { ledger = f.ledger; start = f.start; fell = f.fell; still = f.still; kept = λ e. w _ (f.kept e) }

-- the range of a line is two edges
module _ (m : Meaning) (s : Standing m) (r : ℕ) (h : r ≤ lines m) where
  pub down_edge : IsEdge m (highest m r)
  down_edge = let o = in_order _ _ s.0.paired s.0.ordered r h in (down r h, ((h, omega arith), (omega (arith, ints), omega (arith, ints))))

  pub up_edge : IsEdge m (lowest m r)
  up_edge = let o = in_order _ _ s.0.paired s.0.ordered r h in (up r h, ((omega arith, h), (omega (arith, ints), omega (arith, ints))))

-- the way along an edge is shorter
module _ (l : Lengths) (b : Bound) (e : IsEdge l.ledger.now b) (x : ℤ) (is : x ≡ entry l.row b.p +ℤ b.d) (h : x <ℤ entry l.row b.q) where
  abbrev m : Meaning
  m = l.ledger.now

  abbrev after : List ℤ
  after = set l.row b.q x

  right : Right m (distance m)
  right = ledger_right m l.standing

  far_on : distance m l.start b.q ≤ℤ x
  far_on =
      let t = (right.tight b.p b.q b.d e.0).2 in
      let r = right.round l.start b.p b.q l.line e.1.0.0 e.1.0.1 in
      let f = l.found.far b.p e.1.0.0 in
      omega (arith, ints)

  floor : neg_ℤ (pos 2880) ≤ℤ x
  floor = let n = right_near m (distance m) right l.standing.0.paired l.standing.0.ordered l.start b.q l.line e.1.0.1 in let f = far_on in omega (arith, ints)

  within : b.q < length l.row
  within = let few = l.standing.0.paired.1 in let size = l.full in let i = e.1.0.1 in omega arith

  -- what holds of the new length and of every old one holds of each
  each : (P : ℕ → ℤ → Type 0) → P b.q x → (j : ℕ) → P j (entry l.row j) → P j (entry after j)
  each P new j old = elim (cases_eq j b.q) [
    | inl z ↦ subst (λ i. P i (entry after i)) (sym z) (subst (P b.q) (sym (get_or-set_same l.row b.q x (pos 0) within)) new)
    | inr n ↦ subst (P j) (sym (get_or-set_other l.row b.q j x (pos 0) n)) old
  ]

  pub shortened_found : Found m l.start after
  shortened_found = record {
    home = each (λ j y. j ≡ l.start → y ≤ℤ pos 0)
        (λ z. let a = l.found.home in let c : entry l.row b.q ≡ entry l.row l.start = ap (entry l.row) z in omega (arith, ints))
        l.start (λ _. l.found.home) refl;
    far = λ j hj. each (λ i y. distance m l.start i ≤ℤ y) far_on j (l.found.far j hj);
    near = λ j hj. each (λ _ y. Near y) (let a = l.found.near b.q e.1.0.1 in let g = floor in (omega (arith, ints), omega (arith, ints))) j (l.found.near j hj);
  }

  pub shortened_falls : total after < total l.row
  shortened_falls = total_set l.row b.q x within (above_less _ _ floor h)

-- one bound more
pub bounds_more : (bs : List Bound) (i : ℕ) (d : Bound) → i < length bs → (row : List ℤ) → BoundsKept (take i bs) row × Kept (get_or bs i d) row → BoundsKept (take (i + 1) bs) row
bounds_more bs i d h row k b x = elim (has_push_cases (take i bs) (get_or bs i d) b (subst (λ xs. ContainsAt xs b) (take_more bs i d h) x)) [
  | inl y ↦ k.0 b y
  | inr e ↦ subst (λ c. Kept c row) e k.1
]

pub bound_edge : (m : Meaning) (s : Standing m) (bs : List Bound) (i : ℕ) (d : Bound) → bs ≡ m.bounds → i < length bs → IsEdge m (get_or bs i d)
bound_edge m s bs i d e h = let x : ContainsAt m.bounds (get_or bs i d) = subst (λ xs. ContainsAt xs (get_or bs i d)) e (has_get_or bs i d h) in (bound _ x, s.0.within _ x)
