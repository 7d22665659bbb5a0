-- A right table has the shortest lengths, which are the largest differences; the base is right, and mending keeps a table right.
use Rattle.std.proofs.Common.{◌≡◌, ℕ, ◌≤◌, true, false, cond, eqb, ◌⊎◌, List, [], length, ℤ, pos, ◌+ℤ◌, ◌-ℤ◌, neg_ℤ, ◌≤ℤ◌, ◌<ℤ◌, sym, refl, ap, ◌∙◌, subst, inl, inr, arith}
use lib.Signed.{lt_z}
use Rattle.std.specs.Int.{int_min}
use Rattle.std.proofs.lemmas.Int.{ints, clamps}
use Rattle.std.proofs.lemmas.Bool.{cases_eq, cond-true, cond-false, eq-eqb, ne_eqb}
use Rattle.std.proofs.ByRecursion.{has_push, has_push_cases}
use Rattle.axis.specs.declared.model.Bound.{Bound}
use Rattle.axis.specs.Meaning.{Meaning, with_bound, lines, at_line, low, high, Placement, Largest, Earliest, Edge, bound, down, up, Walk, none, step, Shortest, NegativeRing}
use Rattle.axis.specs.Distance.{Table, base, mend, Right}
use Rattle.axis.proofs.Walks.{walk_join, walk_kept, walk_more}

module _ (m : Meaning) (t : Table) (r : Right m t) where
  -- no walk is shorter
  walk_least : (p q : ℕ) (l : ℤ) → Walk m p q l → (p ≤ lines m) × (q ≤ lines m) × (t p q ≤ℤ l)
  walk_least p q l (none _ h) = (h, h, let z = r.self p h in omega (arith, ints))
  walk_least p q l (step _ s _ d e x y) =
      let a = r.tight p s d x in
      let c = walk_least s q e y in
      let o = r.round p s q a.0 a.1 c.1 in
      (a.0, c.1, omega (arith, ints))

  pub right_shortest : (p q : ℕ) → p ≤ lines m → q ≤ lines m → Shortest m p q (t p q)
  right_shortest p q hp hq = record { walk = r.walk p q hp hq; least = λ l w. (walk_least p q l w).2 }

  -- the values that have the difference t p q for every p
  at_most_from : ℕ → ℕ → ℤ
  at_most_from q i = t i q -ℤ t 0 q

  attains : (q : ℕ) → q ≤ lines m → Placement m (at_most_from q)
  unfolding at_most_from
  attains q hq = record {
    above = λ i hi. let a = r.tight 0 i (neg_ℤ (low m i)) (up i hi) in let b = r.round 0 i q (omega arith) hi hq in omega (arith, ints);
    below = λ i hi. let a = r.tight i 0 (high m i) (down i hi) in let b = r.round i 0 q hi (omega arith) hq in omega (arith, ints);
    keeps = λ b x. let a = r.tight b.p b.q b.d (bound b x) in let c = r.round b.p b.q q a.0 a.1 hq in omega (arith, ints);
  }

  pub right_largest : (p q : ℕ) → p ≤ lines m → q ≤ lines m → Largest m p q (t p q)
  unfolding at_most_from
  right_largest p q hp hq = record {
    most = λ v h. walk_kept m v h p q (t p q) (r.walk p q hp hq);
    had = (at_most_from q, (attains q hq, let z = r.self q hq in omega (arith, ints)));
  }

  pub right_earliest : Earliest m (λ i. neg_ℤ (t 0 i))
  right_earliest = record {
    placed = record {
      above = λ i hi. let a = r.tight 0 i (neg_ℤ (low m i)) (up i hi) in omega (arith, ints);
      below = λ i hi. let a = r.tight i 0 (high m i) (down i hi) in let b = r.round 0 i 0 (omega arith) hi (omega arith) in let z = r.self 0 (omega arith) in omega (arith, ints);
      keeps = λ b x. let a = r.tight b.p b.q b.d (bound b x) in let c = r.round 0 b.p b.q (omega arith) a.0 a.1 in omega (arith, ints);
    };
    least = λ v w i hi. let a = walk_kept m v w 0 i _ (r.walk 0 i (omega arith) hi) in let z = w.above 0 (omega arith) in let u = w.below 0 (omega arith) in omega (arith, ints);
  }

  module _ (b : Bound) (hp : b.p ≤ lines m) (hq : b.q ≤ lines m) where
    -- a bound that is too tight for the way back closes a ring
    pub right_ring : (b.d +ℤ t b.q b.p) <ℤ pos 0 → NegativeRing (with_bound m b)
    right_ring h = (b.p, (b.d +ℤ t b.q b.p, (step b.p b.q b.p b.d _ (bound b (has_push m.bounds b)) (walk_more m b b.q b.p _ (r.walk b.q b.p hq hp)), h)))

    pub right_mend : pos 0 ≤ℤ (b.d +ℤ t b.q b.p) → Right (with_bound m b) (mend t b)
    unfolding mend
    right_mend h = record {
      self = λ i hi. let c = r.round b.q i b.p hq hi hp in let z = r.self i hi in omega (arith, ints, clamps);
      round = λ i j k hi hj hk.
          let r1 = r.round i j k hi hj hk in
          let r2 = r.round i j b.p hi hj hp in
          let r3 = r.round b.q j k hq hj hk in
          let r4 = r.round b.q j b.p hq hj hp in
          omega (arith, ints, clamps);
      tight = λ p q d e. mend_tight p q d e;
      walk = λ i j hi hj. mend_walk i j hi hj;
    } where
      old_tight : (p q : ℕ) (d : ℤ) → Edge m p q d → (p ≤ lines m) × (q ≤ lines m) × (mend t b p q ≤ℤ d)
      old_tight p q d e = let a = r.tight p q d e in (a.0, a.1, omega (arith, ints, clamps))

      mend_tight : (p q : ℕ) (d : ℤ) → Edge (with_bound m b) p q d → (p ≤ lines m) × (q ≤ lines m) × (mend t b p q ≤ℤ d)
      mend_tight p q d (bound x y) = elim (has_push_cases m.bounds b x y) [
        | inl z ↦ old_tight p q d (bound x z)
        | inr e ↦ subst (λ x. (x.p ≤ lines m) × (x.q ≤ lines m) × (mend t b x.p x.q ≤ℤ x.d)) e (hp, hq, let s = r.self b.p hp in let u = r.self b.q hq in omega (arith, ints, clamps))
      ]
      mend_tight p q d (down _ x) = old_tight p q d (down p x)
      mend_tight p q d (up _ x) = old_tight p q d (up q x)

      lesser : (x y : ℤ) → (int_min x y ≡ x) ⊎ (int_min x y ≡ y)
      lesser x y = elim (lt_z y x) as (λ c. (cond c y x ≡ x) ⊎ (cond c y x ≡ y)) [ true ↦ inr refl | false ↦ inl refl ]

      mend_walk : (i j : ℕ) → i ≤ lines m → j ≤ lines m → Walk (with_bound m b) i j (mend t b i j)
      mend_walk i j hi hj = elim (lesser (t i j) (t i b.p +ℤ (b.d +ℤ t b.q j))) [
        | inl e ↦ subst (λ l. Walk (with_bound m b) i j l) (sym e) (walk_more m b i j _ (r.walk i j hi hj))
        | inr e ↦ subst (λ l. Walk (with_bound m b) i j l) (sym e)
            (walk_join (with_bound m b) i b.p j _ _ (walk_more m b i b.p _ (r.walk i b.p hi hp))
            (step b.p b.q j b.d (t b.q j) (bound b (has_push m.bounds b)) (walk_more m b b.q j _ (r.walk b.q j hq hj))))
      ]

module _ (lows highs : List ℤ) where
  pub base_self : (i j : ℕ) → i ≡ j → base lows highs i j ≡ pos 0
  unfolding base
  base_self i j e = cond-true (eqb i j) _ _ (eq-eqb i j e)

  pub base_over : (i j : ℕ) → ¬ (i ≡ j) → base lows highs i j ≡ at_line highs i -ℤ at_line lows j
  unfolding base
  base_over i j n = cond-false (eqb i j) _ _ (ne_eqb i j n)

-- over line 0, whatever the bounds are
pub base_walk : (m : Meaning) (i j : ℕ) → i ≤ lines m → j ≤ lines m → Walk m i j (base m.lows m.highs i j)
base_walk m i j hi hj = elim (cases_eq i j) [
  | inl e ↦ subst (λ l. Walk m i j l) (sym (base_self m.lows m.highs i j e)) (subst (λ x. Walk m i x (pos 0)) e (none i hi))
  | inr n ↦ subst (λ l. Walk m i j l) (let z : high m i +ℤ (neg_ℤ (low m j) +ℤ pos 0) ≡ high m i -ℤ low m j = omega (arith, ints) in z ∙ sym (base_over m.lows m.highs i j n)) (step i 0 j (high m i) (neg_ℤ (low m j) +ℤ pos 0) (down i hi) (step 0 j j (neg_ℤ (low m j)) (pos 0) (up j hj) (none j hj)))
]

module _ (lows highs : List ℤ) where
  -- no bounds yet
  abbrev bare : Meaning
  bare = record { lows = lows; highs = highs; bounds = [] }

  Cases : ℕ → ℕ → Type 0
  Cases i j = ((i ≡ j) × (base lows highs i j ≡ pos 0)) ⊎ (¬ (i ≡ j) × (base lows highs i j ≡ high bare i -ℤ low bare j))

  base_is : (i j : ℕ) → Cases i j
  unfolding Cases
  base_is i j = elim (cases_eq i j) [
    | inl e ↦ inl (e, base_self lows highs i j e)
    | inr n ↦ inr (n, base_over lows highs i j n)
  ]

  base_round : (i j k : ℕ) → low bare i ≤ℤ high bare i → low bare j ≤ℤ high bare j → low bare k ≤ℤ high bare k → Cases i j → Cases j k → Cases i k → base lows highs i k ≤ℤ (base lows highs i j +ℤ base lows highs j k)
  unfolding Cases
  base_round i j k a b c (inl x) (inl y) (inl z) = omega (arith, ints, x.1, y.1, z.1)
  base_round i j k a b c (inl x) (inl y) (inr z) = absurd (z.0 (x.0 ∙ y.0))
  base_round i j k a b c (inl x) (inr y) (inl z) = absurd (y.0 (sym x.0 ∙ z.0))
  base_round i j k a b c (inl x) (inr y) (inr z) = let e : high bare i ≡ high bare j = ap (high bare) x.0 in omega (arith, ints, x.1, y.1, z.1)
  base_round i j k a b c (inr x) (inl y) (inl z) = absurd (x.0 (z.0 ∙ sym y.0))
  base_round i j k a b c (inr x) (inl y) (inr z) = let e : low bare j ≡ low bare k = ap (low bare) y.0 in omega (arith, ints, x.1, y.1, z.1)
  base_round i j k a b c (inr x) (inr y) (inl z) = let e : low bare i ≡ low bare k = ap (low bare) z.0 in omega (arith, ints, x.1, y.1, z.1)
  base_round i j k a b c (inr x) (inr y) (inr z) = omega (arith, ints, x.1, y.1, z.1)

  base_tight : (p q : ℕ) (d : ℤ) → Edge bare p q d → (p ≤ lines bare) × (q ≤ lines bare) × (base lows highs p q ≤ℤ d)
  unfolding Cases
  base_tight p q d (bound b x) = let z = x.1 in absurd (omega arith)
  base_tight p q d (down _ h) = (h, omega arith, elim (base_is p 0) [ inl e ↦ (let z : high bare p ≡ high bare 0 = ap (high bare) e.0 in omega (arith, ints, e.1)) | inr n ↦ omega (arith, ints, n.1) ])
  base_tight p q d (up _ h) = (omega arith, h, elim (base_is 0 q) [ inl e ↦ (let z : low bare 0 ≡ low bare q = ap (low bare) e.0 in omega (arith, ints, e.1)) | inr n ↦ omega (arith, ints, n.1) ])

  pub right_base : ((r : ℕ) → r ≤ length lows → at_line lows r ≤ℤ at_line highs r) → Right bare (base lows highs)
  unfolding Cases
  right_base ranged = record {
    self = λ i hi. elim (base_is i i) [ inl e ↦ e.1 | inr n ↦ absurd (n.0 refl) ];
    round = λ i j k hi hj hk. base_round i j k (ranged i hi) (ranged j hj) (ranged k hk) (base_is i j) (base_is j k) (base_is i k);
    tight = base_tight;
    walk = base_walk bare;
  }
