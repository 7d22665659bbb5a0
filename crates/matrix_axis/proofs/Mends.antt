-- Mending row by row: between the turns every length lies between the mended and the old one.
use Rattle.std.proofs.Common.{◌≡◌, ℕ, ◌<◌, ◌≤◌, ◌≢◌, ◌⊎◌, List, [], ◌∷◌, ◌++◌, length, set, ℤ, pos, ◌≤ℤ◌, sym, ap, ◌∙◌, subst, inl, inr, arith}
use Rattle.std.specs.Int.{int_min}
use Rattle.std.specs.List.{ContainsAt}
use Rattle.std.proofs.lemmas.List.{get_or-set_same, get_or-set_other}
use Rattle.std.proofs.lemmas.Int.{ints, clamps}
use Rattle.std.proofs.lemmas.Bool.{cases_eq}
use Rattle.std.proofs.ByRecursion.{has_append_left, has_push, has_push_cases}
use Rattle.axis.specs.Asks.{Named}
use Rattle.axis.specs.Distance.{Table}
use Rattle.ledger.specs.Lengths.{entry}
use Rattle.matrix_axis.specs.Cells.{cell, row_of}
use Rattle.matrix_axis.specs.Mending.{way, Pending, RowMended, Mended}
use Rattle.matrix_axis.specs.declared.over.Over.{Over}

-- one column more
pub row_more : (o : Over) (i j : ℕ) (columns : List ℕ) (before mid after : List ℤ) (x : ℤ) → j < length mid → RowMended o i columns before mid → x ≡ way o i j → after ≡ set mid j (int_min (entry mid j) x) → RowMended o i (columns ++ j ∷ []) before after
row_more o i j columns before mid after x lt r e s = record {
  lower = λ k. elim (cases_eq k j) [
    | inl p ↦ (let q = r.lower k in let w = here k p in omega (arith, ints, clamps))
    | inr p ↦ (let q = r.lower k in let w = there k p in omega (arith, ints))
  ];
  floor = λ k. elim (cases_eq k j) [
    | inl p ↦ (let q = r.floor k in let w = here k p in omega (arith, ints, clamps))
    | inr p ↦ (let q = r.floor k in let w = there k p in omega (arith, ints))
  ];
  done = λ k h. elim (has_push_cases columns j k h) [
    | inl p ↦ (let q = r.done k p in later k q)
    | inr p ↦ (let w = here k (sym p) in omega (arith, ints, clamps))
  ];
} where
  here : (k : ℕ) → k ≡ j → entry after k ≡ int_min (entry mid k) (way o i k)
  here k p = subst (λ u. entry after u ≡ int_min (entry mid u) (way o i u)) (sym p) (ap (λ xs. entry xs j) s ∙ get_or-set_same mid j _ (pos 0) lt ∙ ap (int_min (entry mid j)) e)

  there : (k : ℕ) → k ≢ j → entry after k ≡ entry mid k
  there k p = ap (λ xs. entry xs k) s ∙ get_or-set_other mid j k _ (pos 0) p

  later : (k : ℕ) → entry mid k ≤ℤ way o i k → entry after k ≤ℤ way o i k
  later k q = elim (cases_eq k j) [
    | inl p ↦ (let w = here k p in omega (arith, ints, clamps))
    | inr p ↦ (let w = there k p in omega (arith, ints))
  ]

-- the rows that are no longer listed are mended
pub record Mending (t : Table) (o : Over) (rows : List ℕ) (now : List (List ℤ)) : Type 0 where
  pub between : (i j : ℕ) → Named o.last i j → (int_min (t i j) (way o i j) ≤ℤ cell now i j) × (cell now i j ≤ℤ t i j)
  pub mended : (i : ℕ) → i ≤ o.last → ContainsAt rows i ⊎ ((j : ℕ) → j ≤ o.last → cell now i j ≤ℤ way o i j)
  pub within : (i : ℕ) → ContainsAt rows i → i ≤ o.last

module _ (o : Over) (columns : List ℕ) (start : List (List ℤ)) where
  -- the row that is taken off the list is one of the lines
  pub mending_line : (rows more : List ℕ) (i : ℕ) (now : List (List ℤ)) → Mending (cell start) o more now → more ≡ rows ++ i ∷ [] → i ≤ o.last
  mending_line rows more i now m e = m.within i (subst (λ xs. ContainsAt xs i) (sym e) (has_push rows i))

  -- one row more
  pub mending_more : (all rows more : List ℕ) (i : ℕ) (before after : List (List ℤ)) (row : List ℤ) → Pending (cell start) o all columns → more ≡ rows ++ i ∷ [] → Mending (cell start) o more before → i < length before → RowMended o i columns (row_of before i) row → after ≡ set before i row → Mending (cell start) o rows after
  mending_more all rows more i before after row p e m lt r s = record {
    between = λ a j h. elim (cases_eq a i) [
      | inl q ↦ subst (λ u. (int_min (cell start u j) (way o u j) ≤ℤ cell after u j) × (cell after u j ≤ℤ cell start u j)) (sym q) (here j (subst (λ u. Named o.last u j) q h))
      | inr q ↦ (let w = there a j q in let b = m.between a j h in (omega (arith, ints, b.0), omega (arith, ints, b.1)))
    ];
    mended = λ a h. elim (m.mended a h) [
      | inl x ↦ elim (has_push_cases rows i a (subst (λ xs. ContainsAt xs a) e x)) [
        | inl y ↦ inl y
        | inr q ↦ inr (λ j k. subst (λ u. cell after u j ≤ℤ way o u j) q (done j k))
      ]
      | inr x ↦ inr (λ j k. let b = x j k in let w = sinks a j in omega (arith, ints))
    ];
    within = λ a h. m.within a (subst (λ xs. ContainsAt xs a) (sym e) (has_append_left rows (i ∷ []) a h));
  } where
    there : (a j : ℕ) → a ≢ i → cell after a j ≡ cell before a j
    there a j ne = ap (λ t. cell t a j) s ∙ ap (λ xs. entry xs j) (get_or-set_other before i a row [] ne)

    at : (j : ℕ) → cell after i j ≡ entry row j
    at j = ap (λ t. cell t i j) s ∙ ap (λ xs. entry xs j) (get_or-set_same before i row [] lt)

    listed : i ≤ o.last
    listed = mending_line rows more i before m e

    here : (j : ℕ) → Named o.last i j → (int_min (cell start i j) (way o i j) ≤ℤ cell after i j) × (cell after i j ≤ℤ cell start i j)
    here j h = let b = m.between i j h in let w = at j in let lo = r.lower j in let fl = r.floor j in (omega (arith, ints, clamps, b.0, b.1), omega (arith, ints, b.1))

    sinks : (a j : ℕ) → cell after a j ≤ℤ cell before a j
    sinks a j = elim (cases_eq a i) [
      | inl q ↦ subst (λ u. cell after u j ≤ℤ cell before u j) (sym q) (let w = at j in let lo = r.lower j in omega (arith, ints))
      | inr q ↦ (let w = there a j q in omega (arith, ints))
    ]

    done : (j : ℕ) → j ≤ o.last → cell after i j ≤ℤ way o i j
    done j k = elim (p.column j k) [
      | inl x ↦ (let w = at j in let d = r.done j x in omega (arith, ints))
      | inr x ↦ (let b = here j (listed, k) in let y = x i listed in omega (arith, ints, b.1))
    ]

  pub mending_all : (now : List (List ℤ)) → Mending (cell start) o [] now → Mended o start now
  mending_all now m i j h = elim (m.mended i h.0) [
    | inl x ↦ (let z = x.1 in absurd (omega arith))
    | inr x ↦ (let b = m.between i j h in let y = x j h.1 in omega (arith, ints, clamps, b.0, b.1))
  ]
