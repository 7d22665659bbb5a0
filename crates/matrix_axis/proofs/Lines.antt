-- Worklists: the lines that are looked at so far.
use Rattle.std.proofs.Common.{◌≡◌, ℕ, ◌+◌, ◌<◌, ◌≤◌, ◌⊎◌, List, [], ◌∷◌, ◌++◌, length, sym, subst, inl, inr, arith, below_more}
use Rattle.std.specs.List.{ContainsAt}
use Rattle.std.proofs.lemmas.List.{length_push}
use Rattle.std.proofs.ByRecursion.{has_append_left, has_push, has_push_cases}
use Rattle.matrix_axis.specs.Lists.{Listed}

-- every line below r is listed or is skipped
pub record ListedBelow (r : ℕ) (Skipped : ℕ → Type 0) (list : List ℕ) : Type 0 where
  pub few : length list ≤ r
  pub all : (x : ℕ) → x < r → ContainsAt list x ⊎ Skipped x
  pub within : (x : ℕ) → ContainsAt list x → x < r

module _ (Skipped : ℕ → Type 0) where
  pub listed_skip : (r : ℕ) (list : List ℕ) → ListedBelow r Skipped list → Skipped r → ListedBelow (r + 1) Skipped list
  listed_skip r list l s = record {
    few = let i = l.few in omega arith;
    all = below_more _ r l.all (inr s);
    within = λ x h. let i = l.within x h in omega arith;
  }

  pub listed_more : (r : ℕ) (before after : List ℕ) → ListedBelow r Skipped before → after ≡ before ++ r ∷ [] → ListedBelow (r + 1) Skipped after
  listed_more r before after l e = subst (ListedBelow (r + 1) Skipped) (sym e) (record {
    few = let i = l.few in omega (arith, length_push before r);
    all = below_more _ r (λ x h. elim (l.all x h) [ inl y ↦ inl (has_append_left before (r ∷ []) x y) | inr y ↦ inr y ]) (inl (has_push before r));
    within = λ x h. elim (has_push_cases before r x h) [ inl y ↦ (let i = l.within x y in omega arith) | inr q ↦ omega arith ];
  })

  pub listed_all : (n r : ℕ) (list : List ℕ) → ListedBelow r Skipped list → r ≡ n + 1 → Listed n Skipped list
  listed_all n r list l e = record { all = λ x h. l.all x (omega arith); within = λ x h. let i = l.within x h in omega arith }

pub listed_as : (n : ℕ) (P Q : ℕ → Type 0) (list : List ℕ) → Listed n P list → ((r : ℕ) → r ≤ n → P r → Q r) → Listed n Q list
listed_as n P Q list l f = record { all = λ r h. elim (l.all r h) [ inl y ↦ inl y | inr y ↦ inr (f r h y) ]; within = l.within }
