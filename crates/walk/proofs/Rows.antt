-- A row of parts, of which some were walked.
use Rattle.std.proofs.Common.{◌≡◌, ℕ, zero, suc, ◌+◌, ◌*◌, ◌-◌, ◌<◌, ◌≤◌, ◌++◌, sym, ap, ◌∙◌, subst, arith}
use Rattle.axis.specs.Questions.{AllYes, FirstNo}
use Rattle.faults.specs.declared.model.ImageFault.{ImageFault}
use Rattle.walk.specs.Fields.{Asked, row_asks, row_end}
use Rattle.walk.proofs.Leading.{Leads, leads_all, leads_more, leads_refused}

-- of n parts from o on, k were walked, up to p
pub record Walked (asks : ℕ → Asked) (next : ℕ → ℕ) (n o k p : ℕ) : Type 0 where
  pub leads : Leads (row_asks asks next n o) (row_asks asks next (n - k) p)
  pub ends : row_end next (n - k) p ≡ row_end next n o

module _ (asks : ℕ → Asked) (next : ℕ → ℕ) (n o : ℕ) where
  pub walked_none : Walked asks next n o 0 o
  walked_none =
      let all : n ≡ n - 0 = omega arith in
      record {
        leads = subst (λ (m : ℕ). Leads (row_asks asks next n o) (row_asks asks next m o)) all (leads_all _);
        ends = sym (ap (λ m. row_end next m o) all);
      }

  module _ (k p : ℕ) (w : Walked asks next n o k p) where
    module _ (less : k < n) where
      left : n - k ≡ suc (n - (k + 1))
      left = omega arith

      first : Leads (row_asks asks next n o) (asks p ++ row_asks asks next (n - (k + 1)) (next p))
      first = subst (λ (m : ℕ). Leads (row_asks asks next n o) (row_asks asks next m p)) left w.leads

      pub walked_more : (q : ℕ) → q ≡ next p → AllYes (asks p) → Walked asks next n o (k + 1) q
      walked_more q e y = subst (λ (m : ℕ). Walked asks next n o (k + 1) m) (sym e) (record {
        leads = leads_more _ (asks p) _ first y;
        ends = sym (ap (λ m. row_end next m p) left) ∙ w.ends;
      })

      pub walked_refused : (f : ImageFault) → FirstNo (asks p) f → FirstNo (row_asks asks next n o) f
      walked_refused f h = leads_refused _ (asks p) _ first f h

    module _ (far : n ≤ k) where
      none : n - k ≡ 0
      none = omega arith

      pub walked_all : AllYes (row_asks asks next n o)
      walked_all = w.leads.passed (subst (λ (m : ℕ). AllYes (row_asks asks next m p)) (sym none) tt)

      pub walked_end : p ≡ row_end next n o
      walked_end = sym (ap (λ m. row_end next m p) none) ∙ w.ends

-- parts of the same width
pub evenly : (width n o : ℕ) → row_end (λ p. p + width) n o ≡ o + width * n
evenly width zero o = omega arith
evenly width (suc n) o = evenly width n (o + width) ∙ omega arith
