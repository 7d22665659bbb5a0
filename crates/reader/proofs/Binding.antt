-- Entries of an image, of which some were bound.
use Rattle.std.proofs.Common.{◌≡◌, ℕ, suc, ◌+◌, ◌*◌, ◌-◌, ◌<◌, ◌≤◌, List, ◌++◌, sym, ap, ◌∙◌, subst, arith}
use Rattle.axis.specs.Questions.{AllYes, FirstNo}
use Rattle.faults.specs.declared.model.ImageFault.{ImageFault}
use Rattle.journal.specs.Journal.{Journal}
use Rattle.journal.specs.Steps.{asks, next}
use Rattle.walk.specs.Fields.{Asked}
use Rattle.walk.proofs.Leading.{Leads, leads_all, leads_more, leads_refused}
use Rattle.reader.specs.Entries.{bind_at, bound}
use Rattle.reader.specs.Located.{located}
use Rattle.reader.specs.Reads.{binds_ask}

-- of n entries from o on, i were bound, k is the journal now, and the next one is at p
pub record EnteringAt (bytes : List ℕ) (n o : ℕ) (start : Journal) (i : ℕ) (k : Journal) (p : ℕ) : Type 0 where
  pub leads : Leads (binds_ask bytes start n o) (binds_ask bytes k (n - i) p)
  pub ends : bound bytes k (n - i) p ≡ bound bytes start n o

abbrev pub Entering : List ℕ → ℕ → ℕ → Journal → ℕ → Journal → Type 0
Entering bytes n o start i k = EnteringAt bytes n o start i k (o + 5 * i)

module _ (bytes : List ℕ) (n o : ℕ) (start : Journal) where
  pub entering : Entering bytes n o start 0 start
  entering =
      let all : n ≡ n - 0 = omega arith in
      let here : o ≡ o + 5 * 0 = omega arith in
      record {
        leads = subst (λ (m : ℕ). Leads (binds_ask bytes start n o) (binds_ask bytes start m (o + 5 * 0))) all (subst (λ (p : ℕ). Leads (binds_ask bytes start n o) (binds_ask bytes start n p)) here (leads_all _));
        ends = ap (λ m. bound bytes start m (o + 5 * 0)) (sym all) ∙ ap (bound bytes start n) (sym here);
      }

  module _ (i : ℕ) (k : Journal) (w : Entering bytes n o start i k) where
    module _ (less : i < n) where
      left : n - i ≡ suc (n - (i + 1))
      left = omega arith

      onward : o + 5 * i + 5 ≡ o + 5 * (i + 1)
      onward = omega arith

      abbrev here : Asked
      here = located (λ f. o + 5 * i) (asks k (bind_at bytes (o + 5 * i)))

      first : Leads (binds_ask bytes start n o) (here ++ binds_ask bytes (next k (bind_at bytes (o + 5 * i))) (n - (i + 1)) (o + 5 * i + 5))
      first = subst (λ (m : ℕ). Leads (binds_ask bytes start n o) (binds_ask bytes k m (o + 5 * i))) left w.leads

      pub entering_more : AllYes here → (k' : Journal) → k' ≡ next k (bind_at bytes (o + 5 * i)) → Entering bytes n o start (i + 1) k'
      entering_more y k' e = subst (λ (x : Journal). Entering bytes n o start (i + 1) x) (sym e) (subst (λ (p : ℕ). EnteringAt bytes n o start (i + 1) (next k (bind_at bytes (o + 5 * i))) p) onward (record {
        leads = leads_more _ here _ first y;
        ends = sym (ap (λ m. bound bytes k m (o + 5 * i)) left) ∙ w.ends;
      }))

      pub entering_refused : (f : ImageFault) → FirstNo here f → FirstNo (binds_ask bytes start n o) f
      entering_refused f h = leads_refused _ here _ first f h

    module _ (far : n ≤ i) where
      none : n - i ≡ 0
      none = omega arith

      pub entering_all : AllYes (binds_ask bytes start n o)
      entering_all = w.leads.passed (subst (λ (m : ℕ). AllYes (binds_ask bytes k m (o + 5 * i))) (sym none) tt)

      pub entering_end : k ≡ bound bytes start n o
      entering_end = sym (ap (λ m. bound bytes k m (o + 5 * i)) none) ∙ w.ends
