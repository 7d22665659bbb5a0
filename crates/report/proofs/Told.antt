-- What a settle with room for every plan tells of them.
use Rattle.std.proofs.Common.{◌≡◌, ℕ, ◌≤◌, List, length, ℤ, Result, refl, ap, ◌∙◌, inl, inr}
use Rattle.stack.specs.declared.elements.Trial.{Trial}
use Rattle.axis.specs.Questions.{FirstNo}
use Rattle.boxes.specs.declared.model.Place.{Place}
use Rattle.boxes.specs.Order.{pairs}
use Rattle.faults.specs.declared.model.SheetFault.{SheetFault}
use Rattle.text.specs.declared.fault.TextFault.{TextFault}
use Rattle.text.specs.Texts.{plan_text, no_plan_text}
use Rattle.text.specs.Prints.{Printed}
use Rattle.journal.specs.Journal.{Journal}
use Rattle.journal.specs.Asks.{Plan, settle_asks}
use Rattle.journal.specs.Steps.{settle, plan, Step}
use Rattle.report.specs.Reports.{Reported}

module _ (k : Journal) (before after : List ℕ) (r : Result ℕ TextFault) where
  module _ (m n : ℕ) (places : length k.stays ≤ m) (trials : pairs (length k.stays) ≤ n) where
    only_none : (f : SheetFault) → FirstNo (settle_asks k m n) f → (x y : ℕ → ℤ) → ¬ (Plan k x y)
    only_none f (inl h) = absurd (h.0 places)
    only_none f (inr (y, inl h)) = absurd (h.0 trials)
    only_none f (inr (y, inr (z, inl h))) = λ x y p. h.0 (x, (y, p))
    only_none f (inr (y, inr (z, inr h))) = absurd h.1

    pub none_reported : (f : SheetFault) → FirstNo (settle_asks k m n) f → Printed no_plan_text before after r → Reported k before after r
    none_reported f first printed = (no_plan_text, (inr (only_none f first, refl), printed))

  pub plan_reported : (m n : ℕ) (k' : Journal) (ps qs : List Place) (ts : List Trial) → qs ≡ ps → Step k (settle m n) (plan ps ts) k' → Printed (plan_text qs) before after r → Reported k before after r
  plan_reported m n k' ps qs ts same step printed =
      let found = step.1.0 in
      let told : plan ps ts ≡ plan found.0 found.1.0 = found.1.1.0 in
      let own : ps ≡ found.0 = cc in
      (plan_text qs, (inl (found.0, (found.1.0, (found.1.1.1, ap plan_text (same ∙ own)))), printed))
