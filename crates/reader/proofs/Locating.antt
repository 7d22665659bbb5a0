-- A sheet's questions with their bytes have the same answers.
use Rattle.std.proofs.Common.{ℕ, [], ◌∷◌, inl, inr, ap}
use Rattle.axis.specs.Questions.{AllYes, FirstNo}
use Rattle.faults.specs.declared.model.SheetFault.{SheetFault}
use Rattle.journal.specs.Asks.{Asked as SheetAsked}
use Rattle.reader.specs.Located.{located, fault_at}

module _ (place : SheetFault → ℕ) where
  pub located_yes : (qs : SheetAsked) → AllYes qs → AllYes (located place qs)
  located_yes [] y = tt
  located_yes (q ∷ qs) y = (y.0, located_yes qs y.1)

  pub located_no : (qs : SheetAsked) (f : SheetFault) → FirstNo qs f → FirstNo (located place qs) (fault_at (place f) f)
  located_no [] f h = absurd h
  located_no (q ∷ qs) f (inl x) = inl (x.0, ap (λ e. fault_at (place e) e) x.1)
  located_no (q ∷ qs) f (inr x) = inr (x.0, located_no qs f x.1)
