-- The questions on a row of stays, asked one after the other.
use Rattle.std.proofs.Common.{ℕ, zero, suc, ◌+◌, List, [], ◌∷◌, All, drop, arith}
use Rattle.axis.specs.Questions.{AllYes, FirstNo}
use Rattle.faults.specs.declared.model.SheetFault.{SheetFault}
use Rattle.journal.specs.declared.model.Stay.{Stay}
use Rattle.journal.specs.Stays.{GoodStay}
use Rattle.journal.specs.Asks.{stays_ask}

module _ (span platform : ℕ) where
  -- what the stays from index i on answer is what all of them answer
  pub record Leads (ss : List Stay) (i : ℕ) : Type 0 where
    pub refused : (f : SheetFault) → FirstNo (stays_ask span platform (i + 1) (drop i ss)) f → FirstNo (stays_ask span platform 1 ss) f
    pub passed : AllYes (stays_ask span platform (i + 1) (drop i ss)) → AllYes (stays_ask span platform 1 ss)

  -- so each stay is good
  pub all_good : (number : ℕ) (ss : List Stay) → AllYes (stays_ask span platform number ss) → All (GoodStay span platform) ss
  all_good number [] y k d h = absurd (omega arith)
  all_good number (s ∷ ss) y zero d h = record { circuit = y.0; doors = y.1.0; metres = y.1.1.0; window = y.1.1.1.0 }
  all_good number (s ∷ ss) y (suc k) d h = all_good (number + 1) ss y.1.1.1.1 k d (omega arith)
