-- A step of the sheet, told with the byte at which it is refused.
use Rattle.std.proofs.Common.{◌≡◌, ℕ, List, take, Ok, Err, ap, ◌∙◌, subst}
use Rattle.faults.specs.declared.model.SheetFault.{SheetFault}
use Rattle.journal.specs.declared.model.Stay.{Stay}
use Rattle.journal.specs.Journal.{Journal}
use Rattle.journal.specs.Steps.{Request, load, done, refused, Step, asks}
use Rattle.walk.specs.declared.model.Fields.{Fields}
use Rattle.walk.specs.Fields.{number_at}
use Rattle.walk.specs.Told.{Tells}
use Rattle.reader.specs.Bound.{Called}
use Rattle.reader.specs.Entries.{load_in}
use Rattle.reader.specs.Located.{fault_at}
use Rattle.reader.proofs.Locating.{located_yes, located_no}

module _ (place : SheetFault → ℕ) (k k' : Journal) (c d : Request) (e : c ≡ d) where
  pub called_done : Step k c done k' → Called place d k (Ok tt) k'
  called_done h = subst (λ (x : Request). Called place x k (Ok tt) k') e (located_yes place (asks k c) h.0, h.1.1)

  pub called_refused : (f : SheetFault) → Step k c (refused f) k' → Called place d k (Err (fault_at (place f) f)) k'
  called_refused f h = subst (λ (x : Request). Called place x k (Err (fault_at (place f) f)) k') e (located_no place (asks k c) f h.0, h.1)

-- what the fields tell is what the image asks for
pub load_told : (bytes : List ℕ) (f : Fields) → Tells bytes f → (stays : List Stay) → stays ≡ take f.count f.slots → load f.span f.platform stays ≡ load_in bytes
load_told bytes f t stays e =
    ap (λ s. load s f.platform stays) t.span
    ∙ ap (λ p. load (number_at bytes 3) p stays) t.platform
    ∙ ap (load (number_at bytes 3) (number_at bytes 5)) (e ∙ t.stays)
