-- Reading what is written of a sheet.
use Rattle.std.proofs.Common.{◌≡◌, ◌-◌, ℕ, List, [], ◌∷◌, length, take, drop, Ok, Err, Result, inl, inr, refl, ap, ◌∙◌, arith}
use Rattle.std.proofs.Math.Seq.{take-append_seam}
use Rattle.axis.specs.Questions.{Question, AllYes, FirstNo}
use Rattle.faults.specs.declared.model.ImageFault.{ImageFault}
use Rattle.journal.specs.Journal.{Journal}
use Rattle.journal.specs.Made.{Made}
use Rattle.image.specs.Bytes.{image_bytes}
use Rattle.page.specs.Fills.{Filled}
use Rattle.reader.specs.Reads.{Read, load_asked, entries_asked}
use Rattle.round_trip.proofs.Written.{written_accepted}

-- questions that are all answered yes have no first no
none_no : {F : Type 0} (qs : List {1} (Question F)) (f : F) → AllYes qs → ¬ (FirstNo qs f)
none_no [] f y h = h
none_no (q ∷ qs) f y (inl x) = x.0 y.0
none_no (q ∷ qs) f y (inr x) = none_no qs f y.1 x.1

module _ (bytes : List ℕ) (k before after : Journal) (made : Made k) (e : bytes ≡ image_bytes k) where
  pub read_same : (r : Result Unit ImageFault) → Read bytes before r after → (r ≡ Ok tt) × (after ≡ k)
  read_same (Ok u) r = (refl, r.1 ∙ (written_accepted bytes k made e).1)
  read_same (Err f) (inl x) = absurd (none_no (load_asked bytes) f (written_accepted bytes k made e).0.0 x.0)
  read_same (Err f) (inr x) = absurd (none_no (entries_asked bytes) f (written_accepted bytes k made e).0.1 x.0.1)

-- what fills the front of a buffer stands there; a part of the buffer is from byte 0 on
pub front : (told before after : List ℕ) (n : ℕ) → Filled told before after n → take (n - 0) after ≡ told
front told before after n f =
    let all : n - 0 ≡ length told = omega (arith, f.count) in
    ap (λ m. take m after) all ∙ ap (take (length told)) f.bytes ∙ take-append_seam told (drop (length told) before)
