-- From the questions of the fields, the load and the entries to those of the whole image.
use Rattle.std.proofs.Common.{ℕ, ◌+◌, List, Ok, Err, Result, inl, inr, refl, subst}
use Rattle.axis.specs.Questions.{AllYes, FirstNo}
use Rattle.axis.proofs.Asked.{first_no_append, first_no_after, all_yes_append}
use Rattle.faults.specs.declared.model.ImageFault.{ImageFault}
use Rattle.journal.specs.Journal.{Journal}
use Rattle.walk.specs.declared.model.Fields.{Fields}
use Rattle.walk.specs.Fields.{byte_at, image_asks, stays_end}
use Rattle.walk.specs.Told.{Tells}
use Rattle.reader.specs.Bound.{Called, BoundOrNew}
use Rattle.reader.specs.Entries.{load_in, loaded_in}
use Rattle.reader.specs.Located.{load_offset}
use Rattle.reader.specs.Reads.{Read, load_asked}

module _ (bytes : List ℕ) (k : Journal) where
  pub refused_fields : (f : ImageFault) → FirstNo (image_asks bytes) f → Read bytes k (Err f) k
  refused_fields f h = inl (first_no_append (image_asks bytes) _ f h, refl)

  module _ (yes : AllYes (image_asks bytes)) where
    pub refused_load : (f : ImageFault) (m : Journal) → Called (load_offset bytes) (load_in bytes) k (Err f) m → Read bytes k (Err f) m
    refused_load f m h = inl (first_no_after (image_asks bytes) _ f yes h.0, h.1)

    module _ (f : Fields) (t : Tells bytes f) (m : Journal) (h : Called (load_offset bytes) (load_in bytes) k (Ok tt) m) where
      loaded_yes : AllYes (load_asked bytes)
      loaded_yes = all_yes_append (image_asks bytes) _ yes h.0

      -- the entries are where the fields tell, and the load is made
      moved : (r : Result Unit ImageFault) (m' : Journal) → BoundOrNew bytes f.entries f.offset m r m' → BoundOrNew bytes (byte_at bytes (stays_end bytes)) (stays_end bytes + 1) (loaded_in bytes) r m'
      moved r m' b = subst (λ (n : ℕ). BoundOrNew bytes n (stays_end bytes + 1) (loaded_in bytes) r m') t.entries (subst (λ (o : ℕ). BoundOrNew bytes f.entries o (loaded_in bytes) r m') t.offset (subst (λ (j : Journal). BoundOrNew bytes f.entries f.offset j r m') h.1 b))

      read_entries : (r : Result Unit ImageFault) (m' : Journal) → BoundOrNew bytes (byte_at bytes (stays_end bytes)) (stays_end bytes + 1) (loaded_in bytes) r m' → Read bytes k r m'
      read_entries (Ok u) m' b = ((loaded_yes, b.0), b.1)
      read_entries (Err e) m' b = inr ((loaded_yes, b.0), b.1)

      pub all_read : (r : Result Unit ImageFault) (m' : Journal) → BoundOrNew bytes f.entries f.offset m r m' → Read bytes k r m'
      all_read r m' b = read_entries r m' (moved r m' b)
