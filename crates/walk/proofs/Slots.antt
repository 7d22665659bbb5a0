-- The stays that were read so far, and those to come.
use Rattle.std.proofs.Common.{◌≡◌, ℕ, zero, suc, ◌+◌, ◌-◌, ◌<◌, List, [], ◌∷◌, ◌++◌, length, take, set, refl, sym, ap, ◌∙◌, arith}
use Rattle.std.proofs.Math.Seq.{take-append_seam}
use Rattle.std.proofs.lemmas.List.{take_more_set, append_assoc}
use Rattle.journal.specs.declared.model.Stay.{Stay}
use Rattle.walk.specs.Fields.{after_stay}
use Rattle.walk.specs.Stays.{part_at, stay_in, stays_at}

module _ (bytes : List ℕ) (n o : ℕ) where
  -- k of them stand in the slots, and the next begins at p
  abbrev pub Read : List Stay → ℕ → ℕ → Type 0
  Read slots k p = take k slots ++ stays_at bytes (n - k) p ≡ stays_at bytes n o

  pub read_more : (slots : List Stay) (k p : ℕ) → k < length slots → k < n → Read slots k p → (s : Stay) (q : ℕ) → s ≡ stay_in (part_at bytes p) → q ≡ after_stay bytes p → Read (set slots k s) (k + 1) q
  read_more slots k p room less r s q told far =
      let left : n - k ≡ suc (n - (k + 1)) = omega arith in
      let later = stays_at bytes (n - (k + 1)) (after_stay bytes p) in
      ap (λ m. take (k + 1) (set slots k s) ++ stays_at bytes (n - (k + 1)) m) far
      ∙ ap (λ l. l ++ later) (take_more_set slots k s room)
      ∙ append_assoc (take k slots) (s ∷ []) later
      ∙ ap (λ x. take k slots ++ (x ∷ later)) told
      ∙ ap (λ m. take k slots ++ stays_at bytes m p) (sym left)
      ∙ r

stays_count : (bytes : List ℕ) (n o : ℕ) → length (stays_at bytes n o) ≡ n
stays_count bytes zero o = refl
stays_count bytes (suc n) o = ap suc (stays_count bytes n (after_stay bytes o))

-- the slots past the stays tell nothing
pub slots_told : (bytes : List ℕ) (n o : ℕ) (slots more : List Stay) → slots ≡ stays_at bytes n o → take n (slots ++ more) ≡ stays_at bytes n o
slots_told bytes n o slots more e = ap (λ m. take m (slots ++ more)) (sym (ap length e ∙ stays_count bytes n o)) ∙ take-append_seam slots more ∙ e
