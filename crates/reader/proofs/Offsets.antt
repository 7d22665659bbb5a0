-- Where a stay begins, counted from stay to stay.
use Rattle.std.proofs.Common.{◌≡◌, ℕ, suc, ◌+◌, ◌-◌, ◌<◌, ◌≤◌, List, sym, ap, ◌∙◌, arith}
use Rattle.walk.specs.Fields.{row_end, after_stay}

module _ (bytes : List ℕ) (n k p far : ℕ) where
  pub offset_more : {q : ℕ} → k < n → q ≡ after_stay bytes p → row_end (after_stay bytes) (n - k) p ≡ far → row_end (after_stay bytes) (n - (k + 1)) q ≡ far
  offset_more less e h =
      let left : n - k ≡ suc (n - (k + 1)) = omega arith in
      ap (row_end (after_stay bytes) (n - (k + 1))) e ∙ sym (ap (λ m. row_end (after_stay bytes) m p) left) ∙ h

  pub offset_all : n ≤ k → row_end (after_stay bytes) (n - k) p ≡ far → p ≡ far
  offset_all all h =
      let none : n - k ≡ 0 = omega arith in
      sym (ap (λ m. row_end (after_stay bytes) m p) none) ∙ h
