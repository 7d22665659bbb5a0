-- What stands in a list of bytes, from one byte to another.
use Rattle.std.proofs.Common.{◌≡◌, ℕ, zero, suc, ◌+◌, ◌*◌, ◌/◌, ◌%◌, ◌<◌, ◌≤◌, List, [], ◌∷◌, ◌++◌, length, drop, take, refl, sym, ap, ◌∙◌, arith}
use Rattle.std.proofs.lemmas.List.{drop_more, append_assoc, take-append-drop, drop-drop}
use Rattle.image.specs.Bytes.{two}
use Rattle.walk.specs.Fields.{byte_at, number_at}
use Rattle.round_trip.specs.Tells.{Bytes}

-- from o on stands x, and then what stands from p on
pub record Holds (bytes : List ℕ) (o : ℕ) (x : List ℕ) (p : ℕ) : Type 0 where
  pub stands : drop o bytes ≡ x ++ drop p bytes

split_number : (h l : ℕ) → h < 256 → l < 256 → two (256 * h + l) ≡ h ∷ (l ∷ [])
split_number h l hs ls =
    let a : (256 * h + l) / 256 ≡ h = omega arith in
    let b : (256 * h + l) % 256 ≡ l = omega arith in
    rw (a, b) refl

pub drop_bytes : (o : ℕ) (xs : List ℕ) → Bytes xs → Bytes (drop o xs)
drop_bytes zero xs fit = fit
drop_bytes (suc o) [] fit = fit
drop_bytes (suc o) (x ∷ xs) fit = drop_bytes o xs (λ i. fit (suc i))

pub take_bytes : (n : ℕ) (xs : List ℕ) → Bytes xs → Bytes (take n xs)
take_bytes zero xs fit i = omega arith
take_bytes (suc n) [] fit i = fit i
take_bytes (suc n) (x ∷ xs) fit zero = fit 0
take_bytes (suc n) (x ∷ xs) fit (suc i) = take_bytes n xs (λ j. fit (suc j)) i

module _ (bytes : List ℕ) where
  pub holds_then : (o p q : ℕ) {x y : List ℕ} → Holds bytes o x p → Holds bytes p y q → Holds bytes o (x ++ y) q
  holds_then o p q {x} {y} a b = record { stands = a.stands ∙ ap (λ l. x ++ l) b.stands ∙ sym (append_assoc x y (drop q bytes)) }

  pub holds_byte : (o : ℕ) → o + 1 ≤ length bytes → Holds bytes o (byte_at bytes o ∷ []) (o + 1)
  holds_byte o room = record { stands = drop_more bytes o 0 (omega arith) }

  pub holds_part : (o n : ℕ) → Holds bytes o (take n (drop o bytes)) (o + n)
  holds_part o n = record { stands = sym (take-append-drop n (drop o bytes)) ∙ ap (λ l. take n (drop o bytes) ++ l) (drop-drop n o bytes) }

  pub holds_number : Bytes bytes → (o : ℕ) → o + 2 ≤ length bytes → Holds bytes o (two (number_at bytes o)) (o + 2)
  holds_number fit o room =
      let second : drop (o + 1) bytes ≡ byte_at bytes (o + 1) ∷ drop (o + 1 + 1) bytes = drop_more bytes (o + 1) 0 (omega arith) in
      let onward : o + 1 + 1 ≡ o + 2 = omega arith in
      let first : drop o bytes ≡ byte_at bytes o ∷ drop (o + 1) bytes = drop_more bytes o 0 (omega arith) in
      record {
        stands = first
            ∙ ap (λ l. byte_at bytes o ∷ l) (second ∙ ap (λ p. byte_at bytes (o + 1) ∷ drop p bytes) onward)
            ∙ ap (λ l. l ++ drop (o + 2) bytes) (sym (split_number (byte_at bytes o) (byte_at bytes (o + 1)) (fit o) (fit (o + 1))));
      }
