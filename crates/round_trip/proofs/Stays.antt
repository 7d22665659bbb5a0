-- The bytes of a stay that was read are those that are written of it.
use Rattle.std.proofs.Common.{◌≡◌, ◌⊎◌, ℕ, zero, suc, ◌+◌, ◌*◌, ◌-◌, ◌/◌, ◌≤◌, List, ◌∷◌, ◌++◌, length, flat_map, drop, inl, inr, refl, sym, ap, ◌∙◌, subst, arith}
use Rattle.std.proofs.Math.ListN.{drop_of_length-le}
use Rattle.std.proofs.lemmas.List.{append-nil, length-take-le, length-drop}
use Rattle.axis.specs.Questions.{AllYes}
use Rattle.image.specs.Bytes.{stay_bytes, stay_fields}
use Rattle.walk.specs.Fields.{byte_at, after_stay, stay_asks, stays_ask, row_end, numbers_ask}
use Rattle.walk.specs.Stays.{part_at, stay_in, stays_at}
use Rattle.round_trip.specs.Tells.{Bytes}
use Rattle.round_trip.proofs.Parts.{first_yes, later_yes}
use Rattle.round_trip.proofs.Holds.{Holds, holds_then, holds_byte, holds_part, holds_number, drop_bytes, take_bytes}

module _ (part : List ℕ) (fit : Bytes part) where
  all_of : (n : ℕ) (x : List ℕ) → length part ≤ n → Holds part 0 x n → x ≡ part
  all_of n x far h = sym (h.stands ∙ ap (λ l. x ++ l) (drop_of_length-le part {i = n} far) ∙ append-nil x)

  eight_read : length part ≡ 8 → stay_fields (stay_in part) ≡ part
  eight_read e =
      let six = holds_number part fit 6 (omega arith) in
      let four = holds_then part 4 6 8 (holds_number part fit 4 (omega arith)) six in
      let two = holds_then part 2 4 8 (holds_number part fit 2 (omega arith)) four in
      let all = holds_then part 0 2 8 (holds_number part fit 0 (omega arith)) two in
      rw e (all_of 8 _ (omega arith) all)

  twelve_read : length part ≡ 12 → stay_fields (stay_in part) ≡ part
  twelve_read e =
      let ten = holds_number part fit 10 (omega arith) in
      let eight = holds_then part 8 10 12 (holds_number part fit 8 (omega arith)) ten in
      let six = holds_then part 6 8 12 (holds_number part fit 6 (omega arith)) eight in
      let four = holds_then part 4 6 12 (holds_number part fit 4 (omega arith)) six in
      let two = holds_then part 2 4 12 (holds_number part fit 2 (omega arith)) four in
      let all = holds_then part 0 2 12 (holds_number part fit 0 (omega arith)) two in
      rw e (all_of 12 _ (omega arith) all)

  pub read_fields : (length part ≡ 8) ⊎ (length part ≡ 12) → stay_fields (stay_in part) ≡ part
  read_fields (inl e) = eight_read e
  read_fields (inr e) = twelve_read e

module _ (bytes : List ℕ) (fit : Bytes bytes) where
  numbers_room : (n o : ℕ) → o ≤ length bytes → AllYes (numbers_ask bytes n o) → o + 2 * n ≤ length bytes
  numbers_room zero o room y = omega arith
  numbers_room (suc n) o room y = let rest : o + 2 + 2 * n ≤ length bytes = numbers_room n (o + 2) y.0 y.1 in omega arith

  room_by : (b o : ℕ) → (b ≡ 8) ⊎ (b ≡ 12) → o + 2 * (b / 2) ≤ length bytes → o + b ≤ length bytes
  room_by b o (inl e) h = omega arith
  room_by b o (inr e) h = omega arith

  -- a stay's bytes are all there
  stay_room : (o : ℕ) → AllYes (stay_asks bytes o) → o + 1 + byte_at bytes o ≤ length bytes
  stay_room o y = room_by (byte_at bytes o) (o + 1) y.1.0 (numbers_room (byte_at bytes o / 2) (o + 1) y.0 y.1.1)

  stay_holds : (o : ℕ) → AllYes (stay_asks bytes o) → Holds bytes o (stay_bytes (stay_in (part_at bytes o))) (after_stay bytes o)
  stay_holds o y =
      let room = stay_room o y in
      let left : length (drop (o + 1) bytes) ≡ length bytes - (o + 1) = length-drop (o + 1) bytes in
      let count : length (part_at bytes o) ≡ byte_at bytes o = length-take-le (byte_at bytes o) (drop (o + 1) bytes) (omega arith) in
      let either : (length (part_at bytes o) ≡ 8) ⊎ (length (part_at bytes o) ≡ 12) = subst (λ (n : ℕ). (n ≡ 8) ⊎ (n ≡ 12)) (sym count) y.1.0 in
      let same : stay_fields (stay_in (part_at bytes o)) ≡ part_at bytes o = read_fields (part_at bytes o) (take_bytes (byte_at bytes o) _ (drop_bytes (o + 1) bytes fit)) either in
      let all : stay_bytes (stay_in (part_at bytes o)) ≡ byte_at bytes o ∷ part_at bytes o = ap (λ l. length l ∷ l) same ∙ ap (λ n. n ∷ part_at bytes o) count in
      subst (λ (x : List ℕ). Holds bytes o x (after_stay bytes o)) (sym all) (holds_then bytes o (o + 1) (after_stay bytes o) (holds_byte bytes o y.0) (holds_part bytes (o + 1) (byte_at bytes o)))

  pub stays_hold : (n o : ℕ) → AllYes (stays_ask bytes n o) → Holds bytes o (flat_map stay_bytes (stays_at bytes n o)) (row_end (after_stay bytes) n o)
  stays_hold zero o y = record { stands = refl }
  stays_hold (suc n) o y = holds_then bytes o (after_stay bytes o) _ (stay_holds o (first_yes (stay_asks bytes o) _ y)) (stays_hold n (after_stay bytes o) (later_yes (stay_asks bytes o) _ y))

pub stays_count : (bytes : List ℕ) (n o : ℕ) → length (stays_at bytes n o) ≡ n
stays_count bytes zero o = refl
stays_count bytes (suc n) o = ap suc (stays_count bytes n (after_stay bytes o))
