-- What stands in a list of bytes from one byte on, and what is read there.
use Rattle.std.proofs.Common.{◌≡◌, ◌⊎◌, ℕ, zero, suc, ◌+◌, ◌*◌, ◌-◌, ◌/◌, ◌%◌, ◌≤◌, List, [], ◌∷◌, ◌++◌, length, flat_map, get_or, drop, take, Some, None, Option, inl, inr, refl, sym, ap, ◌∙◌, subst, arith}
use Rattle.std.proofs.Math.Seq.{drop-append_seam, take-append_seam}
use Rattle.std.proofs.Math.Nat.{div-add-mod}
use Rattle.std.proofs.lemmas.List.{append_assoc, drop-drop, get_or-drop, length-drop, length-append}
use Rattle.axis.specs.Questions.{AllYes}
use Rattle.axis.proofs.Asked.{all_yes_append}
use Rattle.journal.specs.declared.model.Stay.{Stay}
use Rattle.journal.specs.declared.model.Window.{Window}
use Rattle.image.specs.Bytes.{two, stay_bytes, stay_fields}
use Rattle.walk.specs.Fields.{byte_at, number_at, after_stay, stay_asks, stays_ask, row_end, numbers_ask}
use Rattle.walk.specs.Stays.{part_at, stay_in, stays_at}

pub record Starts (bytes : List ℕ) (o : ℕ) (x : List ℕ) : Type 0 where
  pub rest : List ℕ
  pub stands : drop o bytes ≡ x ++ rest

module _ (bytes : List ℕ) where
  pub starts_first : (o : ℕ) (x y : List ℕ) → Starts bytes o (x ++ y) → Starts bytes o x
  starts_first o x y h = record { rest = y ++ h.rest; stands = h.stands ∙ append_assoc x y h.rest }

  pub starts_later : (o : ℕ) (x y : List ℕ) → Starts bytes o (x ++ y) → Starts bytes (o + length x) y
  starts_later o x y h = record {
    rest = h.rest;
    stands = sym (drop-drop (length x) o bytes) ∙ ap (drop (length x)) (h.stands ∙ append_assoc x y h.rest) ∙ drop-append_seam x (y ++ h.rest);
  }

  module _ (o b : ℕ) (x : List ℕ) (h : Starts bytes o (b ∷ x)) where
    pub byte_read : byte_at bytes o ≡ b
    byte_read =
        let here : o + 0 ≡ o = omega arith in
        sym (ap (λ p. byte_at bytes p) here) ∙ sym (get_or-drop o bytes 0 0) ∙ ap (λ l. get_or l 0 0) h.stands

    pub byte_room : o + 1 ≤ length bytes
    byte_room =
        let left : length (drop o bytes) ≡ length bytes - o = length-drop o bytes in
        let some : length (drop o bytes) ≡ suc (length (x ++ h.rest)) = ap length h.stands in
        omega arith

  module _ (o n : ℕ) (h : Starts bytes o (two n)) where
    low_after : Starts bytes (o + 1) (n % 256 ∷ [])
    low_after = starts_later o (n / 256 ∷ []) (n % 256 ∷ []) h

    pub number_read : number_at bytes o ≡ n
    number_read = ap (λ b. 256 * b + byte_at bytes (o + 1)) (byte_read o (n / 256) (n % 256 ∷ []) h) ∙ ap (λ b. 256 * (n / 256) + b) (byte_read (o + 1) (n % 256) [] low_after) ∙ div-add-mod n 256

    pub number_room : o + 2 ≤ length bytes
    number_room = let room = byte_room (o + 1) (n % 256) [] low_after in omega arith

  numbers_yes : (n o : ℕ) → o + 2 * n ≤ length bytes → AllYes (numbers_ask bytes n o)
  numbers_yes zero o room = tt
  numbers_yes (suc n) o room = (omega arith, numbers_yes n (o + 2) (omega arith))

number_of : (n : ℕ) → 256 * (n / 256) + n % 256 ≡ n
number_of n = div-add-mod n 256

-- what is written of a stay is read as that stay
fields_by : (s : Stay) (w : Option Window) → s.window ≡ w → (length (stay_fields s) ≡ 8) ⊎ (length (stay_fields s) ≡ 12)
fields_by s None e = inl (rw e refl)
fields_by s (Some w) e = inr (rw e refl)

read_by : (c l d m : ℕ) (w : Option Window) → stay_in (stay_fields (record { circuit = c; lead = l; dwell = d; metres = m; window = w })) ≡ record { circuit = c; lead = l; dwell = d; metres = m; window = w }
read_by c l d m None = rw (number_of c, number_of l, number_of d, number_of m) refl
read_by c l d m (Some w) = rw (number_of c, number_of l, number_of d, number_of m, number_of w.from, number_of w.until) refl

pub record Stay-read (bytes : List ℕ) (o : ℕ) (s : Stay) : Type 0 where
  pub yes : AllYes (stay_asks bytes o)
  pub told : stay_in (part_at bytes o) ≡ s
  pub onward : after_stay bytes o ≡ o + length (stay_bytes s)

room_by : (b o n : ℕ) → (b ≡ 8) ⊎ (b ≡ 12) → o + b ≤ n → o + 2 * (b / 2) ≤ n
room_by b o n (inl e) h = omega arith
room_by b o n (inr e) h = omega arith

module _ (bytes : List ℕ) where
  stay_read : (o : ℕ) (s : Stay) → Starts bytes o (stay_bytes s) → Stay-read bytes o s
  stay_read o s h =
      let n = length (stay_fields s) in
      let count : byte_at bytes o ≡ n = byte_read bytes o n (stay_fields s) h in
      let later : Starts bytes (o + 1) (stay_fields s) = starts_later bytes o (n ∷ []) (stay_fields s) h in
      let part : part_at bytes o ≡ stay_fields s = ap (λ m. take m (drop (o + 1) bytes)) count ∙ ap (take n) later.stands ∙ take-append_seam (stay_fields s) later.rest in
      let left : length (drop (o + 1) bytes) ≡ length bytes - (o + 1) = length-drop (o + 1) bytes in
      let long : length (drop (o + 1) bytes) ≡ n + length later.rest = ap length later.stands ∙ length-append (stay_fields s) later.rest in
      let first : o + 1 ≤ length bytes = byte_room bytes o n (stay_fields s) h in
      let room : o + 1 + n ≤ length bytes = omega arith in
      let either : (n ≡ 8) ⊎ (n ≡ 12) = fields_by s s.window refl in
      let more : AllYes (numbers_ask bytes (n / 2) (o + 1)) = numbers_yes bytes (n / 2) (o + 1) (room_by n (o + 1) (length bytes) either room) in
      record {
        yes = (first, (subst (λ (b : ℕ). (b ≡ 8) ⊎ (b ≡ 12)) (sym count) either, (subst (λ (b : ℕ). AllYes (numbers_ask bytes (b / 2) (o + 1))) (sym count) more)));
        told = ap stay_in part ∙ read_by s.circuit s.lead s.dwell s.metres s.window;
        onward = omega arith;
      }

  pub record Stays-read (o : ℕ) (ss : List Stay) : Type 0 where
    pub yes : AllYes (stays_ask bytes (length ss) o)
    pub told : stays_at bytes (length ss) o ≡ ss
    pub ends : row_end (after_stay bytes) (length ss) o ≡ o + length (flat_map stay_bytes ss)

  pub stays_read : (o : ℕ) (ss : List Stay) → Starts bytes o (flat_map stay_bytes ss) → Stays-read o ss
  stays_read o [] h = record { yes = tt; told = refl; ends = omega arith }
  stays_read o (s ∷ ss) h =
      let first = stay_read o s (starts_first bytes o (stay_bytes s) (flat_map stay_bytes ss) h) in
      let later = subst (λ (p : ℕ). Starts bytes p (flat_map stay_bytes ss)) (sym first.onward) (starts_later bytes o (stay_bytes s) (flat_map stay_bytes ss) h) in
      let rest = stays_read (after_stay bytes o) ss later in
      let long : length (stay_bytes s ++ flat_map stay_bytes ss) ≡ length (stay_bytes s) + length (flat_map stay_bytes ss) = length-append (stay_bytes s) (flat_map stay_bytes ss) in
      record {
        yes = all_yes_append (stay_asks bytes o) (stays_ask bytes (length ss) (after_stay bytes o)) first.yes rest.yes;
        told = ap (λ x. x ∷ stays_at bytes (length ss) (after_stay bytes o)) first.told ∙ ap (λ l. s ∷ l) rest.told;
        ends = rest.ends ∙ omega (arith, long, first.onward);
      }
