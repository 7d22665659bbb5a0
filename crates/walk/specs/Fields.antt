-- What is asked of the bytes of an image, in the order in which they stand.
use Rattle.std.specs.Prelude.{◌≡◌, ℕ, zero, suc, ◌+◌, ◌*◌, ◌/◌, ◌≤◌, ◌⊎◌, List, [], ◌∷◌, ◌++◌, length, slice_index_or}
use Rattle.axis.specs.Questions.{Question}
use Rattle.faults.specs.declared.model.Cause.{Cause}
use Rattle.faults.specs.declared.model.Cause.TheVariants as cause
use Rattle.faults.specs.declared.model.ImageFault.{ImageFault}

abbrev pub Asked : Type 1
Asked = List {1} (Question ImageFault)

-- a question that is refused at the byte o
abbrev pub question : Cause → ℕ → Type 0 → Question ImageFault
question why o what = record { asks = what; refusal = record { offset = o; cause = why } }

abbrev pub byte_at : List ℕ → ℕ → ℕ
byte_at bytes o = slice_index_or bytes o 0

-- the number in two bytes from o on, the high one first
abbrev pub number_at : List ℕ → ℕ → ℕ
number_at bytes o = 256 * byte_at bytes o + byte_at bytes (o + 1)

-- does a field of this width stand at o?
abbrev pub field : List ℕ → ℕ → ℕ → Question ImageFault
field bytes width o = question cause.Fields o (o + width ≤ length bytes)

-- n parts in a row, of which each says where the next begins: what is asked of them, and where the bytes after them begin
abbrev pub row_asks : (ℕ → Asked) → (ℕ → ℕ) → ℕ → ℕ → Asked
row_asks asks next zero o = []
row_asks asks next (suc n) o = asks o ++ row_asks asks next n (next o)

abbrev pub row_end : (ℕ → ℕ) → ℕ → ℕ → ℕ
row_end next zero o = o
row_end next (suc n) o = row_end next n (next o)

abbrev pub numbers_ask : List ℕ → ℕ → ℕ → Asked
numbers_ask bytes = row_asks (λ o. field bytes 2 o ∷ []) (λ o. o + 2)

-- a stay: the byte that counts its others, and the numbers that those are
abbrev pub stay_asks : List ℕ → ℕ → Asked
stay_asks bytes o =
    field bytes 1 o
    ∷ question cause.StayLength o ((byte_at bytes o ≡ 8) ⊎ (byte_at bytes o ≡ 12))
    ∷ numbers_ask bytes (byte_at bytes o / 2) (o + 1)

abbrev pub after_stay : List ℕ → ℕ → ℕ
after_stay bytes o = o + 1 + byte_at bytes o

abbrev pub stays_ask : List ℕ → ℕ → ℕ → Asked
stays_ask bytes = row_asks (stay_asks bytes) (after_stay bytes)

-- an entry: its letter, its two lines and its number
abbrev pub entry_asks : List ℕ → ℕ → Asked
entry_asks bytes o = field bytes 1 o ∷ field bytes 1 (o + 1) ∷ field bytes 1 (o + 2) ∷ field bytes 2 (o + 3) ∷ []

abbrev pub after_entry : ℕ → ℕ
after_entry o = o + 5

abbrev pub entries_ask : List ℕ → ℕ → ℕ → Asked
entries_ask bytes = row_asks (entry_asks bytes) after_entry

-- does the image end at o?
abbrev pub ends_at : List ℕ → ℕ → Question ImageFault
ends_at bytes o = question cause.Fields o (o ≡ length bytes)

-- n entries, and nothing after them
abbrev pub last_asks : List ℕ → ℕ → ℕ → Asked
last_asks bytes n o = entries_ask bytes n o ++ ends_at bytes (row_end after_entry n o) ∷ []

-- the byte at o counts the entries
abbrev pub rest_asks : List ℕ → ℕ → Asked
rest_asks bytes o = field bytes 1 o ∷ last_asks bytes (byte_at bytes o) (o + 1)

-- n stays, and what comes after them
abbrev pub parts_ask : List ℕ → ℕ → ℕ → Asked
parts_ask bytes n o = stays_ask bytes n o ++ rest_asks bytes (row_end (after_stay bytes) n o)

-- span, platform, and how many stays
abbrev pub fields_ask : List ℕ → Asked
fields_ask bytes = field bytes 2 3 ∷ field bytes 2 5 ∷ field bytes 1 7 ∷ parts_ask bytes (byte_at bytes 7) 8

-- where the stays end
abbrev pub stays_end : List ℕ → ℕ
stays_end bytes = row_end (after_stay bytes) (byte_at bytes 7) 8

-- the first two bytes count those after them, and the version is 1
abbrev pub head_asks : List ℕ → Asked
head_asks bytes =
    question cause.Length 0 ((2 ≤ length bytes) × (number_at bytes 0 + 2 ≡ length bytes))
    ∷ question cause.Version 2 ((3 ≤ length bytes) × (byte_at bytes 2 ≡ 1))
    ∷ []

-- all that is asked before a sheet is
abbrev pub image_asks : List ℕ → Asked
image_asks bytes = head_asks bytes ++ fields_ask bytes
