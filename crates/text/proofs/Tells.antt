-- A text tells the numbers in it, since the byte that ends a number is no digit.
use Rattle.std.proofs.Common.{◌≡◌, ℕ, ◌+◌, ◌^◌, ◌<◌, ◌≤◌, List, [], ◌∷◌, ◌++◌, length, codes, decimal, sym, refl, ap, ◌∙◌, arith, append_assoc, length-append}
use Rattle.std.specs.List.{AllByRecursion}
use Rattle.std.proofs.lemmas.Fmt.{decimal_by_steps, decimal_injective}
use Rattle.std.proofs.ByRecursion.{All-push}
use Rattle.std.proofs.lemmas.List.{append_cancel_left}
use Rattle.boxes.specs.declared.model.Place.{Place}
use Rattle.text.specs.Tells.{Short, PlanTextTells}
use Rattle.text.specs.Texts.{plan_head, stay_line, stay_lines, space, newline}

abbrev Digit : ℕ → Type 0
Digit b = 48 ≤ b

digits_decimal : (n : ℕ) → n < 2 ^ 64 → AllByRecursion Digit (decimal n)
digits_decimal =
    decimal_by_steps (λ n ds. AllByRecursion Digit ds) (λ n h. (omega arith, tt)) (λ n ds h a. All-push Digit ds _ a (omega arith))

-- two runs of digits, each ended by the same mark
same_digits : (ds es xs ys : List ℕ) (mark : ℕ) → mark < 48 → AllByRecursion Digit ds → AllByRecursion Digit es → ds ++ mark ∷ xs ≡ es ++ mark ∷ ys → (ds ≡ es) × (xs ≡ ys)
same_digits [] [] xs ys mark h a b e = (refl, cc)
same_digits [] (c ∷ es) xs ys mark h a b e = let c-is : mark ≡ c = cc in absurd (omega arith)
same_digits (d ∷ ds) [] xs ys mark h a b e = let d-is : d ≡ mark = cc in absurd (omega arith)
same_digits (d ∷ ds) (c ∷ es) xs ys mark h a b e =
    let rest = same_digits ds es xs ys mark h a.1 b.1 (cc) in
    let first : d ≡ c = cc in
    let front : ds ≡ es = rest.0 in
    (cc, rest.1)

-- a number, the byte that ends it, and what follows
abbrev marked : ℕ → ℕ → List ℕ → List ℕ
marked n mark rest = decimal n ++ mark ∷ rest

number_tells : (m n mark : ℕ) (xs ys : List ℕ) → marked m mark xs ≡ marked n mark ys → mark < 48 → m < 2 ^ 64 → n < 2 ^ 64 → (m ≡ n) × (xs ≡ ys)
number_tells m n mark xs ys e l h k =
    let both = same_digits (decimal m) (decimal n) xs ys mark l (digits_decimal m h) (digits_decimal n k) e in
    (decimal_injective m n h k both.0, both.1)

after_number : (n mark : ℕ) (xs ys : List ℕ) → marked n mark xs ≡ marked n mark ys → xs ≡ ys
after_number n mark xs ys e = let same = append_cancel_left (decimal n) (mark ∷ xs) (mark ∷ ys) e in cc

some_number : (n mark : ℕ) (xs : List ℕ) → [] ≡ marked n mark xs → ⊥
some_number n mark xs e = omega (arith, simp length-append at (ap length e))

-- a stay's line, number by number
abbrev line_marked : ℕ → Place → List ℕ → List ℕ
line_marked n p rest = marked n space (marked p.step space (marked p.metre newline rest))

line_parts : (n : ℕ) (p : Place) (rest : List ℕ) → stay_line n p ++ rest ≡ line_marked n p rest
line_parts n p rest = simp append_assoc

-- the same number of a stay, so the same stay, and so the same stays after it
stays_tell : (n : ℕ) (ps qs : List Place) → AllByRecursion Short ps → AllByRecursion Short qs → stay_lines n ps ≡ stay_lines n qs → ps ≡ qs
stays_tell n [] [] a b e = refl
stays_tell n [] (q ∷ qs) a b e = absurd (some_number n _ _ (e ∙ line_parts n q _))
stays_tell n (p ∷ ps) [] a b e = absurd (some_number n _ _ (sym e ∙ line_parts n p _))
stays_tell n (p ∷ ps) (q ∷ qs) a b e =
    let more = stay_lines (n + 1) ps in
    let others = stay_lines (n + 1) qs in
    let parted : line_marked n p more ≡ line_marked n q others = sym (line_parts n p more) ∙ e ∙ line_parts n q others in
    let numbered = after_number n space _ _ parted in
    let steps = number_tells p.step q.step space (marked p.metre newline more) (marked q.metre newline others) numbered (omega arith) (omega arith) (omega arith) in
    let metres = number_tells p.metre q.metre newline more others steps.1 (omega arith) (omega arith) (omega arith) in
    let first : p ≡ q = λ i. record { step = steps.0 i; metre = metres.0 i } in
    let rest = stays_tell (n + 1) ps qs a.1 b.1 metres.1 in
    cc

head_parts : (n : ℕ) (rest : List ℕ) → plan_head n ++ rest ≡ codes "plan " ++ marked n newline rest
head_parts n rest = simp append_assoc

pub plan_text_tells_lem : PlanTextTells
plan_text_tells_lem places others a b e =
    let parted = sym (head_parts (length places) _) ∙ e ∙ head_parts (length others) _ in
    let headed = number_tells (length places) (length others) newline (stay_lines 1 places) (stay_lines 1 others) (cc) (omega arith) a.0 b.0 in
    stays_tell 1 places others a.1 b.1 headed.1
