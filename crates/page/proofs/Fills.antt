-- What is counted and what is left in the lent bytes, where all were put on a page.
use Rattle.std.proofs.Common.{◌≡◌, ℕ, ◌+◌, ◌≤◌, min, List, [], ◌∷◌, ◌++◌, length, drop, set, sym, refl, ap, ◌∙◌, append_assoc, arith}
use Rattle.std.proofs.lemmas.List.{set_at, length_push}
use Rattle.page.specs.Pages.{put, put_one, most}
use Rattle.page.specs.declared.Page.{Page}

-- the lender has afterwards what the page held last
pub put_loan : (p : Page) (more : List ℕ) → (put p more).bytes.ghost_name ≡ p.bytes.ghost_name
unfolding put put_one
put_loan p [] = refl
put_loan p (b ∷ more) = put_loan (put_one p b) more

pub put_len : (p : Page) (more : List ℕ) → p.len ≤ most → (put p more).len ≡ min (p.len + length more) most
unfolding put put_one
put_len p [] h = omega arith
put_len p (b ∷ more) h = let rest = put_len (put_one p b) more (omega arith) in omega arith

-- on lent bytes enough each takes the place of one
pub put_bytes : (p : Page) (front back more : List ℕ) → p.bytes.now ≡ front ++ back → length front ≡ p.len → length more ≤ length back → p.len + length back ≤ most → (put p more).bytes.now ≡ front ++ (more ++ drop (length more) back)
unfolding put put_one
put_bytes p front back [] a e h k = a
put_bytes p front [] (b ∷ more) a e h k = absurd (omega arith)
put_bytes p front (y ∷ back) (b ∷ more) a e h k =
    let placed : set (front ++ y ∷ back) p.len b ≡ (front ++ b ∷ []) ++ back = set_at front y back b p.len e ∙ sym (append_assoc front (b ∷ []) back) in
    let longer : length (front ++ b ∷ []) ≡ length front + 1 = length_push front b in
    let rest = put_bytes (put_one p b) (front ++ b ∷ []) back more (ap (λ (bytes : List ℕ). set bytes p.len b) a ∙ placed) (omega arith) (omega arith) (omega arith) in
    rest ∙ append_assoc front (b ∷ []) _
