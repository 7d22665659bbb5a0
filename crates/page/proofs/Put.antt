-- Bytes put on a page, one after the other, and the parts of each of a list.
use Rattle.std.proofs.Common.{◌≡◌, ℕ, ◌+◌, ◌<◌, List, [], ◌∷◌, ◌++◌, length, get_or, drop, sym, refl, ap, ◌∙◌}
use Rattle.std.proofs.lemmas.List.{at_drop_more}
use Rattle.page.specs.Pages.{put, put_one}
use Rattle.page.specs.declared.Page.{Page}

pub put_append : (p : Page) (xs ys : List ℕ) → put p (xs ++ ys) ≡ put (put p xs) ys
unfolding put
put_append p [] ys = refl
put_append p (b ∷ xs) ys = put_append (put_one p b) xs ys

-- the parts of those from the i-th on are still to be put on p, for the page to be done
pub record Left {A : Type 0} (parts : ℕ → List A → List ℕ) (done p : Page) (xs : List A) (i : ℕ) : Type 0 where
  pub then : done ≡ put p (parts i (drop i xs))

module _ {A : Type 0} (part : ℕ → A → List ℕ) (parts : ℕ → List A → List ℕ) where
  pub each_more : (done p q : Page) (xs : List A) (i : ℕ) (d x : A) → ((y : A) (ys : List A) → parts i (y ∷ ys) ≡ part i y ++ parts (i + 1) ys) → i < length xs → Left parts done p xs i → x ≡ get_or xs i d → q ≡ put p (part i x) → Left parts done q xs (i + 1)
  each_more done p q xs i d x split h a is b =
      let rest = parts (i + 1) (drop (i + 1) xs) in
      let next = a.then ∙ at_drop_more (λ ys. put p (parts i ys)) xs i d h ∙ ap (put p) (split (get_or xs i d) _) ∙ put_append p (part i (get_or xs i d)) rest in
      record { then = next ∙ ap (λ (y : A). put (put p (part i y)) rest) (sym is) ∙ ap (λ (page : Page). put page rest) (sym b) }
