-- Whether a lent buffer is long enough for what is put, and what is then left in it.
use Rattle.std.specs.Prelude.{◌≡◌, ℕ, ◌<◌, ◌≤◌, List, ◌++◌, length, drop, Result, Ok, Err}
use Rattle.std.specs.Borrow.{MutBor}
use Rattle.std.specs.Fn.{Shared}
use Rattle.page.specs.declared.Page.{Page}
use Rattle.page.specs.Pages.{put}

-- what is known of the calls of an F, which takes a page and answers nothing
abbrev pub Calls : Type 0 → Type 1
Calls F = Shared F (MutBor Page × Unit {0}) (Unit {0} × (MutBor Page × Unit {0}))

-- a call of f puts these bytes on the page that it is given, whatever the page holds
abbrev pub Puts : {F : Type 0} → Calls F → F → List ℕ → Type 0
Puts calls f told = (p q : MutBor Page) → calls.post f (p, tt) (tt, (q, tt)) → q.now ≡ put p.now told

-- what was told stands at the front, and past it each byte is as it was
pub record Filled (told before after : List ℕ) (n : ℕ) : Type 0 where
  pub room : length told ≤ length before
  pub count : n ≡ length told
  pub bytes : after ≡ told ++ drop (length told) before

-- the buffer is too short, and as it was
pub record Short (told before after : List ℕ) : Type 0 where
  pub short : length before < length told
  pub bytes : after ≡ before

-- one of the two, and a refusal gives its reason
abbrev pub FillsOr : {E : Type 0} → E → List ℕ → List ℕ → List ℕ → Result ℕ E → Type 0
FillsOr why told before after (Ok n) = Filled told before after n
FillsOr why told before after (Err fault) = Short told before after × (fault ≡ why)
