-- What a page holds after bytes are put on it.
use Rattle.std.specs.Prelude.{ℕ, ◌+◌, ◌-◌, ◌^◌, min, List, [], ◌∷◌, slice_set}
use Rattle.page.specs.declared.Page.{Page}

-- the largest number that a usize holds
abbrev pub most : ℕ
most = 2 ^ 64 - 1

-- the page with one byte more: past the end of the lent bytes it is counted and finds no place
unfoldable pub put_one : Page → ℕ → Page
put_one p b = record { bytes = record p.bytes { now = slice_set p.bytes.now p.len b }; len = min (p.len + 1) most }

-- the page with these bytes more, one after the other
unfoldable pub put : Page → List ℕ → Page
put p [] = p
put p (b ∷ more) = put (put_one p b) more
