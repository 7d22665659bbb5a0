-- The entries of one direction, and how many stand.
use Rattle.std.proofs.Common.{◌≡◌, ℕ, Bool, cond, ◌+◌, ◌<◌, ◌≤◌, List, [], ◌∷◌, ◌++◌, length, Some, None, Option, refl, ap, ◌∙◌, subst, arith}
use Rattle.std.proofs.lemmas.List.{length-append}
use denote.Enum.Bare.{sameb}
use Rattle.axis.specs.declared.model.Bound.{Bound}
use Rattle.boxes.specs.declared.model.Entry.{Entry}
use Rattle.boxes.specs.declared.model.Direction.{Direction}
use Rattle.boxes.specs.declared.model.Direction.TheVariants.{Time, Platform}
use Rattle.boxes.specs.contracts.model.Direction.{the_type}
use Rattle.held.specs.Newest.{Parted}
use Rattle.journal.specs.Journal.{kept, bounds_on}

kept_append : (d c : Direction) (b : Bound) (bs more : List Bound) → kept d c b (bs ++ more) ≡ kept d c b bs ++ more
kept_append Time Time b bs more = refl
kept_append Time Platform b bs more = refl
kept_append Platform Time b bs more = refl
kept_append Platform Platform b bs more = refl

bounds_append : (d : Direction) (es more : List Entry) → bounds_on d (es ++ more) ≡ bounds_on d es ++ bounds_on d more
bounds_append d [] more = refl
bounds_append d (e ∷ es) more = ap (kept d e.direction e.bound) (bounds_append d es more) ∙ kept_append d e.direction e.bound (bounds_on d es) _

-- one entry more
pub bounds_push : (d : Direction) (es : List Entry) (e : Entry) → bounds_on d (es ++ e ∷ []) ≡ bounds_on d es ++ kept d e.direction e.bound []
bounds_push d es e = bounds_append d es (e ∷ [])

kept_count : (c : Direction) (b : Bound) (ts ps : List Bound) → length (kept Time c b ts) + length (kept Platform c b ps) ≡ length ts + length ps + 1
kept_count Time b ts ps = omega arith
kept_count Platform b ts ps = omega arith

-- every entry stands in one direction
pub count_both : (es : List Entry) → length (bounds_on Time es) + length (bounds_on Platform es) ≡ length es
count_both [] = refl
count_both (e ∷ es) =
    let h = kept_count e.direction e.bound (bounds_on Time es) (bounds_on Platform es) in
    let i = count_both es in
    omega arith

abbrev pub FewOn : Direction → List Entry → Type 0
FewOn d es = length (bounds_on d es) ≤ 24

kept_few : (d c : Direction) (b : Bound) (n : ℕ) → n ≤ 24 → (c ≡ d → n < 24) → n + length (kept d c b []) ≤ 24
kept_few Time Time b n few less = let l = less refl in omega arith
kept_few Time Platform b n few less = omega arith
kept_few Platform Time b n few less = omega arith
kept_few Platform Platform b n few less = let l = less refl in omega arith

-- there is room for one entry more
pub push_few : (d : Direction) (es : List Entry) (e : Entry) → FewOn d es → length (bounds_on e.direction es) < 24 → FewOn d (es ++ e ∷ [])
push_few d es e few less =
    let m : length (bounds_on d (es ++ e ∷ [])) ≡ length (bounds_on d es) + length (kept d e.direction e.bound []) = ap length (bounds_push d es e) ∙ length-append (bounds_on d es) _ in
    let k : length (bounds_on d es) + length (kept d e.direction e.bound []) ≤ 24 = kept_few d e.direction e.bound _ few (λ s. subst (λ (x : Direction). length (bounds_on x es) < 24) s less) in
    omega arith

push_room_on : (d : Direction) (es : List Entry) → FewOn Time es → FewOn Platform es → length (bounds_on d es) < 24 → length es < 48
push_room_on Time es t p less = let h = count_both es in omega arith
push_room_on Platform es t p less = let h = count_both es in omega arith

pub push_room : (es : List Entry) (e : Entry) → FewOn Time es → FewOn Platform es → length (bounds_on e.direction es) < 24 → length es < 48
push_room es e t p less = push_room_on e.direction es t p less

-- the entries that are left when the newest goes
pub few_parted : (d : Direction) (all es : List Entry) (newest : Option Entry) → Parted all newest es → FewOn d all → FewOn d es
few_parted d all es (Some e) split few =
    let m : length (bounds_on d all) ≡ length (bounds_on d es) + length (kept d e.direction e.bound []) = ap (λ xs. length (bounds_on d xs)) split ∙ ap length (bounds_push d es e) ∙ length-append (bounds_on d es) _ in
    omega arith
few_parted d all es None split few = rw split.1 (omega arith)

abbrev pub on : Direction → Entry → Bool
on d e = sameb the_type e.direction d

one_kept : (d c : Direction) (b : Bound) (bs : List Bound) → length (kept d c b bs) ≡ cond (sameb the_type c d) (1 + length bs) (length bs)
one_kept Time Time b bs = omega arith
one_kept Time Platform b bs = refl
one_kept Platform Time b bs = refl
one_kept Platform Platform b bs = omega arith

pub one_on : (d : Direction) (e : Entry) (es : List Entry) → length (bounds_on d (e ∷ es)) ≡ cond (on d e) (1 + length (bounds_on d es)) (length (bounds_on d es))
one_on d e es = one_kept d e.direction e.bound (bounds_on d es)
