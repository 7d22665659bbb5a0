-- A run with one call more at its end.
use Rattle.std.proofs.Common.{◌≡◌, ℕ, ◌+◌, ◌<◌, List, [], ◌∷◌, ◌++◌, map, length, get_or, take, sym, refl, ap, ◌∙◌, subst, arith}
use Rattle.std.proofs.lemmas.List.{append-nil, append_assoc, length-append, take_more, length_push, map_push}
use Rattle.journal.specs.Journal.{Journal}
use Rattle.journal.specs.Steps.{Request, Reply, Step}
use Rattle.runs.specs.declared.model.Call.{Call}
use Rattle.runs.specs.Runs.{Answer, request, reply, RunFrom, RanMore}

pub ran_none : (k : Journal) (calls : List Call) (before after : List Answer) → after ≡ before → RanMore k calls before after k
ran_none k calls before after same = ([], (same ∙ sym (append-nil before), refl))

snoc : (k : Journal) (cs : List Request) (ys : List Reply) (m : Journal) (c : Request) (a : Reply) (k' : Journal) → RunFrom k cs ys m → Step m c a k' → RunFrom k (cs ++ c ∷ []) (ys ++ a ∷ []) k'
snoc k [] [] m c a k' run step = (k', (subst (λ (x : Journal). Step x c a k') run step, refl))
snoc k [] (y ∷ ys) m c a k' run step = absurd run
snoc k (d ∷ cs) [] m c a k' run step = absurd run
snoc k (d ∷ cs) (y ∷ ys) m c a k' run step = (run.0, (run.1.0, snoc run.0 cs ys m c a k' run.1.1 step))

-- the i answers so far are those of the first i calls
pub ran_more : (k m k' : Journal) (calls : List Call) (before after after' : List Answer) (i : ℕ) (x : Call) (a : Answer) → length after ≡ length before + i → i < length calls → x ≡ get_or calls i x → after' ≡ after ++ a ∷ []
    → Step m (request x) (reply a) k' → RanMore k calls before after m → RanMore k calls before after' k'
ran_more k m k' calls before after after' i x a count less is pushed step (given, (split, run)) =
    let n : length given ≡ i = omega (arith, ap length split, length-append before given) in
    let c : length (given ++ a ∷ []) ≡ i + 1 = omega (arith, length_push given a) in
    let cs : map request (take (length (given ++ a ∷ [])) calls) ≡ map request (take (length given) calls) ++ request x ∷ [] =
    ap (λ j. map request (take j calls)) c ∙ ap (map request) (take_more calls i x less) ∙ map_push request (take i calls) (get_or calls i x)
    ∙ ap (λ y. map request (take i calls) ++ request y ∷ []) (sym is) ∙ ap (λ j. map request (take j calls) ++ request x ∷ []) (sym n)
    in (
      given ++ a ∷ [],
      (
        pushed ∙ ap (λ xs. xs ++ a ∷ []) split ∙ append_assoc before given (a ∷ []),
        subst (λ (xs : List Request). RunFrom k xs (map reply (given ++ a ∷ [])) k') (sym cs)
            (subst (λ (ys : List Reply). RunFrom k (map request (take (length given) calls) ++ request x ∷ []) ys k') (sym (map_push reply given a)) (snoc k _ _ m (request x) (reply a) k' run step)),
      ),
    )
