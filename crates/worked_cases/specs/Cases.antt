-- Worked cases: a list of calls with their replies, from a new sheet on.
use Rattle.std.specs.Prelude.{◌≡◌, ℕ, List, [], ◌∷◌, map, ℤ, pos, neg_ℤ, Some, None, Option}
use Rattle.axis.specs.declared.model.Bound.{Bound}
use Rattle.axis.specs.declared.model.AxisFault.TheVariants.{NoPlacement}
use Rattle.faults.specs.declared.model.SheetFault.TheVariants as refuse
use Rattle.boxes.specs.declared.model.Entry.{Entry}
use Rattle.boxes.specs.declared.model.Direction.TheVariants.{Time}
use Rattle.journal.specs.declared.model.Stay.{Stay}
use Rattle.journal.specs.declared.model.Window.{Window}
use Rattle.journal.specs.Stays.{lasts}
use Rattle.journal.specs.Journal.{Journal, new}
use Rattle.journal.specs.Steps.{Request, load, bind, rule, withdraw, ask, settle, Reply, done, refused, difference, plan}
use Rattle.runs.specs.Runs.{RunFrom}

-- the letters by their codes
abbrev pub T : ℕ
T = 84

abbrev pub B : ℕ
B = 66

abbrev pub N : ℕ
N = 78

abbrev pub stay : ℕ → ℕ → ℕ → ℕ → Option Window → Stay
stay circuit lead dwell metres window = record { circuit = circuit; lead = lead; dwell = dwell; metres = metres; window = window }

abbrev pub first : Stay
first = stay 90 10 60 60 None

abbrev pub second : Stay
second = stay 120 0 120 60 None

abbrev pub third : Stay
third = stay 60 0 30 40 (Some (record { from = 0; until = 2 }))

abbrev pub bound : ℕ → ℕ → ℤ → Bound
bound p q d = record { p = p; q = q; d = d }

-- no placement would remain
abbrev pub too_tight : Reply
too_tight = refused (refuse.Axis NoPlacement)

-- a call and its reply
abbrev pub Case : Type 0
Case = Request × Reply

-- the calls of a list, given to a new sheet one after the other, have the replies beside them, and lead to this journal
abbrev pub Lead : List Case → Journal → Type 0
Lead cases = RunFrom new (map (λ c. c.0) cases) (map (λ c. c.1) cases)

-- three stays in a span of seven steps, on a platform of a hundred metres
abbrev pub three : List Stay
three = first ∷ second ∷ third ∷ []

abbrev pub three_stays : List Case
three_stays =
    (load 7 100 three, done)
    ∷ (ask T 1 0, difference (pos 4))
    ∷ (ask T 0 1, difference (pos 0))
    ∷ (rule 1 2 B, done)
    ∷ (ask T 1 0, difference (pos 0))
    ∷ (ask T 0 2, difference (neg_ℤ (pos 3)))
    ∷ (ask T 2 1, difference (pos 3))
    ∷ (rule 2 1 B, too_tight)
    ∷ (rule 1 2 N, too_tight)
    ∷ (withdraw, done)
    ∷ (rule 2 1 B, done)
    ∷ (ask T 0 1, difference (neg_ℤ (pos 4)))
    ∷ []

-- the second stay is gone when the first comes
abbrev pub turned : Entry
turned = record { direction = Time; bound = bound 2 1 (neg_ℤ (pos 4)) }

-- a bound of a line with itself
abbrev pub with_itself : List Case
with_itself = (load 7 100 three, done) ∷ (bind T (bound 1 1 (neg_ℤ (pos 1))), too_tight) ∷ (bind T (bound 1 1 (pos 0)), done) ∷ []

abbrev pub itself : Entry
itself = record { direction = Time; bound = bound 1 1 (pos 0) }

-- stays 1 and 2 with one step too few
abbrev pub crowded : List Case
crowded = (load 6 100 (first ∷ second ∷ []), done) ∷ (settle 2 1, refused refuse.NoPlan) ∷ []

-- three stays of one step in a span of twenty
abbrev pub short : Stay
short = stay 30 0 30 10 None

abbrev pub ones : List Stay
ones = short ∷ short ∷ short ∷ []

abbrev pub chain : List Case
chain =
    (load 20 100 ones, done)
    ∷ (bind T (bound 1 2 (neg_ℤ (pos 3))), done)
    ∷ (bind T (bound 2 3 (neg_ℤ (pos 3))), done)
    ∷ (bind T (bound 3 1 (pos 5)), too_tight)
    ∷ (bind T (bound 3 1 (pos 6)), done)
    ∷ []

-- a stay of two steps in a window of so many
abbrev pub windowed : ℕ → ℕ → Stay
windowed from until = stay 60 0 30 10 (Some (record { from = from; until = until }))

abbrev pub windows : List Case
windows = (load 7 100 (windowed 1 3 ∷ []), done) ∷ (load 7 100 (windowed 1 3 ∷ windowed 2 3 ∷ []), refused (refuse.Window 2)) ∷ []

abbrev on_time : Bound → Entry
on_time b = record { direction = Time; bound = b }

abbrev pub holding : ℕ → List Stay → List Entry → Journal
holding span stays entries = record { span = span; platform = 100; stays = stays; entries = entries }

pub record WorkedCases : Type 0 where
  pub one_step : lasts (stay 30 0 30 10 None) ≡ 1
  pub two_steps : lasts (stay 31 0 30 10 None) ≡ 2
  pub no_stays : Lead ((settle 0 0, plan [] []) ∷ []) new
  pub three_stays_lead : Lead three_stays (holding 7 three (turned ∷ []))
  pub with_itself_leads : Lead with_itself (holding 7 three (itself ∷ []))
  pub crowded_leads : Lead crowded (holding 6 (first ∷ second ∷ []) [])
  pub chain_leads : Lead chain (holding 20 ones (on_time (bound 1 2 (neg_ℤ (pos 3))) ∷ on_time (bound 2 3 (neg_ℤ (pos 3))) ∷ on_time (bound 3 1 (pos 6)) ∷ []))
  pub windows_lead : Lead windows (holding 7 (windowed 1 3 ∷ []) [])
