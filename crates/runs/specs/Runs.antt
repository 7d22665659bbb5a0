-- Any list of calls on a sheet, told by the journal.
use Rattle.std.specs.Prelude.{◌≡◌, List, [], ◌∷◌, ◌++◌, map, length, take, Ok, Err, vec_items, Result}
use Rattle.std.specs.declared.alloc.AllocError.{AllocError}
use Rattle.faults.specs.declared.model.SheetFault.{SheetFault}
use Rattle.journal.specs.Journal.{Journal}
use Rattle.journal.specs.Steps.{Request, load, bind, rule, withdraw, ask, settle, Reply, done, refused, difference, plan, Step}
use Rattle.runs.specs.declared.model.Call.{Call}
use Rattle.runs.specs.declared.model.Call.TheVariants as call
use Rattle.runs.specs.declared.model.Told.{Told}
use Rattle.runs.specs.declared.model.Told.TheVariants as told

abbrev pub request : Call → Request
request (call.Load span platform stays) = load span platform (vec_items stays)
request (call.Bind letter b) = bind letter b
request (call.Rule i j word) = rule i j word
request call.Withdraw = withdraw
request (call.Ask letter p q) = ask letter p q
request (call.Settle places trials) = settle places trials

abbrev pub Answer : Type 0
Answer = Result Told SheetFault

abbrev pub reply : Answer → Reply
reply (Ok told.Done) = done
reply (Ok (told.Difference t)) = difference t
reply (Ok (told.Plan places trials)) = plan (vec_items places) (vec_items trials)
reply (Err f) = refused f

-- a list of calls, answered in order
abbrev pub RunFrom : Journal → List Request → List Reply → Journal → Type 0
RunFrom k [] [] k' = k' ≡ k
RunFrom k [] (a ∷ more) k' = ⊥
RunFrom k (c ∷ cs) [] k' = ⊥
RunFrom k (c ∷ cs) (a ∷ more) k' = (m : Journal) × (Step k c a m × RunFrom m cs more k')

-- one call: its answer is a step of the journal; for want of memory for the answer nothing has changed
abbrev pub Answered : Journal → Request → Result Answer AllocError → Journal → Type 0
Answered k c (Ok a) k' = Step k c (reply a) k'
Answered k c (Err e) k' = k' ≡ k

-- the calls that were answered, from the first on, are a run from one journal to another
abbrev pub Ran : Journal → List Call → List Answer → Journal → Type 0
Ran k calls given k' = RunFrom k (map request (take (length given) calls)) (map reply given) k'

-- and their answers stand behind those that stood before
abbrev pub RanMore : Journal → List Call → List Answer → List Answer → Journal → Type 0
RanMore k calls before after k' = (given : List Answer) × ((after ≡ before ++ given) × Ran k calls given k')
