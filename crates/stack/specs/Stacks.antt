-- What the calls on a stack do.
use Rattle.std.specs.Prelude.{◌≡◌, ◌+◌, ◌<◌, List, [], ◌∷◌, ◌++◌, length, take, Ok, Err, Result, slice_index_or, slice_set}
use Rattle.std.specs.Borrow.{GName}
use Rattle.stack.specs.declared.Stack.{Stack}
use Rattle.stack.specs.declared.fault.StackFault.{StackFault}
use Rattle.stack.specs.declared.fault.StackFault.TheVariants.{Full, Empty}

-- every slot that was lent, those with no element too
abbrev pub memory : {E : Type 0} → Stack E → List E
memory s = s.slots.now

-- the elements, oldest first
abbrev pub contents : {E : Type 0} → Stack E → List E
contents s = take s.len (memory s)

-- which loan the memory is: as it stays, the lender has afterwards what the stack's memory held last
abbrev pub loan : {E : Type 0} → Stack E → GName
loan s = s.slots.ghost_name

-- no element, on the memory that was lent
pub record Fresh {E : Type 0} (lent : List E) (s : Stack E) : Type 0 where
  pub items : contents s ≡ []
  pub places : memory s ≡ lent
  pub count : s.len ≡ 0

-- t is s with x on top
pub record Put {E : Type 0} (s : Stack E) (x : E) (t : Stack E) : Type 0 where
  pub space : s.len < length (memory s)
  pub items : contents t ≡ contents s ++ x ∷ []
  pub places : memory t ≡ slice_set (memory s) s.len x
  pub count : t.len ≡ s.len + 1

-- t is s without its newest element x, whose slot is blank
pub record Taken {E : Type 0} (blank : E) (s : Stack E) (x : E) (t : Stack E) : Type 0 where
  pub items : contents s ≡ contents t ++ x ∷ []
  pub top : x ≡ slice_index_or (memory s) t.len blank
  pub places : memory t ≡ slice_set (memory s) t.len blank
  pub count : s.len ≡ t.len + 1

abbrev pub Pushed : {E : Type 0} → Stack E → E → Stack E → Result (Unit {0}) StackFault → Type 0
Pushed s x t (Ok _) = Put s x t
Pushed s x t (Err e) = (s.len ≡ length (memory s)) × (e ≡ Full) × (t ≡ s)

abbrev pub Popped : {E : Type 0} → E → Stack E → Stack E → Result E StackFault → Type 0
Popped blank s t (Ok x) = Taken blank s x t
Popped blank s t (Err e) = (s.len ≡ 0) × (e ≡ Empty) × (t ≡ s)
