-- The text of a plan tells the plan.
use Rattle.std.specs.Prelude.{◌≡◌, ◌^◌, ◌<◌, List, length}
use Rattle.std.specs.List.{AllByRecursion}
use Rattle.boxes.specs.declared.model.Place.{Place}
use Rattle.text.specs.Texts.{plan_text}

-- a place's numbers have 16 bits
abbrev pub Short : Place → Type 0
Short p = (p.step < 2 ^ 16) × (p.metre < 2 ^ 16)

-- places as a slice of the memory holds them
abbrev pub Held : List Place → Type 0
Held places = (length places < 2 ^ 64) × AllByRecursion Short places

abbrev pub PlanTextTells : Type 0
PlanTextTells = (places others : List Place) → Held places → Held others → plan_text places ≡ plan_text others → places ≡ others
