-- The texts that are printed.
use Rattle.std.specs.Prelude.{ℕ, ◌+◌, List, [], ◌∷◌, ◌++◌, length, codes, decimal}
use Rattle.boxes.specs.declared.model.Place.{Place}
use Rattle.faults.specs.declared.model.ImageFault.{ImageFault}
use Rattle.faults.specs.declared.model.Layer.{Layer}
use Rattle.faults.specs.declared.model.Layer.TheVariants as layer
use Rattle.faults.specs.Numbers.{cause_number, cause_layer}

abbrev pub space : ℕ
space = 32

abbrev pub newline : ℕ
newline = 10

-- a number in decimal and the byte that ends it
abbrev pub number_then : ℕ → ℕ → List ℕ
number_then n mark = decimal n ++ mark ∷ []

-- a stay's number, its step and its metre
abbrev pub stay_line : ℕ → Place → List ℕ
stay_line n p = number_then n space ++ (number_then p.step space ++ number_then p.metre newline)

-- the stays, numbered from n
abbrev pub stay_lines : ℕ → List Place → List ℕ
stay_lines n [] = []
stay_lines n (p ∷ places) = stay_line n p ++ stay_lines (n + 1) places

-- how many stays
abbrev pub plan_head : ℕ → List ℕ
plan_head n = codes "plan " ++ number_then n newline

abbrev pub plan_text : List Place → List ℕ
plan_text places = plan_head (length places) ++ stay_lines 1 places

abbrev pub no_plan_text : List ℕ
no_plan_text = codes "no plan" ++ newline ∷ []

abbrev pub layer_word : Layer → List ℕ
layer_word layer.Axis = codes "axis"
layer_word layer.Sheet = codes "sheet"
layer_word layer.Image = codes "image"

-- the fault's number, the innermost layer and the byte
abbrev pub fault_text : ImageFault → List ℕ
fault_text f =
    codes "fault " ++ (number_then (cause_number f.cause) space ++ (layer_word (cause_layer f.cause) ++ (space ∷ number_then f.offset newline)))
