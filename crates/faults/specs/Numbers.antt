-- The number of each refusal, and the innermost layer that it comes from.
use Rattle.std.specs.Prelude.{ℕ}
use Rattle.axis.specs.Asks.{number}
use Rattle.faults.specs.declared.model.SheetFault.{SheetFault}
use Rattle.faults.specs.declared.model.SheetFault.TheVariants as sheet
use Rattle.faults.specs.declared.model.Cause.{Cause}
use Rattle.faults.specs.declared.model.Cause.TheVariants as cause
use Rattle.faults.specs.declared.model.Layer.{Layer}
use Rattle.faults.specs.declared.model.Layer.TheVariants as layer

abbrev pub sheet_number : SheetFault → ℕ
sheet_number sheet.Extents = 11
sheet_number sheet.Stays = 12
sheet_number (sheet.Circuit stay) = 13
sheet_number (sheet.Doors stay) = 14
sheet_number (sheet.Length stay) = 15
sheet_number (sheet.Window stay) = 16
sheet_number sheet.Letter = 17
sheet_number sheet.Entries = 18
sheet_number sheet.Word = 19
sheet_number sheet.Pair = 20
sheet_number sheet.NoEntry = 21
sheet_number sheet.Places = 23
sheet_number sheet.Trials = 24
sheet_number sheet.NoPlan = 25
sheet_number (sheet.Axis fault) = number fault

abbrev pub cause_number : Cause → ℕ
cause_number cause.Length = 31
cause_number cause.Version = 32
cause_number cause.Fields = 33
cause_number cause.StayLength = 34
cause_number cause.Buffer = 35
cause_number (cause.Sheet fault) = sheet_number fault

abbrev pub sheet_layer : SheetFault → Layer
sheet_layer sheet.Extents = layer.Sheet
sheet_layer sheet.Stays = layer.Sheet
sheet_layer (sheet.Circuit stay) = layer.Sheet
sheet_layer (sheet.Doors stay) = layer.Sheet
sheet_layer (sheet.Length stay) = layer.Sheet
sheet_layer (sheet.Window stay) = layer.Sheet
sheet_layer sheet.Letter = layer.Sheet
sheet_layer sheet.Entries = layer.Sheet
sheet_layer sheet.Word = layer.Sheet
sheet_layer sheet.Pair = layer.Sheet
sheet_layer sheet.NoEntry = layer.Sheet
sheet_layer sheet.Places = layer.Sheet
sheet_layer sheet.Trials = layer.Sheet
sheet_layer sheet.NoPlan = layer.Sheet
sheet_layer (sheet.Axis fault) = layer.Axis

abbrev pub cause_layer : Cause → Layer
cause_layer cause.Length = layer.Image
cause_layer cause.Version = layer.Image
cause_layer cause.Fields = layer.Image
cause_layer cause.StayLength = layer.Image
cause_layer cause.Buffer = layer.Image
cause_layer (cause.Sheet fault) = sheet_layer fault
