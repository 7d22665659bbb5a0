-- A fault carried whole inside that of the layer above.
use Rattle.axis.specs.declared.model.AxisFault.{AxisFault}
use Rattle.faults.specs.declared.model.SheetFault.{SheetFault}
use Rattle.faults.specs.declared.model.SheetFault.TheVariants as sheet
use Rattle.faults.specs.declared.model.Cause.{Cause}
use Rattle.faults.specs.declared.model.Cause.TheVariants as cause
use Rattle.faults.specs.declared.model.ImageFault.{ImageFault}

abbrev pub in_sheet : AxisFault → SheetFault
in_sheet f = sheet.Axis f

-- a letter that names no axis, and one that names no word
abbrev pub no_direction : SheetFault
no_direction = sheet.Letter

abbrev pub no_word : SheetFault
no_word = sheet.Word

abbrev pub in_cause : SheetFault → Cause
in_cause f = cause.Sheet f

-- at byte 0, until the reader says where
abbrev pub in_image : SheetFault → ImageFault
in_image f = record { offset = 0; cause = in_cause f }
