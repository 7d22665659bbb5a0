use Rattle.reader.specs.Located.{load_offset}
use Rattle.reader.proofs.Calling.{called_done, called_refused, load_told}
use Rattle.reader.proofs.reader.load_from.Goals as goal

pub returns-in-Err : goal.returns-in-Err
returns-in-Err g c = rw (c.load_offset.ensures, c.into.ensures) (called_refused (load_offset c.args.image.now) c.args.sheet.now _ _ _ (load_told c.args.image.now c.args.fields.now c.requires c.stays.result.now c.stays.ensures) c.in-Err.fault c.in-Err.ensures)

pub returns : goal.returns
returns g c = called_done (load_offset c.args.image.now) c.args.sheet.now _ _ _ (load_told c.args.image.now c.args.fields.now c.requires c.stays.result.now c.stays.ensures) c.in_default.ensures
