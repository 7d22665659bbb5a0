use Rattle.std.proofs.lemmas.Result.{err_from_is_err_and}
use Rattle.reader.proofs.Reading.{refused_fields, refused_load, all_read}
use Rattle.reader.proofs.reader.read.Goals as goal

pub returns-in_err-fields : goal.returns-in_err-fields
returns-in_err-fields g c =
    let p = err_from_is_err_and c.from_residual.result c.from_residual.ensures.1 in
    rw (p.1, p.2) (refused_fields c.args.image.now c.args.sheet.now _ c.in_err-fields.ensures.answer)

pub returns-in_err-load_from : goal.returns-in_err-load_from
returns-in_err-load_from g c =
    let p = err_from_is_err_and c.from_residual-in_err-load_from.result c.from_residual-in_err-load_from.ensures.1 in
    rw (p.1, p.2) (refused_load c.args.image.now c.args.sheet.now c.in_ok-fields.ensures.answer _ _ c.in_err-load_from.ensures)

pub returns : goal.returns
returns g c = all_read c.args.image.now c.args.sheet.now c.in_ok-fields.ensures.answer c.in_ok-fields.fields c.in_ok-fields.ensures.told _ c.in_ok-load_from.ensures _ _ c.bind_or_renew.ensures
