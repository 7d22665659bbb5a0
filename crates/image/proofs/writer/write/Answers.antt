use Rattle.std.proofs.Common.{◌≡◌, ◌+◌, ◌<◌, length, arith, rules}
use Rattle.image.specs.Bytes.{body_bytes, image_bytes}
use Rattle.image.proofs.writer.write.Goals as goal

pub returns-clause-written : goal.returns-clause-written
returns-clause-written g c =
    let len : c.from-needed.result ≡ length (body_bytes c.args.sheet.now) = search rules in
    let far : c.from-needed.result < 65536 = search rules in
    let more : length (image_bytes c.args.sheet.now) ≡ 2 + length (body_bytes c.args.sheet.now) = omega arith in
    c.fill_counted.ensures (image_bytes c.args.sheet.now) (λ p q put. search rules) (omega arith)
