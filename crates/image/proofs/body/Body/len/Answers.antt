use Rattle.std.proofs.Common.{◌≤◌, arith, rules}
use Rattle.image.specs.Bodies.{told}
use Rattle.image.specs.Bytes.{body_bytes}
use Rattle.image.proofs.Lengths.{body_short}
use Rattle.image.proofs.body.Body.len.Goals as goal

pub overflow_cast-result : goal.overflow_cast-result
overflow_cast-result c =
    let b = c.args.self.now in
    let short = body_short (told b) b.few_stays b.few_entries in
    let count = c.count.ensures (body_bytes (told b)) (λ p q put. search rules) in
    let small : c.count.result ≤ 403 = omega arith in
    search rules

pub returns : goal.returns
returns c =
    let b = c.args.self.now in
    let short = body_short (told b) b.few_stays b.few_entries in
    let count = c.count.ensures (body_bytes (told b)) (λ p q put. search rules) in
    omega arith
