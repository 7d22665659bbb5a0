use Rattle.std.proofs.Common.{◌≡◌, ◌≤◌, [], ◌++◌, length, drop, arith, rules}
use Rattle.page.specs.Pages.{most}
use Rattle.page.proofs.Fills.{put_loan, put_bytes}
use Rattle.page.proofs.fill_counted.Goals as goal

pub returns : goal.returns
returns g c = λ told puts needed.
    let far : length c.args.buffer.now ≤ most = omega arith in
    let room : length told ≤ length c.args.buffer.now = omega arith in
    let after = puts _ _ c.write.ensures in
    let loan = put_loan c.new-page.result told in
    let whole = put_bytes c.new-page.result [] c.args.buffer.now told c.new-page.ensures.bytes (omega arith) room (omega arith) in
    let same : c.write.new.arg2.bytes.ghost_name ≡ c.new-page.result.bytes.ghost_name = cc in
    let last : c.write.new.arg2.bytes.now ≡ told ++ drop (length told) c.args.buffer.now = cc in
    record { room = room; count = omega arith; bytes = search rules }
