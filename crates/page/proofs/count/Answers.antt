use Rattle.std.proofs.Common.{◌≡◌, ◌+◌, min, length, arith}
use Rattle.page.specs.Pages.{most}
use Rattle.page.proofs.Fills.{put_len}
use Rattle.page.proofs.count.Goals as goal

pub returns : goal.returns
returns g c = λ told puts.
    let after = puts _ _ c.write.ensures in
    let total = put_len c.new-page.result told (omega arith) in
    let short : min (c.new-page.result.len + length told) most ≡ min (length told) most = omega arith in
    cc
