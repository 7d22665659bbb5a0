use Rattle.std.proofs.Common.{arith, rules, ◌≡◌, ◌<◌, false, not, length, get_or, is_some, IfSome}
use Rattle.std.specs.List.{count_by}
use Rattle.std.proofs.lemmas.Grind.{common_steps}
use Rattle.boxes.specs.Order.{no_trial}
use Rattle.trials.proofs.Picks.{picked}
use Rattle.trials.proofs.picker.pick.Goals as goal

pub returns : goal.returns
returns g c =
    let ts = c.args.trials.now in
    let some : IfSome c.map.result (λ k. (k < length ts) × (is_some (get_or ts k no_trial).word ≡ false)) = search rules in
    let none : is_some c.map.result ≡ false → count_by (λ t. not (is_some t.word)) ts ≡ 0 = λ e. grind (arith, common_steps) in
    picked ts c.map.result some none
