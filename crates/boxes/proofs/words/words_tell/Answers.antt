use Rattle.boxes.proofs.Lie.{words_tell_lem}
use Rattle.boxes.proofs.words.words_tell.Goals as goal

pub returns : goal.returns
returns c = words_tell_lem
