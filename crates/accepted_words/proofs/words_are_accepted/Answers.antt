use Rattle.accepted_words.proofs.Whole.{words_are_accepted}
use Rattle.accepted_words.proofs.words_are_accepted.Goals as goal

pub returns : goal.returns
returns c = words_are_accepted
