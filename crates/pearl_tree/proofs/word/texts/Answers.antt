use Rattle.std.proofs.Common.{refl}
use Rattle.pearl_tree.specs.Words.{word_texts, meanings}
use Rattle.pearl_tree.proofs.word.texts.Goals as goal

pub returns : goal.returns
unfolding word_texts meanings
returns c = refl
