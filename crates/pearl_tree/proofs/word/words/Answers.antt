use Rattle.std.proofs.Common.{refl}
use Rattle.pearl_tree.specs.Words.{meanings}
use Rattle.pearl_tree.proofs.TableOfWords.{exact_are_the_words}
use Rattle.pearl_tree.proofs.word.words.Goals as goal

pub returns-clause-words : goal.returns-clause-words
unfolding meanings
returns-clause-words c = exact_are_the_words _ refl
