use Rattle.std.proofs.Common.{refl}
use Rattle.pearl_tree.specs.Words.{meanings}
use Rattle.pearl_tree.specs.Symbols.{symbol_texts}
use Rattle.pearl_tree.proofs.table_laws.words_are_counted.Goals as goal

pub returns-clause-words : goal.returns-clause-words
unfolding meanings
returns-clause-words c = refl

pub returns-clause-symbols : goal.returns-clause-symbols
unfolding symbol_texts
returns-clause-symbols c = refl
