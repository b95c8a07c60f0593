use Rattle.pearl_lex.proofs.WordMeaning.{word_meaning}
use Rattle.pearl_lex.proofs.spelling.word_of.Goals as goal

pub returns : goal.returns
returns c = word_meaning _ c.args.text.now c.find_word.result c.words.ensures.words c.find_word.ensures.found c.find_word.ensures.none
