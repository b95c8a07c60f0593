use Rattle.pearl_object.proofs.WordTable.{no_word_found}
use Rattle.pearl_object.proofs.routines.is_no_word.Goals as goal

pub returns : goal.returns
returns c =
    no_word_found _ c.args.text.now c.find_word.result c.is_none.result c.words.ensures.words c.find_word.ensures.found c.find_word.ensures.none c.is_none.ensures
