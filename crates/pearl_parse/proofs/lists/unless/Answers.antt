-- What `unless` answers: none where the word stands, and elsewhere what the list's reader does.
use Rattle.std.proofs.Common.{refl, sym}
use Rattle.pearl_parse.proofs.Unless.{none_there, list_there}
use Rattle.pearl_parse.proofs.lists.unless.Goals as goal

pub returns-then-is_word : goal.returns-then-is_word
returns-then-is_word g c =
    none_there c.requires (c.if-is_word.ensures.stands refl) (sym c.if-is_word.ensures.value) c.none.ensures

pub returns : goal.returns
returns g c = list_there c.list.result (sym c.if-is_word.ensures.value) c.list.ensures.reads
