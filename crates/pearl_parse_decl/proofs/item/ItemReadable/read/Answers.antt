-- What reading a variable of a list answers: whether tokens spell it depends on those before its end alone.
use Rattle.std.proofs.Common.{arith}
use Rattle.pearl_tree.specs.Declarations.{SpellsItem}
use Rattle.pearl_parse_decl.proofs.Kept.{contained_of, item_keeps}
use Rattle.pearl_parse_decl.proofs.item.ItemReadable.read.Goals as goal

pub returns-clause-contained : goal.returns-clause-contained
returns-clause-contained c = contained_of 2 SpellsItem (omega arith) item_keeps
