-- What reading a variable or semaphore of a list answers: it depends on the tokens before its end alone.
use Rattle.std.proofs.Common.{arith}
use Rattle.pearl_tree.specs.Declarations.{SpellsDeclared}
use Rattle.pearl_parse_decl.proofs.Kept.{contained_of, declared_keeps}
use Rattle.pearl_parse_decl.proofs.item.DeclaredReadable.read.Goals as goal

pub returns-clause-contained : goal.returns-clause-contained
returns-clause-contained c = contained_of 2 SpellsDeclared (omega arith) declared_keeps
