-- What reading a parameter of a list answers: whether tokens spell it depends on those before its end alone.
use Rattle.std.proofs.Common.{arith}
use Rattle.pearl_tree.specs.Declarations.{SpellsParam}
use Rattle.pearl_parse_decl.proofs.Kept.{contained_of, param_keeps}
use Rattle.pearl_parse_decl.proofs.head.ParamReadable.read.Goals as goal

pub returns-clause-contained : goal.returns-clause-contained
returns-clause-contained c = contained_of 2 SpellsParam (omega arith) param_keeps
