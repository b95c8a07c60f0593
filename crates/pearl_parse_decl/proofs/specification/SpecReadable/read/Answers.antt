-- What reading a specification of a list answers: whether tokens spell it depends on those before its end alone.
use Rattle.std.proofs.Common.{arith}
use Rattle.pearl_tree.specs.Declarations.{SpellsSpec}
use Rattle.pearl_parse_decl.proofs.Kept.{contained_of, spec_keeps}
use Rattle.pearl_parse_decl.proofs.specification.SpecReadable.read.Goals as goal

pub returns-clause-contained : goal.returns-clause-contained
returns-clause-contained c = contained_of 2 SpellsSpec (omega arith) spec_keeps
