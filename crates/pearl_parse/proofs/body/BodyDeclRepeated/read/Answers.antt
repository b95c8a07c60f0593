-- That a declaration of a body is no empty part, and depends on its own tokens alone.
use Rattle.std.proofs.Common.{arith}
use Rattle.pearl_tree.specs.Statements.{SpellsBodyDecl}
use Rattle.pearl_parse_decl.proofs.Offered.{contained_of}
use Rattle.pearl_parse.proofs.LocalStatements.{body_declaration_keeps}
use Rattle.pearl_parse.proofs.body.BodyDeclRepeated.read.Goals as goal

pub returns-clause-contained : goal.returns-clause-contained
returns-clause-contained c =
    contained_of 2 SpellsBodyDecl (omega arith) body_declaration_keeps
