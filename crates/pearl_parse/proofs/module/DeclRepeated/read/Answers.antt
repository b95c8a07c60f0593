-- That a declaration is no empty part, and depends on its own tokens alone.
use Rattle.std.proofs.Common.{arith}
use Rattle.pearl_tree.specs.Modules.{SpellsDecl}
use Rattle.pearl_parse_decl.proofs.Offered.{contained_of}
use Rattle.pearl_parse.proofs.LocalModules.{decl_keeps}
use Rattle.pearl_parse.proofs.module.DeclRepeated.read.Goals as goal

pub returns-clause-contained : goal.returns-clause-contained
returns-clause-contained c =
    contained_of 4 SpellsDecl (omega arith) decl_keeps
