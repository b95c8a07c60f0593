-- What `number` answers where no number stands there.
use Rattle.std.proofs.Common.{rules, refl, arith}
use Rattle.pearl_tree.specs.Standing.{SpellsNumber}
use Rattle.pearl_parse_expr.specs.Stops.{is_number}
use Rattle.pearl_grammar.proofs.Offered as leaf
use Rattle.pearl_grammar.proofs.Offered.{leaf_starts, missing, none_only}
use Rattle.pearl_parse_decl.proofs.name.number.Goals as goal

pub returns-in-None-clause-reads : goal.returns-in-None-clause-reads
returns-in-None-clause-reads c =
    none_only _ (missing is_number (leaf_starts SpellsNumber leaf.number c.args.tokens.now c.args.from c.requires
    (search rules)) (c.in-None.ensures.none refl) ((λ value. refl), tt) (omega arith) (omega arith) (omega arith))
