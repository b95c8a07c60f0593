-- What `name` answers where no name stands there.
use Rattle.std.proofs.Common.{rules, refl, arith}
use Rattle.pearl_tree.specs.Standing.{SpellsName}
use Rattle.pearl_parse_expr.specs.Stops.{is_name}
use Rattle.pearl_grammar.proofs.Offered.{id, leaf_starts, missing, none_only}
use Rattle.pearl_parse_decl.proofs.name.name.Goals as goal

pub returns-in-None-clause-reads : goal.returns-in-None-clause-reads
returns-in-None-clause-reads c =
    none_only _ (missing is_name (leaf_starts SpellsName id c.args.tokens.now c.args.from c.requires (search rules))
    (c.in-None.ensures.none refl) ((λ name. refl), tt) (omega arith) (omega arith) (omega arith))
