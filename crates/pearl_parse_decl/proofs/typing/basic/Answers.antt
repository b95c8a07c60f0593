-- What `basic` answers: a sort with a length or without it, or no basic type.
use Rattle.std.proofs.Common.{rules, arith}
use Rattle.pearl_tree.specs.Types.{SpellsBasic}
use Rattle.pearl_grammar.proofs.Offered as fact
use Rattle.pearl_grammar.proofs.Offered.{begins}
use Rattle.pearl_parse_decl.proofs.Behind.{maybe_is_read, none_read, part_ends}
use Rattle.pearl_parse_decl.proofs.Leaves.{sized_holds}
use Rattle.pearl_parse_decl.proofs.typing.basic.Goals as goal

pub returns-in-Some-clause-reads : goal.returns-in-Some-clause-reads
returns-in-Some-clause-reads c =
    part_ends (sized_holds c.args.tokens.now c.args.from c.in-Some.sort c.in-Some.ensures.some)
    (maybe_is_read c.maybe_number-number.ensures) (search rules) (search rules) (search rules)

pub returns-clause-reads : goal.returns-clause-reads
returns-clause-reads c = none_read (search rules)
    (begins SpellsBasic fact.basic 16 (omega arith) c.args.tokens.now c.args.from c.requires)
