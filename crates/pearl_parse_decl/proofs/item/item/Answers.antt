-- What `item` answers where no names stand there.
use Rattle.std.proofs.Common.{rules, arith}
use Rattle.pearl_grammar.proofs.Offered.{item_start, mark_read, part_missing, lacks_first, none_longest}
use Rattle.pearl_parse_decl.proofs.item.item.Goals as goal

pub returns-in-Err : goal.returns-in-Err
returns-in-Err c =
    none_longest _ (part_missing (mark_read (item_start c.args.tokens.now c.args.from c.requires (search rules)))
    (lacks_first c.in-Err.halt c.in-Err.ensures.refused c.in-Err.ensures.least (omega arith)) (omega arith) (omega arith))
