-- What `bounds` answers: want of memory, or bounds in brackets, which may be missing.
use Rattle.std.proofs.Common.{rules, arith}
use Rattle.pearl_parse_decl.proofs.Behind.{no_memory_maybe}
use Rattle.pearl_grammar.proofs.Offered.{bounds_start, part_taken, took_maybe_list, maybe}
use Rattle.pearl_parse_decl.proofs.typing.bounds.Goals as goal

pub returns-in-Ok-clause-reads : goal.returns-in-Ok-clause-reads
returns-in-Ok-clause-reads c =
    let read = c.in-Ok.ensures.reads in
    maybe _ (part_taken (bounds_start c.args.tokens.now c.args.from c.requires (search rules))
    (took_maybe_list {new = c.in-Ok.list.stop} read (omega (arith, read.bounds)) c.requires) tt (omega arith) (omega arith))
    (omega (arith, read.bounds)) (λ token h. h) (search rules)

pub returns-in-Err-clause-reads : goal.returns-in-Err-clause-reads
returns-in-Err-clause-reads c = no_memory_maybe c.in-Err.halt c.in-Err.ensures.memory
