-- What `fmt` answers: an item that needs no width, one that needs it and has none, or no item begins.
use Rattle.std.proofs.Common.{rules, ◌+◌, refl, ◌∙◌, arith}
use Rattle.pearl_tree.specs.Standing.{SpellsBracketedNumber}
use Rattle.pearl_tree.specs.Formats.{SpellsFmt}
use Rattle.pearl_parse_expr.proofs.Offered.{halted, longest_read}
use Rattle.pearl_parse_decl.proofs.Behind.{maybe_is_read, none_read, part_ends, part_unread}
use Rattle.pearl_parse_decl.proofs.Leaves.{fmt_begins, free_holds, only_wide, wide_holds}
use Rattle.pearl_parse_decl.proofs.format.fmt.Goals as goal

pub returns-in-Some-clause-reads : goal.returns-in-Some-clause-reads
returns-in-Some-clause-reads c =
    part_ends (free_holds c.args.tokens.now c.args.from c.in-Some.code c.in-Some.ensures.some)
    (maybe_is_read c.maybe_number-width.ensures) (search rules) (search rules) (search rules)

pub returns-in-Err-clause-reads : goal.returns-in-Err-clause-reads
returns-in-Err-clause-reads c =
    longest_read _
    (part_unread (wide_holds c.args.tokens.now c.args.from c.in-Some-wide_at.code c.in-Some-wide_at.ensures.some)
    (halted SpellsBracketedNumber SpellsFmt c.args.tokens.now c.args.from (c.args.from + 1) c.in-Err.halt (omega arith)
    (λ others stop near agree x to h.
    let read = only_wide others c.args.from
    (λ code stands. c.in_default.ensures.none refl code (agree c.args.from (omega (arith, near)) ∙ stands)) x to h in
    (read.0, to, read.1)) c.in-Err.ensures.reads.refused) c.in-Err.ensures.reads.refused c.in-Err.ensures.reads.least)

pub returns-in-None-clause-reads : goal.returns-in-None-clause-reads
returns-in-None-clause-reads c = none_read (search rules) (fmt_begins c.args.tokens.now c.args.from c.requires)
