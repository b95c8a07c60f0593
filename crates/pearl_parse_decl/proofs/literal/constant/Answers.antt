-- What `constant` answers: the literal behind the sign isn't read, or it is.
use Rattle.std.proofs.Common.{rules, ℕ, ◌≡◌, ◌≤◌, ◌<◌, ◌^◌, Ok, List, length, arith}
use Rattle.pearl_tree.specs.declared.token.Token.{Token}
use Rattle.pearl_tree.specs.declared.literal.Sign.{Sign}
use Rattle.pearl_tree.specs.Standing.{SpellsMaybe}
use Rattle.pearl_tree.specs.Expressions.{SpellsSign, SpellsConst}
use Rattle.pearl_parse_expr.specs.declared.reading.Reading.{Reading}
use Rattle.std.proofs.Common.{Option}
use Rattle.pearl_grammar.specs.Rules.{Then, End}
use Rattle.pearl_grammar.specs.Reached.{never}
use Rattle.pearl_parse_decl.specs.Readings.{ReadsMaybePart, is_sign}
use Rattle.pearl_parse_decl.proofs.Constants.{literal_is_no_sign}
use Rattle.pearl_grammar.specs.Declarations.{literal}
use Rattle.pearl_grammar.proofs.Offered as leaf
use Rattle.pearl_grammar.proofs.Offered.{constant_start, Walk, mark_read, part_read, part_taken, part_missing}
use Rattle.pearl_grammar.proofs.Offered.{took_once, took_longest, lacks, longest, none_longest}
use Rattle.pearl_parse_decl.proofs.literal.constant.Goals as goal

-- behind the sign
signed : (tokens : List Token) (from : ℕ) → from ≤ length tokens → length tokens < 2 ^ 55 → (sign : Reading (Option Sign)) →
    ReadsMaybePart 16 (λ tokens. SpellsMaybe (SpellsSign tokens)) is_sign tokens from (Ok sign) → sign.stop ≡ sign.end →
    Walk 16 SpellsConst tokens from 0 (Then literal End) (leaf.a_literal, tt) never sign.end sign.stop
signed tokens from within few sign read once =
    part_read (mark_read (constant_start tokens from within few))
    (took_once {inner = 0} {new = sign.stop} read once (omega (arith, read.bounds)) within)
    ((λ token h. literal_is_no_sign token h), tt) (omega arith) (omega arith) (omega arith)

pub returns-in-Err : goal.returns-in-Err
returns-in-Err c =
    let read = c.sign-sign.ensures in
    none_longest _ (part_missing (signed c.args.tokens.now c.args.from c.requires (search rules) c.sign-sign.result read.reads
    read.once) (lacks c.in-Err.halt c.behind.result c.in-Err.ensures.reads.refused c.in-Err.ensures.reads.least
    c.behind.ensures.same (omega (arith, read.reads.bounds))) (omega (arith, read.reads.bounds)) (omega arith))

pub returns-in-Ok : goal.returns-in-Ok
returns-in-Ok c =
    let read = c.sign-sign.ensures in
    longest _ (part_taken (signed c.args.tokens.now c.args.from c.requires (search rules) c.sign-sign.result read.reads
    read.once) (took_longest {new = c.max.result} c.in-Ok.ensures.reads c.max.ensures (omega (arith, read.reads.bounds))) tt
    (omega (arith, read.reads.bounds)) (omega arith)) (omega (arith, c.max.ensures, c.in-Ok.ensures.reads.ahead))
    (λ token h. h) (omega (arith, read.reads.bounds, c.in-Ok.ensures.reads.ahead)) (search rules)
