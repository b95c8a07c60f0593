-- That an assignment, or a call without CALL, is read, or the least stop is told.
use Rattle.std.proofs.Common.{ℕ, ◌+◌, ◌<◌, ◌^◌, max, length, rules, refl, sym, ap, subst, arith}
use Rattle.pearl_tree.specs.declared.statement.Stmt.TheVariants as stmt
use Rattle.pearl_tree.specs.declared.symbol.TheConstants as s
use Rattle.pearl_tree.specs.Standing.{HasSymbol}
use Rattle.pearl_parse_expr.specs.Stops.{is_symbol}
use Rattle.pearl_parse.specs.Stops.{IsMissing}
use Rattle.pearl_parse_expr.proofs.Offered.{reading_is}
use Rattle.pearl_grammar.proofs.Offered.{part_missing, token_read, only}
use Rattle.pearl_parse.proofs.StatementRests.{Spelled}
use Rattle.pearl_parse.proofs.Along.{lacking, token_missing, lacks_behind}
use Rattle.pearl_parse.proofs.Unread.{no_memory_read}
use Rattle.pearl_parse.proofs.Named.{no_target, past_becomes, past_value, past_named, past_arguments}
use Rattle.pearl_parse.proofs.call.named.Goals as goal

pub returns-in_err-target : goal.returns-in_err-target
returns-in_err-target c = λ depth.
    let few : length c.args.tokens.now < 2 ^ 55 = search rules in
    lacking c.in_err-target.field-0.0 c.from_residual.result c.from_residual.ensures
    (no_target c.args.tokens.now depth c.args.from c.requires.within few c.in_err-target.field-0.0 c.requires.name
    c.in_err-target.ensures.named.refused)

pub returns-in_err-value : goal.returns-in_err-value
returns-in_err-value c = λ depth.
    let few : length c.args.tokens.now < 2 ^ 55 = search rules in
    let read = c.in_ok-target.ensures.reads in
    let becomes = c.if-becomes.ensures in
    lacking c.in_err-value.field-0.0 c.from_residual-in_err-value.result c.from_residual-in_err-value.ensures
    (part_missing (past_becomes c.args.tokens.now depth c.args.from c.requires.within few read (sym becomes.value)
    (becomes.stands refl) (becomes.within refl)) (lacks_behind c.in_err-value.ensures) (omega (arith, read.ahead))
    (omega arith))

pub returns-in_err-symbol : goal.returns-in_err-symbol
returns-in_err-symbol c = λ depth.
    let few : length c.args.tokens.now < 2 ^ 55 = search rules in
    let becomes = c.if-becomes.ensures in
    token_missing c.in_err-symbol.field-0.0 c.from_residual-in_err-symbol.result c.from_residual-in_err-symbol.ensures
    (is_symbol s.SEMICOLON) (past_value c.args.tokens.now depth c.args.from c.requires.within few
    c.in_ok-target.ensures.reads (sym becomes.value) (becomes.stands refl) (becomes.within refl) c.in_ok-value.ensures)
    c.in_err-symbol.ensures.missing (refl, tt) (omega arith) (omega arith)

pub returns-then-becomes : goal.returns-then-becomes
returns-then-becomes c = λ depth.
    let few : length c.args.tokens.now < 2 ^ 55 = search rules in
    let read = c.in_ok-target.ensures.reads in
    let becomes = c.if-becomes.ensures in
    let value = c.in_ok-value.value in
    let symbol = c.in_ok-symbol.ensures in
    let to : ℕ = value.end + 1 in
    rw (reading_is c.map.result (stmt.Assign c.in_ok-boxed.field-0.part) to (max value.stop to) (search rules)
    (search rules) (search rules))
    (only _ (token_read (past_value c.args.tokens.now depth c.args.from c.requires.within few read (sym becomes.value)
    (becomes.stands refl) (becomes.within refl) c.in_ok-value.ensures) refl symbol.stands symbol.within) refl
    (omega (arith, read.ahead, c.in_ok-value.ensures.bounds)) (search rules))

pub returns-in_err-maybe_bracketed : goal.returns-in_err-maybe_bracketed
returns-in_err-maybe_bracketed c = λ depth.
    no_memory_read 24 (Spelled depth) c.args.tokens.now c.args.from _ c.in_err-maybe_bracketed.field-0.0
    c.from_residual-in_err-maybe_bracketed.result c.from_residual-in_err-maybe_bracketed.ensures (λ e is. is)
    c.in_err-maybe_bracketed.ensures.memory

pub returns-in_err-symbol-2 : goal.returns-in_err-symbol-2
returns-in_err-symbol-2 c = λ depth.
    let few : length c.args.tokens.now < 2 ^ 55 = search rules in
    let missing = subst (λ arguments. IsMissing c.args.tokens.now (is_symbol s.SEMICOLON) arguments.end arguments.stop
    c.in_err-symbol-2.field-0.0) c.no_earlier-arguments.ensures c.in_err-symbol-2.ensures.missing in
    token_missing c.in_err-symbol-2.field-0.0 c.from_residual-in_err-symbol-2.result
    c.from_residual-in_err-symbol-2.ensures (is_symbol s.SEMICOLON)
    (past_arguments c.args.tokens.now depth c.args.from c.requires.within few
    (past_named c.args.tokens.now depth c.args.from c.requires.within few c.in_ok-target.ensures.reads
    (sym c.if-becomes.ensures.value)) c.in_ok-maybe_bracketed.ensures.reads refl) missing (refl, tt) (omega arith)
    (omega arith)

pub returns : goal.returns
returns c = λ depth.
    let few : length c.args.tokens.now < 2 ^ 55 = search rules in
    let tokens = c.args.tokens.now in
    let arguments = c.in_ok-maybe_bracketed.field-0 in
    let read = c.in_ok-maybe_bracketed.ensures.reads in
    let symbol = c.in_ok-symbol-2.ensures in
    let raised = c.no_earlier-arguments.ensures in
    let stands = subst (λ arguments. HasSymbol tokens arguments.end s.SEMICOLON) raised symbol.stands in
    let within = subst (λ arguments. arguments.end < length tokens) raised symbol.within in
    let to : ℕ = arguments.end + 1 in
    let stop : ℕ = max arguments.stop c.in_ok-target.target.stop in
    rw (reading_is c.map-3.result (stmt.Call c.in_ok-boxed-2.field-0.part) to (max stop to) (search rules)
    (omega (
      arith,
      c.map-3.ensures.end,
      c.in_ok-boxed-2.ensures.end,
      c.map-call.ensures.end,
      c.map-2.ensures.end,
      ap (λ reading. reading.end) c.past-2.ensures,
      ap (λ reading. reading.end) raised,
    ))
    (omega (
      arith,
      c.map-3.ensures.stop,
      c.in_ok-boxed-2.ensures.stop,
      c.map-call.ensures.stop,
      c.map-2.ensures.stop,
      ap (λ reading. reading.stop) c.past-2.ensures,
      ap (λ reading. reading.end) raised,
      ap (λ reading. reading.stop) raised,
    )))
    (only _ (token_read (past_arguments tokens depth c.args.from c.requires.within few
    (past_named tokens depth c.args.from c.requires.within few c.in_ok-target.ensures.reads
    (sym c.if-becomes.ensures.value)) read refl) refl stands within) refl (omega (arith, read.bounds)) (search rules))
