-- That the end of a module is read, with whether it has a semicolon, or the least stop is told.
use Rattle.std.proofs.Common.{◌≡◌, ◌+◌, refl, sym, ap, ◌<◌, ◌≤◌, ◌^◌, length, rules, arith}
use Rattle.pearl_tree.specs.declared.word_code.TheConstants as w
use Rattle.pearl_parse_expr.specs.Stops.{is_word}
use Rattle.pearl_parse.specs.Modules.{SpellsEnding, is_end}
use Rattle.pearl_parse.proofs.Steps.{err_told, missing_is_refused, missing_behind, ends}
use Rattle.pearl_parse.proofs.ModuleRests.{end_of_tokens_rest, ending_rest, is_end_of_tokens}
use Rattle.pearl_parse.proofs.ModuleRests.{ending_goes, closed_goes, open_goes}
use Rattle.pearl_parse.proofs.ModuleLeast.{no_modend, no_end_behind, no_source_end, close_goes}
use Rattle.pearl_parse.proofs.Unread.{unread_only_behind}
use Rattle.pearl_parse.proofs.module.ending.Goals as goal

pub returns-in_err-word-clause-reads : goal.returns-in_err-word-clause-reads
returns-in_err-word-clause-reads c =
    let tokens = c.args.tokens.now in
    let from = c.args.from in
    let low = c.args.least_stop in
    let few : length tokens < 2 ^ 55 = search rules in
    let halt = c.in_err-word.field-0.0 in
    unread_only_behind _ halt c.from_residual.result c.from_residual.ensures (λ e is. is)
    (missing_behind SpellsEnding tokens from low (is_word w.MODEND) ending_rest from low from halt
    (ending_goes tokens from low)
    (λ others to h. ap (is_word w.MODEND) h) c.requires.least_stop.0 (omega arith)
    (omega (arith, c.requires.least_stop))
    c.requires.least_stop.1 c.in_err-word.ensures.missing)
    (no_modend tokens from low (omega (arith, c.requires.least_stop)) few halt c.in_err-word.ensures.missing)

pub returns-in_err-end_of_tokens-clause-reads : goal.returns-in_err-end_of_tokens-clause-reads
returns-in_err-end_of_tokens-clause-reads c =
    let tokens = c.args.tokens.now in
    let from = c.args.from in
    let low = c.args.least_stop in
    let few : length tokens < 2 ^ 55 = search rules in
    let stop = c.max-stop.result in
    let halt = c.in_err-end_of_tokens.field-0.0 in
    let word = c.in_ok-word.ensures in
    let closed = c.if-is_symbol.ensures in
    unread_only_behind _ halt c.from_residual-in_err-end_of_tokens.result c.from_residual-in_err-end_of_tokens.ensures
    (λ e is. is)
    (missing_behind SpellsEnding tokens from low is_end end_of_tokens_rest (from + 2) stop (from + 2) halt
    (closed_goes tokens from stop (omega (arith, c.max-stop.ensures)) (closed.stands refl))
    (λ others to h. is_end_of_tokens others (from + 2) to h)
    (omega (arith, c.max-stop.ensures)) (omega (arith, c.max-stop.ensures)) (omega (arith, closed.within refl))
    (omega (arith, c.max-stop.ensures, c.requires.least_stop, word.within)) c.in_err-end_of_tokens.ensures.missing)
    (no_end_behind tokens from low (omega (arith, c.requires.least_stop)) few word.stands word.within stop
    c.max-stop.ensures
    (closed.stands refl) (closed.within refl) halt c.in_err-end_of_tokens.ensures.missing)

pub returns-in_err-end_of_tokens-2-clause-reads : goal.returns-in_err-end_of_tokens-2-clause-reads
returns-in_err-end_of_tokens-2-clause-reads c =
    let tokens = c.args.tokens.now in
    let from = c.args.from in
    let low = c.args.least_stop in
    let few : length tokens < 2 ^ 55 = search rules in
    let stop = c.max-stop.result in
    let halt = c.in_err-end_of_tokens-2.field-0.0 in
    let word = c.in_ok-word.ensures in
    unread_only_behind _ halt c.from_residual-in_err-end_of_tokens-2.result
    c.from_residual-in_err-end_of_tokens-2.ensures (λ e is. is)
    (missing_behind SpellsEnding tokens from low is_end end_of_tokens_rest (from + 1) stop (from + 1) halt
    (open_goes tokens from stop (omega (arith, c.max-stop.ensures)) (sym c.if-is_symbol.ensures.value))
    (λ others to h. is_end_of_tokens others (from + 1) to h)
    (omega (arith, c.max-stop.ensures)) (omega (arith, c.max-stop.ensures)) (omega (arith, word.within))
    (omega (arith, c.max-stop.ensures, c.requires.least_stop, word.within)) c.in_err-end_of_tokens-2.ensures.missing)
    (no_source_end tokens from low (omega (arith, c.requires.least_stop)) few word.stands word.within stop
    c.max-stop.ensures
    halt c.in_err-end_of_tokens-2.ensures.missing)

pub returns-then-is_symbol-clause-reads : goal.returns-then-is_symbol-clause-reads
returns-then-is_symbol-clause-reads c =
    let tokens = c.args.tokens.now in
    let from = c.args.from in
    let stop = c.max-stop.result in
    let last : from + 2 ≡ length tokens = c.in_ok-end_of_tokens.ensures.end_of_tokens in
    let below : c.args.least_stop ≤ from + 2 = omega (arith, c.requires.least_stop, last) in
    let symbol = c.if-is_symbol.ensures.stands refl in
    record {
      spells = (c.in_ok-word.ensures.stands, (symbol, omega arith), last);
      only = ends SpellsEnding tokens from end_of_tokens_rest (from + 2) stop (from + 2) (from + 2)
          (closed_goes tokens from stop (omega (arith, c.max-stop.ensures)) symbol)
          (omega (arith, c.max-stop.ensures, below)) (λ others to h. h.0);
      bounds = (omega arith, omega arith, below, omega (arith, last));
      refused = tt;
      least = close_goes tokens from c.args.least_stop (from + 2) below;
    }

pub returns-clause-reads : goal.returns-clause-reads
returns-clause-reads c =
    let tokens = c.args.tokens.now in
    let from = c.args.from in
    let stop = c.max-stop.result in
    let last : from + 1 ≡ length tokens = c.in_ok-end_of_tokens-2.ensures.end_of_tokens in
    let below : c.args.least_stop ≤ from + 1 = omega (arith, c.requires.least_stop, last) in
    record {
      spells = (c.in_ok-word.ensures.stands, refl, last);
      only = ends SpellsEnding tokens from end_of_tokens_rest (from + 1) stop (from + 1) (from + 1)
          (open_goes tokens from stop (omega (arith, c.max-stop.ensures)) (sym c.if-is_symbol.ensures.value))
          (omega (arith, c.max-stop.ensures, below)) (λ others to h. h.0);
      bounds = (omega arith, omega arith, below, omega (arith, last));
      refused = tt;
      least = close_goes tokens from c.args.least_stop (from + 1) below;
    }

pub returns-in_err-word-clause-memory : goal.returns-in_err-word-clause-memory
returns-in_err-word-clause-memory c =
    err_told _ _ c.in_err-word.field-0.0 c.from_residual.result c.from_residual.ensures (λ e is. is)
    (missing_is_refused c.args.tokens.now (is_word w.MODEND) c.args.from c.args.least_stop c.in_err-word.field-0.0
    c.in_err-word.ensures.missing)

pub returns-in_err-end_of_tokens-clause-memory : goal.returns-in_err-end_of_tokens-clause-memory
returns-in_err-end_of_tokens-clause-memory c =
    err_told _ _ c.in_err-end_of_tokens.field-0.0 c.from_residual-in_err-end_of_tokens.result
    c.from_residual-in_err-end_of_tokens.ensures (λ e is. is)
    (missing_is_refused c.args.tokens.now is_end (c.args.from + 2) c.max-stop.result c.in_err-end_of_tokens.field-0.0
    c.in_err-end_of_tokens.ensures.missing)

pub returns-in_err-end_of_tokens-2-clause-memory : goal.returns-in_err-end_of_tokens-2-clause-memory
returns-in_err-end_of_tokens-2-clause-memory c =
    err_told _ _ c.in_err-end_of_tokens-2.field-0.0 c.from_residual-in_err-end_of_tokens-2.result
    c.from_residual-in_err-end_of_tokens-2.ensures (λ e is. is)
    (missing_is_refused c.args.tokens.now is_end (c.args.from + 1) c.max-stop.result c.in_err-end_of_tokens-2.field-0.0
    c.in_err-end_of_tokens-2.ensures.missing)
