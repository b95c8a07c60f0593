-- That a body between two semicolons is read, or the least stop is told.
use Rattle.std.proofs.Common.{◌+◌, sym, ap, subst, ◌<◌, ◌^◌, length, rules, ◌≤◌, arith, ℕ, max, refl}
use Rattle.pearl_tree.specs.Statements.{SpellsWholeBody}
use Rattle.pearl_tree.specs.Modules.{SpellsBlock}
use Rattle.pearl_tree.specs.declared.symbol.TheConstants as s
use Rattle.pearl_tree.specs.declared.word_code.TheConstants as w
use Rattle.pearl_parse_expr.specs.Stops.{is_symbol, is_word}
use Rattle.pearl_parse_decl.specs.Readings.{behind as told_behind}
use Rattle.pearl_parse_expr.proofs.Offered.{reading_is}
use Rattle.pearl_grammar.specs.Reached.{IsStopped, HaltsBehind}
use Rattle.pearl_parse.proofs.Steps.{missing_behind, no_part_behind, ends}
use Rattle.pearl_parse.proofs.BlockRests.{end_rest, opened_rest, opened_goes, body_goes, behind_is_stopped}
use Rattle.pearl_parse.proofs.BlockReads.{past_whole}
use Rattle.pearl_parse.proofs.DeclarationLeast.{no_opening, block_halts, no_end_word, no_last, block_goes}
use Rattle.pearl_parse.proofs.Unread.{unread_only_behind}
use Rattle.pearl_parse.proofs.block.block.Goals as goal

pub returns-in_err-symbol : goal.returns-in_err-symbol
returns-in_err-symbol c =
    let tokens = c.args.tokens.now in
    let from = c.args.from in
    let low = c.args.least_stop in
    let few : length tokens < 2 ^ 55 = search rules in
    let inside : from ≤ length tokens = omega (arith, c.requires.least_stop) in
    let halt = c.in_err-symbol.field-0.0 in
    unread_only_behind _ halt c.from_residual.result c.from_residual.ensures (λ e is. is)
    (missing_behind SpellsBlock tokens from low (is_symbol s.SEMICOLON) opened_rest from low from halt
    (opened_goes tokens from low) (λ others to h. ap (is_symbol s.SEMICOLON) h.0) c.requires.least_stop.0 (omega arith)
    inside c.requires.least_stop.1 c.in_err-symbol.ensures.missing)
    (no_opening tokens from low inside few halt c.in_err-symbol.ensures.missing)

pub returns-in-Err : goal.returns-in-Err
returns-in-Err c =
    let tokens = c.args.tokens.now in
    let from = c.args.from in
    let low = c.args.least_stop in
    let few : length tokens < 2 ^ 55 = search rules in
    let inside : from ≤ length tokens = omega (arith, c.requires.least_stop) in
    let halt = c.in-Err.halt in
    let opened = c.in_ok-symbol.ensures in
    let body = c.in-Err.ensures in
    record {
      spells = tt;
      only = tt;
      bounds = tt;
      refused = subst (λ halt. IsStopped SpellsBlock tokens from low halt) (sym c.behind.ensures.same)
          (no_part_behind SpellsBlock tokens from low SpellsWholeBody end_rest (from + 1) low (told_behind halt low)
          (body_goes tokens from low) c.requires.least_stop.0 (omega arith)
          (behind_is_stopped SpellsWholeBody tokens (from + 1) low halt c.requires.least_stop.1 body.refused));
      least = subst (λ halt. HaltsBehind 24 SpellsBlock tokens from low halt) (sym c.behind.ensures.same)
          (block_halts tokens from low inside few opened.stands opened.within halt body.refused body.least);
    }

pub returns-in_err-word : goal.returns-in_err-word
returns-in_err-word c =
    let tokens = c.args.tokens.now in
    let from = c.args.from in
    let low = c.args.least_stop in
    let few : length tokens < 2 ^ 55 = search rules in
    let inside : from ≤ length tokens = omega (arith, c.requires.least_stop) in
    let opened = c.in_ok-symbol.ensures in
    let body = c.in-Ok.body in
    let stop = c.max-stop.result in
    let behind = past_whole tokens from low inside few opened.stands opened.within c.requires.least_stop.1 body
    c.in-Ok.ensures stop c.max-stop.ensures in
    let halt = c.in_err-word.field-0.0 in
    unread_only_behind _ halt c.from_residual-in_err-word.result c.from_residual-in_err-word.ensures (λ e is. is)
    (missing_behind SpellsBlock tokens from low (is_word w.END) end_rest body.end stop body.end halt behind.goes
    (λ others to h. ap (is_word w.END) h.0) behind.near
    (omega (arith, c.max-stop.ensures))
    behind.level.inside behind.inside c.in_err-word.ensures.missing)
    (no_end_word tokens from low inside few body.end stop behind.level halt c.in_err-word.ensures.missing)

pub returns-in_err-symbol-2 : goal.returns-in_err-symbol-2
returns-in_err-symbol-2 c =
    let tokens = c.args.tokens.now in
    let from = c.args.from in
    let low = c.args.least_stop in
    let few : length tokens < 2 ^ 55 = search rules in
    let inside : from ≤ length tokens = omega (arith, c.requires.least_stop) in
    let opened = c.in_ok-symbol.ensures in
    let body = c.in-Ok.body in
    let stop = c.max-stop.result in
    let behind = past_whole tokens from low inside few opened.stands opened.within c.requires.least_stop.1 body
    c.in-Ok.ensures stop c.max-stop.ensures in
    let halt = c.in_err-symbol-2.field-0.0 in
    let word = c.in_ok-word.ensures in
    unread_only_behind _ halt c.from_residual-in_err-symbol-2.result c.from_residual-in_err-symbol-2.ensures
    (λ e is. is)
    (missing_behind SpellsBlock tokens from low (is_symbol s.SEMICOLON) end_rest body.end stop (body.end + 1) halt
    behind.goes (λ others to h. ap (is_symbol s.SEMICOLON) h.1) behind.near
    (omega (arith, c.max-stop.ensures)) (omega (arith, word.within)) behind.inside c.in_err-symbol-2.ensures.missing)
    (no_last tokens from low inside few body.end stop behind.level word.stands word.within halt
    c.in_err-symbol-2.ensures.missing)

pub returns : goal.returns
returns c =
    let tokens = c.args.tokens.now in
    let from = c.args.from in
    let low = c.args.least_stop in
    let few : length tokens < 2 ^ 55 = search rules in
    let inside : from ≤ length tokens = omega (arith, c.requires.least_stop) in
    let opened = c.in_ok-symbol.ensures in
    let body = c.in-Ok.body in
    let stop = c.max-stop.result in
    let behind = past_whole tokens from low inside few opened.stands opened.within c.requires.least_stop.1 body
    c.in-Ok.ensures stop c.max-stop.ensures in
    let word = c.in_ok-word.ensures in
    let symbol = c.in_ok-symbol-2.ensures in
    let new : ℕ = max stop (body.end + 2) in
    rw (reading_is c.past.result body.part (body.end + 2) new (search rules) (search rules) (omega (
      arith,
      c.max-stop.ensures,
      ap (λ reading. reading.stop) c.past.ensures,
      ap (λ reading. reading.end) c.no_earlier.ensures,
      ap (λ reading. reading.stop) c.no_earlier.ensures,
    )))
    (record {
      spells = search rules;
      only = ends SpellsBlock tokens from end_rest body.end stop new (body.end + 2) behind.goes
          (omega arith) (λ others to h. h.2);
      bounds = search rules;
      refused = tt;
      least = block_goes tokens from low inside few body.end stop behind.level word.stands word.within new
          symbol.stands symbol.within refl;
    })
