-- That all is read that stands before the declarations of a module, or the least stop is told.
use Rattle.std.proofs.Common.{ℕ, ◌+◌, max, ap, ◌<◌, ◌^◌, length, refl, rules, arith}
use Rattle.pearl_tree.specs.declared.symbol.TheConstants as s
use Rattle.pearl_tree.specs.declared.word_code.TheConstants as w
use Rattle.pearl_parse_expr.specs.Stops.{is_symbol, is_word}
use Rattle.pearl_parse.specs.Modules.{SpellsOptionalSystem, SpellsOpening}
use Rattle.pearl_parse.proofs.Steps.{missing, no_first, ends}
use Rattle.pearl_parse.proofs.ModuleRests.{problem_rest, opening_goes}
use Rattle.pearl_parse.proofs.SystemLeast.{no_system, past_system, no_problem, no_last, opened_so_far}
use Rattle.pearl_tree.specs.Modules.{SpellsSystem}
use Rattle.pearl_parse.proofs.Unread.{unread}
use Rattle.pearl_parse.proofs.Optional.{maybe_of}
use Rattle.pearl_parse.proofs.system.opening.Goals as goal

pub returns-in_err-system : goal.returns-in_err-system
returns-in_err-system c =
    let tokens = c.args.tokens.now in
    let from = c.args.from in
    let few : length tokens < 2 ^ 55 = search rules in
    unread 24 SpellsOpening tokens from _ c.in_err-system.field-0.0 c.from_residual.result c.from_residual.ensures
    (λ e is. is)
    (no_first SpellsOpening tokens from SpellsOptionalSystem problem_rest from from c.in_err-system.field-0.0
    (opening_goes tokens from) (omega arith) (omega arith)
    c.in_err-system.ensures.refused)
    (no_system tokens from c.requires few c.in_err-system.field-0.0 c.in_err-system.ensures.refused
    c.in_err-system.ensures.least)

pub returns-in_err-word : goal.returns-in_err-word
returns-in_err-word c =
    let tokens = c.args.tokens.now in
    let from = c.args.from in
    let few : length tokens < 2 ^ 55 = search rules in
    let system = c.in_ok-system.system in
    let at = past_system tokens from c.requires few system c.in_ok-system.ensures in
    unread 24 SpellsOpening tokens from _ c.in_err-word.field-0.0 c.from_residual-in_err-word.result
    c.from_residual-in_err-word.ensures (λ e is. is)
    (missing SpellsOpening tokens from (is_word w.PROBLEM) problem_rest system.end system.stop system.end
    c.in_err-word.field-0.0 at.goes (λ others to h. ap (is_word w.PROBLEM) h.0) at.near at.level.inside at.inside
    c.in_err-word.ensures.missing)
    (no_problem tokens from c.requires few system.end system.stop at.level c.in_err-word.field-0.0
    c.in_err-word.ensures.missing)

pub returns-in_err-symbol : goal.returns-in_err-symbol
returns-in_err-symbol c =
    let tokens = c.args.tokens.now in
    let from = c.args.from in
    let few : length tokens < 2 ^ 55 = search rules in
    let system = c.in_ok-system.system in
    let word = c.in_ok-word.ensures in
    let at = past_system tokens from c.requires few system c.in_ok-system.ensures in
    unread 24 SpellsOpening tokens from _ c.in_err-symbol.field-0.0 c.from_residual-in_err-symbol.result
    c.from_residual-in_err-symbol.ensures (λ e is. is)
    (missing SpellsOpening tokens from (is_symbol s.SEMICOLON) problem_rest system.end system.stop (system.end + 1)
    c.in_err-symbol.field-0.0 at.goes (λ others to h. ap (is_symbol s.SEMICOLON) h.1) at.near
    (omega (arith, word.within)) at.inside c.in_err-symbol.ensures.missing)
    (no_last tokens from c.requires few system.end system.stop at.level word.stands word.within
    c.in_err-symbol.field-0.0 c.in_err-symbol.ensures.missing)

pub returns : goal.returns
returns c =
    let tokens = c.args.tokens.now in
    let from = c.args.from in
    let few : length tokens < 2 ^ 55 = search rules in
    let system = c.in_ok-system.system in
    let read = c.in_ok-system.ensures in
    let word = c.in_ok-word.ensures in
    let symbol = c.in_ok-symbol.ensures in
    let at = past_system tokens from c.requires few system read in
    let new : ℕ = max system.stop (system.end + 2) in
    rw c.past.ensures (record {
      spells = (
        system.end,
        maybe_of (is_word w.SYSTEM) SpellsSystem tokens from system.part system.end read.spells,
        word.stands,
        symbol.stands,
        refl,
      );
      only = ends SpellsOpening tokens from problem_rest system.end system.stop new (system.end + 2) at.goes
          (omega arith) (λ others to h. h.2);
      ahead = (omega (arith, read.bounds), omega arith, omega (arith, read.bounds, symbol.within));
      refused = tt;
      least = opened_so_far tokens from c.requires few system.end system.stop at.level word.stands word.within new
          symbol.stands symbol.within refl;
    })
