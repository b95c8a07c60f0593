-- That the name of a module is read where one stands, bare or in brackets.
use Rattle.std.proofs.Common.{◌+◌, inl, refl, sym, ap, ◌<◌, ◌^◌, length, rules, arith}
use Rattle.pearl_tree.specs.Standing.{what_at, SpellsMaybe}
use Rattle.pearl_tree.specs.Modules.{SpellsModuleName}
use Rattle.pearl_tree.specs.declared.symbol.TheConstants as s
use Rattle.pearl_parse_expr.specs.Stops.{is_name, is_symbol}
use Rattle.pearl_parse.specs.Modules.{begins_module_name, SpellsOptionalName}
use Rattle.pearl_parse.proofs.Steps.{err_told, missing_is_refused, missing, ends, optional_is_none}
use Rattle.pearl_parse.proofs.ModuleRests.{bracketed_rest, bracketed_goes, bracket_closes, bare_is_only, name_begins}
use Rattle.pearl_parse.proofs.ModuleRests.{no_name}
use Rattle.pearl_parse.proofs.ModuleLeast.{no_bracketed, no_bracket}
use Rattle.pearl_grammar.proofs.Offered.{halts_in}
use Rattle.pearl_parse.proofs.Unread.{unread_only_maybe}
use Rattle.pearl_parse.proofs.module.module_name.Goals as goal

pub returns-in_err-name-clause-reads : goal.returns-in_err-name-clause-reads
returns-in_err-name-clause-reads c =
    let tokens = c.args.tokens.now in
    let from = c.args.from in
    let within = c.if-is_symbol.ensures.within refl in
    let few : length tokens < 2 ^ 55 = search rules in
    let halt = c.in_err-name.field-0.0 in
    unread_only_maybe _ halt c.from_residual.result c.from_residual.ensures (λ e is. is)
    (missing SpellsOptionalName tokens from is_name bracketed_rest (from + 1) from (from + 1) halt
    (bracketed_goes tokens from (c.if-is_symbol.ensures.stands refl))
    (λ others to h. h.0) (omega arith) (omega (arith, within)) c.requires c.in_err-name.ensures.missing)
    (halts_in 16 (λ tokens. SpellsMaybe (SpellsModuleName tokens)) tokens from 0 (omega arith) halt
    (no_bracketed tokens from (c.if-is_symbol.ensures.stands refl) within few halt c.in_err-name.ensures.missing))

pub returns-in_err-symbol-clause-reads : goal.returns-in_err-symbol-clause-reads
returns-in_err-symbol-clause-reads c =
    let tokens = c.args.tokens.now in
    let from = c.args.from in
    let within = c.if-is_symbol.ensures.within refl in
    let two = c.in_ok-name.ensures.within in
    let few : length tokens < 2 ^ 55 = search rules in
    let halt = c.in_err-symbol.field-0.0 in
    unread_only_maybe _ halt c.from_residual-in_err-symbol.result c.from_residual-in_err-symbol.ensures (λ e is. is)
    (missing SpellsOptionalName tokens from (is_symbol s.RIGHT_ROUND) bracketed_rest (from + 1) from (from + 2) halt
    (bracketed_goes tokens from (c.if-is_symbol.ensures.stands refl))
    (λ others to h. bracket_closes others from to h) (omega arith) (omega (arith, two)) c.requires
    c.in_err-symbol.ensures.missing)
    (halts_in 16 (λ tokens. SpellsMaybe (SpellsModuleName tokens)) tokens from 0 (omega arith) halt
    (no_bracket tokens from (c.if-is_symbol.ensures.stands refl) within few c.in_ok-name.name
    c.in_ok-name.ensures.stands two halt
    c.in_err-symbol.ensures.missing))

pub returns-then-is_symbol-clause-reads : goal.returns-then-is_symbol-clause-reads
returns-then-is_symbol-clause-reads c =
    let tokens = c.args.tokens.now in
    let from = c.args.from in
    record {
      spells = search rules;
      only = ends SpellsOptionalName tokens from bracketed_rest (from + 1) from (from + 3) (from + 3)
          (bracketed_goes tokens from (c.if-is_symbol.ensures.stands refl)) (omega arith)
          (λ others to h. omega (arith, h.2));
      bounds = search rules;
      refused = tt;
      least = record { goes = inl refl };
    }

pub returns-in-Some-clause-reads : goal.returns-in-Some-clause-reads
returns-in-Some-clause-reads c = record {
  spells = search rules;
  only = bare_is_only c.args.tokens.now c.args.from (sym c.if-is_symbol.ensures.value)
      (ap is_name c.in-Some.ensures.some.0);
  bounds = search rules;
  refused = tt;
  least = record { goes = inl refl };
}

pub returns-in-None-clause-reads : goal.returns-in-None-clause-reads
returns-in-None-clause-reads c =
    let tokens = c.args.tokens.now in
    let from = c.args.from in
    let none = no_name (what_at tokens from) (sym c.if-is_symbol.ensures.value) (c.name_at.ensures.none c.in-None.is) in
    record {
      spells = (refl, none);
      only = optional_is_none begins_module_name SpellsModuleName tokens from from none (omega arith)
          (λ others x to h. name_begins others from x to h);
      bounds = search rules;
      refused = tt;
      least = record { goes = inl refl };
    }

pub returns-in_err-name-clause-memory : goal.returns-in_err-name-clause-memory
returns-in_err-name-clause-memory c =
    err_told _ _ c.in_err-name.field-0.0 c.from_residual.result c.from_residual.ensures (λ e is. is)
    (missing_is_refused c.args.tokens.now is_name (c.args.from + 1) c.args.from c.in_err-name.field-0.0
    c.in_err-name.ensures.missing)

pub returns-in_err-symbol-clause-memory : goal.returns-in_err-symbol-clause-memory
returns-in_err-symbol-clause-memory c =
    err_told _ _ c.in_err-symbol.field-0.0 c.from_residual-in_err-symbol.result c.from_residual-in_err-symbol.ensures
    (λ e is. is)
    (missing_is_refused c.args.tokens.now (is_symbol s.RIGHT_ROUND) (c.args.from + 2) c.args.from
    c.in_err-symbol.field-0.0 c.in_err-symbol.ensures.missing)
