-- That an expression in brackets is read where a bracket begins one.
use Rattle.std.proofs.Common.{rules, sym, refl, inl, arith, Some}
use Rattle.pearl_tree.specs.Statements.{SpellsValue}
use Rattle.pearl_tree.specs.declared.symbol.TheConstants as s
use Rattle.pearl_parse_expr.specs.Stops.{is_symbol}
use Rattle.pearl_parse_expr.proofs.Offered.{residual, reading_is}
use Rattle.pearl_parse.proofs.Steps.{optional_is_only, optional_is_halted}
use Rattle.pearl_parse.proofs.Comes.{Maybe}
use Rattle.pearl_parse.proofs.States.{some_reaches, goes_as, halts_as}
use Rattle.pearl_parse.proofs.call.maybe_value.Goals as goal

pub returns : goal.returns
returns c =
    let tokens = c.args.tokens.now in
    let from = c.args.from in
    rw (reading_is c.map.result (Some c.in_ok-value.field-0.part) c.in_ok-value.field-0.end c.in_ok-value.field-0.stop
    (search rules) (search rules) (search rules))
    (record {
      spells = search rules;
      only = optional_is_only (is_symbol s.LEFT_ROUND) SpellsValue c.args.tokens.now c.args.from
          c.in_ok-value.field-0.end
          c.in_ok-value.field-0.stop (sym c.if-not-is_symbol.ensures.value)
          (omega (arith, c.in_ok-value.ensures.ahead)) c.in_ok-value.ensures.only;
      bounds = search rules;
      refused = tt;
      least = goes_as 16 16 SpellsValue (Maybe SpellsValue) tokens from from (omega arith)
          (some_reaches 16 SpellsValue tokens from) c.in_ok-value.field-0.end c.in_ok-value.field-0.stop
          (omega (arith, c.in_ok-value.ensures.ahead)) c.in_ok-value.ensures.least;
    })

pub returns-in_err-value : goal.returns-in_err-value
returns-in_err-value c =
    rw (residual c.in_err-value.field-0.0 c.from_residual.result c.from_residual.ensures)
    (let tokens = c.args.tokens.now in
    let from = c.args.from in
    record {
      spells = tt;
      only = tt;
      bounds = tt;
      refused = optional_is_halted (is_symbol s.LEFT_ROUND) SpellsValue c.args.tokens.now c.args.from
          c.in_err-value.field-0.0
          (sym c.if-not-is_symbol.ensures.value) c.in_err-value.ensures.refused;
      least = halts_as 16 16 SpellsValue (Maybe SpellsValue) tokens from from (omega arith)
          (some_reaches 16 SpellsValue tokens from) c.in_err-value.field-0.0 c.in_err-value.ensures.refused
          c.in_err-value.ensures.least;
    })

pub returns-then-not-is_symbol : goal.returns-then-not-is_symbol
returns-then-not-is_symbol c =
    record {
      spells = search rules;
      only = search rules;
      bounds = search rules;
      refused = tt;
      least = record { goes = inl refl };
    }
