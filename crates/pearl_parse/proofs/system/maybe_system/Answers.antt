-- That the system part of a module is read where SYSTEM stands.
use Rattle.std.proofs.Common.{rules, sym, inl, refl, arith, Some}
use Rattle.pearl_tree.specs.Modules.{SpellsSystem}
use Rattle.pearl_tree.specs.declared.word_code.TheConstants as w
use Rattle.pearl_parse_expr.specs.Stops.{is_name, is_word}
use Rattle.pearl_parse_expr.proofs.Offered.{residual, reading_is}
use Rattle.pearl_parse.specs.Modules.{SpellsOptionalSystem}
use Rattle.pearl_parse.proofs.Steps.{only_is_longest, optional_is_none, optional_is_longest, optional_is_halted}
use Rattle.pearl_parse.proofs.ModuleRests.{system_begins}
use Rattle.pearl_tree.specs.Standing.{SpellsMaybe}
use Rattle.pearl_parse.proofs.States.{goes_as, halts_as, some_reaches}
use Rattle.pearl_parse.proofs.system.maybe_system.Goals as goal

pub returns-then-not-is_word : goal.returns-then-not-is_word
returns-then-not-is_word c =
    let tokens = c.args.tokens.now in
    let from = c.args.from in
    record {
      spells = search rules;
      longest = only_is_longest SpellsOptionalSystem is_name tokens from from from
          (optional_is_none (is_word w.SYSTEM) SpellsSystem tokens from from (sym c.if-not-is_word.ensures.value)
          (omega arith) (λ others x to h. system_begins others from x to h));
      bounds = search rules;
      refused = tt;
      least = record { goes = inl refl };
    }

pub returns : goal.returns
returns c =
    let tokens = c.args.tokens.now in
    let from = c.args.from in
    let read = c.in_ok-system.ensures in
    rw (reading_is c.map.result (Some c.in_ok-system.field-0.part) c.in_ok-system.field-0.end
    c.in_ok-system.field-0.stop (search rules) (search rules) (search rules))
    (record {
      spells = search rules;
      longest = optional_is_longest (is_word w.SYSTEM) SpellsSystem c.args.tokens.now c.args.from is_name
          c.in_ok-system.field-0.end
          c.in_ok-system.field-0.stop (sym c.if-not-is_word.ensures.value)
          (omega (arith, read.ahead)) read.longest;
      bounds = search rules;
      refused = tt;
      least = goes_as 16 16 SpellsSystem (λ tokens. SpellsMaybe (SpellsSystem tokens)) tokens from from (omega arith)
          (λ stop near r. some_reaches 16 SpellsSystem tokens from stop near r) c.in_ok-system.field-0.end
          c.in_ok-system.field-0.stop
          (omega (arith, read.ahead)) read.least;
    })

pub returns-in_err-system : goal.returns-in_err-system
returns-in_err-system c =
    rw (residual c.in_err-system.field-0.0 c.from_residual.result c.from_residual.ensures)
    (let tokens = c.args.tokens.now in
    let from = c.args.from in
    record {
      spells = tt;
      longest = tt;
      bounds = tt;
      refused = optional_is_halted (is_word w.SYSTEM) SpellsSystem c.args.tokens.now c.args.from
          c.in_err-system.field-0.0
          (sym c.if-not-is_word.ensures.value) c.in_err-system.ensures.refused;
      least = halts_as 16 16 SpellsSystem (λ tokens. SpellsMaybe (SpellsSystem tokens)) tokens from from (omega arith)
          (λ stop near r. some_reaches 16 SpellsSystem tokens from stop near r) c.in_err-system.field-0.0
          c.in_err-system.ensures.refused
          c.in_err-system.ensures.least;
    })
