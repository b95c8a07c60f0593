-- That the system part of a module is read, or the least stop is told.
use Rattle.std.proofs.Common.{◌+◌, ap, ◌<◌, ◌^◌, length, rules, arith}
use Rattle.pearl_tree.specs.Modules.{SpellsSystem}
use Rattle.pearl_tree.specs.declared.symbol.TheConstants as s
use Rattle.pearl_parse_expr.specs.Stops.{is_symbol}
use Rattle.pearl_parse_expr.proofs.Offered.{reading_is}
use Rattle.pearl_parse.proofs.Steps.{missing}
use Rattle.pearl_parse.proofs.ModuleRests.{devices_rest, devices_go, system_is_longest}
use Rattle.pearl_parse.proofs.SystemLeast.{no_devices, system_goes}
use Rattle.pearl_grammar.proofs.Offered.{halts_in}
use Rattle.pearl_parse.proofs.Unread.{unread_as}
use Rattle.pearl_parse.proofs.system.system.Goals as goal

pub returns-in_err-symbol : goal.returns-in_err-symbol
returns-in_err-symbol c =
    let tokens = c.args.tokens.now in
    let from = c.args.from in
    let few : length tokens < 2 ^ 55 = search rules in
    let halt = c.in_err-symbol.field-0.0 in
    unread_as _ halt c.from_residual.result c.from_residual.ensures (λ e is. is)
    (missing SpellsSystem tokens from (is_symbol s.SEMICOLON) devices_rest (from + 1) from (from + 1) halt
    (devices_go tokens from)
    (λ others to h. ap (is_symbol s.SEMICOLON) h.0) (omega arith) (omega (arith, c.requires.within))
    (omega (arith, c.requires.within)) c.in_err-symbol.ensures.missing)
    (halts_in 16 SpellsSystem tokens from 0 (omega arith) halt
    (no_devices tokens from c.requires.word c.requires.within few halt c.in_err-symbol.ensures.missing))

pub returns : goal.returns
returns c =
    let tokens = c.args.tokens.now in
    let from = c.args.from in
    let few : length tokens < 2 ^ 55 = search rules in
    let devices = c.in_ok-each.field-0 in
    let read = c.in_ok-each.ensures.reads in
    rw (reading_is c.map.result c.map.result.part devices.end devices.stop (search rules) (search rules) (search rules))
    (record {
      spells = search rules;
      longest = system_is_longest tokens from devices.end devices.stop read.longest;
      ahead = search rules;
      refused = tt;
      least = system_goes tokens from c.requires.word c.requires.within few c.in_ok-symbol.ensures.stands
          c.in_ok-symbol.ensures.within devices.part.items devices.end devices.stop read.spells
          (omega (arith, read.bounds)) (omega (arith, read.bounds)) (omega (arith, read.bounds)) read.least;
    })
