-- That the longest expression is read, and is told no earlier than what stands before it.
use Rattle.std.proofs.Common.{rules, arith, ℕ, max, refl}
use Rattle.pearl_tree.specs.Expressions.{SpellsWhole}
use Rattle.pearl_parse.proofs.States.{read_behind, halted_behind}
use Rattle.pearl_parse.proofs.expression.expr.Goals as goal

pub returns-in-Ok : goal.returns-in-Ok
returns-in-Ok c =
    let read = c.in-Ok.read in
    let new : ℕ = max read.stop c.args.least_stop in
    rw c.no_earlier.ensures
    (record {
      spells = search rules;
      longest = search rules;
      bounds = search rules;
      refused = tt;
      least = read_behind SpellsWhole c.args.tokens.now c.args.from read.end read.stop c.args.least_stop new
          (omega (arith, c.in-Ok.ensures.ahead)) c.in-Ok.ensures.least
          refl;
    })

pub returns-in-Refused : goal.returns-in-Refused
returns-in-Refused c =
    record {
      spells = tt;
      longest = tt;
      bounds = tt;
      refused = search rules;
      least = halted_behind SpellsWhole c.args.tokens.now c.args.from c.in-Err.halt c.in-Refused.stop c.args.least_stop
          c.max.result c.in-Refused.is c.in-Err.ensures.refused
          c.in-Err.ensures.least (omega (arith, c.max.ensures));
    }
