-- That an expression is read behind a word, or the least stop is told.
use Rattle.std.proofs.Common.{rules, ◌+◌, arith}
use Rattle.pearl_tree.specs.Expressions.{SpellsWhole}
use Rattle.pearl_tree.specs.Statements.{SpellsAfter}
use Rattle.pearl_parse.proofs.States.{after_reaches, told_as, halts_behind_as}
use Rattle.pearl_parse.proofs.schedule.after.Goals as goal

pub returns-in-Ok : goal.returns-in-Ok
returns-in-Ok c =
    let tokens = c.args.tokens.now in
    let from = c.args.from in
    record {
      spells = search rules;
      longest = search rules;
      bounds = search rules;
      refused = tt;
      least = told_as 16 8 SpellsWhole (λ tokens. SpellsAfter tokens c.args.word) tokens from (from + 1) (omega arith)
          (after_reaches tokens c.args.word from c.requires.word) c.args.least_stop c.in-Ok.read.end c.in-Ok.read.stop
          (omega (arith, c.in-Ok.ensures.bounds)) c.in-Ok.ensures.least;
    }

pub returns-in-Err : goal.returns-in-Err
returns-in-Err c =
    let tokens = c.args.tokens.now in
    let from = c.args.from in
    record {
      spells = tt;
      longest = tt;
      bounds = tt;
      refused = search rules;
      least = halts_behind_as 16 8 SpellsWhole (λ tokens. SpellsAfter tokens c.args.word) tokens from (from + 1)
          (omega arith) (after_reaches tokens c.args.word from c.requires.word) c.args.least_stop c.in-Err.halt
          c.in-Err.ensures.least;
    }
