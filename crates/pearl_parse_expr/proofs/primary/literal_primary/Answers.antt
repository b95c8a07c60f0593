-- A primary that begins as no other one does is a literal.
use Rattle.std.proofs.Common.{◌+◌, ◌≤◌, arith, rules}
use Rattle.pearl_tree.specs.Expressions.{SpellsLiteral, SpellsPrimary}
use Rattle.pearl_parse_expr.proofs.Durations.{literal_primary_reaches}
use Rattle.pearl_parse_expr.proofs.Primaries.{literal_others, literal_halted}
use Rattle.pearl_parse_expr.proofs.Reaching.{goes_as, halts_as}
use Rattle.pearl_parse_expr.proofs.primary.literal_primary.Goals as goal

pub returns-in-Ok : goal.returns-in-Ok
returns-in-Ok c = λ depth.
    let tokens = c.args.tokens.now in
    let from = c.args.from in
    let literal = c.in-Ok.literal in
    let read = c.in-Ok.ensures.reads in
    record {
      spells = search rules;
      longest = λ others agree x to h.
          let near : from ≤ literal.stop = omega (arith, read.ahead) in
          let far : from + 1 ≤ literal.stop = omega (arith, read.ahead) in
          let found = literal_others tokens others depth from literal.stop agree near (λ _. far) c.requires.group
          c.requires.name c.requires.now_word c.requires.try_word c.requires.limit x to h in
          read.longest others agree found.0 to found.1;
      ahead = read.ahead;
      refused = tt;
      least = goes_as SpellsLiteral (λ tokens. SpellsPrimary tokens depth) tokens from from literal.end literal.stop
          (λ r. literal_primary_reaches tokens depth from literal.stop r) read.least;
    }

pub returns-in-Err : goal.returns-in-Err
returns-in-Err c = λ depth.
    let tokens = c.args.tokens.now in
    let from = c.args.from in
    let read = c.in-Err.ensures.reads in
    record {
      spells = tt;
      longest = tt;
      ahead = tt;
      refused = literal_halted tokens depth from c.in-Err.halt c.requires.group c.requires.name c.requires.now_word
          c.requires.try_word c.requires.limit c.in-Err.ensures.none read.refused;
      least = halts_as SpellsLiteral (λ tokens. SpellsPrimary tokens depth) tokens from from c.in-Err.halt
          (λ stop near within r. literal_primary_reaches tokens depth from stop r) read.refused read.least;
    }
