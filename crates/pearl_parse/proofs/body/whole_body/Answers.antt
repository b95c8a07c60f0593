-- That a whole body is read as the body that it is, with all levels before it.
use Rattle.std.proofs.Common.{arith}
use Rattle.pearl_tree.specs.declared.limit.TheConstants as limit
use Rattle.pearl_parse.specs.Bodies.{SpellsInner}
use Rattle.pearl_parse.proofs.Blocks.{whole_is_longest, no_whole}
use Rattle.pearl_grammar.proofs.Offered.{goes_in_told, halts_in}
use Rattle.pearl_parse.proofs.body.whole_body.Goals as goal

pub returns-in-Ok : goal.returns-in-Ok
returns-in-Ok c =
    let read = c.in-Ok.read in
    let body = c.in-Ok.ensures in
    record {
      spells = body.spells;
      longest = whole_is_longest c.args.tokens.now c.args.from read.end read.stop body.longest;
      bounds = body.bounds;
      refused = tt;
      least = goes_in_told 24 (SpellsInner limit.NESTED_MAX) c.args.tokens.now c.args.from c.args.from (omega arith)
          read.end read.stop (omega (arith, body.bounds)) body.least;
    }

pub returns-in-Err : goal.returns-in-Err
returns-in-Err c =
    let body = c.in-Err.ensures in
    record {
      spells = tt;
      longest = tt;
      bounds = tt;
      refused = no_whole c.args.tokens.now c.args.from c.in-Err.halt body.refused;
      least = halts_in 24 (SpellsInner limit.NESTED_MAX) c.args.tokens.now c.args.from c.args.from (omega arith)
          c.in-Err.halt body.least;
    }
