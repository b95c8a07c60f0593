-- That an empty statement is read.
use Rattle.std.proofs.Common.{◌<◌, ◌^◌, length, rules, arith}
use Rattle.pearl_grammar.proofs.Offered.{only}
use Rattle.pearl_parse.proofs.Starts.{empty_begun}
use Rattle.pearl_parse.proofs.statement.empty.Goals as goal

pub returns : goal.returns
returns c = λ depth.
    let few : length c.args.tokens.now < 2 ^ 55 = search rules in
    only _ (empty_begun c.args.tokens.now depth c.args.from c.requires.within few c.requires.symbol) (omega arith)
    (omega arith) (search rules)
