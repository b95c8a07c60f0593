-- That the statement is told that a token begins, or that it begins none.
use Rattle.std.proofs.Common.{◌≡◌, Some, sym, ap, ◌∙◌}
use Rattle.pearl_tree.specs.Standing.{what_at}
use Rattle.pearl_parse.specs.Stops.{begins_statement}
use Rattle.pearl_parse.proofs.Firsts.{token_here, begins_some, begins_none}
use Rattle.pearl_parse.proofs.statement.first_at.Goals as goal

pub returns-in-Some-clause-some : goal.returns-in-Some-clause-some
returns-in-Some-clause-some c =
    let here : what_at c.args.tokens.now c.args.at ≡ Some c.in-Some.token.now.what =
    token_here _ _ _ c.in-Some.ensures.lookup.3.0 c.in-Some.ensures.lookup.1 in
    begins_some c.args.tokens.now c.args.at c.in-Some.token.now.what c.first_of.result here c.first_of.ensures

pub returns-in-Some-clause-none : goal.returns-in-Some-clause-none
returns-in-Some-clause-none c = λ none.
    let here : what_at c.args.tokens.now c.args.at ≡ Some c.in-Some.token.now.what =
    token_here _ _ _ c.in-Some.ensures.lookup.3.0 c.in-Some.ensures.lookup.1 in
    ap begins_statement here ∙ begins_none c.in-Some.token.now.what (sym c.first_of.ensures ∙ none)
