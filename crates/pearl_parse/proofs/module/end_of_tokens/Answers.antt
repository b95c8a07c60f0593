-- That no token is left.
use Rattle.pearl_parse.proofs.ModuleRests.{some_token}
use Rattle.pearl_parse.proofs.module.end_of_tokens.Goals as goal

pub returns-then-at-tokens-clause-missing : goal.returns-then-at-tokens-clause-missing
returns-then-at-tokens-clause-missing c = (some_token c.args.tokens.now c.args.at c.if-at-tokens.true, c.max.ensures)
