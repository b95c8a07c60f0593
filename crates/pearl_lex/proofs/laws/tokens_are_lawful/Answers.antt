use Rattle.pearl_lex.proofs.LawfulTokens.{lawful_tokens}
use Rattle.pearl_lex.proofs.laws.tokens_are_lawful.Goals as goal

pub returns : goal.returns
returns c = lawful_tokens
