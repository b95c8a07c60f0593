use Rattle.pearl_lex.proofs.Spaces.{passes_spaces}
use Rattle.pearl_lex.proofs.laws.spaces_are_spelled.Goals as goal

pub returns : goal.returns
returns c = passes_spaces
