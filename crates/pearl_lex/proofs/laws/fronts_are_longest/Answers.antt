use Rattle.pearl_lex.proofs.LongestFront.{takes_the_longest, takes_none}
use Rattle.pearl_lex.proofs.laws.fronts_are_longest.Goals as goal

pub returns-clause-longest : goal.returns-clause-longest
returns-clause-longest c = takes_the_longest

pub returns-clause-none : goal.returns-clause-none
returns-clause-none c = takes_none
