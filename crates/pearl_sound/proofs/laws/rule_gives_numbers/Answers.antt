use Rattle.pearl_sound.proofs.RuleNumbers.{numbers_given}
use Rattle.pearl_sound.proofs.laws.rule_gives_numbers.Goals as goal

pub returns : goal.returns
returns c = numbers_given
