use Rattle.pearl_rules_laws.proofs.Incoming.{take_answers}
use Rattle.pearl_rules_laws.proofs.laws.takes_answer_the_oldest_value.Goals as goal

pub returns : goal.returns
returns c = take_answers
