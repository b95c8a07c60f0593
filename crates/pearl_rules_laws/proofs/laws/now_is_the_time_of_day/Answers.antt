use Rattle.pearl_rules_laws.proofs.Incoming.{now_answers}
use Rattle.pearl_rules_laws.proofs.laws.now_is_the_time_of_day.Goals as goal

pub returns : goal.returns
returns c = now_answers
