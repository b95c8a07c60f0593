use Rattle.pearl_rules_laws.proofs.Doing.{read_answers}
use Rattle.pearl_rules_laws.proofs.laws.reads_answer_the_value.Goals as goal

pub returns : goal.returns
returns c = read_answers
