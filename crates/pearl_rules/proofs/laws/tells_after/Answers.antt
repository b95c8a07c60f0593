use Rattle.pearl_rules.proofs.ToldLaws.{millisecond-told_before, arrived-told_before}
use Rattle.pearl_rules.proofs.ToldLaws.{effect-told_before, turned-told_before, showing-told_before, pick-told_before, states-told_before, shown-told_before}
use Rattle.pearl_rules.proofs.laws.tells_after.Goals as goal

pub returns-clause-acts : goal.returns-clause-acts
returns-clause-acts c = effect-told_before

pub returns-clause-turns : goal.returns-clause-turns
returns-clause-turns c = turned-told_before

pub returns-clause-shows : goal.returns-clause-shows
returns-clause-shows c = showing-told_before

pub returns-clause-picks : goal.returns-clause-picks
returns-clause-picks c = pick-told_before

pub returns-clause-states : goal.returns-clause-states
returns-clause-states c = states-told_before

pub returns-clause-shown : goal.returns-clause-shown
returns-clause-shown c = shown-told_before

pub returns-clause-passes : goal.returns-clause-passes
returns-clause-passes c = millisecond-told_before

pub returns-clause-arrives : goal.returns-clause-arrives
returns-clause-arrives c = arrived-told_before
