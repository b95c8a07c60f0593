use Rattle.pearl_watch.proofs.Showing.{watches_none, watches_behind, watches_then}
use Rattle.pearl_watch.proofs.laws.writes_in_turn.Goals as goal

pub returns-clause-nothing : goal.returns-clause-nothing
returns-clause-nothing c = λ m from. watches_none m from

pub returns-clause-behind : goal.returns-clause-behind
returns-clause-behind c = λ a b from left more text watches. watches_behind a b from left more text watches

pub returns-clause-in_turn : goal.returns-clause-in_turn
returns-clause-in_turn c = λ a b c2 from mid left text more first second. watches_then a b c2 from mid left text more first second
