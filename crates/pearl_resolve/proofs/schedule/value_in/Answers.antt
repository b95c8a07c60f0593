use Rattle.pearl_resolve.proofs.schedule.value_in.Goals as goal

pub returns : goal.returns
returns c = c.in_ok-e.ensures
