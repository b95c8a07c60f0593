use Rattle.pearl_resolve.proofs.schedule.number_in.Goals as goal

pub returns : goal.returns
returns c = c.number_of.ensures
