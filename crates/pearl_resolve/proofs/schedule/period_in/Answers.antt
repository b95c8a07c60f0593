use Rattle.pearl_resolve.proofs.schedule.period_in.Goals as goal

pub returns : goal.returns
returns c = λ of holds. λ i. record { duration = c.in_ok-duration.ensures of holds i; end = c.in_ok-end.ensures of holds i }
