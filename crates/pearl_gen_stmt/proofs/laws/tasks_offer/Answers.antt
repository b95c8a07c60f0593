use Rattle.pearl_gen_stmt.proofs.Offering.{tasks_offer}
use Rattle.pearl_gen_stmt.proofs.laws.tasks_offer.Goals as goal

pub returns : goal.returns
returns c = tasks_offer c.tasks_begin_with_a_stack.ensures c.rows_lead_to_stacks.ensures c.frames_stay.ensures
