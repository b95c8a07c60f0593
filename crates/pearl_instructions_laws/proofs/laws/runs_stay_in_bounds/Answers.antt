use Rattle.pearl_instructions_laws.proofs.InBounds.{runs_stay_in_bounds}
use Rattle.pearl_instructions_laws.proofs.laws.runs_stay_in_bounds.Goals as goal

pub returns : goal.returns
returns c =
    runs_stay_in_bounds c.active_tasks_alone_have_stacks.ensures c.offers_are_those_of_the_next_row.ensures
    c.code_stands.ensures c.tables_are_lawful.ensures c.stacks_are_a_tasks.ensures c.rows_lead_to_stacks.ensures
    c.depth_is_kept.ensures c.frames_are_few.ensures c.offers_name_what_is_there.ensures
