use Rattle.pearl_instructions.proofs.OwnOffers.{code_stands}
use Rattle.pearl_instructions.proofs.runs.code_stands.Goals as goal

pub returns : goal.returns
returns c =
    code_stands c.actions_are_offered_soon.ensures c.tasks_begin.ensures c.stacks_stay_a_tasks.ensures c.answers_lead_to_stacks.ensures c.answers_suit.ensures
    c.offers_name_what_is_there.ensures c.offers_fit_the_tables.ensures
