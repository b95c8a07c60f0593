use Rattle.pearl_faithful.proofs.Standing.{tasks_stand, tasks_offer_soon}
use Rattle.pearl_faithful.proofs.laws.tasks_stand.Goals as goal

pub returns-clause-alone : goal.returns-clause-alone
returns-clause-alone c =
    tasks_stand c.tasks_offer.ensures c.tasks_begin.ensures c.stacks_stay_a_tasks.ensures c.answers_lead_to_stacks.ensures
    c.offers_name_what_is_there.ensures c.answers_suit.ensures c.offers_fit_the_tables.ensures

pub returns-clause-soon : goal.returns-clause-soon
returns-clause-soon c = tasks_offer_soon c.actions_are_offered_soon.ensures
