use Rattle.pearl_saved_laws.proofs.Again.{states_come_back}
use Rattle.pearl_saved_laws.proofs.Objects.{sound}
use Rattle.pearl_saved_laws.proofs.laws.states_come_back.Goals as goal

pub returns : goal.returns
returns c =
    states_come_back c.active_tasks_alone_have_stacks.ensures c.stacks_come_back.ensures
    c.records_make_the_same_core.ensures
    (record {
      opens = c.cores_stay_recordable.ensures.opens;
      acts = c.cores_stay_recordable.ensures.acts;
      turns = c.cores_stay_recordable.ensures.turns;
      passes = c.cores_stay_recordable.ensures.passes;
      arrives = c.cores_stay_recordable.ensures.arrives;
    })
    (record {
      acts = c.time_passes.ensures.acts;
      passes = c.time_passes.ensures.passes;
      arrives = c.time_passes.ensures.arrives;
    })
    (record {
      code =
          sound c.tasks_begin.ensures c.stacks_stay_a_tasks.ensures c.answers_lead_to_stacks.ensures
          c.answers_suit.ensures c.offers_name_what_is_there.ensures c.offers_fit_the_tables.ensures
          c.actions_are_offered_soon.ensures;
      tables = c.tables_are_lawful.ensures;
    })
