use Rattle.pearl_saved_laws.proofs.Objects.{sound}
use Rattle.pearl_saved_laws.proofs.Restored.{restored_runs_end}
use Rattle.pearl_saved_laws.proofs.laws.restored_runs_end.Goals as goal

pub returns : goal.returns
returns c =
    restored_runs_end c.made_cores_are_recordable.ensures c.stacks_are_split.ensures.frames
    (record {
      code =
          sound c.tasks_begin.ensures c.stacks_stay_a_tasks.ensures c.answers_lead_to_stacks.ensures
          c.answers_suit.ensures c.offers_name_what_is_there.ensures c.offers_fit_the_tables.ensures
          c.actions_are_offered_soon.ensures;
      tables = c.tables_are_lawful.ensures;
    })
