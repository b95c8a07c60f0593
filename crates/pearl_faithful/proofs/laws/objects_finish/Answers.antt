use Rattle.pearl_faithful.proofs.Runs.{objects_finish}
use Rattle.pearl_faithful.proofs.laws.objects_finish.Goals as goal

pub returns : goal.returns
returns c =
    objects_finish c.tables_are_lawful.ensures c.tasks_stand.ensures.alone c.tasks_stand.ensures.soon c.runs_end.ensures
