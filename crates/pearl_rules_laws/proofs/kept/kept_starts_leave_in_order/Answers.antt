use Rattle.pearl_rules_laws.proofs.Lasting.{run_queue, run_serves, queue_after}
use Rattle.pearl_rules_laws.proofs.kept.kept_starts_leave_in_order.Goals as goal

pub returns-clause-runs : goal.returns-clause-runs
returns-clause-runs c = run_queue

pub returns-clause-from : goal.returns-clause-from
returns-clause-from c = queue_after

pub returns-clause-serves : goal.returns-clause-serves
returns-clause-serves c = run_serves
