use Rattle.pearl_rules_laws.proofs.Incoming.{get_reads, get_breaks_off}
use Rattle.pearl_rules_laws.proofs.devices.gets_remove_what_they_use.Goals as goal

pub returns-clause-reads : goal.returns-clause-reads
returns-clause-reads c = get_reads

pub returns-clause-bad : goal.returns-clause-bad
returns-clause-bad c = get_breaks_off
