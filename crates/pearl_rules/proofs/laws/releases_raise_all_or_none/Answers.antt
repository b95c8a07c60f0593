use Rattle.pearl_rules.proofs.CountLaws.{release_raises, release_breaks}
use Rattle.pearl_rules.proofs.laws.releases_raise_all_or_none.Goals as goal

pub returns-clause-raises : goal.returns-clause-raises
returns-clause-raises c = release_raises

pub returns-clause-breaks : goal.returns-clause-breaks
returns-clause-breaks c = release_breaks
