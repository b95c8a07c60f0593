use Rattle.std.proofs.Common.{refl}
use Rattle.pearl_rules_laws.proofs.Incoming.{bytes_join, bytes_lost}
use Rattle.pearl_rules_laws.proofs.laws.bytes_wait_in_order.Goals as goal

pub returns-clause-room : goal.returns-clause-room
returns-clause-room c = bytes_join

pub returns-clause-full : goal.returns-clause-full
returns-clause-full c = bytes_lost

pub returns-clause-chars : goal.returns-clause-chars
returns-clause-chars c = λ core device text. refl

pub returns-clause-line : goal.returns-clause-line
returns-clause-line c = λ core device text. refl
