use Rattle.std.proofs.Common.{rules}
use Rattle.pearl_object.proofs.kinds.read_kind_arm.Goals as goal

pub returns-in_ok-byte_in-in-1-clause-reads : goal.returns-in_ok-byte_in-in-1-clause-reads
returns-in_ok-byte_in-in-1-clause-reads c = rw c.in-1.is (search rules)

pub returns-in_err-byte_in-in-1-clause-reads : goal.returns-in_err-byte_in-in-1-clause-reads
returns-in_err-byte_in-in-1-clause-reads c = rw c.in-1.is (search rules)
