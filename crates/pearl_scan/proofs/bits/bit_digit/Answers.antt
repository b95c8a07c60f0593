use Rattle.std.proofs.Common.{arith}
use Rattle.pearl_scan.proofs.BitLaws.{other_byte}
use Rattle.pearl_scan.proofs.bits.bit_digit.Goals as goal

pub returns-in_default-clause-none : goal.returns-in_default-clause-none
returns-in_default-clause-none c = other_byte c.args.group c.args.byte c.requires (λ a b. omega arith) (λ a b. omega arith)

pub returns-in_default-2-clause-none : goal.returns-in_default-2-clause-none
returns-in_default-2-clause-none c = other_byte c.args.group c.args.byte c.requires (λ a b. omega arith) (λ a b. omega arith)

pub returns-in_default-3-clause-none : goal.returns-in_default-3-clause-none
returns-in_default-3-clause-none c = other_byte c.args.group c.args.byte c.requires (λ a b. omega arith) (λ a b. omega arith)
