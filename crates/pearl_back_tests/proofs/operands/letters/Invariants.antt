use Rattle.std.proofs.Common.{All}
use Rattle.pearl_value.specs.WellFormed.{IsLetter}
use Rattle.pearl_back_tests.proofs.operands.letters.Given as goal

abbrev pub invariant-loop-letter : goal.invariant-loop-letter
invariant-loop-letter g l = All IsLetter l.letters.items
