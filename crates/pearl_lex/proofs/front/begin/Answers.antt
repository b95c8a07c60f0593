use Rattle.std.proofs.Common.{rules}
use Rattle.pearl_lex.specs.Front.{front}
use Rattle.pearl_lex.proofs.front.begin.Goals as goal

pub returns-then-is_ascii_alphabetic-clause-value : goal.returns-then-is_ascii_alphabetic-clause-value
unfolding front
returns-then-is_ascii_alphabetic-clause-value c = search rules

pub returns-then-is_ascii_digit-clause-value : goal.returns-then-is_ascii_digit-clause-value
unfolding front
returns-then-is_ascii_digit-clause-value c = search rules

pub returns-then-first-eq39-clause-value : goal.returns-then-first-eq39-clause-value
unfolding front
returns-then-first-eq39-clause-value c = search rules

pub returns-clause-value : goal.returns-clause-value
unfolding front
returns-clause-value c = search rules
