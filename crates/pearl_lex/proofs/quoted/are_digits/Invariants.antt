use Rattle.std.proofs.Common.{◌≡◌, drop}
use Rattle.std.specs.List.{list_all}
use Rattle.pearl_lex.specs.Quoted.{is_digit_of}
use Rattle.pearl_lex.proofs.quoted.are_digits.Given as goal

abbrev pub invariant-loop-digit : goal.invariant-loop-digit
invariant-loop-digit l = list_all (is_digit_of l.width) (drop l.digit-index l.digits) ≡ list_all (is_digit_of l.width) l.digits
