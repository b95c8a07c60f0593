use Rattle.std.proofs.Common.{◌≡◌, ◌<◌, ◌+◌, ◌*◌, ◌^◌, drop, fold, true}
use Rattle.std.specs.List.{list_all}
use Rattle.pearl_lex.specs.Quoted.{digit_value, bits_value, is_digit_of}
use Rattle.pearl_lex.proofs.quoted.bits_value.Given as goal

abbrev pub invariant-loop-digit : goal.invariant-loop-digit
invariant-loop-digit l = record {
  all : fold (λ value digit. value * 2 ^ l.width + digit_value digit) l.value (drop l.digit-index l.digits) ≡ bits_value l.width l.digits;
  rest : list_all (is_digit_of l.width) (drop l.digit-index l.digits) ≡ true;
  few : l.value < 2 ^ (l.digit-index * l.width);
}
