use Rattle.std.proofs.Common.{◌≡◌, ◌≤◌, ◌++◌, length}
use Rattle.pearl_lex.specs.Quoted.{chars_of}
use Rattle.pearl_lex.proofs.quoted.text_of.Given as goal

abbrev pub invariant-loop-rest : goal.invariant-loop-rest
invariant-loop-rest l = record {
  all : l.text.items ++ chars_of l.rest ≡ chars_of l.bytes;
  few : length l.text.items ≤ 255;
}

abbrev pub decreases-loop-rest : goal.decreases-loop-rest
decreases-loop-rest l = length l.rest
