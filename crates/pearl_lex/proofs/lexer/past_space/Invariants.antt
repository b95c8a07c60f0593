use Rattle.std.proofs.Common.{◌≡◌, ◌+◌, ◌-◌, ◌≤◌, length, drop}
use Rattle.pearl_lex.specs.Spelling.{space_len}
use Rattle.pearl_lex.specs.Lexes.{IsSpace}
use Rattle.pearl_lex.proofs.lexer.past_space.Given as goal

abbrev pub invariant-loop-size : goal.invariant-loop-size
invariant-loop-size l = record {
  space : IsSpace l.bytes l.from l.place;
  next : l.size ≡ space_len (drop l.place l.bytes);
  within : l.place + l.size ≤ length l.bytes;
  on : l.from ≤ l.place;
}

abbrev pub decreases-loop-size : goal.decreases-loop-size
decreases-loop-size l = length l.bytes - l.place
