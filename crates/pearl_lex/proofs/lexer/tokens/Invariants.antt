use Rattle.std.proofs.Common.{◌≡◌, ◌-◌, ◌≤◌, length, drop}
use Rattle.pearl_lex.specs.Spelling.{space_len}
use Rattle.pearl_lex.specs.Lexes.{AreTokens, IsSpace}
use Rattle.pearl_lex.proofs.lexer.tokens.Given as goal

abbrev pub invariant-loop-place : goal.invariant-loop-place
invariant-loop-place l = record {
  tokens_are : AreTokens l.bytes 0 l.tokens.items l.end;
  here : IsSpace l.bytes l.end l.place;
  no_space : space_len (drop l.place l.bytes) ≡ 0;
  inside : l.place ≤ length l.bytes;
}

abbrev pub decreases-loop-place : goal.decreases-loop-place
decreases-loop-place l = length l.bytes - l.place
