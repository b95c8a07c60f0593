-- A body between two semicolons, where the body was read: what is left of it.
use Rattle.std.proofs.Common.{◌≡◌, ℕ, ◌+◌, ◌<◌, ◌≤◌, ◌^◌, max, length, List, Ok, arith}
use Rattle.pearl_tree.specs.declared.limit.TheConstants as limit
use Rattle.pearl_tree.specs.declared.statement.Body.{Body}
use Rattle.pearl_tree.specs.declared.token.Token.{Token}
use Rattle.pearl_tree.specs.Standing.{HasSymbol}
use Rattle.pearl_tree.specs.Statements.{SpellsWholeBody}
use Rattle.pearl_tree.specs.Modules.{SpellsBlock}
use Rattle.pearl_tree.specs.declared.symbol.TheConstants as s
use Rattle.pearl_tree.specs.declared.word_code.TheConstants as w
use Rattle.pearl_parse_expr.specs.declared.reading.Reading.{Reading}
use Rattle.pearl_parse.specs.Bodies.{extends_body, SpellsInner}
use Rattle.pearl_parse_expr.specs.Reads.{ReadsMaybe}
use Rattle.pearl_parse.proofs.NestedRests.{closing_rest}
use Rattle.pearl_parse.proofs.BlockRests.{end_rest, end_goes}
use Rattle.pearl_parse.proofs.DeclarationLeast.{past_body}
use Rattle.pearl_parse.proofs.Stands.{Stands}

pub past_whole : (tokens : List Token) (from low : ℕ) → from ≤ length tokens → length tokens < 2 ^ 55 →
    HasSymbol tokens from s.SEMICOLON → from < length tokens → low ≤ length tokens → (x : Reading Body) →
    ReadsMaybe 24 SpellsWholeBody SpellsWholeBody (SpellsInner limit.NESTED_MAX) extends_body tokens (from + 1) (Ok x) →
    (new : ℕ) → new ≡ max x.stop low →
    Stands 24 SpellsBlock tokens from low (from + 1) end_rest (closing_rest w.END) x.end new
past_whole tokens from low inside few here within reach x read new is = record {
  goes = end_goes tokens from low x.end x.stop new (omega (arith, is)) (omega (arith, is)) read.longest;
  level = past_body tokens from low inside few here within x.part x.end x.stop new read.spells
      (omega (arith, read.bounds)) (omega (arith, read.bounds)) (omega (arith, read.bounds, is, reach)) read.least is;
  ahead = omega (arith, read.bounds);
  near = omega (arith, read.bounds, is);
  inside = omega (arith, read.bounds, is, reach);
}
