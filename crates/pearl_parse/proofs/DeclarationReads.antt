-- Tasks and procedures behind their first three tokens, read one part after the other.
use Rattle.std.proofs.Common.{◌≡◌, ℕ, ◌+◌, ◌<◌, ◌^◌, max, List, Vec, Option, length, Ok, ap, arith}
use Rattle.pearl_tree.specs.declared.declaration.Param.{Param}
use Rattle.pearl_tree.specs.declared.name.Name.{Name}
use Rattle.pearl_tree.specs.declared.typing.Basic.{Basic}
use Rattle.pearl_tree.specs.declared.tree.TaskHead.{TaskHead}
use Rattle.pearl_tree.specs.declared.token.Token.{Token}
use Rattle.pearl_tree.specs.Standing.{HasWord, HasSymbol, IsName, SpellsMaybeBracketed}
use Rattle.pearl_tree.specs.Declarations.{SpellsParam}
use Rattle.pearl_tree.specs.Modules.{SpellsTaskHead, SpellsReturns, SpellsDecl}
use Rattle.pearl_tree.specs.declared.symbol.TheConstants as s
use Rattle.pearl_tree.specs.declared.word_code.TheConstants as w
use Rattle.pearl_parse_expr.specs.declared.reading.Reading.{Reading}
use Rattle.pearl_parse_expr.specs.Stops.{is_name, is_word}
use Rattle.pearl_parse_expr.specs.Reads.{ReadsMaybeList}
use Rattle.pearl_parse_decl.specs.Readings.{ReadsMaybePart, by_bracket, extends_head}
use Rattle.pearl_parse.proofs.Steps.{past}
use Rattle.pearl_parse.proofs.BlockRests.{block_rest, head_stops}
use Rattle.pearl_parse.proofs.DeclarationRests.{task_goes, block_goes}
use Rattle.pearl_parse.proofs.DeclarationLeast.{past_head, past_params, past_returns}
use Rattle.pearl_parse.proofs.Comes.{Maybe}
use Rattle.pearl_parse.proofs.Stands.{Stands}

module _ (tokens : List Token) (from : ℕ) (few : length tokens < 2 ^ 55) (name : Name) (is : IsName tokens from name)
    (colon : HasSymbol tokens (from + 1) s.COLON) (within : from + 2 < length tokens) where
  abbrev pub UnitAt : ℕ → ℕ → Type 0
  UnitAt = Stands 24 SpellsDecl tokens from 0 from block_rest block_rest

  -- ( [ prio ] [ MAIN ] | MAIN prio )
  pub past_task : HasWord tokens (from + 2) w.TASK → (x : Reading TaskHead) →
      ReadsMaybePart 16 SpellsTaskHead extends_head tokens (from + 3) (Ok x) → UnitAt x.end x.stop
  past_task here x read = record {
    goes = past SpellsDecl tokens from SpellsTaskHead extends_head block_rest (from + 3) (from + 2) x.end x.stop
        (task_goes tokens from (ap is_name is.0) here) (omega (arith, read.bounds)) read.longest head_stops;
    level = past_head tokens from few name is (omega (arith, within)) colon (omega (arith, within)) within here x.part
        x.end x.stop read.spells (omega (arith, read.bounds)) (omega (arith, read.bounds)) read.bounds.3 read.least;
    ahead = omega (arith, read.bounds);
    near = omega (arith, read.bounds);
    inside = read.bounds.3;
  }

  -- [ "(" param { "," param } ")" ] [ RETURNS "(" basic ")" ]
  pub past_procedure : {A : Type 0} → HasWord tokens (from + 2) w.PROC → (x : Reading (Vec Param A)) →
      ReadsMaybeList 9 (λ tokens. SpellsMaybeBracketed tokens (SpellsParam tokens)) by_bracket tokens (from + 3)
      (Ok x) →
      (y : Reading (Option Basic)) →
      ReadsMaybePart 16 (Maybe SpellsReturns) (is_word w.RETURNS) tokens x.end (Ok y) → (new : ℕ) →
      new ≡ max x.stop y.stop → UnitAt y.end new
  past_procedure {A} here x first y second new later = record {
    goes = block_goes tokens from (ap is_name is.0) here x.end x.stop y.end y.stop new (omega (arith, first.bounds))
        (omega (arith, later)) (omega (arith, later)) first.longest second.longest;
    level = past_returns tokens from few x.end x.stop (omega (arith, first.bounds))
        (past_params tokens from few name is (omega (arith, within)) colon (omega (arith, within)) within here
        x.part.items x.end x.stop first.spells (omega (arith, first.bounds)) (omega (arith, first.bounds))
        first.bounds.3 first.least) y.part y.end y.stop new second.spells (omega (arith, second.bounds))
        (omega (arith, second.bounds)) (omega (arith, first.bounds, second.bounds, later)) second.least later;
    ahead = omega (arith, first.bounds, second.bounds);
    near = omega (arith, first.bounds, later);
    inside = omega (arith, first.bounds, second.bounds, later);
  }
