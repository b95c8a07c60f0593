-- First values fill what they are for, with values of its kind.
use Rattle.std.specs.Prelude.{◌≡◌, ◌-◌, List, [], ◌∷◌, length, replicate}
use Rattle.std.specs.List.{All, AllByRecursion}
use Rattle.std.proofs.Common.{arith}
use Rattle.std.proofs.lemmas.List.{length-append, length-replicate}
use Rattle.std.proofs.lemmas.List.Elements.{All-nil, All-cons, All-append, All-replicate}
use Rattle.pearl_value.specs.declared.cell.Cell.{Cell}
use Rattle.pearl_value.specs.Blanks.{blank_of, last_or}
use Rattle.pearl_value.specs.WellFormed.{IsValueOf}
use Rattle.pearl_value.proofs.Offered.{blank_gives}
use Rattle.pearl_program.specs.PlainStatements.{PlainValues}
use Rattle.pearl_program.specs.SoundStatements.{AreFirst}
use Rattle.pearl_program.specs.FirstCells.{first_cells}

last_suits : (P : Cell → Type 0) (x : Cell) (xs : List Cell) → P x → AllByRecursion P xs → P (last_or x xs)
last_suits P x [] one all = one
last_suits P x (y ∷ rest) one all = last_suits P y rest all.0 all.1

each_suits : (P : Cell → Type 0) (xs : List Cell) → AllByRecursion P xs → All P xs
each_suits P [] all = All-nil P
each_suits P (x ∷ xs) all = All-cons P x xs all.0 (each_suits P xs all.1)

pub first_suit : (values : PlainValues) → AreFirst values →
    (length (first_cells values) ≡ values.count) × All (IsValueOf values.kind) (first_cells values)
first_suit values are = (
  (let a = length-append values.constants (replicate (values.count - length values.constants) (last_or (blank_of values.kind) values.constants)) in
      let b = length-replicate (values.count - length values.constants) (last_or (blank_of values.kind) values.constants) in
      let c = are.few in omega (arith, a, b, c)),
  All-append (IsValueOf values.kind) values.constants
      (replicate (values.count - length values.constants) (last_or (blank_of values.kind) values.constants))
      (each_suits (IsValueOf values.kind) values.constants are.constants)
      (All-replicate (IsValueOf values.kind) (values.count - length values.constants) (last_or (blank_of values.kind) values.constants)
      (last_suits (IsValueOf values.kind) (blank_of values.kind) values.constants (blank_gives values.kind are.kind) are.constants)),
)
