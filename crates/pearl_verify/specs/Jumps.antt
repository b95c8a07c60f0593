-- The tables of a routine's instructions: which of them a jump names, and which shape is stated for each, with its number.
use Rattle.std.specs.Prelude.{◌≡◌, ℕ, ◌<◌, Bool, true, false, List, [], ◌∷◌, Option, Some, None, option_map, length, reverse, slice_get, slice_set}
use Rattle.std.specs.List.{AllByRecursion}
use Rattle.pearl_instructions.specs.declared.instr.Instr.{Instr}
use Rattle.pearl_instructions.specs.declared.object.Shape.{Shape as Stated}
use Rattle.pearl_instructions.specs.declared.object.Code.{Code}
use Rattle.pearl_instructions.specs.Operands.{Shape}
use Rattle.pearl_instructions.specs.declared.object.Parts.{Parts as Object}
use Rattle.pearl_instructions.specs.Valid.{is_named, stated, shape_before}
use Rattle.pearl_verify.specs.declared.jumps.JumpTable.{JumpTable}
use Rattle.pearl_verify.specs.Numbers.{Edges, number_of, IsTree}

-- the shape of a number, where there is one
abbrev pub shape_of : List Stated → Option ℕ → Option Shape
shape_of shapes None = None
shape_of shapes (Some number) = option_map (λ s. reverse s.kinds) (slice_get shapes number)

pub record AreNamed (instrs : List Instr) (marks : List Bool) : Type 0 where
  pub long : length marks ≡ length instrs
  pub named : (i : ℕ) → i < length instrs → slice_get marks i ≡ Some (is_named instrs i)

pub record AreStated (count : ℕ) (shapes : List Stated) (numbers : List (Option ℕ)) : Type 0 where
  pub long : length numbers ≡ count
  pub stated : (i : ℕ) → i < count → option_map (shape_of shapes) (slice_get numbers i) ≡ Some (stated shapes i)

-- none is stated yet
pub record AreNone (count : ℕ) (numbers : List (Option ℕ)) : Type 0 where
  pub long : length numbers ≡ count
  pub none : (i : ℕ) → i < count → slice_get numbers i ≡ Some None

-- these are the numbers of the stated shapes
abbrev pub AreNumbered : Edges → List Stated → List ℕ → Type 0
AreNumbered edges [] [] = Unit {0}
AreNumbered edges (s ∷ shapes) (n ∷ numbers) = (number_of edges (reverse s.kinds) ≡ Some n) × AreNumbered edges shapes numbers
AreNumbered edges shapes numbers = ⊥

pub record HoldsJumps (code : Code) (table : JumpTable) : Type 0 where
  pub named : AreNamed code.instructions table.named.items
  pub stated : AreStated (length code.instructions) code.shapes table.stated.items
  pub tree : IsTree table.tree.edges
  pub numbers : AreNumbered table.tree.edges code.shapes table.numbers.items

-- a shape is stated for an instruction, and this is its number
abbrev pub IsStatedNumber : Edges → Code → ℕ → ℕ → Type 0
IsStatedNumber edges code i n = (s : Shape) × (stated code.shapes i ≡ Some s) × (number_of edges s ≡ Some n)

-- these numbers marked
abbrev pub marked : List ℕ → List Bool → List Bool
marked [] marks = marks
marked (n ∷ numbers) marks = marked numbers (slice_set marks n true)

-- each of these is one of the instructions, and a jump names it
abbrev pub AllNamed : List Instr → List ℕ → Type 0
AllNamed instrs numbers = AllByRecursion (λ n. (n < length instrs) × (is_named instrs n ≡ true)) numbers

-- these kinds are the shape before an instruction, where none is stated for it and no jump names it
abbrev pub ComesBefore : Object → ℕ → Code → ℕ → Shape → Type 0
ComesBefore o r code i s = stated code.shapes i ≡ None → is_named code.instructions i ≡ false → shape_before o r code i ≡ s
