-- Which kinds the expressions of a program have, and which variables and arguments there are: every number names a
-- thing of the needed sort, and every operator has a row for its operands.
use Rattle.std.specs.Prelude.{◌≡◌, ℕ, ◌+◌, ◌-◌, ◌*◌, ◌^◌, ◌<◌, pos, negsuc, ◌-ℤ◌, ◌≤ℤ◌, ◌≤◌, ◌⊎◌, unsigned_abs, nat_eq, Bool, IsTrue, List, [], ◌∷◌, take, drop, replicate, Option, Some, None, slice_get}
use Rattle.std.specs.List.{AllByRecursion, list_any}
use Rattle.pearl_value.specs.declared.kind.Kind.{Kind}
use Rattle.pearl_value.specs.declared.kind.Kind.TheVariants.{Fixed, Bits, Clock}
use Rattle.pearl_value.specs.declared.kind.CellKind.{CellKind}
use Rattle.pearl_value.specs.declared.kind.CellKind.TheVariants.{Plain, RefTo}
use Rattle.pearl_value.specs.WellFormed.{IsValueOf}
use Rattle.pearl_value.specs.Conversions.{SuitsKind}
use Rattle.pearl_value.specs.Rows.{row1, row2}
use Rattle.pearl_format.specs.declared.item.Item.{Item}
use Rattle.pearl_value.specs.declared.device.Device.{Device}
use Rattle.pearl_program.specs.declared.expression.Target.TheVariants.{Leaf, Own, Param}
use Rattle.pearl_program.specs.declared.expression.Bound.{Bound}
use Rattle.pearl_program.specs.PlainExpressions.{PlainExpr, OfLiteral, OfRead, OfMonadic, OfDyadic, OfCall, OfNow, OfTry, PlainVariable, OfVariable, PlainExprs, NoExprs, MoreExprs, PlainArgument, OfValue, OfIdent, PlainArguments, NoArguments, MoreArguments}
use Rattle.pearl_program.specs.PlainPrograms.{PlainLeaf}

-- a procedure as its callers see it
pub record Signature : Type 0 where
  pub params : List CellKind
  pub result : Option Kind

-- what stands around an expression or a statement
pub record Around : Type 0 where
  pub leaves : List PlainLeaf
  -- how many semaphores there are
  pub semaphores : ℕ
  pub devices : List Device
  pub formats : List (List Item)
  -- how many tasks there are
  pub tasks : ℕ
  pub procedures : List Signature
  -- the cells of the routine
  pub cells : List CellKind
  -- those of them that are hidden
  pub hidden : List ℕ
  -- the control variables of the loops around
  pub controls : List ℕ
  -- none in a task; else what the procedure's RETURNS says
  pub returns : Option (Option Kind)
  pub in_loop : Bool

abbrev pub elements : List Bound → ℕ
elements [] = 1
elements (bound ∷ rest) = (unsigned_abs (bound.upper -ℤ bound.lower) + 1) * elements rest

-- a dimension has an element, and its bounds are from -2^31 to 2^31 - 1
pub record IsBound (bound : Bound) : Type 0 where
  pub rising : bound.lower ≤ℤ bound.upper
  pub low : negsuc (2 ^ 31 - 1) ≤ℤ bound.lower
  pub high : bound.upper ≤ℤ pos (2 ^ 31 - 1)

-- so many cells are there from this one on, all of this kind
abbrev pub AreCells : List CellKind → (cell count : ℕ) → CellKind → Type 0
AreCells cells cell count kind = take count (drop cell cells) ≡ replicate count kind

-- none of so many cells from this one on is hidden
abbrev pub AreOpen : List ℕ → (cell count : ℕ) → Type 0
AreOpen hidden cell count = AllByRecursion (λ other. (other < cell) ⊎ (cell + count ≤ other)) hidden

-- in so many cells of the routine a variable of this kind may lie
abbrev pub AreOwn : Around → (cell count : ℕ) → Kind → Type 0
AreOwn around cell count kind = AreCells around.cells cell count (Plain kind) × AreOpen around.hidden cell count

abbrev pub IsLeafOf : Option PlainLeaf → List Bound → Kind → Type 0
IsLeafOf None bounds kind = ⊥
IsLeafOf (Some leaf) bounds kind = (leaf.values.kind ≡ kind) × (elements bounds ≡ leaf.values.count)

-- a parameter with IDENT is one element, and has no subscripts
abbrev pub IsParam : Option CellKind → List Bound → PlainExprs → Kind → Type 0
IsParam (Some (RefTo of)) [] NoExprs kind = of ≡ kind
IsParam _ bounds subscripts kind = ⊥

-- what is only read: the control variable of a loop around
abbrev pub IsControl : Around → PlainVariable → Kind → Type 0
IsControl around (OfVariable (Own cell) [] NoExprs) kind =
    IsTrue (list_any (nat_eq cell) around.controls) × AreCells around.cells cell 1 (Plain kind)
IsControl around variable kind = ⊥

abbrev mutual
  pub HasKind : Around → PlainExpr → Kind → Type 0
  HasKind around (OfLiteral value) kind = IsValueOf kind value
  HasKind around (OfRead variable) kind = IsVariable around variable kind ⊎ IsControl around variable kind
  HasKind around (OfMonadic op operand) kind = (one : Kind) × HasKind around operand one × (row1 op one ≡ Some kind)
  HasKind around (OfDyadic op left right) kind =
      (one : Kind) × (two : Kind) × HasKind around left one × HasKind around right two × (row2 op one two ≡ Some kind)
  HasKind around (OfCall procedure arguments) kind =
      (signature : Signature) × (slice_get around.procedures procedure ≡ Some signature) ×
      Suit around signature.params arguments × (signature.result ≡ Some kind)
  HasKind around OfNow kind = kind ≡ Clock
  HasKind around (OfTry semaphore) kind = (semaphore < around.semaphores) × (kind ≡ Bits 1)

  -- what is read, written and handed over: the bounds have as many elements as the leaf, or as there are cells; there are at
  -- most three of them, and a subscript for each
  pub IsVariable : Around → PlainVariable → Kind → Type 0
  IsVariable around (OfVariable (Leaf number) bounds subscripts) kind =
      IsLeafOf (slice_get around.leaves number) bounds kind × (drop 3 bounds ≡ []) × AreSubscripts around bounds subscripts
  IsVariable around (OfVariable (Own cell) bounds subscripts) kind =
      AreOwn around cell (elements bounds) kind × (drop 3 bounds ≡ []) × AreSubscripts around bounds subscripts
  IsVariable around (OfVariable (Param cell) bounds subscripts) kind =
      IsParam (slice_get around.cells cell) bounds subscripts kind

  pub AreSubscripts : Around → List Bound → PlainExprs → Type 0
  AreSubscripts around [] NoExprs = Unit {0}
  AreSubscripts around (bound ∷ bounds) (MoreExprs e rest) =
      IsBound bound × ((len : ℕ) × HasKind around e (Fixed len)) × AreSubscripts around bounds rest
  AreSubscripts around _ _ = ⊥

  -- the arguments suit these parameters
  pub Suit : Around → List CellKind → PlainArguments → Type 0
  Suit around [] NoArguments = Unit {0}
  Suit around (param ∷ params) (MoreArguments argument rest) = SuitsParam around param argument × Suit around params rest
  Suit around _ _ = ⊥

  -- a value that suits, or with IDENT a variable of just the parameter's kind
  pub SuitsParam : Around → CellKind → PlainArgument → Type 0
  SuitsParam around (Plain to) (OfValue e) = (from : Kind) × HasKind around e from × SuitsKind from to
  SuitsParam around (RefTo to) (OfIdent variable) = IsVariable around variable to
  SuitsParam around _ _ = ⊥

-- a value that suits this kind
abbrev pub HasValueFor : Around → PlainExpr → Kind → Type 0
HasValueFor around e to = (from : Kind) × HasKind around e from × SuitsKind from to

abbrev pub IsFixed : Around → PlainExpr → Type 0
IsFixed around e = (len : ℕ) × HasKind around e (Fixed len)

-- each has the kind at its place
abbrev pub HaveKinds : Around → PlainExprs → List Kind → Type 0
HaveKinds around NoExprs [] = Unit {0}
HaveKinds around (MoreExprs e rest) (kind ∷ kinds) = HasKind around e kind × HaveKinds around rest kinds
HaveKinds around _ _ = ⊥
