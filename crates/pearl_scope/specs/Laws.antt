-- What holds of the faults of every module, and of the constants of INIT.
use Rattle.std.specs.Prelude.{◌≡◌, ◌↔◌, ℕ, Bool, true, not, List, Ok}
use Rattle.pearl_value.specs.declared.cell.Cell.{Cell}
use Rattle.pearl_value.specs.declared.cell.Cell.TheVariants.{Fixed, Bits, Chars, Clock, Span}
use Rattle.pearl_value.specs.declared.kind.Kind.{Kind}
use Rattle.pearl_value.specs.Cells.{kind_of}
use Rattle.pearl_value.specs.Conversions.{converted, SuitsKind}
use Rattle.pearl_tree.specs.declared.fault.RuleFault.{RuleFault}
use Rattle.pearl_tree.specs.Durations.{milliseconds_of}
use Rattle.pearl_tree.specs.Faults.{ListFaults}
use Rattle.pearl_tree.specs.ShownLiterals.{ShownLiteral, OfNumber, OfBits, OfText, OfClock, OfDuration, ShownConst}
use Rattle.pearl_tree.specs.ShownModules.{ShownTree}
use Rattle.pearl_names.specs.Durations.{is_too_long}
use Rattle.pearl_scope.specs.Constants.{fits_kind, signed}
use Rattle.pearl_scope.specs.Rules.{broken}

-- the rules S1 to S9 that a module breaks have one list
abbrev pub HasOneList : Type 0
HasOneList =
    (tree : ShownTree) (faults others : List RuleFault) → ListFaults (broken tree) faults → ListFaults (broken tree) others →
    faults ≡ others

-- a duration that is too long has no value
abbrev pub has_value : ShownLiteral → Bool
has_value (OfDuration duration) = not (is_too_long duration)
has_value part = true

-- the value of a constant; that of a number is a FIXED of this length
abbrev pub value_of : (len : ℕ) → ShownConst → Cell
value_of len constant = of constant.literal
  where
    of : ShownLiteral → Cell
    of (OfNumber number) = Fixed len (signed constant.sign number.value)
    of (OfBits len value place) = Bits len value
    of (OfText text place) = Chars (record { items = text })
    of (OfClock milliseconds place) = Clock milliseconds
    of (OfDuration duration) = Span (signed constant.sign (milliseconds_of duration))

-- a value may be put where one of the kind is wanted, and no trap stands there instead of what it becomes
pub record Becomes (x : Cell) (to : Kind) (put : Cell) : Type 0 where
  pub suits : SuitsKind (kind_of x) to
  pub is : converted x to ≡ Ok put

-- a constant fits a kind exactly where its value becomes one of it, whatever length a number is given
abbrev pub FitsWherePut : Type 0
FitsWherePut =
    (constant : ShownConst) (len : ℕ) (to : Kind) → has_value constant.literal ≡ true →
    (fits_kind constant to ≡ true) ↔ ((put : Cell) × Becomes (value_of len constant) to put)
