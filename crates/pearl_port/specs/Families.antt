-- Which family of kinds a cell is of, and what it is that a type carries the values of one family.
use Rattle.std.specs.Prelude.{◌≡◌, ◌≢◌, ◌↔◌, ℕ, Option, Some, None, IsNone, IfSome}
use Rattle.pearl_value.specs.declared.cell.Cell.{Cell}
use Rattle.pearl_value.specs.declared.cell.Cell.TheVariants.{Fixed, Bits, Chars, Clock, Span, Ref}

-- the families are 0 FIXED, 1 BIT, 2 CHAR, 3 CLOCK and 4 DURATION; a reference is of none
abbrev pub family_of : Cell → Option ℕ
family_of (Fixed len value) = Some 0
family_of (Bits len value) = Some 1
family_of (Chars text) = Some 2
family_of (Clock time) = Some 3
family_of (Span time) = Some 4
family_of (Ref of place) = None

-- what is read from a cell: nothing exactly where it is of another family or a reference, and else what is this cell
pub record ReadsFrom {X : Type 0} (family : ℕ) (cell_of : X → Cell) (cell : Cell) (value : Option X) : Type 0 where
  pub none : IsNone value ↔ (family_of cell ≢ Some family)
  pub same : IfSome value (λ x. cell_of x ≡ cell)

-- values are carried as cells of this family: what was made a cell is read again, and what is read is what the cell is
pub record Carries {X : Type 0} (family : ℕ) (cell_of : X → Cell) (read : Cell → Option X) : Type 0 where
  pub again : (x : X) → read (cell_of x) ≡ Some x
  pub reads : (cell : Cell) → ReadsFrom family cell_of cell (read cell)
