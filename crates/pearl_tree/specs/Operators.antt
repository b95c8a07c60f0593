-- The rows of the table of operators: one for each operator and each choice of families that it takes.
use Rattle.std.specs.Prelude.{◌≡◌, ℕ, ◌+◌, ◌<◌, Bool, nat_lt, ◌==◌, if◌then◌else◌, Some, ◌⊎◌}
use Rattle.pearl_value.specs.declared.kind.Kind.{Kind}
use Rattle.pearl_value.specs.declared.kind.Kind.TheVariants as kind
use Rattle.pearl_value.specs.declared.operator.Monad.{Monad}
use Rattle.pearl_value.specs.declared.operator.Monad.TheVariants as monad
use Rattle.pearl_value.specs.declared.operator.Dyad.{Dyad}
use Rattle.pearl_value.specs.declared.operator.Dyad.TheVariants as dyad
use Rattle.pearl_value.specs.Rows.{row1, row2}
use Rattle.pearl_tree.specs.declared.family.TheConstants as family
use Rattle.pearl_tree.specs.declared.opcode.TheConstants as opcode
use Rattle.pearl_tree.specs.declared.operator.OpRow.{OpRow}

-- the family of a kind, which leaves its length out
abbrev pub family_of : Kind → ℕ
family_of (kind.Fixed len) = family.FIXED
family_of (kind.Bits len) = family.BIT
family_of (kind.Chars len) = family.CHAR
family_of kind.Clock = family.CLOCK
family_of kind.Span = family.DURATION

-- the code of an operator with one operand
abbrev pub monad_code : Monad → ℕ
monad_code monad.Plus = opcode.PLUS
monad_code monad.Minus = opcode.MINUS
monad_code monad.Abs = opcode.ABS
monad_code monad.Sign = opcode.SIGN
monad_code monad.Not = opcode.NOT

-- the code of an operator with two operands
abbrev pub dyad_code : Dyad → ℕ
dyad_code dyad.Pow = opcode.POW
dyad_code dyad.Mul = opcode.MUL
dyad_code dyad.Div = opcode.DIV
dyad_code dyad.Rem = opcode.REM
dyad_code dyad.Cat = opcode.CAT
dyad_code dyad.Add = opcode.ADD
dyad_code dyad.Sub = opcode.SUB
dyad_code dyad.Cshift = opcode.CSHIFT
dyad_code dyad.Shift = opcode.SHIFT
dyad_code dyad.Lt = opcode.LT
dyad_code dyad.Gt = opcode.GT
dyad_code dyad.Le = opcode.LE
dyad_code dyad.Ge = opcode.GE
dyad_code dyad.Eq = opcode.EQ
dyad_code dyad.Ne = opcode.NE
dyad_code dyad.And = opcode.AND
dyad_code dyad.Or = opcode.OR
dyad_code dyad.Exor = opcode.EXOR

-- an operator of a smaller rank binds closer
abbrev pub rank : Dyad → ℕ
rank dyad.Pow = 1
rank dyad.Mul = 2
rank dyad.Div = 2
rank dyad.Rem = 2
rank dyad.Cat = 2
rank dyad.Add = 3
rank dyad.Sub = 3
rank dyad.Cshift = 3
rank dyad.Shift = 3
rank dyad.Lt = 4
rank dyad.Gt = 4
rank dyad.Le = 4
rank dyad.Ge = 4
rank dyad.Eq = 5
rank dyad.Ne = 5
rank dyad.And = 6
rank dyad.Or = 7
rank dyad.Exor = 7

-- the row of an operator with one operand of this kind that gives this kind: rank 0, and no left operand
abbrev pub monadic_row : Monad → Kind → Kind → OpRow
monadic_row op right result = record {
  code = monad_code op;
  rank = 0;
  left = family.ABSENT;
  right = family_of right;
  result = family_of result;
}

-- the row of an operator with operands of these kinds that gives the third kind
abbrev pub dyadic_row : Dyad → Kind → Kind → Kind → OpRow
dyadic_row op left right result = record {
  code = dyad_code op;
  rank = rank op;
  left = family_of left;
  right = family_of right;
  result = family_of result;
}

-- an operator takes an operand of some kind, and this is its row
pub record IsMonadicRow (row : OpRow) : Type 0 where
  pub op : Monad
  pub right : Kind
  pub result : Kind
  pub takes : row1 op right ≡ Some result
  pub written : row ≡ monadic_row op right result

-- an operator takes operands of some kinds, and this is its row
pub record IsDyadicRow (row : OpRow) : Type 0 where
  pub op : Dyad
  pub left : Kind
  pub right : Kind
  pub result : Kind
  pub takes : row2 op left right ≡ Some result
  pub written : row ≡ dyadic_row op left right result

abbrev pub IsRow : OpRow → Type 0
IsRow row = IsMonadicRow row ⊎ IsDyadicRow row

-- the two joined would be longer than any kind of their family
abbrev pub IsTooLong : Dyad → Kind → Kind → Type 0
IsTooLong dyad.Cat (kind.Chars len) (kind.Chars other) = 255 < len + other
IsTooLong dyad.Cat (kind.Bits len) (kind.Bits other) = 64 < len + other
IsTooLong _ _ _ = ⊥

-- the row is that of this operator and these families
abbrev pub HasKey : OpRow → ℕ → ℕ → ℕ → Type 0
HasKey row code left right = (row.code ≡ code) × (row.left ≡ left) × (row.right ≡ right)

-- the order of a table of operators: by code, then left, then right
abbrev pub key_before : OpRow → OpRow → Bool
key_before a b =
    if a.code == b.code
    then (if a.left == b.left then nat_lt a.right b.right else nat_lt a.left b.left)
    else nat_lt a.code b.code
