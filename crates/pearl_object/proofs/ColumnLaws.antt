-- What the validator's rules read of an instruction are the operands of its row, by cases.
use Rattle.std.proofs.Common.{refl}
use Rattle.pearl_value.specs.declared.operator.Monad.TheVariants.{Plus, Minus, Abs, Sign, Not}
use Rattle.pearl_value.specs.declared.operator.Dyad.TheVariants.{Pow, Mul, Div, Rem, Cat, Add, Sub, Cshift, Shift, Lt, Gt, Le, Ge, Eq, Ne, And, Or, Exor}
use Rattle.pearl_instructions.specs.declared.instr.Instr.{Instr}
use Rattle.pearl_instructions.specs.declared.instr.Instr.TheVariants.{Monadic, Dyadic}
use Rattle.pearl_object.specs.CodeRows.{letters}
use Rattle.pearl_object.specs.Columns.{ColumnsAgree}

pub columns_agree : (i : Instr) → ColumnsAgree i
unfolding letters
columns_agree (Monadic Plus) = record { each = refl; all = refl }
columns_agree (Monadic Minus) = record { each = refl; all = refl }
columns_agree (Monadic Abs) = record { each = refl; all = refl }
columns_agree (Monadic Sign) = record { each = refl; all = refl }
columns_agree (Monadic Not) = record { each = refl; all = refl }
columns_agree (Dyadic Pow) = record { each = refl; all = refl }
columns_agree (Dyadic Mul) = record { each = refl; all = refl }
columns_agree (Dyadic Div) = record { each = refl; all = refl }
columns_agree (Dyadic Rem) = record { each = refl; all = refl }
columns_agree (Dyadic Cat) = record { each = refl; all = refl }
columns_agree (Dyadic Add) = record { each = refl; all = refl }
columns_agree (Dyadic Sub) = record { each = refl; all = refl }
columns_agree (Dyadic Cshift) = record { each = refl; all = refl }
columns_agree (Dyadic Shift) = record { each = refl; all = refl }
columns_agree (Dyadic Lt) = record { each = refl; all = refl }
columns_agree (Dyadic Gt) = record { each = refl; all = refl }
columns_agree (Dyadic Le) = record { each = refl; all = refl }
columns_agree (Dyadic Ge) = record { each = refl; all = refl }
columns_agree (Dyadic Eq) = record { each = refl; all = refl }
columns_agree (Dyadic Ne) = record { each = refl; all = refl }
columns_agree (Dyadic And) = record { each = refl; all = refl }
columns_agree (Dyadic Or) = record { each = refl; all = refl }
columns_agree (Dyadic Exor) = record { each = refl; all = refl }
columns_agree _ = record { each = refl; all = refl }
