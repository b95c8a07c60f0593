-- How operands, instructions and what stands in tables are spelled, by cases.
use Rattle.std.proofs.Common.{◌≡◌, ℕ, [], ◌∷◌, ◌++◌, Some, refl, ap}
use Rattle.pearl_value.specs.declared.trap.Trap.{Trap}
use Rattle.pearl_value.specs.declared.trap.Trap.TheVariants as traps
use Rattle.pearl_value.specs.declared.operator.Monad.TheVariants.{Plus, Minus, Abs, Sign, Not}
use Rattle.pearl_value.specs.declared.operator.Dyad.TheVariants.{Pow, Mul, Div, Rem, Cat, Add, Sub, Cshift, Shift, Lt, Gt, Le, Ge, Eq, Ne, And, Or, Exor}
use Rattle.pearl_value.specs.declared.device.Direction.{Direction}
use Rattle.pearl_value.specs.declared.device.Direction.TheVariants.{In, Out, InOut}
use Rattle.pearl_format.specs.declared.item.ItemCode.{ItemCode}
use Rattle.pearl_format.specs.declared.item.ItemCode.TheVariants as items
use Rattle.pearl_format.specs.declared.item.Item.{Item}
use Rattle.pearl_instructions.specs.declared.schedule.OnceForm.{OnceForm}
use Rattle.pearl_instructions.specs.declared.schedule.OnceForm.TheVariants as once_form
use Rattle.pearl_instructions.specs.declared.instr.Instr.{Instr}
use Rattle.pearl_instructions.specs.declared.instr.Instr.TheVariants.{Monadic, Dyadic}
use Rattle.pearl_instructions.specs.declared.object.Code.{Code}
use Rattle.pearl_object.specs.Operands.{trap, trap_tag, once, maybe_once}
use Rattle.pearl_object.specs.Instructions.{instr, operands_at, row, row_bytes, opcode_of}
use Rattle.pearl_object.specs.Tables.{direction, direction_tag, item_code, item_tag, item}
use Rattle.pearl_object.specs.Codes.{code}

pub trap_bytes : (t : Trap) → trap.bytes t ≡ trap_tag t ∷ []
unfolding trap
trap_bytes traps.Overflow = refl
trap_bytes traps.ZeroDivide = refl
trap_bytes traps.Index = refl
trap_bytes traps.Range = refl
trap_bytes traps.Format = refl
trap_bytes traps.SemaLimit = refl

pub maybe_bytes : (form : OnceForm) → maybe_once.bytes (Some form) ≡ once.bytes form
unfolding maybe_once once
maybe_bytes once_form.At = refl
maybe_bytes once_form.After = refl
maybe_bytes (once_form.When d) = refl

pub direction_bytes : (d : Direction) → direction.bytes d ≡ direction_tag d ∷ []
unfolding direction
direction_bytes In = refl
direction_bytes Out = refl
direction_bytes InOut = refl

pub item_code_bytes : (c : ItemCode) → item_code.bytes c ≡ item_tag c ∷ []
unfolding item_code
item_code_bytes items.A = refl
item_code_bytes items.B1 = refl
item_code_bytes items.B2 = refl
item_code_bytes items.B3 = refl
item_code_bytes items.B4 = refl
item_code_bytes items.F = refl
item_code_bytes items.T = refl
item_code_bytes items.D = refl
item_code_bytes items.X = refl
item_code_bytes items.Skip = refl

pub item_bytes : (i : Item) → item.bytes i ≡ item_tag i.code ∷ i.width ∷ []
unfolding item
item_bytes i = ap (λ bs. bs ++ i.width ∷ []) (item_code_bytes i.code)

pub code_bytes : (params : ℕ) (c : Code) → (code params).bytes c ≡ (code 0).bytes c
unfolding code
code_bytes params c = refl

-- an instruction's bytes are its opcode and those of its operands
pub instr_bytes : (i : Instr) → instr.bytes i ≡ opcode_of i ∷ row_bytes (row i).operands
unfolding instr operands_at
instr_bytes (Monadic Plus) = refl
instr_bytes (Monadic Minus) = refl
instr_bytes (Monadic Abs) = refl
instr_bytes (Monadic Sign) = refl
instr_bytes (Monadic Not) = refl
instr_bytes (Dyadic Pow) = refl
instr_bytes (Dyadic Mul) = refl
instr_bytes (Dyadic Div) = refl
instr_bytes (Dyadic Rem) = refl
instr_bytes (Dyadic Cat) = refl
instr_bytes (Dyadic Add) = refl
instr_bytes (Dyadic Sub) = refl
instr_bytes (Dyadic Cshift) = refl
instr_bytes (Dyadic Shift) = refl
instr_bytes (Dyadic Lt) = refl
instr_bytes (Dyadic Gt) = refl
instr_bytes (Dyadic Le) = refl
instr_bytes (Dyadic Ge) = refl
instr_bytes (Dyadic Eq) = refl
instr_bytes (Dyadic Ne) = refl
instr_bytes (Dyadic And) = refl
instr_bytes (Dyadic Or) = refl
instr_bytes (Dyadic Exor) = refl
instr_bytes _ = refl
