-- A valid object of three tasks with the instructions, starts and repetitions that the other whole objects lack.
use Rattle.std.proofs.Common.{◌≡◌, ℕ, zero, suc, [], ◌∷◌, Option, Some, None, refl, false}
use Rattle.pearl_value.specs.declared.kind.Kind.TheVariants as kind
use Rattle.pearl_value.specs.declared.kind.CellKind.TheVariants.{Plain}
use Rattle.pearl_value.specs.declared.operator.Monad.TheVariants.{Not}
use Rattle.pearl_value.specs.declared.trap.Trap.TheVariants as trap
use Rattle.pearl_value.specs.declared.device.Device.TheVariants.{Interrupt}
use Rattle.pearl_instructions.specs.declared.schedule.OnceForm.{OnceForm}
use Rattle.pearl_instructions.specs.declared.schedule.OnceForm.TheVariants as once
use Rattle.pearl_instructions.specs.declared.schedule.StartForm.{StartForm}
use Rattle.pearl_instructions.specs.declared.schedule.StartForm.TheVariants as form
use Rattle.pearl_instructions.specs.declared.schedule.RepeatForm.{RepeatForm}
use Rattle.pearl_instructions.specs.declared.schedule.RepeatForm.TheVariants as again
use Rattle.pearl_instructions.specs.declared.instr.Instr.{Instr}
use Rattle.pearl_instructions.specs.declared.instr.Instr.TheVariants.{Load, Store, Fill, Drop, Conv, Index, LoadAt, StoreAt, ReadAt, WriteAt, RefSlot, RefSlotAt, RefCellAt, ReadRef, WriteRef, JumpZero, Case, End, Trap, NonZero, Monadic, Now, Try, Activate, Continue, Resume, SuspendOwn, TerminateOwn, PreventOwn}
use Rattle.pearl_instructions.specs.declared.object.Code.{Code}
use Rattle.pearl_instructions.specs.declared.object.Task.{Task}
use Rattle.pearl_instructions.specs.declared.object.Parts.{Parts as Object}
use Rattle.pearl_instructions.specs.Valid.{unsound, IsValid}
use Rattle.pearl_instructions.proofs.Examples.{fixed, code, bounds}
use Rattle.pearl_instructions.proofs.ExampleObject.{nowhere}

abbrev cells : Code
cells = code (fixed ∷ fixed ∷ []) 4 (
    Fill 0 2 (kind.Fixed 31) ∷ Load 0 ∷ LoadAt 0 2 ∷ Store 1 ∷ Load 0 ∷ Load 1 ∷ StoreAt 0 2 ∷ Load 0 ∷ RefCellAt 0 2 ∷ ReadRef ∷ Conv (kind.Fixed 7) ∷
    NonZero ∷ Drop ∷ Load 0 ∷ Case (16 ∷ 15 ∷ []) ∷ Trap trap.Range ∷ End ∷ []) []

abbrev variables : Code
variables = code (fixed ∷ []) 3 (
    Load 0 ∷ Index (bounds 0 1 ∷ []) ∷ ReadAt 0 ∷ Drop ∷ Load 0 ∷ Load 0 ∷ WriteAt 0 ∷ RefSlot 0 ∷ ReadRef ∷ Drop ∷ Load 0 ∷ RefSlotAt 0 ∷ Load 0 ∷
    WriteRef ∷ Try 0 ∷ Monadic Not ∷ JumpZero 18 ∷ TerminateOwn ∷ SuspendOwn ∷ PreventOwn ∷ End ∷ []) []

abbrev activating : StartForm → RepeatForm → Instr
activating start repeat = Activate (record { task = 0; start = start; repeat = repeat; priority = false })

abbrev continuing : Option OnceForm → Instr
continuing when = Continue (record { task = 0; once = when })

abbrev plans : Code
plans = code (Plain kind.Span ∷ []) 4 (
    Load 0 ∷ activating form.After again.Once ∷ Load 0 ∷ Load 0 ∷ activating (form.WhenAfter 0) again.All ∷ Now ∷ Load 0 ∷ Now ∷ activating form.At again.Until ∷
    Load 0 ∷ Load 0 ∷ activating form.Free again.During ∷ Now ∷ continuing (Some once.At) ∷ Load 0 ∷ continuing (Some once.After) ∷ continuing None ∷
    Now ∷ Resume once.At ∷ Load 0 ∷ Resume once.After ∷ End ∷ []) []

abbrev named : ℕ → Code → Task
named letter code = record { name = record { items = letter ∷ [] }; priority = 1; main = false; code = code }

abbrev rest : Object
rest = record {
  devices = Interrupt 1 ∷ [];
  semaphores = 1 ∷ [];
  leaves = record { name = 118 ∷ []; kind = kind.Fixed 31; slots = 2; constants = [] } ∷ [];
  formats = [];
  procedures = [];
  tasks = named 65 cells ∷ named 66 variables ∷ named 67 plans ∷ [];
}

it_is_valid : IsValid rest
it_is_valid = record { sound = sound }
  where
    sound : (r i : ℕ) → unsound rest r i ≡ None
    sound zero i = nowhere rest 0 cells refl refl i
    sound (suc zero) i = nowhere rest 1 variables refl refl i
    sound (suc (suc zero)) i = nowhere rest 2 plans refl refl i
    sound (suc (suc (suc r))) i = refl
