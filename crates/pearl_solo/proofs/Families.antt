-- Which instructions are left where those of the families before are not it.
use Rattle.std.proofs.Common.{◌≡◌, ℕ, ◌≤◌, List, refl, arith}
use Rattle.pearl_value.specs.declared.trap.Trap.{Trap as Trapped}
use Rattle.pearl_instructions.specs.declared.instr.Activation.{Activation}
use Rattle.pearl_instructions.specs.declared.instr.Continuation.{Continuation}
use Rattle.pearl_instructions.specs.declared.instr.Reading.{Reading}
use Rattle.pearl_instructions.specs.declared.schedule.OnceForm.{OnceForm}
use Rattle.pearl_instructions.specs.declared.instr.Instr.{Instr}
use Rattle.pearl_instructions.specs.declared.instr.Instr.TheVariants.{Turn, Call, End, Trap, ReadRef, WriteRef, Read, Write, ReadAt, WriteAt, RefSlot, RefSlotAt, Activate, Continue, Resume, Suspend, Terminate, Prevent, SuspendOwn, TerminateOwn, PreventOwn, Now, Request, Release, Try, Enable, Disable, Trigger, Put, Get, Take, Send}
use Rattle.pearl_silent.specs.Standing.{family}

pub beyond_ways : (i : Instr) → 2 ≤ family i → (i ≡ Turn → ⊥) → ((x : ℕ) → i ≡ Call x → ⊥) → (i ≡ End → ⊥) → ((x : Trapped) → i ≡ Trap x → ⊥) → (i ≡ ReadRef → ⊥) → (i ≡ WriteRef → ⊥) →
    3 ≤ family i
beyond_ways Turn h n0 n1 n2 n3 n4 n5 = absurd (n0 refl)
beyond_ways (Call x) h n0 n1 n2 n3 n4 n5 = absurd (n1 x refl)
beyond_ways End h n0 n1 n2 n3 n4 n5 = absurd (n2 refl)
beyond_ways (Trap x) h n0 n1 n2 n3 n4 n5 = absurd (n3 x refl)
beyond_ways ReadRef h n0 n1 n2 n3 n4 n5 = absurd (n4 refl)
beyond_ways WriteRef h n0 n1 n2 n3 n4 n5 = absurd (n5 refl)
beyond_ways i h n0 n1 n2 n3 n4 n5 = omega (arith, h)

pub beyond_variables : (i : Instr) → 3 ≤ family i → ((x : ℕ) → i ≡ Read x → ⊥) → ((x : ℕ) → i ≡ Write x → ⊥) → ((x : ℕ) → i ≡ ReadAt x → ⊥) → ((x : ℕ) → i ≡ WriteAt x → ⊥) → ((x : ℕ) → i ≡ RefSlot x → ⊥) → ((x : ℕ) → i ≡ RefSlotAt x → ⊥) →
    4 ≤ family i
beyond_variables (Read x) h n0 n1 n2 n3 n4 n5 = absurd (n0 x refl)
beyond_variables (Write x) h n0 n1 n2 n3 n4 n5 = absurd (n1 x refl)
beyond_variables (ReadAt x) h n0 n1 n2 n3 n4 n5 = absurd (n2 x refl)
beyond_variables (WriteAt x) h n0 n1 n2 n3 n4 n5 = absurd (n3 x refl)
beyond_variables (RefSlot x) h n0 n1 n2 n3 n4 n5 = absurd (n4 x refl)
beyond_variables (RefSlotAt x) h n0 n1 n2 n3 n4 n5 = absurd (n5 x refl)
beyond_variables i h n0 n1 n2 n3 n4 n5 = omega (arith, h)

pub beyond_tasks : (i : Instr) → 4 ≤ family i → ((x : Activation) → i ≡ Activate x → ⊥) → ((x : Continuation) → i ≡ Continue x → ⊥) → ((x : OnceForm) → i ≡ Resume x → ⊥) → ((x : ℕ) → i ≡ Suspend x → ⊥) → ((x : ℕ) → i ≡ Terminate x → ⊥) → ((x : ℕ) → i ≡ Prevent x → ⊥) → (i ≡ SuspendOwn → ⊥) → (i ≡ TerminateOwn → ⊥) → (i ≡ PreventOwn → ⊥) →
    5 ≤ family i
beyond_tasks (Activate x) h n0 n1 n2 n3 n4 n5 n6 n7 n8 = absurd (n0 x refl)
beyond_tasks (Continue x) h n0 n1 n2 n3 n4 n5 n6 n7 n8 = absurd (n1 x refl)
beyond_tasks (Resume x) h n0 n1 n2 n3 n4 n5 n6 n7 n8 = absurd (n2 x refl)
beyond_tasks (Suspend x) h n0 n1 n2 n3 n4 n5 n6 n7 n8 = absurd (n3 x refl)
beyond_tasks (Terminate x) h n0 n1 n2 n3 n4 n5 n6 n7 n8 = absurd (n4 x refl)
beyond_tasks (Prevent x) h n0 n1 n2 n3 n4 n5 n6 n7 n8 = absurd (n5 x refl)
beyond_tasks SuspendOwn h n0 n1 n2 n3 n4 n5 n6 n7 n8 = absurd (n6 refl)
beyond_tasks TerminateOwn h n0 n1 n2 n3 n4 n5 n6 n7 n8 = absurd (n7 refl)
beyond_tasks PreventOwn h n0 n1 n2 n3 n4 n5 n6 n7 n8 = absurd (n8 refl)
beyond_tasks i h n0 n1 n2 n3 n4 n5 n6 n7 n8 = omega (arith, h)

pub beyond_devices : (i : Instr) → 5 ≤ family i → (i ≡ Now → ⊥) → ((x : List ℕ) → i ≡ Request x → ⊥) → ((x : List ℕ) → i ≡ Release x → ⊥) → ((x : ℕ) → i ≡ Try x → ⊥) → ((x : ℕ) → i ≡ Enable x → ⊥) → ((x : ℕ) → i ≡ Disable x → ⊥) → ((x : ℕ) → i ≡ Trigger x → ⊥) → ((x : ℕ) (y : ℕ) → i ≡ Put x y → ⊥) → ((x : Reading) → i ≡ Get x → ⊥) → ((x : ℕ) → i ≡ Take x → ⊥) → ((x : ℕ) → i ≡ Send x → ⊥) →
    ⊥
beyond_devices Now h n0 n1 n2 n3 n4 n5 n6 n7 n8 n9 n10 = absurd (n0 refl)
beyond_devices (Request x) h n0 n1 n2 n3 n4 n5 n6 n7 n8 n9 n10 = absurd (n1 x refl)
beyond_devices (Release x) h n0 n1 n2 n3 n4 n5 n6 n7 n8 n9 n10 = absurd (n2 x refl)
beyond_devices (Try x) h n0 n1 n2 n3 n4 n5 n6 n7 n8 n9 n10 = absurd (n3 x refl)
beyond_devices (Enable x) h n0 n1 n2 n3 n4 n5 n6 n7 n8 n9 n10 = absurd (n4 x refl)
beyond_devices (Disable x) h n0 n1 n2 n3 n4 n5 n6 n7 n8 n9 n10 = absurd (n5 x refl)
beyond_devices (Trigger x) h n0 n1 n2 n3 n4 n5 n6 n7 n8 n9 n10 = absurd (n6 x refl)
beyond_devices (Put x y) h n0 n1 n2 n3 n4 n5 n6 n7 n8 n9 n10 = absurd (n7 x y refl)
beyond_devices (Get x) h n0 n1 n2 n3 n4 n5 n6 n7 n8 n9 n10 = absurd (n8 x refl)
beyond_devices (Take x) h n0 n1 n2 n3 n4 n5 n6 n7 n8 n9 n10 = absurd (n9 x refl)
beyond_devices (Send x) h n0 n1 n2 n3 n4 n5 n6 n7 n8 n9 n10 = absurd (n10 x refl)
beyond_devices i h n0 n1 n2 n3 n4 n5 n6 n7 n8 n9 n10 = absurd (omega (arith, h))
