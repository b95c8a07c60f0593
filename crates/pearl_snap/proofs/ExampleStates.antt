-- States of a small object, and which rules they keep: a task that has called a procedure, which refers to a cell of the task.
use Rattle.std.proofs.Common.{◌≡◌, ℕ, ◌+◌, ◌<◌, true, pos, [], ◌∷◌, None, Some, refl, sym, subst, arith}
use Rattle.std.proofs.lemmas.Int.{ints}
use Rattle.pearl_value.specs.declared.kind.Kind.TheVariants as kind
use Rattle.pearl_value.specs.declared.kind.CellKind.TheVariants.{Plain, RefTo}
use Rattle.pearl_value.specs.declared.cell.Cell.TheVariants as cell
use Rattle.pearl_instructions.specs.declared.instr.Instr.TheVariants.{RefCell, Call, Return, End}
use Rattle.pearl_instructions.specs.declared.object.Code.{Code}
use Rattle.pearl_instructions.specs.declared.object.Procedure.{Procedure}
use Rattle.pearl_instructions.specs.declared.object.Parts.{Parts as Object}
use Rattle.pearl_instructions.specs.Setups.{setup_of}
use Rattle.pearl_records.specs.declared.record.CoreRecord.{CoreRecord}
use Rattle.pearl_records.specs.declared.record.Standing.TheVariants.{Active}
use Rattle.pearl_records.specs.declared.record.PlanRecord.{PlanRecord}
use Rattle.pearl_records.specs.declared.record.EndRecord.TheVariants.{Never}
use Rattle.pearl_saved.specs.declared.saved.Target.TheVariants.{Own}
use Rattle.pearl_saved.specs.declared.saved.SavedCell.{SavedCell}
use Rattle.pearl_saved.specs.declared.saved.SavedCell.TheVariants.{Value, Variable}
use Rattle.pearl_saved.specs.declared.saved.FrameRecord.{FrameRecord}
use Rattle.pearl_value.specs.WellFormed.{IsValue, IsValueOf}
use Rattle.pearl_records.specs.States.{HasNumbers, HasSpans, IsPlan}
use Rattle.pearl_saved.specs.Rules.{IsHeld, IsAtCall, IsAtPlace, HasStacks, IsStackOf, AllRefer, own_kind, Names}
use Rattle.pearl_snap.specs.Parts.{HasParts}

-- a variable n of two slots, a procedure with a reference, and a task that calls it with its cell
abbrev returning : Code
returning = record { cells = RefTo (kind.Fixed 31) ∷ []; depth = 1; instructions = Return ∷ []; shapes = [] }

abbrev calling : Code
calling = record { cells = Plain (kind.Fixed 31) ∷ []; depth = 3; instructions = RefCell 0 ∷ Call 0 ∷ End ∷ []; shapes = [] }

abbrev adding : Procedure
adding = record { params = 1; result = None; code = returning }

abbrev small : Object
small = record {
  devices = [];
  semaphores = 3 ∷ [];
  leaves = record { name = 110 ∷ []; kind = kind.Fixed 31; slots = 2; constants = [] } ∷ [];
  formats = [];
  procedures = adding ∷ [];
  tasks = record { name = record { items = 84 ∷ [] }; priority = 1; main = true; code = calling } ∷ [];
}

abbrev five : SavedCell
five = Value (cell.Fixed 31 (pos 5))

abbrev pub lowest : FrameRecord
lowest = record { routine = 1; place = 1; cells = five ∷ []; operands = [] }

-- the procedure, which refers to cell c of frame n
abbrev pub called : (n c : ℕ) → FrameRecord
called n c = record { routine = 0; place = 0; cells = Variable (record { kind = kind.Fixed 31; target = Own n c }) ∷ []; operands = [] }

abbrev pub standing : CoreRecord
standing = record {
  moment = 7;
  clock = 0;
  last = Some 0;
  slots = cell.Fixed 31 (pos 0) ∷ cell.Fixed 31 (pos 1) ∷ [];
  counts = 3 ∷ [];
  switches = [];
  terminals = [];
  inputs = [];
  tasks = record { standing = Active 1 true (2 ∷ []); continuation = None; activation = None } ∷ [];
}

small_fixed : IsValueOf (kind.Fixed 31) (cell.Fixed 31 (pos 0)) × IsValueOf (kind.Fixed 31) (cell.Fixed 31 (pos 1))
small_fixed = (
  record { is_value = ((omega arith, omega arith), record { low = omega (arith, ints); high = omega (arith, ints) }); same_kind = refl },
  record { is_value = ((omega arith, omega arith), record { low = omega (arith, ints); high = omega (arith, ints) }); same_kind = refl },
)

parts_are : HasParts small standing
parts_are = record {
  slots = (small_fixed.0, (small_fixed.1, tt));
  as_many_counts = refl;
  counts = (omega arith, tt);
  switches = refl;
  as_many_terminals = refl;
  terminals = tt;
  inputs = tt;
  tasks = refl;
}

numbers_are : HasNumbers (setup_of small) standing
numbers_are = record {
  moment = omega arith;
  clock = omega arith;
  last = omega arith;
  priorities = ((((omega arith, omega arith), ((omega arith, omega arith), tt), omega arith), tt), tt);
}

plans_are : HasSpans (setup_of small) standing
plans_are = (record { dormant = λ e. refl; goes_on = tt; starts = tt }, tt)

five_is : IsValue (cell.Fixed 31 (pos 5))
five_is = ((omega arith, omega arith), record { low = omega (arith, ints); high = omega (arith, ints) })

-- 1000 is no FIXED(5)
too_wide : IsHeld (Value (cell.Fixed 5 (pos 1000))) → ⊥
too_wide h = let high = h.1.high in omega (arith, ints, high)

-- the lower frame is at its Call, without the argument
at_call : IsAtCall small 0 lowest
at_call = record { code = calling; routine = refl; place = refl; callee = adding; called = refl; stands = record { cells = refl; operands = refl; values = (five_is, tt) } }

at_place : IsAtPlace small (called 0 0)
at_place = record { code = returning; routine = refl; place = omega arith; stands = record { cells = refl; operands = refl; values = (tt, tt) } }

stands : HasStacks small 0 standing.tasks ((lowest ∷ called 0 0 ∷ []) ∷ [])
stands = ((refl, at_call, (refl, at_place)), tt)

-- with the frames swapped it is no stack
swapped : IsStackOf small 1 (called 0 0 ∷ lowest ∷ []) → ⊥
swapped h = let n : 0 ≡ 1 = h.0 in omega (arith, n)

-- the procedure refers to a cell of the frame below it
refers : AllRefer small [] (lowest ∷ called 0 0 ∷ [])
refers = ((tt, tt), tt, ((one, tt), tt, tt))
  where
    one : (i : ℕ) → i < 1 → own_kind (lowest ∷ []) 0 (0 + i) ≡ Some (kind.Fixed 31)
    one i less = let none : i ≡ 0 = omega (arith, less) in subst (λ k. own_kind (lowest ∷ []) 0 (0 + k) ≡ Some (kind.Fixed 31)) (sym none) refl

-- a reference to a cell of its own frame is none
above : Names small (lowest ∷ []) (kind.Fixed 31) (Own 1 0) 1 → ⊥
above h = let e : own_kind (lowest ∷ []) 1 0 ≡ Some (kind.Fixed 31) = h 0 (omega arith) in cc

-- a plan that waits for nothing and has no series is none
abbrev idle : PlanRecord
idle = record { when = None; after = 5; period = 0; end = Never; series = None }

no_series : IsPlan (setup_of small) idle → ⊥
no_series h = let e = h.begun refl in cc
