-- A tiny object whose run comes just to the depth that its task states, and what is out of bounds: P: PROC(v FIXED)
-- RETURNS(FIXED); RETURN(v + v); END; x: TASK PRIO 3 MAIN; P(2), which is dropped; END; y: TASK PRIO 4; END;
use Rattle.std.specs.Prelude.{◌≡◌, ℕ, ◌≤◌, pos, true, false, List, [], ◌∷◌, Some, None, codes}
use Rattle.std.proofs.Common.{refl, sym, subst, arith}
use Rattle.std.proofs.lemmas.Int.{ints}
use Rattle.std.proofs.lemmas.Option.{same_Some}
use Rattle.pearl_value.specs.declared.kind.Kind.TheVariants as kind
use Rattle.pearl_value.specs.declared.kind.CellKind.TheVariants.{Plain}
use Rattle.pearl_value.specs.declared.cell.Cell.{Cell}
use Rattle.pearl_value.specs.declared.cell.Cell.TheVariants.{Fixed}
use Rattle.pearl_value.specs.declared.operator.Dyad.TheVariants.{Add}
use Rattle.pearl_value.specs.WellFormed.{IsValueOf}
use Rattle.pearl_rules.specs.declared.entry.Entry.TheVariants.{Run}
use Rattle.pearl_rules.specs.Effect.{effect}
use Rattle.pearl_rules.specs.Runs.{kept_at, machine_step}
use Rattle.pearl_stack.specs.Frames.{Frame, used}
use Rattle.pearl_instructions.specs.declared.instr.Instr.{Instr}
use Rattle.pearl_instructions.specs.declared.instr.Instr.TheVariants.{Const, Load, Drop, Call, Return, End, Dyadic}
use Rattle.pearl_instructions.specs.declared.object.Code.{Code}
use Rattle.pearl_instructions.specs.declared.object.Procedure.{Procedure}
use Rattle.pearl_instructions.specs.declared.object.Task.{Task}
use Rattle.pearl_instructions.specs.declared.object.Parts.{Parts as Object}
use Rattle.pearl_instructions.specs.Engines.{machine_run}
use Rattle.pearl_instructions.specs.Stacks.{IsCalling}
use Rattle.pearl_instructions_laws.specs.Bounds.{IsInBounds, AreInBounds}

abbrev two : Cell
two = Fixed 31 (pos 2)

abbrev doubling : Procedure
doubling = record {
  params = 1;
  result = Some (kind.Fixed 31);
  code = record {
    cells = Plain (kind.Fixed 31) ∷ [];
    depth = 3;
    instructions = Load 0 ∷ Load 0 ∷ Dyadic Add ∷ Return ∷ [];
    shapes = [];
  };
}

abbrev calling : Instr → ℕ → Code
calling first depth = record { cells = []; depth = depth; instructions = first ∷ Call 0 ∷ Drop ∷ End ∷ []; shapes = [] }

abbrev caller : Instr → ℕ → Task
caller first depth = record { name = record { items = codes "x" }; priority = 3; main = true; code = calling first depth }

abbrev idle : Code
idle = record { cells = []; depth = 0; instructions = End ∷ []; shapes = [] }

-- with the first task's first instruction, and the depth that it states
abbrev object : Instr → ℕ → Object
object first depth = record {
  devices = [];
  semaphores = [];
  leaves = [];
  formats = [];
  procedures = doubling ∷ [];
  tasks = caller first depth
      ∷ record { name = record { items = codes "y" }; priority = 4; main = false; code = idle } ∷ [];
}

abbrev whole : Object
whole = object (Const two) 3

-- before the sum: the parameter, and twice its value
abbrev deepest : List Frame
deepest = record { routine = 0; place = 2; cells = two ∷ []; operands = two ∷ two ∷ [] }
    ∷ record { routine = 1; place = 1; cells = []; operands = [] } ∷ []

comes_there : kept_at (machine_run whole (Run 9 ∷ []) 5).running 0 ≡ Some (record { stack = deepest; offer = None })
unfolding machine_step effect
comes_there = refl

other_has_none : kept_at (machine_run whole (Run 9 ∷ []) 5).running 1 ≡ None
unfolding machine_step effect
other_has_none = refl

two_is : IsValueOf (kind.Fixed 31) two
two_is = record {
  is_value = ((omega arith, omega arith), record { low = grind (arith, ints); high = grind (arith, ints) });
  same_kind = refl;
}

is_in_bounds : IsInBounds whole 0 deepest
is_in_bounds = record {
  task = caller (Const two) 3;
  there = refl;
  stack = record {
    code = doubling.code;
    routine = refl;
    place = omega arith;
    stands = record { cells = (two_is, tt); operands = (two_is, (two_is, tt)) };
    below = (is_calling, omega arith);
  };
  own = refl;
  row = λ e. cc;
  depth = omega arith;
  few = omega arith;
}
  where
    is_calling : IsCalling whole 0 (record { routine = 1; place = 1; cells = []; operands = [] }) []
    is_calling = record {
      callee = doubling;
      called = refl;
      code = calling (Const two) 3;
      routine = refl;
      place = refl;
      stands = record { cells = tt; operands = tt };
    }

-- it isn't the other task's
is_no_others : IsInBounds whole 1 deepest → ⊥
is_no_others is = let own = is.own in omega (arith, own)

-- where one less is stated, the depth is passed
abbrev shallow : Object
shallow = object (Const two) 2

comes_too_deep :
    kept_at (machine_run shallow (Run 9 ∷ []) 5).running 0 ≡ Some (record { stack = deepest; offer = None })
unfolding machine_step effect
comes_too_deep = refl

passes_the_depth : AreInBounds shallow (machine_run shallow (Run 9 ∷ []) 5) → ⊥
passes_the_depth are =
    let is = are.each 0 (record { stack = deepest; offer = None }) comes_too_deep in
    let depth = subst (λ (task : Task). used deepest ≤ task.code.depth)
    (sym (same_Some (caller (Const two) 2) is.task is.there)) is.depth in
    omega (arith, depth)

-- where an operand is missing, there is no row
abbrev starved : Object
starved = object Drop 3

lacks_a_row : AreInBounds starved (machine_run starved [] 0) → ⊥
lacks_a_row are = (are.each 0 (record { stack = first; offer = None }) refl).row refl
  where
    first : List Frame
    first = record { routine = 1; place = 0; cells = []; operands = [] } ∷ []
