-- A whole run: DCL v FIXED INIT(40); x: TASK PRIO 3 MAIN; FOR i FROM 1 TO 2 REPEAT v := v + i; PUT i TO t BY F(3), SKIP; END; END;
use Rattle.std.specs.Prelude.{◌≡◌, ℕ, pos, true, [], ◌∷◌, None, codes}
use Rattle.std.specs.Fmt.{digits}
use Rattle.std.proofs.Common.{refl}
use Rattle.pearl_value.specs.declared.kind.Kind.TheVariants as kind
use Rattle.pearl_value.specs.declared.kind.CellKind.TheVariants.{Plain}
use Rattle.pearl_value.specs.declared.cell.Cell.{Cell}
use Rattle.pearl_value.specs.declared.cell.Cell.TheVariants.{Fixed}
use Rattle.pearl_value.specs.declared.operator.Dyad.TheVariants.{Add}
use Rattle.pearl_format.specs.declared.item.ItemCode.TheVariants.{F, Skip}
use Rattle.pearl_rules.specs.declared.entry.Entry.TheVariants.{Run}
use Rattle.pearl_rules.specs.declared.event.Event.TheVariants.{Start, Out, End as Ended}
use Rattle.pearl_value.specs.declared.device.Device.TheVariants.{Terminal}
use Rattle.pearl_value.specs.declared.device.Direction.TheVariants.{Out as Outwards}
use Rattle.pearl_rules.specs.Core.{Happened}
use Rattle.pearl_rules.specs.Effect.{effect}
use Rattle.pearl_rules.specs.Runs.{machine_step, machine_next}
use Rattle.pearl_instructions.specs.declared.instr.Instr.{Instr}
use Rattle.pearl_instructions.specs.declared.instr.Instr.TheVariants.{Const, Load, Store, Read, Write, Jump, JumpZero, Turn, End, Within, Advance, Dyadic, Put}
use Rattle.pearl_instructions.specs.declared.object.Parts.{Parts as Object}
use Rattle.pearl_instructions.specs.Engines.{machine_run, marked}

abbrev number : ℕ → Cell
number n = Fixed 31 (pos n)

abbrev push : ℕ → Instr
push n = Const (number n)

-- the cells are the control, the step and the limit of the loop
abbrev counting : Object
counting = record {
  devices = Terminal 1 Outwards ∷ [];
  semaphores = [];
  leaves = record { name = codes "v"; kind = kind.Fixed 31; slots = 1; constants = number 40 ∷ [] } ∷ [];
  formats = (record { code = F; width = 3 } ∷ record { code = Skip; width = 0 } ∷ []) ∷ [];
  procedures = [];
  tasks = record {
    name = record { items = codes "x" };
    priority = 3;
    main = true;
    code = record {
      cells = Plain (kind.Fixed 31) ∷ Plain (kind.Fixed 31) ∷ Plain (kind.Fixed 31) ∷ [];
      depth = 5;
      instructions = push 1 ∷ Store 0 ∷ push 1 ∷ Store 1 ∷ push 2 ∷ Store 2 ∷ Turn ∷ Within 0 ∷ JumpZero 17
          ∷ Read 0 ∷ Load 0 ∷ Dyadic Add ∷ Write 0 ∷ Load 0 ∷ Put 0 0 ∷ Advance 0 17 ∷ Jump 6 ∷ End ∷ [];
      shapes = [];
    };
  } ∷ [];
}

tells_all : (machine_run counting (Run 20 ∷ []) 42).core.told
    ≡ (0, Happened (Start 0 3)) ∷ (0, Happened (Out 0 (record { items = codes "  1\n" }))) ∷ (0, Happened (Out 0 (record { items = codes "  2\n" }))) ∷ (0, Happened (Ended 0)) ∷ []
unfolding machine_step effect digits
tells_all = refl

leaves_the_sum : (machine_run counting (Run 20 ∷ []) 42).core.slots ≡ number 43 ∷ []
unfolding machine_step effect digits
leaves_the_sum = refl

-- Turn, Read, Write and Put twice, and then Turn and End
makes_ten_marks : marked counting (Run 20 ∷ []) 42 ≡ 10
unfolding machine_step effect digits
makes_ten_marks = refl

-- after three marks the variable is written, and nothing is put out
stops_after_three : (machine_run counting (Run 3 ∷ []) 18).core.told ≡ (0, Happened (Start 0 3)) ∷ []
unfolding machine_step effect digits
stops_after_three = refl

waits_with_the_put : machine_next (machine_run counting (Run 3 ∷ []) 18) ≡ None
unfolding machine_step effect digits
waits_with_the_put = refl

has_written_once : (machine_run counting (Run 3 ∷ []) 18).core.slots ≡ number 41 ∷ []
unfolding machine_step effect digits
has_written_once = refl
