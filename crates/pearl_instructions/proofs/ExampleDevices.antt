-- An object with an interrupt, inputs, outputs, semaphores and two tasks that is lawful and valid, and what is refused beside it.
use Rattle.std.proofs.Common.{◌≡◌, ℕ, zero, suc, List, [], ◌∷◌, Option, Some, None, inl, inr, refl, arith, false, true}
use Rattle.pearl_value.specs.declared.kind.Kind.TheVariants as kind
use Rattle.pearl_value.specs.declared.cell.Cell.TheVariants as cell
use Rattle.pearl_value.specs.Kinds.{IsKind}
use Rattle.pearl_format.specs.declared.item.ItemCode.TheVariants.{F}
use Rattle.pearl_value.specs.declared.device.Device.TheVariants.{Interrupt, Terminal, Input, Output}
use Rattle.pearl_value.specs.declared.device.Direction.TheVariants.{In, Out}
use Rattle.pearl_rules.specs.declared.action.Action.TheVariants as action
use Rattle.pearl_rules.specs.declared.action.Answer.TheVariants.{Nothing, One}
use Rattle.pearl_rules.specs.declared.action.Start.TheVariants as start
use Rattle.pearl_rules.specs.declared.action.Repeat.TheVariants as repeat
use Rattle.pearl_instructions.specs.declared.schedule.OnceForm.TheVariants as once
use Rattle.pearl_instructions.specs.declared.schedule.StartForm.TheVariants as form
use Rattle.pearl_instructions.specs.declared.schedule.RepeatForm.TheVariants as again
use Rattle.pearl_instructions.specs.declared.instr.Instr.{Instr}
use Rattle.pearl_instructions.specs.declared.instr.Instr.TheVariants.{Load, Read, Write, JumpZero, End, Request, Release, Try, Activate, Continue, Resume, Suspend, Terminate, Prevent, Enable, Disable, Trigger, Put, Get, Take, Send}
use Rattle.pearl_instructions.specs.declared.object.Task.{Task}
use Rattle.pearl_instructions.specs.declared.object.Parts.{Parts as Object}
use Rattle.pearl_instructions.specs.Lawful.{IsCode, IsObject}
use Rattle.pearl_instructions.specs.Rows.{row, after}
use Rattle.pearl_instructions.specs.Valid.{unsound, IsValid}
use Rattle.pearl_instructions.specs.Stacks.{Answers}
use Rattle.pearl_instructions.proofs.Letters.{letter_is_id}
use Rattle.pearl_instructions.proofs.Examples.{fixed, code, item}
use Rattle.pearl_instructions.proofs.ExampleRows.{number, offered, frame}
use Rattle.pearl_instructions.proofs.ExampleObject.{nowhere, small}

-- WHEN an interrupt ACTIVATE a task PRIO a number
abbrev activating : ℕ → ℕ → Instr
activating task device = Activate (record { task = task; start = form.When device; repeat = again.Once; priority = true })

abbrev continuing : ℕ → ℕ → Instr
continuing task device = Continue (record { task = task; once = Some (once.When device) })

-- the first task deals with the other one and with the interrupt, and then hands a measured value on
abbrev leading : List Instr
leading =
    Enable 0 ∷ Load 0 ∷ activating 1 0 ∷ Trigger 0 ∷ Suspend 1 ∷ continuing 1 0 ∷ Prevent 1 ∷ Terminate 1 ∷ Resume (once.When 0) ∷ Disable 0 ∷
    Request (0 ∷ 1 ∷ []) ∷ Take 3 ∷ Write 0 ∷ Read 0 ∷ Send 4 ∷ Release (1 ∷ 0 ∷ []) ∷ End ∷ []

-- the second one writes what was measured where the semaphore is free, and reads a command
abbrev following : List Instr
following = Try 0 ∷ JumpZero 5 ∷ Read 0 ∷ Put 1 0 ∷ Release (0 ∷ []) ∷ Get (record { device = 2; format = 0; first = 0 }) ∷ End ∷ []

abbrev named : ℕ → List Instr → Task
named letter instrs = record { name = record { items = letter ∷ [] }; priority = 1; main = false; code = code (fixed ∷ []) 2 instrs [] }

-- an interrupt, a terminal to write to and one to read from, an input and an output
abbrev plant : List Instr → Object
plant instrs = record {
  devices = Interrupt 1 ∷ Terminal 1 Out ∷ Terminal 2 In ∷ Input 1 (kind.Fixed 31) ∷ Output 1 (kind.Fixed 31) ∷ [];
  semaphores = 1 ∷ 0 ∷ [];
  leaves = record { name = 118 ∷ []; kind = kind.Fixed 31; slots = 1; constants = [] } ∷ [];
  formats = (item F 5 ∷ []) ∷ [];
  procedures = [];
  tasks = named 65 instrs ∷ named 66 following ∷ [];
}

it_is_valid : IsValid (plant leading)
it_is_valid = record { sound = sound }
  where
    sound : (r i : ℕ) → unsound (plant leading) r i ≡ None
    sound zero i = nowhere (plant leading) 0 (code (fixed ∷ []) 2 leading []) refl refl i
    sound (suc zero) i = nowhere (plant leading) 1 (code (fixed ∷ []) 2 following []) refl refl i
    sound (suc (suc r)) i = refl

it_is_lawful : IsObject (plant leading)
it_is_lawful = record {
  devices = ((omega arith, omega arith, tt), ((omega arith, omega arith, tt), ((omega arith, omega arith, tt), ((omega arith, omega arith, fixed_is), ((omega arith, omega arith, fixed_is), tt)))));
  rising = (inl (omega arith), (inr (refl, omega arith), (inl (omega arith), (inl (omega arith), tt))));
  leaves = (record { named = ((omega arith, omega arith), tt); short = omega arith; kind = fixed_is; some = (omega arith, omega arith); constants = tt; few = omega arith }, tt);
  formats = (((omega arith, omega arith), tt), tt);
  procedures = tt;
  tasks = (
    record { code = is_leading; named = letter_is_id 65 (inl (omega arith, omega arith)); urgent = (omega arith, omega arith) },
    (record { code = is_following; named = letter_is_id 66 (inl (omega arith, omega arith)); urgent = (omega arith, omega arith) }, tt),
  );
  semaphores = (omega arith, (omega arith, tt));
  few_formats = omega arith;
  few_slots = omega arith;
  few_procedures = omega arith;
  few_tasks = omega arith;
  few_semaphores = omega arith;
  few_devices = omega arith;
}
  where
    fixed_is : IsKind (kind.Fixed 31)
    fixed_is = (omega arith, omega arith)

    is_leading : IsCode 0 (code (fixed ∷ []) 2 leading [])
    is_leading = record {
      kinds = (fixed_is, tt);
      plain = (tt, tt);
      few = omega arith;
      instructions = (tt, (tt, (tt, (tt, (tt, (tt, (tt, (tt, (tt, (tt, (tt, (tt, (tt, (tt, (tt, (tt, (tt, tt)))))))))))))))));
      shapes = tt;
      rising = tt;
    }

    is_following : IsCode 0 (code (fixed ∷ []) 2 following [])
    is_following = record {
      kinds = (fixed_is, tt);
      plain = (tt, tt);
      few = omega arith;
      instructions = (tt, (tt, (tt, (tt, (tt, (tt, (tt, tt)))))));
      shapes = tt;
      rising = tt;
    }

-- which rule fails at the instruction, before which a value lies
abbrev bare : Instr → Option ℕ
bare instr = unsound (plant (instr ∷ End ∷ [])) 0 0

abbrev over_value : Instr → Option ℕ
over_value instr = unsound (plant (Load 0 ∷ instr ∷ End ∷ [])) 0 1

-- only an interrupt is enabled, disabled, triggered and waited for
enables_an_input : bare (Enable 3) ≡ Some 1
enables_an_input = refl

disables_a_terminal : bare (Disable 1) ≡ Some 1
disables_a_terminal = refl

triggers_an_output : bare (Trigger 4) ≡ Some 1
triggers_an_output = refl

triggers_nothing : bare (Trigger 5) ≡ Some 1
triggers_nothing = refl

when_an_interrupt : over_value (activating 1 0) ≡ None
when_an_interrupt = refl

when_an_input : over_value (activating 1 3) ≡ Some 1
when_an_input = refl

activates_no_task : over_value (activating 2 0) ≡ Some 1
activates_no_task = refl

continues_when_a_terminal : bare (continuing 1 1) ≡ Some 1
continues_when_a_terminal = refl

resumes_when_an_output : bare (Resume (once.When 4)) ≡ Some 1
resumes_when_an_output = refl

suspends_no_task : bare (Suspend 2) ≡ Some 1
suspends_no_task = refl

-- values come in from an input, and go out to an output
takes_from_an_output : bare (Take 4) ≡ Some 1
takes_from_an_output = refl

takes_from_an_interrupt : bare (Take 0) ≡ Some 1
takes_from_an_interrupt = refl

takes_from_a_terminal : bare (Take 2) ≡ Some 1
takes_from_a_terminal = refl

sends_to_an_output : over_value (Send 4) ≡ None
sends_to_an_output = refl

sends_to_an_input : over_value (Send 3) ≡ Some 1
sends_to_an_input = refl

sends_to_a_terminal : over_value (Send 1) ≡ Some 1
sends_to_a_terminal = refl

sends_another_kind : unsound (plant (Try 0 ∷ Send 4 ∷ End ∷ [])) 0 1 ≡ Some 4
sends_another_kind = refl

-- texts go to a terminal that takes them, and come from one that gives them
puts_to_an_output : over_value (Put 4 0) ≡ Some 1
puts_to_an_output = refl

puts_to_one_that_gives : over_value (Put 2 0) ≡ Some 1
puts_to_one_that_gives = refl

gets_from_an_input : bare (Get (record { device = 3; format = 0; first = 0 })) ≡ Some 1
gets_from_an_input = refl

gets_from_one_that_takes : bare (Get (record { device = 1; format = 0; first = 0 })) ≡ Some 1
gets_from_one_that_takes = refl

tries_no_semaphore : bare (Try 2) ≡ Some 1
tries_no_semaphore = refl

requests_no_semaphore : bare (Request (0 ∷ 2 ∷ [])) ≡ Some 1
requests_no_semaphore = refl

writes_no_leaf : over_value (Write 1) ≡ Some 1
writes_no_leaf = refl

writes_another_kind : unsound (plant (Try 0 ∷ Write 0 ∷ End ∷ [])) 0 1 ≡ Some 4
writes_another_kind = refl

-- what the instructions of the first task offer
enables : offered (row (plant leading) (frame 0 (number 7 ∷ []) [])) ≡ Some (action.Enable 0)
enables = refl

activates : offered (row (plant leading) (frame 2 (number 7 ∷ []) (number 7 ∷ []))) ≡ Some (action.Activate 1 (start.When 0) repeat.Once (Some 7))
activates = refl

triggers : offered (row (plant leading) (frame 3 (number 7 ∷ []) [])) ≡ Some (action.Trigger 0)
triggers = refl

requests : offered (row (plant leading) (frame 10 (number 7 ∷ []) [])) ≡ Some (action.Request (record { items = 0 ∷ 1 ∷ [] }))
requests = refl

takes : offered (row (plant leading) (frame 11 (number 7 ∷ []) [])) ≡ Some (action.Take 3)
takes = refl

-- a value of the input's kind suits, and is pushed
hears_a_value : Answers (plant leading) 0 (action.Take 3) (One (number 5))
hears_a_value = record { is_value = small 5 (omega arith); same_kind = refl }

hears_no_bit : Answers (plant leading) 0 (action.Take 3) (One (cell.Bits 1 0)) → ⊥
hears_no_bit suits = let same = suits.same_kind in cc

pushes_the_value : after (row (plant leading) (frame 11 (number 7 ∷ []) [])) (One (number 5)) ≡ frame 12 (number 7 ∷ []) (number 5 ∷ [])
pushes_the_value = refl

writes : offered (row (plant leading) (frame 12 (number 7 ∷ []) (number 5 ∷ []))) ≡ Some (action.Write 0 (number 5))
writes = refl

sends : offered (row (plant leading) (frame 14 (number 7 ∷ []) (number 5 ∷ []))) ≡ Some (action.Send 4 (number 5))
sends = refl

releases : offered (row (plant leading) (frame 15 (number 7 ∷ []) [])) ≡ Some (action.Release (record { items = 1 ∷ 0 ∷ [] }))
releases = refl

releases_and_goes_on : after (row (plant leading) (frame 15 (number 7 ∷ []) [])) Nothing ≡ frame 16 (number 7 ∷ []) []
releases_and_goes_on = refl
