-- Which answers suit an action, what a task can hear, and with what a run of the plant starts.
use Rattle.std.specs.Prelude.{◌≡◌, ℕ, pos, List, [], ◌∷◌, Some, None, codes, true, false}
use Rattle.std.proofs.Common.{refl, arith}
use Rattle.pearl_value.specs.declared.kind.Kind.TheVariants as kind
use Rattle.pearl_value.specs.declared.cell.Cell.{Cell}
use Rattle.pearl_value.specs.declared.cell.Cell.TheVariants.{Fixed, Bits, Clock}
use Rattle.pearl_value.specs.declared.operator.Dyad.TheVariants.{Add}
use Rattle.pearl_rules.specs.declared.action.Action.TheVariants.{Read, Try, Take, Get}
use Rattle.pearl_rules.specs.declared.action.Answer.{Answer}
use Rattle.pearl_rules.specs.declared.action.Answer.TheVariants.{Nothing, One, Many}
use Rattle.pearl_value.specs.declared.device.Direction.TheVariants.{InOut}
use Rattle.pearl_value.specs.declared.device.Device.TheVariants.{Interrupt, Terminal, Input, Output}
use Rattle.pearl_rules.specs.declared.setup.TaskEntry.{TaskEntry}
use Rattle.pearl_program.specs.PlainExpressions.{OfRead, OfDyadic, OfNow}
use Rattle.pearl_program.specs.PlainStatements.{OfAt, OfActivate, OfTake, OfTerminate, NoStmts}
use Rattle.pearl_program.specs.PlainPrograms.{PlainProg}
use Rattle.pearl_meaning.specs.Programs.{setting_of, call_within, offer}
use Rattle.pearl_meaning.specs.Frames.{Store}
use Rattle.pearl_meaning.specs.Evaluation.{Does}
use Rattle.pearl_meaning.specs.Values.{eval}
use Rattle.pearl_meaning.specs.Hearing.{IsOneOf, Suits, Heard, HeardIn}
use Rattle.pearl_meaning.specs.ProgramRuns.{setup_of, slots_of}
use Rattle.pearl_meaning.proofs.Examples.{number, hears, a, b, two, doing, program}
use Rattle.pearl_meaning.proofs.ExamplePlant.{plant, degrees}

-- the numbers 75 and 9 are FIXED(31), and 5 milliseconds after midnight is a CLOCK
number_75 : IsOneOf (Some (kind.Fixed 31)) (hears 75)
number_75 = record { is_value = ((omega arith, omega arith), record { low = omega arith; high = omega arith }); same_kind = refl }

number_9 : IsOneOf (Some (kind.Fixed 31)) (hears 9)
number_9 = record { is_value = ((omega arith, omega arith), record { low = omega arith; high = omega arith }); same_kind = refl }

time_5 : IsOneOf (Some kind.Clock) (One (Clock 5))
time_5 = record { is_value = omega arith; same_kind = refl }

-- a number is no CLOCK, nor is one of 15 digits one of 31; no value, and several, aren't one
no_clock : IsOneOf (Some kind.Clock) (hears 75) → ⊥
no_clock one = let e = one.same_kind in cc (e)

no_long_number : IsOneOf (Some (kind.Fixed 31)) (One (degrees 75)) → ⊥
no_long_number one = let e = one.same_kind in cc (e)

no_value : IsOneOf (Some (kind.Fixed 31)) Nothing → ⊥
no_value one = one

no_single_value : IsOneOf (Some (kind.Fixed 31)) (Many (record { items = number 75 ∷ [] })) → ⊥
no_single_value one = one

no_device : IsOneOf None (hears 75) → ⊥
no_device one = one

-- TAKE a FROM probe; AT NOW ACTIVATE task 1 PRIO b;
abbrev asking : PlainProg
asking = program [] [] (two (OfTake a 2) (OfActivate 1 (Some (OfAt OfNow)) None (Some (OfRead b))))

-- Take, Write, Now, Read, Activate
hears_each : Heard asking 0 (hears 75 ∷ Nothing ∷ One (Clock 5) ∷ hears 9 ∷ Nothing ∷ [])
unfolding offer
hears_each = (number_75, (refl, (time_5, (number_9, (refl, tt)))))

-- the time of day is no number
hears_no_number : Heard asking 0 (hears 75 ∷ Nothing ∷ hears 75 ∷ []) → ⊥
unfolding offer
hears_no_number heard = no_clock heard.1.1.0

-- after its End it hears nothing
hears_no_more : Heard asking 0 (hears 75 ∷ Nothing ∷ One (Clock 5) ∷ hears 9 ∷ Nothing ∷ Nothing ∷ []) → ⊥
unfolding offer
hears_no_more heard = heard.1.1.1.1.1.0

-- a + b, in a task without own variables, hears one number for each, and then nothing
abbrev sum : Does Cell
sum = eval (setting_of asking (call_within asking 0) None (record { cells = []; body = NoStmts })) (OfDyadic Add (OfRead a) (OfRead b))

abbrev begun : Store
begun = record { task = 0; frames = [] ∷ [] }

hears_both : HeardIn asking sum begun (hears 75 ∷ hears 9 ∷ [])
hears_both = (number_75, (number_9, tt))

hears_no_third : HeardIn asking sum begun (hears 75 ∷ hears 9 ∷ hears 9 ∷ []) → ⊥
hears_no_third heard = heard.1.1.0

hears_no_time : HeardIn asking sum begun (hears 75 ∷ One (Clock 5) ∷ []) → ⊥
hears_no_time heard = let e = heard.1.0.same_kind in cc (e)

-- TERMINATE; ends the own task, and TERMINATE task 1; another one
hears_nothing : (answer : Answer) → Heard (doing (OfTerminate None)) 0 (answer ∷ []) → ⊥
unfolding offer
hears_nothing answer heard = heard.0.0 refl

hears_nothing_by_name : (answer : Answer) → Heard (doing (OfTerminate (Some 0))) 0 (answer ∷ []) → ⊥
unfolding offer
hears_nothing_by_name answer heard = heard.0.0 refl

goes_on_after_another : Heard (doing (OfTerminate (Some 1))) 0 (Nothing ∷ [])
unfolding offer
goes_on_after_another = (((λ e. cc (e)), refl), tt)

-- the slots of m are FIXED(31), that of t is CHAR(3), that of s FIXED(3), and behind it is none
reads_the_last_of_m : Suits asking 0 (Read 7) (hears 75)
reads_the_last_of_m = number_75

reads_no_number_from_t : Suits asking 0 (Read 8) (hears 75) → ⊥
reads_no_number_from_t one = let e = one.same_kind in cc (e)

reads_short_numbers : Suits asking 0 (Read 9) (One (Fixed 3 (pos 7)))
reads_short_numbers = record { is_value = ((omega arith, omega arith), record { low = omega arith; high = omega arith }); same_kind = refl }

reads_no_8 : Suits asking 0 (Read 9) (One (Fixed 3 (pos 8))) → ⊥
reads_no_8 one = let high = one.is_value.1.high in omega (arith, high)

reads_no_slot_behind : Suits asking 0 (Read 10) (hears 75) → ⊥
reads_no_slot_behind one = one

-- a TRY gives one bit, and an output gives nothing
tries : Suits asking 0 (Try 0) (One (Bits 1 1))
tries = record { is_value = ((omega arith, omega arith), omega arith); same_kind = refl }

tries_one_bit : Suits asking 0 (Try 0) (One (Bits 2 1)) → ⊥
tries_one_bit one = let e = one.same_kind in cc (e)

takes_from_no_output : Suits asking 0 (Take 3) (One (Bits 4 1)) → ⊥
takes_from_no_output one = one

-- a GET of two numbers gives both
gets_both : Suits asking 0 (Get 1 2 (record { items = kind.Fixed 31 ∷ kind.Fixed 31 ∷ [] })) (Many (record { items = number 75 ∷ number 9 ∷ [] }))
gets_both = (number_75, (number_9, tt))

gets_no_less : Suits asking 0 (Get 1 2 (record { items = kind.Fixed 31 ∷ kind.Fixed 31 ∷ [] })) (Many (record { items = number 75 ∷ [] })) → ⊥
gets_no_less many = many.1

-- WITH WHAT A RUN STARTS

abbrev entry : List ℕ → ℕ → TaskEntry
entry name priority = record { name = record { items = name }; priority = priority; main = false }

-- the tasks in their order, one of them MAIN
tasks_of_the_plant : (setup_of plant).tasks ≡ record (entry (codes "init") 1) { main = true } ∷ entry (codes "sampler") 10
    ∷ entry (codes "shut") 3 ∷ entry (codes "logger") 20 ∷ entry (codes "operator") 30 ∷ []
tasks_of_the_plant = refl

-- temp is unset, and limit begins with 80
slots_of_the_plant : (setup_of plant).slots ≡ degrees 0 ∷ degrees 80 ∷ []
slots_of_the_plant = refl

-- the presets of guard, and of the two of the small program
guard_of_the_plant : (setup_of plant).semaphores ≡ 1 ∷ []
guard_of_the_plant = refl

presets : (setup_of asking).semaphores ≡ 1 ∷ 0 ∷ []
presets = refl

devices_of_the_plant : (setup_of plant).devices ≡ Interrupt 4 ∷ Terminal 1 InOut ∷ Input 2 (kind.Fixed 15) ∷ Output 7 (kind.Bits 4) ∷ []
devices_of_the_plant = refl

-- DCL v(4) FIXED INIT(3, 5); the last constant is in all that are left
slots_of_an_array : slots_of (record { name = codes "v"; values = record { kind = kind.Fixed 31; count = 4; constants = number 3 ∷ number 5 ∷ [] } })
    ≡ number 3 ∷ number 5 ∷ number 5 ∷ number 5 ∷ []
slots_of_an_array = refl
