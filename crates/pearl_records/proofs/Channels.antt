-- Devices: what is recorded of their channels makes the same channels again, and the other way round.
use Rattle.std.proofs.Common.{◌≡◌, ℕ, suc, Bool, List, [], ◌∷◌, length, refl, sym, ap, ◌∙◌, arith}
use Rattle.std.specs.List.{AllByRecursion, AllZip}
use Rattle.pearl_value.specs.declared.cell.Cell.{Cell}
use Rattle.pearl_value.specs.declared.device.Device.{Device}
use Rattle.pearl_value.specs.declared.device.Device.TheVariants.{Interrupt, Terminal, Input, Output}
use Rattle.pearl_value.specs.Devices.{IsDevice}
use Rattle.pearl_rules.specs.Core.{Channel, Switch, Bytes, Values, Outward}
use Rattle.pearl_rules.specs.Slots.{IsChannelOf}
use Rattle.pearl_records.specs.States.{count_of_sort, input_kinds, WaitsTyped, WaitsOf}
use Rattle.pearl_records.specs.Records.{switches_in, terminals_in, inputs_in, channels_made}

-- ---- channels, and what is recorded of them

pub again : (devices : List Device) (channels : List Channel) → AllZip IsChannelOf devices channels →
    channels_made devices (switches_in channels) (terminals_in channels) (inputs_in channels) ≡ channels
again [] [] h = refl
again [] (c ∷ channels) h = absurd h
again (d ∷ devices) [] h = absurd h
again (Interrupt number ∷ devices) (Switch enabled ∷ channels) h = ap (λ more. Switch enabled ∷ more) (again devices channels h.1)
again (Terminal number direction ∷ devices) (Bytes pending ∷ channels) h = ap (λ more. Bytes pending ∷ more) (again devices channels h.1)
again (Input number kind ∷ devices) (Values own pending ∷ channels) h =
    ap (λ k. Values k pending ∷ channels_made devices (switches_in channels) (terminals_in channels) (inputs_in channels)) (sym h.0.0)
    ∙ ap (λ more. Values own pending ∷ more) (again devices channels h.1)
again (Output number kind ∷ devices) (Outward ∷ channels) h = ap (λ more. Outward ∷ more) (again devices channels h.1)
again (d ∷ devices) (c ∷ channels) h = absurd h.0

-- as many as there are devices of each sort, and each holds what it may
pub record Recorded (devices : List Device) (channels : List Channel) : Type 0 where
  pub switches : length (switches_in channels) ≡ count_of_sort devices 0
  pub as_many : length (terminals_in channels) ≡ count_of_sort devices 1
  pub terminals : AllByRecursion WaitsTyped (terminals_in channels)
  pub inputs : AllZip WaitsOf (input_kinds devices) (inputs_in channels)

pub recorded : (devices : List Device) (channels : List Channel) → AllZip IsChannelOf devices channels → Recorded devices channels
recorded [] [] h = record { switches = refl; as_many = refl; terminals = tt; inputs = tt }
recorded [] (c ∷ channels) h = absurd h
recorded (d ∷ devices) [] h = absurd h
recorded (Interrupt number ∷ devices) (Switch enabled ∷ channels) h =
    let r = recorded devices channels h.1 in
    record { switches = ap suc r.switches; as_many = r.as_many; terminals = r.terminals; inputs = r.inputs }
recorded (Terminal number direction ∷ devices) (Bytes pending ∷ channels) h =
    let r = recorded devices channels h.1 in
    record { switches = r.switches; as_many = ap suc r.as_many; terminals = (h.0, r.terminals); inputs = r.inputs }
recorded (Input number kind ∷ devices) (Values own pending ∷ channels) h =
    let r = recorded devices channels h.1 in
    record { switches = r.switches; as_many = r.as_many; terminals = r.terminals; inputs = ((h.0.2, h.0.3), r.inputs) }
recorded (Output number kind ∷ devices) (Outward ∷ channels) h =
    let r = recorded devices channels h.1 in
    record { switches = r.switches; as_many = r.as_many; terminals = r.terminals; inputs = r.inputs }
recorded (d ∷ devices) (c ∷ channels) h = absurd h.0

-- ---- the other way

none_left : {X : Type 0} (xs : List X) → length xs ≡ 0 → xs ≡ []
none_left [] e = refl
none_left (x ∷ xs) e = absurd (omega (arith, e))

-- the channels that are made have the same record
pub record Read (devices : List Device) (switches : List Bool) (terminals : List (List ℕ)) (inputs : List (List Cell)) : Type 0 where
  pub same_switches : switches_in (channels_made devices switches terminals inputs) ≡ switches
  pub same_terminals : terminals_in (channels_made devices switches terminals inputs) ≡ terminals
  pub same_inputs : inputs_in (channels_made devices switches terminals inputs) ≡ inputs

pub read : (devices : List Device) (switches : List Bool) (terminals : List (List ℕ)) (inputs : List (List Cell)) →
    length switches ≡ count_of_sort devices 0 → length terminals ≡ count_of_sort devices 1 →
    AllZip WaitsOf (input_kinds devices) inputs → Read devices switches terminals inputs
read [] switches terminals [] s t h = record { same_switches = sym (none_left switches s); same_terminals = sym (none_left terminals t); same_inputs = refl }
read [] switches terminals (i ∷ inputs) s t h = absurd h
read (Interrupt number ∷ devices) [] terminals inputs s t h = absurd (omega (arith, s))
read (Interrupt number ∷ devices) (enabled ∷ switches) terminals inputs s t h =
    let less : length switches ≡ count_of_sort devices 0 = omega (arith, s) in
    let r = read devices switches terminals inputs less t h in
    record { same_switches = ap (λ more. enabled ∷ more) r.same_switches; same_terminals = r.same_terminals; same_inputs = r.same_inputs }
read (Terminal number direction ∷ devices) switches [] inputs s t h = absurd (omega (arith, t))
read (Terminal number direction ∷ devices) switches (pending ∷ terminals) inputs s t h =
    let less : length terminals ≡ count_of_sort devices 1 = omega (arith, t) in
    let r = read devices switches terminals inputs s less h in
    record { same_switches = r.same_switches; same_terminals = ap (λ more. pending ∷ more) r.same_terminals; same_inputs = r.same_inputs }
read (Input number kind ∷ devices) switches terminals [] s t h = absurd h
read (Input number kind ∷ devices) switches terminals (pending ∷ inputs) s t h =
    let r = read devices switches terminals inputs s t h.1 in
    record { same_switches = r.same_switches; same_terminals = r.same_terminals; same_inputs = ap (λ more. pending ∷ more) r.same_inputs }
read (Output number kind ∷ devices) switches terminals inputs s t h =
    let r = read devices switches terminals inputs s t h in
    record { same_switches = r.same_switches; same_terminals = r.same_terminals; same_inputs = r.same_inputs }

-- and each is of its device's sort
pub made : (devices : List Device) (switches : List Bool) (terminals : List (List ℕ)) (inputs : List (List Cell)) →
    AllByRecursion IsDevice devices → length switches ≡ count_of_sort devices 0 → length terminals ≡ count_of_sort devices 1 →
    AllByRecursion WaitsTyped terminals → AllZip WaitsOf (input_kinds devices) inputs →
    AllZip IsChannelOf devices (channels_made devices switches terminals inputs)
made [] switches terminals inputs is s t typed h = tt
made (Interrupt number ∷ devices) [] terminals inputs is s t typed h = absurd (omega (arith, s))
made (Interrupt number ∷ devices) (enabled ∷ switches) terminals inputs is s t typed h =
    let less : length switches ≡ count_of_sort devices 0 = omega (arith, s) in
    (tt, made devices switches terminals inputs is.1 less t typed h)
made (Terminal number direction ∷ devices) switches [] inputs is s t typed h = absurd (omega (arith, t))
made (Terminal number direction ∷ devices) switches (pending ∷ terminals) inputs is s t typed h =
    let less : length terminals ≡ count_of_sort devices 1 = omega (arith, t) in
    (typed.0, made devices switches terminals inputs is.1 s less typed.1 h)
made (Input number kind ∷ devices) switches terminals [] is s t typed h = absurd h
made (Input number kind ∷ devices) switches terminals (pending ∷ inputs) is s t typed h =
    ((refl, is.0.2, h.0.0, h.0.1), made devices switches terminals inputs is.1 s t typed h.1)
made (Output number kind ∷ devices) switches terminals inputs is s t typed h =
    (tt, made devices switches terminals inputs is.1 s t typed h)
