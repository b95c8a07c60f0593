-- What is done over a list of answers: it gives a value and what is left, or it needs an answer to an action, or it fails with a trap.
use Rattle.std.specs.Prelude.{ℕ, List, [], ◌∷◌, drop, Option, Some, None, Result, Ok, Err, slice_get}
use Rattle.pearl_value.specs.declared.cell.Cell.{Cell}
use Rattle.pearl_value.specs.declared.trap.Trap.{Trap}
use Rattle.pearl_value.specs.declared.trap.Trap.TheVariants.{Range}
use Rattle.pearl_rules.specs.declared.action.Action.{Action}
use Rattle.pearl_rules.specs.declared.action.Answer.{Answer}
use Rattle.pearl_rules.specs.Slots.{heard_value}
use Rattle.pearl_meaning.specs.Frames.{Store, cell_at, with_cell_at, top, below, with_cell, with_cells}

pub data Outcome (X : Type 0) : Type 0 where
  Value : (x : X) (store : Store) (rest : List Answer) → Outcome X
  Needs : (action : Action) → Outcome X
  Fails : (trap : Trap) → Outcome X

-- what is done with the task's own variables and the answers that are left
abbrev pub Does : Type 0 → Type 0
Does X = Store → List Answer → Outcome X

abbrev pub gives : {X : Type 0} → X → Does X
gives x store rest = Value x store rest

abbrev pub fails : {X : Type 0} → Trap → Does X
fails trap store rest = Fails trap

abbrev pub on_value : {X Y : Type 0} → Outcome X → (X → Does Y) → Outcome Y
on_value (Value x store rest) go = go x store rest
on_value (Needs action) go = Needs action
on_value (Fails trap) go = Fails trap

-- one thing after another, with the value that the first gave
abbrev pub bind : {X Y : Type 0} → Does X → (X → Does Y) → Does Y
bind first go store rest = on_value (first store rest) go

-- and without it
abbrev pub next : {X Y : Type 0} → Does X → Does Y → Does Y
next first second = bind first (λ x. second)

-- an action: it uses one answer
abbrev pub ask : Action → Does Answer
ask action store [] = Needs action
ask action store (answer ∷ rest) = Value answer store rest

-- an action after which nothing more is heard
abbrev pub stop : {X : Type 0} → Action → Does X
stop action store rest = Needs action

-- an action that is answered with one value
abbrev pub ask_value : Action → Does Cell
ask_value action = bind (ask action) (λ answer. gives (heard_value answer))

abbrev pub value_or_trap : {X : Type 0} → Result X Trap → Does X
value_or_trap (Ok x) = gives x
value_or_trap (Err trap) = fails trap

-- what is named is there in every sound program; where it isn't, Range stands
abbrev pub given : {X Y : Type 0} → Option X → (X → Does Y) → Does Y
given None go = fails Range
given (Some x) go = go x

abbrev pub own_task : Does ℕ
own_task store rest = Value store.task store rest

-- the number of the frame of the routine at work
abbrev pub own_frame : Does ℕ
own_frame store rest = Value (below store.frames) store rest

-- what a cell of the routine at work holds
abbrev pub own_cell : ℕ → Does Cell
own_cell cell store rest = given (slice_get (top store.frames) cell) gives store rest

-- that cell gets this value
abbrev pub put_cell : ℕ → Cell → Does (Unit {0})
put_cell cell x store rest = Value tt (record store { frames = with_cell store.frames cell x }) rest

-- the cells from this one on get these values
abbrev pub put_cells : ℕ → List Cell → Does (Unit {0})
put_cells cell xs store rest = Value tt (record store { frames = with_cells store.frames cell xs }) rest

-- what a cell of any frame holds, and that it gets a value
abbrev pub cell_of_frame : (frame cell : ℕ) → Does Cell
cell_of_frame frame cell store rest = given (cell_at store.frames frame cell) gives store rest

abbrev pub put_cell_of_frame : (frame cell : ℕ) → Cell → Does (Unit {0})
put_cell_of_frame frame cell x store rest = Value tt (record store { frames = with_cell_at store.frames frame cell x }) rest

-- a frame is put on the others, and taken off again
abbrev pub push_frame : List Cell → Does (Unit {0})
push_frame frame store rest = Value tt (record store { frames = frame ∷ store.frames }) rest

abbrev pub drop_frame : Does (Unit {0})
drop_frame store rest = Value tt (record store { frames = drop 1 store.frames }) rest
