-- What is done one after another uses answers up, where each part does.
use Rattle.std.specs.Prelude.{ℕ, ◌<◌, ◌≤◌, Bool, true, false, if◌then◌else◌, List, [], ◌∷◌, ◌++◌, length, Option, Some, None, Result, Ok, Err, slice_get}
use Rattle.std.proofs.Common.{refl, sym, subst, ap, arith}
use Rattle.pearl_value.specs.declared.cell.Cell.{Cell}
use Rattle.pearl_value.specs.declared.trap.Trap.{Trap}
use Rattle.pearl_rules.specs.declared.action.Action.{Action}
use Rattle.pearl_rules.specs.declared.action.Answer.{Answer}
use Rattle.pearl_meaning.specs.Frames.{Store, cell_at, top}
use Rattle.pearl_meaning.specs.Evaluation.{Outcome, Value, Needs, Fails, Does, gives, fails, on_value, bind, next, ask, stop, ask_value, value_or_trap, given, own_task, own_frame, own_cell, put_cell, put_cells, cell_of_frame, put_cell_of_frame, push_frame, drop_frame}
use Rattle.pearl_meaning.specs.Laws.{LeavesNoMore, LeavesFewer, GoesOn, UsesUp}

fewer : {X : Type 0} (rest left : List Answer) (o : Outcome X) → length left ≤ length rest → LeavesNoMore left o → LeavesNoMore rest o
fewer rest left (Value x store last) less leaves = omega (arith, less, leaves)
fewer rest left (Needs action) less leaves = tt
fewer rest left (Fails trap) less leaves = tt

on_value_leaves : {X Y : Type 0} (go : X → Does Y) (rest : List Answer) (o : Outcome X) → ((x : X) → UsesUp (go x)) → LeavesNoMore rest o →
    LeavesNoMore rest (on_value o go)
on_value_leaves go rest (Value x store left) uses leaves = fewer rest left (go x store left) leaves ((uses x).leaves store left)
on_value_leaves go rest (Needs action) uses leaves = tt
on_value_leaves go rest (Fails trap) uses leaves = tt

fewer_left : {X : Type 0} (left more : List Answer) (o : Outcome X) → length left < length more → LeavesNoMore left o → LeavesFewer more o
fewer_left left more (Value x store last) less leaves = omega (arith, less, leaves)
fewer_left left more (Needs action) less leaves = tt
fewer_left left more (Fails trap) less leaves = tt

on_value_fewer : {X Y : Type 0} (go : X → Does Y) (more : List Answer) (o : Outcome X) → ((x : X) → UsesUp (go x)) → LeavesFewer more o →
    LeavesFewer more (on_value o go)
on_value_fewer go more (Value x store left) uses leaves = fewer_left left more (go x store left) leaves ((uses x).leaves store left)
on_value_fewer go more (Needs action) uses leaves = tt
on_value_fewer go more (Fails trap) uses leaves = tt

on_value_goes_on : {X Y : Type 0} (go : X → Does Y) (more : List Answer) (o other : Outcome X) → ((x : X) → UsesUp (go x)) → GoesOn more o other →
    GoesOn more (on_value o go) (on_value other go)
on_value_goes_on go more (Value x store left) other uses same =
    subst (λ other. GoesOn more (go x store left) (on_value other go)) (sym same) ((uses x).goes_on store left more)
on_value_goes_on go more (Needs action) other uses less = on_value_fewer go more other uses less
on_value_goes_on go more (Fails trap) other uses same = ap (λ other. on_value other go) same

pub bind_uses : {X Y : Type 0} {first : Does X} {go : X → Does Y} → UsesUp first → ((x : X) → UsesUp (go x)) → UsesUp (bind first go)
bind_uses {first = first} {go = go} one others =
    record {
      leaves = λ store rest. on_value_leaves go rest (first store rest) others (one.leaves store rest);
      goes_on = λ store rest more. on_value_goes_on go more (first store rest) (first store (rest ++ more)) others (one.goes_on store rest more);
    }

pub gives_uses : {X : Type 0} {x : X} → UsesUp (gives x)
gives_uses = record { leaves = λ store rest. omega arith; goes_on = λ store rest more. refl }

pub fails_uses : {X : Type 0} {trap : Trap} → UsesUp {X = X} (fails trap)
fails_uses = record { leaves = λ store rest. tt; goes_on = λ store rest more. refl }

ask_leaves : (action : Action) (store : Store) (rest : List Answer) → LeavesNoMore rest (ask action store rest)
ask_leaves action store [] = tt
ask_leaves action store (answer ∷ rest) = omega arith

ask_goes_on : (action : Action) (store : Store) (rest more : List Answer) → GoesOn more (ask action store rest) (ask action store (rest ++ more))
ask_goes_on action store [] [] = tt
ask_goes_on action store [] (answer ∷ more) = omega arith
ask_goes_on action store (answer ∷ rest) more = refl

pub ask_uses : {action : Action} → UsesUp (ask action)
ask_uses {action = action} = record { leaves = ask_leaves action; goes_on = ask_goes_on action }

pub value_uses : {action : Action} → UsesUp (ask_value action)
value_uses = bind_uses ask_uses (λ answer. gives_uses)

pub stop_uses : {X : Type 0} {action : Action} → UsesUp {X = X} (stop action)
stop_uses = record { leaves = λ store rest. tt; goes_on = λ store rest more. tt }

pub next_uses : {X Y : Type 0} {first : Does X} {second : Does Y} → UsesUp first → UsesUp second → UsesUp (next first second)
next_uses one two = bind_uses one (λ x. two)

pub result_uses : {X : Type 0} (result : Result X Trap) → UsesUp (value_or_trap result)
result_uses (Ok x) = gives_uses
result_uses (Err trap) = fails_uses

pub given_uses : {X Y : Type 0} {go : X → Does Y} (option : Option X) → ((x : X) → UsesUp (go x)) → UsesUp (given option go)
given_uses None uses = fails_uses
given_uses (Some x) uses = uses x

given_leaves : {X : Type 0} (option : Option X) (store : Store) (rest : List Answer) → LeavesNoMore rest (given option gives store rest)
given_leaves None store rest = tt
given_leaves (Some x) store rest = omega arith

given_goes_on : {X : Type 0} (option : Option X) (store : Store) (rest more : List Answer) → GoesOn more (given option gives store rest) (given option gives store (rest ++ more))
given_goes_on None store rest more = refl
given_goes_on (Some x) store rest more = refl

pub own_cell_uses : {cell : ℕ} → UsesUp (own_cell cell)
own_cell_uses {cell = cell} = record {
  leaves = λ store rest. given_leaves (slice_get (top store.frames) cell) store rest;
  goes_on = λ store rest more. given_goes_on (slice_get (top store.frames) cell) store rest more;
}

pub cell_of_frame_uses : {frame cell : ℕ} → UsesUp (cell_of_frame frame cell)
cell_of_frame_uses {frame = frame} {cell = cell} = record {
  leaves = λ store rest. given_leaves (cell_at store.frames frame cell) store rest;
  goes_on = λ store rest more. given_goes_on (cell_at store.frames frame cell) store rest more;
}

-- what only changes own variables, or asks nothing
pub put_cell_uses : {cell : ℕ} {x : Cell} → UsesUp (put_cell cell x)
put_cell_uses = record { leaves = λ store rest. omega arith; goes_on = λ store rest more. refl }

pub put_cells_uses : {cell : ℕ} {xs : List Cell} → UsesUp (put_cells cell xs)
put_cells_uses = record { leaves = λ store rest. omega arith; goes_on = λ store rest more. refl }

pub put_cell_of_frame_uses : {frame cell : ℕ} {x : Cell} → UsesUp (put_cell_of_frame frame cell x)
put_cell_of_frame_uses = record { leaves = λ store rest. omega arith; goes_on = λ store rest more. refl }

pub push_frame_uses : {frame : List Cell} → UsesUp (push_frame frame)
push_frame_uses = record { leaves = λ store rest. omega arith; goes_on = λ store rest more. refl }

pub drop_frame_uses : UsesUp drop_frame
drop_frame_uses = record { leaves = λ store rest. omega arith; goes_on = λ store rest more. refl }

pub own_task_uses : UsesUp own_task
own_task_uses = record { leaves = λ store rest. omega arith; goes_on = λ store rest more. refl }

pub own_frame_uses : UsesUp own_frame
own_frame_uses = record { leaves = λ store rest. omega arith; goes_on = λ store rest more. refl }

-- a choice between two
pub either_uses : {X : Type 0} {one two : Does X} (test : Bool) → UsesUp one → UsesUp two → UsesUp (if test then one else two)
either_uses true one two = one
either_uses false one two = two
