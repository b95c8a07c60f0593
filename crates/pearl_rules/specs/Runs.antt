-- How a run goes over the entries of a journal: for the source's rules, and for a machine that executes code.
use Rattle.std.specs.Prelude.{ℕ, zero, suc, ◌+◌, List, [], ◌∷◌, ◌++◌, Bool, true, false, Option, Some, None, slice_get, slice_set}
use Rattle.pearl_rules.specs.declared.action.Action.{Action}
use Rattle.pearl_rules.specs.declared.action.Answer.{Answer}
use Rattle.pearl_rules.specs.declared.entry.Entry.{Entry}
use Rattle.pearl_rules.specs.declared.entry.Entry.TheVariants.{Run, Tick, Pass, Turn, State}
use Rattle.pearl_rules.specs.declared.row.TaskRow.{TaskRow}
use Rattle.pearl_rules.specs.declared.setup.Setup.{Setup}
use Rattle.pearl_rules.specs.Core.{Core, Report, is_active_row, opening}
use Rattle.pearl_rules.specs.Pick.{Offered, pick, turned, showing, states}
use Rattle.pearl_rules.specs.Plans.{millisecond}
use Rattle.pearl_rules.specs.Devices.{arrived}
use Rattle.pearl_rules.specs.Effect.{Reply, Hears, Ends, effect}

-- one indivisible step of a run: an action of a task, that it becomes a task's turn, that the tasks' states are told, that a
-- millisecond passes, or what another entry does
pub data Mark : Type 0 where
  Acts : (task : ℕ) → Mark
  Turns : (task : ℕ) → Mark
  Tells : Mark
  Passes : Mark
  Arrives : (entry : Entry) → Mark

-- a mark with the entries that remain after it
pub record Coming : Type 0 where
  pub mark : Mark
  pub rest : List Entry

-- `run` with nobody eligible, and `run 0`, are dropped without a mark
abbrev pub next_of_run : Option ℕ → ℕ → List Entry → Option Coming → Option Coming
next_of_run None n rest later = later
next_of_run (Some t) zero rest later = later
next_of_run (Some t) (suc n) rest later = Some (record { mark = Acts t; rest = Run n ∷ rest })

-- `tick 0` is dropped without a mark; else a millisecond passes, and the others are left
abbrev pub next_of_tick : ℕ → List Entry → Option Coming → Option Coming
next_of_tick zero rest later = later
next_of_tick (suc n) rest later = Some (record { mark = Passes; rest = Tick n ∷ rest })

-- likewise for `pass`, where `run` is left before the others
abbrev pub next_of_pass : (times picks : ℕ) → List Entry → Option Coming → Option Coming
next_of_pass zero picks rest later = later
next_of_pass (suc times) picks rest later = Some (record { mark = Passes; rest = Run picks ∷ Pass times picks ∷ rest })

-- the next mark, where this task is picked and these entries remain
abbrev pub next_mark : Option ℕ → List Entry → Option Coming
next_mark picked [] = None
next_mark picked (Run n ∷ rest) = next_of_run picked n rest (next_mark picked rest)
next_mark picked (Tick n ∷ rest) = next_of_tick n rest (next_mark picked rest)
next_mark picked (Pass times picks ∷ rest) = next_of_pass times picks rest (next_mark picked rest)
next_mark picked (Turn t ∷ rest) = Some (record { mark = Turns t; rest = rest })
next_mark picked (State ∷ rest) = Some (record { mark = Tells; rest = rest })
next_mark picked (entry ∷ rest) = Some (record { mark = Arrives entry; rest = rest })

-- What is kept of each active task begins afresh where nothing was kept of it, and nothing is kept of a dormant one.
abbrev pub kept : {X : Type 0} → Bool → X → Option X → Option X
kept false fresh x = None
kept true fresh None = Some fresh
kept true fresh (Some x) = Some x

abbrev pub refreshed : {X : Type 0} → (ℕ → X) → ℕ → List TaskRow → List (Option X) → List (Option X)
refreshed fresh t [] xs = []
refreshed fresh t (row ∷ rows) [] = kept (is_active_row (Some row)) (fresh t) None ∷ refreshed fresh (t + 1) rows []
refreshed fresh t (row ∷ rows) (x ∷ xs) = kept (is_active_row (Some row)) (fresh t) x ∷ refreshed fresh (t + 1) rows xs

-- what was kept of tasks that ended is gone
abbrev pub dropped : {X : Type 0} → List ℕ → List (Option X) → List (Option X)
dropped [] xs = xs
dropped (t ∷ ts) xs = dropped ts (slice_set xs t None)

-- what is at a place of a list of what is kept
abbrev pub flattened : {X : Type 0} → Option (Option X) → Option X
flattened None = None
flattened (Some x) = x

abbrev pub kept_at : {X : Type 0} → List (Option X) → ℕ → Option X
kept_at xs t = flattened (slice_get xs t)

abbrev pub mapped : {X Y : Type 0} → (X → Y) → Option X → Option Y
mapped f None = None
mapped f (Some x) = Some (f x)

-- THE SOURCE'S RUN

-- what a task does next after exactly these answers since its start
abbrev pub Supplier : Type 0
Supplier = ℕ → List Answer → Action

-- `heard` has for each active task its answers since its start
pub record Source : Type 0 where
  pub core : Core
  pub heard : List (Option (List Answer))
  pub entries : List Entry

abbrev pub source_offers : Supplier → Source → Offered
source_offers offer s t = mapped (offer t) (kept_at s.heard t)

abbrev pub source_next : Supplier → Source → Option Coming
source_next offer s = next_mark (pick s.core (source_offers offer s)) s.entries

abbrev pub heard_more : List (Option (List Answer)) → ℕ → List Answer → Reply → List (Option (List Answer))
heard_more heard t so_far (Hears answer) = slice_set heard t (Some (so_far ++ answer ∷ []))
heard_more heard t so_far Ends = slice_set heard t None

abbrev pub source_settled : Core → List (Option (List Answer)) → List Entry → Source
source_settled core heard entries = record { core = core; heard = refreshed (λ t. []) 0 core.tasks heard; entries = entries }

abbrev pub source_acts : Supplier → Source → ℕ → List Entry → Option (List Answer) → Source
source_acts offer s t rest None = s
source_acts offer s t rest (Some so_far) =
    let done = effect s.core t (offer t so_far) in
    source_settled done.core (heard_more (dropped done.ended s.heard) t so_far done.reply) rest

abbrev pub source_mark : Supplier → Source → Mark → List Entry → Source
source_mark offer s (Acts t) rest = source_acts offer s t rest (kept_at s.heard t)
source_mark offer s (Turns t) rest = source_settled (turned s.core (source_offers offer s) t) s.heard rest
source_mark offer s Tells rest = source_settled (showing s.core (source_offers offer s)) s.heard rest
source_mark offer s Passes rest = source_settled (millisecond s.core) s.heard rest
source_mark offer s (Arrives entry) rest = source_settled (arrived s.core entry) s.heard rest

abbrev pub source_step_by : Supplier → Source → Option Coming → Source
source_step_by offer s None = s
source_step_by offer s (Some coming) = source_mark offer s coming.mark coming.rest

-- one mark, or nothing where none comes
unfoldable pub source_step : Supplier → Source → Source
source_step offer s = source_step_by offer s (source_next offer s)

abbrev pub source_start : Setup → List Entry → Source
source_start setup entries = source_settled (opening setup) [] entries

-- the state after so many marks, or the last state where fewer come
abbrev pub source_after : Supplier → Source → ℕ → Source
source_after offer s zero = s
source_after offer s (suc m) = source_step offer (source_after offer s m)

abbrev pub source_run : Supplier → Setup → List Entry → ℕ → Source
source_run offer setup entries m = source_after offer (source_start setup entries) m

-- THE MACHINE'S RUN

-- what one instruction does with a task's stack: it changes it, or it offers an action and changes nothing
pub data Stepped (S : Type 0) : Type 0 where
  Silent : (stack : S) → Stepped S
  Offers : (action : Action) → Stepped S

-- how code runs: the stack at a task's start, one instruction, and the stack after an action's answer
pub record Engine (S : Type 0) : Type 0 where
  pub begin : ℕ → S
  pub step : ℕ → S → Stepped S
  pub answer : ℕ → S → Answer → S

-- an active task's stack, and the action that it has offered, if it has
pub record Running (S : Type 0) : Type 0 where
  pub stack : S
  pub offer : Option Action

pub record Machine (S : Type 0) : Type 0 where
  pub core : Core
  pub running : List (Option (Running S))
  pub entries : List Entry

abbrev pub offer_of : {S : Type 0} → Option (Running S) → Option Action
offer_of None = None
offer_of (Some running) = running.offer

abbrev pub machine_offers : {S : Type 0} → Machine S → Offered
machine_offers m t = offer_of (kept_at m.running t)

abbrev pub machine_next : {S : Type 0} → Machine S → Option Coming
machine_next m = next_mark (pick m.core (machine_offers m)) m.entries

abbrev pub unsettled_here : {S : Type 0} → ℕ → Option (Running S) → Option (ℕ × S) → Option (ℕ × S)
unsettled_here t None later = later
unsettled_here t (Some running) later = unsettled_by t running.stack running.offer later
  where
    unsettled_by : {S : Type 0} → ℕ → S → Option Action → Option (ℕ × S) → Option (ℕ × S)
    unsettled_by t stack None later = Some (t, stack)
    unsettled_by t stack (Some action) later = later

-- the first active task that has offered nothing, with its stack; the first of the list has the number t
abbrev pub unsettled_from : {S : Type 0} → ℕ → List (Option (Running S)) → Option (ℕ × S)
unsettled_from t [] = None
unsettled_from t (x ∷ xs) = unsettled_here t x (unsettled_from (t + 1) xs)

abbrev pub unsettled : {S : Type 0} → Machine S → Option (ℕ × S)
unsettled m = unsettled_from 0 m.running

abbrev pub stepped : {S : Type 0} → S → Stepped S → Running S
stepped stack (Silent after) = record { stack = after; offer = None }
stepped stack (Offers action) = record { stack = stack; offer = Some action }

abbrev pub answered : {S : Type 0} → Engine S → List (Option (Running S)) → ℕ → S → Reply → List (Option (Running S))
answered engine running t stack (Hears answer) = slice_set running t (Some (record { stack = engine.answer t stack answer; offer = None }))
answered engine running t stack Ends = slice_set running t None

abbrev pub fresh : {S : Type 0} → Engine S → ℕ → Running S
fresh engine t = record { stack = engine.begin t; offer = None }

abbrev pub machine_settled : {S : Type 0} → Engine S → Core → List (Option (Running S)) → List Entry → Machine S
machine_settled engine core running entries =
    record { core = core; running = refreshed (fresh engine) 0 core.tasks running; entries = entries }

abbrev pub machine_does : {S : Type 0} → Engine S → Machine S → ℕ → List Entry → S → Option Action → Machine S
machine_does engine m t rest stack None = m
machine_does engine m t rest stack (Some action) =
    let done = effect m.core t action in
    machine_settled engine done.core (answered engine (dropped done.ended m.running) t stack done.reply) rest

abbrev pub machine_acts : {S : Type 0} → Engine S → Machine S → ℕ → List Entry → Option (Running S) → Machine S
machine_acts engine m t rest None = m
machine_acts engine m t rest (Some running) = machine_does engine m t rest running.stack running.offer

abbrev pub machine_mark : {S : Type 0} → Engine S → Machine S → Mark → List Entry → Machine S
machine_mark engine m (Acts t) rest = machine_acts engine m t rest (kept_at m.running t)
machine_mark engine m (Turns t) rest = machine_settled engine (turned m.core (machine_offers m) t) m.running rest
machine_mark engine m Tells rest = machine_settled engine (showing m.core (machine_offers m)) m.running rest
machine_mark engine m Passes rest = machine_settled engine (millisecond m.core) m.running rest
machine_mark engine m (Arrives entry) rest = machine_settled engine (arrived m.core entry) m.running rest

abbrev pub machine_mark_by : {S : Type 0} → Engine S → Machine S → Option Coming → Machine S
machine_mark_by engine m None = m
machine_mark_by engine m (Some coming) = machine_mark engine m coming.mark coming.rest

abbrev pub machine_step_by : {S : Type 0} → Engine S → Machine S → Option (ℕ × S) → Machine S
machine_step_by engine m (Some (t, stack)) =
    record m { running = slice_set m.running t (Some (stepped stack (engine.step t stack))) }
machine_step_by engine m None = machine_mark_by engine m (machine_next m)

-- one instruction of the first unsettled task; where none is unsettled one mark; nothing where none comes
unfoldable pub machine_step : {S : Type 0} → Engine S → Machine S → Machine S
machine_step engine m = machine_step_by engine m (unsettled m)

abbrev pub machine_start : {S : Type 0} → Engine S → Setup → List Entry → Machine S
machine_start engine setup entries = machine_settled engine (opening setup) [] entries

abbrev pub machine_after : {S : Type 0} → Engine S → Machine S → ℕ → Machine S
machine_after engine m zero = m
machine_after engine m (suc n) = machine_step engine (machine_after engine m n)

-- the state after so many machine steps
abbrev pub machine_run : {S : Type 0} → Engine S → Setup → List Entry → ℕ → Machine S
machine_run engine setup entries n = machine_after engine (machine_start engine setup entries) n

abbrev pub count_if : {X : Type 0} → Option X → ℕ
count_if None = 0
count_if (Some x) = 1

abbrev pub marks_by : {S : Type 0} → Machine S → Option (ℕ × S) → ℕ
marks_by m (Some x) = 0
marks_by m None = count_if (machine_next m)

-- 1 where the next step is a mark, else 0
abbrev pub marks_in_step : {S : Type 0} → Machine S → ℕ
marks_in_step m = marks_by m (unsettled m)

abbrev pub marked_after : {S : Type 0} → Engine S → Machine S → ℕ → ℕ
marked_after engine m zero = 0
marked_after engine m (suc n) = marked_after engine m n + marks_in_step (machine_after engine m n)

-- how many of the first n machine steps are marks
abbrev pub marked : {S : Type 0} → Engine S → Setup → List Entry → ℕ → ℕ
marked engine setup entries n = marked_after engine (machine_start engine setup entries) n

-- WHAT A RUN TELLS

-- all that a core and the last offers tell at the end of a journal: what was told, and how each task stands
abbrev pub told_at_end : Core → Offered → List (ℕ × Report)
told_at_end core offers = core.told ++ states core offers
