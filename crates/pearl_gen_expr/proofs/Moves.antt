-- How code comes to an action: instruction by instruction, and part by part.
use Rattle.std.proofs.Common.{◌≡◌, ℕ, zero, suc, ◌+◌, ◌≤◌, length, List, [], ◌∷◌, Option, Some, None, slice_get, refl, sym, ap, subst, arith, Bool, true, false}
use Rattle.std.specs.Prelude.{option_and_then, Result, Ok, Err}
use Rattle.pearl_value.specs.declared.cell.Cell.{Cell}
use Rattle.pearl_value.specs.declared.trap.Trap.{Trap}
use Rattle.pearl_rules.specs.declared.action.Action.{Action}
use Rattle.pearl_rules.specs.declared.action.Action.TheVariants as action
use Rattle.pearl_rules.specs.declared.action.Answer.{Answer}
use Rattle.pearl_rules.specs.declared.action.Answer.TheVariants.{Nothing, One, Many}
use Rattle.pearl_rules.specs.Slots.{heard_value}
use Rattle.pearl_stack.specs.Frames.{Frame}
use Rattle.pearl_instructions.specs.declared.instr.Instr.{Instr}
use Rattle.pearl_instructions.specs.declared.object.Code.{Code}
use Rattle.pearl_instructions.specs.declared.object.Parts.{Parts as Object}
use Rattle.pearl_instructions.specs.Objects.{routine_at}
use Rattle.pearl_instructions.specs.Steps.{Step, Silent, Offers, Missing, given, needed, makes, heard, asks}
use Rattle.pearl_instructions.specs.Rows.{row, act}
use Rattle.pearl_meaning.specs.Frames.{Store}
use Rattle.pearl_meaning.specs.Evaluation.{Outcome, Value, Needs, Fails, Does, gives, on_value, bind, value_or_trap, ask_value}
use Rattle.pearl_gen_expr.specs.Comes.{Aim, offers, or_lost, Onward, ComesIn, Comes}
use Rattle.pearl_gen_expr.specs.Contexts.{Context, stack, at, IsStoreOf}
use Rattle.pearl_gen_expr.specs.Carrying.{End, Arrived, meant, Meets, Carries}
use Rattle.pearl_gen_expr.specs.Ends.{on_top}
use Rattle.pearl_gen_expr.specs.ExprCode.{instructions_or_none, code_of, Is}

-- ROWS

-- the same of what a row does
pub record ComesFrom (o : Object) (step : Step) (rest : List Answer) (aim : Aim) : Type 0 where
  pub rows : ℕ
  pub onward : Onward aim (λ frames rest. ComesIn o aim rows frames rest) step rest

pub by_row : (o : Object) (frames : List Frame) (step : Step) (rest : List Answer) (aim : Aim) → row o frames ≡ step → ComesFrom o step rest aim → Comes o frames rest aim
by_row o frames step rest aim e from = record {
  rows = suc from.rows;
  comes = subst (λ step. Onward aim (λ frames rest. ComesIn o aim from.rows frames rest) step rest) (sym e) from.onward;
}

-- what code comes to from a stack where it isn't there yet it comes to by the row
pub further : (o : Object) (frames : List Frame) (step : Step) (rest : List Answer) (aim : Aim) → (aim.Reached frames rest → ⊥) → row o frames ≡ step → Comes o frames rest aim →
    ComesFrom o step rest aim
further o frames step rest aim never e comes = by comes.rows comes.comes
  where
    by : (n : ℕ) → ComesIn o aim n frames rest → ComesFrom o step rest aim
    by zero there = absurd (never there)
    by (suc n) within = record { rows = n; onward = subst (λ step. Onward aim (λ frames rest. ComesIn o aim n frames rest) step rest) e within }

pub silent_from : (o : Object) (frames : List Frame) (rest : List Answer) (aim : Aim) → Comes o frames rest aim → ComesFrom o (Silent frames) rest aim
silent_from o frames rest aim on = record { rows = on.rows; onward = on.comes }

pub missing_from : (o : Object) (rest : List Answer) (aim : Aim) → ComesFrom o Missing rest (or_lost aim)
missing_from o rest aim = record { rows = 0; onward = tt }

pub offered_from : (o : Object) (a : Action) (go : Answer → List Frame) → ComesFrom o (Offers a go) [] (or_lost (offers a))
offered_from o a go = record { rows = 0; onward = refl }

pub heard_from : (o : Object) (offered : Action) (go : Answer → List Frame) (answer : Answer) (rest : List Answer) (aim : Aim) → Comes o (go answer) rest aim →
    ComesFrom o (Offers offered go) (answer ∷ rest) aim
heard_from o offered go answer rest aim on = record { rows = on.rows; onward = on.comes }

-- where nothing more is done
pub stopped : (o : Object) (frames : List Frame) (rest : List Answer) (a : Action) → row o frames ≡ Offers a (λ answer. frames) → Comes o frames rest (or_lost (offers a))
stopped o frames [] a e = by_row o frames (Offers a (λ answer. frames)) [] (or_lost (offers a)) e (offered_from o a (λ answer. frames))
stopped o frames (answer ∷ rest) a e =
    by_row o frames (Offers a (λ answer. frames)) (answer ∷ rest) (or_lost (offers a)) e
    (heard_from o a (λ answer. frames) answer rest (or_lost (offers a)) (stopped o frames rest a e))

-- where the row does nothing more
pub stopped_from : (o : Object) (frames : List Frame) (rest : List Answer) (a : Action) → row o frames ≡ Offers a (λ answer. frames) →
    ComesFrom o (Offers a (λ answer. frames)) rest (or_lost (offers a))
stopped_from o frames [] a e = offered_from o a (λ answer. frames)
stopped_from o frames (answer ∷ rest) a e = heard_from o a (λ answer. frames) answer rest (or_lost (offers a)) (stopped o frames rest a e)

-- what is reached on the way is left for whatever the code comes to from there on
pub comes_on : (o : Object) (frames : List Frame) (rest : List Answer) (middle aim : Aim) → ((a : Action) → middle.Offered a → ⊥) →
    ((here : List Frame) (left : List Answer) → middle.Reached here left → Comes o here left (or_lost aim)) → Comes o frames rest (or_lost middle) → Comes o frames rest (or_lost aim)
comes_on o frames rest middle aim never on comes = by comes.rows frames rest comes.comes
  where
    by_step : (n : ℕ) (frames : List Frame) (step : Step) (rest : List Answer) → row o frames ≡ step → Onward (or_lost middle) (λ frames rest. ComesIn o (or_lost middle) n frames rest) step rest →
        ((next : List Frame) (left : List Answer) → ComesIn o (or_lost middle) n next left → Comes o next left (or_lost aim)) → Comes o frames rest (or_lost aim)
    by_step n frames (Silent next) rest e within later = by_row o frames (Silent next) rest (or_lost aim) e (silent_from o next rest (or_lost aim) (later next rest within))
    by_step n frames (Offers offered go) [] e within later = absurd (never offered within)
    by_step n frames (Offers offered go) (answer ∷ rest) e within later =
        by_row o frames (Offers offered go) (answer ∷ rest) (or_lost aim) e (heard_from o offered go answer rest (or_lost aim) (later (go answer) rest within))
    by_step n frames Missing rest e within later = by_row o frames Missing rest (or_lost aim) e (missing_from o rest aim)

    by : (n : ℕ) (frames : List Frame) (rest : List Answer) → ComesIn o (or_lost middle) n frames rest → Comes o frames rest (or_lost aim)
    by zero frames rest within = on frames rest within
    by (suc n) frames rest within = by_step n frames (row o frames) rest refl within (λ next left later. by n next left later)

-- INSTRUCTIONS

fetched_in : (code : Option Code) (place : ℕ) (instr : Instr) → slice_get (instructions_or_none code) place ≡ Some instr →
    option_and_then (λ (code : Code). slice_get code.instructions place) code ≡ Some instr
fetched_in None place instr e = cc
fetched_in (Some code) place instr e = e

abbrev pub frame_at : Context → ℕ → List Cell → List Cell → Frame
frame_at c place operands cells = record { routine = c.routine; place = place; cells = cells; operands = operands }

pub row_is : (o : Object) (c : Context) (place : ℕ) (operands cells : List Cell) (lower : List Frame) (instr : Instr) → Is (code_of o c.routine) place instr →
    row o (frame_at c place operands cells ∷ lower) ≡ act o instr (frame_at c place operands cells) lower
row_is o c place operands cells lower instr is =
    ap (λ found. given found (λ instr. act o instr (frame_at c place operands cells) lower)) (fetched_in (routine_at o c.routine) place instr is)

-- PARTS

-- what is found from a place that the code comes to, over answers of which some may have come in before
longer : (o : Object) (c : Context) {X : Type 0} (end : End X) (from : List Frame) (rest left : List Answer) (m : Outcome X) → length left ≤ length rest → Meets o c end from left m →
    Comes o from left (or_lost (meant o c end rest m))
longer o c end from rest left (Value x store last) less meets =
    comes_on o from left (meant o c end left (Value x store last)) (meant o c end rest (Value x store last)) (λ a is. is)
    (λ here others is. let fewer = is.arrived.fewer in
    record { rows = 0; comes = record { stack = is.stack; answers = is.answers; arrived = record { of = is.arrived.of; cells = is.arrived.cells; fewer = omega (arith, fewer, less) } } }) meets
longer o c end from rest left (Needs a) less meets = meets
longer o c end from rest left (Fails trap) less meets = meets

-- where the code comes to a part's end it comes to whatever it comes to from there on
pub from_end : (o : Object) (c : Context) {X : Type 0} (end : End X) (from : List Frame) (rest : List Answer) (x : X) (store : Store) (left : List Answer) (aim : Aim) →
    Meets o c end from rest (Value x store left) → (Arrived o c end rest x store left → Comes o (end.stack x store) left (or_lost aim)) → Comes o from rest (or_lost aim)
from_end o c end from rest x store left aim meets on =
    comes_on o from rest (meant o c end rest (Value x store left)) aim (λ a is. is)
    (λ here others is. subst (λ frames. Comes o frames others (or_lost aim)) (sym is.stack)
    (subst (λ others. Comes o (end.stack x store) others (or_lost aim)) (sym is.answers) (on is.arrived))) meets

-- a part in one routine, and then one in another that is begun with what the first gave
pub then_meets : (o : Object) (inner outer : Context) {X Y : Type 0} (middle : End X) (end : End Y) (from : List Frame) (rest : List Answer) (x : X) (store : Store) (left : List Answer)
    (m : Outcome Y) → Meets o inner middle from rest (Value x store left) →
    (Arrived o inner middle rest x store left → Meets o outer end (middle.stack x store) left m) → Meets o outer end from rest m
then_meets o inner outer middle end from rest x store left m first on =
    from_end o inner middle from rest x store left (meant o outer end rest m) first
    (λ here. longer o outer end (middle.stack x store) rest left m here.fewer (on here))

pub bind_within : (o : Object) (inner outer : Context) {X Y : Type 0} (middle : End X) (end : End Y) (from : List Frame) (rest : List Answer) (m : Outcome X) (go : X → Does Y) →
    Meets o inner middle from rest m →
    ((x : X) (store : Store) (left : List Answer) → Arrived o inner middle rest x store left → Meets o outer end (middle.stack x store) left (go x store left)) →
    Meets o outer end from rest (on_value m go)
bind_within o inner outer middle end from rest (Value x store left) go first on =
    then_meets o inner outer middle end from rest x store left (go x store left) first (on x store left)
bind_within o inner outer middle end from rest (Needs a) go first on = first
bind_within o inner outer middle end from rest (Fails trap) go first on = first

pub bind_meets : (o : Object) (c : Context) {X Y : Type 0} (middle : End X) (end : End Y) (from : List Frame) (rest : List Answer) (m : Outcome X) (go : X → Does Y) →
    Meets o c middle from rest m →
    ((x : X) (store : Store) (left : List Answer) → Arrived o c middle rest x store left → Meets o c end (middle.stack x store) left (go x store left)) →
    Meets o c end from rest (on_value m go)
bind_meets o c middle end from rest m go first on = bind_within o c c middle end from rest m go first on

pub bind_carries : (o : Object) (c : Context) {X Y : Type 0} (middle : End X) (end : End Y) (from : Store → List Frame) (first : Does X) (go : X → Does Y) →
    Carries o c middle from first → ((x : X) → middle.Of x → Carries o c end (middle.stack x) (go x)) → Carries o c end from (bind first go)
bind_carries o c middle end from first go one two = record {
  over = λ store rest is. bind_meets o c middle end (from store) rest (first store rest) go (one.over store rest is)
      (λ x store left here. (two x here.of).over store left here.cells);
}

-- the value stands where it is
pub ends_here : (o : Object) (c : Context) {X : Type 0} (end : End X) (x : X) (store : Store) (rest : List Answer) → end.Of x → IsStoreOf o c store →
    Meets o c end (end.stack x store) rest (Value x store rest)
ends_here o c end x store rest of is = record { rows = 0; comes = record { stack = refl; answers = refl; arrived = record { of = of; cells = is; fewer = omega arith } } }

-- nothing is done
pub gives_carries : (o : Object) (c : Context) {X : Type 0} (end : End X) (x : X) → end.Of x → Carries o c end (end.stack x) (gives x)
gives_carries o c end x of = record { over = λ store rest is. ends_here o c end x store rest of is }

-- the same, done in another way that gives the same
pub same_carries : (o : Object) (c : Context) {X : Type 0} (end : End X) (from : Store → List Frame) (does other : Does X) →
    ((store : Store) (rest : List Answer) → does store rest ≡ other store rest) → Carries o c end from does → Carries o c end from other
same_carries o c end from does other same carries =
    record { over = λ store rest is. subst (Meets o c end (from store) rest) (same store rest) (carries.over store rest is) }

-- one instruction, over the frame at work: what its row does meets what is meant
abbrev pub RowMeets : (o : Object) (c : Context) {X : Type 0} (end : End X) (frames : List Frame) (step : Step) (rest : List Answer) → Outcome X → Type 0
RowMeets o c end frames step rest m = row o frames ≡ step → ComesFrom o step rest (or_lost (meant o c end rest m))

-- what the row of an instruction of this routine meets is met at the instruction
pub row_within : (o : Object) (inner outer : Context) {X : Type 0} (end : End X) (place : ℕ) (operands cells : List Cell) (lower : List Frame) (instr : Instr) (rest : List Answer) (m : Outcome X) →
    Is (code_of o inner.routine) place instr → RowMeets o outer end (frame_at inner place operands cells ∷ lower) (act o instr (frame_at inner place operands cells) lower) rest m →
    Meets o outer end (frame_at inner place operands cells ∷ lower) rest m
row_within o inner outer end place operands cells lower instr rest m is meets =
    let f = frame_at inner place operands cells in let e : row o (f ∷ lower) ≡ act o instr f lower = row_is o inner place operands cells lower instr is in
    by_row o (f ∷ lower) (act o instr f lower) rest (or_lost (meant o outer end rest m)) e (meets e)

meets_at : (o : Object) (c : Context) {X : Type 0} (end : End X) (place : ℕ) (operands : List Cell) (instr : Instr) (does : Does X) → Is (code_of o c.routine) place instr →
    ((task : ℕ) (cells : List Cell) (more : List (List Cell)) (rest : List Answer) → IsStoreOf o c (record { task = task; frames = cells ∷ more }) →
    let f = frame_at c place operands cells in let lower = stack c.callers more in
    RowMeets o c end (f ∷ lower) (act o instr f lower) rest (does (record { task = task; frames = cells ∷ more }) rest)) →
    (task : ℕ) (frames : List (List Cell)) (rest : List Answer) → IsStoreOf o c (record { task = task; frames = frames }) →
    Meets o c end (at c place operands (record { task = task; frames = frames })) rest (does (record { task = task; frames = frames }) rest)
meets_at o c end place operands instr does is by task [] rest of = absurd of.cells
meets_at o c end place operands instr does is by task (cells ∷ more) rest of =
    row_within o c c end place operands cells (stack c.callers more) instr rest (does (record { task = task; frames = cells ∷ more }) rest) is (by task cells more rest of)

pub instr_carries : (o : Object) (c : Context) {X : Type 0} (end : End X) (place : ℕ) (operands : List Cell) (instr : Instr) (does : Does X) → Is (code_of o c.routine) place instr →
    ((task : ℕ) (cells : List Cell) (more : List (List Cell)) (rest : List Answer) → IsStoreOf o c (record { task = task; frames = cells ∷ more }) →
    let f = frame_at c place operands cells in let lower = stack c.callers more in
    RowMeets o c end (f ∷ lower) (act o instr f lower) rest (does (record { task = task; frames = cells ∷ more }) rest)) →
    Carries o c end (at c place operands) does
instr_carries o c end place operands instr does is by =
    record { over = λ store rest of. meets_at o c end place operands instr does is by store.task store.frames rest of }

-- ROWS AND WHAT IS MEANT

pub missing_meets : (o : Object) (c : Context) {X : Type 0} (end : End X) (frames : List Frame) (rest : List Answer) (m : Outcome X) → RowMeets o c end frames Missing rest m
missing_meets o c end frames rest m e = missing_from o rest (meant o c end rest m)

-- a row that goes on silently meets what is met from there
pub goes_meets : (o : Object) (c : Context) {X : Type 0} (end : End X) (frames from : List Frame) (rest : List Answer) (m : Outcome X) → Meets o c end from rest m →
    RowMeets o c end frames (Silent from) rest m
goes_meets o c end frames from rest m meets e = silent_from o from rest (or_lost (meant o c end rest m)) meets

-- the row leaves the stack of the end
pub silent_meets : (o : Object) (c : Context) {X : Type 0} (end : End X) (frames : List Frame) (x : X) (store : Store) (rest : List Answer) → end.Of x → IsStoreOf o c store →
    RowMeets o c end frames (Silent (end.stack x store)) rest (Value x store rest)
silent_meets o c end frames x store rest of is = goes_meets o c end frames (end.stack x store) rest (Value x store rest) (ends_here o c end x store rest of is)

-- what is met from behind an action, over one answer less
pub heard_meets : (o : Object) (c : Context) {X : Type 0} (end : End X) (frames : List Frame) (offered : Action) (go : Answer → List Frame) (answer : Answer) (rest : List Answer) (m : Outcome X) →
    Meets o c end (go answer) rest m → RowMeets o c end frames (Offers offered go) (answer ∷ rest) m
heard_meets o c end frames offered go answer rest m meets e =
    heard_from o offered go answer rest (or_lost (meant o c end (answer ∷ rest) m)) (longer o c end (go answer) (answer ∷ rest) rest m (omega arith) meets)

pub stops_meets : (o : Object) (c : Context) {X : Type 0} (end : End X) (frames : List Frame) (trap : Trap) (rest : List Answer) →
    RowMeets o c end frames (Offers (action.Trap trap) (λ answer. frames)) rest (Fails trap)
stops_meets o c end frames trap rest e = stopped_from o frames rest (action.Trap trap) e

pub given_meets : (o : Object) (c : Context) {X A : Type 0} (end : End X) (frames : List Frame) (option : Option A) (go : A → Step) (rest : List Answer) (m : Outcome X) →
    ((x : A) → option ≡ Some x → RowMeets o c end frames (go x) rest m) → RowMeets o c end frames (given option go) rest m
given_meets o c end frames None go rest m on e = missing_meets o c end frames rest m e
given_meets o c end frames (Some x) go rest m on e = on x refl e

pub needed_meets : (o : Object) (c : Context) {X : Type 0} (end : End X) (frames : List Frame) (test : Bool) (step : Step) (rest : List Answer) (m : Outcome X) →
    (test ≡ true → RowMeets o c end frames step rest m) → RowMeets o c end frames (needed test step) rest m
needed_meets o c end frames false step rest m on e = missing_meets o c end frames rest m e
needed_meets o c end frames true step rest m on e = on refl e

-- a value is made, or a trap
abbrev pub on_top_of : Context → (place : ℕ) → (operands : List Cell) → (Of : Cell → Type 0) → End Cell
on_top_of c place operands Of = record { stack = λ x. at c place (x ∷ operands); Of = Of }

pub makes_meets : (o : Object) (c : Context) (Of : Cell → Type 0) (place : ℕ) (operands left : List Cell) (cells : List Cell) (more : List (List Cell)) (task : ℕ)
    (made : Result Cell Trap) (rest : List Answer) → ((x : Cell) → made ≡ Ok x → Of x) → IsStoreOf o c (record { task = task; frames = cells ∷ more }) →
    let f = frame_at c place operands cells in let lower = stack c.callers more in
    RowMeets o c (on_top_of c (place + 1) left Of) (f ∷ lower) (makes f lower left made) rest (value_or_trap made (record { task = task; frames = cells ∷ more }) rest)
makes_meets o c Of place operands left cells more task (Ok x) rest of is e =
    silent_meets o c (on_top_of c (place + 1) left Of) (frame_at c place operands cells ∷ stack c.callers more) x (record { task = task; frames = cells ∷ more }) rest (of x refl) is e
makes_meets o c Of place operands left cells more task (Err trap) rest of is e =
    stops_meets o c (on_top_of c (place + 1) left Of) (frame_at c place operands cells ∷ stack c.callers more) trap rest e

heard_is : (answer : Answer) → heard answer ≡ heard_value answer
heard_is Nothing = refl
heard_is (One x) = refl
heard_is (Many xs) = refl

-- an action is asked, and its answer's value pushed
pub asks_meets : (o : Object) (c : Context) (place : ℕ) (operands left : List Cell) (cells : List Cell) (more : List (List Cell)) (task : ℕ) (offered : Action) (rest : List Answer) →
    IsStoreOf o c (record { task = task; frames = cells ∷ more }) →
    let f = frame_at c place operands cells in let lower = stack c.callers more in
    RowMeets o c (on_top c (place + 1) left) (f ∷ lower) (asks offered f lower left) rest (ask_value offered (record { task = task; frames = cells ∷ more }) rest)
asks_meets o c place operands left cells more task offered [] is e =
    offered_from o offered (λ answer. frame_at c (place + 1) (heard answer ∷ left) cells ∷ stack c.callers more)
asks_meets o c place operands left cells more task offered (answer ∷ rest) is e =
    let f = frame_at c place operands cells in let lower = stack c.callers more in let store : Store = record { task = task; frames = cells ∷ more } in
    heard_meets o c (on_top c (place + 1) left) (f ∷ lower) offered (λ answer. frame_at c (place + 1) (heard answer ∷ left) cells ∷ lower) answer rest (Value (heard_value answer) store rest)
    (subst (λ x. Meets o c (on_top c (place + 1) left) (frame_at c (place + 1) (x ∷ left) cells ∷ lower) rest (Value (heard_value answer) store rest)) (sym (heard_is answer))
    (ends_here o c (on_top c (place + 1) left) (heard_value answer) store rest tt is)) e
