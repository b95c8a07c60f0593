-- Which actions the instructions on tasks, semaphores and devices offer.
use Rattle.std.specs.Prelude.{ℕ, ◌+◌, pos, ℤ, int_le, Bool, true, false, ◌&&◌, if◌then◌else◌, List, [], ◌∷◌, ◌++◌, Option, Some, None, option_map, option_and_then, length, take, drop, nat_le, unsigned_abs}
use Rattle.pearl_value.specs.declared.kind.Kind.{Kind}
use Rattle.pearl_value.specs.declared.kind.Kind.TheVariants as kind
use Rattle.pearl_value.specs.declared.cell.Cell.{Cell}
use Rattle.pearl_value.specs.declared.cell.Cell.TheVariants.{Fixed, Clock, Span}
use Rattle.pearl_value.specs.declared.trap.Trap.TheVariants.{Range, Format}
use Rattle.pearl_format.specs.declared.item.Item.{Item}
use Rattle.pearl_format.specs.declared.item.ItemCode.{ItemCode}
use Rattle.pearl_format.specs.declared.item.ItemCode.TheVariants.{A, B1, B2, B3, B4, F, T, D, X, Skip}
use Rattle.pearl_format.specs.Items.{data_count, data_here}
use Rattle.pearl_format.specs.Texts.{text_of}
use Rattle.pearl_rules.specs.declared.action.Action.TheVariants as action
use Rattle.pearl_rules.specs.declared.action.Start.{Start}
use Rattle.pearl_rules.specs.declared.action.Start.TheVariants as start
use Rattle.pearl_rules.specs.declared.action.Repeat.{Repeat}
use Rattle.pearl_rules.specs.declared.action.Repeat.TheVariants as repeat
use Rattle.pearl_stack.specs.Frames.{Frame}
use Rattle.pearl_instructions.specs.declared.schedule.OnceForm.{OnceForm}
use Rattle.pearl_instructions.specs.declared.schedule.OnceForm.TheVariants as once
use Rattle.pearl_instructions.specs.declared.schedule.StartForm.{StartForm}
use Rattle.pearl_instructions.specs.declared.schedule.StartForm.TheVariants as form
use Rattle.pearl_instructions.specs.declared.schedule.RepeatForm.{RepeatForm}
use Rattle.pearl_instructions.specs.declared.schedule.RepeatForm.TheVariants as again
use Rattle.pearl_instructions.specs.declared.instr.Activation.{Activation}
use Rattle.pearl_instructions.specs.declared.instr.Continuation.{Continuation}
use Rattle.pearl_instructions.specs.declared.instr.Reading.{Reading}
use Rattle.pearl_instructions.specs.declared.object.Parts.{Parts as Object}
use Rattle.pearl_instructions.specs.Objects.{items_at}
use Rattle.pearl_instructions.specs.Steps.{Step, Offers, Missing, given, needed, taken, value_kind, next, traps, acts, all_heard}

-- a task that goes on does so once
abbrev pub as_start : OnceForm → StartForm
as_start once.At = form.At
as_start once.After = form.After
as_start (once.When device) = form.When device

abbrev pub start_or_free : Option OnceForm → StartForm
start_or_free None = form.Free
start_or_free (Some when) = as_start when

-- the kinds of the values that a schedule takes, the one that was pushed first standing first
abbrev pub start_kinds : StartForm → List Kind
start_kinds form.Free = []
start_kinds form.At = kind.Clock ∷ []
start_kinds form.After = kind.Span ∷ []
start_kinds (form.When device) = []
start_kinds (form.WhenAfter device) = kind.Span ∷ []

abbrev pub repeat_kinds : RepeatForm → List Kind
repeat_kinds again.Once = []
repeat_kinds again.All = kind.Span ∷ []
repeat_kinds again.Until = kind.Span ∷ kind.Clock ∷ []
repeat_kinds again.During = kind.Span ∷ kind.Span ∷ []

-- the number of values that ACTIVATE takes
abbrev pub activation_count : Activation → ℕ
activation_count a = length (start_kinds a.start) + length (repeat_kinds a.repeat) + (if a.priority then 1 else 0)

-- a length of time that isn't below the least one; else Range is trapped
abbrev pub lasting : ℤ → ℤ → Frame → List Frame → Step → Step
lasting least time f lower go = if int_le least time then go else traps Range f lower

-- when a plan begins, over the values that lie for it
abbrev pub started : StartForm → List Cell → Frame → List Frame → (Start → List Cell → Step) → Step
started form.Free values f lower go = go start.Free values
started form.At (Clock time ∷ values) f lower go = go (start.At time) values
started form.After (Span time ∷ values) f lower go = lasting (pos 0) time f lower (go (start.After time) values)
started (form.When device) values f lower go = go (start.When device) values
started (form.WhenAfter device) (Span time ∷ values) f lower go = lasting (pos 0) time f lower (go (start.WhenAfter device time) values)
started when values f lower go = Missing

-- how it goes on
abbrev pub repeated : RepeatForm → List Cell → Frame → List Frame → (Repeat → List Cell → Step) → Step
repeated again.Once values f lower go = go repeat.Once values
repeated again.All (Span period ∷ values) f lower go = lasting (pos 1) period f lower (go (repeat.All period) values)
repeated again.Until (Span period ∷ Clock end ∷ values) f lower go = lasting (pos 1) period f lower (go (repeat.Until period end) values)
repeated again.During (Span period ∷ Span time ∷ values) f lower go =
    lasting (pos 1) period f lower (lasting (pos 0) time f lower (go (repeat.During period time) values))
repeated form values f lower go = Missing

-- a priority from 1 to 255, where one is given
abbrev pub with_priority : Bool → List Cell → Frame → List Frame → (Option ℕ → Step) → Step
with_priority false values f lower go = go None
with_priority true (Fixed len value ∷ values) f lower go =
    if int_le (pos 1) value && int_le value (pos 255) then go (Some (unsigned_abs value)) else traps Range f lower
with_priority true values f lower go = Missing

abbrev pub activate : Activation → Frame → List Frame → Step
activate a f lower = taken (activation_count a) f.operands (λ values left.
    started a.start values f lower (λ when more.
    repeated a.repeat more f lower (λ how rest.
    with_priority a.priority rest f lower (λ priority.
    acts (action.Activate a.task when how priority) f lower left))))

abbrev pub continue : Continuation → Frame → List Frame → Step
continue c f lower = taken (length (start_kinds (start_or_free c.once))) f.operands (λ values left.
    started (start_or_free c.once) values f lower (λ when rest. acts (action.Continue c.task when) f lower left))

abbrev pub resume : OnceForm → Frame → List Frame → Step
resume form f lower = taken (length (start_kinds (as_start form))) f.operands (λ values left.
    started (as_start form) values f lower (λ when rest. acts (action.Resume when) f lower left))

-- an item takes a value of this kind
abbrev pub takes_kind : ItemCode → Kind → Bool
takes_kind A (kind.Chars len) = true
takes_kind B1 (kind.Bits len) = true
takes_kind B2 (kind.Bits len) = true
takes_kind B3 (kind.Bits len) = true
takes_kind B4 (kind.Bits len) = true
takes_kind F (kind.Fixed len) = true
takes_kind T kind.Clock = true
takes_kind D kind.Span = true
takes_kind code of = false

-- the first of the kinds that are left suits an item that takes a value
abbrev pub item_suits : ItemCode → List Kind → Bool
item_suits X kinds = true
item_suits Skip kinds = true
item_suits code [] = false
item_suits code (of ∷ kinds) = takes_kind code of

-- the items take just these kinds, in order
abbrev pub items_suit : List Item → List Kind → Bool
items_suit [] [] = true
items_suit [] (of ∷ kinds) = false
items_suit (item ∷ items) kinds = item_suits item.code kinds && items_suit items (drop (data_here item.code) kinds)

-- the kinds of values; none where a reference is among them
abbrev pub value_kinds : List Cell → Option (List Kind)
value_kinds [] = Some []
value_kinds (x ∷ xs) = option_and_then (λ of. option_map (λ kinds. of ∷ kinds) (value_kinds xs)) (value_kind x)

abbrev pub put_text : ℕ → Option (List ℕ) → Frame → List Frame → List Cell → Step
put_text device None f lower left = traps Format f lower
put_text device (Some text) f lower left = acts (action.Put device (record { items = text })) f lower left

abbrev pub put_values : Object → ℕ → ℕ → Frame → List Frame → Step
put_values o device format f lower = given (items_at o format) (λ items. taken (data_count items) f.operands (λ values left.
    given (value_kinds values) (λ kinds. needed (items_suit items kinds) (put_text device (text_of items values) f lower left))))

-- the cells from c on are these values
abbrev pub with_values : List Cell → ℕ → List Cell → List Cell
with_values cells c values = take c cells ++ values ++ drop (c + length values) cells

-- n cells from c on; where n is 0, c may be any number
abbrev pub cells_from : List Cell → ℕ → ℕ → Option (List Cell)
cells_from cells c n = if nat_le (c + n) (length cells) then Some (take n (drop c cells)) else (if nat_le n 0 then Some [] else None)

abbrev pub get_values : Object → Reading → Frame → List Frame → Step
get_values o g f lower = given (items_at o g.format) (λ items.
    given (option_and_then value_kinds (cells_from f.cells g.first (data_count items))) (λ kinds. needed (items_suit items kinds)
    (Offers (action.Get g.device g.format (record { items = kinds }))
    (λ answer. next (record f { cells = with_values f.cells g.first (all_heard answer) }) f.operands ∷ lower))))
