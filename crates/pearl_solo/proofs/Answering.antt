-- What an answer that suits stands on, and what it leaves.
use Rattle.std.proofs.Common.{◌≡◌, ℕ, zero, suc, ◌+◌, ◌<◌, ◌≤◌, List, [], ◌∷◌, ◌++◌, Option, Some, None, length, take, drop, slice_get, slice_set, refl, sym, ap, ◌∙◌, subst, arith, Bool, true, false, leb-true, length-set, length-append}
use Rattle.std.specs.Prelude.{option_and_then, nat_le, IsSome}
use Rattle.std.specs.List.{AllZip}
use Rattle.std.proofs.lemmas.List.{take-append-drop, append-nil}
use Rattle.std.proofs.lemmas.Option.{same_Some}
use Rattle.pearl_value.specs.declared.kind.Kind.{Kind}
use Rattle.pearl_value.specs.declared.cell.Cell.{Cell}
use Rattle.pearl_value.specs.WellFormed.{IsValueOf}
use Rattle.pearl_format.specs.declared.item.Item.{Item}
use Rattle.pearl_format.specs.Items.{data_count}
use Rattle.pearl_rules.specs.declared.action.Action.TheVariants as action
use Rattle.pearl_rules.specs.declared.action.Answer.{Answer}
use Rattle.pearl_rules.specs.declared.action.Answer.TheVariants.{Nothing, One, Many}
use Rattle.pearl_stack.specs.declared.stack.Frame as size
use Rattle.pearl_stack.specs.Frames.{Frame, Stack, top_operands, used, without}
use Rattle.pearl_instructions.specs.declared.instr.Instr.{Instr}
use Rattle.pearl_instructions.specs.declared.instr.Instr.TheVariants.{Call, Put}
use Rattle.pearl_instructions.specs.declared.instr.Reading.{Reading}
use Rattle.pearl_instructions.specs.declared.object.Code.{Code}
use Rattle.pearl_instructions.specs.declared.object.Parts.{Parts as Object}
use Rattle.pearl_instructions.specs.declared.object.Procedure.{Procedure}
use Rattle.pearl_instructions.specs.Flow.{call, called}
use Rattle.pearl_instructions.specs.Lawful.{IsObject}
use Rattle.pearl_instructions.specs.Objects.{routine_at, items_at}
use Rattle.pearl_instructions.specs.Offers.{items_suit, value_kinds, cells_from, with_values, get_values}
use Rattle.pearl_instructions.specs.Owned.{IsOfTask, Afterwards}
use Rattle.pearl_instructions.specs.Rows.{row, act, after, own_task}
use Rattle.pearl_instructions.specs.Stacks.{IsStack, AreOf, Goes, task_of, depth_or_none, room}
use Rattle.pearl_instructions.specs.Steps.{Step, Silent, Offers, Missing, given, needed, heard, all_heard, next}
use Rattle.pearl_instructions.specs.Valid.{IsValid}
use Rattle.pearl_solo.specs.Answered.{CanHear, gone_on, gone_on_with}
use Rattle.pearl_solo.specs.Hearing.{HearsAt, Enters, HasFew, HasFormat, read_on}
use Rattle.pearl_silent.specs.Known.{Known}
use Rattle.pearl_silent.specs.Standing.{act_on, StandsAt}
use Rattle.pearl_silent.specs.Steps.{on_top, top_cells}
use Rattle.pearl_solo.specs.Texts.{MakesText}
use Rattle.pearl_solo.proofs.Begins.{depth_small}
use Rattle.pearl_solo.proofs.Getting.{reads, kinds_few}
use Rattle.pearl_solo.proofs.Hearing.{Heard, GoesOn, TakesUp}
use Rattle.pearl_solo.proofs.Small.{puts}
use Rattle.pearl_silent.proofs.Offered.{room_of_task, row_stays, task_is, same_room, frames_some}

-- the stack after an answer that suits

after_by : (o : Object) (own : ℕ) (P : List Frame → Type 0) (step : Step) (answer : Answer) → Afterwards o own P step → CanHear o own step answer → P (after step answer)
after_by o own P (Silent frames) answer h never = absurd never
after_by o own P (Offers action go) answer h suits = h answer suits
after_by o own P Missing answer h never = absurd never

goes_after_by : (o : Object) (own : ℕ) (step : Step) (answer : Answer) → Goes o own step → CanHear o own step answer → IsStack o (after step answer)
goes_after_by o own (Silent frames) answer h never = absurd never
goes_after_by o own (Offers action go) answer h suits = h answer suits
goes_after_by o own Missing answer h never = absurd never

depth_least : (o : Object) → IsValid o → (r : ℕ) → depth_or_none (routine_at o r) ≤ 4096
depth_least o v r = by (routine_at o r) refl
  where
    by : (code : Option Code) → routine_at o r ≡ code → depth_or_none code ≤ 4096
    by None e = omega arith
    by (Some code) e = depth_small o r code v e

pub record Kept (o : Object) (s : Stack) (frames : List Frame) : Type 0 where
  pub stack : IsStack o frames
  pub room : room o frames ≤ s.room
  pub within : used frames ≤ s.room
  pub small : used frames ≤ 4096
  pub few : length frames ≤ length o.procedures + 1
  pub task : task_of o frames ≡ task_of o s.frames

pub kept_after : Known → (o : Object) (s : Stack) (answer : Answer) → IsValid o → IsObject o → IsStack o s.frames → room o s.frames ≤ s.room →
    CanHear o (task_of o s.frames) (row o s.frames) answer → Kept o s (after (row o s.frames) answer)
kept_after k o s answer v w t less suits =
    let own : ℕ = task_of o s.frames in
    let step : Step = row o s.frames in
    let next : List Frame = after step answer in
    let stack : IsStack o next = goes_after_by o own step answer (k.leads o v w s.frames t) suits in
    let of : IsOfTask o own next = after_by o own (IsOfTask o own) step answer (row_stays k o v w s.frames t) suits in
    let same : room o next ≡ room o s.frames = same_room k o s.frames next t of in
    let deep : used next ≤ room o next = k.depth o v next stack in
    let least : depth_or_none (routine_at o (length o.procedures + own)) ≤ 4096 = depth_least o v (length o.procedures + own) in
    let all : room o next ≡ depth_or_none (routine_at o (length o.procedures + own)) = room_of_task o own next of in
    record {
      stack = stack;
      room = omega (arith, same, less);
      within = omega (arith, deep, same, less);
      small = omega (arith, deep, all, least);
      few = k.frames o v next stack;
      task = task_is o own next of;
    }

pub hears : Known → (o : Object) (s : Stack) (instr : Instr) (here : size.Frame) (answer : Answer) → IsValid o → IsObject o → IsStack o s.frames → room o s.frames ≤ s.room →
    length o.procedures + 1 ≤ s.most → row o s.frames ≡ act_on o instr s.frames → StandsAt o instr here s → CanHear o (task_of o s.frames) (row o s.frames) answer →
    HearsAt o instr here s answer
hears k o s instr here answer v w t less most e at suits =
    let kept = kept_after k o s answer v w t less suits in
    let few = kept.few in
    record {
      at = at;
      suits = subst (λ r. CanHear o (task_of o s.frames) r answer) e suits;
      room = subst (λ r. used (after r answer) ≤ s.room) e kept.within;
      small = subst (λ r. used (after r answer) ≤ 4096) e kept.small;
      most = subst (λ r. length (after r answer) ≤ s.most) e (omega (arith, few, most));
    }

-- by the instruction

pub value_after : (o : Object) (instr : Instr) (n : ℕ) (frames : List Frame) (answer : Answer) →
    ((f : Frame) (lower : List Frame) → Heard o (own_task o f lower) (TakesUp n f lower) (act o instr f lower)) → CanHear o (task_of o frames) (act_on o instr frames) answer →
    (after (act_on o instr frames) answer ≡ gone_on_with n (heard answer) frames) × (n ≤ length (top_operands frames))
value_after o instr n [] answer h never = absurd never
value_after o instr n (f ∷ lower) answer h suits = h f lower answer suits

pub on_after : (o : Object) (instr : Instr) (n : ℕ) (frames : List Frame) (answer : Answer) →
    ((f : Frame) (lower : List Frame) → Heard o (own_task o f lower) (GoesOn n f lower) (act o instr f lower)) → CanHear o (task_of o frames) (act_on o instr frames) answer →
    (after (act_on o instr frames) answer ≡ gone_on n frames) × (n ≤ length (top_operands frames))
on_after o instr n [] answer h never = absurd never
on_after o instr n (f ∷ lower) answer h suits = h f lower answer suits

-- there is room for a value in the place of n operands
pub value_room : (n room : ℕ) (x : Cell) (frames next : List Frame) → next ≡ gone_on_with n x frames → used next ≤ room → n ≤ length (top_operands frames) → 0 < length frames →
    used (without n frames) < room
value_room n room x [] next e less there some = absurd (omega (arith, some))
value_room n room x (f ∷ lower) next e less there some = let same = ap used e in omega (arith, same, less)

-- a Call

-- the answer's value takes the place of n operands
pub record ValueAt (o : Object) (instr : Instr) (n : ℕ) (s : Stack) (answer : Answer) : Type 0 where
  pub there : n ≤ length (top_operands s.frames)
  pub room : used (without n s.frames) < s.room
  pub is : after (act_on o instr s.frames) answer ≡ gone_on_with n (heard answer) s.frames

pub value_at : (o : Object) (instr other : Instr) (n : ℕ) (here : size.Frame) (s : Stack) (answer : Answer) → instr ≡ other →
    ((f : Frame) (lower : List Frame) → Heard o (own_task o f lower) (TakesUp n f lower) (act o other f lower)) → HearsAt o instr here s answer → ValueAt o instr n s answer
value_at o instr other n here s answer e h at =
    let suits = subst (λ i. CanHear o (task_of o s.frames) (act_on o i s.frames) answer) e at.suits in
    let a = value_after o other n s.frames answer h suits in
    let is : after (act_on o instr s.frames) answer ≡ gone_on_with n (heard answer) s.frames = ap (λ i. after (act_on o i s.frames) answer) e ∙ a.0 in
    record { there = a.1; room = value_room n s.room (heard answer) s.frames (after (act_on o instr s.frames) answer) is at.room a.1 (frames_some o s.frames at.at.stack); is = is }

-- n operands are off
pub record OnAt (o : Object) (instr : Instr) (n : ℕ) (s : Stack) (answer : Answer) : Type 0 where
  pub there : n ≤ length (top_operands s.frames)
  pub is : after (act_on o instr s.frames) answer ≡ gone_on n s.frames

pub on_at : (o : Object) (instr : Instr) (n : ℕ) (here : size.Frame) (s : Stack) (answer : Answer) →
    ((f : Frame) (lower : List Frame) → Heard o (own_task o f lower) (GoesOn n f lower) (act o instr f lower)) → HearsAt o instr here s answer → OnAt o instr n s answer
on_at o instr n here s answer h at = let a = on_after o instr n s.frames answer h at.suits in record { there = a.1; is = a.0 }

-- the callee, with what is so after the answer
record Called (o : Object) (p : ℕ) (frames : List Frame) (answer : Answer) : Type 0 where
  pub callee : Procedure
  pub there : slice_get o.procedures p ≡ Some callee
  pub arguments : callee.params ≤ length (top_operands frames)
  pub is : after (act_on o (Call p) frames) answer ≡ called p callee frames (top_operands frames)

called_by : (o : Object) (p : ℕ) (frames : List Frame) (answer : Answer) → CanHear o (task_of o frames) (act_on o (Call p) frames) answer → Called o p frames answer
called_by o p [] answer never = absurd never
called_by o p (f ∷ lower) answer suits = by (slice_get o.procedures p) refl
  where
    own : ℕ
    own = own_task o f lower

    of_callee : (callee : Procedure) → slice_get o.procedures p ≡ Some callee → (b : Bool) → nat_le callee.params (length f.operands) ≡ b → Called o p (f ∷ lower) answer
    of_callee callee e false h =
        absurd (subst (λ t. CanHear o own t answer) (ap (λ c. call p c f lower) e ∙ ap (λ b. needed b (Offers action.Enter (λ answer. called p callee (f ∷ lower) f.operands))) h) suits)
    of_callee callee e true h = record {
      callee = callee;
      there = e;
      arguments = leb-true callee.params (length f.operands) h;
      is = ap (λ t. after t answer) (ap (λ c. call p c f lower) e ∙ ap (λ b. needed b (Offers action.Enter (λ answer. called p callee (f ∷ lower) f.operands))) h);
    }

    by : (c : Option Procedure) → slice_get o.procedures p ≡ c → Called o p (f ∷ lower) answer
    by None e = absurd (subst (λ t. CanHear o own t answer) (ap (λ c. call p c f lower) e) suits)
    by (Some callee) e = of_callee callee e (nat_le callee.params (length f.operands)) refl

called_long : (p : ℕ) (callee : Procedure) (frames : List Frame) → 0 < length frames → length (called p callee frames (top_operands frames)) ≡ suc (length frames)
called_long p callee [] some = absurd (omega (arith, some))
called_long p callee (f ∷ lower) some = refl

pub enters : (o : Object) (p : ℕ) (here : size.Frame) (s : Stack) (answer : Answer) → 0 < length s.frames → HearsAt o (Call p) here s answer → Enters o p s
enters o p here s answer some h =
    let c = called_by o p s.frames answer h.suits in
    let long = called_long p c.callee s.frames some in
    let most = h.most in
    let same = ap length c.is in
    record {
      callee = c.callee;
      there = c.there;
      arguments = c.arguments;
      room = subst (λ fs. used fs ≤ s.room) c.is h.room;
      small = subst (λ fs. used fs ≤ 4096) c.is h.small;
      most = omega (arith, long, most, same);
    }

pub called_after : (o : Object) (p : ℕ) (frames : List Frame) (answer : Answer) (callee : Procedure) → CanHear o (task_of o frames) (act_on o (Call p) frames) answer →
    slice_get o.procedures p ≡ Some callee → after (act_on o (Call p) frames) answer ≡ called p callee frames (top_operands frames)
called_after o p frames answer callee suits e =
    let c = called_by o p frames answer suits in
    let same : c.callee ≡ callee = same_Some c.callee callee (sym c.there ∙ e) in
    c.is ∙ ap (λ callee. called p callee frames (top_operands frames)) same

-- a Get

some_of : {A : Type 0} (o : Option A) (x : A) → o ≡ Some x → IsSome o
some_of None x e = cc
some_of (Some y) x e = refl

pub record ReadOn (o : Object) (g : Reading) (frames : List Frame) (answer : Answer) (step : Step) : Type 0 where
  pub is : after step answer ≡ read_on g.first (all_heard answer) frames
  pub fits : 0 < length (all_heard answer) → g.first + length (all_heard answer) ≤ length (top_cells frames)

zip_long : (kinds : List Kind) (xs : List Cell) → AllZip IsValueOf kinds xs → length kinds ≡ length xs
zip_long [] [] z = refl
zip_long [] (x ∷ xs) z = absurd z
zip_long (k ∷ kinds) [] z = absurd z
zip_long (k ∷ kinds) (x ∷ xs) z = ap suc (zip_long kinds xs z.1)

heard_long : (kinds : List Kind) (answer : Answer) → AreOf kinds answer → length (all_heard answer) ≤ length kinds
heard_long kinds Nothing never = absurd never
heard_long kinds (One x) never = absurd never
heard_long kinds (Many xs) z = let same = zip_long kinds xs.items z in omega (arith, same)

pub reads_on : (o : Object) (g : Reading) (frames : List Frame) (answer : Answer) → CanHear o (task_of o frames) (on_top (λ f lower. get_values o g f lower) frames) answer →
    ReadOn o g frames answer (on_top (λ f lower. get_values o g f lower) frames)
reads_on o g [] answer never = absurd never
reads_on o g (f ∷ lower) answer suits = by_items (items_at o g.format) suits
  where
    own : ℕ
    own = own_task o f lower

    by_suits : (items : List Item) (kinds : List Kind) (b : Bool) → option_and_then value_kinds (cells_from f.cells g.first (data_count items)) ≡ Some kinds →
        CanHear o own (needed b (Offers (action.Get g.device g.format (record { items = kinds })) (λ answer. next (record f { cells = with_values f.cells g.first (all_heard answer) }) f.operands ∷ lower))) answer →
        ReadOn o g (f ∷ lower) answer
        (needed b (Offers (action.Get g.device g.format (record { items = kinds })) (λ answer. next (record f { cells = with_values f.cells g.first (all_heard answer) }) f.operands ∷ lower)))
    by_suits items kinds false e never = absurd never
    by_suits items kinds true e are =
        let n = data_count items in
        let r = reads f.cells g.first n (some_of (option_and_then value_kinds (cells_from f.cells g.first n)) kinds e) in
        let told : value_kinds (take n (drop g.first f.cells)) ≡ Some kinds = ap (option_and_then value_kinds) (sym r.from) ∙ e in
        let few = kinds_few (drop g.first f.cells) n kinds told in
        let long = heard_long kinds answer are in
        record { is = refl; fits = λ some. (let within = r.within (omega (arith, some, few, long)) in omega (arith, within, few, long)) }

    by_kinds : (items : List Item) (kinds : Option (List Kind)) → option_and_then value_kinds (cells_from f.cells g.first (data_count items)) ≡ kinds →
        CanHear o own (given kinds (λ kinds. needed (items_suit items kinds)
        (Offers (action.Get g.device g.format (record { items = kinds })) (λ answer. next (record f { cells = with_values f.cells g.first (all_heard answer) }) f.operands ∷ lower)))) answer →
        ReadOn o g (f ∷ lower) answer
        (given kinds (λ kinds. needed (items_suit items kinds)
        (Offers (action.Get g.device g.format (record { items = kinds })) (λ answer. next (record f { cells = with_values f.cells g.first (all_heard answer) }) f.operands ∷ lower))))
    by_kinds items None e never = absurd never
    by_kinds items (Some kinds) e are = by_suits items kinds (items_suit items kinds) e are

    by_items : (items : Option (List Item)) →
        CanHear o own (given items (λ items. given (option_and_then value_kinds (cells_from f.cells g.first (data_count items))) (λ kinds. needed (items_suit items kinds)
        (Offers (action.Get g.device g.format (record { items = kinds })) (λ answer. next (record f { cells = with_values f.cells g.first (all_heard answer) }) f.operands ∷ lower))))) answer →
        ReadOn o g (f ∷ lower) answer
        (given items (λ items. given (option_and_then value_kinds (cells_from f.cells g.first (data_count items))) (λ kinds. needed (items_suit items kinds)
        (Offers (action.Get g.device g.format (record { items = kinds })) (λ answer. next (record f { cells = with_values f.cells g.first (all_heard answer) }) f.operands ∷ lower)))))
    by_items None never = absurd never
    by_items (Some items) are = by_kinds items (option_and_then value_kinds (cells_from f.cells g.first (data_count items))) refl are

-- the format of a Put takes few values
pub has_format : (o : Object) (instr : Instr) (here : size.Frame) (s : Stack) → StandsAt o instr here s → HasFormat o instr
has_format o (Put d format) here s h = by (items_at o format) (puts o (Put d format) here s d format refl h)
  where
    by : (items : Option (List Item)) → MakesText items (top_operands s.frames) → HasFew items
    by None never = never
    by (Some items) h = h.0
has_format o instr here s h = tt
