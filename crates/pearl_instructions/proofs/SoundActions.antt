-- The rows on tasks, semaphores and devices lead from a stack of a valid object to such stacks only.
use Rattle.std.proofs.Common.{◌≡◌, ℕ, ◌≤◌, ℤ, pos, ◌≤ℤ◌, List, [], ◌∷◌, ◌++◌, Option, Some, None, length, map, reverse, take, drop, slice_get, refl, sym, ap, ◌∙◌, subst, arith, true, leb-true, ltb-true}
use Rattle.std.specs.Prelude.{◌&&◌, nat_lt, nat_le, int_le, is_some, option_to_list, option_and_then}
use Rattle.std.specs.List.{AllZip}
use Rattle.std.proofs.lemmas.List.{length-replicate, append-nil}
use Rattle.pearl_value.specs.declared.kind.Kind.{Kind}
use Rattle.pearl_value.specs.declared.kind.Kind.TheVariants as kind
use Rattle.pearl_value.specs.declared.kind.CellKind.{CellKind}
use Rattle.pearl_value.specs.declared.kind.CellKind.TheVariants.{Plain}
use Rattle.pearl_value.specs.declared.cell.Cell.{Cell}
use Rattle.pearl_value.specs.declared.cell.Cell.TheVariants as cell
use Rattle.pearl_value.specs.declared.trap.Trap.TheVariants.{Range, Format}
use Rattle.pearl_value.specs.WellFormed.{IsValue, IsValueOf}
use Rattle.pearl_format.specs.declared.item.Item.{Item}
use Rattle.pearl_format.specs.Items.{data_count, text_width}
use Rattle.pearl_format.specs.Texts.{joined_text, text_of}
use Rattle.pearl_format.proofs.Offered.{put_text-is_within, put_text-printable}
use Rattle.pearl_value.specs.declared.device.Device.{Device}
use Rattle.pearl_value.specs.declared.device.Device.TheVariants.{Interrupt, Terminal, Input, Output}
use Rattle.pearl_rules.specs.declared.action.Action.TheVariants as action
use Rattle.pearl_rules.specs.declared.action.Start.{Start}
use Rattle.pearl_rules.specs.declared.action.Start.TheVariants as start
use Rattle.pearl_stack.specs.Frames.{Frame}
use Rattle.pearl_instructions.specs.declared.schedule.OnceForm.{OnceForm}
use Rattle.pearl_instructions.specs.declared.schedule.OnceForm.TheVariants as once
use Rattle.pearl_instructions.specs.declared.schedule.StartForm.{StartForm}
use Rattle.pearl_instructions.specs.declared.schedule.StartForm.TheVariants as form
use Rattle.pearl_instructions.specs.declared.instr.Continuation.{Continuation}
use Rattle.pearl_instructions.specs.declared.instr.Instr.TheVariants.{Now, Try, Take, Send, Continue, Resume, Put}
use Rattle.pearl_instructions.specs.declared.object.Code.{Code}
use Rattle.pearl_instructions.specs.declared.object.Parts.{Parts as Object}
use Rattle.pearl_instructions.specs.Objects.{items_at}
use Rattle.pearl_instructions.specs.Steps.{Step, given, needed, taken, next, traps, acts}
use Rattle.pearl_instructions.specs.Offers.{as_start, start_or_free, start_kinds, lasting, started, items_suit, value_kinds, put_text}
use Rattle.pearl_instructions.specs.Rows.{act}
use Rattle.pearl_instructions.specs.Opcodes.{Anything, scheduled}
use Rattle.pearl_instructions.specs.Operands.{Shape, values_asked, v2}
use Rattle.pearl_instructions.specs.Named.{is_input, takes_texts, names_interrupt}
use Rattle.pearl_instructions.specs.Kinds.{plain_kind, kind_sent, kind_taken, is_kind}
use Rattle.pearl_instructions.specs.Valid.{plain_kinds, suits_format, values_suit}
use Rattle.pearl_instructions.specs.Stacks.{routines_of, Suits, IsTop}
use Rattle.pearl_rules.specs.Tables.{output_kind}
use Rattle.pearl_instructions.specs.Actions.{IsOf, IsStart, IsOnce, IsLater, IsPut}
use Rattle.pearl_instructions.proofs.Tests.{and_true, is_some_true, same_cell_true}
use Rattle.pearl_instructions.proofs.Lists.{scheduled_ends, scheduled_long, kinds_of_values, values_of_kinds, kinds_mapped, all_values}
use Rattle.pearl_instructions.proofs.OfferedActions.{interrupt_there, writable_there, input_there, not_below}
use Rattle.pearl_instructions.proofs.Kept.{IsSound, Here, goes, given_goes, needed_goes, popped_goes, taken_goes, traps_goes}
use Rattle.pearl_instructions.proofs.SoundCells.{if_goes}
use Rattle.pearl_instructions.proofs.SoundVariables.{asks_goes}
use Rattle.pearl_instructions.proofs.SoundFlow.{any_ends}

pub now_sound : (o : Object) (f : Frame) (lower : List Frame) (code : Code) (s : Shape) → Here o f lower code Now s → IsSound o (act o Now f lower)
now_sound o f lower code s h =
    asks_goes o action.Now f lower f.operands kind.Clock (Some kind.Clock) tt (λ answer own h. h) refl (λ x fits.
    goes o f lower code Now s h f.cells (x ∷ f.operands) (Plain kind.Clock ∷ s) refl refl h.stands.cells (fits, h.stands.operands))

pub try_sound : (o : Object) (f : Frame) (lower : List Frame) (code : Code) (s : Shape) (n : ℕ) → Here o f lower code (Try n) s → IsSound o (act o (Try n) f lower)
try_sound o f lower code s n h =
    asks_goes o (action.Try n) f lower f.operands (kind.Bits 1) (Some (kind.Bits 1)) (ltb-true n (length o.semaphores) h.keeps.named) (λ answer own h. h) refl (λ x fits.
    goes o f lower code (Try n) s h f.cells (x ∷ f.operands) (Plain (kind.Bits 1) ∷ s) refl refl h.stands.cells (fits, h.stands.operands))

input_is : (device : Option Device) → is_input device ≡ true → (of : Kind) × (kind_taken device ≡ Some (Plain of))
input_is None e = cc
input_is (Some (Interrupt number)) e = cc
input_is (Some (Terminal number way)) e = cc
input_is (Some (Input number of)) e = (of, refl)
input_is (Some (Output number of)) e = cc

pub take_sound : (o : Object) (f : Frame) (lower : List Frame) (code : Code) (s : Shape) (d : ℕ) → Here o f lower code (Take d) s → IsSound o (act o (Take d) f lower)
take_sound o f lower code s d h =
    let of = input_is (slice_get o.devices d) h.keeps.named in
    asks_goes o (action.Take d) f lower f.operands of.0 (option_and_then plain_kind (kind_taken (slice_get o.devices d)))
    (input_there (slice_get o.devices d) h.keeps.named) (λ answer own h. h) (ap (option_and_then plain_kind) of.1) (λ x fits.
    goes o f lower code (Take d) s h f.cells (x ∷ f.operands) (Plain of.0 ∷ s) refl (ap (λ k. option_to_list k ++ s) (sym of.1)) h.stands.cells (fits, h.stands.operands))

sent_there : (o : Object) (rs : List ℕ) (device : Option Device) (k : CellKind) (x : Cell) → is_kind k (kind_sent device) ≡ true → Suits o rs k x →
    IsOf (output_kind device) x
sent_there o rs None k x e suits = cc
sent_there o rs (Some (Interrupt number)) k x e suits = cc
sent_there o rs (Some (Terminal number way)) k x e suits = cc
sent_there o rs (Some (Input number of)) k x e suits = cc
sent_there o rs (Some (Output number of)) k x e suits = subst (λ k. Suits o rs k x) (same_cell_true k (Plain of) e) suits

pub send_sound : (o : Object) (f : Frame) (lower : List Frame) (code : Code) (s : Shape) (d : ℕ) → Here o f lower code (Send d) s → IsSound o (act o (Send d) f lower)
send_sound o f lower code [] d h = let e = h.keeps.ends in cc
send_sound o f lower code (k ∷ ks) d h =
    popped_goes o (Suits o (f.routine ∷ routines_of lower)) k ks f.operands _ h.stands.operands (λ x left suits rest. (
      sent_there o (f.routine ∷ routines_of lower) (slice_get o.devices d) k x h.keeps.exact suits,
      λ answer own e. goes o f lower code (Send d) (k ∷ ks) h f.cells left ks refl refl h.stands.cells rest,
    ))

pub clock_is : (x : Cell) → IsValueOf kind.Clock x → (time : ℕ) × (x ≡ cell.Clock time)
clock_is (cell.Clock time) w = (time, refl)
clock_is (cell.Fixed len value) w = let e = w.same_kind in absurd (never len e)
  where
    never : (a : ℕ) → kind.Fixed a ≡ kind.Clock → ⊥
    never a e = cc
clock_is (cell.Bits len value) w = absurd (never len w.same_kind)
  where
    never : (a : ℕ) → kind.Bits a ≡ kind.Clock → ⊥
    never a e = cc
clock_is (cell.Chars text) w = absurd (never (length text.items) w.same_kind)
  where
    never : (a : ℕ) → kind.Chars a ≡ kind.Clock → ⊥
    never a e = cc
clock_is (cell.Span time) w = absurd (never w.same_kind)
  where
    never : kind.Span ≡ kind.Clock → ⊥
    never e = cc
clock_is (cell.Ref of at) w = absurd w.is_value

pub span_is : (x : Cell) → IsValueOf kind.Span x → (time : ℤ) × (x ≡ cell.Span time)
span_is (cell.Span time) w = (time, refl)
span_is (cell.Fixed len value) w = absurd (never len w.same_kind)
  where
    never : (a : ℕ) → kind.Fixed a ≡ kind.Span → ⊥
    never a e = cc
span_is (cell.Bits len value) w = absurd (never len w.same_kind)
  where
    never : (a : ℕ) → kind.Bits a ≡ kind.Span → ⊥
    never a e = cc
span_is (cell.Chars text) w = absurd (never (length text.items) w.same_kind)
  where
    never : (a : ℕ) → kind.Chars a ≡ kind.Span → ⊥
    never a e = cc
span_is (cell.Clock time) w = absurd (never w.same_kind)
  where
    never : kind.Clock ≡ kind.Span → ⊥
    never e = cc
span_is (cell.Ref of at) w = absurd w.is_value

pub lasting_goes : (o : Object) (least time : ℤ) (f : Frame) (lower : List Frame) (go : Step) → (least ≤ℤ time → IsSound o go) →
    IsSound o (lasting least time f lower go)
lasting_goes o least time f lower go h =
    if_goes o (int_le least time) go (traps Range f lower) (λ e. h (not_below least time e)) (λ e. traps_goes o Range f lower)

-- the form of a start
abbrev pub form_of : Start → StartForm
form_of start.Free = form.Free
form_of (start.At time) = form.At
form_of (start.After time) = form.After
form_of (start.When device) = form.When device
form_of (start.WhenAfter device time) = form.WhenAfter device

-- the values of a start lie there, and more may lie above them
pub started_goes : (o : Object) (rs : List ℕ) (when : StartForm) (more : Shape) (values : List Cell) (f : Frame) (lower : List Frame) (go : Start → List Cell → Step) →
    names_interrupt o when ≡ true → AllZip (Suits o rs) (map Plain (start_kinds when) ++ more) values →
    ((start : Start) (rest : List Cell) → IsStart o start → form_of start ≡ when → AllZip (Suits o rs) more rest → IsSound o (go start rest)) →
    IsSound o (started when values f lower go)
started_goes o rs form.Free more values f lower go named z h = h start.Free values tt refl z
started_goes o rs form.At more [] f lower go named z h = absurd z
started_goes o rs form.At more (x ∷ values) f lower go named z h =
    let t = clock_is x z.0 in
    subst (λ x. IsSound o (started form.At (x ∷ values) f lower go)) (sym t.1) (h (start.At t.0) values (subst (λ x. IsValue x) t.1 z.0.is_value) refl z.1)
started_goes o rs form.After more [] f lower go named z h = absurd z
started_goes o rs form.After more (x ∷ values) f lower go named z h =
    let t = span_is x z.0 in
    subst (λ x. IsSound o (started form.After (x ∷ values) f lower go)) (sym t.1)
    (lasting_goes o (pos 0) t.0 f lower (go (start.After t.0) values) (λ least.
    h (start.After t.0) values (least, subst (λ x. IsValue x) t.1 z.0.is_value) refl z.1))
started_goes o rs (form.When device) more values f lower go named z h = h (start.When device) values (interrupt_there (slice_get o.devices device) named) refl z
started_goes o rs (form.WhenAfter device) more [] f lower go named z h = absurd z
started_goes o rs (form.WhenAfter device) more (x ∷ values) f lower go named z h =
    let t = span_is x z.0 in
    subst (λ x. IsSound o (started (form.WhenAfter device) (x ∷ values) f lower go)) (sym t.1)
    (lasting_goes o (pos 0) t.0 f lower (go (start.WhenAfter device t.0) values) (λ least.
    h (start.WhenAfter device t.0) values (interrupt_there (slice_get o.devices device) named, (least, subst (λ x. IsValue x) t.1 z.0.is_value)) refl z.1))

-- an action whose schedule has a start alone
once_goes : (o : Object) (f : Frame) (lower : List Frame) (when : StartForm) (s : Shape) (operands : List Cell) (go : Start → List Cell → Step) →
    names_interrupt o when ≡ true → v2 (scheduled (start_kinds when)) s ≡ true → AllZip (Suits o (f.routine ∷ routines_of lower)) s operands →
    ((start : Start) (left : List Cell) → IsStart o start → form_of start ≡ when →
    AllZip (Suits o (f.routine ∷ routines_of lower)) (drop (length (start_kinds when)) s) left → IsSound o (go start left)) →
    IsSound o (taken (length (start_kinds when)) operands (λ values left. started when values f lower (λ start rest. go start left)))
once_goes o f lower when s operands go named e z h =
    let rs = f.routine ∷ routines_of lower in
    let ends = scheduled_ends (start_kinds when) s e in
    taken_goes o (Suits o rs) (length (start_kinds when)) s operands _ ends.0 z (λ values left there under.
    started_goes o rs when [] values f lower _ named
    (subst (λ ks. AllZip (Suits o rs) ks values) (ends.1 ∙ sym (append-nil (map Plain (start_kinds when)))) there)
    (λ start rest is same none. h start left is same under))

once_there : (o : Object) (when : Start) (once : Option OnceForm) → IsStart o when → form_of when ≡ start_or_free once → IsOnce o when
once_there o start.Free once is e = is
once_there o (start.At time) once is e = is
once_there o (start.After time) once is e = is
once_there o (start.When device) once is e = is
once_there o (start.WhenAfter device time) None is e = cc
once_there o (start.WhenAfter device time) (Some once.At) is e = cc
once_there o (start.WhenAfter device time) (Some once.After) is e = cc
once_there o (start.WhenAfter device time) (Some (once.When other)) is e = cc

later_there : (o : Object) (when : Start) (once : OnceForm) → IsStart o when → form_of when ≡ as_start once → IsLater o when
later_there o start.Free once.At is e = cc
later_there o start.Free once.After is e = cc
later_there o start.Free (once.When other) is e = cc
later_there o (start.At time) once is e = is
later_there o (start.After time) once is e = is
later_there o (start.When device) once is e = is
later_there o (start.WhenAfter device time) once is e = once_there o (start.WhenAfter device time) (Some once) is e

pub continue_sound : (o : Object) (f : Frame) (lower : List Frame) (code : Code) (s : Shape) (c : Continuation) → Here o f lower code (Continue c) s →
    IsSound o (act o (Continue c) f lower)
continue_sound o f lower code s c h =
    let when = start_or_free c.once in
    let kinds = start_kinds when in
    let named = and_true (nat_lt c.task (length o.tasks)) (names_interrupt o when) h.keeps.named in
    once_goes o f lower when s f.operands (λ start left. acts (action.Continue c.task start) f lower left) named.1 h.keeps.ends h.stands.operands (λ start left is same rest. (
      (ltb-true c.task (length o.tasks) named.0, once_there o start c.once is same),
      λ answer own e. goes o f lower code (Continue c) s h f.cells left (drop (length kinds) s) refl (ap (λ n. drop n s) (sym (scheduled_long kinds))) h.stands.cells rest,
    ))

pub resume_sound : (o : Object) (f : Frame) (lower : List Frame) (code : Code) (s : Shape) (once : OnceForm) → Here o f lower code (Resume once) s →
    IsSound o (act o (Resume once) f lower)
resume_sound o f lower code s once h =
    let kinds = start_kinds (as_start once) in
    once_goes o f lower (as_start once) s f.operands (λ start left. acts (action.Resume start) f lower left) h.keeps.named h.keeps.ends h.stands.operands (λ start left is same rest. (
      later_there o start once is same,
      λ answer own e. goes o f lower code (Resume once) s h f.cells left (drop (length kinds) s) refl (ap (λ n. drop n s) (sym (scheduled_long kinds))) h.stands.cells rest,
    ))

pub put_goes : (o : Object) (device : ℕ) (text : Option (List ℕ)) (f : Frame) (lower : List Frame) (left : List Cell) → ((t : List ℕ) → text ≡ Some t → IsPut o device t) →
    IsTop o (next f left) lower → IsSound o (put_text device text f lower left)
put_goes o device None f lower left is t = traps_goes o Format f lower
put_goes o device (Some text) f lower left is t = (is text refl, λ answer own e. t)

-- the kinds that suit a format
pub record Formatted (items : List Item) (option : Option (List Kind)) : Type 0 where
  pub kinds : List Kind
  pub are : option ≡ Some kinds
  pub suit : items_suit items kinds ≡ true
  pub few : length kinds ≤ 64
  pub short : text_width items kinds ≤ 1024

pub format_kinds : (items : List Item) (kinds : Option (List Kind)) → suits_format items kinds ≡ true → Formatted items kinds
format_kinds items None e = cc
format_kinds items (Some ks) e =
    let last = and_true (items_suit items ks && nat_le (length ks) 64) (nat_le (text_width items ks) 1024) e in
    let both = and_true (items_suit items ks) (nat_le (length ks) 64) last.0 in
    record { kinds = ks; are = refl; suit = both.0; few = leb-true (length ks) 64 both.1; short = leb-true (text_width items ks) 1024 last.1 }

text_there : (o : Object) (device : ℕ) (items : List Item) (kinds : List Kind) (values : List Cell) (text : List ℕ) → takes_texts (slice_get o.devices device) ≡ true →
    AllZip IsValueOf kinds values → text_width items kinds ≤ 1024 → text_of items values ≡ Some text → IsPut o device text
text_there o device items kinds values text takes z short e =
    let joined = ap (joined_text (Some [])) e in
    let same = kinds_mapped kinds values z in
    let long = put_text-is_within items values [] text refl joined in
    let width = ap (text_width items) same in
    record {
      takes = writable_there (slice_get o.devices device) takes;
      printable = put_text-printable items values [] text refl joined (all_values kinds values z);
      short = omega (arith, long, width, short);
    }

put_with : (o : Object) (f : Frame) (lower : List Frame) (code : Code) (s : Shape) (d n : ℕ) (items : List Item) → items_at o n ≡ Some items → takes_texts (slice_get o.devices d) ≡ true →
    Here o f lower code (Put d n) s →
    IsSound o (taken (data_count items) f.operands (λ values left. given (value_kinds values) (λ kinds. needed (items_suit items kinds) (put_text d (text_of items values) f lower left))))
put_with o f lower code s d n items there takes h =
    let rs = f.routine ∷ routines_of lower in
    let count = data_count items in
    let few : count ≤ length s = any_ends count s (ap (λ i. v2 (values_asked i) s) (sym there) ∙ h.keeps.ends) in
    let suits = format_kinds items (plain_kinds (reverse (take count s))) (ap (λ i. values_suit i s) (sym there) ∙ h.keeps.limits) in
    taken_goes o (Suits o rs) count s f.operands
    (λ values left. given (value_kinds values) (λ kinds. needed (items_suit items kinds) (put_text d (text_of items values) f lower left))) few h.stands.operands (λ values left held under.
    given_goes o suits.kinds (value_kinds values) (λ kinds. needed (items_suit items kinds) (put_text d (text_of items values) f lower left))
    (kinds_of_values o rs (reverse (take count s)) values suits.kinds suits.are held)
    (needed_goes o (items_suit items suits.kinds) (put_text d (text_of items values) f lower left) suits.suit
    (put_goes o d (text_of items values) f lower left
    (λ text e. text_there o d items suits.kinds values text takes (values_of_kinds o rs (reverse (take count s)) suits.kinds values suits.are held) suits.short e)
    (goes o f lower code (Put d n) s h f.cells left (drop count s) refl
    (ap (λ n. drop n s) (sym (length-replicate count Anything)) ∙ ap (λ i. drop (length (values_asked i)) s) (sym there))
    h.stands.cells under))))

pub put_sound : (o : Object) (f : Frame) (lower : List Frame) (code : Code) (s : Shape) (d n : ℕ) → Here o f lower code (Put d n) s → IsSound o (act o (Put d n) f lower)
put_sound o f lower code s d n h =
    let named = and_true (takes_texts (slice_get o.devices d)) (is_some (items_at o n)) h.keeps.named in
    let items = is_some_true (items_at o n) named.1 in
    given_goes o items.0 (items_at o n)
    (λ items. taken (data_count items) f.operands (λ values left. given (value_kinds values) (λ kinds. needed (items_suit items kinds) (put_text d (text_of items values) f lower left))))
    items.1 (put_with o f lower code s d n items.0 items.1 named.0 h)
