-- Numbers that an instruction names are small, and what it stands on besides.
use Rattle.std.proofs.Common.{◌≡◌, ℕ, ◌<◌, ◌≤◌, ◌^◌, List, [], ◌∷◌, Option, Some, None, length, slice_get, refl, sym, ap, ◌∙◌, subst, arith, Bool, true, false, ltb-true, leb-true}
use Rattle.std.specs.Prelude.{nat_lt, nat_le, is_some, IfSome}
use Rattle.std.specs.List.{AllByRecursion, list_all}
use Rattle.std.proofs.lemmas.Option.{same_Some, slice_get_within}
use Rattle.pearl_format.specs.Items.{data_count}
use Rattle.pearl_format.specs.declared.item.Item.{Item}
use Rattle.pearl_value.specs.declared.device.Device.{Device}
use Rattle.pearl_stack.specs.declared.stack.Frame as size
use Rattle.pearl_stack.specs.Frames.{Frame, Stack, top_operands}
use Rattle.pearl_instructions.specs.declared.instr.Instr.{Instr}
use Rattle.pearl_instructions.specs.declared.instr.Instr.TheVariants.{Put, Get}
use Rattle.pearl_instructions.specs.declared.instr.Reading.{Reading}
use Rattle.pearl_instructions.specs.declared.object.Parts.{Parts as Object}
use Rattle.pearl_instructions.specs.Lawful.{IsObject}
use Rattle.pearl_instructions.specs.Named.{v1, read_cells, gives_texts, has_read_cells, takes_texts}
use Rattle.pearl_instructions.specs.Objects.{items_at}
use Rattle.pearl_instructions.specs.Offers.{put_values}
use Rattle.pearl_instructions.specs.Rows.{lowest}
use Rattle.pearl_instructions.specs.Stacks.{Below, IsStack, routines_of}
use Rattle.pearl_instructions.specs.Valid.{v12, plain_kinds, cells_suit}
use Rattle.pearl_solo.specs.Owners.{lowest_of}
use Rattle.pearl_silent.specs.Standing.{act_on, StandsAt}
use Rattle.pearl_silent.specs.Steps.{on_top, Applies}
use Rattle.pearl_solo.specs.Texts.{MakesText}
use Rattle.pearl_silent.proofs.Offered.{given_some, needed_true, and_true}
use Rattle.pearl_solo.proofs.Putting.{format_few, makes_text}

-- rules of the instruction, where it is told to be another
pub named_as : (o : Object) (instr other : Instr) (here : size.Frame) (s : Stack) (e : instr ≡ other) (h : StandsAt o instr here s) → v1 o h.code other ≡ true
named_as o instr other here s e h = subst (λ i. v1 o h.code i ≡ true) e h.named

pub limits_as : (o : Object) (instr other : Instr) (here : size.Frame) (s : Stack) (e : instr ≡ other) (h : StandsAt o instr here s) → v12 o h.code other h.kinds ≡ true
limits_as o instr other here s e h = subst (λ i. v12 o h.code i h.kinds ≡ true) e h.limits

-- a device that passes a test is there, and devices are few
pub device_small : (o : Object) (d : ℕ) (test : Option Device → Bool) → IsObject o → test None ≡ false → test (slice_get o.devices d) ≡ true → d < 2 ^ 32
device_small o d test w fails passes = by (slice_get o.devices d) refl passes
  where
    by : (x : Option Device) → slice_get o.devices d ≡ x → test x ≡ true → d < 2 ^ 32
    by None e h = let never : true ≡ false = sym h ∙ fails in cc
    by (Some x) e h = let within = slice_get_within o.devices d x e in let few = w.few_devices in omega (arith, within, few)

pub semaphores_small : (o : Object) (list : List ℕ) → IsObject o → list_all (λ s. nat_lt s (length o.semaphores)) list ≡ true → AllByRecursion (λ n. n < 2 ^ 16) list
semaphores_small o [] w e = tt
semaphores_small o (s ∷ list) w e =
    let both = and_true (nat_lt s (length o.semaphores)) (list_all (λ s. nat_lt s (length o.semaphores)) list) e in
    let less = ltb-true s (length o.semaphores) both.0 in
    let few = w.few_semaphores in
    (omega (arith, less, few), semaphores_small o list w both.1)

-- the lowest frame is a task's

least_by : (o : Object) (f : Frame) (lower : List Frame) → Below o f.routine lower → length o.procedures ≤ lowest f lower
least_by o f [] b = b
least_by o f (g ∷ lower) b = least_by o g lower b.1

pub own_least : (o : Object) (frames : List Frame) → IsStack o frames → length o.procedures ≤ lowest_of frames
own_least o [] never = absurd never
own_least o (f ∷ lower) t = least_by o f lower t.below

-- formats

put_there : (o : Object) (d format : ℕ) (frames : List Frame) (room : ℕ) (items : List Item) → items_at o format ≡ Some items →
    Applies (on_top (λ f lower. put_values o d format f lower) frames) room → data_count items ≤ length (top_operands frames)
put_there o d format [] room items e a = absurd a
put_there o d format (f ∷ lower) room items e a =
    let is = given_some (items_at o format) _ room a in
    let same : is.0 ≡ items = same_Some is.0 items (sym is.1 ∙ e) in
    let there = needed_true (nat_le (data_count is.0) (length f.operands)) _ room is.2 in
    let less = leb-true (data_count is.0) (length f.operands) there.0 in
    subst (λ i. data_count i ≤ length f.operands) same less

pub puts : (o : Object) (instr : Instr) (here : size.Frame) (s : Stack) (d format : ℕ) → instr ≡ Put d format → StandsAt o instr here s →
    MakesText (items_at o format) (top_operands s.frames)
puts o instr here s d format e h =
    by (items_at o format) refl (and_true (takes_texts (slice_get o.devices d)) (is_some (items_at o format)) (named_as o instr (Put d format) here s e h)).1
  where
    by : (items : Option (List Item)) → items_at o format ≡ items → is_some items ≡ true → MakesText (items_at o format) (top_operands s.frames)
    by None q some = cc
    by (Some items) q some =
        makes_text o (routines_of s.frames) format h.kinds (top_operands s.frames) items h.lawful.formats q h.suits
        (put_there o d format s.frames s.room items q (subst (λ i. Applies (act_on o i s.frames) s.room) e h.ready)) (limits_as o instr (Put d format) here s e h)

pub gets_few : (o : Object) (instr : Instr) (here : size.Frame) (s : Stack) (g : Reading) → instr ≡ Get g → StandsAt o instr here s →
    IfSome (items_at o g.format) (λ items. data_count items ≤ 64)
gets_few o instr here s g e h = by (items_at o g.format) refl
  where
    by : (items : Option (List Item)) → items_at o g.format ≡ items → IfSome items (λ items. data_count items ≤ 64)
    by None q = tt
    by (Some items) q =
        format_few items (plain_kinds (read_cells h.code g.first (Some items)))
        (ap (λ i. cells_suit i (read_cells h.code g.first i)) (sym q) ∙ limits_as o instr (Get g) here s e h)

pub gets_format : (o : Object) (instr : Instr) (here : size.Frame) (s : Stack) (g : Reading) → instr ≡ Get g → StandsAt o instr here s → g.format < 2 ^ 32
gets_format o instr here s g e h =
    let named = and_true (gives_texts (slice_get o.devices g.device)) (has_read_cells h.code g.first (items_at o g.format)) (named_as o instr (Get g) here s e h) in
    by (items_at o g.format) refl named.1
  where
    by : (items : Option (List Item)) → items_at o g.format ≡ items → has_read_cells h.code g.first items ≡ true → g.format < 2 ^ 32
    by None q has = cc
    by (Some items) q has =
        let within = slice_get_within o.formats g.format items q in
        let few = h.lawful.few_formats in
        omega (arith, within, few)
