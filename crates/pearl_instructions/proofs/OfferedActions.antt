-- What an action names is there: from what the validator's rules ask.
use Rattle.std.proofs.Common.{◌≡◌, ℕ, ◌+◌, ◌-◌, ◌<◌, ◌≤◌, ℤ, pos, negsuc, ◌≤ℤ◌, List, [], ◌∷◌, Option, Some, None, length, map, drop, refl, sym, ◌∙◌, subst, arith, Bool, true, false, eq-eqb, ne_eqb, ltb-true, leb-true}
use Rattle.std.specs.Prelude.{◌&&◌, ◌||◌, ◌==◌, not, nat_lt, nat_le, nat_eq, int_le, if◌then◌else◌, unsigned_abs, sum_by, IsSome}
use Rattle.std.specs.List.{AllByRecursion, IsDistinct, list_all}
use Rattle.std.proofs.lemmas.Int.{ints}
use Rattle.std.proofs.lemmas.List.{length-map, length-append}
use Rattle.std.proofs.lemmas.List.Sums.{sum_by-cons}
use Rattle.std.proofs.lemmas.Option.{slice_get_within}
use Rattle.pearl_value.specs.declared.kind.Kind.{Kind}
use Rattle.pearl_value.specs.declared.kind.Kind.TheVariants as kind
use Rattle.pearl_format.specs.declared.item.Item.{Item}
use Rattle.pearl_format.specs.declared.item.ItemCode.{ItemCode}
use Rattle.pearl_format.specs.declared.item.ItemCode.TheVariants.{A, B1, B2, B3, B4, F, T, D, X, Skip}
use Rattle.pearl_format.specs.Items.{HasWidth, TakesKind, SuitsItem, Suits, data_here, IsFormat}
use Rattle.pearl_value.specs.declared.device.Device.{Device}
use Rattle.pearl_value.specs.declared.device.Device.TheVariants as device
use Rattle.pearl_value.specs.declared.device.Direction.TheVariants as direction
use Rattle.pearl_rules.specs.Tables.{IsWritable}
use Rattle.pearl_stack.specs.Frames.{Frame}
use Rattle.pearl_instructions.specs.declared.object.Leaf.{Leaf}
use Rattle.pearl_instructions.specs.declared.object.Code.{Code}
use Rattle.pearl_instructions.specs.declared.object.Parts.{Parts as Object}
use Rattle.pearl_instructions.specs.Objects.{routines, routine_at, slot_kind}
use Rattle.pearl_instructions.specs.Offers.{takes_kind, item_suits, items_suit}
use Rattle.pearl_instructions.specs.Rows.{lowest, own_task}
use Rattle.pearl_instructions.specs.Named.{is_interrupt, takes_texts, gives_texts, is_input}
use Rattle.pearl_instructions.specs.Valid.{is_repeated, are_different, is_semaphore_list}
use Rattle.pearl_instructions.specs.Stacks.{Below}
use Rattle.pearl_rules.specs.Tables.{IsInterrupt, IsReadable, input_kind}
use Rattle.pearl_instructions.specs.Actions.{AreSemaphores, IsPriority, IsTaskNumber}
use Rattle.pearl_instructions.proofs.Tests.{and_true, not_true}

-- a slot that has a kind is there
pub slot_there : (leaves : List Leaf) (slot : ℕ) (of : Kind) → slot_kind leaves slot ≡ Some of → slot < sum_by (λ leaf. leaf.slots) leaves
slot_there [] slot of e = cc
slot_there (leaf ∷ leaves) slot of e =
    let sum = sum_by-cons (λ leaf. leaf.slots) leaf leaves in
    subst (λ n. slot < n) (sym sum) (by (nat_lt slot leaf.slots) refl e (slot_there leaves (slot - leaf.slots) of))
  where
    by : (b : Bool) → nat_lt slot leaf.slots ≡ b → (if b then Some leaf.kind else slot_kind leaves (slot - leaf.slots)) ≡ Some of →
        (slot_kind leaves (slot - leaf.slots) ≡ Some of → slot - leaf.slots < sum_by (λ leaf. leaf.slots) leaves) →
        slot < leaf.slots + sum_by (λ leaf. leaf.slots) leaves
    by true h e go = let less = ltb-true slot leaf.slots h in omega (arith, less)
    by false h e go = let more = go e in omega (arith, more)

pub interrupt_there : (d : Option Device) → is_interrupt d ≡ true → IsInterrupt d
interrupt_there None e = cc
interrupt_there (Some (device.Interrupt number)) e = tt
interrupt_there (Some (device.Terminal number way)) e = cc
interrupt_there (Some (device.Input number of)) e = cc
interrupt_there (Some (device.Output number of)) e = cc

pub writable_there : (d : Option Device) → takes_texts d ≡ true → IsWritable d
writable_there None e = cc
writable_there (Some (device.Interrupt number)) e = cc
writable_there (Some (device.Terminal number direction.In)) e = cc
writable_there (Some (device.Terminal number direction.Out)) e = tt
writable_there (Some (device.Terminal number direction.InOut)) e = tt
writable_there (Some (device.Input number of)) e = cc
writable_there (Some (device.Output number of)) e = cc

pub readable_there : (d : Option Device) → gives_texts d ≡ true → IsReadable d
readable_there None e = cc
readable_there (Some (device.Interrupt number)) e = cc
readable_there (Some (device.Terminal number direction.In)) e = tt
readable_there (Some (device.Terminal number direction.Out)) e = cc
readable_there (Some (device.Terminal number direction.InOut)) e = tt
readable_there (Some (device.Input number of)) e = cc
readable_there (Some (device.Output number of)) e = cc

pub input_there : (d : Option Device) → is_input d ≡ true → IsSome (input_kind d)
input_there None e = cc
input_there (Some (device.Interrupt number)) e = cc
input_there (Some (device.Terminal number way)) e = cc
input_there (Some (device.Input number of)) e = refl
input_there (Some (device.Output number of)) e = cc

all_are : (n : ℕ) (list : List ℕ) → list_all (λ s. nat_lt s n) list ≡ true → AllByRecursion (λ s. s < n) list
all_are n [] e = tt
all_are n (s ∷ list) e =
    let both = and_true (nat_lt s n) (list_all (λ s. nat_lt s n) list) e in
    (ltb-true s n both.0, all_are n list both.1)

never_again : (n : ℕ) (list : List ℕ) → is_repeated n list ≡ false → AllByRecursion (λ m. nat_eq n m ≡ false) list
never_again n [] e = tt
never_again n (m ∷ list) e =
    let both = neither (m == n) (is_repeated n list) e in
    (other n m both.0, never_again n list both.1)
  where
    neither : (a b : Bool) → a || b ≡ false → (a ≡ false) × (b ≡ false)
    neither true b e = cc
    neither false b e = (refl, e)

    other : (n m : ℕ) → (m == n) ≡ false → nat_eq n m ≡ false
    other n m e = ne_eqb n m (λ same. never (sym (eq-eqb m n (sym same)) ∙ e))
      where
        never : true ≡ false → ⊥
        never e = cc

all_different : (list : List ℕ) → are_different list ≡ true → IsDistinct nat_eq list
unfolding IsDistinct
all_different [] e = tt
all_different (n ∷ list) e =
    let both = and_true (not (is_repeated n list)) (are_different list) e in
    (never_again n list (not_true (is_repeated n list) both.0), all_different list both.1)

pub semaphores_there : (o : Object) (list : List ℕ) → list_all (λ s. nat_lt s (length o.semaphores)) list ≡ true → is_semaphore_list list ≡ true → AreSemaphores o list
semaphores_there o list named limits =
    let last = and_true (nat_le 1 (length list) && nat_le (length list) 16) (are_different list) limits in
    let sizes = and_true (nat_le 1 (length list)) (nat_le (length list) 16) last.0 in
    record {
      some = leb-true 1 (length list) sizes.0;
      few = leb-true (length list) 16 sizes.1;
      distinct = all_different list last.1;
      there = all_are (length o.semaphores) list named;
    }

-- an item of lawful width takes the kind that it suits
taken_kind : (code : ItemCode) (width : ℕ) (of : Kind) → HasWidth code width → takes_kind code of ≡ true → TakesKind code width of
taken_kind A width (kind.Chars len) w e = w
taken_kind B1 width (kind.Bits len) w e = w
taken_kind B2 width (kind.Bits len) w e = w
taken_kind B3 width (kind.Bits len) w e = w
taken_kind B4 width (kind.Bits len) w e = w
taken_kind F width (kind.Fixed len) w e = w
taken_kind T width kind.Clock w e = w
taken_kind D width kind.Span w e = w
taken_kind code width of w e = cc

pub items_suited : (items : List Item) (kinds : List Kind) → IsFormat items → items_suit items kinds ≡ true → Suits items kinds
items_suited [] [] w e = tt
items_suited [] (of ∷ kinds) w e = cc
items_suited (item ∷ items) kinds w e =
    let both = and_true (item_suits item.code kinds) (items_suit items (drop (data_here item.code) kinds)) e in
    by item.code kinds w.0.0 both.0 (items_suited items (drop (data_here item.code) kinds) w.1 both.1)
  where
    by : (code : ItemCode) (kinds : List Kind) → HasWidth code item.width → item_suits code kinds ≡ true → Suits items (drop (data_here code) kinds) →
        SuitsItem code item.width kinds (λ rest. Suits items rest)
    by X kinds w e more = more
    by Skip kinds w e more = more
    by A [] w e more = cc
    by A (of ∷ kinds) w e more = (taken_kind A item.width of w e, more)
    by B1 [] w e more = cc
    by B1 (of ∷ kinds) w e more = (taken_kind B1 item.width of w e, more)
    by B2 [] w e more = cc
    by B2 (of ∷ kinds) w e more = (taken_kind B2 item.width of w e, more)
    by B3 [] w e more = cc
    by B3 (of ∷ kinds) w e more = (taken_kind B3 item.width of w e, more)
    by B4 [] w e more = cc
    by B4 (of ∷ kinds) w e more = (taken_kind B4 item.width of w e, more)
    by F [] w e more = cc
    by F (of ∷ kinds) w e more = (taken_kind F item.width of w e, more)
    by T [] w e more = cc
    by T (of ∷ kinds) w e more = (taken_kind T item.width of w e, more)
    by D [] w e more = cc
    by D (of ∷ kinds) w e more = (taken_kind D item.width of w e, more)

pub not_below : (a b : ℤ) → int_le a b ≡ true → a ≤ℤ b
not_below a b e = grind (arith, ints, e)

pub urgent_there : (n : ℤ) → (int_le (pos 1) n && int_le n (pos 255)) ≡ true → IsPriority (unsigned_abs n)
urgent_there (pos n) e =
    let both = and_true (int_le (pos 1) (pos n)) (int_le (pos n) (pos 255)) e in
    (leb-true 1 n both.0, leb-true n 255 both.1)
urgent_there (negsuc n) e = cc

-- the lowest frame of a stack is a task's
pub lowest_there : (o : Object) (f : Frame) (lower : List Frame) (code : Code) → routine_at o f.routine ≡ Some code → Below o f.routine lower →
    (length o.procedures ≤ lowest f lower) × (lowest f lower < length o.procedures + length o.tasks)
lowest_there o f [] code e b =
    let within = slice_get_within (routines o) f.routine code e in
    let long = length-append (map (λ p. p.code) o.procedures) (map (λ t. t.code) o.tasks) in
    let procedures = length-map o.procedures (λ p. p.code) in
    let tasks = length-map o.tasks (λ t. t.code) in
    (b, omega (arith, within, long, procedures, tasks))
lowest_there o f (g ∷ lower) code e b = lowest_there o g lower b.0.code b.0.routine b.1

pub own_there : (o : Object) (f : Frame) (lower : List Frame) (code : Code) → routine_at o f.routine ≡ Some code → Below o f.routine lower → IsTaskNumber o (own_task o f lower)
own_there o f lower code e b =
    let there = lowest_there o f lower code e b in
    let low = there.0 in
    let high = there.1 in
    omega (arith, low, high)
