-- Code, tables, routines and objects that are as each object is to be, and that have bytes, are spelled.
use Rattle.std.proofs.Common.{◌≡◌, ℕ, zero, suc, ◌≤◌, ◌<◌, ◌-◌, ◌^◌, ◌++◌, Bool, true, false, List, [], ◌∷◌, length, drop, Option, Some, None, refl, sym, ap, subst, ◌∙◌, arith, length-append, append_assoc, ne_eqb, inl, inr}
use Rattle.std.specs.Prelude.{◌+◌, ◌&&◌, ◌||◌, ◌==◌, nat_eq, nat_le, nat_lt, sum_by, IfSome}
use Rattle.std.specs.List.{AllByRecursion, list_all}
use Rattle.std.specs.Char.{is_ascii_alphabetic}
use Rattle.std.proofs.lemmas.Bool.{lt-ltb}
use Rattle.std.proofs.lemmas.List.Sums.{sum_by-cons}
use Rattle.pearl_value.specs.declared.kind.Kind.{Kind}
use Rattle.pearl_value.specs.declared.kind.CellKind.{CellKind}
use Rattle.pearl_value.specs.declared.cell.Cell.{Cell}
use Rattle.pearl_value.specs.declared.device.Device.{Device}
use Rattle.pearl_value.specs.declared.device.Device.TheVariants.{Interrupt, Terminal, Input, Output}
use Rattle.pearl_value.specs.declared.device.Direction.{Direction}
use Rattle.pearl_value.specs.declared.device.Direction.TheVariants.{In, Out, InOut}
use Rattle.pearl_value.specs.Kinds.{IsKind}
use Rattle.pearl_value.specs.WellFormed.{IsLetter, IsValueOf}
use Rattle.pearl_value.specs.Names.{is_name_byte}
use Rattle.pearl_value.specs.Devices.{sort_rank, own_number, IsDevice, IsBefore, AreRising as DevicesRise}
use Rattle.pearl_format.specs.declared.item.Item.{Item}
use Rattle.pearl_format.specs.declared.item.ItemCode.{ItemCode}
use Rattle.pearl_format.specs.declared.item.ItemCode.TheVariants as items
use Rattle.pearl_format.specs.Items.{HasWidth, IsItem, IsFormat}
use Rattle.pearl_tree.specs.Tokens.{IsId}
use Rattle.pearl_tree.proofs.Offered.{ids_are_names}
use Rattle.pearl_instructions.specs.declared.instr.Instr.{Instr}
use Rattle.pearl_instructions.specs.declared.object.Shape.{Shape}
use Rattle.pearl_instructions.specs.declared.object.Leaf.{Leaf}
use Rattle.pearl_instructions.specs.declared.object.Code.{Code}
use Rattle.pearl_instructions.specs.declared.object.Procedure.{Procedure}
use Rattle.pearl_instructions.specs.declared.object.Task.{Task}
use Rattle.pearl_instructions.specs.declared.object.Parts.{Parts}
use Rattle.pearl_instructions.specs.Lawful.{IsCellKind, IsPlain, IsLeaf, IsInstr, AreRising, IsCode, IsProcedure, IsTask, IsObject}
use Rattle.pearl_fields.specs.Codec.{rolled_fit, all_bytes, number_bytes, number_in, byte_in, IsBytes}
use Rattle.pearl_fields.proofs.Offered.{bytes_before, bytes_behind}
use Rattle.pearl_object.specs.declared.states.Alone.{Alone}
use Rattle.pearl_object.specs.declared.states.Last.{Last}
use Rattle.pearl_object.specs.declared.states.Before.{Before}
use Rattle.pearl_object.specs.declared.states.Room.{Room}
use Rattle.pearl_object.specs.declared.states.Wanted.{Wanted}
use Rattle.pearl_object.specs.Lists.{alone, each, each_in}
use Rattle.pearl_object.specs.Kinds.{cell_kind, cell_of, after_cell}
use Rattle.pearl_object.specs.Literals.{literal}
use Rattle.pearl_object.specs.Operands.{flag}
use Rattle.pearl_object.specs.Instructions.{instr}
use Rattle.pearl_object.specs.Codes.{above, shape, first_shape, after_shape, cells, shapes, code}
use Rattle.pearl_object.specs.Tables.{direction, is_behind, device_keys, device, first_device, after_device, devices, semaphores, letters, leaf, all_slots, after_leaf, leaves, least_width, item_code, item, format, formats}
use Rattle.pearl_object.specs.Objects.{result_of, procedure, is_no_word, may_follow, letter, first_letter, after_letter, name, task, front, parts, object, object_bytes}
use Rattle.pearl_object.proofs.Ranges.{both_true, eqb_same, is_within, plain_kind_fits, constant_fits}
use Rattle.pearl_object.proofs.CellKinds.{free_kind_fits, bound_kind_fits}
use Rattle.pearl_object.proofs.Identifiers.{no_word_is}
use Rattle.pearl_object.proofs.Fitting.{counted_fits, any_length, each_fits, each_fits_in, first_of_more, instr_fits, flag_fits}
use Rattle.pearl_object.proofs.Spellings.{instr_bytes, code_bytes}

-- ---- code

cells_fit_bound : (xs : List CellKind) → AllByRecursion IsCellKind xs → AllByRecursion IsPlain xs → rolled_fit cell_of after_cell (record { left = 0 }) xs
cells_fit_bound [] h p = tt
cells_fit_bound (x ∷ xs) h p = (bound_kind_fits x h.0 p.0, cells_fit_bound xs h.1 p.1)

-- where parameters are left, a cell may be a reference
free_fits : (left : ℕ) (k : CellKind) → IsCellKind k → (cell_of (record { left = suc left })).fits k
free_fits left k h = let free : nat_lt 0 (suc left) ≡ true = lt-ltb 0 (suc left) (omega arith) in subst (λ b. (cell_kind b).fits k) (sym free) (free_kind_fits k h)

cells_fit : (left : ℕ) (xs : List CellKind) → AllByRecursion IsCellKind xs → AllByRecursion IsPlain (drop left xs) → rolled_fit cell_of after_cell (record { left = left }) xs
cells_fit zero xs h p = cells_fit_bound xs h p
cells_fit (suc left) [] h p = tt
cells_fit (suc left) (x ∷ xs) h p =
    let one : left ≡ suc left - 1 = omega arith in
    (free_fits left x h.0, subst (λ n. rolled_fit cell_of after_cell (record { left = n }) xs) one (cells_fit left xs h.1 p))

kinds_fit : (xs : List CellKind) → AllByRecursion IsCellKind xs → IsBytes ((each (cell_kind true)).bytes xs) → (each (cell_kind true)).fits xs
kinds_fit xs h b = each_fits (cell_kind true) IsCellKind (λ k is b. free_kind_fits k is) xs h b

shape_fits : (last : Last) (s : Shape) → above last.number s.instruction ≡ true → AllByRecursion IsCellKind s.kinds → IsBytes ((shape first_shape).bytes s) → (shape last).fits s
unfolding shape
shape_fits last s up h b =
    let first = first_of_more s.instruction ((each (cell_kind true)).bytes s.kinds) b in
    (((first.0, up), kinds_fit s.kinds h first.1), refl)

abbrev IsUp : Last → List Shape → Type 0
IsUp last [] = Unit {0}
IsUp last (s ∷ xs) = above last.number s.instruction ≡ true

first_up : (xs : List Shape) → IsUp first_shape xs
first_up [] = tt
first_up (s ∷ xs) = refl

shapes_fit : (last : Last) (xs : List Shape) → IsUp last xs → AllByRecursion (λ s. AllByRecursion IsCellKind s.kinds) xs → AreRising xs → IsBytes (all_bytes (shape first_shape).bytes xs) → rolled_fit shape after_shape last xs
shapes_fit last [] up h r b = tt
shapes_fit last (s ∷ []) up h r b = (shape_fits last s up h.0 (bytes_before _ [] b), tt)
shapes_fit last (s ∷ t ∷ more) up h r b = (
  shape_fits last s up h.0 (bytes_before ((shape first_shape).bytes s) (all_bytes (shape first_shape).bytes (t ∷ more)) b),
  shapes_fit (after_shape last s) (t ∷ more) (lt-ltb s.instruction t.instruction r.0) h.1 r.1 (bytes_behind ((shape first_shape).bytes s) (all_bytes (shape first_shape).bytes (t ∷ more)) b),
)

an_instr_fits : (i : Instr) → IsInstr i → IsBytes (instr.bytes i) → instr.fits i
an_instr_fits i h b = instr_fits i h (λ k. subst IsBytes (instr_bytes i) b (suc k))

code_fits : (params : ℕ) (c : Code) → IsCode params c → IsBytes ((code 0).bytes c) → (code params).fits c
unfolding code
code_fits params c h b =
    let cell_bytes = (cells 0).bytes c.cells in
    let instr_list = (each instr).bytes c.instructions in
    let behind = bytes_behind cell_bytes (number_bytes c.depth ++ (instr_list ++ shapes.bytes c.shapes)) b in
    let depth = first_of_more c.depth (instr_list ++ shapes.bytes c.shapes) behind in
    let first = bytes_before cell_bytes (number_bytes c.depth ++ (instr_list ++ shapes.bytes c.shapes)) b in
    let last = bytes_behind instr_list (shapes.bytes c.shapes) depth.1 in (
      (
        counted_fits params (2 ^ 64 - 1) (cell_kind true).bytes cell_of after_cell (record { left = params }) c.cells h.few (any_length (length c.cells) (all_bytes (cell_kind true).bytes c.cells) first) first (λ x. cells_fit params c.cells h.kinds h.plain),
        (
          depth.0,
          (
            each_fits instr IsInstr an_instr_fits c.instructions h.instructions (bytes_before instr_list (shapes.bytes c.shapes) depth.1),
            counted_fits 0 (2 ^ 64 - 1) (shape first_shape).bytes shape after_shape first_shape c.shapes (omega arith) (any_length (length c.shapes) (all_bytes (shape first_shape).bytes c.shapes) last) last (shapes_fit first_shape c.shapes (first_up c.shapes) h.shapes h.rising),
          ),
        ),
      ),
      refl,
    )

-- ---- tables

direction_fits : (d : Direction) → direction.fits d
unfolding direction
direction_fits In = ((omega arith, refl), refl)
direction_fits Out = ((omega arith, refl), refl)
direction_fits InOut = ((omega arith, refl), refl)

number_fits : (last : Before) (sort n : ℕ) → sort ≤ 3 → 0 < n → n ≤ 99 → is_behind last.device sort n ≡ true → (device_keys last).fits (sort, n)
number_fits last sort n s l h up = ((omega (arith, s), is_within 0 3 sort (omega arith) s), ((omega (arith, h), is_within 1 99 n l h), up))

device_fits : (last : Before) (d : Device) → is_behind last.device (sort_rank d) (own_number d) ≡ true → IsDevice d → (device last).fits d
unfolding device
device_fits last (Interrupt n) up h = (number_fits last 0 n (omega arith) h.0 h.1 up, refl)
device_fits last (Terminal n direction) up h = (number_fits last 1 n (omega arith) h.0 h.1 up, (direction_fits direction, refl))
device_fits last (Input n of) up h = (number_fits last 2 n (omega arith) h.0 h.1 up, (plain_kind_fits of h.2, refl))
device_fits last (Output n of) up h = (number_fits last 3 n (omega arith) h.0 h.1 up, (plain_kind_fits of h.2, refl))

or_right : (a b : Bool) → b ≡ true → (a || b) ≡ true
or_right true b h = refl
or_right false b h = h

is_behind_it : (a b : Device) → IsBefore a b → is_behind (Some a) (sort_rank b) (own_number b) ≡ true
is_behind_it a b (inl h) = rw (lt-ltb (sort_rank a) (sort_rank b) h) refl
is_behind_it a b (inr h) =
    or_right (nat_lt (sort_rank a) (sort_rank b)) (nat_eq (sort_rank a) (sort_rank b) && nat_lt (own_number a) (own_number b))
    (rw (ap (nat_eq (sort_rank a)) (sym h.0) ∙ eqb_same (sort_rank a), lt-ltb (own_number a) (own_number b) h.1) refl)

abbrev IsNext : Before → List Device → Type 0
IsNext last [] = Unit {0}
IsNext last (d ∷ xs) = is_behind last.device (sort_rank d) (own_number d) ≡ true

first_next : (xs : List Device) → IsNext first_device xs
first_next [] = tt
first_next (d ∷ xs) = refl

devices_fit : (last : Before) (xs : List Device) → IsNext last xs → AllByRecursion IsDevice xs → DevicesRise xs → rolled_fit device after_device last xs
devices_fit last [] up h r = tt
devices_fit last (a ∷ []) up h r = (device_fits last a up h.0, tt)
devices_fit last (a ∷ b ∷ more) up h r =
    (device_fits last a up h.0, devices_fit (after_device last a) (b ∷ more) (is_behind_it a b r.0) h.1 r.1)

letters_fit : (xs : List ℕ) → length xs ≤ 1024 → AllByRecursion IsLetter xs → letters.fits xs
letters_fit xs few h = (((omega (arith, few), is_within 0 1024 (length xs) (omega arith) few), (refl, go xs h)), refl)
  where
    go : (xs : List ℕ) → AllByRecursion IsLetter xs → rolled_fit (λ (s : Alone). byte_in 32 126) (λ s b. s) alone xs
    go [] h = tt
    go (b ∷ xs) h = ((omega (arith, h.0.1), is_within 32 126 b h.0.0 h.0.1), go xs h.1)

constants_fit : (of : Kind) (xs : List Cell) → AllByRecursion (IsValueOf of) xs → rolled_fit (λ (s : Wanted). literal (Some s.kind)) (λ s x. s) (record { kind = of }) xs
constants_fit of [] h = tt
constants_fit of (x ∷ xs) h = (constant_fits of x h.0, constants_fit of xs h.1)

leaf_fits : (room : Room) (v : Leaf) → v.slots ≤ room.left → IsLeaf v → (leaf room).fits v
unfolding leaf
leaf_fits room v few h = (
  (
    letters_fit v.name h.short h.named,
    (
      plain_kind_fits v.kind h.kind,
      (
        (omega (arith, h.some.1), is_within 1 room.left v.slots h.some.0 few),
        (((omega (arith, h.few, h.some.1), is_within 0 v.slots (length v.constants) (omega arith) h.few), (refl, constants_fit v.kind v.constants h.constants)), refl),
      ),
    ),
  ),
  refl,
)

leaves_fit : (room : Room) (xs : List Leaf) → sum_by (λ (v : Leaf). v.slots) xs ≤ room.left → AllByRecursion IsLeaf xs → rolled_fit leaf after_leaf room xs
leaves_fit room [] few h = tt
leaves_fit room (v ∷ xs) few h =
    let all = sum_by-cons (λ (v : Leaf). v.slots) v xs in
    (leaf_fits room v (omega (arith, few, all)) h.0, leaves_fit (after_leaf room v) xs (omega (arith, few, all)) h.1)

item_code_fits : (c : ItemCode) → item_code.fits c
unfolding item_code
item_code_fits items.A = ((omega arith, refl), refl)
item_code_fits items.B1 = ((omega arith, refl), refl)
item_code_fits items.B2 = ((omega arith, refl), refl)
item_code_fits items.B3 = ((omega arith, refl), refl)
item_code_fits items.B4 = ((omega arith, refl), refl)
item_code_fits items.F = ((omega arith, refl), refl)
item_code_fits items.T = ((omega arith, refl), refl)
item_code_fits items.D = ((omega arith, refl), refl)
item_code_fits items.X = ((omega arith, refl), refl)
item_code_fits items.Skip = ((omega arith, refl), refl)

least_is : (c : ItemCode) (width : ℕ) → HasWidth c width → least_width c ≤ width
least_is items.F width h = h
least_is items.T width h = h
least_is items.D width h = h
least_is _ width h = omega arith

item_fits : (i : Item) → IsItem i → item.fits i
unfolding item
item_fits i h =
    ((item_code_fits i.code, (omega (arith, h.1), is_within (least_width i.code) 255 i.width (least_is i.code i.width h.0) h.1)), refl)

format_fits : (f : List Item) → IsFormat f → IsBytes (format.bytes f) → format.fits f
format_fits f h b = each_fits item IsItem (λ i is b. item_fits i is) f h b

-- ---- routines

result_fits : (of : Option Kind) → IfSome of IsKind → result_of.fits of
unfolding result_of
result_fits None h = ((omega arith, refl), refl)
result_fits (Some of) h = ((omega arith, refl), (plain_kind_fits of h, refl))

procedure_fits : (p : Procedure) → IsProcedure p → IsBytes (procedure.bytes p) → procedure.fits p
unfolding procedure
procedure_fits p h b =
    let first = first_of_more p.params (result_of.bytes p.result ++ (code p.params).bytes p.code) b in
    let below = bytes_behind (result_of.bytes p.result) ((code p.params).bytes p.code) first.1 in
    ((first.0, (result_fits p.result h.result, code_fits p.params p.code h.code (subst IsBytes (code_bytes p.params p.code) below))), refl)

either_true : (b : Bool) → (b || true) ≡ true
either_true true = refl
either_true false = refl

-- a letter that others follow makes no word of the name, nor does the last one
word_or_more : (before xs : List ℕ) (x count : ℕ) → length before + suc (length xs) ≡ count → is_no_word (before ++ x ∷ xs) ≡ true →
    (nat_lt (length before + 1) count || is_no_word (before ++ x ∷ [])) ≡ true
word_or_more before [] x count all other = rw other (either_true (nat_lt (length before + 1) count))
word_or_more before (y ∷ xs) x count all other = rw (lt-ltb (length before + 1) count (omega (arith, all))) refl

name_letters_fit : (before xs : List ℕ) (count : ℕ) → 0 < length before → length before + length xs ≡ count → list_all is_name_byte xs ≡ true → is_no_word (before ++ xs) ≡ true →
    IsBytes (all_bytes (λ (b : ℕ). b ∷ []) xs) → rolled_fit letter after_letter (record { before = before; count = count }) xs
name_letters_fit before [] count some all h other b = tt
name_letters_fit before (x ∷ xs) count some all h other b =
    let both = both_true (is_name_byte x) (list_all is_name_byte xs) h in
    let behind : (length before == 0) ≡ false = ne_eqb (length before) 0 (λ none. omega (arith, some, none)) in
    let more = length-append before (x ∷ []) in
    let next : is_no_word ((before ++ x ∷ []) ++ xs) ≡ true = subst (λ text. is_no_word text ≡ true) (sym (append_assoc before (x ∷ []) xs)) other in (
      (b 0, rw (behind, both.0, word_or_more before xs x count (omega (arith, all)) other) refl),
      name_letters_fit (before ++ x ∷ []) xs count (omega (arith, more)) (omega (arith, all, more)) both.1 next (λ i. b (suc i)),
    )

name_fits : (xs : List ℕ) → IsId xs → IsBytes (name.bytes xs) → name.fits xs
unfolding name
name_fits [] h b = absurd h.begins
name_fits (x ∷ xs) h b =
    let few = both_true (is_ascii_alphabetic x && list_all is_name_byte (x ∷ xs)) (nat_le (length (x ∷ xs)) 63) (ids_are_names (x ∷ xs) h) in
    let named = both_true (is_ascii_alphabetic x) (list_all is_name_byte (x ∷ xs)) few.0 in
    let rest = both_true (is_name_byte x) (list_all is_name_byte xs) named.1 in
    let behind = bytes_behind (number_bytes (length (x ∷ xs))) (all_bytes (λ (b : ℕ). b ∷ []) (x ∷ xs)) b in
    let other = no_word_is (x ∷ xs) h in
    let first : may_follow (first_letter (length (x ∷ xs))) x ≡ true = rw (named.0, word_or_more [] xs x (length (x ∷ xs)) (omega arith) other) refl in
    let others = name_letters_fit (x ∷ []) xs (length (x ∷ xs)) (omega arith) (omega arith) rest.1 other (λ i. behind (suc i)) in
    (((omega (arith, h.length), is_within 1 63 (length (x ∷ xs)) (omega arith) h.length), (refl, ((behind 0, first), others))), refl)

task_fits : (t : Task) → IsTask t → IsBytes (task.bytes t) → task.fits t
unfolding task
task_fits t h b =
    let behind_name = number_bytes t.priority ++ (flag.bytes t.main ++ (code 0).bytes t.code) in
    let priority = first_of_more t.priority (flag.bytes t.main ++ (code 0).bytes t.code) (bytes_behind (name.bytes t.name.items) behind_name b) in (
      (
        name_fits t.name.items h.named (bytes_before (name.bytes t.name.items) behind_name b),
        (
          (priority.0, is_within 1 255 t.priority h.urgent.0 h.urgent.1),
          (flag_fits t.main, code_fits 0 t.code h.code (bytes_behind (flag.bytes t.main) ((code 0).bytes t.code) priority.1)),
        ),
      ),
      refl,
    )

-- ---- objects

devices_stand : (xs : List Device) → length xs ≤ 396 → AllByRecursion IsDevice xs → DevicesRise xs → devices.fits xs
devices_stand xs few h r = (((omega (arith, few), is_within 0 396 (length xs) (omega arith) few), (refl, devices_fit first_device xs (first_next xs) h r)), refl)

semaphores_stand : (xs : List ℕ) → length xs ≤ 1000 → AllByRecursion (λ count. count < 2 ^ 31) xs → IsBytes (semaphores.bytes xs) → semaphores.fits xs
semaphores_stand xs few h b =
    each_fits_in 1000 (number_in 0 (2 ^ 31 - 1)) (λ count. count < 2 ^ 31) (λ n lt b. (omega (arith, lt), is_within 0 (2 ^ 31 - 1) n (omega arith) (omega (arith, lt)))) xs few h b

leaves_stand : (xs : List Leaf) → sum_by (λ (v : Leaf). v.slots) xs ≤ 65536 → AllByRecursion IsLeaf xs → IsBytes (leaves.bytes xs) → leaves.fits xs
leaves_stand xs few h b =
    counted_fits 0 (2 ^ 64 - 1) (leaf all_slots).bytes leaf after_leaf all_slots xs (omega arith) (any_length (length xs) (all_bytes (leaf all_slots).bytes xs) b) b (λ x. leaves_fit all_slots xs few h)

parts_fit : (o : Parts) → IsObject o → IsBytes (parts.bytes o) → parts.fits o
unfolding parts
parts_fit o h b =
    let tasks = (each_in 0 200 task).bytes o.tasks in
    let procedures = (each_in 0 200 procedure).bytes o.procedures in
    let from_formats = formats.bytes o.formats ++ (procedures ++ tasks) in
    let from_leaves = leaves.bytes o.leaves ++ from_formats in
    let b1 = bytes_behind (devices.bytes o.devices) (semaphores.bytes o.semaphores ++ from_leaves) b in
    let b2 = bytes_behind (semaphores.bytes o.semaphores) from_leaves b1 in
    let b3 = bytes_behind (leaves.bytes o.leaves) from_formats b2 in
    let b4 = bytes_behind (formats.bytes o.formats) (procedures ++ tasks) b3 in (
      (
        devices_stand o.devices h.few_devices h.devices h.rising,
        (
          semaphores_stand o.semaphores h.few_semaphores h.semaphores (bytes_before (semaphores.bytes o.semaphores) from_leaves b1),
          (
            leaves_stand o.leaves h.few_slots h.leaves (bytes_before (leaves.bytes o.leaves) from_formats b2),
            (
              each_fits format IsFormat format_fits o.formats h.formats (bytes_before (formats.bytes o.formats) (procedures ++ tasks) b3),
              (
                each_fits_in 200 procedure IsProcedure procedure_fits o.procedures h.few_procedures h.procedures (bytes_before procedures tasks b4),
                each_fits_in 200 task IsTask task_fits o.tasks h.few_tasks h.tasks (bytes_behind procedures tasks b4),
              ),
            ),
          ),
        ),
      ),
      refl,
    )

pub object_fits : (o : Parts) → IsObject o → IsBytes (object_bytes o) → object.fits o
unfolding object
object_fits o h b = ((tt, parts_fit o h (bytes_behind front (parts.bytes o) b)), refl)
