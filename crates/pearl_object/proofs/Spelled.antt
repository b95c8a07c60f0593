-- What is spelled is as each object is to be.
use Rattle.std.proofs.Common.{◌≡◌, ℕ, zero, suc, ◌≤◌, ◌<◌, ◌-◌, ◌^◌, ◌++◌, Bool, true, false, List, [], ◌∷◌, length, drop, Option, Some, None, refl, sym, ap, ◌∙◌, subst, arith, length-append, append_assoc, ne_eqb, inl, inr}
use Rattle.std.specs.Prelude.{◌+◌, ◌&&◌, ◌||◌, ◌==◌, nat_eq, nat_lt, sum_by, IfSome}
use Rattle.std.specs.List.{AllByRecursion, list_all}
use Rattle.std.specs.Char.{is_ascii_alphabetic}
use Rattle.std.proofs.lemmas.Bool.{le-leb, le-ltb, ltb-true, eqb-true}
use Rattle.std.proofs.lemmas.List.Sums.{sum_by-cons}
use Rattle.pearl_value.specs.declared.kind.Kind.{Kind}
use Rattle.pearl_value.specs.declared.kind.CellKind.{CellKind}
use Rattle.pearl_value.specs.declared.cell.Cell.{Cell}
use Rattle.pearl_value.specs.declared.device.Device.{Device}
use Rattle.pearl_value.specs.declared.device.Device.TheVariants.{Interrupt, Terminal, Input, Output}
use Rattle.pearl_value.specs.Kinds.{IsKind}
use Rattle.pearl_value.specs.WellFormed.{IsLetter, IsValueOf}
use Rattle.pearl_value.specs.Names.{is_name_byte, is_id}
use Rattle.pearl_value.specs.Devices.{sort_rank, own_number, IsDevice, IsBefore, AreRising as DevicesRise}
use Rattle.pearl_format.specs.declared.item.Item.{Item}
use Rattle.pearl_format.specs.declared.item.ItemCode.{ItemCode}
use Rattle.pearl_format.specs.declared.item.ItemCode.TheVariants as items
use Rattle.pearl_format.specs.Items.{HasWidth, IsItem, IsFormat}
use Rattle.pearl_tree.specs.Tokens.{IsId}
use Rattle.pearl_instructions.specs.declared.instr.Instr.{Instr}
use Rattle.pearl_instructions.specs.declared.instr.Instr.TheVariants.{Const, Fill, Conv}
use Rattle.pearl_instructions.specs.declared.object.Shape.{Shape}
use Rattle.pearl_instructions.specs.declared.object.Leaf.{Leaf}
use Rattle.pearl_instructions.specs.declared.object.Code.{Code}
use Rattle.pearl_instructions.specs.declared.object.Procedure.{Procedure}
use Rattle.pearl_instructions.specs.declared.object.Task.{Task}
use Rattle.pearl_instructions.specs.declared.object.Parts.{Parts}
use Rattle.pearl_instructions.specs.Lawful.{IsCellKind, IsPlain, IsLeaf, IsInstr, AreRising, IsCode, IsProcedure, IsTask, IsObject}
use Rattle.pearl_fields.specs.Codec.{Codec, rolled_fit, all_bytes, number_bytes, number_in, byte_in}
use Rattle.pearl_object.specs.declared.states.Alone.{Alone}
use Rattle.pearl_object.specs.declared.states.Last.{Last}
use Rattle.pearl_object.specs.declared.states.Before.{Before}
use Rattle.pearl_object.specs.declared.states.Room.{Room}
use Rattle.pearl_object.specs.declared.states.Wanted.{Wanted}
use Rattle.pearl_object.specs.Lists.{alone, each, each_in}
use Rattle.pearl_object.specs.Kinds.{cell_kind, cell_of, after_cell}
use Rattle.pearl_object.specs.Literals.{literal}
use Rattle.pearl_object.specs.Instructions.{instr, operands_at}
use Rattle.pearl_object.specs.Codes.{above, shape, first_shape, after_shape, code}
use Rattle.pearl_object.specs.Tables.{is_behind, device, first_device, after_device, devices, semaphores, letters, constants, leaf, all_slots, after_leaf, leaves, least_width, item, format, formats}
use Rattle.pearl_object.specs.Objects.{result_of, procedure, is_no_word, is_next_letter, letter, first_letter, after_letter, name, task, front, parts, object, object_bytes}
use Rattle.pearl_object.proofs.Ranges.{within_is, both_true, kind_is, literal_is, constant_is}
use Rattle.pearl_object.proofs.CellKinds.{cell_kind_is, plain_where_bound}
use Rattle.pearl_object.proofs.Identifiers.{id_is}
use Rattle.pearl_fields.proofs.Offered.{number_some}

-- ---- lists

-- each member is as the parts say, whatever stands before it
module _ {S X : Type 0} (c : S → Codec X) (next : S → X → S) (Known : S → Type 0) (keeps : (s : S) (x : X) → Known s → Known (next s x)) (P : X → Type 0) (is : (s : S) (x : X) → Known s → (c s).fits x → P x) where
  members_are : (s : S) (xs : List X) → Known s → rolled_fit c next s xs → AllByRecursion P xs
  members_are s [] k h = tt
  members_are s (x ∷ xs) k h = (is s x k h.0, members_are (next s x) xs (keeps s x k) h.1)

pub each_is : {X : Type 0} (low high : ℕ) (c : Codec X) (P : X → Type 0) → ((x : X) → c.fits x → P x) → (xs : List X) → (each_in low high c).fits xs → AllByRecursion P xs
each_is low high c P is xs h = members_are (λ (s : Alone). c) (λ s x. s) (λ s. Unit {0}) (λ s x k. tt) P (λ s x k f. is x f) alone xs tt h.0.1.1

-- ---- code

instr_is : (i : Instr) → instr.fits i → IsInstr i
unfolding instr operands_at
instr_is (Const x) h = literal_is None x h.1.0
instr_is (Fill first count of) h = kind_is None of h.1.0.1.1
instr_is (Conv of) h = kind_is None of h.1.0
instr_is _ h = tt

cells_plain : (xs : List CellKind) → rolled_fit cell_of after_cell (record { left = 0 }) xs → AllByRecursion IsPlain xs
cells_plain [] h = tt
cells_plain (x ∷ xs) h = (plain_where_bound x h.0, cells_plain xs h.1)

cells_plain_behind : (left : ℕ) (xs : List CellKind) → rolled_fit cell_of after_cell (record { left = left }) xs → AllByRecursion IsPlain (drop left xs)
cells_plain_behind zero xs h = cells_plain xs h
cells_plain_behind (suc left) [] h = tt
cells_plain_behind (suc left) (x ∷ xs) h =
    let one : suc left - 1 ≡ left = omega arith in
    cells_plain_behind left xs (subst (λ n. rolled_fit cell_of after_cell (record { left = n }) xs) one h.1)

kinds_are : (xs : List CellKind) → (each (cell_kind true)).fits xs → AllByRecursion IsCellKind xs
kinds_are xs h = each_is 0 (2 ^ 64 - 1) (cell_kind true) IsCellKind (cell_kind_is true) xs h

shape_is : (last : Last) (s : Shape) → (shape last).fits s → AllByRecursion IsCellKind s.kinds
unfolding shape
shape_is last s h = kinds_are s.kinds h.0.1

shape_above : (last : Last) (s : Shape) → (shape last).fits s → above last.number s.instruction ≡ true
unfolding shape
shape_above last s h = h.0.0.1

shapes_rise : (last : Last) (xs : List Shape) → rolled_fit shape after_shape last xs → AreRising xs
shapes_rise last [] h = tt
shapes_rise last (s ∷ []) h = tt
shapes_rise last (s ∷ t ∷ more) h =
    (ltb-true s.instruction t.instruction (shape_above (after_shape last s) t h.1.0), shapes_rise (after_shape last s) (t ∷ more) h.1)

code_is : (params : ℕ) (c : Code) → (code params).fits c → IsCode params c
unfolding code
code_is params c h = record {
  kinds = members_are cell_of after_cell (λ s. Unit {0}) (λ s x k. tt) IsCellKind (λ s x k f. cell_kind_is _ x f) (record { left = params }) c.cells tt h.0.0.0.1.1;
  plain = cells_plain_behind params c.cells h.0.0.0.1.1;
  few = (within_is params (2 ^ 64 - 1) (length c.cells) h.0.0.0.0.1).0;
  instructions = each_is 0 (2 ^ 64 - 1) instr IsInstr instr_is c.instructions h.0.1.1.0;
  shapes = members_are shape after_shape (λ s. Unit {0}) (λ s x k. tt) (λ s. AllByRecursion IsCellKind s.kinds) (λ s x k f. shape_is s x f) first_shape c.shapes tt h.0.1.1.1.0.1.1;
  rising = shapes_rise first_shape c.shapes h.0.1.1.1.0.1.1;
}

-- ---- tables

device_is : (last : Before) (d : Device) → (device last).fits d → IsDevice d
unfolding device
device_is last (Interrupt n) h = let b = within_is 1 99 n h.0.1.0.1 in (b.0, b.1, tt)
device_is last (Terminal n direction) h = let b = within_is 1 99 n h.0.1.0.1 in (b.0, b.1, tt)
device_is last (Input n of) h = let b = within_is 1 99 n h.0.1.0.1 in (b.0, b.1, kind_is None of h.1.0)
device_is last (Output n of) h = let b = within_is 1 99 n h.0.1.0.1 in (b.0, b.1, kind_is None of h.1.0)

device_behind : (last : Before) (d : Device) → (device last).fits d → is_behind last.device (sort_rank d) (own_number d) ≡ true
unfolding device
device_behind last d h = h.0.1.1

is_before : (a b : Device) → is_behind (Some a) (sort_rank b) (own_number b) ≡ true → IsBefore a b
is_before a b h = by_test (nat_lt (sort_rank a) (sort_rank b)) refl
  where
    by_test : (t : Bool) → nat_lt (sort_rank a) (sort_rank b) ≡ t → IsBefore a b
    by_test true p = inl (ltb-true (sort_rank a) (sort_rank b) p)
    by_test false p =
        let later : (nat_eq (sort_rank a) (sort_rank b) && nat_lt (own_number a) (own_number b)) ≡ true = subst (λ t. (t || (nat_eq (sort_rank a) (sort_rank b) && nat_lt (own_number a) (own_number b))) ≡ true) p h in
        let both = both_true _ _ later in inr (eqb-true (sort_rank a) (sort_rank b) both.0, ltb-true (own_number a) (own_number b) both.1)

devices_rise : (last : Before) (xs : List Device) → rolled_fit device after_device last xs → DevicesRise xs
devices_rise last [] h = tt
devices_rise last (a ∷ []) h = tt
devices_rise last (a ∷ b ∷ more) h =
    (is_before a b (device_behind (after_device last a) b h.1.0), devices_rise (after_device last a) (b ∷ more) h.1)

count_is : (n : ℕ) → (number_in 0 (2 ^ 31 - 1)).fits n → n < 2 ^ 31
count_is n h = let b = within_is 0 (2 ^ 31 - 1) n h.1 in omega (arith, b.1)

letters_are : (xs : List ℕ) → letters.fits xs → AllByRecursion IsLetter xs
letters_are xs h = members_are (λ (s : Alone). byte_in 32 126) (λ s b. s) (λ s. Unit {0}) (λ s x k. tt) IsLetter (λ s b k f. within_is 32 126 b f.1) alone xs tt h.0.1.1

constants_are : (of : Kind) (slots : ℕ) (xs : List Cell) → (constants of slots).fits xs → AllByRecursion (IsValueOf of) xs
constants_are of slots xs h =
    members_are (λ (s : Wanted). literal (Some s.kind)) (λ s x. s) (λ s. s.kind ≡ of) (λ s x k. k) (IsValueOf of) (λ s x k f. subst (λ w. IsValueOf w x) k (constant_is s.kind x f)) (record { kind = of }) xs refl h.0.1.1

leaf_is : (room : Room) (v : Leaf) → room.left ≤ 65536 → (leaf room).fits v → IsLeaf v
unfolding leaf
leaf_is room v most h =
    let slots = within_is 1 room.left v.slots h.0.1.1.0.1 in
    record {
      named = letters_are v.name h.0.0;
      short = (within_is 0 1024 (length v.name) h.0.0.0.0.1).1;
      kind = kind_is None v.kind h.0.1.0;
      some = (slots.0, omega (arith, slots.1, most));
      constants = constants_are v.kind v.slots v.constants h.0.1.1.1;
      few = (within_is 0 v.slots (length v.constants) h.0.1.1.1.0.0.1).1;
    }

leaf_room : (room : Room) (v : Leaf) → (leaf room).fits v → v.slots ≤ room.left
unfolding leaf
leaf_room room v h = (within_is 1 room.left v.slots h.0.1.1.0.1).1

slots_in : (room : Room) (xs : List Leaf) → rolled_fit leaf after_leaf room xs → sum_by (λ (v : Leaf). v.slots) xs ≤ room.left
slots_in room [] h = omega arith
slots_in room (v ∷ xs) h =
    omega (arith, sum_by-cons (λ (v : Leaf). v.slots) v xs, leaf_room room v h.0, slots_in (after_leaf room v) xs h.1)

width_is : (c : ItemCode) (width : ℕ) → least_width c ≤ width → HasWidth c width
width_is items.F width h = h
width_is items.T width h = h
width_is items.D width h = h
width_is _ width h = tt

item_is : (i : Item) → item.fits i → IsItem i
unfolding item
item_is i h = let b = within_is (least_width i.code) 255 i.width h.0.1.1 in (width_is i.code i.width b.0, b.1)

-- ---- routines

result_is : (of : Option Kind) → result_of.fits of → IfSome of IsKind
unfolding result_of
result_is None h = tt
result_is (Some of) h = kind_is None of h.1.0

procedure_is : (p : Procedure) → procedure.fits p → IsProcedure p
unfolding procedure
procedure_is p h = record { code = code_is p.params p.code h.0.1.1; result = result_is p.result h.0.1.0 }

-- behind the first letter each is a letter, a digit or `_`
letters_named : (before xs : List ℕ) (count : ℕ) → 0 < length before → rolled_fit letter after_letter (record { before = before; count = count }) xs → list_all is_name_byte xs ≡ true
letters_named before [] count some h = refl
letters_named before (b ∷ xs) count some h =
    let behind : (length before == 0) ≡ false = ne_eqb (length before) 0 (λ none. omega (arith, some, none)) in
    let this : is_name_byte b ≡ true = sym (ap (λ first. is_next_letter first b) behind) ∙ (both_true (is_next_letter (length before == 0) b) _ h.0.1).0 in
    let more = length-append before (b ∷ []) in
    rw (this, letters_named (before ++ b ∷ []) xs count (omega (arith, more)) h.1) refl

-- with the last letter the name is no word
whole_named : (before xs : List ℕ) (count : ℕ) → 0 < length xs → length before + length xs ≡ count → rolled_fit letter after_letter (record { before = before; count = count }) xs →
    is_no_word (before ++ xs) ≡ true
whole_named before [] count some all h = absurd (omega (arith, some))
whole_named before (b ∷ []) count some all h =
    let last : nat_lt (length before + 1) count ≡ false = le-ltb (length before + 1) count (omega (arith, all)) in
    sym (ap (λ more. more || is_no_word (before ++ b ∷ [])) last) ∙ (both_true (is_next_letter (length before == 0) b) _ h.0.1).1
whole_named before (b ∷ c ∷ xs) count some all h =
    let more = length-append before (b ∷ []) in
    subst (λ text. is_no_word text ≡ true) (append_assoc before (b ∷ []) (c ∷ xs)) (whole_named (before ++ b ∷ []) (c ∷ xs) count (omega arith) (omega (arith, all, more)) h.1)

name_is : (xs : List ℕ) → name.fits xs → IsId xs
unfolding name
name_is [] h = absurd (let some = within_is 1 63 0 h.0.0.1 in omega (arith, some.0))
name_is (b ∷ xs) h =
    let few = within_is 1 63 (length (b ∷ xs)) h.0.0.1 in
    let letters : rolled_fit letter after_letter (first_letter (length (b ∷ xs))) (b ∷ xs) = h.0.1.1 in
    let begins : is_ascii_alphabetic b ≡ true = (both_true (is_ascii_alphabetic b) _ letters.0.1).0 in
    let named : is_id (b ∷ xs) ≡ true = rw (begins, letters_named (b ∷ []) xs (length (b ∷ xs)) (omega arith) letters.1, le-leb (length (b ∷ xs)) 63 few.1) refl in
    id_is (b ∷ xs) named (whole_named [] (b ∷ xs) (length (b ∷ xs)) (omega arith) (omega arith) letters)

task_is : (t : Task) → task.fits t → IsTask t
unfolding task
task_is t h =
    let b = within_is 1 255 t.priority h.0.1.0.1 in
    record { code = code_is 0 t.code h.0.1.1.1; named = name_is t.name.items h.0.0; urgent = b }

-- ---- objects

-- as many bytes as members, at least
count_bytes : {X : Type 0} (spelled : X → List ℕ) → ((x : X) → 0 < length (spelled x)) → (xs : List X) → length xs ≤ length (all_bytes spelled xs)
count_bytes spelled some [] = omega arith
count_bytes spelled some (x ∷ xs) = omega (arith, length-append (spelled x) (all_bytes spelled xs), some x, count_bytes spelled some xs)

format_some : (f : List Item) → 0 < length (format.bytes f)
format_some f = omega (arith, length-append (number_bytes (length f)) (all_bytes item.bytes f), number_some (length f))

-- a part has at most as many bytes as what it stands in
front_few : (xs ys : List ℕ) → length xs ≤ length (xs ++ ys)
front_few xs ys = omega (arith, length-append xs ys)

back_few : (xs ys : List ℕ) → length ys ≤ length (xs ++ ys)
back_few xs ys = omega (arith, length-append xs ys)

formats_few : (o : Parts) → length o.formats ≤ length (object_bytes o)
unfolding object parts
formats_few o =
    let rest = (each_in 0 200 procedure).bytes o.procedures ++ (each_in 0 200 task).bytes o.tasks in
    let from_formats = formats.bytes o.formats ++ rest in
    let from_leaves = leaves.bytes o.leaves ++ from_formats in
    let from_semaphores = semaphores.bytes o.semaphores ++ from_leaves in
    omega (
      arith,
      count_bytes format.bytes format_some o.formats,
      back_few (number_bytes (length o.formats)) (all_bytes format.bytes o.formats),
      front_few (formats.bytes o.formats) rest,
      back_few (leaves.bytes o.leaves) from_formats,
      back_few (semaphores.bytes o.semaphores) from_leaves,
      back_few (devices.bytes o.devices) from_semaphores,
      back_few front (devices.bytes o.devices ++ from_semaphores),
    )

pub object_is : (o : Parts) → object.fits o → length (object_bytes o) < 2 ^ 32 → IsObject o
unfolding object parts
object_is o h short =
    let p = h.0.1.0 in
    record {
      devices = members_are device after_device (λ s. Unit {0}) (λ s x k. tt) IsDevice (λ s x k f. device_is s x f) first_device o.devices tt p.0.0.1.1;
      rising = devices_rise first_device o.devices p.0.0.1.1;
      leaves = members_are leaf after_leaf (λ s. s.left ≤ 65536) (λ s x k. omega (arith, k)) IsLeaf (λ s x k f. leaf_is s x k f) all_slots o.leaves (omega arith) p.1.1.0.0.1.1;
      formats = each_is 0 (2 ^ 64 - 1) format IsFormat (λ f h. each_is 0 (2 ^ 64 - 1) item IsItem item_is f h) o.formats p.1.1.1.0;
      procedures = each_is 0 200 procedure IsProcedure procedure_is o.procedures p.1.1.1.1.0;
      tasks = each_is 0 200 task IsTask task_is o.tasks p.1.1.1.1.1;
      semaphores = each_is 0 1000 (number_in 0 (2 ^ 31 - 1)) (λ count. count < 2 ^ 31) count_is o.semaphores p.1.0;
      few_formats = omega (arith, short, formats_few o);
      few_slots = slots_in all_slots o.leaves p.1.1.0.0.1.1;
      few_procedures = (within_is 0 200 (length o.procedures) p.1.1.1.1.0.0.0.1).1;
      few_tasks = (within_is 0 200 (length o.tasks) p.1.1.1.1.1.0.0.1).1;
      few_semaphores = (within_is 0 1000 (length o.semaphores) p.1.0.0.0.1).1;
      few_devices = (within_is 0 396 (length o.devices) p.0.0.0.1).1;
    }
