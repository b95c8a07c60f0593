-- Code, tables, routines and objects are read as they are spelled.
use Rattle.std.proofs.Common.{◌≡◌, ℕ, zero, suc, ◌-◌, ◌^◌, ◌++◌, true, List, [], ◌∷◌, length, Option, Some, None, refl, sym, ap, ◌∙◌, arith}
use Rattle.pearl_value.specs.declared.kind.Kind.{Kind}
use Rattle.pearl_value.specs.declared.kind.Kind.TheVariants as kinds
use Rattle.pearl_value.specs.declared.kind.CellKind.{CellKind}
use Rattle.pearl_value.specs.declared.cell.Cell.{Cell}
use Rattle.pearl_value.specs.declared.device.Device.{Device}
use Rattle.pearl_value.specs.declared.device.Device.TheVariants.{Interrupt, Terminal, Input, Output}
use Rattle.pearl_value.specs.declared.device.Direction.TheVariants.{In, Out, InOut}
use Rattle.pearl_format.specs.declared.item.ItemCode.TheVariants as items
use Rattle.pearl_instructions.specs.declared.object.Shape.{Shape}
use Rattle.pearl_instructions.specs.declared.object.Leaf.{Leaf}
use Rattle.pearl_fields.specs.Codec.{pair, guarded, arm_at, within, number, number_in, byte_in, exactly}
use Rattle.pearl_fields.proofs.Offered.{IsTold, byte_told, guarded_told, shaped_told, pair_told, keyed_told, tagged_told, exactly_told, AreArms, arm_of, made_arm, number_told, number_in_told, rolled_told, counted_told, number_some}
use Rattle.pearl_object.specs.declared.states.Alone.{Alone}
use Rattle.pearl_object.specs.declared.states.Last.{Last}
use Rattle.pearl_object.specs.declared.states.Before.{Before}
use Rattle.pearl_object.specs.declared.states.Room.{Room}
use Rattle.pearl_object.specs.declared.states.Wanted.{Wanted}
use Rattle.pearl_object.specs.declared.states.Parameters.{Parameters}
use Rattle.pearl_object.specs.Lists.{alone, each, each_in}
use Rattle.pearl_object.specs.Kinds.{kind, cell_kind, cell_of, after_cell}
use Rattle.pearl_object.specs.Literals.{literal_kind, value_of, literal}
use Rattle.pearl_object.specs.Operands.{flag}
use Rattle.pearl_object.specs.Instructions.{instr}
use Rattle.pearl_object.specs.Codes.{above, shape, first_shape, after_shape, code_fields, made_code, cells, shapes, code}
use Rattle.pearl_object.specs.Tables.{direction_tag, direction_arms, direction, is_behind, device_key, device_keys, direction_of, kind_in_device, device_arms, device, first_device, after_device, devices, semaphores, letters, constants, leaf_fields, made_leaf, leaf, all_slots, after_leaf, leaves, item_tag, item_arms, item_code, least_width, item, format, formats}
use Rattle.pearl_object.specs.Objects.{result_tag, result_kind, result_arms, result_of, procedure_fields, made_procedure, procedure, may_follow, letter, first_letter, after_letter, name_letters, name, task_fields, made_task, task, front, object_fields, made_object, parts, object}
use Rattle.pearl_object.proofs.Parts.{◌&◌, single, empty, each_told, kind_told, cell_kind_told, literal_told}
use Rattle.pearl_object.proofs.OperandLaws.{flag_told}
use Rattle.pearl_object.proofs.InstructionLaws.{instr_told}

-- ---- code

kinds_told : IsTold (each (cell_kind true))
kinds_told = each_told 0 (2 ^ 64 - 1) (cell_kind true) (cell_kind_told true)

shape_told : (last : Last) → IsTold (shape last)
unfolding shape
shape_told last =
    shaped_told (λ s. (s.instruction, s.kinds)) (λ p. record { instruction = p.0; kinds = p.1 }) (pair (guarded (above last.number) number) (λ n. each (cell_kind true)))
    (pair_told (guarded (above last.number) number) (λ n. each (cell_kind true)) (guarded_told (above last.number) number number_told (λ x h. number_some x)) (λ n. kinds_told)) (λ a h. refl)

same_shape : (last : Last) (s : Shape) → (shape last).bytes s ≡ (shape first_shape).bytes s
unfolding shape
same_shape last s = refl

shapes_told : IsTold shapes
shapes_told = counted_told 0 (2 ^ 64 - 1) (shape first_shape).bytes shape after_shape first_shape shape_told same_shape

same_cell : (state : Parameters) (k : CellKind) → (cell_of state).bytes k ≡ (cell_kind true).bytes k
unfolding cell_kind
same_cell state k = refl

cells_told : (params : ℕ) → IsTold (cells params)
cells_told params = counted_told params (2 ^ 64 - 1) (cell_kind true).bytes cell_of after_cell (record { left = params }) (λ s. cell_kind_told _) same_cell

code_told : (params : ℕ) → IsTold (code params)
unfolding code
code_told params =
    shaped_told code_fields made_code _
    (pair_told (cells params) _ (cells_told params) (λ kinds. pair_told number _ number_told (λ depth. pair_told (each instr) _ (each_told 0 (2 ^ 64 - 1) instr instr_told) (λ instructions. shapes_told))))
    (λ a h. refl)

-- ---- tables

direction_told : IsTold direction
unfolding direction
direction_told =
    tagged_told 1 direction_tag direction_arms (empty direction_tag 0 & single direction_tag 1 In refl & single direction_tag 2 Out refl & single direction_tag 3 InOut refl & tt)

abbrev sort : Device → ℕ
sort d = (device_key d).0

sorts : (n : ℕ) → AreArms sort 0 (device_arms n)
sorts n =
    single sort 0 (Interrupt n) refl
    & made_arm sort 1 direction_of (Terminal n) direction direction_told (λ a. refl) (λ a. refl)
    & made_arm sort 2 kind_in_device (Input n) (kind None) (kind_told None) (λ a. refl) (λ a. refl)
    & made_arm sort 3 kind_in_device (Output n) (kind None) (kind_told None) (λ a. refl) (λ a. refl)
    & tt

-- a device of these arms has this number
number_of_arm : (n t : ℕ) (x : Device) → (arm_at (device_arms n) t).fits x → (device_key x).1 ≡ n
number_of_arm n zero x h = ap (λ d. (device_key d).1) h
number_of_arm n (suc zero) x h = ap (λ d. (device_key d).1) (sym h.1)
number_of_arm n (suc (suc zero)) x h = ap (λ d. (device_key d).1) (sym h.1)
number_of_arm n (suc (suc (suc zero))) x h = ap (λ d. (device_key d).1) (sym h.1)
number_of_arm n (suc (suc (suc (suc t)))) x h = absurd h

abbrev as_key : ℕ → ℕ → ℕ × ℕ
as_key t n = (t, n)

both : (key : ℕ × ℕ) (t n : ℕ) → key.0 ≡ t → key.1 ≡ n → key ≡ as_key t n
both key t n p q = ap (λ x. as_key x key.1) p ∙ ap (as_key t) q

keys_told : (last : Before) → IsTold (device_keys last)
keys_told last =
    pair_told (byte_in 0 3) (λ t. guarded (is_behind last.device t) (byte_in 1 99)) (byte_told (within 0 3)) (λ t.
    guarded_told (is_behind last.device t) (byte_in 1 99) (byte_told (within 1 99)) (λ x h. omega arith))

device_told : (last : Before) → IsTold (device last)
unfolding device
device_told last =
    keyed_told device_key (device_keys last) (λ key. arm_at (device_arms key.1) key.0) (keys_told last)
    (λ key. (arm_of sort 0 (device_arms key.1) (sorts key.1) key.0).told)
    (λ key x h. both (device_key x) key.0 key.1 ((arm_of sort 0 (device_arms key.1) (sorts key.1) key.0).tagged x h ∙ omega arith) (number_of_arm key.1 key.0 x h))

same_device : (last : Before) (d : Device) → (device last).bytes d ≡ (device first_device).bytes d
unfolding device
same_device last d = refl

devices_told : IsTold devices
devices_told = counted_told 0 396 (device first_device).bytes device after_device first_device device_told same_device

semaphores_told : IsTold semaphores
semaphores_told = each_told 0 1000 (number_in 0 (2 ^ 31 - 1)) (number_in_told 0 (2 ^ 31 - 1))

letters_told : IsTold letters
letters_told = counted_told 0 1024 (λ b. b ∷ []) (λ (s : Alone). byte_in 32 126) (λ s b. s) alone (λ s. byte_told (within 32 126)) (λ s x. refl)

-- the bytes of a literal are the same whichever is wanted
same_kind_bytes : (wanted : Option Kind) (k : Kind) → (kind wanted).bytes k ≡ (kind None).bytes k
unfolding kind
same_kind_bytes wanted (kinds.Fixed len) = refl
same_kind_bytes wanted (kinds.Bits len) = refl
same_kind_bytes wanted (kinds.Chars len) = refl
same_kind_bytes wanted kinds.Clock = refl
same_kind_bytes wanted kinds.Span = refl

same_literal : (wanted : Option Kind) (x : Cell) → (literal wanted).bytes x ≡ (literal None).bytes x
unfolding literal
same_literal wanted x = ap (λ bs. bs ++ (value_of (literal_kind x)).bytes x) (same_kind_bytes wanted (literal_kind x))

constants_told : (of : Kind) (slots : ℕ) → IsTold (constants of slots)
constants_told of slots =
    counted_told 0 slots (literal None).bytes (λ (s : Wanted). literal (Some s.kind)) (λ s x. s) (record { kind = of }) (λ s. literal_told (Some s.kind)) (λ s x. same_literal (Some s.kind) x)

leaf_told : (room : Room) → IsTold (leaf room)
unfolding leaf
leaf_told room =
    shaped_told leaf_fields made_leaf _
    (pair_told letters _ letters_told (λ name. pair_told (kind None) _ (kind_told None) (λ of. pair_told (number_in 1 room.left) _ (number_in_told 1 room.left) (λ slots. constants_told of slots))))
    (λ a h. refl)

same_leaf : (room : Room) (v : Leaf) → (leaf room).bytes v ≡ (leaf all_slots).bytes v
unfolding leaf
same_leaf room v = refl

leaves_told : IsTold leaves
leaves_told = counted_told 0 (2 ^ 64 - 1) (leaf all_slots).bytes leaf after_leaf all_slots leaf_told same_leaf

item_code_told : IsTold item_code
unfolding item_code
item_code_told =
    tagged_told 0 item_tag item_arms
    (single item_tag 0 items.A refl
    & single item_tag 1 items.B1 refl
    & single item_tag 2 items.B2 refl
    & single item_tag 3 items.B3 refl
    & single item_tag 4 items.B4 refl
    & single item_tag 5 items.F refl
    & single item_tag 6 items.T refl
    & single item_tag 7 items.D refl
    & single item_tag 8 items.X refl
    & single item_tag 9 items.Skip refl
    & tt)

item_told : IsTold item
unfolding item
item_told =
    shaped_told (λ i. (i.code, i.width)) (λ p. record { code = p.0; width = p.1 }) (pair item_code (λ code. byte_in (least_width code) 255))
    (pair_told item_code (λ code. byte_in (least_width code) 255) item_code_told (λ code. byte_told (within (least_width code) 255))) (λ a h. refl)

format_told : IsTold format
format_told = each_told 0 (2 ^ 64 - 1) item item_told

formats_told : IsTold formats
formats_told = each_told 0 (2 ^ 64 - 1) format format_told

-- ---- routines

result_told : IsTold result_of
unfolding result_of
result_told =
    tagged_told 0 result_tag result_arms
    (single result_tag 0 None refl & made_arm result_tag 1 result_kind Some (kind None) (kind_told None) (λ a. refl) (λ a. refl) & tt)

pub procedure_told : IsTold procedure
unfolding procedure
procedure_told =
    shaped_told procedure_fields made_procedure _
    (pair_told number _ number_told (λ params. pair_told result_of _ result_told (λ of. code_told params))) (λ a h. refl)

name_told : IsTold name
unfolding name
name_told =
    shaped_told (λ (text : List ℕ). (length text, text)) (λ p. p.1) (pair (number_in 1 63) name_letters)
    (pair_told (number_in 1 63) name_letters (number_in_told 1 63) (λ n. rolled_told (λ b. b ∷ []) letter after_letter (first_letter n) n (λ s. byte_told (may_follow s)) (λ s x. refl)))
    (λ p fits. ap (λ n. (n, p.1)) fits.1.0)

pub task_told : IsTold task
unfolding task
task_told =
    shaped_told task_fields made_task _
    (pair_told name _ name_told (λ text. pair_told (number_in 1 255) _ (number_in_told 1 255) (λ priority. pair_told flag _ flag_told (λ main. code_told 0)))) (λ a h. refl)

-- ---- objects

parts_told : IsTold parts
unfolding parts
parts_told =
    shaped_told object_fields made_object _
    (pair_told devices _ devices_told (λ ds. pair_told semaphores _ semaphores_told (λ ss. pair_told leaves _ leaves_told (λ vs. pair_told formats _ formats_told (λ fs.
    pair_told (each_in 0 200 procedure) _ (each_told 0 200 procedure procedure_told) (λ ps. each_told 0 200 task task_told))))))
    (λ a h. refl)

pub object_told : IsTold object
unfolding object
object_told = shaped_told (λ o. (tt, o)) (λ p. p.1) (pair (exactly front) (λ x. parts)) (pair_told (exactly front) (λ x. parts) (exactly_told 80 (82 ∷ 76 ∷ 49 ∷ [])) (λ x. parts_told)) (λ a h. refl)
