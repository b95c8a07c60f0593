-- How the tables of an object are spelled: devices, semaphores, leaves and formats.
use Rattle.std.specs.Prelude.{ℕ, ◌-◌, ◌^◌, Bool, true, ◌&&◌, ◌||◌, nat_lt, ◌==◌, List, [], ◌∷◌, Option, Some, None}
use Rattle.pearl_value.specs.declared.kind.Kind.{Kind}
use Rattle.pearl_value.specs.declared.kind.Kind.TheVariants as kinds
use Rattle.pearl_value.specs.declared.cell.Cell.{Cell}
use Rattle.pearl_value.specs.declared.device.Device.{Device}
use Rattle.pearl_value.specs.declared.device.Device.TheVariants.{Interrupt, Terminal, Input, Output}
use Rattle.pearl_value.specs.declared.device.Direction.{Direction}
use Rattle.pearl_value.specs.declared.device.Direction.TheVariants.{In, Out, InOut}
use Rattle.pearl_value.specs.Devices.{sort_rank, own_number}
use Rattle.pearl_format.specs.declared.item.ItemCode.{ItemCode}
use Rattle.pearl_format.specs.declared.item.ItemCode.TheVariants.{A, B1, B2, B3, B4, F, T, D, X, Skip}
use Rattle.pearl_format.specs.declared.item.Item.{Item}
use Rattle.pearl_instructions.specs.declared.object.Leaf.{Leaf}
use Rattle.pearl_fields.specs.Codec.{Codec, number_in, byte_in, nothing, never, guarded, shaped, pair, keyed, tagged, arm_at, counted}
use Rattle.pearl_object.specs.declared.states.Alone.{Alone}
use Rattle.pearl_object.specs.declared.states.Before.{Before}
use Rattle.pearl_object.specs.declared.states.Room.{Room}
use Rattle.pearl_object.specs.declared.states.Wanted.{Wanted}
use Rattle.pearl_object.specs.Lists.{alone, each, each_in}
use Rattle.pearl_object.specs.Kinds.{kind}
use Rattle.pearl_object.specs.Literals.{literal}

-- ---- devices

abbrev pub direction_tag : Direction → ℕ
direction_tag In = 1
direction_tag Out = 2
direction_tag InOut = 3

abbrev pub direction_arms : List (Codec Direction)
direction_arms = never ∷ nothing In ∷ nothing Out ∷ nothing InOut ∷ []

unfoldable pub direction : Codec Direction
direction = tagged 1 direction_tag direction_arms

-- a device's sort and number rise; they are refused at the number
abbrev pub is_behind : Option Device → ℕ → ℕ → Bool
is_behind None sort n = true
is_behind (Some last) sort n = nat_lt (sort_rank last) sort || (sort_rank last == sort && nat_lt (own_number last) n)

abbrev pub device_key : Device → ℕ × ℕ
device_key d = (sort_rank d, own_number d)

abbrev pub device_keys : Before → Codec (ℕ × ℕ)
device_keys last = pair (byte_in 0 3) (λ sort. guarded (is_behind last.device sort) (byte_in 1 99))

abbrev pub direction_of : Device → Direction
direction_of (Terminal n direction) = direction
direction_of _ = In

abbrev pub kind_in_device : Device → Kind
kind_in_device (Input n of) = of
kind_in_device (Output n of) = of
kind_in_device _ = kinds.Clock

abbrev pub device_arms : ℕ → List (Codec Device)
device_arms n =
    nothing (Interrupt n)
    ∷ shaped direction_of (Terminal n) direction
    ∷ shaped kind_in_device (Input n) (kind None)
    ∷ shaped kind_in_device (Output n) (kind None)
    ∷ []

unfoldable pub device : Before → Codec Device
device last = keyed device_key (device_keys last) (λ key. arm_at (device_arms key.1) key.0)

abbrev pub first_device : Before
first_device = record { device = None }

abbrev pub after_device : Before → Device → Before
after_device last d = record { device = Some d }

abbrev pub devices : Codec (List Device)
devices = counted 0 396 (device first_device).bytes device after_device first_device

-- ---- semaphores

abbrev pub semaphores : Codec (List ℕ)
semaphores = each_in 0 1000 (number_in 0 (2 ^ 31 - 1))

-- ---- leaves

-- the name is printable
abbrev pub letters : Codec (List ℕ)
letters = counted 0 1024 (λ b. b ∷ []) (λ (s : Alone). byte_in 32 126) (λ s b. s) alone

abbrev pub leaf_fields : Leaf → List ℕ × (Kind × (ℕ × List Cell))
leaf_fields leaf = (leaf.name, (leaf.kind, (leaf.slots, leaf.constants)))

abbrev pub made_leaf : List ℕ × (Kind × (ℕ × List Cell)) → Leaf
made_leaf p = record { name = p.0; kind = p.1.0; slots = p.1.1.0; constants = p.1.1.1 }

-- literals of the leaf's kind, at most as many as slots
abbrev pub constants : Kind → ℕ → Codec (List Cell)
constants of slots =
    counted 0 slots (literal None).bytes (λ (s : Wanted). literal (Some s.kind)) (λ s x. s) (record { kind = of })

-- all leaves together have at most 65,536 slots
unfoldable pub leaf : Room → Codec Leaf
leaf room =
    shaped leaf_fields made_leaf
    (pair letters (λ name. pair (kind None) (λ of. pair (number_in 1 room.left) (λ slots. constants of slots))))

abbrev pub all_slots : Room
all_slots = record { left = 65536 }

abbrev pub after_leaf : Room → Leaf → Room
after_leaf room leaf = record { left = room.left - leaf.slots }

abbrev pub leaves : Codec (List Leaf)
leaves = counted 0 (2 ^ 64 - 1) (leaf all_slots).bytes leaf after_leaf all_slots

-- ---- formats

abbrev pub item_tag : ItemCode → ℕ
item_tag A = 0
item_tag B1 = 1
item_tag B2 = 2
item_tag B3 = 3
item_tag B4 = 4
item_tag F = 5
item_tag T = 6
item_tag D = 7
item_tag X = 8
item_tag Skip = 9

abbrev pub item_arms : List (Codec ItemCode)
item_arms =
    nothing A
    ∷ nothing B1
    ∷ nothing B2
    ∷ nothing B3
    ∷ nothing B4
    ∷ nothing F
    ∷ nothing T
    ∷ nothing D
    ∷ nothing X
    ∷ nothing Skip
    ∷ []

unfoldable pub item_code : Codec ItemCode
item_code = tagged 0 item_tag item_arms

abbrev pub least_width : ItemCode → ℕ
least_width F = 1
least_width T = 8
least_width D = 1
least_width _ = 0

unfoldable pub item : Codec Item
item =
    shaped (λ i. (i.code, i.width)) (λ p. record { code = p.0; width = p.1 })
    (pair item_code (λ code. byte_in (least_width code) 255))

abbrev pub format : Codec (List Item)
format = each item

abbrev pub formats : Codec (List (List Item))
formats = each format
