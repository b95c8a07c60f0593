-- How a variable is laid out: as leaves, each with the bounds of all arrays on its path. An array of structures is laid
-- out field by field.
use Rattle.std.specs.Prelude.{ℕ, ◌+◌, ◌*◌, ℤ, ◌-ℤ◌, unsigned_abs, Bool, ◌&&◌, nat_le, List, [], ◌∷◌, ◌++◌, length, replicate, Option, Some, None}
use Rattle.std.specs.List.{flat_map}
use Rattle.pearl_value.specs.declared.kind.Kind.{Kind}
use Rattle.pearl_tree.specs.ShownDeclarations.{ShownItem}
use Rattle.pearl_names.specs.Shapes.{Shape, OfKind, OfFields, Fields, NoField, MoreField, Around, shape_of, sound_bounds}

pub record Leaf : Type 0 where
  -- the names of the fields that lead to it
  pub path : List (List ℕ)
  pub bounds : List (ℤ × ℤ)
  pub kind : Kind

-- the leaves of a shape behind this path and within these bounds
abbrev mutual
  pub leaves_of : List (List ℕ) → List (ℤ × ℤ) → Shape → List Leaf
  leaves_of path bounds (OfKind kind) = record { path = path; bounds = bounds; kind = kind } ∷ []
  leaves_of path bounds (OfFields fields) = leaves_of_fields path bounds fields

  pub leaves_of_fields : List (List ℕ) → List (ℤ × ℤ) → Fields → List Leaf
  leaves_of_fields path bounds NoField = []
  leaves_of_fields path bounds (MoreField name own shape rest) =
      leaves_of (path ++ name ∷ []) (bounds ++ own) shape ++ leaves_of_fields path bounds rest

-- how many elements there are within some bounds
abbrev pub elements : List (ℤ × ℤ) → ℕ
elements [] = 1
elements (pair ∷ rest) = (unsigned_abs (pair.1 -ℤ pair.0) + 1) * elements rest

-- at most three dimensions and 65,536 elements
abbrev pub is_sound_leaf : Leaf → Bool
is_sound_leaf leaf = nat_le (length leaf.bounds) 3 && nat_le (elements leaf.bounds) 65536

-- where there are bounds and a shape
abbrev pub leaves_within : Option (List (ℤ × ℤ)) → Option Shape → Option (List Leaf)
leaves_within (Some bounds) (Some shape) = Some (leaves_of [] bounds shape)
leaves_within bounds shape = None

-- the leaves of a variable of an item, where no rule is broken in its bounds and type
abbrev pub item_leaves : Around → ShownItem → Option (List Leaf)
item_leaves around item = leaves_within (sound_bounds item.bounds) (shape_of around item.part)

-- the kinds of a leaf's elements, in order
abbrev pub leaf_slots : Leaf → List Kind
leaf_slots leaf = replicate (elements leaf.bounds) leaf.kind

-- the kinds of a variable's slots, leaf by leaf
abbrev pub slots_of : List Leaf → List Kind
slots_of leaves = flat_map leaf_slots leaves
