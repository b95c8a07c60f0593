-- Which counts a type has, cut off at a limit: its leaves and slots, and the most that a leaf has of dimensions,
-- elements and bytes in the names of its fields.
use Rattle.std.specs.Prelude.{ℕ, zero, suc, ◌+◌, ◌*◌, ◌^◌, min, max, Bool, ◌&&◌, nat_le, List, [], ◌∷◌, length}
use Rattle.std.specs.List.{sum_by}
use Rattle.pearl_names.specs.Shapes.{Shape}
use Rattle.pearl_names.specs.Layout.{Leaf, leaves_of, elements, slots_of}
use Rattle.pearl_names.specs.declared.types.Counts.{Counts}

abbrev pub cut : ℕ → ℕ
cut n = min n (2 ^ 31)

abbrev pub joined : Counts → Counts → Counts
joined a b = record {
  leaves = cut (a.leaves + b.leaves);
  slots = cut (a.slots + b.slots);
  dimensions = max a.dimensions b.dimensions;
  greatest = max a.greatest b.greatest;
  longest = max a.longest b.longest;
}

abbrev pub within : ℕ → ℕ → Counts → Counts
within dimensions count part = by part.leaves
  where
    by : ℕ → Counts
    by zero = part
    by (suc n) = record {
      leaves = part.leaves;
      slots = cut (count * part.slots);
      dimensions = cut (dimensions + part.dimensions);
      greatest = cut (count * part.greatest);
      longest = part.longest;
    }

-- a part whose leaves stand behind names of so many bytes
abbrev pub behind_name : ℕ → Counts → Counts
behind_name bytes part = by part.leaves
  where
    by : ℕ → Counts
    by zero = part
    by (suc n) = record part { longest = cut (bytes + part.longest) }

-- the greatest of what the leaves have
abbrev pub most : (Leaf → ℕ) → List Leaf → ℕ
most f [] = 0
most f (leaf ∷ rest) = max (f leaf) (most f rest)

abbrev pub dimensions_of : Leaf → ℕ
dimensions_of leaf = length leaf.bounds

abbrev pub elements_of : Leaf → ℕ
elements_of leaf = elements leaf.bounds

-- the bytes in the names of some fields, with a point before each
abbrev pub path_bytes : List (List ℕ) → ℕ
path_bytes path = sum_by (λ field. 1 + length field) path

abbrev pub bytes_behind : Leaf → ℕ
bytes_behind leaf = path_bytes leaf.path

unfoldable pub counts : List Leaf → Counts
counts leaves = record {
  leaves = cut (length leaves);
  slots = cut (length (slots_of leaves));
  dimensions = cut (most dimensions_of leaves);
  greatest = cut (most elements_of leaves);
  longest = cut (most bytes_behind leaves);
}

-- the counts of a type that is written out
abbrev pub counts_of : Shape → Counts
counts_of shape = counts (leaves_of [] [] shape)

-- at most three dimensions and 65,536 elements
abbrev pub has_sound_leaves : Counts → Bool
has_sound_leaves part = nat_le part.dimensions 3 && nat_le part.greatest 65536
