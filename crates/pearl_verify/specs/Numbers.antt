-- Which shapes have a number, so that two are the same where their numbers are, and what is kept of the shape before an instruction.
use Rattle.std.specs.Prelude.{◌≡◌, ℕ, ◌<◌, ◌≤◌, List, [], ◌∷◌, Option, Some, option_and_then, reverse}
use Rattle.std.specs.BTreeMap.{BTreeMap, get, btree_map_len}
use Rattle.pearl_value.specs.declared.kind.Kind.{Kind}
use Rattle.pearl_value.specs.declared.kind.Kind.TheVariants as kind
use Rattle.pearl_value.specs.declared.kind.CellKind.{CellKind}
use Rattle.pearl_value.specs.declared.kind.CellKind.TheVariants.{Plain, RefTo}
use Rattle.pearl_instructions.specs.Operands.{Shape}
use Rattle.pearl_verify.specs.declared.tree.Edge.{Edge}
use Rattle.pearl_verify.specs.declared.running.Running.{Running}
use Rattle.std.specs.declared.cmp.Ordering.{Ordering}
use Rattle.std.specs.Ordering.{nat_cmp, ordering_then}

abbrev pub Edges : Type 0
Edges = BTreeMap Edge ℕ

-- each kind has its sort and its length
abbrev pub sort_of : CellKind → ℕ
sort_of (Plain (kind.Fixed len)) = 0
sort_of (Plain (kind.Bits len)) = 1
sort_of (Plain (kind.Chars len)) = 2
sort_of (Plain kind.Clock) = 3
sort_of (Plain kind.Span) = 4
sort_of (RefTo (kind.Fixed len)) = 5
sort_of (RefTo (kind.Bits len)) = 6
sort_of (RefTo (kind.Chars len)) = 7
sort_of (RefTo kind.Clock) = 8
sort_of (RefTo kind.Span) = 9

abbrev pub length_in : Kind → ℕ
length_in (kind.Fixed len) = len
length_in (kind.Bits len) = len
length_in (kind.Chars len) = len
length_in kind.Clock = 0
length_in kind.Span = 0

abbrev pub length_of : CellKind → ℕ
length_of (Plain of) = length_in of
length_of (RefTo of) = length_in of

abbrev pub edge_on : ℕ → CellKind → Edge
edge_on below k = record { below = below; sort = sort_of k; length = length_of k }

-- the order of edges: by the shape below, then by the kind
abbrev pub order : Edge → Edge → Ordering
order x y = ordering_then (nat_cmp x.below y.below) (ordering_then (nat_cmp x.sort y.sort) (nat_cmp x.length y.length))

-- the number of the shape of this kind on top of the shape with that number
abbrev pub child : Edges → ℕ → CellKind → Option ℕ
child edges below k = get order edges (edge_on below k)

-- the number of a shape, whose top kind is the first one
abbrev pub number_of : Edges → Shape → Option ℕ
number_of edges [] = Some 0
number_of edges (k ∷ s) = option_and_then (λ below. child edges below k) (number_of edges s)

-- no two edges have one number, none has that of the empty shape, and each has a greater one than the shape below
pub record IsTree (edges : Edges) : Type 0 where
  pub some : (e : Edge) (n : ℕ) → get order edges e ≡ Some n → (0 < n) × (n ≤ btree_map_len edges)
  pub apart : (e f : Edge) (n : ℕ) → get order edges e ≡ Some n → get order edges f ≡ Some n → e ≡ f
  pub rises : (e : Edge) (n : ℕ) → get order edges e ≡ Some n → e.below < n

-- each number stays
abbrev pub Grows : Edges → Edges → Type 0
Grows old grown = (e : Edge) (n : ℕ) → get order old e ≡ Some n → get order grown e ≡ Some n

-- the numbers of a shape and of those below it, without that of the empty one
abbrev pub numbers_of : Edges → Shape → List (Option ℕ)
numbers_of edges [] = []
numbers_of edges (k ∷ s) = number_of edges (k ∷ s) ∷ numbers_of edges s

-- the numbers that are kept are those of the kinds
abbrev pub IsNumbered : Edges → Running → Type 0
IsNumbered edges running = reverse running.numbers.items ≡ numbers_of edges running.kinds
