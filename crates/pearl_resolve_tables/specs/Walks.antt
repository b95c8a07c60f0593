-- Walks over the leaves of a variable: where names are asked for, the name is made longer on the way down and cut off on
-- the way up.
use Rattle.std.specs.Prelude.{◌≡◌, ℕ, ◌+◌, ℤ, Bool, true, false, List, [], ◌∷◌, ◌++◌, length, reverse, Option, Some, None}
use Rattle.pearl_value.specs.declared.kind.Kind.{Kind}
use Rattle.pearl_names.specs.declared.types.Elements.{Elements}
use Rattle.pearl_names.specs.declared.types.StructForm.{StructForm}
use Rattle.pearl_names.specs.declared.types.TypeRef.{TypeRef}
use Rattle.pearl_names.specs.declared.types.TypeRef.TheVariants.{Struct}
use Rattle.pearl_names.specs.Forms.{StandsFor}
use Rattle.pearl_names.specs.Layout.{Leaf, leaves_of, leaves_of_fields, elements}
use Rattle.pearl_names.specs.Runs.{drop_fields}
use Rattle.pearl_names.specs.Shapes.{Shape, OfFields, Fields}
use Rattle.pearl_resolve_tables.specs.declared.walk.Frame.{Frame}
use Rattle.pearl_resolve_tables.specs.declared.walk.Found.{Found}
use Rattle.pearl_resolve_tables.specs.Laying.{slots, merged, path_name}

-- so many elements of a type, behind these names, have these leaves
pub record HasLeaves (forms : List StructForm) (part : TypeRef) (count : ℕ) (path : List (List ℕ)) (leaves : List Leaf) : Type 0 where
  pub shape : Shape
  pub bounds : List (ℤ × ℤ)
  pub stands : StandsFor forms part shape
  pub counted : count ≡ elements bounds
  pub is : leaves ≡ leaves_of path bounds shape

-- so many elements of a type have these leaves too, behind the same names where names are asked for
pub record ComesTo (forms : List StructForm) (asked : Bool) (end : Elements) (path : List (List ℕ)) (leaves : List Leaf) : Type 0 where
  pub behind : List (List ℕ)
  pub same : asked ≡ true → behind ≡ path
  pub has : HasLeaves forms end.part end.count behind leaves

-- these leaves are left of a STRUCT behind these names
pub record HasLeft (forms : List StructForm) (frame : Frame) (path : List (List ℕ)) (leaves : List Leaf) : Type 0 where
  pub fields : Fields
  pub bounds : List (ℤ × ℤ)
  pub stands : StandsFor forms (Struct frame.number) (OfFields fields)
  pub counted : frame.count ≡ elements bounds
  pub is : leaves ≡ leaves_of_fields path bounds (drop_fields frame.next fields)

-- a text begins with the name that these names lead to, which has so many bytes
pub record Begins (base : List ℕ) (bytes : ℕ) (path : List (List ℕ)) (text : List ℕ) : Type 0 where
  pub behind : List ℕ
  pub is : text ≡ path_name base path ++ behind
  pub long : bytes ≡ length (path_name base path)

-- these leaves of a variable are left of some STRUCTs, each within the next, where the name has come so far
abbrev pub LeftWithin : List StructForm → (asked : Bool) → (base : List ℕ) → List Frame → (text : List ℕ) → List Leaf → Type 0
LeftWithin forms asked base [] text leaves = leaves ≡ []
LeftWithin forms asked base (frame ∷ outer) text leaves =
    (path : List (List ℕ)) × (own : List Leaf) × (rest : List Leaf) × (asked ≡ true → Begins base frame.bytes path text) × HasLeft forms frame path own ×
    LeftWithin forms asked base outer (path_name base path) rest × (leaves ≡ own ++ rest)

-- the same, where the innermost STRUCT stands last
abbrev pub AllLeft : List StructForm → (asked : Bool) → (base : List ℕ) → List Frame → (text : List ℕ) → List Leaf → Type 0
AllLeft forms asked base frames text leaves = LeftWithin forms asked base (reverse frames) text leaves

-- a walk has come to this leaf
pub record IsFound (asked : Bool) (base : List ℕ) (found : Found) (text : List ℕ) (leaf : Leaf) : Type 0 where
  pub name : asked ≡ true → text ≡ path_name base leaf.path
  pub kind : found.kind ≡ leaf.kind
  pub count : found.count ≡ elements leaf.bounds

-- it has come to the first of these leaves, and the others are left
abbrev pub GoesOn : List StructForm → (asked : Bool) → (base : List ℕ) → Option Found → List Frame → (text : List ℕ) → List Leaf → Type 0
GoesOn forms asked base None frames text leaves = leaves ≡ []
GoesOn forms asked base (Some found) frames text leaves =
    (leaf : Leaf) × (rest : List Leaf) × IsFound asked base found text leaf × AllLeft forms asked base frames text rest × (leaves ≡ leaf ∷ rest)

-- a walk without names has gone past leaves with so many elements of one kind, which are the first of the merged ones,
-- and has come to those behind them
pub record PassesAlike (forms : List StructForm) (of : Kind) (many : ℕ) (next : Option Found) (frames : List Frame) (text : List ℕ) (leaves : List Leaf) : Type 0 where
  pub own : Leaf
  pub rest : List Leaf
  pub kind : of ≡ own.kind
  pub count : many ≡ elements own.bounds
  pub goes : GoesOn forms false [] next frames text rest
  pub merges : merged leaves ≡ own ∷ merged rest
  pub counted : slots leaves ≡ many + slots rest
