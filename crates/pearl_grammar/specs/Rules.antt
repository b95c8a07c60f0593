-- A production of the grammar as data: its parts in order, and how each is joined to the others; and which tokens it
-- spells. A part is known by what it spells, so a part may be a production of its own.
use Rattle.std.specs.Prelude.{◌≡◌, ℕ, ◌+◌, Bool, List, Option, Some}
use Rattle.pearl_tree.specs.declared.token.What.{What}
use Rattle.pearl_tree.specs.declared.token.What.TheVariants as what
use Rattle.pearl_tree.specs.declared.token.Token.{Token}
use Rattle.pearl_tree.specs.Standing.{Spelling, what_at, IsAt, HasWord, SpellsEach, SpellsList, SpellsBracketed}
use Rattle.pearl_tree.specs.Standing.{SpellsMaybeBracketed, SpellsMaybeHeaded, SpellsMaybe, SpellsFlag, SpellsSymbolFlag}
use Rattle.pearl_tree.specs.Statements.{SpellsMaybeList}

-- one of two
pub data Choice (A B : Type 0) : Type 0 where
  First : (a : A) → Choice A B
  Second : (b : B) → Choice A B

pub data Part : Type 1 where
  -- one of this kind
  One : (X : Type 0) (spells : List Token → Spelling X) → Part
  -- [ word ]
  Flag : (word : ℕ) → Part
  -- [ symbol ]
  Sign : (symbol : ℕ) → Part
  -- [ part ]
  Maybe : (part : Part) → Part
  -- { part }
  Each : (part : Part) → Part
  -- part { "," part }
  Listed : (part : Part) → Part
  -- [ part { "," part } ]
  MaybeListed : (part : Part) → Part
  -- "(" part { "," part } ")"
  Bracketed : (part : Part) → Part
  -- [ "(" part { "," part } ")" ]
  MaybeBracketed : (part : Part) → Part
  -- [ word "(" part { "," part } ")" ]
  MaybeHeaded : (word : ℕ) (part : Part) → Part

pub data Rule : Type 1 where
  -- nothing more
  End : Rule
  -- the place of the token that stands there
  Mark : (rest : Rule) → Rule
  -- a token
  Behind : (token : What) (rest : Rule) → Rule
  -- a part
  Then : (part : Part) (rest : Rule) → Rule
  -- either rule
  Or : (first second : Rule) → Rule

-- what a tree holds of a part, where it is there
abbrev pub Value : Part → Type 0
Value (One X spells) = X
Value (Flag word) = Bool
Value (Sign symbol) = Bool
Value (Maybe part) = Option (Value part)
Value (Each part) = List (Value part)
Value (Listed part) = List (Value part)
Value (MaybeListed part) = List (Value part)
Value (Bracketed part) = List (Value part)
Value (MaybeBracketed part) = List (Value part)
Value (MaybeHeaded word part) = List (Value part)

-- the places and the parts of a rule
abbrev pub Held : Rule → Type 0
Held End = Unit {0}
Held (Mark rest) = ℕ × Held rest
Held (Behind token rest) = Held rest
Held (Then part rest) = Value part × Held rest
Held (Or first second) = Choice (Held first) (Held second)

abbrev pub SpellsPart : (part : Part) → List Token → ℕ → Value part → ℕ → Type 0
SpellsPart (One X spells) tokens from x to = spells tokens from x to
SpellsPart (Flag word) tokens from x to = SpellsFlag tokens word from x to
SpellsPart (Sign symbol) tokens from x to = SpellsSymbolFlag tokens symbol from x to
SpellsPart (Maybe part) tokens from x to = SpellsMaybe (SpellsPart part tokens) from x to
SpellsPart (Each part) tokens from x to = SpellsEach (SpellsPart part tokens) from x to
SpellsPart (Listed part) tokens from x to = SpellsList tokens (SpellsPart part tokens) from x to
SpellsPart (MaybeListed part) tokens from x to = SpellsMaybeList tokens (SpellsPart part tokens) from x to
SpellsPart (Bracketed part) tokens from x to = SpellsBracketed tokens (SpellsPart part tokens) from x to
SpellsPart (MaybeBracketed part) tokens from x to = SpellsMaybeBracketed tokens (SpellsPart part tokens) from x to
SpellsPart (MaybeHeaded word part) tokens from x to = SpellsMaybeHeaded tokens word (SpellsPart part tokens) from x to

abbrev pub Spells : (rule : Rule) → List Token → ℕ → Held rule → ℕ → Type 0
Spells End tokens from x to = to ≡ from
Spells (Mark rest) tokens from x to = IsAt tokens from x.0 × Spells rest tokens from x.1 to
Spells (Behind token rest) tokens from x to = (what_at tokens from ≡ Some token) × Spells rest tokens (from + 1) x to
Spells (Then part rest) tokens from x to = (m : ℕ) × SpellsPart part tokens from x.0 m × Spells rest tokens m x.1 to
Spells (Or first second) tokens from (First x) to = Spells first tokens from x to
Spells (Or first second) tokens from (Second x) to = Spells second tokens from x to

abbrev pub word : ℕ → Rule → Rule
word code rest = Behind (what.Word code) rest

abbrev pub symbol : ℕ → Rule → Rule
symbol code rest = Behind (what.Symbol code) rest

-- one of several words
abbrev pub SpellsOneWord : {X : Type 0} → (X → ℕ) → List Token → Spelling X
SpellsOneWord code tokens from x to = HasWord tokens from (code x) × (to ≡ from + 1)
