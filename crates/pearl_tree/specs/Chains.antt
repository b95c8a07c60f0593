-- An expression as a chain: its operands outside brackets, and the dyadic operators between them.
use Rattle.std.specs.Prelude.{ℕ, ◌+◌, ◌≤◌, List, [], ◌∷◌, ◌++◌, length}
use Rattle.pearl_tree.specs.declared.expression.Dyadic.{Dyadic}
use Rattle.pearl_tree.specs.declared.expression.Expr.{Expr, Operand', Dyadic'}
use Rattle.pearl_tree.specs.declared.expression.Operand.{Operand}
use Rattle.pearl_tree.specs.declared.expression.Primary.{Primary}
use Rattle.pearl_tree.specs.declared.limit.TheConstants as limit
use Rattle.pearl_tree.specs.declared.token.Token.{Token}
use Rattle.pearl_tree.specs.Standing.{Spelling, IsAt, SpellsEach}
use Rattle.pearl_tree.specs.Expressions.{SpellsMonadic, SpellsPrimary, SpellsTerms, HasDyad, dyad_count}

-- operand = { + | - | ABS | SIGN | NOT } primary
abbrev pub SpellsOperand : List Token → ℕ → Spelling Operand
SpellsOperand tokens depth from operand to =
    (m : ℕ) × IsAt tokens from operand.place × (length operand.monadics.items.items ≤ limit.MONADS_MAX) ×
    SpellsEach (SpellsMonadic tokens) from operand.monadics.items.items m ×
    SpellsPrimary tokens depth m operand.primary to

-- a dyadic operator and the operand behind it
pub record Link : Type 0 where
  pub dyadic : Dyadic
  pub operand : Operand

abbrev pub SpellsLink : List Token → ℕ → Spelling Link
SpellsLink tokens depth from link to =
    HasDyad tokens from link.dyadic.operator × IsAt tokens from link.dyadic.place ×
    SpellsOperand tokens depth (from + 1) link.operand to

abbrev pub first_operand : Expr → Operand
first_operand (Operand' monadics part place) = record { monadics = monadics; primary = part; place = place }
first_operand (Dyadic' _ left _ _ _ _) = first_operand left

abbrev pub links : Expr → List Link
links (Operand' _ _ _) = []
links (Dyadic' _ left dyadic _ right _) =
    links left ++ (record { dyadic = dyadic; operand = first_operand right } ∷ links right)

-- no operand that begins there ends behind `to`
abbrev pub IsLongestOperand : List Token → ℕ → ℕ → ℕ → Type 0
IsLongestOperand tokens depth from to =
    (other : Operand) (end : ℕ) → SpellsOperand tokens depth from other end → end ≤ to

abbrev pub SpellsLongestLink : List Token → ℕ → Spelling Link
SpellsLongestLink tokens depth from link to =
    SpellsLink tokens depth from link to × IsLongestOperand tokens depth (from + 1) to

-- each operand outside brackets is the longest that begins where it does
abbrev pub HasLongestOperands : List Token → ℕ → Spelling Expr
HasLongestOperands tokens depth from expr to =
    (m : ℕ) × SpellsOperand tokens depth from (first_operand expr) m × IsLongestOperand tokens depth from m ×
    SpellsEach (SpellsLongestLink tokens depth) m (links expr) to

abbrev pub IsLongestPrimary : List Token → ℕ → ℕ → ℕ → Type 0
IsLongestPrimary tokens depth from to =
    (other : Primary) (end : ℕ) → SpellsPrimary tokens depth from other end → end ≤ to

abbrev pub HasNoPrimary : List Token → ℕ → ℕ → Type 0
HasNoPrimary tokens depth from = (part : Primary) (end : ℕ) → SpellsPrimary tokens depth from part end → ⊥

-- no dyadic operator with an operand behind it stands there
abbrev pub HasNoLink : List Token → ℕ → ℕ → Type 0
HasNoLink tokens depth at = (link : Link) (end : ℕ) → SpellsLink tokens depth at link end → ⊥

-- no operand begins there
abbrev pub HasNoOperand : List Token → ℕ → ℕ → Type 0
HasNoOperand tokens depth from = (operand : Operand) (end : ℕ) → SpellsOperand tokens depth from operand end → ⊥

-- no expression begins there
abbrev pub HasNoTerms : List Token → ℕ → ℕ → Type 0
HasNoTerms tokens depth from = (expr : Expr) (end : ℕ) → SpellsTerms tokens depth from expr end → ⊥

-- no expression with at most this many operators that begins there ends behind `to`
abbrev pub IsLongestExpr : List Token → ℕ → ℕ → ℕ → ℕ → Type 0
IsLongestExpr tokens depth most from to =
    (other : Expr) (end : ℕ) → SpellsTerms tokens depth from other end → dyad_count other ≤ most → end ≤ to
