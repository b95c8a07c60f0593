-- What the tables of the language have.
use Rattle.std.specs.Prelude.{◌≡◌, ◌↔◌, ◌⊎◌, ℕ, List, Contains, Any, IsSome}
use Rattle.pearl_value.specs.declared.kind.Kind.{Kind}
use Rattle.pearl_value.specs.declared.operator.Monad.{Monad}
use Rattle.pearl_value.specs.declared.operator.Dyad.{Dyad}
use Rattle.pearl_value.specs.Rows.{row1, row2}
use Rattle.pearl_tree.specs.declared.family.TheConstants.{ABSENT}
use Rattle.pearl_tree.specs.declared.operator.OpRow.{OpRow}
use Rattle.pearl_tree.specs.Operators.{IsRow, HasKey, family_of, monad_code, dyad_code, IsTooLong}

-- the rows are those of the operators with the kinds that they take, their lengths left out, and no others
abbrev pub AreTheOperators : List OpRow → Type 0
AreTheOperators rows = (row : OpRow) → Contains rows row ↔ IsRow row

-- an operator and the families of its operands have at most one row
abbrev pub HaveOneRowEach : List OpRow → Type 0
HaveOneRowEach rows = (code left right : ℕ) (a b : OpRow) →
    Contains rows a → HasKey a code left right → Contains rows b → HasKey b code left right → a ≡ b

-- there is a row for an operator and the family of a kind exactly where the operator takes this kind
abbrev pub HaveTheKinds : List OpRow → Type 0
HaveTheKinds rows = (op : Monad) (x : Kind) →
    Any (λ row. HasKey row (monad_code op) ABSENT (family_of x)) rows ↔ IsSome (row1 op x)

-- there is a row for an operator and the families of two kinds exactly where the operator takes these kinds, or would if
-- what it joins were shorter
abbrev pub HaveBothKinds : List OpRow → Type 0
HaveBothKinds rows = (op : Dyad) (x y : Kind) →
    Any (λ row. HasKey row (dyad_code op) (family_of x) (family_of y)) rows ↔ (IsSome (row2 op x y) ⊎ IsTooLong op x y)
