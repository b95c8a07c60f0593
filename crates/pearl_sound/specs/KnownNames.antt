-- When all names and literals of an expression are known: each name has a sense with no rule broken in it, and each literal
-- a kind.
use Rattle.std.specs.Prelude.{◌≡◌, Option, Some, None}
use Rattle.std.specs.List.{AllByRecursion}
use Rattle.pearl_value.specs.declared.kind.Kind.{Kind}
use Rattle.pearl_tree.specs.declared.name.Name.{Name}
use Rattle.pearl_tree.specs.Names.{name_text}
use Rattle.pearl_tree.specs.ShownExpressions.{ShownExpr, OfOperand, OfDyadic, ShownPrimary, OfLiteral, OfRef, OfGroup, OfNow, OfTry, OfLimit, ShownSelectors, NoSelectors, MoreSelectors, ShownSelector, OfSubscripts, OfComponent, ShownExprs, NoExprs, MoreExprs}
use Rattle.pearl_names.specs.declared.scope.View.{View}
use Rattle.pearl_names.specs.Tables.{Parameter, Sense, Variable, OwnParameter, BasicDation, Procedure, Table, sense_from}
use Rattle.pearl_check_expr.specs.Literals.{literal_kind}

abbrev pub IsThereIn : {X : Type 0} → Option X → Type 0
IsThereIn {X} found = (x : X) × (found ≡ Some x)

abbrev pub HasKnownResult : Option (Option Kind) → Type 0
HasKnownResult None = Unit {0}
HasKnownResult (Some result) = IsThereIn result

-- its form or kinds are there
abbrev pub IsComplete : Sense → Type 0
IsComplete (Variable form inv) = IsThereIn form
IsComplete (OwnParameter parameter) = IsThereIn parameter.kind
IsComplete (BasicDation direction kind) = IsThereIn kind
IsComplete (Procedure parameters result) =
    AllByRecursion (λ (parameter : Parameter). IsThereIn parameter.kind) parameters × HasKnownResult result
IsComplete sense = Unit {0}

abbrev pub IsNamed : Table → View → Name → Type 0
IsNamed table view name = (sense : Sense) × (sense_from table view (name_text name) ≡ Some sense) × IsComplete sense

abbrev mutual
  pub HasNames : Table → View → ShownExpr → Type 0
  HasNames table view (OfOperand monadics part place) = PrimaryHasNames table view part
  HasNames table view (OfDyadic left dyadic right place) = HasNames table view left × HasNames table view right

  pub PrimaryHasNames : Table → View → ShownPrimary → Type 0
  PrimaryHasNames table view (OfLiteral part) = IsThereIn (literal_kind table.lengths part)
  PrimaryHasNames table view (OfRef name selectors place) = IsNamed table view name × SelectorsHaveNames table view selectors
  PrimaryHasNames table view (OfGroup inner place) = HasNames table view inner
  PrimaryHasNames table view (OfNow place) = Unit {0}
  PrimaryHasNames table view (OfTry name place) = IsNamed table view name
  PrimaryHasNames table view (OfLimit dimension side name selectors ref_place place) =
      IsNamed table view name × SelectorsHaveNames table view selectors

  pub SelectorsHaveNames : Table → View → ShownSelectors → Type 0
  SelectorsHaveNames table view NoSelectors = Unit {0}
  SelectorsHaveNames table view (MoreSelectors selector rest) =
      SelectorHasNames table view selector × SelectorsHaveNames table view rest

  pub SelectorHasNames : Table → View → ShownSelector → Type 0
  SelectorHasNames table view (OfSubscripts exprs place) = HaveNames table view exprs
  SelectorHasNames table view (OfComponent name place) = Unit {0}

  pub HaveNames : Table → View → ShownExprs → Type 0
  HaveNames table view NoExprs = Unit {0}
  HaveNames table view (MoreExprs e rest) = HasNames table view e × HaveNames table view rest
