-- What an expression says, apart from where its parts lie in memory. Two trees say the same where these are equal.
use Rattle.std.specs.Prelude.{ℕ, List, [], ◌∷◌, Option}
use Rattle.pearl_tree.specs.declared.name.Name.{Name}
use Rattle.pearl_tree.specs.declared.name.Number.{Number}
use Rattle.pearl_tree.specs.declared.expression.Monadic.{Monadic}
use Rattle.pearl_tree.specs.declared.expression.Dyadic.{Dyadic}
use Rattle.pearl_tree.specs.declared.expression.Side.{Side}
use Rattle.pearl_tree.specs.declared.expression.Expr.{Expr, Operand', Dyadic'}
use Rattle.pearl_tree.specs.declared.expression.Primary.{Primary}
use Rattle.pearl_tree.specs.declared.expression.Primary as primary
use Rattle.pearl_tree.specs.declared.expression.Selector.{Selector, Subscripts', Component, Row_of-Expr, end_of-Expr, more_of-Expr}
use Rattle.pearl_tree.specs.declared.expression.Ref.{Ref, Row_of-Selector, end_of-Selector, more_of-Selector}
use Rattle.pearl_tree.specs.ShownLiterals.{ShownLiteral, shown_literal}

mutual
  pub data ShownExpr : Type 0 where
    OfOperand : (monadics : List Monadic) (part : ShownPrimary) (place : ℕ) → ShownExpr
    OfDyadic : (left : ShownExpr) (dyadic : Dyadic) (right : ShownExpr) (place : ℕ) → ShownExpr

  pub data ShownPrimary : Type 0 where
    OfLiteral : (part : ShownLiteral) → ShownPrimary
    OfRef : (name : Name) (selectors : ShownSelectors) (place : ℕ) → ShownPrimary
    OfGroup : (inner : ShownExpr) (place : ℕ) → ShownPrimary
    OfNow : (place : ℕ) → ShownPrimary
    OfTry : (name : Name) (place : ℕ) → ShownPrimary
    OfLimit : (dimension : Option Number) (side : Side) (name : Name) (selectors : ShownSelectors) (ref_place place : ℕ) → ShownPrimary

  pub data ShownSelectors : Type 0 where
    NoSelectors : ShownSelectors
    MoreSelectors : (selector : ShownSelector) (rest : ShownSelectors) → ShownSelectors

  pub data ShownSelector : Type 0 where
    OfSubscripts : (subscripts : ShownExprs) (place : ℕ) → ShownSelector
    OfComponent : (name : Name) (place : ℕ) → ShownSelector

  pub data ShownExprs : Type 0 where
    NoExprs : ShownExprs
    MoreExprs : (expr : ShownExpr) (rest : ShownExprs) → ShownExprs

abbrev mutual
  pub shown_expr : Expr → ShownExpr
  shown_expr (Operand' monadics part place) = OfOperand monadics.items.items (shown_primary part) place
  shown_expr (Dyadic' _ left dyadic _ right place) = OfDyadic (shown_expr left) dyadic (shown_expr right) place

  pub shown_primary : Primary → ShownPrimary
  shown_primary (primary.Literal part) = OfLiteral (shown_literal part)
  shown_primary (primary.Ref' name _ selectors place) = OfRef name (shown_selectors selectors) place
  shown_primary (primary.Group' _ inner place) = OfGroup (shown_expr inner) place
  shown_primary (primary.Now place) = OfNow place
  shown_primary (primary.Try name place) = OfTry name place
  shown_primary (primary.Limit' dimension side _ name _ selectors ref_place place) =
      OfLimit dimension side name (shown_selectors selectors) ref_place place

  pub shown_selectors : {n : _} → Row_of-Selector n → ShownSelectors
  shown_selectors end_of-Selector = NoSelectors
  shown_selectors (more_of-Selector selector rest) = MoreSelectors (shown_selector selector) (shown_selectors rest)

  pub shown_selector : Selector → ShownSelector
  shown_selector (Subscripts' _ subscripts place) = OfSubscripts (shown_exprs subscripts) place
  shown_selector (Component name place) = OfComponent name place

  pub shown_exprs : {n : _} → Row_of-Expr n → ShownExprs
  shown_exprs end_of-Expr = NoExprs
  shown_exprs (more_of-Expr expr rest) = MoreExprs (shown_expr expr) (shown_exprs rest)

-- the same over lists
abbrev pub shown_selector_list : List Selector → ShownSelectors
shown_selector_list [] = NoSelectors
shown_selector_list (selector ∷ rest) = MoreSelectors (shown_selector selector) (shown_selector_list rest)

abbrev pub shown_expr_list : List Expr → ShownExprs
shown_expr_list [] = NoExprs
shown_expr_list (expr ∷ rest) = MoreExprs (shown_expr expr) (shown_expr_list rest)

pub record ShownRef : Type 0 where
  pub name : Name
  pub selectors : ShownSelectors
  pub place : ℕ

abbrev pub shown_ref : Ref → ShownRef
shown_ref reference =
    record { name = reference.name; selectors = shown_selector_list reference.selectors.items.items; place = reference.place }
