-- The tokens of what an expression says, and that they are those of the expression.
use Rattle.std.proofs.Common.{◌≡◌, List, [], ◌∷◌, ◌++◌, refl}
use Rattle.std.specs.List.{flat_map}
use Rattle.pearl_tree.specs.declared.expression.Expr.{Expr, Operand', Dyadic'}
use Rattle.pearl_tree.specs.declared.expression.Primary.{Primary}
use Rattle.pearl_tree.specs.declared.expression.Primary as primary
use Rattle.pearl_tree.specs.declared.expression.Selector.{Selector, Subscripts', Component, Row_of-Expr, end_of-Expr, more_of-Expr}
use Rattle.pearl_tree.specs.declared.expression.Ref.{Ref, Row_of-Selector, end_of-Selector, more_of-Selector}
use Rattle.pearl_tree.specs.declared.token.What.{What}
use Rattle.pearl_tree.specs.Expressions.{side_word}
use Rattle.pearl_tree.specs.ShownExpressions.{ShownExpr, OfOperand, OfDyadic, ShownPrimary, OfLiteral, OfRef, OfGroup, OfNow, OfTry, OfLimit, ShownSelectors, NoSelectors, MoreSelectors, ShownSelector, OfSubscripts, OfComponent, ShownExprs, NoExprs, MoreExprs, shown_expr, shown_primary, shown_selectors, shown_selector, shown_exprs, shown_selector_list, ShownRef, shown_ref}
use Rattle.pearl_tree.specs.declared.symbol.TheConstants as s
use Rattle.pearl_tree.specs.declared.word_code.TheConstants as w
use Rattle.pearl_print.specs.Lists.{word, symbol, name_tokens, number_tokens, maybe}
use Rattle.pearl_print.specs.Expressions.{literal_tokens, monadic_tokens, dyadic_tokens, expr_tokens, primary_tokens, selectors_tokens, selector_tokens, subscripts_tokens, more_subscripts_tokens, ref_tokens}

abbrev mutual
  pub said_expr : ShownExpr → List What
  said_expr (OfOperand monadics part place) = flat_map monadic_tokens monadics ++ said_primary part
  said_expr (OfDyadic left dyadic right place) = said_expr left ++ dyadic_tokens dyadic ++ said_expr right

  pub said_primary : ShownPrimary → List What
  said_primary (OfLiteral part) = literal_tokens part
  said_primary (OfRef name selectors place) = name_tokens name ++ said_selectors selectors
  said_primary (OfGroup inner place) = symbol s.LEFT_ROUND ++ said_expr inner ++ symbol s.RIGHT_ROUND
  said_primary (OfNow place) = word w.NOW
  said_primary (OfTry name place) = word w.TRY ++ name_tokens name
  said_primary (OfLimit dimension side name selectors ref_place place) =
      maybe number_tokens dimension ++ word (side_word side) ++ (name_tokens name ++ said_selectors selectors)

  pub said_selectors : ShownSelectors → List What
  said_selectors NoSelectors = []
  said_selectors (MoreSelectors selector rest) = said_selector selector ++ said_selectors rest

  pub said_selector : ShownSelector → List What
  said_selector (OfSubscripts subscripts place) = symbol s.LEFT_ROUND ++ said_subscripts subscripts ++ symbol s.RIGHT_ROUND
  said_selector (OfComponent name place) = symbol s.PERIOD ++ name_tokens name

  pub said_subscripts : ShownExprs → List What
  said_subscripts NoExprs = []
  said_subscripts (MoreExprs first rest) = said_expr first ++ more_said_subscripts rest

  pub more_said_subscripts : ShownExprs → List What
  more_said_subscripts NoExprs = []
  more_said_subscripts (MoreExprs next rest) = (symbol s.COMMA ++ said_expr next) ++ more_said_subscripts rest

abbrev pub said_ref : ShownRef → List What
said_ref reference = name_tokens reference.name ++ said_selectors reference.selectors

mutual
  pub expr_same : (expr : Expr) → said_expr (shown_expr expr) ≡ expr_tokens expr
  expr_same (Operand' monadics part place) = λ i. flat_map monadic_tokens monadics.items.items ++ primary_same part i
  expr_same (Dyadic' _ left dyadic _ right place) = λ i. expr_same left i ++ dyadic_tokens dyadic ++ expr_same right i

  primary_same : (part : Primary) → said_primary (shown_primary part) ≡ primary_tokens part
  primary_same (primary.Literal part) = refl
  primary_same (primary.Ref' name _ selectors place) = λ i. name_tokens name ++ selectors_same _ selectors i
  primary_same (primary.Group' _ inner place) = λ i. symbol s.LEFT_ROUND ++ expr_same inner i ++ symbol s.RIGHT_ROUND
  primary_same (primary.Now place) = refl
  primary_same (primary.Try name place) = refl
  primary_same (primary.Limit' dimension side _ name _ selectors ref_place place) =
      λ i. maybe number_tokens dimension ++ word (side_word side) ++ (name_tokens name ++ selectors_same _ selectors i)

  selectors_same : (n : _) (row : Row_of-Selector n) → said_selectors (shown_selectors row) ≡ selectors_tokens row
  selectors_same _ end_of-Selector = refl
  selectors_same _ (more_of-Selector selector rest) = λ i. selector_same selector i ++ selectors_same _ rest i

  selector_same : (selector : Selector) → said_selector (shown_selector selector) ≡ selector_tokens selector
  selector_same (Subscripts' _ subscripts place) = λ i. symbol s.LEFT_ROUND ++ subscripts_same _ subscripts i ++ symbol s.RIGHT_ROUND
  selector_same (Component name place) = refl

  subscripts_same : (n : _) (row : Row_of-Expr n) → said_subscripts (shown_exprs row) ≡ subscripts_tokens row
  subscripts_same _ end_of-Expr = refl
  subscripts_same _ (more_of-Expr expr rest) = λ i. expr_same expr i ++ more_subscripts_same _ rest i

  more_subscripts_same : (n : _) (row : Row_of-Expr n) → more_said_subscripts (shown_exprs row) ≡ more_subscripts_tokens row
  more_subscripts_same _ end_of-Expr = refl
  more_subscripts_same _ (more_of-Expr expr rest) = λ i. (symbol s.COMMA ++ expr_same expr i) ++ more_subscripts_same _ rest i

selector_list_same : (xs : List Selector) → said_selectors (shown_selector_list xs) ≡ flat_map selector_tokens xs
selector_list_same [] = refl
selector_list_same (x ∷ xs) = λ i. selector_same x i ++ selector_list_same xs i

pub ref_same : (reference : Ref) → said_ref (shown_ref reference) ≡ ref_tokens reference
ref_same reference = λ i. name_tokens reference.name ++ selector_list_same reference.selectors.items.items i
