-- Expressions and references stand at the tokens that printing gives them.
use Rattle.std.proofs.Common.{◌≡◌, ℕ, ◌+◌, ◌-◌, ◌≤◌, ◌<◌, List, [], ◌∷◌, ◌++◌, map, Some, refl, sym, subst, ap, ◌∙◌}
use Rattle.std.specs.List.{flat_map}
use Rattle.std.specs.Option.{option_and_then}
use Rattle.pearl_value.specs.declared.operator.Dyad.{Dyad}
use Rattle.pearl_value.specs.declared.operator.Dyad.TheVariants as dyad
use Rattle.pearl_tree.specs.declared.expression.Expr.{Expr, Operand', Dyadic'}
use Rattle.pearl_tree.specs.declared.expression.Primary.{Primary}
use Rattle.pearl_tree.specs.declared.expression.Primary as primary
use Rattle.pearl_tree.specs.declared.expression.Selector.{Selector, Subscripts', Component, Row_of-Expr, end_of-Expr, more_of-Expr}
use Rattle.pearl_tree.specs.declared.expression.Ref.{Row_of-Selector, end_of-Selector, more_of-Selector}
use Rattle.pearl_tree.specs.declared.token.What.TheVariants as what
use Rattle.pearl_tree.specs.declared.token.Token.{Token}
use Rattle.pearl_tree.specs.Standing.{what_at}
use Rattle.pearl_tree.specs.Expressions.{SpellsMonadic, HasDyad, dyad_of, rank, rank_of, dyad_count, side_word, SpellsTerms, SpellsPrimary, SpellsSelectors, SpellsSelector, SpellsSubscripts, SpellsMoreSubscripts, SpellsWhole, SpellsOwnRef}
use Rattle.pearl_tree.specs.ShownExpressions.{ShownExpr, OfOperand, OfDyadic, OfLiteral, OfRef, OfGroup, OfLimit, ShownSelectors, NoSelectors, MoreSelectors, ShownSelector, OfSubscripts, MoreExprs, shown_expr, shown_primary, shown_selectors, shown_selector, shown_exprs, shown_selector_list, shown_ref}
use Rattle.pearl_tree.specs.declared.symbol.TheConstants as s
use Rattle.pearl_print.specs.Lists.{symbol, name_tokens, number_tokens, maybe}
use Rattle.pearl_print.specs.Expressions.{monadic_tokens, dyad_what, expr_tokens, primary_tokens, selectors_tokens, selector_tokens, subscripts_tokens, more_subscripts_tokens, ref_tokens}
use Rattle.pearl_print.specs.Plain.{plain_name, plain_monadic, plain_expr, plain_primary, plain_selectors, plain_selector, plain_exprs, plain_ref}
use Rattle.pearl_print.proofs.TokenRanges.{place_of, here, starts, HasTokens, cut, cut_token, plus_two}
use Rattle.pearl_print.proofs.PlainLists.{Placed, Places, same_length, in_parts, each_at, maybe_at, number_places}
use Rattle.pearl_print.proofs.PlainLiterals.{literal_places}

read_back : (operator : Dyad) → dyad_of (dyad_what operator) ≡ Some operator
read_back dyad.Pow = refl
read_back dyad.Mul = refl
read_back dyad.Div = refl
read_back dyad.Rem = refl
read_back dyad.Cat = refl
read_back dyad.Add = refl
read_back dyad.Sub = refl
read_back dyad.Cshift = refl
read_back dyad.Shift = refl
read_back dyad.Lt = refl
read_back dyad.Gt = refl
read_back dyad.Le = refl
read_back dyad.Ge = refl
read_back dyad.Eq = refl
read_back dyad.Ne = refl
read_back dyad.And = refl
read_back dyad.Or = refl
read_back dyad.Exor = refl

has_dyad : (tokens : List Token) (k : ℕ) (operator : Dyad) → what_at tokens k ≡ Some (dyad_what operator) → HasDyad tokens k operator
has_dyad tokens k operator e = ap (option_and_then dyad_of) e ∙ read_back operator

-- ranks and counts are seen without places
abbrev shown_rank : ShownExpr → ℕ
shown_rank (OfOperand _ _ _) = 0
shown_rank (OfDyadic _ dyadic _ _) = rank dyadic.operator

abbrev shown_count : ShownExpr → ℕ
shown_count (OfOperand _ _ _) = 0
shown_count (OfDyadic left _ right _) = shown_count left + shown_count right + 1

rank_seen : (expr : Expr) → rank_of expr ≡ shown_rank (plain_expr (shown_expr expr))
rank_seen (Operand' monadics part place) = refl
rank_seen (Dyadic' _ left dyadic _ right place) = refl

count_seen : (expr : Expr) → dyad_count expr ≡ shown_count (plain_expr (shown_expr expr))
count_seen (Operand' monadics part place) = refl
count_seen (Dyadic' _ left dyadic _ right place) = λ i. count_seen left i + count_seen right i + 1

same_rank : (copy expr : Expr) → plain_expr (shown_expr copy) ≡ plain_expr (shown_expr expr) → rank_of expr ≡ rank_of copy
same_rank copy expr same = rank_seen expr ∙ sym (ap shown_rank same) ∙ sym (rank_seen copy)

same_count : (copy expr : Expr) → plain_expr (shown_expr copy) ≡ plain_expr (shown_expr expr) → dyad_count expr ≡ dyad_count copy
same_count copy expr same = count_seen expr ∙ sym (ap shown_count same) ∙ sym (count_seen copy)

-- a list of selectors as the row of what they show
abbrev row_of : List ShownSelector → ShownSelectors
row_of [] = NoSelectors
row_of (selector ∷ rest) = MoreSelectors selector (row_of rest)

row_seen : (selectors : List Selector) → plain_selectors (shown_selector_list selectors) ≡ row_of (map (λ selector. plain_selector (shown_selector selector)) selectors)
row_seen [] = refl
row_seen (selector ∷ rest) = ap (λ row. MoreSelectors (plain_selector (shown_selector selector)) row) (row_seen rest)

module _ (before tokens : List Token) where
  monadic_places : Places tokens (SpellsMonadic before) (SpellsMonadic tokens) monadic_tokens plain_monadic
  monadic_places = record {
    at = λ a part b h from to g. record {
      copy = record { operator = part.operator; place = place_of tokens from };
      spelled = (g.0, here tokens from _ g.0, g.1.0);
      same = refl;
    };
  }

  mutual
    terms_at : (depth a : ℕ) (expr : Expr) (b : ℕ) → SpellsTerms before depth a expr b → (from to : ℕ) → HasTokens tokens from (expr_tokens expr) to →
        Placed (SpellsTerms tokens depth) (λ expr. plain_expr (shown_expr expr)) from expr to
    terms_at depth a (Operand' monadics part place) b h from to g =
        let p = cut tokens from (flat_map monadic_tokens monadics.items.items) (primary_tokens part) to g in
        let first = in_parts from monadics p.0
        (each_at before tokens monadic_places monadics.items.items a h.0 h.3 from p.0 p.1) in
        let few = subst (λ n. n ≤ 8) (sym (same_length plain_monadic first.copy.items.items monadics.items.items first.same)) h.2 in
        let second = primary_at depth h.0 part b h.4 p.0 to p.2 in
        record {
          copy = Operand' first.copy second.copy (place_of tokens from);
          spelled = (p.0, starts tokens from _ to g, few, first.spelled, second.spelled);
          same = λ i. OfOperand (first.same i) (second.same i) 0;
        }
    terms_at depth a (Dyadic' q left dyadic r right place) b h from to g =
        let p = cut_token tokens from (expr_tokens left) (dyad_what dyadic.operator) (expr_tokens right) to g in
        let first = terms_at depth a left h.0 h.2 from p.0 p.1 in
        let second = terms_at depth (h.0 + 1) right b h.5 (p.0 + 1) to p.3 in
        let operator = dyadic.operator in
        record {
          copy = Dyadic' q first.copy (record { operator = operator; place = place_of tokens p.0 }) r second.copy (place_of tokens from);
          spelled = (
            p.0,
            starts tokens from _ to g,
            first.spelled,
            has_dyad tokens p.0 operator p.2,
            here tokens p.0 _ p.2,
            second.spelled,
            subst (λ n. n ≤ rank operator) (same_rank first.copy left first.same) h.6,
            subst (λ n. n < rank operator) (same_rank second.copy right second.same) h.7,
          );
          same = λ i. OfDyadic (first.same i) (record { operator = operator; place = 0 }) (second.same i) 0;
        }

    primary_at : (depth a : ℕ) (part : Primary) (b : ℕ) → SpellsPrimary before depth a part b → (from to : ℕ) → HasTokens tokens from (primary_tokens part) to →
        Placed (SpellsPrimary tokens depth) (λ part. plain_primary (shown_primary part)) from part to
    primary_at depth a (primary.Literal part) b h from to g =
        let p = (literal_places before tokens).at a part b h from to g in
        record { copy = primary.Literal p.copy; spelled = p.spelled; same = ap OfLiteral p.same }
    primary_at depth a (primary.Ref' name shape selectors place) b h from to g =
        let inner = selectors_at depth (a + 1) _ selectors b h.2 (from + 1) to g.1 in
        record {
          copy = primary.Ref' (record { text = name.text; place = place_of tokens from }) shape inner.copy (place_of tokens from);
          spelled = (here tokens from _ g.0, (g.0, here tokens from _ g.0), inner.spelled);
          same = ap (λ selectors. OfRef (plain_name name) selectors 0) inner.same;
        }
    primary_at depth a (primary.Group' q inner place) b h from to g =
        let p = cut tokens (from + 1) (expr_tokens inner) (symbol s.RIGHT_ROUND) to g.1 in
        let part = terms_at (depth - 1) (a + 1) inner h.0 h.4.0 (from + 1) p.0 p.1 in
        let few = subst (λ n. n ≤ 100) (same_count part.copy inner part.same) h.4.1 in
        record {
          copy = primary.Group' q part.copy (place_of tokens from);
          spelled = (p.0, here tokens from _ g.0, g.0, h.3, (part.spelled, few), p.2.0, p.2.1.0);
          same = ap (λ inner. OfGroup inner 0) part.same;
        }
    primary_at depth a (primary.Now place) b h from to g =
        record { copy = primary.Now (place_of tokens from); spelled = (here tokens from _ g.0, g.0, g.1.0); same = refl }
    primary_at depth a (primary.Try name place) b h from to g = record {
      copy = primary.Try (record { text = name.text; place = place_of tokens (from + 1) }) (place_of tokens from);
      spelled = (here tokens from _ g.0, g.0, (g.1.0, here tokens (from + 1) _ g.1.0), plus_two (λ k. to ≡ k) from g.1.1.0);
      same = refl;
    }
    primary_at depth a (primary.Limit' dimension side ptr name shape selectors ref_place place) b h from to g =
        let p = cut_token tokens from (maybe number_tokens dimension) (what.Word (side_word side)) (name_tokens name ++ selectors_tokens selectors) to g in
        let k = p.0 + 1 in
        let first = maybe_at before tokens (number_places before tokens) dimension a h.0 h.2 from p.0 p.1 in
        let inner = selectors_at depth (h.0 + 1 + 1) _ selectors b h.4.2 (k + 1) to p.3.1 in
        record {
          copy = primary.Limit' first.copy side ptr (record { text = name.text; place = place_of tokens k }) shape inner.copy (place_of tokens k) (place_of tokens from);
          spelled = (p.0, starts tokens from _ to g, first.spelled, p.2, (here tokens k _ p.3.0, (p.3.0, here tokens k _ p.3.0), inner.spelled));
          same = λ i. OfLimit (first.same i) side (plain_name name) (inner.same i) 0 0;
        }

    selectors_at : (depth a : ℕ) (n : _) (row : Row_of-Selector n) (b : ℕ) → SpellsSelectors before depth a row b → (from to : ℕ) → HasTokens tokens from (selectors_tokens row) to →
        Placed (λ from (row : Row_of-Selector n) to. SpellsSelectors tokens depth from row to) (λ (row : Row_of-Selector n). plain_selectors (shown_selectors row)) from row to
    selectors_at depth a _ end_of-Selector b h from to g = record { copy = end_of-Selector; spelled = g.0; same = refl }
    selectors_at depth a _ (more_of-Selector selector rest) b h from to g =
        let p = cut tokens from (selector_tokens selector) (selectors_tokens rest) to g in
        let first = selector_at depth a selector h.0 h.1 from p.0 p.1 in
        let others = selectors_at depth h.0 _ rest b h.2 p.0 to p.2 in
        record {
          copy = more_of-Selector first.copy others.copy;
          spelled = (p.0, first.spelled, others.spelled);
          same = λ i. MoreSelectors (first.same i) (others.same i);
        }

    selector_at : (depth a : ℕ) (selector : Selector) (b : ℕ) → SpellsSelector before depth a selector b → (from to : ℕ) → HasTokens tokens from (selector_tokens selector) to →
        Placed (SpellsSelector tokens depth) (λ selector. plain_selector (shown_selector selector)) from selector to
    selector_at depth a (Subscripts' shape subscripts place) b h from to g =
        let p = cut tokens (from + 1) (subscripts_tokens subscripts) (symbol s.RIGHT_ROUND) to g.1 in
        let inner = subscripts_at (depth - 1) (a + 1) _ subscripts h.0 h.4 (from + 1) p.0 p.1 in
        record {
          copy = Subscripts' shape inner.copy (place_of tokens from);
          spelled = (p.0, here tokens from _ g.0, g.0, h.3, inner.spelled, p.2.0, p.2.1.0);
          same = ap (λ subscripts. OfSubscripts subscripts 0) inner.same;
        }
    selector_at depth a (Component name place) b h from to g = record {
      copy = Component (record { text = name.text; place = place_of tokens (from + 1) }) (place_of tokens from);
      spelled = (here tokens from _ g.0, g.0, (g.1.0, here tokens (from + 1) _ g.1.0), plus_two (λ k. to ≡ k) from g.1.1.0);
      same = refl;
    }

    subscripts_at : (depth a : ℕ) (n : _) (row : Row_of-Expr n) (b : ℕ) → SpellsSubscripts before depth a row b → (from to : ℕ) → HasTokens tokens from (subscripts_tokens row) to →
        Placed (λ from (row : Row_of-Expr n) to. SpellsSubscripts tokens depth from row to) (λ (row : Row_of-Expr n). plain_exprs (shown_exprs row)) from row to
    subscripts_at depth a _ end_of-Expr b h from to g = absurd h
    subscripts_at depth a _ (more_of-Expr expr rest) b h from to g =
        let p = cut tokens from (expr_tokens expr) (more_subscripts_tokens rest) to g in
        let first = terms_at depth a expr h.0 h.1.0 from p.0 p.1 in
        let others = more_subscripts_at depth h.0 _ rest b h.2 p.0 to p.2 in
        let few = subst (λ n. n ≤ 100) (same_count first.copy expr first.same) h.1.1 in
        record {
          copy = more_of-Expr first.copy others.copy;
          spelled = (p.0, (first.spelled, few), others.spelled);
          same = λ i. MoreExprs (first.same i) (others.same i);
        }

    more_subscripts_at : (depth a : ℕ) (n : _) (row : Row_of-Expr n) (b : ℕ) → SpellsMoreSubscripts before depth a row b → (from to : ℕ) → HasTokens tokens from (more_subscripts_tokens row) to →
        Placed (λ from (row : Row_of-Expr n) to. SpellsMoreSubscripts tokens depth from row to) (λ (row : Row_of-Expr n). plain_exprs (shown_exprs row)) from row to
    more_subscripts_at depth a _ end_of-Expr b h from to g = record { copy = end_of-Expr; spelled = g.0; same = refl }
    more_subscripts_at depth a _ (more_of-Expr expr rest) b h from to g =
        let p = cut tokens (from + 1) (expr_tokens expr) (more_subscripts_tokens rest) to g.1 in
        let first = terms_at depth (a + 1) expr h.0 h.2.0 (from + 1) p.0 p.1 in
        let others = more_subscripts_at depth h.0 _ rest b h.3 p.0 to p.2 in
        let few = subst (λ n. n ≤ 100) (same_count first.copy expr first.same) h.2.1 in
        record {
          copy = more_of-Expr first.copy others.copy;
          spelled = (p.0, g.0, (first.spelled, few), others.spelled);
          same = λ i. MoreExprs (first.same i) (others.same i);
        }

  pub expr_places : Places tokens (SpellsWhole before) (SpellsWhole tokens) expr_tokens (λ expr. plain_expr (shown_expr expr))
  expr_places = record {
    at = λ a expr b h from to g.
        let p = terms_at 32 a expr b h.0 from to g in
        record { copy = p.copy; spelled = (p.spelled, subst (λ n. n ≤ 100) (same_count p.copy expr p.same) h.1); same = p.same };
  }

  selector_places : Places tokens (SpellsSelector before 33) (SpellsSelector tokens 33) selector_tokens (λ selector. plain_selector (shown_selector selector))
  selector_places = record { at = selector_at 33 }

  pub ref_places : Places tokens (SpellsOwnRef before) (SpellsOwnRef tokens) ref_tokens (λ reference. plain_ref (shown_ref reference))
  ref_places = record {
    at = λ a reference b h from to g.
        let view : Selector → ShownSelector = λ selector. plain_selector (shown_selector selector) in
        let selectors = reference.selectors in
        let p = in_parts (from + 1) selectors to
        (each_at before tokens selector_places selectors.items.items (a + 1) b h.2 (from + 1) to g.1) in
        let seen = row_seen p.copy.items.items ∙ ap row_of p.same ∙ sym (row_seen selectors.items.items) in
        record {
          copy = record { name = record { text = reference.name.text; place = place_of tokens from }; selectors = p.copy; place = place_of tokens from };
          spelled = (here tokens from _ g.0, (g.0, here tokens from _ g.0), p.spelled);
          same = λ i. record { name = plain_name reference.name; selectors = seen i; place = 0 };
        };
  }
