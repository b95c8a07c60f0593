-- What tokens spell from one token up to another is one expression: with its operands and its grouping, wherever the parts
-- lie in memory.
use Rattle.std.proofs.Common.{◌≡◌, inl, inr, ℕ, zero, suc, ◌+◌, ◌-◌, ◌<◌, ◌≤◌, List, [], ◌∷◌, ◌++◌, Option, Some, None, option_map, refl, sym, ap, subst, ◌∙◌, arith, if◌then◌else◌, ◌==◌}
use Rattle.pearl_tree.specs.declared.name.Number.{Number}
use Rattle.pearl_value.specs.declared.operator.Monad.{Monad}
use Rattle.pearl_value.specs.declared.operator.Monad.TheVariants as monad
use Rattle.pearl_tree.specs.declared.expression.Monadic.{Monadic}
use Rattle.pearl_tree.specs.declared.expression.Dyadic.{Dyadic}
use Rattle.pearl_tree.specs.declared.expression.Side.{Side}
use Rattle.pearl_tree.specs.declared.expression.Side.TheVariants.{Lower, Upper}
use Rattle.pearl_tree.specs.declared.expression.Expr.{Expr, Operand', Dyadic'}
use Rattle.pearl_tree.specs.declared.expression.Operand.{Operand}
use Rattle.pearl_tree.specs.declared.expression.Primary.{Primary}
use Rattle.pearl_tree.specs.declared.expression.Primary as primary
use Rattle.pearl_tree.specs.declared.expression.Selector.{Selector, Subscripts', Component, Row_of-Expr, end_of-Expr, more_of-Expr}
use Rattle.pearl_tree.specs.declared.expression.Ref.{Ref, Row_of-Selector, end_of-Selector, more_of-Selector}
use Rattle.pearl_tree.specs.declared.token.What.{What}
use Rattle.pearl_tree.specs.declared.token.What.TheVariants as what
use Rattle.pearl_tree.specs.declared.token.Token.{Token}
use Rattle.pearl_tree.specs.Standing.{IsAt, HasWord, HasSymbol, IsName, SpellsEach, SpellsMaybe, SpellsNumber, what_at}
use Rattle.pearl_tree.specs.Expressions.{SpellsLiteral, SpellsMonadic, SpellsTerms, SpellsPrimary, SpellsSelectors, SpellsSelector, SpellsSubscripts, SpellsMoreSubscripts, SpellsRef, monad_what, HasDyad, rank, rank_of, side_word}
use Rattle.pearl_tree.specs.Chains.{SpellsOperand, Link, SpellsLink, first_operand, links}
use Rattle.pearl_tree.specs.Following.{lengthens_operand, lengthens_expr, HasOneOf, Meet}
use Rattle.pearl_tree.specs.ShownExpressions.{OfLiteral, OfRef, OfGroup, OfNow, OfTry, OfLimit, MoreSelectors, OfSubscripts, OfComponent, MoreExprs, shown_expr, shown_primary, shown_selectors, shown_selector, shown_exprs, shown_selector_list, shown_ref}
use Rattle.pearl_tree.specs.declared.symbol.TheConstants as s
use Rattle.pearl_tree.specs.declared.word_code.TheConstants as w
use Rattle.pearl_tree.proofs.Meeting.{meets_once, has_none, same_word, same_symbol}
use Rattle.pearl_tree.proofs.LiteralEnds.{literal_begins, begins_literal, literal_single}
use Rattle.pearl_tree.proofs.ExpressionsForward.{selector_after, monadics_after}
use Rattle.pearl_tree.proofs.OperandEnds as ends
use Rattle.pearl_tree.proofs.Chains.{exprs_meet, operands_meet, flat, operand_after, no_links}
use Rattle.pearl_tree.proofs.OneLiteral.{same_place, same_name, same_number, same_literal}
use Rattle.pearl_tree.proofs.OneGrouping.{shown_operand, shown_links, first_shown, behind, rank_shown, place_shown, IsGrouped, one_grouping}

-- ---- what is shown of a chain

shown_links_joined : (xs ys : List Link) → shown_links (xs ++ ys) ≡ shown_links xs ++ shown_links ys
shown_links_joined [] ys = refl
shown_links_joined (x ∷ xs) ys = λ i. record { dyadic = x.dyadic; operand = shown_operand x.operand } ∷ shown_links_joined xs ys i

first_is : (e : Expr) → first_shown (shown_expr e) ≡ shown_operand (first_operand e)
first_is (Operand' monadics part place) = refl
first_is (Dyadic' _ left dyadic _ right place) = first_is left

behind_is : (e : Expr) → behind (shown_expr e) ≡ shown_links (links e)
behind_is (Operand' monadics part place) = refl
behind_is (Dyadic' _ left dyadic _ right place) =
    (λ i. behind_is left i ++ (record { dyadic = dyadic; operand = first_is right i } ∷ behind_is right i)) ∙
    sym (shown_links_joined (links left) (record { dyadic = dyadic; operand = first_operand right } ∷ links right))

rank_is : (e : Expr) → rank_shown (shown_expr e) ≡ rank_of e
rank_is (Operand' monadics part place) = refl
rank_is (Dyadic' _ left dyadic _ right place) = refl

module _ (tokens : List Token) where
  place_stands : (depth from : ℕ) (e : Expr) (to : ℕ) → SpellsTerms tokens depth from e to → IsAt tokens from (place_shown (shown_expr e))
  place_stands depth from (Operand' monadics part place) to h = h.1
  place_stands depth from (Dyadic' _ left dyadic _ right place) to h = h.1

  grouped : (depth from : ℕ) (e : Expr) (to : ℕ) → SpellsTerms tokens depth from e to → IsGrouped (shown_expr e)
  grouped depth from (Operand' monadics part place) to h = tt
  grouped depth from (Dyadic' _ left dyadic _ right place) to h = (
    subst (λ r. r ≤ rank dyadic.operator) (sym (rank_is left)) h.6,
    subst (λ r. r < rank dyadic.operator) (sym (rank_is right)) h.7,
    same_place tokens from place (place_shown (shown_expr left)) h.1 (place_stands depth from left h.0 h.2),
    grouped depth from left h.0 h.2,
    grouped depth (h.0 + 1) right to h.5,
  )

  same_monad : (k : ℕ) (a b : Monad) → what_at tokens k ≡ Some (monad_what a) → what_at tokens k ≡ Some (monad_what b) → a ≡ b
  same_monad k monad.Plus monad.Plus h g = refl
  same_monad k monad.Plus monad.Minus h g = absurd (omega (arith, same_symbol tokens k s.PLUS s.MINUS h g))
  same_monad k monad.Plus monad.Abs h g = absurd (let e = sym h ∙ g in cc e)
  same_monad k monad.Plus monad.Sign h g = absurd (let e = sym h ∙ g in cc e)
  same_monad k monad.Plus monad.Not h g = absurd (let e = sym h ∙ g in cc e)
  same_monad k monad.Minus monad.Plus h g = absurd (omega (arith, same_symbol tokens k s.MINUS s.PLUS h g))
  same_monad k monad.Minus monad.Minus h g = refl
  same_monad k monad.Minus monad.Abs h g = absurd (let e = sym h ∙ g in cc e)
  same_monad k monad.Minus monad.Sign h g = absurd (let e = sym h ∙ g in cc e)
  same_monad k monad.Minus monad.Not h g = absurd (let e = sym h ∙ g in cc e)
  same_monad k monad.Abs monad.Plus h g = absurd (let e = sym h ∙ g in cc e)
  same_monad k monad.Abs monad.Minus h g = absurd (let e = sym h ∙ g in cc e)
  same_monad k monad.Abs monad.Abs h g = refl
  same_monad k monad.Abs monad.Sign h g = absurd (omega (arith, same_word tokens k w.ABS w.SIGN h g))
  same_monad k monad.Abs monad.Not h g = absurd (omega (arith, same_word tokens k w.ABS w.NOT h g))
  same_monad k monad.Sign monad.Plus h g = absurd (let e = sym h ∙ g in cc e)
  same_monad k monad.Sign monad.Minus h g = absurd (let e = sym h ∙ g in cc e)
  same_monad k monad.Sign monad.Abs h g = absurd (omega (arith, same_word tokens k w.SIGN w.ABS h g))
  same_monad k monad.Sign monad.Sign h g = refl
  same_monad k monad.Sign monad.Not h g = absurd (omega (arith, same_word tokens k w.SIGN w.NOT h g))
  same_monad k monad.Not monad.Plus h g = absurd (let e = sym h ∙ g in cc e)
  same_monad k monad.Not monad.Minus h g = absurd (let e = sym h ∙ g in cc e)
  same_monad k monad.Not monad.Abs h g = absurd (omega (arith, same_word tokens k w.NOT w.ABS h g))
  same_monad k monad.Not monad.Sign h g = absurd (omega (arith, same_word tokens k w.NOT w.SIGN h g))
  same_monad k monad.Not monad.Not h g = refl

  same_monadics : (from : ℕ) (xs ys : List Monadic) (to : ℕ) → SpellsEach (SpellsMonadic tokens) from xs to →
      SpellsEach (SpellsMonadic tokens) from ys to → xs ≡ ys
  same_monadics from [] [] to h g = refl
  same_monadics from [] (y ∷ ys) to h g = absurd (omega (arith, h, g.1.2, monadics_after tokens g.0 ys to g.2))
  same_monadics from (x ∷ xs) [] to h g = absurd (omega (arith, g, h.1.2, monadics_after tokens h.0 xs to h.2))
  same_monadics from (x ∷ xs) (y ∷ ys) to h g =
      let next : h.0 ≡ g.0 = h.1.2 ∙ sym g.1.2 in
      let rest = same_monadics g.0 xs ys to (subst (λ k. SpellsEach (SpellsMonadic tokens) k xs to) next h.2) g.2 in
      let operator = same_monad from x.operator y.operator h.1.0 g.1.0 in
      let place = same_place tokens from x.place y.place h.1.1 g.1.1 in
      λ i. record { operator = operator i; place = place i } ∷ rest i

  same_dyadic : (k : ℕ) (a b : Dyadic) → HasDyad tokens k a.operator → IsAt tokens k a.place → HasDyad tokens k b.operator → IsAt tokens k b.place → a ≡ b
  same_dyadic k a b h i g j =
      let operator : a.operator ≡ b.operator = let e = sym h ∙ g in cc e in
      let place = same_place tokens k a.place b.place i j in
      λ i. record { operator = operator i; place = place i }

  same_side : (k : ℕ) (a b : Side) → HasWord tokens k (side_word a) → HasWord tokens k (side_word b) → a ≡ b
  same_side k Lower Lower h g = refl
  same_side k Upper Upper h g = refl
  same_side k Lower Upper h g = absurd (omega (arith, same_word tokens k w.LWB w.UPB h g))
  same_side k Upper Lower h g = absurd (omega (arith, same_word tokens k w.UPB w.LWB h g))

  -- the expressions with at most this many brackets within one another
  abbrev ExprsSame : ℕ → Type 0
  ExprsSame depth = (from : ℕ) (a b : Expr) (to : ℕ) → SpellsTerms tokens depth from a to → SpellsTerms tokens depth from b to →
      shown_expr a ≡ shown_expr b

  module _ (depth : ℕ) (inner : 0 < depth → ExprsSame (depth - 1)) where
    -- ---- subscripts

    no_comma : (k : ℕ) → HasSymbol tokens k s.COMMA → HasOneOf lengthens_expr tokens k → ⊥
    no_comma k h g = has_none tokens lengthens_expr k (what.Symbol s.COMMA) h refl g

    still : (below from : ℕ) (n : _) (row : Row_of-Expr n) (to : ℕ) → SpellsMoreSubscripts tokens below from row to → HasSymbol tokens to s.RIGHT_ROUND →
        HasOneOf lengthens_expr tokens from → ⊥
    still below from _ end_of-Expr to h c g =
        has_none tokens lengthens_expr from (what.Symbol s.RIGHT_ROUND) (subst (λ k. HasSymbol tokens k s.RIGHT_ROUND) h c) refl g
    still below from _ (more_of-Expr expr rest) to h c g = no_comma from h.1 g

    same_more_subscripts : (below : ℕ) → ExprsSame below → (from : ℕ) (n m : _) (row : Row_of-Expr n) (other : Row_of-Expr m) (to end : ℕ) →
        SpellsMoreSubscripts tokens below from row to → HasSymbol tokens to s.RIGHT_ROUND →
        SpellsMoreSubscripts tokens below from other end → HasSymbol tokens end s.RIGHT_ROUND → (shown_exprs row ≡ shown_exprs other) × (to ≡ end)
    same_more_subscripts below same from _ _ end_of-Expr end_of-Expr to end h c g d = (refl, h ∙ sym g)
    same_more_subscripts below same from _ _ end_of-Expr (more_of-Expr y ys) to end h c g d =
        absurd (omega (arith, same_symbol tokens from s.COMMA s.RIGHT_ROUND g.1 (subst (λ k. HasSymbol tokens k s.RIGHT_ROUND) h c)))
    same_more_subscripts below same from _ _ (more_of-Expr x xs) end_of-Expr to end h c g d =
        absurd (omega (arith, same_symbol tokens from s.COMMA s.RIGHT_ROUND h.1 (subst (λ k. HasSymbol tokens k s.RIGHT_ROUND) g d)))
    same_more_subscripts below same from _ _ (more_of-Expr x xs) (more_of-Expr y ys) to end h c g d =
        let next : h.0 ≡ g.0 = meets_once (HasOneOf lengthens_expr tokens) (still below h.0 _ xs to h.3 c) (still below g.0 _ ys end g.3 d)
        (exprs_meet tokens below (from + 1) x y h.0 g.0 h.2.0 g.2.0) in
        let first = same (from + 1) x y g.0 (subst (λ k. SpellsTerms tokens below (from + 1) x k) next h.2.0) g.2.0 in
        let rest = same_more_subscripts below same g.0 _ _ xs ys to end (subst (λ k. SpellsMoreSubscripts tokens below k xs to) next h.3) c g.3 d in
        ((λ i. MoreExprs (first i) (rest.0 i)), rest.1)

    same_subscripts : (below : ℕ) → ExprsSame below → (from : ℕ) (n m : _) (row : Row_of-Expr n) (other : Row_of-Expr m) (to end : ℕ) →
        SpellsSubscripts tokens below from row to → HasSymbol tokens to s.RIGHT_ROUND →
        SpellsSubscripts tokens below from other end → HasSymbol tokens end s.RIGHT_ROUND → shown_exprs row ≡ shown_exprs other
    same_subscripts below same from _ _ end_of-Expr other to end h c g d = absurd h
    same_subscripts below same from _ _ (more_of-Expr x xs) end_of-Expr to end h c g d = absurd g
    same_subscripts below same from _ _ (more_of-Expr x xs) (more_of-Expr y ys) to end h c g d =
        let next : h.0 ≡ g.0 = meets_once (HasOneOf lengthens_expr tokens) (still below h.0 _ xs to h.2 c) (still below g.0 _ ys end g.2 d)
        (exprs_meet tokens below from x y h.0 g.0 h.1.0 g.1.0) in
        let first = same from x y g.0 (subst (λ k. SpellsTerms tokens below from x k) next h.1.0) g.1.0 in
        let rest = same_more_subscripts below same g.0 _ _ xs ys to end (subst (λ k. SpellsMoreSubscripts tokens below k xs to) next h.2) c g.2 d in
        λ i. MoreExprs (first i) (rest.0 i)

    -- ---- selectors

    pub same_selector : (from : ℕ) (a b : Selector) (to end : ℕ) → SpellsSelector tokens depth from a to → SpellsSelector tokens depth from b end →
        shown_selector a ≡ shown_selector b
    same_selector from (Subscripts' _ xs p) (Subscripts' _ ys q) to end h g =
        let all = same_subscripts (depth - 1) (inner h.3) (from + 1) _ _ xs ys h.0 g.0 h.4 h.5 g.4 g.5 in
        let place = same_place tokens from p q h.1 g.1 in
        λ i. OfSubscripts (all i) (place i)
    same_selector from (Component a p) (Component b q) to end h g =
        let name = same_name tokens (from + 1) a b h.2 g.2 in
        let place = same_place tokens from p q h.0 g.0 in
        λ i. OfComponent (name i) (place i)
    same_selector from (Subscripts' _ xs p) (Component b q) to end h g =
        absurd (omega (arith, same_symbol tokens from s.LEFT_ROUND s.PERIOD h.2 g.1))
    same_selector from (Component a p) (Subscripts' _ ys q) to end h g =
        absurd (omega (arith, same_symbol tokens from s.PERIOD s.LEFT_ROUND h.1 g.2))

    selectors_after : (from : ℕ) (n : _) (row : Row_of-Selector n) (to : ℕ) → SpellsSelectors tokens depth from row to → from ≤ to
    selectors_after from _ end_of-Selector to h = omega (arith, h)
    selectors_after from _ (more_of-Selector x xs) to h = omega (arith, selector_after tokens depth from x h.0 h.1, selectors_after h.0 _ xs to h.2)

    one_end : (from : ℕ) (a b : Selector) (to end : ℕ) → SpellsSelector tokens depth from a to → SpellsSelector tokens depth from b end → to ≡ end
    one_end = ends.selector_once tokens depth (λ h. exprs_meet tokens (depth - 1))

    same_selectors : (from : ℕ) (n m : _) (row : Row_of-Selector n) (other : Row_of-Selector m) (to : ℕ) → SpellsSelectors tokens depth from row to →
        SpellsSelectors tokens depth from other to → shown_selectors row ≡ shown_selectors other
    same_selectors from _ _ end_of-Selector end_of-Selector to h g = refl
    same_selectors from _ _ end_of-Selector (more_of-Selector y ys) to h g =
        absurd (omega (arith, h, selector_after tokens depth from y g.0 g.1, selectors_after g.0 _ ys to g.2))
    same_selectors from _ _ (more_of-Selector x xs) end_of-Selector to h g =
        absurd (omega (arith, g, selector_after tokens depth from x h.0 h.1, selectors_after h.0 _ xs to h.2))
    same_selectors from _ _ (more_of-Selector x xs) (more_of-Selector y ys) to h g =
        let first = same_selector from x y h.0 g.0 h.1 g.1 in
        let rest = same_selectors g.0 _ _ xs ys to (subst (λ k. SpellsSelectors tokens depth k xs to) (one_end from x y h.0 g.0 h.1 g.1) h.2) g.2 in
        λ i. MoreSelectors (first i) (rest i)

    lists_after : (from : ℕ) (xs : List Selector) (to : ℕ) → SpellsEach (SpellsSelector tokens depth) from xs to → from ≤ to
    lists_after from [] to h = omega (arith, h)
    lists_after from (x ∷ xs) to h = omega (arith, selector_after tokens depth from x h.0 h.1, lists_after h.0 xs to h.2)

    same_selector_list : (from : ℕ) (xs ys : List Selector) (to : ℕ) → SpellsEach (SpellsSelector tokens depth) from xs to →
        SpellsEach (SpellsSelector tokens depth) from ys to → shown_selector_list xs ≡ shown_selector_list ys
    same_selector_list from [] [] to h g = refl
    same_selector_list from [] (y ∷ ys) to h g = absurd (omega (arith, h, selector_after tokens depth from y g.0 g.1, lists_after g.0 ys to g.2))
    same_selector_list from (x ∷ xs) [] to h g = absurd (omega (arith, g, selector_after tokens depth from x h.0 h.1, lists_after h.0 xs to h.2))
    same_selector_list from (x ∷ xs) (y ∷ ys) to h g =
        let first = same_selector from x y h.0 g.0 h.1 g.1 in
        let rest = same_selector_list g.0 xs ys to (subst (λ k. SpellsEach (SpellsSelector tokens depth) k xs to) (one_end from x y h.0 g.0 h.1 g.1) h.2) g.2 in
        λ i. MoreSelectors (first i) (rest i)

    pub same_ref_below : (from : ℕ) (a b : Ref) (to : ℕ) → SpellsRef tokens depth from a to → SpellsRef tokens depth from b to → shown_ref a ≡ shown_ref b
    same_ref_below from a b to h g =
        let name = same_name tokens from a.name b.name h.1 g.1 in
        let place = same_place tokens from a.place b.place h.0 g.0 in
        let all = same_selector_list (from + 1) a.selectors.items.items b.selectors.items.items to h.2 g.2 in
        λ i. record { name = name i; selectors = all i; place = place i }

    -- ---- primaries

    -- a literal and a limit don't end at the same token
    literal_no_limit : (from : ℕ) (a : _) (to : ℕ) (dimension : Option Number) (side : Side) (m : ℕ) → SpellsLiteral tokens from a to →
        SpellsMaybe (SpellsNumber tokens) from dimension m → HasWord tokens m (side_word side) → m < to → ⊥
    literal_no_limit from a to None side m h i j low =
        absurd (by side (subst (λ k. HasWord tokens k (side_word side)) i j))
      where
        by : (side : Side) → HasWord tokens from (side_word side) → ⊥
        by Lower j = has_none tokens begins_literal from (what.Word w.LWB) j refl (literal_begins tokens from a to h)
        by Upper j = has_none tokens begins_literal from (what.Word w.UPB) j refl (literal_begins tokens from a to h)
    literal_no_limit from a to (Some x) side m h i j low =
        let single = literal_single tokens from a to h
        (ends.side_lengthens tokens depth (λ h. exprs_meet tokens (depth - 1)) (from + 1) side (subst (λ k. HasWord tokens k (side_word side)) i.1 j)).1 in
        absurd (omega (arith, single, i.1, low))

    limit_low : (m : ℕ) (n : _) (row : Row_of-Selector n) (to : ℕ) → SpellsSelectors tokens depth (m + 1 + 1) row to → m < to
    limit_low m n row to h = omega (arith, selectors_after (m + 1 + 1) n row to h)

    one_dimension : (from : ℕ) (a b : Option Number) (m n : ℕ) (x y : Side) → SpellsMaybe (SpellsNumber tokens) from a m → HasWord tokens m (side_word x) →
        SpellsMaybe (SpellsNumber tokens) from b n → HasWord tokens n (side_word y) → (a ≡ b) × (m ≡ n)
    one_dimension from None None m n x y h i g j = (refl, h ∙ sym g)
    one_dimension from (Some a) (Some b) m n x y h i g j = (ap Some (same_number tokens from a b h.0 g.0), h.1 ∙ sym g.1)
    one_dimension from None (Some b) m n x y h i g j =
        absurd (let e = sym (subst (λ k. HasWord tokens k (side_word x)) h i) ∙ g.0.0 in cc e)
    one_dimension from (Some a) None m n x y h i g j =
        absurd (let e = sym (subst (λ k. HasWord tokens k (side_word y)) g j) ∙ h.0.0 in cc e)

    -- the first token by its kind, for primaries that are no literals
    abbrev lead_of : What → ℕ
    lead_of (what.Id _) = 1
    lead_of (what.Symbol _) = 2
    lead_of (what.Number _) = 6
    lead_of (what.Word code) = if code == w.NOW then 3 else (if code == w.TRY then 4 else 5)
    lead_of _ = 0

    has_lead : (k : ℕ) (first : What) (lead : ℕ) → what_at tokens k ≡ Some first → lead_of first ≡ lead → option_map lead_of (what_at tokens k) ≡ Some lead
    has_lead k first lead here is = ap (option_map lead_of) here ∙ ap Some is

    leads_apart : (k a b : ℕ) → option_map lead_of (what_at tokens k) ≡ Some a → option_map lead_of (what_at tokens k) ≡ Some b → a ≡ b
    leads_apart k a b h g = let e = sym h ∙ g in cc e

    limit_lead : (from : ℕ) (dimension : Option Number) (side : Side) (m : ℕ) → SpellsMaybe (SpellsNumber tokens) from dimension m → HasWord tokens m (side_word side) →
        (lead : ℕ) × (5 ≤ lead) × (option_map lead_of (what_at tokens from) ≡ Some lead)
    limit_lead from None Lower m h i = (5, omega arith, has_lead from (what.Word w.LWB) 5 (subst (λ k. HasWord tokens k w.LWB) h i) refl)
    limit_lead from None Upper m h i = (5, omega arith, has_lead from (what.Word w.UPB) 5 (subst (λ k. HasWord tokens k w.UPB) h i) refl)
    limit_lead from (Some x) side m h i = (6, omega arith, has_lead from (what.Number x.value) 6 h.0.0 refl)

    same_primary : (from : ℕ) (a b : Primary) (to : ℕ) → SpellsPrimary tokens depth from a to → SpellsPrimary tokens depth from b to →
        shown_primary a ≡ shown_primary b
    same_primary from (primary.Literal a_part) (primary.Literal b_part) to h g = ap OfLiteral (same_literal tokens from a_part b_part to h g)
    same_primary from (primary.Literal a_part) (primary.Ref' b_name _ b_row b_place) to h g =
        absurd (has_none tokens begins_literal from (what.Id b_name.text) g.1.0 refl (literal_begins tokens from a_part to h))
    same_primary from (primary.Literal a_part) (primary.Group' _ b_inner b_place) to h g =
        absurd (has_none tokens begins_literal from (what.Symbol s.LEFT_ROUND) g.2 refl (literal_begins tokens from a_part to h))
    same_primary from (primary.Literal a_part) (primary.Now b_place) to h g =
        absurd (has_none tokens begins_literal from (what.Word w.NOW) g.1 refl (literal_begins tokens from a_part to h))
    same_primary from (primary.Literal a_part) (primary.Try b_name b_place) to h g =
        absurd (has_none tokens begins_literal from (what.Word w.TRY) g.1 refl (literal_begins tokens from a_part to h))
    same_primary from (primary.Literal a_part) (primary.Limit' b_dim b_side _ b_name _ b_row b_ref b_place) to h g =
        absurd (literal_no_limit from a_part to b_dim b_side g.0 h g.2 g.3 (limit_low g.0 _ b_row to g.4.2))
    same_primary from (primary.Ref' a_name _ a_row a_place) (primary.Literal b_part) to h g =
        absurd (has_none tokens begins_literal from (what.Id a_name.text) h.1.0 refl (literal_begins tokens from b_part to g))
    same_primary from (primary.Ref' a_name _ a_row a_place) (primary.Ref' b_name _ b_row b_place) to h g =
        let name = same_name tokens from a_name b_name h.1 g.1 in
        let all = same_selectors (from + 1) _ _ a_row b_row to h.2 g.2 in
        let place = same_place tokens from a_place b_place h.0 g.0 in
        λ i. OfRef (name i) (all i) (place i)
    same_primary from (primary.Ref' a_name _ a_row a_place) (primary.Group' _ b_inner b_place) to h g =
        absurd (omega (arith, leads_apart from 1 2 (has_lead from (what.Id a_name.text) 1 h.1.0 refl) (has_lead from (what.Symbol s.LEFT_ROUND) 2 g.2 refl)))
    same_primary from (primary.Ref' a_name _ a_row a_place) (primary.Now b_place) to h g =
        absurd (omega (arith, leads_apart from 1 3 (has_lead from (what.Id a_name.text) 1 h.1.0 refl) (has_lead from (what.Word w.NOW) 3 g.1 refl)))
    same_primary from (primary.Ref' a_name _ a_row a_place) (primary.Try b_name b_place) to h g =
        absurd (omega (arith, leads_apart from 1 4 (has_lead from (what.Id a_name.text) 1 h.1.0 refl) (has_lead from (what.Word w.TRY) 4 g.1 refl)))
    same_primary from (primary.Ref' a_name _ a_row a_place) (primary.Limit' b_dim b_side _ b_name _ b_row b_ref b_place) to h g =
        let lead = limit_lead from b_dim b_side g.0 g.2 g.3 in
        absurd (omega (arith, lead.1, leads_apart from lead.0 1 lead.2 (has_lead from (what.Id a_name.text) 1 h.1.0 refl)))
    same_primary from (primary.Group' _ a_inner a_place) (primary.Literal b_part) to h g =
        absurd (has_none tokens begins_literal from (what.Symbol s.LEFT_ROUND) h.2 refl (literal_begins tokens from b_part to g))
    same_primary from (primary.Group' _ a_inner a_place) (primary.Ref' b_name _ b_row b_place) to h g =
        absurd (omega (arith, leads_apart from 2 1 (has_lead from (what.Symbol s.LEFT_ROUND) 2 h.2 refl) (has_lead from (what.Id b_name.text) 1 g.1.0 refl)))
    same_primary from (primary.Group' _ a_inner a_place) (primary.Group' _ b_inner b_place) to h g =
        let at : h.0 ≡ g.0 = omega (arith, h.6, g.6) in
        let part = inner h.3 (from + 1) a_inner b_inner g.0 (subst (λ k. SpellsTerms tokens (depth - 1) (from + 1) a_inner k) at h.4.0) g.4.0 in
        let place = same_place tokens from a_place b_place h.1 g.1 in
        λ i. OfGroup (part i) (place i)
    same_primary from (primary.Group' _ a_inner a_place) (primary.Now b_place) to h g =
        absurd (omega (arith, leads_apart from 2 3 (has_lead from (what.Symbol s.LEFT_ROUND) 2 h.2 refl) (has_lead from (what.Word w.NOW) 3 g.1 refl)))
    same_primary from (primary.Group' _ a_inner a_place) (primary.Try b_name b_place) to h g =
        absurd (omega (arith, leads_apart from 2 4 (has_lead from (what.Symbol s.LEFT_ROUND) 2 h.2 refl) (has_lead from (what.Word w.TRY) 4 g.1 refl)))
    same_primary from (primary.Group' _ a_inner a_place) (primary.Limit' b_dim b_side _ b_name _ b_row b_ref b_place) to h g =
        let lead = limit_lead from b_dim b_side g.0 g.2 g.3 in
        absurd (omega (arith, lead.1, leads_apart from lead.0 2 lead.2 (has_lead from (what.Symbol s.LEFT_ROUND) 2 h.2 refl)))
    same_primary from (primary.Now a_place) (primary.Literal b_part) to h g =
        absurd (has_none tokens begins_literal from (what.Word w.NOW) h.1 refl (literal_begins tokens from b_part to g))
    same_primary from (primary.Now a_place) (primary.Ref' b_name _ b_row b_place) to h g =
        absurd (omega (arith, leads_apart from 3 1 (has_lead from (what.Word w.NOW) 3 h.1 refl) (has_lead from (what.Id b_name.text) 1 g.1.0 refl)))
    same_primary from (primary.Now a_place) (primary.Group' _ b_inner b_place) to h g =
        absurd (omega (arith, leads_apart from 3 2 (has_lead from (what.Word w.NOW) 3 h.1 refl) (has_lead from (what.Symbol s.LEFT_ROUND) 2 g.2 refl)))
    same_primary from (primary.Now a_place) (primary.Now b_place) to h g = ap OfNow (same_place tokens from a_place b_place h.0 g.0)
    same_primary from (primary.Now a_place) (primary.Try b_name b_place) to h g =
        absurd (omega (arith, leads_apart from 3 4 (has_lead from (what.Word w.NOW) 3 h.1 refl) (has_lead from (what.Word w.TRY) 4 g.1 refl)))
    same_primary from (primary.Now a_place) (primary.Limit' b_dim b_side _ b_name _ b_row b_ref b_place) to h g =
        let lead = limit_lead from b_dim b_side g.0 g.2 g.3 in
        absurd (omega (arith, lead.1, leads_apart from lead.0 3 lead.2 (has_lead from (what.Word w.NOW) 3 h.1 refl)))
    same_primary from (primary.Try a_name a_place) (primary.Literal b_part) to h g =
        absurd (has_none tokens begins_literal from (what.Word w.TRY) h.1 refl (literal_begins tokens from b_part to g))
    same_primary from (primary.Try a_name a_place) (primary.Ref' b_name _ b_row b_place) to h g =
        absurd (omega (arith, leads_apart from 4 1 (has_lead from (what.Word w.TRY) 4 h.1 refl) (has_lead from (what.Id b_name.text) 1 g.1.0 refl)))
    same_primary from (primary.Try a_name a_place) (primary.Group' _ b_inner b_place) to h g =
        absurd (omega (arith, leads_apart from 4 2 (has_lead from (what.Word w.TRY) 4 h.1 refl) (has_lead from (what.Symbol s.LEFT_ROUND) 2 g.2 refl)))
    same_primary from (primary.Try a_name a_place) (primary.Now b_place) to h g =
        absurd (omega (arith, leads_apart from 4 3 (has_lead from (what.Word w.TRY) 4 h.1 refl) (has_lead from (what.Word w.NOW) 3 g.1 refl)))
    same_primary from (primary.Try a_name a_place) (primary.Try b_name b_place) to h g =
        let name = same_name tokens (from + 1) a_name b_name h.2 g.2 in
        let place = same_place tokens from a_place b_place h.0 g.0 in
        λ i. OfTry (name i) (place i)
    same_primary from (primary.Try a_name a_place) (primary.Limit' b_dim b_side _ b_name _ b_row b_ref b_place) to h g =
        let lead = limit_lead from b_dim b_side g.0 g.2 g.3 in
        absurd (omega (arith, lead.1, leads_apart from lead.0 4 lead.2 (has_lead from (what.Word w.TRY) 4 h.1 refl)))
    same_primary from (primary.Limit' a_dim a_side _ a_name _ a_row a_ref a_place) (primary.Literal b_part) to h g =
        absurd (literal_no_limit from b_part to a_dim a_side h.0 g h.2 h.3 (limit_low h.0 _ a_row to h.4.2))
    same_primary from (primary.Limit' a_dim a_side _ a_name _ a_row a_ref a_place) (primary.Ref' b_name _ b_row b_place) to h g =
        let lead = limit_lead from a_dim a_side h.0 h.2 h.3 in
        absurd (omega (arith, lead.1, leads_apart from lead.0 1 lead.2 (has_lead from (what.Id b_name.text) 1 g.1.0 refl)))
    same_primary from (primary.Limit' a_dim a_side _ a_name _ a_row a_ref a_place) (primary.Group' _ b_inner b_place) to h g =
        let lead = limit_lead from a_dim a_side h.0 h.2 h.3 in
        absurd (omega (arith, lead.1, leads_apart from lead.0 2 lead.2 (has_lead from (what.Symbol s.LEFT_ROUND) 2 g.2 refl)))
    same_primary from (primary.Limit' a_dim a_side _ a_name _ a_row a_ref a_place) (primary.Now b_place) to h g =
        let lead = limit_lead from a_dim a_side h.0 h.2 h.3 in
        absurd (omega (arith, lead.1, leads_apart from lead.0 3 lead.2 (has_lead from (what.Word w.NOW) 3 g.1 refl)))
    same_primary from (primary.Limit' a_dim a_side _ a_name _ a_row a_ref a_place) (primary.Try b_name b_place) to h g =
        let lead = limit_lead from a_dim a_side h.0 h.2 h.3 in
        absurd (omega (arith, lead.1, leads_apart from lead.0 4 lead.2 (has_lead from (what.Word w.TRY) 4 g.1 refl)))
    same_primary from (primary.Limit' a_dim a_side _ a_name _ a_row a_ref a_place) (primary.Limit' b_dim b_side _ b_name _ b_row b_ref b_place) to h g =
        let at = one_dimension from a_dim b_dim h.0 g.0 a_side b_side h.2 h.3 g.2 g.3 in
        let side = same_side g.0 a_side b_side (subst (λ k. HasWord tokens k (side_word a_side)) at.1 h.3) g.3 in
        let name = same_name tokens (g.0 + 1) a_name b_name (subst (λ k. IsName tokens (k + 1) a_name) at.1 h.4.1) g.4.1 in
        let array_place = same_place tokens (g.0 + 1) a_ref b_ref (subst (λ k. IsAt tokens (k + 1) a_ref) at.1 h.4.0) g.4.0 in
        let all = same_selectors (g.0 + 1 + 1) _ _ a_row b_row to (subst (λ k. SpellsSelectors tokens depth (k + 1 + 1) a_row to) at.1 h.4.2) g.4.2 in
        let place = same_place tokens from a_place b_place h.1 g.1 in
        λ i. OfLimit (at.0 i) (side i) (name i) (all i) (array_place i) (place i)

    -- ---- operands and chains

    same_operand : (from : ℕ) (a b : Operand) (to : ℕ) → SpellsOperand tokens depth from a to → SpellsOperand tokens depth from b to →
        shown_operand a ≡ shown_operand b
    same_operand from a b to h g =
        let at = ends.monadics_once tokens depth (λ h. exprs_meet tokens (depth - 1)) from a b to to h g in
        let monadics = same_monadics from a.monadics.items.items b.monadics.items.items g.0
        (subst (λ k. SpellsEach (SpellsMonadic tokens) from a.monadics.items.items k) at h.3) g.3 in
        let part = same_primary g.0 a.primary b.primary to (subst (λ k. SpellsPrimary tokens depth k a.primary to) at h.4) g.4 in
        let place = same_place tokens from a.place b.place h.1 g.1 in
        λ i. record { monadics = monadics i; part = part i; place = place i }

    links_after : (from : ℕ) (xs : List Link) (to : ℕ) → SpellsEach (SpellsLink tokens depth) from xs to → from ≤ to
    links_after from [] to h = omega (arith, h)
    links_after from (x ∷ xs) to h = omega (arith, operand_after tokens depth (from + 1) x.operand h.0 h.1.2, links_after h.0 xs to h.2)

    -- operands from the same token, with links behind them that end at the same, end at the same
    one_next : (m n : ℕ) (xs ys : List Link) (to : ℕ) → SpellsEach (SpellsLink tokens depth) m xs to → SpellsEach (SpellsLink tokens depth) n ys to →
        Meet (HasOneOf lengthens_operand tokens) m n → m ≡ n
    one_next m n xs ys to h g (inl e) = e
    one_next m n xs ys to h g (inr (inl e)) = absurd (omega (arith, no_links tokens depth m xs to h e.1, e.0, links_after n ys to g))
    one_next m n xs ys to h g (inr (inr e)) = absurd (omega (arith, no_links tokens depth n ys to g e.1, e.0, links_after m xs to h))

    same_links : (from : ℕ) (xs ys : List Link) (to : ℕ) → SpellsEach (SpellsLink tokens depth) from xs to →
        SpellsEach (SpellsLink tokens depth) from ys to → shown_links xs ≡ shown_links ys
    same_links from [] [] to h g = refl
    same_links from [] (y ∷ ys) to h g =
        absurd (omega (arith, h, operand_after tokens depth (from + 1) y.operand g.0 g.1.2, links_after g.0 ys to g.2))
    same_links from (x ∷ xs) [] to h g =
        absurd (omega (arith, g, operand_after tokens depth (from + 1) x.operand h.0 h.1.2, links_after h.0 xs to h.2))
    same_links from (x ∷ xs) (y ∷ ys) to h g =
        let next = one_next h.0 g.0 xs ys to h.2 g.2 (operands_meet tokens depth (from + 1) x.operand y.operand h.0 g.0 h.1.2 g.1.2) in
        let first = same_operand (from + 1) x.operand y.operand g.0 (subst (λ k. SpellsOperand tokens depth (from + 1) x.operand k) next h.1.2) g.1.2 in
        let dyadic = same_dyadic from x.dyadic y.dyadic h.1.0 h.1.1 g.1.0 g.1.1 in
        let rest = same_links g.0 xs ys to (subst (λ k. SpellsEach (SpellsLink tokens depth) k xs to) next h.2) g.2 in
        λ i. record { dyadic = dyadic i; operand = first i } ∷ rest i

    step : ExprsSame depth
    step from a b to h g =
        let this = flat tokens depth from a to h in
        let that = flat tokens depth from b to g in
        let next = one_next this.0 that.0 (links a) (links b) to this.2 that.2
        (operands_meet tokens depth from (first_operand a) (first_operand b) this.0 that.0 this.1 that.1) in
        let first = same_operand from (first_operand a) (first_operand b) that.0
        (subst (λ k. SpellsOperand tokens depth from (first_operand a) k) next this.1) that.1 in
        let rest = same_links that.0 (links a) (links b) to (subst (λ k. SpellsEach (SpellsLink tokens depth) k (links a) to) next this.2) that.2 in
        one_grouping (shown_expr a) (shown_expr b) (grouped depth from a to h) (grouped depth from b to g)
        (first_is a ∙ first ∙ sym (first_is b)) (behind_is a ∙ rest ∙ sym (behind_is b))

-- two expressions that the same tokens spell say the same
pub same_expr : (tokens : List Token) (depth : ℕ) → ExprsSame tokens depth
same_expr tokens zero = step tokens zero (λ h. absurd (omega (arith, h)))
same_expr tokens (suc depth) =
    let less : depth ≡ suc depth - 1 = omega arith in
    step tokens (suc depth) (λ h. subst (ExprsSame tokens) less (same_expr tokens depth))

-- and two references
pub same_ref : (tokens : List Token) (depth from : ℕ) (a b : Ref) (to : ℕ) → SpellsRef tokens depth from a to → SpellsRef tokens depth from b to →
    shown_ref a ≡ shown_ref b
same_ref tokens depth = same_ref_below tokens depth (λ h. same_expr tokens (depth - 1))
