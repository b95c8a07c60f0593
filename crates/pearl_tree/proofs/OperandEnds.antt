-- Two operands, or two references, that begin at the same token end at the same, or the shorter one before a token that
-- lengthens it. What is known of the expressions between brackets is a premise here.
use Rattle.std.proofs.Common.{◌≡◌, ◌⊎◌, inl, inr, ℕ, ◌+◌, ◌-◌, ◌<◌, ◌≤◌, ◌==◌, ◌||◌, Bool, true, false, List, Option, Some, None, option_map, refl, sym, ap, subst, ◌∙◌, arith}
use Rattle.pearl_tree.specs.declared.literal.Literal.{Literal}
use Rattle.pearl_tree.specs.declared.name.Number.{Number}
use Rattle.pearl_value.specs.declared.operator.Monad.{Monad}
use Rattle.pearl_value.specs.declared.operator.Monad.TheVariants as monad
use Rattle.pearl_tree.specs.declared.expression.Monadic.{Monadic}
use Rattle.pearl_tree.specs.declared.expression.Side.{Side}
use Rattle.pearl_tree.specs.declared.expression.Side.TheVariants.{Lower, Upper}
use Rattle.pearl_tree.specs.declared.expression.Expr.{Expr}
use Rattle.pearl_tree.specs.declared.expression.Operand.{Operand}
use Rattle.pearl_tree.specs.declared.expression.Primary.{Primary}
use Rattle.pearl_tree.specs.declared.expression.Primary as primary
use Rattle.pearl_tree.specs.declared.expression.Selector.{Selector, Subscripts', Component, items-the_row-Expr}
use Rattle.pearl_tree.specs.declared.expression.Ref.{Ref, items-the_row-Selector}
use Rattle.pearl_tree.specs.declared.token.What.{What}
use Rattle.pearl_tree.specs.declared.token.What.TheVariants as what
use Rattle.pearl_tree.specs.declared.token.Token.{Token}
use Rattle.pearl_tree.specs.Standing.{HasWord, HasSymbol, SpellsEach, SpellsList, SpellsMaybe, SpellsNumber, what_at}
use Rattle.pearl_tree.specs.Expressions.{SpellsLiteral, SpellsMonadic, SpellsTerms, SpellsExpr, SpellsPrimary, SpellsSelector, SpellsRef, monad_what, dyad_count, side_word}
use Rattle.pearl_tree.specs.Chains.{SpellsOperand}
use Rattle.pearl_tree.specs.Following.{is_monadic, lengthens_literal, lengthens_ref, lengthens_operand, lengthens_expr, HasOneOf, Meet}
use Rattle.pearl_tree.specs.declared.symbol.TheConstants as s
use Rattle.pearl_tree.specs.declared.word_code.TheConstants as w
use Rattle.pearl_tree.proofs.ExpressionLists.{selectors, subscripts}
use Rattle.pearl_tree.proofs.Meeting.{meets_as, meets_once, has_one, has_none, same_word, same_symbol}
use Rattle.pearl_tree.proofs.LiteralEnds.{literal_single, literal_ends, literal_begins, begins_literal}
use Rattle.pearl_tree.proofs.ExpressionsForward.{selector_after}
use Rattle.pearl_tree.proofs.ListEnds.{each_after, each_meets, list_once}

module _ (tokens : List Token) where
  -- what holds of every token that the one kind takes, the other takes too
  pub has_also : (kind also : What → Bool) (k : ℕ) → ((what : What) → kind what ≡ true → also what ≡ true) → HasOneOf kind tokens k → HasOneOf also tokens k
  has_also kind also k f h = by (what_at tokens k) h
    where
      by : (o : Option What) → option_map kind o ≡ Some true → option_map also o ≡ Some true
      by None e = absurd (let e = e in cc e)
      by (Some what) e = let is : kind what ≡ true = cc e in ap Some (f what is)

  -- the expressions with at most this many brackets within one another
  abbrev pub ExprsMeet : ℕ → Type 0
  ExprsMeet depth = (from : ℕ) (a b : Expr) (to end : ℕ) → SpellsTerms tokens depth from a to → SpellsTerms tokens depth from b end →
      Meet (HasOneOf lengthens_expr tokens) to end

  module _ (depth : ℕ) (inner : 0 < depth → ExprsMeet (depth - 1)) where
    abbrev LongerRef : ℕ → Type 0
    LongerRef = HasOneOf lengthens_ref tokens

    no_comma : (k : ℕ) → HasSymbol tokens k s.COMMA → HasOneOf lengthens_expr tokens k → ⊥
    no_comma k h g = has_none tokens lengthens_expr k (what.Symbol s.COMMA) h refl g

    no_close : (k : ℕ) → HasSymbol tokens k s.RIGHT_ROUND → HasOneOf lengthens_expr tokens k → ⊥
    no_close k h g = has_none tokens lengthens_expr k (what.Symbol s.RIGHT_ROUND) h refl g

    comma_is_not_close : (k : ℕ) → HasSymbol tokens k s.COMMA → HasSymbol tokens k s.RIGHT_ROUND → ⊥
    comma_is_not_close k h g = omega (arith, same_symbol tokens k s.COMMA s.RIGHT_ROUND h g)

    -- ---- selectors

    -- "(" expr { "," expr } ")", or "." id
    abbrev pub Selects : ℕ → ℕ → Type 0
    Selects from to =
        ((xs : List Expr) × (m : ℕ) × (0 < depth) × HasSymbol tokens from s.LEFT_ROUND ×
        SpellsList tokens (SpellsExpr tokens (depth - 1)) (from + 1) xs m × HasSymbol tokens m s.RIGHT_ROUND × (to ≡ m + 1))
        ⊎ (HasSymbol tokens from s.PERIOD × (to ≡ from + 2))

    pub selects : (from : ℕ) (selector : Selector) (to : ℕ) → SpellsSelector tokens depth from selector to → Selects from to
    selects from (Subscripts' _ row _) to h =
        inl (items-the_row-Expr _ row, h.0, h.3, h.2, subst (λ X. X) (subscripts tokens (depth - 1) (from + 1) _ row h.0) h.4, h.5, h.6)
    selects from (Component _ _) to h = inr (h.1, h.3)

    selector_lengthens : (from to : ℕ) → Selects from to → LongerRef from
    selector_lengthens from to (inl h) = has_one tokens lengthens_ref from (what.Symbol s.LEFT_ROUND) h.3 refl
    selector_lengthens from to (inr h) = has_one tokens lengthens_ref from (what.Symbol s.PERIOD) h.0 refl

    selectors_once : (from to end : ℕ) → Selects from to → Selects from end → to ≡ end
    selectors_once from to end (inl h) (inl g) =
        let same = list_once tokens (SpellsExpr tokens (depth - 1)) (HasOneOf lengthens_expr tokens) (λ k. HasSymbol tokens k s.RIGHT_ROUND)
        (λ k a b m n i j. inner h.2 k a b m n i.0 j.0) no_comma no_close comma_is_not_close h.0 g.0 (from + 1) h.1 g.1 h.4 h.5 g.4 g.5 in
        omega (arith, h.6, g.6, same)
    selectors_once from to end (inl h) (inr g) = absurd (omega (arith, same_symbol tokens from s.LEFT_ROUND s.PERIOD h.3 g.0))
    selectors_once from to end (inr h) (inl g) = absurd (omega (arith, same_symbol tokens from s.PERIOD s.LEFT_ROUND h.0 g.3))
    selectors_once from to end (inr h) (inr g) = h.1 ∙ sym g.1

    pub selector_once : (from : ℕ) (a b : Selector) (to end : ℕ) → SpellsSelector tokens depth from a to →
        SpellsSelector tokens depth from b end → to ≡ end
    selector_once from a b to end h g = selectors_once from to end (selects from a to h) (selects from b end g)

    pub selector_begins : (from : ℕ) (a : Selector) (to : ℕ) → SpellsSelector tokens depth from a to → LongerRef from
    selector_begins from a to h = selector_lengthens from to (selects from a to h)

    pub selector_lists_meet : (from : ℕ) (xs ys : List Selector) (to end : ℕ) → SpellsEach (SpellsSelector tokens depth) from xs to →
        SpellsEach (SpellsSelector tokens depth) from ys end → Meet LongerRef to end
    selector_lists_meet from xs ys to end h g =
        each_meets (SpellsSelector tokens depth) LongerRef (selector_after tokens depth) selector_begins selector_once xs ys from to end h g

    pub ref_meets : (from : ℕ) (a b : Ref) (to end : ℕ) → SpellsRef tokens depth from a to → SpellsRef tokens depth from b end →
        Meet LongerRef to end
    ref_meets from a b to end h g =
        selector_lists_meet (from + 1) a.selectors.items.items b.selectors.items.items to end h.2 g.2

    -- ---- primaries

    abbrev pub Selected : ℕ → ℕ → Type 0
    Selected from to = (xs : List Selector) × SpellsEach (SpellsSelector tokens depth) from xs to

    abbrev pub Sided : ℕ → ℕ → Type 0
    Sided from to = (side : Side) × HasWord tokens from (side_word side) × Selected (from + 1 + 1) to

    abbrev pub Literally : ℕ → ℕ → Type 0
    Literally from to = (part : Literal) × SpellsLiteral tokens from part to

    -- what a primary that begins with a token of this kind reads
    abbrev pub Reads : What → ℕ → ℕ → Type 0
    Reads (what.Id _) from to = Selected (from + 1) to
    Reads (what.Symbol symbol) from to =
        (part : Expr) × (m : ℕ) × (0 < depth) × (SpellsTerms tokens (depth - 1) (from + 1) part m × (dyad_count part ≤ 100)) ×
        HasSymbol tokens m s.RIGHT_ROUND × (to ≡ m + 1) × (symbol ≡ s.LEFT_ROUND)
    Reads (what.Word code) from to =
        ((code ≡ w.NOW) × (to ≡ from + 1)) ⊎ (((code ≡ w.TRY) × (to ≡ from + 2)) ⊎ Sided from to)
    Reads (what.Number _) from to = Literally from to ⊎ Sided (from + 1) to
    Reads _ from to = Literally from to

    reads_literal : (what : What) (from to : ℕ) → begins_literal what ≡ true → Literally from to → Reads what from to
    reads_literal (what.Id _) from to e h = absurd (let e = e in cc e)
    reads_literal (what.Symbol _) from to e h = absurd (let e = e in cc e)
    reads_literal (what.Word _) from to e h = absurd (let e = e in cc e)
    reads_literal (what.Number _) from to e h = inl h
    reads_literal (what.Decimal _ _) from to e h = h
    reads_literal (what.Clock _) from to e h = h
    reads_literal (what.Bits _ _) from to e h = h
    reads_literal (what.Text _) from to e h = h

    abbrev pub Read : ℕ → ℕ → Type 0
    Read from to = (first : What) × (what_at tokens from ≡ Some first) × Reads first from to

    literally : (from to : ℕ) → (o : Option What) → what_at tokens from ≡ o → option_map begins_literal o ≡ Some true → Literally from to → Read from to
    literally from to None here e h = absurd (let e = e in cc e)
    literally from to (Some first) here e h =
        (first, here, reads_literal first from to (let is : begins_literal first ≡ true = cc e in is) h)

    limit : (from : ℕ) (dimension : Option Number) (side : Side) (m to : ℕ) → SpellsMaybe (SpellsNumber tokens) from dimension m →
        HasWord tokens m (side_word side) → Selected (m + 1 + 1) to → Read from to
    limit from None side m to h g i =
        subst (λ k. Read k to) h (what.Word (side_word side), g, inr (inr (side, g, i)))
    limit from (Some number) side m to h g i =
        (what.Number number.value, h.0.0, inr (side, subst (λ k. HasWord tokens k (side_word side)) h.1 g, subst (λ k. Selected (k + 1 + 1) to) h.1 i))

    pub read : (from : ℕ) (part : Primary) (to : ℕ) → SpellsPrimary tokens depth from part to → Read from to
    read from (primary.Literal part) to h = literally from to (what_at tokens from) refl (literal_begins tokens from part to h) (part, h)
    read from (primary.Ref' name _ row place) to h =
        (what.Id name.text, h.1.0, (items-the_row-Selector _ row, subst (λ X. X) (selectors tokens depth (from + 1) _ row to) h.2))
    read from (primary.Group' _ part place) to h = (what.Symbol s.LEFT_ROUND, h.2, (part, h.0, h.3, h.4, h.5, h.6, refl))
    read from (primary.Now place) to h = (what.Word w.NOW, h.1, inl (refl, h.2))
    read from (primary.Try name place) to h = (what.Word w.TRY, h.1, inr (inl (refl, h.3)))
    read from (primary.Limit' dimension side _ name _ row ref_place place) to h =
        limit from dimension side h.0 to h.2 h.3 (items-the_row-Selector _ row, subst (λ X. X) (selectors tokens depth (h.0 + 1 + 1) _ row to) h.4.2)

    abbrev Longer : ℕ → Type 0
    Longer = HasOneOf lengthens_operand tokens

    ref_operand : (k : ℕ) → LongerRef k → Longer k
    ref_operand k h = has_also lengthens_ref lengthens_operand k by h
      where
        by : (what : What) → lengthens_ref what ≡ true → lengthens_operand what ≡ true
        by (what.Symbol symbol) e = e
        by (what.Id _) e = absurd (let e = e in cc e)
        by (what.Word _) e = absurd (let e = e in cc e)
        by (what.Number _) e = refl
        by (what.Decimal _ _) e = refl
        by (what.Clock _) e = e
        by (what.Bits _ _) e = e
        by (what.Text _) e = e

    literal_operand : (k : ℕ) → HasOneOf lengthens_literal tokens k → Longer k
    literal_operand k h = has_also lengthens_literal lengthens_operand k by h
      where
        or_more : (a b c d : Bool) → a || (b || c) ≡ true → a || (b || (c || d)) ≡ true
        or_more true b c d e = refl
        or_more false true c d e = refl
        or_more false false true d e = refl
        or_more false false false d e = absurd (let e = e in cc e)

        by : (what : What) → lengthens_literal what ≡ true → lengthens_operand what ≡ true
        by (what.Symbol symbol) e = absurd (let e = e in cc e)
        by (what.Id _) e = e
        by (what.Word code) e = or_more (code == w.HRS) (code == w.MIN) (code == w.SEC) ((code == w.LWB) || (code == w.UPB)) e
        by (what.Number _) e = refl
        by (what.Decimal _ _) e = refl
        by (what.Clock _) e = e
        by (what.Bits _ _) e = e
        by (what.Text _) e = e

    selected_meets : (from to end : ℕ) → Selected from to → Selected from end → Meet Longer to end
    selected_meets from to end h g =
        meets_as LongerRef Longer ref_operand (selector_lists_meet from h.0 g.0 to end h.1 g.1)

    sided_meets : (from to end : ℕ) → Sided from to → Sided from end → Meet Longer to end
    sided_meets from to end h g = selected_meets (from + 1 + 1) to end h.2 g.2

    pub side_lengthens : (from : ℕ) (side : Side) → HasWord tokens from (side_word side) → Longer from × (HasOneOf lengthens_literal tokens from → ⊥)
    side_lengthens from Lower h =
        (has_one tokens lengthens_operand from (what.Word w.LWB) h refl, has_none tokens lengthens_literal from (what.Word w.LWB) h refl)
    side_lengthens from Upper h =
        (has_one tokens lengthens_operand from (what.Word w.UPB) h refl, has_none tokens lengthens_literal from (what.Word w.UPB) h refl)

    sided_after : (from to : ℕ) → Sided from to → from < to
    sided_after from to h =
        omega (arith, each_after (SpellsSelector tokens depth) LongerRef (selector_after tokens depth) selector_begins selector_once h.2.0 (from + 1 + 1) to h.2.1)

    literal_or_sided : (from to end : ℕ) → Literally from to → Sided (from + 1) end → (to < end) × Longer to
    literal_or_sided from to end h g =
        let side = side_lengthens (from + 1) g.0 g.1 in
        let single : to ≡ from + 1 = literal_single tokens from h.0 to h.1 side.1 in
        (omega (arith, single, sided_after (from + 1) end g), subst Longer (sym single) side.0)

    no_side : (code : ℕ) (from : ℕ) (side : Side) → HasWord tokens from code → code < w.LWB → HasWord tokens from (side_word side) → ⊥
    no_side code from Lower h low g = absurd (omega (arith, low, same_word tokens from code w.LWB h g))
    no_side code from Upper h low g = absurd (omega (arith, low, same_word tokens from code w.UPB h g))

    word_meets : (code from to end : ℕ) → HasWord tokens from code → Reads (what.Word code) from to → Reads (what.Word code) from end →
        Meet Longer to end
    word_meets code from to end here (inl a) (inl b) = inl (a.1 ∙ sym b.1)
    word_meets code from to end here (inr (inl a)) (inr (inl b)) = inl (a.1 ∙ sym b.1)
    word_meets code from to end here (inr (inr a)) (inr (inr b)) = sided_meets from to end a b
    word_meets code from to end here (inl a) (inr (inl b)) = absurd (omega (arith, a.0, b.0))
    word_meets code from to end here (inr (inl a)) (inl b) = absurd (omega (arith, a.0, b.0))
    word_meets code from to end here (inl a) (inr (inr b)) = absurd (no_side code from b.0 here (omega (arith, a.0)) b.1)
    word_meets code from to end here (inr (inl a)) (inr (inr b)) = absurd (no_side code from b.0 here (omega (arith, a.0)) b.1)
    word_meets code from to end here (inr (inr a)) (inl b) = absurd (no_side code from a.0 here (omega (arith, b.0)) a.1)
    word_meets code from to end here (inr (inr a)) (inr (inl b)) = absurd (no_side code from a.0 here (omega (arith, b.0)) a.1)

    literally_meets : (from to end : ℕ) → Literally from to → Literally from end → Meet Longer to end
    literally_meets from to end h g =
        meets_as (HasOneOf lengthens_literal tokens) Longer literal_operand (literal_ends tokens from h.0 g.0 to end h.1 g.1)

    number_meets : (value from to end : ℕ) → Reads (what.Number value) from to → Reads (what.Number value) from end → Meet Longer to end
    number_meets value from to end (inl a) (inl b) = literally_meets from to end a b
    number_meets value from to end (inr a) (inr b) = sided_meets (from + 1) to end a b
    number_meets value from to end (inl a) (inr b) = inr (inl (literal_or_sided from to end a b))
    number_meets value from to end (inr a) (inl b) = inr (inr (literal_or_sided from end to b a))

    reads_meet : (first : What) (from to end : ℕ) → what_at tokens from ≡ Some first → Reads first from to → Reads first from end → Meet Longer to end
    reads_meet (what.Id _) from to end here h g = selected_meets (from + 1) to end h g
    reads_meet (what.Symbol _) from to end here h g =
        let same = meets_once (HasOneOf lengthens_expr tokens) (no_close h.1 h.4) (no_close g.1 g.4) (inner h.2 (from + 1) h.0 g.0 h.1 g.1 h.3.0 g.3.0) in
        inl (omega (arith, h.5, g.5, same))
    reads_meet (what.Word code) from to end here h g = word_meets code from to end here h g
    reads_meet (what.Number value) from to end here h g = number_meets value from to end h g
    reads_meet (what.Decimal _ _) from to end here h g = literally_meets from to end h g
    reads_meet (what.Clock _) from to end here h g = literally_meets from to end h g
    reads_meet (what.Bits _ _) from to end here h g = literally_meets from to end h g
    reads_meet (what.Text _) from to end here h g = literally_meets from to end h g

    pub primary_meets : (from : ℕ) (a b : Primary) (to end : ℕ) → SpellsPrimary tokens depth from a to → SpellsPrimary tokens depth from b end →
        Meet Longer to end
    primary_meets from a b to end h g =
        let this = read from a to h in
        let that = read from b end g in
        let both : ◌≡◌ {A = Option What} (Some this.0) (Some that.0) = sym this.1 ∙ that.1 in
        let same : this.0 ≡ that.0 = cc both in
        reads_meet that.0 from to end that.1 (subst (λ first. Reads first from to) same this.2) that.2

    -- ---- operands

    pub monad_is : (operator : Monad) → is_monadic (monad_what operator) ≡ true
    monad_is monad.Plus = refl
    monad_is monad.Minus = refl
    monad_is monad.Abs = refl
    monad_is monad.Sign = refl
    monad_is monad.Not = refl

    literal_no_monadic : (k : ℕ) → HasOneOf begins_literal tokens k → HasOneOf is_monadic tokens k → ⊥
    literal_no_monadic k h g = by (what_at tokens k) h g
      where
        by : (o : Option What) → option_map begins_literal o ≡ Some true → option_map is_monadic o ≡ Some true → ⊥
        by None e d = absurd (let e = e in cc e)
        by (Some (what.Symbol _)) e d = absurd (let e = e in cc e)
        by (Some (what.Word _)) e d = absurd (let e = e in cc e)
        by (Some (what.Id _)) e d = absurd (let e = e in cc e)
        by (Some (what.Number _)) e d = absurd (let e = d in cc e)
        by (Some (what.Decimal _ _)) e d = absurd (let e = d in cc e)
        by (Some (what.Clock _)) e d = absurd (let e = d in cc e)
        by (Some (what.Bits _ _)) e d = absurd (let e = d in cc e)
        by (Some (what.Text _)) e d = absurd (let e = d in cc e)

    limit_no_monadic : (from : ℕ) (dimension : Option Number) (side : Side) (m : ℕ) → SpellsMaybe (SpellsNumber tokens) from dimension m →
        HasWord tokens m (side_word side) → HasOneOf is_monadic tokens from → ⊥
    limit_no_monadic from (Some number) side m h g d = has_none tokens is_monadic from (what.Number number.value) h.0.0 refl d
    limit_no_monadic from None Lower m h g d =
        has_none tokens is_monadic from (what.Word w.LWB) (subst (λ k. HasWord tokens k w.LWB) h g) refl d
    limit_no_monadic from None Upper m h g d =
        has_none tokens is_monadic from (what.Word w.UPB) (subst (λ k. HasWord tokens k w.UPB) h g) refl d

    pub primary_no_monadic : (from : ℕ) (part : Primary) (to : ℕ) → SpellsPrimary tokens depth from part to → HasOneOf is_monadic tokens from → ⊥
    primary_no_monadic from (primary.Literal part) to h d = literal_no_monadic from (literal_begins tokens from part to h) d
    primary_no_monadic from (primary.Ref' name _ row place) to h d = has_none tokens is_monadic from (what.Id name.text) h.1.0 refl d
    primary_no_monadic from (primary.Group' _ part place) to h d = has_none tokens is_monadic from (what.Symbol s.LEFT_ROUND) h.2 refl d
    primary_no_monadic from (primary.Now place) to h d = has_none tokens is_monadic from (what.Word w.NOW) h.1 refl d
    primary_no_monadic from (primary.Try name place) to h d = has_none tokens is_monadic from (what.Word w.TRY) h.1 refl d
    primary_no_monadic from (primary.Limit' dimension side _ name _ row ref_place place) to h d = limit_no_monadic from dimension side h.0 h.2 h.3 d

    pub monadics_meet : (from : ℕ) (xs ys : List Monadic) (to end : ℕ) → SpellsEach (SpellsMonadic tokens) from xs to →
        SpellsEach (SpellsMonadic tokens) from ys end → Meet (HasOneOf is_monadic tokens) to end
    monadics_meet from xs ys to end h g =
        each_meets (SpellsMonadic tokens) (HasOneOf is_monadic tokens) (λ k x m i. omega (arith, i.2))
        (λ k x m i. has_one tokens is_monadic k (monad_what x.operator) i.0 (monad_is x.operator)) (λ k x y m n i j. i.2 ∙ sym j.2)
        xs ys from to end h g

    -- the monadic operators before an operand are all that stand there
    pub monadics_once : (from : ℕ) (a b : Operand) (to end : ℕ) (h : SpellsOperand tokens depth from a to) (g : SpellsOperand tokens depth from b end) →
        h.0 ≡ g.0
    monadics_once from a b to end h g =
        meets_once (HasOneOf is_monadic tokens) (primary_no_monadic h.0 a.primary to h.4) (primary_no_monadic g.0 b.primary end g.4)
        (monadics_meet from a.monadics.items.items b.monadics.items.items h.0 g.0 h.3 g.3)

    pub operand_meets : (from : ℕ) (a b : Operand) (to end : ℕ) → SpellsOperand tokens depth from a to → SpellsOperand tokens depth from b end →
        Meet Longer to end
    operand_meets from a b to end h g =
        primary_meets g.0 a.primary b.primary to end
        (subst (λ k. SpellsPrimary tokens depth k a.primary to) (monadics_once from a b to end h g) h.4) g.4
