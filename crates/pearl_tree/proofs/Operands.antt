-- Which primaries and operands begin at a token: none, or only those that end at a given token at the latest.
use Rattle.std.proofs.Common.{◌≡◌, inl, inr, ℕ, ◌+◌, ◌-◌, ◌≤◌, List, [], ◌∷◌, length, Some, None, refl, sym, subst, ◌∙◌, arith}
use Rattle.pearl_tree.specs.declared.expression.Expr.{Expr}
use Rattle.pearl_tree.specs.declared.expression.Monadic.{Monadic}
use Rattle.pearl_tree.specs.declared.expression.Operand.{Operand}
use Rattle.pearl_tree.specs.declared.expression.Primary.{Primary}
use Rattle.pearl_tree.specs.declared.expression.Selector.{Selector}
use Rattle.pearl_tree.specs.declared.token.What.{What}
use Rattle.pearl_tree.specs.declared.token.What.TheVariants as what
use Rattle.pearl_tree.specs.declared.token.Token.{Token}
use Rattle.pearl_tree.specs.Standing.{HasSymbol, SpellsEach, SpellsMore, SpellsList, what_at}
use Rattle.pearl_tree.specs.Expressions.{SpellsMonadic, SpellsPrimary, SpellsTerms, SpellsExpr, SpellsSelector, dyad_count}
use Rattle.pearl_tree.specs.Chains.{SpellsOperand, IsLongestPrimary, HasNoPrimary, IsLongestOperand, HasNoOperand, IsLongestExpr, HasNoTerms}
use Rattle.pearl_tree.specs.Following.{is_monadic, lengthens_operand, lengthens_expr, HasOneOf, Meet}
use Rattle.pearl_tree.specs.declared.symbol.TheConstants as s
use Rattle.pearl_tree.proofs.Meeting.{meets_after, same_symbol, has_none}
use Rattle.pearl_tree.proofs.OperandEnds as ends
use Rattle.pearl_tree.proofs.Chains.{exprs_meet, primaries_meet}
use Rattle.pearl_tree.proofs.ExpressionsForward.{selector_after}

module _ (tokens : List Token) (depth : ℕ) where
  -- what a primary that begins with a token of this kind reads
  abbrev pub Reads : What → ℕ → ℕ → Type 0
  Reads = ends.Reads tokens depth (λ h. exprs_meet tokens (depth - 1))

  pub no_primary_past : (from : ℕ) → what_at tokens from ≡ None → HasNoPrimary tokens depth from
  no_primary_past from here part to h =
      let that = ends.read tokens depth (λ h. exprs_meet tokens (depth - 1)) from part to h in
      absurd (let e = sym here ∙ that.1 in cc e)

  reads_this : (from : ℕ) (first : What) → what_at tokens from ≡ Some first → (part : Primary) (to : ℕ) → SpellsPrimary tokens depth from part to →
      Reads first from to
  reads_this from first here part to h =
      let that = ends.read tokens depth (λ h. exprs_meet tokens (depth - 1)) from part to h in
      let same : that.0 ≡ first = let e = sym that.1 ∙ here in cc e in
      subst (λ x. Reads x from to) same that.2

  -- where this token stands, no primary begins, if no reading of it is there
  pub no_primary : (from : ℕ) (first : What) → what_at tokens from ≡ Some first → ((to : ℕ) → Reads first from to → ⊥) → HasNoPrimary tokens depth from
  no_primary from first here none part to h = none to (reads_this from first here part to h)

  pub longest_primary : (from : ℕ) (first : What) (to : ℕ) → what_at tokens from ≡ Some first → ((end : ℕ) → Reads first from end → end ≤ to) →
      IsLongestPrimary tokens depth from to
  longest_primary from first to here short part end h = short end (reads_this from first here part end h)

  -- a primary before a token that lengthens none is the longest
  pub primary_stops : (from : ℕ) (part : Primary) (to : ℕ) → SpellsPrimary tokens depth from part to → (HasOneOf lengthens_operand tokens to → ⊥) →
      IsLongestPrimary tokens depth from to
  primary_stops from part to h none other end g =
      meets_after (HasOneOf lengthens_operand tokens) none (primaries_meet tokens depth from part other to end h g)

  -- ---- operands

  pub longest_by_primary : (from : ℕ) (operand : Operand) (to : ℕ) (h : SpellsOperand tokens depth from operand to) →
      IsLongestPrimary tokens depth h.0 to → IsLongestOperand tokens depth from to
  longest_by_primary from operand to h longest other end g =
      let same = ends.monadics_once tokens depth (λ h. exprs_meet tokens (depth - 1)) from operand other to end h g in
      longest other.primary end (subst (λ k. SpellsPrimary tokens depth k other.primary end) (sym same) g.4)

  monadics_length : (from : ℕ) (xs : List Monadic) (to : ℕ) → SpellsEach (SpellsMonadic tokens) from xs to → to ≡ from + length xs
  monadics_length from [] to h = omega (arith, h)
  monadics_length from (x ∷ xs) to h = omega (arith, h.1.2, monadics_length h.0 xs to h.2)

  -- all the monadic operators that stand there, and no primary behind them
  pub no_operand : (from : ℕ) (monadics : List Monadic) (m : ℕ) → SpellsEach (SpellsMonadic tokens) from monadics m →
      (HasOneOf is_monadic tokens m → ⊥) → HasNoPrimary tokens depth m → HasNoOperand tokens depth from
  no_operand from monadics m h all none operand end g =
      by (ends.monadics_meet tokens depth (λ h. exprs_meet tokens (depth - 1)) from monadics operand.monadics.items.items m g.0 h g.3)
    where
      by : Meet (HasOneOf is_monadic tokens) m g.0 → ⊥
      by (inl e) = none operand.primary end (subst (λ k. SpellsPrimary tokens depth k operand.primary end) (sym e) g.4)
      by (inr (inl e)) = all e.1
      by (inr (inr e)) = ends.primary_no_monadic tokens depth (λ h. exprs_meet tokens (depth - 1)) g.0 operand.primary end g.4 e.1

  -- more than 8 monadic operators
  pub no_operand_past : (from : ℕ) (monadics : List Monadic) (m : ℕ) → SpellsEach (SpellsMonadic tokens) from monadics m → 8 ≤ length monadics →
      HasOneOf is_monadic tokens m → HasNoOperand tokens depth from
  no_operand_past from monadics m h full more operand end g =
      by (ends.monadics_meet tokens depth (λ h. exprs_meet tokens (depth - 1)) from monadics operand.monadics.items.items m g.0 h g.3)
    where
      stops : HasOneOf is_monadic tokens g.0 → ⊥
      stops e = ends.primary_no_monadic tokens depth (λ h. exprs_meet tokens (depth - 1)) g.0 operand.primary end g.4 e

      by : Meet (HasOneOf is_monadic tokens) m g.0 → ⊥
      by (inl e) = stops (subst (HasOneOf is_monadic tokens) e more)
      by (inr (inl e)) =
          absurd (omega (arith, e.0, full, g.2, monadics_length from monadics m h, monadics_length from operand.monadics.items.items g.0 g.3))
      by (inr (inr e)) = stops e.1

  -- ---- expressions between brackets, and lists of them

  -- the longest expression ends where any other one ends before a token that lengthens none
  pub closed_once : (most from : ℕ) (a b : Expr) (to end : ℕ) → SpellsTerms tokens depth from a to → IsLongestExpr tokens depth most from to →
      SpellsTerms tokens depth from b end → dyad_count b ≤ most → (HasOneOf lengthens_expr tokens end → ⊥) → end ≡ to
  closed_once most from a b to end h longest g few none = by (exprs_meet tokens depth from a b to end h g)
    where
      by : Meet (HasOneOf lengthens_expr tokens) to end → end ≡ to
      by (inl e) = sym e
      by (inr (inl e)) = absurd (omega (arith, e.0, longest b end g few))
      by (inr (inr e)) = absurd (none e.1)

  -- a list of expressions that a bracket closes passes through this token: the expression before it ended here
  abbrev pub Passes : ℕ → ℕ → Type 0
  Passes from at =
      (ys : List Expr) (end : ℕ) → SpellsList tokens (SpellsExpr tokens depth) from ys end → HasSymbol tokens end s.RIGHT_ROUND →
      (rest : List Expr) × SpellsMore tokens (SpellsExpr tokens depth) at rest end

  no_comma : (k : ℕ) → HasSymbol tokens k s.COMMA → HasOneOf lengthens_expr tokens k → ⊥
  no_comma k h g = has_none tokens lengthens_expr k (what.Symbol s.COMMA) h refl g

  no_close : (k : ℕ) → HasSymbol tokens k s.RIGHT_ROUND → HasOneOf lengthens_expr tokens k → ⊥
  no_close k h g = has_none tokens lengthens_expr k (what.Symbol s.RIGHT_ROUND) h refl g

  stops_at : (k : ℕ) (rest : List Expr) (end : ℕ) → SpellsMore tokens (SpellsExpr tokens depth) k rest end → HasSymbol tokens end s.RIGHT_ROUND →
      HasOneOf lengthens_expr tokens k → ⊥
  stops_at k [] end h c g = no_close k (subst (λ k. HasSymbol tokens k s.RIGHT_ROUND) h c) g
  stops_at k (y ∷ ys) end h c g = no_comma k h.1 g

  pub passes_first : (from : ℕ) (a : Expr) (to : ℕ) → SpellsTerms tokens depth from a to → IsLongestExpr tokens depth 100 from to → Passes from to
  passes_first from a to h longest [] end g c = absurd g
  passes_first from a to h longest (y ∷ ys) end g c =
      let same = closed_once 100 from a y to g.0 h longest g.1.0 g.1.1 (stops_at g.0 ys end g.2 c) in
      (ys, subst (λ k. SpellsMore tokens (SpellsExpr tokens depth) k ys end) same g.2)

  pub passes_next : (from at : ℕ) (a : Expr) (to : ℕ) → Passes from at → HasSymbol tokens at s.COMMA → SpellsTerms tokens depth (at + 1) a to →
      IsLongestExpr tokens depth 100 (at + 1) to → Passes from to
  passes_next from at a to passes comma h longest ys end g c = by (passes ys end g c)
    where
      by : (rest : List Expr) × SpellsMore tokens (SpellsExpr tokens depth) at rest end →
          (rest : List Expr) × SpellsMore tokens (SpellsExpr tokens depth) to rest end
      by ([], h) = absurd (omega (arith, same_symbol tokens at s.COMMA s.RIGHT_ROUND comma (subst (λ k. HasSymbol tokens k s.RIGHT_ROUND) h c)))
      by (z ∷ zs, g) =
          let same = closed_once 100 (at + 1) a z to g.0 h longest g.2.0 g.2.1 (stops_at g.0 zs end g.3 c) in
          (zs, subst (λ k. SpellsMore tokens (SpellsExpr tokens depth) k zs end) same g.3)

  pub passes_end : (from at : ℕ) → Passes from at → HasSymbol tokens at s.RIGHT_ROUND → (ys : List Expr) (end : ℕ) →
      SpellsList tokens (SpellsExpr tokens depth) from ys end → HasSymbol tokens end s.RIGHT_ROUND → end ≡ at
  passes_end from at passes close ys end g c = by (passes ys end g c)
    where
      by : (rest : List Expr) × SpellsMore tokens (SpellsExpr tokens depth) at rest end → end ≡ at
      by ([], h) = h
      by (z ∷ zs, g) = absurd (omega (arith, same_symbol tokens at s.COMMA s.RIGHT_ROUND g.1 close))

  -- no such list is there: behind the expression neither a bracket nor a comma with an expression
  pub passes_none : (from at : ℕ) → Passes from at → (HasSymbol tokens at s.RIGHT_ROUND → ⊥) →
      (HasSymbol tokens at s.COMMA → HasNoTerms tokens depth (at + 1)) → (ys : List Expr) (end : ℕ) →
      SpellsList tokens (SpellsExpr tokens depth) from ys end → HasSymbol tokens end s.RIGHT_ROUND → ⊥
  passes_none from at passes not_closed comma ys end g c = by (passes ys end g c)
    where
      by : (rest : List Expr) × SpellsMore tokens (SpellsExpr tokens depth) at rest end → ⊥
      by ([], h) = not_closed (subst (λ k. HasSymbol tokens k s.RIGHT_ROUND) h c)
      by (z ∷ zs, g) = comma g.1 z g.0 g.2.0

  -- selectors behind which none stands are all that stand there
  pub longest_selectors : (from : ℕ) (xs : List Selector) (to : ℕ) → SpellsEach (SpellsSelector tokens depth) from xs to →
      ((selector : Selector) (end : ℕ) → SpellsSelector tokens depth to selector end → ⊥) → (ys : List Selector) (end : ℕ) →
      SpellsEach (SpellsSelector tokens depth) from ys end → end ≤ to
  longest_selectors from [] to h none [] end g = omega (arith, h, g)
  longest_selectors from [] to h none (y ∷ ys) end g = absurd (none y g.0 (subst (λ k. SpellsSelector tokens depth k y g.0) (sym h) g.1))
  longest_selectors from (x ∷ xs) to h none [] end g = omega (arith, g, selector_after tokens depth from x h.0 h.1, selectors_after xs h.0 to h.2)
    where
      selectors_after : (xs : List Selector) (from to : ℕ) → SpellsEach (SpellsSelector tokens depth) from xs to → from ≤ to
      selectors_after [] from to h = omega (arith, h)
      selectors_after (x ∷ xs) from to h = omega (arith, selector_after tokens depth from x h.0 h.1, selectors_after xs h.0 to h.2)
  longest_selectors from (x ∷ xs) to h none (y ∷ ys) end g =
      let same = ends.selector_once tokens depth (λ h. exprs_meet tokens (depth - 1)) from x y h.0 g.0 h.1 g.1 in
      longest_selectors h.0 xs to h.2 none ys end (subst (λ k. SpellsEach (SpellsSelector tokens depth) k ys end) (sym same) g.2)
