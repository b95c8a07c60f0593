-- An expression is a chain of operands and operators; two chains from the same token end at the same, or the shorter one
-- before a token that lengthens it; a chain whose operands are the longest, with no operator behind it, is the longest.
use Rattle.std.proofs.lemmas.Bool.{or_cases, eqb-true}
use Rattle.std.proofs.Common.{Box, Global, ◌≡◌, inl, inr, ⊎_elim, ℕ, zero, suc, ◌+◌, ◌-◌, ◌<◌, ◌≤◌, ◌==◌, ◌||◌, Bool, true, false, List, [], ◌∷◌, length, length-append, Option, Some, None, option_map, option_and_then, is_some, refl, sym, ap, subst, ◌∙◌, arith}
use Rattle.pearl_value.specs.declared.operator.Dyad.{Dyad}
use Rattle.pearl_tree.specs.declared.expression.Dyadic.{Dyadic}
use Rattle.pearl_tree.specs.declared.expression.Expr.{Expr, Operand', Dyadic'}
use Rattle.pearl_tree.specs.declared.expression.Expr as expr
use Rattle.pearl_tree.specs.declared.expression.Primary.{Primary}
use Rattle.pearl_tree.specs.declared.expression.Ref.{Ref}
use Rattle.pearl_tree.specs.declared.expression.Operand.{Operand}
use Rattle.pearl_tree.specs.declared.token.What.{What}
use Rattle.pearl_tree.specs.declared.token.What.TheVariants as what
use Rattle.pearl_tree.specs.declared.token.Token.{Token}
use Rattle.pearl_tree.specs.Standing.{IsAt, SpellsEach, what_at}
use Rattle.pearl_tree.specs.Expressions.{SpellsTerms, SpellsPrimary, SpellsRef, dyad_of, dyad_count, HasDyad}
use Rattle.pearl_tree.specs.Chains.{SpellsOperand, Link, SpellsLink, first_operand, links, IsLongestOperand, SpellsLongestLink, HasLongestOperands, HasNoLink, HasNoOperand, HasNoTerms, IsLongestExpr}
use Rattle.pearl_tree.specs.Following.{lengthens_ref, lengthens_operand, lengthens_expr, HasOneOf, Meet}
use Rattle.pearl_tree.specs.declared.symbol.TheConstants as s
use Rattle.pearl_tree.specs.declared.word_code.TheConstants as w
use Rattle.pearl_tree.proofs.ExpressionsForward.{primary_after, monadics_after}
use Rattle.pearl_tree.proofs.ListEnds.{each_joined}
use Rattle.pearl_tree.proofs.OperandEnds.{ExprsMeet, operand_meets, primary_meets, ref_meets, has_also}

module _ (tokens : List Token) (depth : ℕ) where
  -- ---- an expression as a chain

  pub flat : (from : ℕ) (expr : Expr) (to : ℕ) → SpellsTerms tokens depth from expr to →
      (m : ℕ) × SpellsOperand tokens depth from (first_operand expr) m × SpellsEach (SpellsLink tokens depth) m (links expr) to
  flat from (Operand' monadics part place) to h = (to, h, refl)
  flat from (Dyadic' _ left dyadic _ right place) to h =
      let before = flat from left h.0 h.2 in
      let behind = flat (h.0 + 1) right to h.5 in (
        before.0,
        before.1,
        each_joined (SpellsLink tokens depth) (links left) (record { dyadic = dyadic; operand = first_operand right } ∷ links right)
            before.0 h.0 to before.2 (behind.0, (h.3, h.4, behind.1), behind.2),
      )

  pub links_counted : (expr : Expr) → length (links expr) ≡ dyad_count expr
  links_counted (Operand' _ _ _) = refl
  links_counted (Dyadic' _ left dyadic _ right place) =
      let all = length-append (links left) (record { dyadic = dyadic; operand = first_operand right } ∷ links right) in
      omega (arith, all, links_counted left, links_counted right)

  pub operand_after : (from : ℕ) (operand : Operand) (to : ℕ) → SpellsOperand tokens depth from operand to → from < to
  operand_after from operand to h =
      omega (arith, monadics_after tokens from operand.monadics.items.items h.0 h.3, primary_after tokens depth h.0 operand.primary to h.4)

  links_after : (from : ℕ) (xs : List Link) (to : ℕ) → SpellsEach (SpellsLink tokens depth) from xs to → from ≤ to
  links_after from [] to h = omega (arith, h)
  links_after from (x ∷ xs) to h = omega (arith, operand_after (from + 1) x.operand h.0 h.1.2, links_after h.0 xs to h.2)

  -- where no operand begins, no expression does
  pub no_terms : (from : ℕ) → HasNoOperand tokens depth from → HasNoTerms tokens depth from
  no_terms from none expr end h = let chain = flat from expr end h in none (first_operand expr) chain.0 chain.1

  -- ---- where chains end

  -- what an operand goes on with is no dyadic operator
  no_dyad : (k : ℕ) (operator : Dyad) → HasOneOf lengthens_operand tokens k → HasDyad tokens k operator → ⊥
  no_dyad k operator h g = by (what_at tokens k) h g
    where
      -- no word or symbol of these is among the operators
      is : (make : ℕ → What) (code known : ℕ) → (code == known) ≡ true → dyad_of (make known) ≡ None → dyad_of (make code) ≡ Some operator → ⊥
      is make code known e none d =
          absurd (let same = ap (λ n. dyad_of (make n)) (eqb-true code known e) in let wrong = sym d ∙ (same ∙ none) in cc wrong)

      words : (code : ℕ) → lengthens_operand (what.Word code) ≡ true → dyad_of (what.Word code) ≡ Some operator → ⊥
      words code e d =
          ⊎_elim (λ x. is what.Word code w.HRS x refl d) (λ e.
          ⊎_elim (λ x. is what.Word code w.MIN x refl d) (λ e.
          ⊎_elim (λ x. is what.Word code w.SEC x refl d) (λ e.
          ⊎_elim (λ x. is what.Word code w.LWB x refl d) (λ x. is what.Word code w.UPB x refl d)
          (or_cases _ _ e)) (or_cases _ _ e)) (or_cases _ _ e)) (or_cases _ _ e)

      symbols : (symbol : ℕ) → lengthens_operand (what.Symbol symbol) ≡ true → dyad_of (what.Symbol symbol) ≡ Some operator → ⊥
      symbols symbol e d =
          ⊎_elim (λ x. is what.Symbol symbol s.LEFT_ROUND x refl d) (λ x. is what.Symbol symbol s.PERIOD x refl d) (or_cases _ _ e)

      by : (o : Option What) → option_map lengthens_operand o ≡ Some true → option_and_then dyad_of o ≡ Some operator → ⊥
      by None e d = absurd (let e = e in cc e)
      by (Some (what.Symbol symbol)) e d = symbols symbol (let is : lengthens_operand (what.Symbol symbol) ≡ true = cc e in is) d
      by (Some (what.Word code)) e d = words code (let is : lengthens_operand (what.Word code) ≡ true = cc e in is) d
      by (Some (what.Id _)) e d = absurd (let e = d in cc e)
      by (Some (what.Number _)) e d = absurd (let e = d in cc e)
      by (Some (what.Decimal _ _)) e d = absurd (let e = d in cc e)
      by (Some (what.Clock _)) e d = absurd (let e = d in cc e)
      by (Some (what.Bits _ _)) e d = absurd (let e = d in cc e)
      by (Some (what.Text _)) e d = absurd (let e = d in cc e)

  operand_expr : (k : ℕ) → HasOneOf lengthens_operand tokens k → HasOneOf lengthens_expr tokens k
  operand_expr k h = has_also tokens lengthens_operand lengthens_expr k by h
    where
      by : (what : What) → lengthens_operand what ≡ true → lengthens_expr what ≡ true
      by what e = ap (λ b. b || is_some (dyad_of what)) e

  dyad_expr : (k : ℕ) (operator : Dyad) → HasDyad tokens k operator → HasOneOf lengthens_expr tokens k
  dyad_expr k operator h = by (what_at tokens k) h
    where
      or_true : (b : Bool) → b || true ≡ true
      or_true true = refl
      or_true false = refl

      by : (o : Option What) → option_and_then dyad_of o ≡ Some operator → option_map lengthens_expr o ≡ Some true
      by None e = absurd (let e = e in cc e)
      by (Some what) e = ap Some (ap (λ o. lengthens_operand what || is_some o) e ∙ or_true (lengthens_operand what))

  -- behind an operand that could go on, no operator stands
  pub no_links : (from : ℕ) (xs : List Link) (to : ℕ) → SpellsEach (SpellsLink tokens depth) from xs to → HasOneOf lengthens_operand tokens from → to ≡ from
  no_links from [] to h g = h
  no_links from (x ∷ xs) to h g = absurd (no_dyad from x.dyadic.operator g h.1.0)

  -- links behind two operands from the same token
  settle : (m n : ℕ) (xs ys : List Link) (to end : ℕ) → SpellsEach (SpellsLink tokens depth) m xs to → SpellsEach (SpellsLink tokens depth) n ys end →
      (SpellsEach (SpellsLink tokens depth) n xs to → Meet (HasOneOf lengthens_expr tokens) to end) →
      Meet (HasOneOf lengthens_operand tokens) m n → Meet (HasOneOf lengthens_expr tokens) to end
  settle m n xs ys to end i j rest (inl e) = rest (subst (λ k. SpellsEach (SpellsLink tokens depth) k xs to) e i)
  settle m n xs ys to end i j rest (inr (inl e)) =
      let stops = no_links m xs to i e.1 in
      inr (inl (omega (arith, stops, e.0, links_after n ys end j), subst (HasOneOf lengthens_expr tokens) (sym stops) (operand_expr m e.1)))
  settle m n xs ys to end i j rest (inr (inr e)) =
      let stops = no_links n ys end j e.1 in
      inr (inr (omega (arith, stops, e.0, links_after m xs to i), subst (HasOneOf lengthens_expr tokens) (sym stops) (operand_expr n e.1)))

  module _ (inner : 0 < depth → ExprsMeet tokens (depth - 1)) where
    links_meet : (xs ys : List Link) (k to end : ℕ) → SpellsEach (SpellsLink tokens depth) k xs to → SpellsEach (SpellsLink tokens depth) k ys end →
        Meet (HasOneOf lengthens_expr tokens) to end
    links_meet [] [] k to end i j = inl (i ∙ sym j)
    links_meet [] (y ∷ ys) k to end i j =
        inr (inl (
          omega (arith, i, operand_after (k + 1) y.operand j.0 j.1.2, links_after j.0 ys end j.2),
          subst (HasOneOf lengthens_expr tokens) (sym i) (dyad_expr k y.dyadic.operator j.1.0),
        ))
    links_meet (x ∷ xs) [] k to end i j =
        inr (inr (
          omega (arith, j, operand_after (k + 1) x.operand i.0 i.1.2, links_after i.0 xs to i.2),
          subst (HasOneOf lengthens_expr tokens) (sym j) (dyad_expr k x.dyadic.operator i.1.0),
        ))
    links_meet (x ∷ xs) (y ∷ ys) k to end i j =
        settle i.0 j.0 xs ys to end i.2 j.2 (λ h. links_meet xs ys j.0 to end h j.2)
        (operand_meets tokens depth inner (k + 1) x.operand y.operand i.0 j.0 i.1.2 j.1.2)

    step : ExprsMeet tokens depth
    step from a b to end h g =
        let this = flat from a to h in
        let that = flat from b end g in
        settle this.0 that.0 (links a) (links b) to end this.2 that.2 (λ i. links_meet (links a) (links b) that.0 to end i that.2)
        (operand_meets tokens depth inner from (first_operand a) (first_operand b) this.0 that.0 this.1 that.1)

-- two expressions from the same token end at the same, or the shorter one before a token that lengthens it
pub exprs_meet : (tokens : List Token) (depth : ℕ) → ExprsMeet tokens depth
exprs_meet tokens zero = step tokens zero (λ h. absurd (omega (arith, h)))
exprs_meet tokens (suc depth) =
    let less : depth ≡ suc depth - 1 = omega arith in
    step tokens (suc depth) (λ h. subst (ExprsMeet tokens) less (exprs_meet tokens depth))

module _ (tokens : List Token) (depth : ℕ) where
  pub operands_meet : (from : ℕ) (a b : Operand) (to end : ℕ) → SpellsOperand tokens depth from a to → SpellsOperand tokens depth from b end →
      Meet (HasOneOf lengthens_operand tokens) to end
  operands_meet = operand_meets tokens depth (λ h. exprs_meet tokens (depth - 1))

  pub primaries_meet : (from : ℕ) (a b : Primary) (to end : ℕ) → SpellsPrimary tokens depth from a to → SpellsPrimary tokens depth from b end →
      Meet (HasOneOf lengthens_operand tokens) to end
  primaries_meet = primary_meets tokens depth (λ h. exprs_meet tokens (depth - 1))

  pub refs_meet : (from : ℕ) (a b : Ref) (to end : ℕ) → SpellsRef tokens depth from a to → SpellsRef tokens depth from b end →
      Meet (HasOneOf lengthens_ref tokens) to end
  refs_meet = ref_meets tokens depth (λ h. exprs_meet tokens (depth - 1))

  -- ---- the longest expression

  -- two expressions whose operands are the longest, with an operator between them
  pub longest_dyadic : (from : ℕ) (left : Box Expr Global) (dyadic : Dyadic) (right : Box Expr Global) (place m to : ℕ) →
      HasLongestOperands tokens depth from left.value m → HasDyad tokens m dyadic.operator → IsAt tokens m dyadic.place →
      HasLongestOperands tokens depth (m + 1) right.value to → HasLongestOperands tokens depth from (expr.Dyadic left dyadic right place) to
  longest_dyadic from left dyadic right place m to h d at g = (
    h.0,
    h.1,
    h.2,
    each_joined (SpellsLongestLink tokens depth) (links left.value) (record { dyadic = dyadic; operand = first_operand right.value } ∷ links right.value)
        h.0 m to h.3 (g.0, ((d, at, g.1), g.2), g.3),
  )

  pub longest_operand : (from : ℕ) (operand : Operand) (to : ℕ) → SpellsOperand tokens depth from operand to → IsLongestOperand tokens depth from to →
      HasLongestOperands tokens depth from (expr.Operand operand) to
  longest_operand from operand to h longest = (to, h, longest, refl)

  longest_after : (xs : List Link) (from to : ℕ) → SpellsEach (SpellsLongestLink tokens depth) from xs to → from ≤ to
  longest_after [] from to h = omega (arith, h)
  longest_after (x ∷ xs) from to h =
      omega (arith, operand_after tokens depth (from + 1) x.operand h.0 h.1.0.2, longest_after xs h.0 to h.2)

  -- links behind a longest operand, and those behind another from the same token
  not_behind : (m n : ℕ) (ys : List Link) (to end : ℕ) → n ≤ m → m ≤ to → SpellsEach (SpellsLink tokens depth) n ys end →
      (SpellsEach (SpellsLink tokens depth) m ys end → end ≤ to) → Meet (HasOneOf lengthens_operand tokens) m n → end ≤ to
  not_behind m n ys to end low more g rest (inl e) = rest (subst (λ k. SpellsEach (SpellsLink tokens depth) k ys end) (sym e) g)
  not_behind m n ys to end low more g rest (inr (inl e)) = absurd (omega (arith, e.0, low))
  not_behind m n ys to end low more g rest (inr (inr e)) = omega (arith, no_links tokens depth n ys end g e.1, low, more)

  longest_links : (xs ys : List Link) (most from to end : ℕ) → SpellsEach (SpellsLongestLink tokens depth) from xs to →
      (length xs < most → HasNoLink tokens depth to) → SpellsEach (SpellsLink tokens depth) from ys end → length ys ≤ most → end ≤ to
  longest_links [] [] most from to end h none g few = omega (arith, h, g)
  longest_links [] (y ∷ ys) most from to end h none g few =
      absurd (none (omega (arith, few)) y g.0 (subst (λ k. SpellsLink tokens depth k y g.0) (sym h) g.1))
  longest_links (x ∷ xs) [] most from to end h none g few =
      omega (arith, g, operand_after tokens depth (from + 1) x.operand h.0 h.1.0.2, longest_after xs h.0 to h.2)
  longest_links (x ∷ xs) (y ∷ ys) most from to end h none g few =
      not_behind h.0 g.0 ys to end (h.1.1 y.operand g.0 g.1.2) (longest_after xs h.0 to h.2) g.2
      (λ k. longest_links xs ys (most - 1) h.0 to end h.2 (λ l. none (omega (arith, l))) k (omega (arith, few)))
      (operands_meet (from + 1) x.operand y.operand h.0 g.0 h.1.0.2 g.1.2)

  -- a chain of longest operands is the longest where no operator with an operand follows, or where it has as many
  -- operators as there may be
  pub longest_expr : (most from : ℕ) (expr : Expr) (to : ℕ) → HasLongestOperands tokens depth from expr to →
      (dyad_count expr < most → HasNoLink tokens depth to) → IsLongestExpr tokens depth most from to
  longest_expr most from expr to h none other end g few =
      let that = flat tokens depth from other end g in
      not_behind h.0 that.0 (links other) to end (h.2 (first_operand other) that.0 that.1) (longest_after (links expr) h.0 to h.3) that.2
      (λ k. longest_links (links expr) (links other) most h.0 to end h.3 (λ l. none (omega (arith, l, links_counted tokens depth expr))) k
      (omega (arith, few, links_counted tokens depth other)))
      (operands_meet from (first_operand expr) (first_operand other) h.0 that.0 h.1 that.1)

  -- no operator with an operand stands where no operator stands, or behind it no operand begins
  pub no_link : (at : ℕ) → ((operator : Dyad) → HasDyad tokens at operator → HasNoOperand tokens depth (at + 1)) → HasNoLink tokens depth at
  no_link at none link end h = none link.dyadic.operator h.0 link.operand end h.2
