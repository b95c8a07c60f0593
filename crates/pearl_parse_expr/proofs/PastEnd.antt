-- Past the last token nothing begins.
use Rattle.std.proofs.Common.{◌≡◌, ℕ, zero, suc, ◌-◌, ◌≤◌, ◌^◌, List, [], ◌∷◌, length, Some, None, slice_get, unwrap_or}
use Rattle.std.proofs.Common.{refl, sym, ap, subst, ◌∙◌, arith, true≢false}
use Rattle.std.specs.Option.{option_map}
use Rattle.pearl_tree.specs.declared.expression.Expr.{Expr}
use Rattle.pearl_tree.specs.declared.expression.Monadic.{Monadic}
use Rattle.pearl_tree.specs.declared.expression.Primary.{Primary}
use Rattle.pearl_tree.specs.declared.expression.Primary as primary
use Rattle.pearl_tree.specs.declared.token.Token.{Token}
use Rattle.pearl_tree.specs.Standing.{what_at, SpellsEach}
use Rattle.pearl_tree.specs.Expressions.{SpellsExpr, SpellsMonadic, SpellsPrimary}
use Rattle.pearl_parse_expr.specs.Stops.{stop_place}
use Rattle.pearl_parse_expr.proofs.Primaries.{Head, first_token}
use Rattle.pearl_parse_expr.proofs.Chains.{flat}

nothing : (tokens : List Token) (k : ℕ) → length tokens ≤ k → slice_get tokens k ≡ None
nothing [] k past = refl
nothing (x ∷ xs) zero past = absurd (omega arith)
nothing (x ∷ xs) (suc k) past = nothing xs k (omega arith)

pub no_token : (tokens : List Token) (k : ℕ) → length tokens ≤ k → what_at tokens k ≡ None
no_token tokens k past = ap (option_map (λ token. token.what)) (nothing tokens k past)

pub no_place : (tokens : List Token) (k : ℕ) → length tokens ≤ k → stop_place tokens k ≡ 2 ^ 32 - 1
no_place tokens k past = ap (λ token. unwrap_or (option_map (λ token. token.place) token) (2 ^ 32 - 1))
    (nothing tokens k past)

no_head : (x : Primary) → Head x None → ⊥
no_head (primary.Literal part) h = true≢false (sym h)
no_head (primary.Ref' name _ list place) h = true≢false (sym h)
no_head (primary.Group' _ inner place) h = true≢false (sym h)
no_head (primary.Now place) h = true≢false (sym h)
no_head (primary.Try name place) h = true≢false (sym h)
no_head (primary.Limit' None side _ name _ list ref_place place) h = true≢false (sym h)
no_head (primary.Limit' (Some number) side _ name _ list ref_place place) h = true≢false (sym h)

no_operand : (tokens : List Token) (depth from m to : ℕ) (list : List Monadic) (x : Primary) →
    what_at tokens from ≡ None →
    SpellsEach (SpellsMonadic tokens) from list m → SpellsPrimary tokens depth m x to → ⊥
no_operand tokens depth from m to [] x none each part =
    no_head x
    (subst (Head x) none
    (first_token tokens depth from x to (subst (λ k. SpellsPrimary tokens depth k x to) each part)))
no_operand tokens depth from m to (y ∷ ys) x none each part = cc (sym none ∙ each.1.0)

pub no_expression : (tokens : List Token) (depth from : ℕ) → what_at tokens from ≡ None → (x : Expr) (to : ℕ) →
    SpellsExpr tokens depth from x to → ⊥
no_expression tokens depth from none x to h =
    let chain = flat tokens depth from x to h.0 in
    let operand = chain.1.1 in
    no_operand tokens depth from operand.0 chain.0 operand.1 chain.1.0 none operand.2.1 operand.3
