-- What is taken together over the expressions of a routine's statements is small enough.
use Rattle.std.specs.Prelude.{ℕ, ◌≤◌, max}
use Rattle.std.proofs.Common.{arith}
use Rattle.pearl_program.specs.Weights.{Sizes, calls, values, callees}
use Rattle.pearl_instructions.specs.declared.object.Parts.{Parts as Object}
use Rattle.pearl_gen_expr.specs.Shapes.{depths}

-- smaller procedures than this one are called, none of them states a greater depth than `most`, and there are at most so many values
module _ (o : Object) (below most need : ℕ) where
  abbrev pub IsSmall : (Sizes → ℕ) → Type 0
  IsSmall of = (of calls ≤ below) × (of (callees (depths o)) ≤ most) × (of values ≤ need)

  -- of expressions of one statement
  pub left : (f g : Sizes → ℕ) → IsSmall (λ z. z.both (f z) (g z)) → IsSmall f
  left f g small = let a = small.0 in let b = small.1 in let c = small.2 in (omega (arith, a), omega (arith, b), omega (arith, c))

  pub right : (f g : Sizes → ℕ) → IsSmall (λ z. z.both (f z) (g z)) → IsSmall g
  right f g small = let a = small.0 in let b = small.1 in let c = small.2 in (omega (arith, a), omega (arith, b), omega (arith, c))

  -- of several statements
  pub first : (f g : Sizes → ℕ) → IsSmall (λ z. max (f z) (g z)) → IsSmall f
  first f g small = let a = small.0 in let b = small.1 in let c = small.2 in (omega (arith, a), omega (arith, b), omega (arith, c))

  pub second : (f g : Sizes → ℕ) → IsSmall (λ z. max (f z) (g z)) → IsSmall g
  second f g small = let a = small.0 in let b = small.1 in let c = small.2 in (omega (arith, a), omega (arith, b), omega (arith, c))
