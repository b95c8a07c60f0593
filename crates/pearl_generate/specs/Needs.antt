-- What the expressions of a statement need: how many values stand in them, and the greatest weight of a procedure that
-- they call.
use Rattle.std.specs.Prelude.{ℕ, ◌+◌, max, List}
use Rattle.pearl_program.specs.PlainExpressions.{PlainArguments}
use Rattle.pearl_program.specs.Weights.{Sizes, values, callees, of_arguments}
use Rattle.pearl_generate.specs.declared.need.Need.{Need}

-- what is taken together so, where procedures have these weights
abbrev pub need_of : List ℕ → (Sizes → ℕ) → Need
need_of weights taken = record { values = taken values; deepest = taken (callees weights) }

-- of two parts of a statement's expressions
abbrev pub both_needs : Need → Need → Need
both_needs a b = record { values = a.values + b.values; deepest = max a.deepest b.deepest }

-- the greatest of two statements
abbrev pub greater_need : Need → Need → Need
greater_need a b = record { values = max a.values b.values; deepest = max a.deepest b.deepest }

-- of a call, apart from its result
abbrev pub of_call : ℕ → PlainArguments → Sizes → ℕ
of_call procedure arguments sizes = sizes.both (sizes.call procedure) (of_arguments sizes arguments)
