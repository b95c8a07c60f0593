-- How far some part goes on, where that is told no earlier than what stands before it was stopped.
use Rattle.std.specs.Prelude.{ℕ, List, Result, Ok, Err}
use Rattle.pearl_tree.specs.declared.token.Token.{Token}
use Rattle.pearl_tree.specs.Standing.{Spelling}
use Rattle.pearl_parse_expr.specs.declared.reading.Halt.{Halt}
use Rattle.pearl_parse_expr.specs.declared.reading.Reading.{Reading}
use Rattle.pearl_grammar.specs.Reached.{GoesBehind, HaltsBehind}

-- some part goes on as far as the stop that is told, or that stop is `least_stop` itself
abbrev pub IsLeastBehind : {X Y : Type 0} → ℕ → (List Token → Spelling X) → List Token → ℕ → ℕ →
    Result (Reading Y) Halt → Type 0
IsLeastBehind room spells tokens from least_stop (Ok reading) = GoesBehind room spells tokens from least_stop
    reading.end reading.stop
IsLeastBehind room spells tokens from least_stop (Err halt) = HaltsBehind room spells tokens from least_stop halt
