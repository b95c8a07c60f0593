-- How a reader goes on behind a part that it read: what is left of the whole, told in both ways, and how the whole ends
-- with its last part or with a semicolon.
use Rattle.std.proofs.Common.{◌≡◌, ℕ, ◌+◌, ◌*◌, ◌≤◌, List, length, Result, Ok, arith}
use Rattle.std.specs.Result.{IsErr, IsErrAnd}
use Rattle.pearl_tree.specs.declared.token.Token.{Token}
use Rattle.pearl_tree.specs.Standing.{Spelling}
use Rattle.pearl_parse_expr.specs.declared.reading.Halt.{Halt}
use Rattle.pearl_parse_expr.specs.declared.reading.Reading.{Reading}
use Rattle.pearl_parse_expr.specs.Stops.{IsOnly}
use Rattle.pearl_parse_expr.specs.Least.{GoesIn}
use Rattle.pearl_parse_expr.specs.Reads.{ReadsOnly}
use Rattle.pearl_parse_expr.proofs.Offered.{IsLocal}
use Rattle.pearl_grammar.specs.Reached.{IsStopped, HaltsBehind}
use Rattle.pearl_parse.specs.Reads.{ReadsOnlyBehind}
use Rattle.pearl_grammar.proofs.Offered.{Rest, Ends, Next, ends_fill, State, past_part, halt_part, done, goes_in_told}
use Rattle.pearl_parse.proofs.Steps.{Goes, past_only, no_part}
use Rattle.pearl_parse.proofs.Unread.{unread}

-- from number `at` on, no earlier than `first`, whatever begins as the whole does goes on by `rest`, and what `made`
-- says makes a whole one; what stands before the whole was stopped at `low`
pub record Stands {X : Type 0} (room : ℕ) (whole : List Token → Spelling X) (tokens : List Token) (from low first : ℕ)
    (rest made : Rest) (at stop : ℕ) : Type 0 where
  pub goes : Goes whole tokens from rest at stop
  pub level : State room whole tokens from low made at stop
  pub ahead : first ≤ at
  pub near : from ≤ stop
  pub inside : stop ≤ length tokens

module _ {X : Type 0} (room : ℕ) (whole : List Token → Spelling X) (tokens : List Token) (from first at stop : ℕ) where
  -- before the last part, which has one end
  module _ {P Q : Type 0} (inner : ℕ) (part : List Token → Spelling P) (some : List Token → Spelling Q)
      (is_local : IsLocal some) (few : inner ≤ room)
      (a : Stands room whole tokens from 0 first (Next part Ends) (Next some Ends) at stop) where
    fits : inner + 0 + 8 * from ≤ room + 8 * at
    fits = omega (arith, few, a.level.near)

    pub no_last : {R : Halt → Type 0} (halt : Halt) (result : Result (Reading X) Halt) →
        IsErr result × IsErrAnd result R → ((e : Halt) → R e → e ≡ halt) → IsStopped part tokens at stop halt →
        HaltsBehind inner some tokens at stop halt → ReadsOnly room whole tokens from result
    no_last {R} halt result h step refused least =
        unread room whole tokens from R halt result h step
        (no_part whole tokens from part Ends at stop halt a.goes a.near refused)
        (halt_part room whole tokens from 0 0 inner some Ends is_local ends_fill (omega arith) at stop fits a.level halt
        least)

    module _ {T : Type 0} {told : List Token → Spelling T} (x : Reading T)
        (read : ReadsOnlyBehind inner told part some tokens at (at + 1) stop (Ok x)) where
      pub last_is_only : IsOnly whole tokens from x.end x.stop
      last_is_only = past_only whole tokens from part Ends at stop x.end x.stop a.goes read.bounds.2 read.only

      pub last_goes : (y : Q) → some tokens at y x.end → GoesIn room whole tokens from x.end x.stop
      last_goes y h =
          goes_in_told room whole tokens from 0 (omega arith) x.end x.stop
          (omega (arith, a.level.near, read.bounds))
          (done room whole tokens from 0 x.end x.stop x.stop
          (past_part room whole tokens from 0 0 inner some Ends is_local ends_fill (omega arith) at stop fits a.level y
          x.end x.stop h (omega (arith, read.bounds)) (omega (arith, read.bounds)) read.least)
          (omega (arith, read.bounds)))
