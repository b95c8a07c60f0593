-- Why a part is not read, where what it begins with is not.
use Rattle.std.proofs.Common.{◌≡◌, ℕ, ◌≤◌, List, Result, Ok, Err, IfOk, IfErr, length, ap, subst, arith}
use Rattle.std.specs.Result.{IsErr, IsErrAnd}
use Rattle.pearl_tree.specs.declared.token.Token.{Token}
use Rattle.pearl_tree.specs.Standing.{Spelling}
use Rattle.pearl_parse_expr.specs.declared.reading.Halt.{Halt}
use Rattle.pearl_parse_expr.specs.declared.reading.Halt.TheVariants.{Refused, NoMemory}
use Rattle.pearl_tree.specs.Stops.{BeginAlike}
use Rattle.pearl_parse_expr.specs.Stops.{Stuck, IsHalted}

pub halted : {X Y : Type 0} (first : List Token → Spelling X) (whole : List Token →
    Spelling Y) (tokens : List Token) (from at : ℕ) (halt : Halt) →
    from ≤ at →
    ((others : List Token) (stop : ℕ) → at ≤ stop → BeginAlike tokens others stop → (y : Y) (to : ℕ) →
    whole others from y to →
    (x : X) × (k : ℕ) × first others at x k) →
    IsHalted first tokens at halt → IsHalted whole tokens from halt
halted first whole tokens from at NoMemory below begins h = tt
halted first whole tokens from at (Refused stop) below begins h = (
  λ others agree y to whole. let read = begins others stop h.1 agree y to whole in
      h.0 others agree read.0 read.1 read.2,
  omega (arith, h.1),
  h.2,
)

-- what holds at every depth
pub at_depth : {X E : Type 0} (holds : ℕ → E → Type 0) (depth : ℕ) (result : Result X E) →
    IfErr result (λ e. (d : ℕ) → holds d e) → IfErr result (λ e. holds depth e)
at_depth holds depth (Ok x) h = tt
at_depth holds depth (Err e) h = h depth

pub ok_map : {X E : Type 0} (before after : X → Type 0) (result : Result X E) → ((x : X) → before x → after x) →
    IfOk result before → IfOk result after
ok_map before after (Ok x) step h = step x h
ok_map before after (Err e) step h = tt

pub err_map : {X E : Type 0} (before after : E → Type 0) (result : Result X E) → ((e : E) → before e → after e) →
    IfErr result before → IfErr result after
err_map before after (Ok x) step h = tt
err_map before after (Err e) step h = step e h

pub stuck_of : {X : Type 0} (spells : List Token → Spelling X) (tokens : List Token) (from stop : ℕ) (halt : Halt) →
    halt ≡ Refused stop →
    IsHalted spells tokens from halt → Stuck spells tokens from stop × (from ≤ stop) × (stop ≤ length tokens)
stuck_of spells tokens from stop halt is h = subst (λ halt. IsHalted spells tokens from halt) is h

-- what `?` hands on
pub residual : {X E : Type 0} (told : E) (result : Result X E) → IsErr result × IsErrAnd result (λ e. e ≡ told) →
    result ≡ Err told
residual told (Ok x) h = absurd h.1
residual told (Err e) h = ap Err h.1
