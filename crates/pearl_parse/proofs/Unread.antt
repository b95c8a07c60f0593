-- What is known of a part that isn't read: where its first token is none of its own, where a part that it holds is
-- missing and that fault is handed on, and where there is no memory.
use Rattle.std.proofs.Common.{◌≡◌, ℕ, Bool, List, Option, Result, Err, sym, subst, arith}
use Rattle.std.specs.Result.{IsErr, IsErrAnd}
use Rattle.pearl_tree.specs.declared.token.What.{What}
use Rattle.pearl_tree.specs.declared.token.Token.{Token}
use Rattle.pearl_tree.specs.Standing.{Spelling}
use Rattle.pearl_parse_expr.specs.declared.reading.Halt.{Halt}
use Rattle.pearl_parse_expr.specs.declared.reading.Halt.TheVariants.{NoMemory}
use Rattle.pearl_parse_expr.specs.declared.reading.Reading.{Reading}
use Rattle.pearl_parse_expr.specs.Stops.{IsHalted}
use Rattle.pearl_parse_expr.specs.Least.{HaltsIn}
use Rattle.pearl_parse_expr.specs.Reads.{ReadsAs, ReadsOnly}
use Rattle.pearl_grammar.specs.Reached.{IsStopped, HaltsBehind}
use Rattle.pearl_parse_expr.specs.Reads.{ReadsOnlyMaybe}
use Rattle.pearl_parse.specs.Reads.{ReadsBehind, ReadsOnlyBehind}
use Rattle.pearl_grammar.proofs.Offered.{halts_in}
use Rattle.pearl_parse.proofs.States.{handed_on}

module _ {X : Type 0} (room : ℕ) (spells : List Token → Spelling X) (tokens : List Token) (from : ℕ) where
  -- none begins
  pub none_read : (halt : Halt) → IsHalted spells tokens from halt → HaltsIn room spells tokens from halt →
      ReadsOnly room spells tokens from (Err halt)
  none_read halt halted halts = record { spells = tt; only = tt; ahead = tt; refused = halted; least = halts }

  pub unread : (Q : Halt → Type 0) (told : Halt) (result : Result (Reading X) Halt) → IsErr result × IsErrAnd result Q →
      ((halt : Halt) → Q halt → halt ≡ told) → IsHalted spells tokens from told →
      HaltsBehind room spells tokens from 0 told → ReadsOnly room spells tokens from result
  unread Q told result h step halted halts =
      handed_on (λ r. ReadsOnly room spells tokens from r) Q told result h step
      (none_read told halted (halts_in room spells tokens from 0 (omega arith) told halts))

  pub no_memory_read : (Q : Halt → Type 0) (told : Halt) (result : Result (Reading X) Halt) →
      IsErr result × IsErrAnd result Q → ((halt : Halt) → Q halt → halt ≡ told) → told ≡ NoMemory →
      ReadsOnly room spells tokens from result
  no_memory_read Q told result h step is =
      handed_on (λ r. ReadsOnly room spells tokens from r) Q told result h step
      (subst (λ halt. ReadsOnly room spells tokens from (Err halt)) (sym is) (none_read NoMemory tt tt))

-- ---- the same of a part that may go on, may be empty, or is told no earlier than what stands before it

module _ {X Y : Type 0} {room : ℕ} {told : List Token → Spelling Y} {part : List Token → Spelling X}
    {tokens : List Token}
    {from : ℕ} (Q : Halt → Type 0) (halt : Halt) (result : Result (Reading Y) Halt)
    (h : IsErr result × IsErrAnd result Q)
    (step : (e : Halt) → Q e → e ≡ halt) where
  pub unread_as : {extends : Option What → Bool} → IsHalted part tokens from halt → HaltsIn room part tokens from halt →
      ReadsAs room told part extends tokens from result
  unread_as {extends} refused least =
      handed_on (λ r. ReadsAs room told part extends tokens from r) Q halt result h step
      (record { spells = tt; longest = tt; ahead = tt; refused = refused; least = least })

  pub unread_only_maybe : {Z : Type 0} {some : List Token → Spelling Z} → IsHalted part tokens from halt →
      HaltsIn room some tokens from halt → ReadsOnlyMaybe room told part some tokens from result
  unread_only_maybe {Z} {some} refused least =
      handed_on (λ r. ReadsOnlyMaybe room told part some tokens from r) Q halt result h step
      (record { spells = tt; only = tt; bounds = tt; refused = refused; least = least })

  pub unread_only_behind : {Z : Type 0} {some : List Token → Spelling Z} {first low : ℕ} →
      IsStopped part tokens from low halt →
      HaltsBehind room some tokens from low halt → ReadsOnlyBehind room told part some tokens from first low result
  unread_only_behind {Z} {some} {first} {low} refused least =
      handed_on (λ r. ReadsOnlyBehind room told part some tokens from first low r) Q halt result h step
      (record { spells = tt; only = tt; bounds = tt; refused = refused; least = least })

  pub unread_behind : {Z : Type 0} {some : List Token → Spelling Z} {extends : Option What → Bool} {first low : ℕ} →
      IsStopped part tokens from low halt → HaltsBehind room some tokens from low halt →
      ReadsBehind room told part some extends tokens from first low result
  unread_behind {Z} {some} {extends} {first} {low} refused least =
      handed_on (λ r. ReadsBehind room told part some extends tokens from first low r) Q halt result h step
      (record { spells = tt; longest = tt; bounds = tt; refused = refused; least = least })

-- no memory, whatever was to be read
pub no_memory_behind : {X Y Z : Type 0} {room : ℕ} {told : List Token → Spelling Y} {part : List Token → Spelling X}
    {some : List Token → Spelling Z} {extends : Option What → Bool} {tokens : List Token} {from first low : ℕ}
    (halt : Halt) →
    halt ≡ NoMemory → ReadsBehind room told part some extends tokens from first low (Err halt)
no_memory_behind {X} {Y} {Z} {room} {told} {part} {some} {extends} {tokens} {from} {first} {low} halt is =
    subst (λ halt. ReadsBehind room told part some extends tokens from first low (Err halt)) (sym is)
    (record { spells = tt; longest = tt; bounds = tt; refused = tt; least = tt })
