-- What a sink took in a call, measured against what was due.
use Rattle.std.specs.Prelude.{◌≡◌, ◌≢◌, ℕ, List, [], ◌++◌, Option, Result, Ok, Err}
use Rattle.pearl_io.specs.Outside.{Takes}
use Rattle.pearl_script.specs.Refusals.{refusal_line}
use Rattle.pearl_top.specs.declared.failure.Failure.{Failure}
use Rattle.pearl_top.specs.declared.failure.Failure.TheVariants as failure
use Rattle.pearl_top.specs.declared.status.Status.{Status}
use Rattle.pearl_top.specs.declared.status.Status.TheVariants.{Done, WriteFault}
use Rattle.pearl_top.specs.Status.{status_of}

-- the sink took all of what is due
pub record Finishes (old new : Option (List ℕ)) (due : List ℕ → Type 0) : Type 0 where
  pub bytes : List ℕ
  pub is_due : due bytes
  pub taken : Takes old new bytes

-- the sink took a front, and not all, of what is due with some status
pub record Stops (old new : Option (List ℕ)) (due : Status → List ℕ → Type 0) : Type 0 where
  pub status : Status
  pub front : List ℕ
  pub rest : List ℕ
  pub is_due : due status (front ++ rest)
  pub more : rest ≢ []
  pub taken : Takes old new front

-- what the sink took in a call that ended with this status
abbrev pub Ends : Option (List ℕ) → Option (List ℕ) → (Status → List ℕ → Type 0) → Status → Type 0
Ends old new due WriteFault = Stops old new due
Ends old new due status = Finishes old new (due status)

-- what is due where just this status comes, with these bytes
abbrev pub OnlyDue : Status → List ℕ → Status → List ℕ → Type 0
OnlyDue status bytes s written = (s ≡ status) × (written ≡ bytes)

-- What the sink took up to where a command ended: all that is due; or all but the line of a refusal, with which it is due; or,
-- where writing failed, a front.
abbrev pub Leaves : Option (List ℕ) → Option (List ℕ) → Type 0 → (Status → List ℕ → Type 0) → Result (Unit {0}) Failure → Type 0
Leaves old new failed due (Ok done) = Finishes old new (due Done)
Leaves old new failed due (Err (failure.Refused refusal)) = Finishes old new (λ bytes. due (status_of refusal) (bytes ++ refusal_line refusal))
Leaves old new failed due (Err failure.WriteFault) = failed × Stops old new due

-- what the sink took, and which status comes, after a command ended: where it was refused, the line of the refusal
abbrev pub Concludes : Option (List ℕ) → Option (List ℕ) → Result (Unit {0}) Failure → Status → Type 0
Concludes old new (Ok done) status = (status ≡ Done) × (new ≡ old)
Concludes old new (Err (failure.Refused refusal)) status = Ends old new (OnlyDue (status_of refusal) (refusal_line refusal)) status
Concludes old new (Err failure.WriteFault) status = (status ≡ WriteFault) × (new ≡ old)
