-- What the validator tells.
use Rattle.std.specs.Prelude.{◌≡◌, ℕ, ◌<◌, ◌⊎◌, Option, Some, None}
use Rattle.pearl_instructions.specs.declared.instr.Instr.{Instr}
use Rattle.pearl_instructions.specs.declared.object.Code.{Code}
use Rattle.pearl_instructions.specs.declared.object.Parts.{Parts as Object}
use Rattle.pearl_instructions.specs.Operands.{Shape, asked, v2}
use Rattle.pearl_instructions.specs.Named.{v1}
use Rattle.pearl_instructions.specs.Kinds.{v3, v4, v5}
use Rattle.pearl_instructions.specs.Valid.{keep, v7, v8, v10, v11, v12, judged_at, unsound}
use Rattle.pearl_verify.specs.declared.verify.VerifyFault.{VerifyFault}
use Rattle.pearl_verify.specs.declared.verify.VerifyFault.TheVariants.{Unsound, NoMemory}
use Rattle.pearl_verify.specs.declared.verify.BrokenRule.{BrokenRule}
use Rattle.pearl_verify.specs.declared.routine.Broken.{Broken}
use Rattle.std.specs.Prelude.{slice_get}

-- the least of V1 to V5 that fails
abbrev pub first_rules : Object → ℕ → Code → Instr → Shape → Option ℕ
first_rules o r code instr s =
    keep (v1 o code instr) 1 (keep (v2 (asked o r instr) s) 2 (keep (v3 instr s) 3 (keep (v4 o code instr s) 4 (keep (v5 o code instr) 5 None))))

-- the least of V7 to V12 that fails
abbrev pub last_rules : Object → ℕ → Code → ℕ → Instr → Shape → Option ℕ
last_rules o r code i instr s =
    keep (v7 code i instr) 7 (keep (v8 o r instr) 8 (keep (v10 o r instr s) 10 (keep (v11 o code instr s) 11 (keep (v12 o code instr s) 12 None))))

-- in a routine nothing fails
abbrev pub IsKept : Object → ℕ → Code → Type 0
IsKept o r code = (i : ℕ) → judged_at o r code i (slice_get code.instructions i) ≡ None

-- in a routine this rule fails at this instruction, and nothing before it
abbrev pub IsBroken : Object → ℕ → Code → Broken → Type 0
IsBroken o r code b =
    (judged_at o r code b.instruction (slice_get code.instructions b.instruction) ≡ Some b.rule)
    × ((j : ℕ) → j < b.instruction → judged_at o r code j (slice_get code.instructions j) ≡ None)

-- one instruction stands before another in an object
abbrev pub StandsBefore : ℕ → ℕ → ℕ → ℕ → Type 0
StandsBefore s j r i = (s < r) ⊎ ((s ≡ r) × (j < i))

-- the least routine, instruction and rule that fails
abbrev pub FailsFirst : Object → ℕ → ℕ → ℕ → Type 0
FailsFirst o r i rule = (unsound o r i ≡ Some rule) × ((s j : ℕ) → StandsBefore s j r i → unsound o s j ≡ None)

abbrev pub IsFirst : Object → BrokenRule → Type 0
IsFirst o b = FailsFirst o b.routine b.instruction b.rule

abbrev pub IsLeast : Object → VerifyFault → Type 0
IsLeast o (Unsound r i rule) = FailsFirst o r i rule
IsLeast o NoMemory = Unit {0}

-- a fault of this routine: its first instruction at which a rule fails, and the least one that does
abbrev pub BreaksFirst : Object → ℕ → BrokenRule → Type 0
BreaksFirst o r b = (b.routine ≡ r) × (unsound o r b.instruction ≡ Some b.rule) × ((j : ℕ) → j < b.instruction → unsound o r j ≡ None)
