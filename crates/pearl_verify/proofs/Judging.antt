-- The least rule that fails, from those before V6 and those behind it.
use Rattle.std.proofs.Common.{◌≡◌, ℕ, ◌+◌, ◌<◌, Option, Some, None, length, slice_get, refl, sym, ap, ◌∙◌, arith, Bool, true, false, inl, inr, eq-eqb, ne_eqb}
use Rattle.std.specs.Prelude.{if◌then◌else◌}
use Rattle.std.proofs.lemmas.Bool.{cases_eq, cases_order}
use Rattle.std.proofs.lemmas.Option.{slice_get_past}
use Rattle.pearl_instructions.specs.declared.instr.Instr.{Instr}
use Rattle.pearl_instructions.specs.declared.object.Code.{Code}
use Rattle.pearl_instructions.specs.declared.object.Parts.{Parts as Object}
use Rattle.pearl_instructions.specs.Operands.{Shape, asked, v2}
use Rattle.pearl_instructions.specs.Named.{v1}
use Rattle.pearl_instructions.specs.Kinds.{v3, v4, v5, shape_after}
use Rattle.pearl_instructions.specs.Valid.{keep, shape_before, v6, judged, judged_whole, judged_at}
use Rattle.pearl_verify.specs.Verdicts.{first_rules, last_rules}

keep_first : (a b c d e : Bool) (later : Option ℕ) (rule : ℕ) → keep a 1 (keep b 2 (keep c 3 (keep d 4 (keep e 5 None)))) ≡ Some rule →
    keep a 1 (keep b 2 (keep c 3 (keep d 4 (keep e 5 later)))) ≡ Some rule
keep_first false b c d e later rule h = h
keep_first true false c d e later rule h = h
keep_first true true false d e later rule h = h
keep_first true true true false e later rule h = h
keep_first true true true true false later rule h = h
keep_first true true true true true later rule h = cc

keep_later : (a b c d e : Bool) (later : Option ℕ) → keep a 1 (keep b 2 (keep c 3 (keep d 4 (keep e 5 None)))) ≡ None →
    (a ≡ true) × (keep a 1 (keep b 2 (keep c 3 (keep d 4 (keep e 5 later)))) ≡ later)
keep_later false b c d e later h = cc
keep_later true false c d e later h = cc
keep_later true true false d e later h = cc
keep_later true true true false e later h = cc
keep_later true true true true false later h = cc
keep_later true true true true true later h = (refl, refl)

pub judged_first : (o : Object) (r : ℕ) (code : Code) (i : ℕ) (instr : Instr) (s : Shape) (rule : ℕ) → first_rules o r code instr s ≡ Some rule →
    judged o r code i instr s ≡ Some rule
judged_first o r code i instr s rule h =
    keep_first (v1 o code instr) (v2 (asked o r instr) s) (v3 instr s) (v4 o code instr s) (v5 o code instr)
    (keep (v6 o r code i instr (shape_after o r code instr s)) 6 (last_rules o r code i instr s)) rule h

pub judged_later : (o : Object) (r : ℕ) (code : Code) (i : ℕ) (instr : Instr) (s : Shape) → first_rules o r code instr s ≡ None →
    (v1 o code instr ≡ true) × (judged o r code i instr s ≡ keep (v6 o r code i instr (shape_after o r code instr s)) 6 (last_rules o r code i instr s))
judged_later o r code i instr s h =
    keep_later (v1 o code instr) (v2 (asked o r instr) s) (v3 instr s) (v4 o code instr s) (v5 o code instr)
    (keep (v6 o r code i instr (shape_after o r code instr s)) 6 (last_rules o r code i instr s)) h

-- behind the last instruction stand the rules on the whole routine, and behind that nothing
pub whole_at : (o : Object) (r : ℕ) (code : Code) → judged_at o r code (length code.instructions) (slice_get code.instructions (length code.instructions)) ≡ judged_whole code
whole_at o r code =
    let n : ℕ = length code.instructions in
    ap (judged_at o r code n) (slice_get_past code.instructions n (omega arith)) ∙ ap (λ b. if b then judged_whole code else None) (eq-eqb n n refl)

pub kept_all : (o : Object) (r : ℕ) (code : Code) → ((j : ℕ) → j < length code.instructions → judged_at o r code j (slice_get code.instructions j) ≡ None) →
    judged_whole code ≡ None → (i : ℕ) → judged_at o r code i (slice_get code.instructions i) ≡ None
kept_all o r code each whole i = elim (cases_order i (length code.instructions)) [
  | inl same ↦ ap (λ i. judged_at o r code i (slice_get code.instructions i)) same ∙ (whole_at o r code ∙ whole)
  | inr (inl less) ↦ each i less
  | inr (inr more) ↦ ap (judged_at o r code i) (slice_get_past code.instructions i (omega (arith, more)))
      ∙ ap (λ b. if b then judged_whole code else None) (ne_eqb i (length code.instructions) (λ e. omega (arith, e, more)))
]

pub kept_more : (o : Object) (r : ℕ) (code : Code) (i : ℕ) (instr : Instr) → slice_get code.instructions i ≡ Some instr →
    judged o r code i instr (shape_before o r code i) ≡ None → ((j : ℕ) → j < i → judged_at o r code j (slice_get code.instructions j) ≡ None) →
    (j : ℕ) → j < i + 1 → judged_at o r code j (slice_get code.instructions j) ≡ None
kept_more o r code i instr at none each j less = elim (cases_eq j i) [
  | inl same ↦ ap (λ i. judged_at o r code i (slice_get code.instructions i)) same ∙ (ap (judged_at o r code i) at ∙ none)
  | inr other ↦ each j (omega (arith, less, other))
]

-- what is told of an instruction: t is the shape with which it was asked, s the one before the instruction
pub told_first : (o : Object) (r : ℕ) (code : Code) (i : ℕ) (instr : Instr) (s t : Shape) (rule : ℕ) → t ≡ s → Some rule ≡ first_rules o r code instr t →
    Some rule ≡ judged o r code i instr s
told_first o r code i instr s t rule same e =
    sym (judged_first o r code i instr s rule (ap (first_rules o r code instr) (sym same) ∙ sym e))

later_than : (o : Object) (r : ℕ) (code : Code) (i : ℕ) (instr : Instr) (s t after : Shape) (b : Bool) → t ≡ s → None ≡ first_rules o r code instr t →
    after ≡ shape_after o r code instr t → b ≡ v6 o r code i instr after → judged o r code i instr s ≡ keep b 6 (last_rules o r code i instr s)
later_than o r code i instr s t after b same e left flows =
    (judged_later o r code i instr s (ap (first_rules o r code instr) (sym same) ∙ sym e)).1
    ∙ ap (λ z. keep (v6 o r code i instr (shape_after o r code instr z)) 6 (last_rules o r code i instr s)) (sym same)
    ∙ ap (λ z. keep (v6 o r code i instr z) 6 (last_rules o r code i instr s)) (sym left)
    ∙ ap (λ b. keep b 6 (last_rules o r code i instr s)) (sym flows)

pub told_flow : (o : Object) (r : ℕ) (code : Code) (i : ℕ) (instr : Instr) (s t after : Shape) (b : Bool) → t ≡ s → None ≡ first_rules o r code instr t →
    after ≡ shape_after o r code instr t → b ≡ v6 o r code i instr after → b ≡ false → Some 6 ≡ judged o r code i instr s
told_flow o r code i instr s t after b same e left flows stops =
    sym (later_than o r code i instr s t after b same e left flows ∙ ap (λ b. keep b 6 (last_rules o r code i instr s)) stops)

pub told_last : (o : Object) (r : ℕ) (code : Code) (i : ℕ) (instr : Instr) (s t after : Shape) (b : Bool) (last : Option ℕ) → t ≡ s → None ≡ first_rules o r code instr t →
    after ≡ shape_after o r code instr t → b ≡ v6 o r code i instr after → b ≡ true → last ≡ last_rules o r code i instr t → last ≡ judged o r code i instr s
told_last o r code i instr s t after b last same e left flows goes told =
    told ∙ ap (last_rules o r code i instr) same
    ∙ sym (later_than o r code i instr s t after b same e left flows ∙ ap (λ b. keep b 6 (last_rules o r code i instr s)) goes)
