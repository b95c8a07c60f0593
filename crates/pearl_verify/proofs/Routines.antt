-- Rules fail only in routines, so where none fails in any of these the object is valid.
use Rattle.std.proofs.Common.{◌≡◌, ℕ, ◌+◌, ◌<◌, ◌≤◌, Option, Some, None, length, map, inl, inr, sym, ap, ◌∙◌, arith, length-append}
use Rattle.std.proofs.lemmas.Bool.{cases_lt}
use Rattle.std.proofs.lemmas.List.{length-map}
use Rattle.std.proofs.lemmas.Option.{slice_get_past, slice_get_cases}
use Rattle.pearl_instructions.specs.declared.object.Procedure.{Procedure}
use Rattle.pearl_instructions.specs.declared.object.Task.{Task}
use Rattle.pearl_instructions.specs.declared.object.Parts.{Parts as Object}
use Rattle.pearl_instructions.specs.Objects.{routines, routine_at}
use Rattle.pearl_instructions.specs.Valid.{unsound, unsound_in, IsValid}

routine_count : (o : Object) → length (routines o) ≡ length o.procedures + length o.tasks
routine_count o =
    let codes = map (λ (t : Task). t.code) o.tasks in
    length-append (map (λ (p : Procedure). p.code) o.procedures) codes
    ∙ ap (λ n. n + length codes) (length-map o.procedures (λ (p : Procedure). p.code))
    ∙ ap (λ n. length o.procedures + n) (length-map o.tasks (λ (t : Task). t.code))

sound_past : (o : Object) (r i : ℕ) → length (routines o) ≤ r → unsound o r i ≡ None
sound_past o r i past = ap (λ code. unsound_in o r code i) (slice_get_past (routines o) r past)

pub fails_in_one : (o : Object) (r i rule : ℕ) → unsound o r i ≡ Some rule → r < length o.procedures + length o.tasks
fails_in_one o r i rule h = elim (cases_lt r (length (routines o))) [
  | inl less ↦ let count = routine_count o in omega arith
  | inr past ↦ let none : None ≡ Some rule = sym (sound_past o r i past) ∙ h in cc
]

-- nothing fails before the first number that is no routine's
pub valid_where_all_are : (o : Object) (n : ℕ) → routine_at o n ≡ None → ((r i : ℕ) → r < n → unsound o r i ≡ None) → IsValid o
valid_where_all_are o n none each = elim ((slice_get_cases (routines o) n).1) [
  | inl there ↦ let both : None ≡ Some there.0 = sym none ∙ there.2 in cc
  | inr past ↦ record { sound = λ r i. elim (cases_lt r n) [ inl less ↦ each r i less | inr more ↦ sound_past o r i (omega (arith, more, past.0)) ] }
]
