-- How procedures come by their numbers: those that are held in memory call what the module's do, none of them calls itself, and
-- what is read off a numbering are the numbers by the rule.
use Rattle.std.specs.Prelude.{◌≡◌, ℕ, nat_eq, true, List, [], ◌∷◌, length, map, Some, unwrap_or, slice_get}
use Rattle.std.specs.List.{list_any}
use Rattle.std.proofs.Common.{refl, ap, ◌∙◌, sym, arith}
use Rattle.std.proofs.lemmas.Option.{get_or_from_slice_get}
use Rattle.pearl_tree.specs.ShownModules.{ShownTree}
use Rattle.pearl_names.specs.Tables.{table_of}
use Rattle.pearl_calls.specs.Callers.{Caller, callees, calls}
use Rattle.pearl_calls.specs.Cycles.{IsWay, SomeCallsItself}
use Rattle.pearl_calls.specs.Numberings.{IsNumbering}
use Rattle.pearl_calls.proofs.Offered.{only_procedures}
use Rattle.pearl_check.specs.declared.callers.Weighed.{Weighed as HeldWeighed}
use Rattle.pearl_check.specs.Calls.{Weighed, callers_of}
use Rattle.pearl_check.specs.Routines.{routines_of}
use Rattle.pearl_check.specs.Rules.{all_broken}
use Rattle.pearl_check.specs.Sizes.{weighed_procedures}
use Rattle.pearl_check.specs.Weighing.{held_caller, HoldsWeighed}
use Rattle.pearl_sound_sizes.specs.ByRule.{module_callers, calls_in, AreByRule}
use Rattle.pearl_sound_sizes.proofs.ByNumber.{something}
use Rattle.pearl_sound_sizes.proofs.Kept.{no_whole_broken}
use Rattle.pearl_sound_sizes.proofs.Limits.{limits_kept}
use Rattle.pearl_sound_sizes.proofs.Whole.{calls_at}

held_calls : (of : List Weighed) → calls_in (map held_caller of) ≡ calls_in (callers_of of)
held_calls [] = refl
held_calls (weighed ∷ rest) = ap (λ rows. weighed.caller.calls ∷ rows) (held_calls rest)

pub held_callers : (tree : ShownTree) (held : HeldWeighed) → HoldsWeighed held (weighed_procedures (table_of tree) (routines_of tree)) →
    calls_in held.callers.items ≡ calls_in (module_callers tree)
held_callers tree held holds = ap calls_in holds.callers ∙ held_calls (weighed_procedures (table_of tree) (routines_of tree))

-- ways are those of calls alone
same_callees : (one two : List Caller) → calls_in one ≡ calls_in two → (procedure : ℕ) → callees one procedure ≡ callees two procedure
same_callees one two same procedure =
    calls_at one procedure ∙ ap (λ rows. unwrap_or (slice_get rows procedure) []) same ∙ sym (calls_at two procedure)

same_call : (one two : List Caller) → calls_in one ≡ calls_in two → (from to : ℕ) → calls one from to ≡ true → calls two from to ≡ true
same_call one two same from to is = ap (list_any (nat_eq to)) (sym (same_callees one two same from)) ∙ is

same_way : (one two : List Caller) → calls_in one ≡ calls_in two → (from : ℕ) (through : List ℕ) (to : ℕ) → IsWay one from through to →
    IsWay two from through to
same_way one two same from [] to way = same_call one two same from to way
same_way one two same from (next ∷ through) to way = (same_call one two same from next way.0, same_way one two same next through to way.1)

pub none_calls_itself : (tree : ShownTree) (callers : List Caller) → all_broken tree ≡ [] → calls_in callers ≡ calls_in (module_callers tree) →
    SomeCallsItself callers → ⊥
none_calls_itself tree callers none same some =
    let limits = limits_kept tree (no_whole_broken tree none) in
    let number = some.0 in
    let back = some.1 in
    limits.none_back (number, (back.0, same_way callers (module_callers tree) same number back.0 number back.1))

-- what is read off
pub read_off : (tree : ShownTree) (callers : List Caller) (order numbers : List ℕ) → calls_in callers ≡ calls_in (module_callers tree) →
    IsNumbering callers order → length numbers ≡ length callers →
    ((procedure number : ℕ) → slice_get numbers procedure ≡ Some number → slice_get order number ≡ Some procedure) → AreByRule tree numbers
read_off tree callers order numbers same numbering count read = record {
  callers = callers;
  calls = same;
  order = order;
  numbering = numbering;
  are = record {
    within = λ procedure inside. let less = only_procedures callers order procedure numbering inside in omega (arith, less, count);
    place = λ procedure less.
        let own = something numbers procedure less in
        ap (λ n. slice_get order n) (get_or_from_slice_get numbers procedure own.thing 0 own.is) ∙ read procedure own.thing own.is;
  };
}
