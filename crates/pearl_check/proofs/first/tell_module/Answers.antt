use Rattle.std.proofs.Common.{◌≡◌, ◌++◌, ℕ, List, Option, Some, None, IfSome, map, subst, sym, ap, ◌∙◌}
use Rattle.pearl_tree.specs.declared.fault.RuleFault.{RuleFault}
use Rattle.pearl_tree.specs.declared.tree.Decl.{Decl}
use Rattle.pearl_tree.specs.Faults.{ListFaults}
use Rattle.pearl_tree.specs.ShownModules.{shown_decl, shown_tree}
use Rattle.pearl_calls.specs.Cycles.{SomeCallsItself}
use Rattle.pearl_calls.specs.Numberings.{IsNumbering}
use Rattle.pearl_check.specs.Calls.{callers_of, s28}
use Rattle.pearl_check.specs.Routines.{routines_of, decls_routines}
use Rattle.pearl_check.specs.Rules.{earlier_of, first}
use Rattle.pearl_check.specs.Sizes.{declared_in, counted_sizes, weighed_procedures, weighed_tasks, weights}
use Rattle.pearl_check.specs.Weighing.{HoldsWeighed}
use Rattle.pearl_check.proofs.CutWeights.{some_told, same_numbering}
use Rattle.pearl_check.proofs.Firsts.{told_more}
use Rattle.pearl_check.proofs.first.tell_module.Goals as goal

pub returns-clause-told : goal.returns-clause-told
returns-clause-told c = λ t holds.
    let routines = routines_of (shown_tree c.args.tree.now) in
    let counted = counted_sizes (declared_in t) in
    let procedures = weighed_procedures t routines in
    let tasks = weighed_tasks t routines in
    let made : c.tell_sizes.new.faults.items ≡ counted = c.in_ok-sizes.ensures.told t holds ∙ ap (λ l. l ++ counted) c.new-faults.ensures.items in
    let lists : ListFaults counted c.as_slice.result.now =
    subst (λ (l : List RuleFault). ListFaults counted l) (sym c.as_slice.ensures.value)
    (subst (λ (l : List RuleFault). ListFaults l c.in_order-faults.result.items) made c.in_order-faults.ensures) in
    let a : c.earlier-told.result ≡ earlier_of c.args.told (first counted) = c.earlier-told.ensures ∙ ap (earlier_of c.args.told) (c.told_of.ensures counted lists) in
    let held : HoldsWeighed c.in_ok-routines.routines.procedures procedures =
    subst (λ (ds : List Decl). HoldsWeighed c.in_ok-routines.routines.procedures (weighed_procedures t (decls_routines 1 (map shown_decl ds))))
    c.as_slice-2.ensures (c.in_ok-routines.ensures.procedures t holds) in
    let held_tasks : HoldsWeighed c.in_ok-routines.routines.tasks tasks =
    subst (λ (ds : List Decl). HoldsWeighed c.in_ok-routines.routines.tasks (weighed_tasks t (decls_routines 1 (map shown_decl ds))))
    c.as_slice-2.ensures (c.in_ok-routines.ensures.tasks t holds) in
    let b : c.in_ok-told.told ≡ earlier_of c.earlier-told.result (first (s28 procedures)) =
    c.in_ok-told.ensures procedures (c.as_slice-4.ensures.value ∙ held.callers) (c.as_slice-5.ensures.value ∙ held.places) in
    c.in_ok-told-2.ensures procedures tasks held held_tasks
    ∙ sym (told_more c.earlier-told.result c.in_ok-told.told (s28 procedures) (weights (s28 procedures) procedures tasks) b)
    ∙ sym (told_more c.args.told c.earlier-told.result counted (s28 procedures ++ weights (s28 procedures) procedures tasks) a)

pub returns-clause-none : goal.returns-clause-none
returns-clause-none c = λ t holds none is.
    let procedures = weighed_procedures t (routines_of (shown_tree c.args.tree.now)) in
    let held : HoldsWeighed c.in_ok-routines.routines.procedures procedures =
    subst (λ (ds : List Decl). HoldsWeighed c.in_ok-routines.routines.procedures (weighed_procedures t (decls_routines 1 (map shown_decl ds))))
    c.as_slice-2.ensures (c.in_ok-routines.ensures.procedures t holds) in
    let some = c.in_ok-numbering.ensures.none.0 none in
    some_told procedures (subst SomeCallsItself (c.as_slice-3.ensures.value ∙ held.callers) some) is

each_some : (found : Option (List ℕ)) (P Q : List ℕ → Type 0) → ((order : List ℕ) → P order → Q order) → IfSome found P → IfSome found Q
each_some None P Q go held = held
each_some (Some order) P Q go held = go order held

pub returns-clause-rule : goal.returns-clause-rule
returns-clause-rule c = λ t holds.
    let procedures = weighed_procedures t (routines_of (shown_tree c.args.tree.now)) in
    let held : HoldsWeighed c.in_ok-routines.routines.procedures procedures =
    subst (λ (ds : List Decl). HoldsWeighed c.in_ok-routines.routines.procedures (weighed_procedures t (decls_routines 1 (map shown_decl ds))))
    c.as_slice-2.ensures (c.in_ok-routines.ensures.procedures t holds) in
    each_some c.in_ok-numbering.numbering (IsNumbering c.as_slice-3.result.now) (IsNumbering (callers_of procedures))
    (λ order is. same_numbering procedures order (subst (λ l. IsNumbering l order) (c.as_slice-3.ensures.value ∙ held.callers) is))
    c.in_ok-numbering.ensures.rule
