use Rattle.std.proofs.Common.{◌≡◌, ◌++◌, ap, subst, ◌∙◌}
use Rattle.pearl_tree.specs.Faults.{ListFaults}
use Rattle.pearl_tree.specs.ShownModules.{shown_tree}
use Rattle.pearl_system.specs.Rules.{broken, faults_of, s10, s13, s14}
use Rattle.pearl_system.proofs.Walks.{all_faults}
use Rattle.pearl_system.proofs.system.Goals as goal

pub returns-clause-faults : goal.returns-clause-faults
returns-clause-faults c =
    let part = c.system_part-part.result.now in
    let names = c.in_ok-names.names.items in
    let all : c.add_s14.new.faults.items ≡ faults_of part names =
    all_faults part names (c.in_ok-first.ensures.faults ∙ ap (λ l. l ++ s10 part) c.new-faults.ensures.items) c.in_ok-add_s11.ensures c.in_ok-add_s12.ensures
    (c.in_ok-add_s13.ensures ∙ ap (λ s. c.add_s12.new.faults.items ++ s13 part s) c.as_slice.ensures.value)
    (c.in_ok-add_s14.ensures ∙ ap (λ s. c.add_s13.new.faults.items ++ s14 part s) c.as_slice-2.ensures.value) in
    let told : c.add_s14.new.faults.items ≡ broken (shown_tree c.args.tree.now) = all ∙ (λ i. faults_of (c.system_part-part.ensures i) (c.in_ok-names.ensures i)) in
    subst (λ faults. ListFaults faults c.in_order.result.items) told c.in_order.ensures
