use Rattle.std.proofs.Common.{◌≡◌, ◌++◌, List, subst, sym, ap, ◌∙◌}
use Rattle.pearl_tree.specs.declared.fault.RuleFault.{RuleFault}
use Rattle.pearl_tree.specs.Faults.{ListFaults}
use Rattle.pearl_tree.specs.ShownModules.{shown_tree}
use Rattle.pearl_scope.specs.Rules as names
use Rattle.pearl_names.specs.Tables.{table_of}
use Rattle.pearl_system.specs.Rules as devices
use Rattle.pearl_check.specs.Rules.{earlier_of, first, statements_broken, whole_broken}
use Rattle.pearl_check.proofs.Accepting.{none_cycles}
use Rattle.pearl_check.proofs.Firsts.{first-append, earlier_of-assoc}
use Rattle.pearl_check.proofs.first.judge.Goals as goal

pub returns-clause-told : goal.returns-clause-told
returns-clause-told c =
    let tree = shown_tree c.args.tree.now in
    let t = table_of tree in
    let holds = c.in_ok-table.ensures.table in
    let n = names.broken tree in
    let d = devices.broken tree in
    let s = statements_broken t tree in
    let one : c.told_of.result ≡ first n =
    c.told_of.ensures n (subst (λ (l : List RuleFault). ListFaults n l) (sym c.as_slice.ensures.value) c.in_ok-table.ensures.faults) in
    let two : c.told_of-2.result ≡ first d =
    c.told_of-2.ensures d (subst (λ (l : List RuleFault). ListFaults d l) (sym c.as_slice-2.ensures.value) c.in_ok-devices.ensures.faults) in
    let three : c.told_of-3.result ≡ first s =
    c.told_of-3.ensures s (subst (λ (l : List RuleFault). ListFaults s l) (sym c.as_slice-3.ensures.value) (c.in_ok-statements.ensures t holds)) in
    let a : c.earlier-told.result ≡ first (n ++ d) = c.earlier-told.ensures ∙ (λ i. earlier_of (one i) (two i)) ∙ sym (first-append n d) in
    let b : c.earlier-told-2.result ≡ earlier_of (earlier_of (first n) (first d)) (first s) =
    c.earlier-told-2.ensures ∙ (λ i. earlier_of ((a ∙ first-append n d) i) (three i)) in
    let w = whole_broken tree in
    c.in_ok-whole.ensures.told t holds ∙ ap (λ told. earlier_of told (first w)) b
    ∙ sym (earlier_of-assoc (earlier_of (first n) (first d)) (first s) (first w))
    ∙ sym (earlier_of-assoc (first n) (first d) (earlier_of (first s) (first w)))
    ∙ ap (λ told. earlier_of (first n) (earlier_of (first d) told)) (sym (first-append s w))
    ∙ ap (earlier_of (first n)) (sym (first-append d (s ++ w)))
    ∙ sym (first-append n (d ++ (s ++ w)))

pub returns-clause-sizes : goal.returns-clause-sizes
returns-clause-sizes c = c.in_ok-whole.ensures.sizes (table_of (shown_tree c.args.tree.now)) c.in_ok-table.ensures.table

pub returns-clause-none : goal.returns-clause-none
returns-clause-none c = λ none broken.
    let tree = shown_tree c.args.tree.now in
    c.in_ok-whole.ensures.none (table_of tree) c.in_ok-table.ensures.table none (none_cycles tree broken)

pub returns-clause-rule : goal.returns-clause-rule
returns-clause-rule c = c.in_ok-whole.ensures.rule (table_of (shown_tree c.args.tree.now)) c.in_ok-table.ensures.table
