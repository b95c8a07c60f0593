use Rattle.std.proofs.Common.{map, sym, subst, ◌∙◌, append-nil}
use Rattle.std.proofs.lemmas.List.{drop_all}
use Rattle.pearl_tree.specs.ShownModules.{shown_decl}
use Rattle.pearl_resolve.specs.Holding.{at_in, numbers_held}
use Rattle.pearl_resolve.specs.Numbers.{first}
use Rattle.pearl_resolve.proofs.Numbering.{PastDecls, decls_more}
use Rattle.pearl_resolve.proofs.PlainNodes.{one_left}
use Rattle.pearl_resolve.proofs.numbers.number_decls.Goals as goal

pub loop-decl-preserved : goal.loop-decl-preserved
loop-decl-preserved c = λ table holds.
    let xs = c.args.decls.now in
    let left = one_left xs c.loop-decl.decl-index c.decl-item.result c.loop-decl-test.true c.decl-item.is in
    let before = subst (λ l. PastDecls table (at_in c.loop-decl.here) first (numbers_held c.loop-decl.into.items) (numbers_held c.args.into.now.items) (map shown_decl l) (map shown_decl xs)) left
    (c.loop-decl.invariant table holds) in
    decls_more table _ _ _ _ _ _ (shown_decl c.decl-item.result) _ _ before (c.in_ok-here.ensures table holds)

pub returns : goal.returns
returns c = λ table holds.
    let xs = c.args.decls.now in
    let all = subst (λ l. PastDecls table (at_in c.loop-decl.here) first (numbers_held c.loop-decl.into.items) (numbers_held c.args.into.now.items) (map shown_decl l) (map shown_decl xs))
    (drop_all c.loop-decl.decl-index xs c.loop-decl-test.false) (c.loop-decl.invariant table holds) in
    sym (append-nil _) ∙ all.numbers
