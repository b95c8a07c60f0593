use Rattle.std.proofs.Common.{◌≡◌, ◌++◌, [], map, length, ap, sym, ◌∙◌}
use Rattle.std.specs.List.{flat_map}
use Rattle.pearl_tree.specs.ShownDeclarations.{shown_param}
use Rattle.pearl_tree.specs.ShownStatements.{shown_body_decl}
use Rattle.pearl_tree.specs.ShownModules.{shown_decl}
use Rattle.pearl_names.specs.Groups.{entries_in, scopes_in_list, body_scopes}
use Rattle.pearl_names.specs.Listed.{stmts_shown}
use Rattle.pearl_names.specs.Scopes.{param_entries, decl_scopes}
use Rattle.pearl_names.proofs.Collecting.{entries_in-nil}
use Rattle.pearl_names.proofs.collect.collect_decl.Goals as goal

pub returns-in-Task : goal.returns-in-Task
returns-in-Task c =
    let x = c.in-Task in
    let types = c.args.types in
    let n = length (scopes_in_list c.args.scopes.now.items) in
    let none : entries_in c.new.result.items ≡ [] = ap entries_in c.new.ensures.items ∙ entries_in-nil in
    let e : decl_scopes types n (shown_decl c.args.decl.now) ≡
    body_scopes types 0 n (entries_in c.new.result.items) (map shown_body_decl x.body.declarations.items.items) (stmts_shown x.body.statements.items.items) =
    ap (λ d. decl_scopes types n (shown_decl d)) x.is
    ∙ ap (λ entries. body_scopes types 0 n entries (map shown_body_decl x.body.declarations.items.items) (stmts_shown x.body.statements.items.items))
    (sym none) in
    rw e c.collect_body.ensures

pub returns-in_ok-declare_params-in-Proc : goal.returns-in_ok-declare_params-in-Proc
returns-in_ok-declare_params-in-Proc c =
    let x = c.in-Proc in
    let types = c.args.types in
    let n = length (scopes_in_list c.args.scopes.now.items) in
    let declared : entries_in c.declare_params.new.into.items ≡ flat_map param_entries (map shown_param x.params.items.items) =
    c.in_ok-declare_params-in-Proc.ensures
    ∙ ap (λ entries. entries ++ flat_map param_entries (map shown_param c.as_slice.result.now)) (ap entries_in c.new-groups.ensures.items ∙ entries_in-nil)
    ∙ ap (λ xs. flat_map param_entries (map shown_param xs)) c.as_slice.ensures in
    let e : decl_scopes types n (shown_decl c.args.decl.now) ≡
    body_scopes types 0 n (entries_in c.declare_params.new.into.items) (map shown_body_decl x.body.declarations.items.items)
    (stmts_shown x.body.statements.items.items) =
    ap (λ d. decl_scopes types n (shown_decl d)) x.is
    ∙ ap (λ entries. body_scopes types 0 n entries (map shown_body_decl x.body.declarations.items.items) (stmts_shown x.body.statements.items.items))
    (sym declared) in
    rw e c.collect_body-in-Proc.ensures
