use Rattle.std.proofs.Common.{List, ◌++◌, map, length, replicate, append_assoc, sym, ap, ◌∙◌}
use Rattle.std.proofs.lemmas.List.{length-map}
use Rattle.pearl_value.specs.declared.kind.CellKind.TheVariants.{Plain}
use Rattle.pearl_value.specs.declared.kind.Kind.TheVariants.{Fixed}
use Rattle.pearl_tree.specs.declared.expression.Ref.{Ref}
use Rattle.pearl_tree.specs.ShownExpressions.{ShownRef, shown_ref}
use Rattle.pearl_names.specs.declared.scope.View.TheVariants.{Within}
use Rattle.pearl_program.specs.declared.statement.Get.{Get}
use Rattle.pearl_program.specs.PlainExpressions.{plain_variable}
use Rattle.pearl_program.specs.PlainStatements.{OfGet}
use Rattle.pearl_resolve.specs.Expressions.{resolve_variable, target_kind}
use Rattle.pearl_resolve.specs.Statements.{alone}
use Rattle.pearl_resolve.proofs.simple.get.Goals as goal

pub returns-clause-made : goal.returns-clause-made
returns-clause-made c = λ of holds. ap alone (
    ap (λ (x : Get). OfGet (map plain_variable x.targets.items) x.device x.format x.cell) c.in_ok-made.ensures.ok
    ∙ (λ i. OfGet ((c.in_ok-targets.ensures.variables of holds
    ∙ ap (λ (l : List Ref). map (resolve_variable of (Within c.args.scope)) (map shown_ref l)) c.as_slice-refs.ensures) i)
    (c.number_in-device.ensures of holds i) c.args.at.format c.args.at.cell))

pub returns-clause-cells : goal.returns-clause-cells
returns-clause-cells c = λ of holds.
    let old = c.args.cells.now.items in
    let kinds = λ (l : List Ref). map (λ (target : ShownRef). Plain (target_kind of (Within c.args.scope) target)) (map shown_ref l) in
    let refs = c.as_slice-refs.result.now in
    c.in_ok-add_cells.ensures
    ∙ ap (λ l. l ++ replicate (length refs) (Plain (Fixed 31))) (c.in_ok-targets.ensures.cells of holds)
    ∙ append_assoc old (kinds refs) (replicate (length refs) (Plain (Fixed 31)))
    ∙ ap (λ n. old ++ (kinds refs ++ replicate n (Plain (Fixed 31)))) (sym (length-map refs shown_ref))
    ∙ ap (λ (l : List Ref). old ++ (kinds l ++ replicate (length (map shown_ref l)) (Plain (Fixed 31)))) c.as_slice-refs.ensures
