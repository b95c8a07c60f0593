use Rattle.std.proofs.Common.{◌≡◌, ◌+◌, ◌++◌, List, map, ap, ◌∙◌, append_assoc, false}
use Rattle.std.specs.List.{flat_map}
use Rattle.pearl_tree.specs.declared.statement.BodyDecl.{BodyDecl}
use Rattle.pearl_tree.specs.ShownStatements.{shown_body_decl}
use Rattle.pearl_names.specs.Listed.{stmts_shown}
use Rattle.pearl_scope.specs.Parts.{Part, body_decl_parts}
use Rattle.pearl_scope.specs.PartLists.{parts_in}
use Rattle.pearl_scope.specs.Placed.{placed_in, placed_body, parts_at}
use Rattle.pearl_scope.proofs.Placing.{placed_in-nil}
use Rattle.pearl_scope.proofs.PartsPlaced.{all_placed}
use Rattle.pearl_scope.proofs.module_part.add_body.Goals as goal

pub returns-clause-parts : goal.returns-clause-parts
returns-clause-parts c =
    let types = c.args.types in
    let scope = c.args.scope in
    let old = parts_in c.args.parts.now.items in
    let declared : List BodyDecl → List Part = λ xs. flat_map (body_decl_parts scope types) (map shown_body_decl xs) in
    let rest = stmts_shown c.args.body.now.statements.items.items in
    let first : parts_in c.add_body_declarations.new.parts.items ≡ old ++ declared c.args.body.now.declarations.items.items =
    c.in_ok-add_body_declarations.ensures ∙ ap (λ xs. old ++ declared xs) c.as_slice.ensures in
    let placed : placed_in c.as_slice-2.result.now ≡ placed_body scope rest =
    ap placed_in c.as_slice-2.ensures.value ∙ c.in_ok-next.ensures.placed ∙ ap (λ t. t ++ placed_body scope rest) (ap placed_in c.new-places.ensures.items ∙ placed_in-nil) in
    c.in_ok-add_places.ensures ∙ (λ i. first i ++ flat_map (parts_at types) (placed i))
    ∙ append_assoc old (declared c.args.body.now.declarations.items.items) (flat_map (parts_at types) (placed_body scope rest))
    ∙ ap (λ t. old ++ (declared c.args.body.now.declarations.items.items ++ t)) (all_placed types (record { scope = scope; in_loop = false }) (scope + 1) rest)
