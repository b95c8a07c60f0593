use Rattle.std.proofs.Common.{◌≡◌, ◌++◌, [], map, ap, subst, ◌∙◌}
use Rattle.std.specs.List.{flat_map}
use Rattle.pearl_tree.specs.Faults.{ListFaults}
use Rattle.pearl_tree.specs.ShownModules.{shown_decl, shown_tree}
use Rattle.pearl_names.specs.Forming.{AllMatch}
use Rattle.pearl_scope.specs.PartLists.{parts_in}
use Rattle.pearl_scope.specs.Parts.{parts_of}
use Rattle.pearl_scope.specs.Rules.{s1, part_faults, broken}
use Rattle.pearl_names.specs.Known.{known_of}
use Rattle.pearl_names.specs.Shapes.{shapes_after}
use Rattle.pearl_scope.proofs.Asking.{all_asked}
use Rattle.pearl_scope.proofs.rules.broken_rules.Goals as goal

pub returns : goal.returns
returns c =
    let tree = shown_tree c.args.tree.now in
    let known = known_of tree in
    let types = c.in_ok-types.types in
    let scopes : c.in_ok-scopes.scopes.items ≡ known.scopes = c.in_ok-scopes.ensures in
    let lengths : c.in_ok-lengths.lengths ≡ known.lengths = c.in_ok-lengths.ensures in
    let seen : c.as_slice.result.now ≡ known.scopes = c.as_slice.ensures.value ∙ scopes in
    let decls : c.as_slice-decls.result.now ≡ c.args.tree.now.declarations.items.items = c.as_slice-decls.ensures in
    let all : AllMatch types.forms.items types.named.items known.shapes =
    subst (AllMatch types.forms.items types.named.items) (λ i. shapes_after (seen i) (lengths i) [] (map shown_decl (decls i))) c.in_ok-types.ensures in
    let asked : c.as_slice-3.result.now ≡ known.scopes = c.as_slice-3.ensures.value ∙ scopes in
    let parts : parts_in c.as_slice-4.result.now ≡ parts_of tree = ap parts_in c.as_slice-4.ensures.value ∙ c.in_ok-parts.ensures in
    let repeated = c.as_slice-2.ensures.value ∙ scopes in
    let first : c.s1_faults.new.faults.items ≡ flat_map s1 known.scopes =
    c.in_ok-s1_faults.ensures ∙ (λ i. c.new-found.ensures.items i ++ flat_map s1 (repeated i)) in
    let told : c.rules_at_all.new.faults.items ≡ broken tree =
    c.in_ok-rules_at_all.ensures known.shapes all
    ∙ (λ i. first i ++ flat_map (part_faults (record { scopes = asked i; lengths = lengths i; shapes = known.shapes })) (parts i))
    ∙ ap (λ l. flat_map s1 known.scopes ++ l) (all_asked known (parts_of tree)) in
    subst (λ l. ListFaults l c.in_order.result.items) told c.in_order.ensures
