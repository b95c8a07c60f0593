use Rattle.std.proofs.Common.{◌≡◌, [], subst, ap, map, ◌∙◌}
use Rattle.pearl_tree.specs.ShownModules.{shown_decl, shown_tree}
use Rattle.pearl_names.specs.Forming.{AllMatch}
use Rattle.pearl_names.specs.Holding.{HoldsSenses}
use Rattle.pearl_names.specs.Known.{known_of, known_from}
use Rattle.pearl_names.specs.Scopes.{scopes_of}
use Rattle.pearl_names.specs.Shapes.{shapes_after}
use Rattle.pearl_names.specs.Sorts.{names_of_scopes}
use Rattle.pearl_names.specs.Tables.{senses_in}
use Rattle.pearl_names.specs.Groups.{scopes_in_list}
use Rattle.pearl_names.proofs.table.table_of.Goals as goal

pub returns : goal.returns
returns c =
    let tree = shown_tree c.args.tree.now in
    let known = known_of tree in
    let types = c.in_ok-types.types in
    let scopes : scopes_in_list c.in_ok-scopes.scopes.items ≡ scopes_of tree = c.in_ok-scopes.ensures in
    let listed : scopes_in_list c.as_slice.result.now ≡ scopes_of tree = ap scopes_in_list c.as_slice.ensures.value ∙ scopes in
    let names : c.in_ok-names.names.items ≡ known.scopes = c.in_ok-names.ensures ∙ ap names_of_scopes listed in
    let lengths : c.in_ok-lengths.lengths ≡ known.lengths = c.in_ok-lengths.ensures in
    let seen : c.as_slice-2.result.now ≡ known.scopes = c.as_slice-2.ensures.value ∙ names in
    let decls : c.as_slice-decls.result.now ≡ c.args.tree.now.declarations.items.items = c.as_slice-decls.ensures in
    let all : AllMatch types.forms.items types.named.items known.shapes =
    subst (AllMatch types.forms.items types.named.items) (λ i. shapes_after (seen i) (lengths i) [] (map shown_decl (decls i))) c.in_ok-types.ensures in
    let again : c.as_slice-3.result.now ≡ known.scopes = c.as_slice-3.ensures.value ∙ names in
    let walked : scopes_in_list c.as_slice-4.result.now ≡ scopes_of tree = ap scopes_in_list c.as_slice-4.ensures.value ∙ scopes in
    record {
      names = names;
      senses = subst (HoldsSenses c.all_senses.new.types.forms.items c.in_ok-senses.senses.items)
          (λ i. senses_in (known_from (again i) (lengths i) known.shapes) 0 (walked i)) (c.in_ok-senses.ensures known.shapes all);
      lengths = lengths;
    }
