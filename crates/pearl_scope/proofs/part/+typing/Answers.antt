use Rattle.std.proofs.Common.{◌≡◌, ◌++◌, ◌∷◌, [], ap, ◌∙◌, append_assoc}
use Rattle.pearl_tree.specs.ShownDeclarations.{shown_typing}
use Rattle.pearl_names.specs.Forming.{fields_shown}
use Rattle.pearl_scope.specs.Parts.{Struct, typing_parts}
use Rattle.pearl_scope.specs.PartLists.{parts_in, field_list_parts}
use Rattle.pearl_scope.proofs.PartLists.{parts_in-push, struct_parts}
use Rattle.pearl_scope.proofs.part.«+typing».Goals as goal

pub add_typing-returns-in_ok-add_fields-in-Struct : goal.add_typing-returns-in_ok-add_fields-in-Struct
add_typing-returns-in_ok-add_fields-in-Struct t c =
    let scope = c.args.scope in
    let types = c.args.types in
    let fields = c.in-Struct.fields in
    let old = parts_in c.args.parts.now.items in
    let e : typing_parts scope types (shown_typing c.args.typing.now) ≡ Struct (fields_shown fields.items.items) ∷ field_list_parts scope types fields.items.items =
    ap (λ p. typing_parts scope types (shown_typing p)) c.in-Struct.is ∙ struct_parts scope types fields c.in-Struct.place in
    let pushed = parts_in-push _ _ _ c.in_ok-push-in-Struct.ensures.items in
    let listed = ap (field_list_parts scope types) c.as_slice.ensures in
    rw e (c.in_ok-add_fields-in-Struct.ensures ∙ (λ i. pushed i ++ listed i)
    ∙ append_assoc old (Struct (fields_shown fields.items.items) ∷ []) (field_list_parts scope types fields.items.items))
