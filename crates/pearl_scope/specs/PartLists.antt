-- What a list of parts in memory shows, and the parts of lists.
use Rattle.std.specs.Prelude.{ℕ, List, ◌++◌, map}
use Rattle.std.specs.List.{flat_map}
use Rattle.pearl_tree.specs.declared.expression.Selector.{Selector}
use Rattle.pearl_tree.specs.declared.typing.Field.{Field}
use Rattle.pearl_tree.specs.ShownExpressions.{shown_selector}
use Rattle.pearl_tree.specs.ShownDeclarations.{shown_item, shown_sema, shown_typing}
use Rattle.pearl_names.specs.declared.scope.View.{View}
use Rattle.pearl_scope.specs.declared.part.Part.{Part as CodePart}
use Rattle.pearl_scope.specs.declared.part.Part.TheVariants as part
use Rattle.pearl_scope.specs.Parts.{Part, Used, UsedAsType, Length, Lasts, Bounds, Struct, Item, Sema, selector_parts, typing_parts}
use Rattle.pearl_names.specs.Forming.{fields_shown}

abbrev pub shown_part : CodePart → Part
shown_part (part.Used view name) = Used view name.now
shown_part (part.UsedAsType scope types name) = UsedAsType scope types name.now
shown_part (part.Length sort number) = Length sort number
shown_part (part.Lasts duration) = Lasts duration.now
shown_part (part.Bounds bound) = Bounds bound.now
shown_part (part.Struct fields) = Struct (fields_shown fields.now.items.items)
shown_part (part.Item scope types item) = Item scope types (shown_item item.now)
shown_part (part.Sema sema) = Sema (shown_sema sema.now)

-- what a list of parts in memory shows
unfoldable pub parts_in : List CodePart → List Part
parts_in parts = map shown_part parts

abbrev pub selector_list_parts : View → List Selector → List Part
selector_list_parts view selectors = flat_map (λ selector. selector_parts view (shown_selector selector)) selectors

abbrev pub field_parts : (scope types : ℕ) → Field → List Part
field_parts scope types field = map Bounds field.bounds.items.items ++ typing_parts scope types (shown_typing field.typing)

abbrev pub field_list_parts : (scope types : ℕ) → List Field → List Part
field_list_parts scope types fields = flat_map (field_parts scope types) fields
