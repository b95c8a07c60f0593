use Rattle.std.proofs.Common.{◌≡◌, ◌++◌, take}
use Rattle.pearl_scope.specs.PartLists.{parts_in, field_list_parts}
use Rattle.pearl_scope.proofs.part.«+typing».Given as goal

abbrev pub invariant-add_fields-loop-field : goal.invariant-add_fields-loop-field
invariant-add_fields-loop-field l = parts_in l.parts.items ≡ parts_in l.fn.parts.items ++ field_list_parts l.scope l.types (take l.field-index l.fields)
