use Rattle.std.proofs.Common.{◌≡◌, ◌++◌, take}
use Rattle.pearl_print.specs.Spelled.{text_of_tokens}
use Rattle.pearl_print.specs.Lists.{after_commas}
use Rattle.pearl_print.specs.Types.{field_tokens}
use Rattle.pearl_print.proofs.typing.«+typing».Given as goal

abbrev pub invariant-put_fields-loop-field : goal.invariant-put_fields-loop-field
invariant-put_fields-loop-field l = l.into.items ≡ l.initial.into.items ++ text_of_tokens (after_commas field_tokens (take l.field-index l.rest))
