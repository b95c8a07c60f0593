use Rattle.std.proofs.Common.{take}
use Rattle.pearl_names.specs.Forming.{Made, around_of}
use Rattle.pearl_names.proofs.forms.«+form».Given as goal

abbrev pub invariant-form_of_struct-loop-field : goal.invariant-form_of_struct-loop-field
invariant-form_of_struct-loop-field l =
    Made l.fn.forms.items l.forms.items l.named (around_of l.scopes l.lengths l.scope) l.form (take l.field-index l.fields.items.items)
