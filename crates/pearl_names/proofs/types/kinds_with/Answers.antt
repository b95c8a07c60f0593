use Rattle.std.proofs.Common.{sym, ◌∙◌}
use Rattle.pearl_names.proofs.Walking.{kinds_there, kinds_past}
use Rattle.pearl_names.proofs.types.kinds_with.Goals as goal

pub returns-in-Some : goal.returns-in-Some
returns-in-Some c = λ fields h behind.
    c.joined_kinds.ensures ∙ kinds_there c.args.forms.now c.args.form.now.fields.entries fields c.args.index _ c.kinds_of.result c.args.behind h (sym c.in-Some.ensures.entry) c.kinds_of.ensures behind

pub returns-in-None : goal.returns-in-None
returns-in-None c = λ fields h behind.
    kinds_past c.args.forms.now c.args.form.now.fields.entries fields c.args.index h (sym c.in-None.ensures.entry)
