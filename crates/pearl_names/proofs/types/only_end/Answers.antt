use Rattle.std.proofs.Common.{Some, sym, ap, ◌∙◌}
use Rattle.pearl_names.proofs.Chains.{one_field, several_fields, no_fields}
use Rattle.pearl_names.proofs.types.only_end.Goals as goal

pub returns-in-Some-get_index : goal.returns-in-Some-get_index
returns-in-Some-get_index c = several_fields c.args.forms.now c.args.form.now.fields.entries _ (sym c.in-Some-get_index.ensures.entry)

pub returns-in-None-get_index : goal.returns-in-None-get_index
returns-in-None-get_index c =
    ap Some c.end_of_field.ensures
    ∙ one_field c.args.forms.now c.args.form.now.fields.entries _ (sym c.in-Some.ensures.entry) (sym c.in-None-get_index.ensures.entry)

pub returns-in-None : goal.returns-in-None
returns-in-None c = no_fields c.args.forms.now c.args.form.now.fields.entries (sym c.in-None.ensures.entry)
