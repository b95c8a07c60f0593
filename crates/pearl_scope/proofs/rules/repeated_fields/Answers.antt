use Rattle.std.proofs.Common.{◌++◌, [], ap, ◌∙◌}
use Rattle.pearl_tree.specs.declared.rule.TheConstants as rule
use Rattle.pearl_tree.specs.Names.{repeats}
use Rattle.pearl_names.specs.Forming.{fields_shown}
use Rattle.pearl_names.specs.Shapes.{field_names}
use Rattle.pearl_names.proofs.Offered.{all_taken}
use Rattle.pearl_scope.proofs.Seen.{told_no_field, told_field}
use Rattle.pearl_scope.proofs.rules.repeated_fields.Goals as goal

pub loop-field-init : goal.loop-field-init
loop-field-init c = told_no_field _ _ c.new-seen.ensures.empty

pub loop-field-preserved : goal.loop-field-preserved
loop-field-preserved c =
    told_field _ _ _ _ _ c.args.fields.now c.loop-field.field-index c.field-item.result _ c.loop-field-test.true c.field-item.is c.as_slice.ensures c.loop-field.invariant
    c.in_ok-tell_repeats.ensures

pub returns : goal.returns
returns c =
    c.loop-field.invariant.told
    ∙ ap (λ l. c.args.faults.now.items ++ repeats rule.S6 [] (field_names (fields_shown l))) (all_taken c.args.fields.now c.loop-field.field-index c.loop-field-test.false)
