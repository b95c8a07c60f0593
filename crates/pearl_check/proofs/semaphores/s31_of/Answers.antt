use Rattle.std.proofs.Common.{◌++◌, [], ap, ◌∙◌, append_assoc}
use Rattle.std.specs.Prelude.{filter, slice_get}
use Rattle.pearl_tree.specs.declared.name.Name.{Name}
use Rattle.pearl_tree.specs.Names.{repeats}
use Rattle.pearl_names.specs.declared.scope.View.TheVariants.{Within}
use Rattle.pearl_check.specs.Statements.{fault_at_name}
use Rattle.pearl_check.specs.Views.{seen, is_semaphore}
use Rattle.pearl_check.proofs.semaphores.s31_of.Goals as goal

pub returns : goal.returns
returns c = λ table holds.
    let names = c.args.names.now in
    let again = repeats 31 [] (filter (λ (name : Name). is_semaphore (seen table (Within c.args.scope) name)) names) in
    c.in_ok-tell_name.ensures
    ∙ ap (λ name. c.tell_repeats.new.faults.items ++ fault_at_name name 31) c.seventeenth.ensures
    ∙ ap (λ t. t ++ fault_at_name (slice_get names 16) 31) (c.in_ok-tell_repeats.ensures table holds)
    ∙ append_assoc c.args.faults.now.items again (fault_at_name (slice_get names 16) 31)
