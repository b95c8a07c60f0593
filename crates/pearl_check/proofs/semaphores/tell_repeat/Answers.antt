use Rattle.std.proofs.Common.{◌++◌, ap, ◌∙◌}
use Rattle.pearl_tree.specs.Faults.{fault_if}
use Rattle.pearl_tree.specs.Names.{name_text}
use Rattle.pearl_check.proofs.SeenSemaphores.{sees_next}
use Rattle.pearl_check.proofs.semaphores.tell_repeat.Goals as goal

pub returns : goal.returns
returns c = λ before sees.
    let name = c.args.name.now in (
      sees_next _ _ before name 0 _ c.in_ok-again.ensures.twice c.in_ok-again.ensures.noted sees,
      c.in_ok-tell_if.ensures ∙ ap (λ again. c.args.faults.now.items ++ fault_if again name.place 31) (c.in_ok-again.ensures.twice ∙ sees (name_text name)),
    )
