use Rattle.std.proofs.Common.{refl, ap, ◌∙◌}
use Rattle.pearl_stack.specs.Frames.{Stack}
use Rattle.pearl_silent.specs.Steps.{made_on}
use Rattle.pearl_silent.proofs.Made.{made_traps}
use Rattle.pearl_silent.proofs.outcomes.leave.Goals as goal

pub returns-in-Err : goal.returns-in-Err
returns-in-Err c =
    let old : Stack = c.args.stack.now in
    (_, ap (λ m. made_on c.args.taken m old.frames) c.in-Err.is ∙ made_traps old.frames c.args.taken c.in-Err.trap c.requires.next.some, refl)
