use Rattle.std.proofs.Common.{◌≡◌, ◌+◌, arith}
use Rattle.pearl_timer.specs.Kept.{both}
use Rattle.pearl_timer.proofs.TaskLaws.{due_by_keys}
use Rattle.pearl_timer.proofs.timer.first_by.Goals as goal

pub returns-then-moment-elapsed-eq1 : goal.returns-then-moment-elapsed-eq1
returns-then-moment-elapsed-eq1 c =
    let soon : c.args.wheel.now.elapsed + 1 ≡ c.args.moment = omega arith in
    due_by_keys (both c.args.continuations.now c.args.activations.now) c.args.wheel.now c.args.far c.args.moment c.requires soon c.if-moment-lt-FAR.true
    c.args.from c.next_kept.result c.next_kept.ensures
