use Rattle.std.proofs.Common.{◌+◌, sym, ap, ◌∙◌}
use Rattle.pearl_rules.specs.Core.{Core}
use Rattle.pearl_kernel.proofs.Passing.{passed-quiet}
use Rattle.pearl_kernel.proofs.state.State.skip.Goals as goal

pub returns : goal.returns
returns c =
    let k = c.args.self.now in
    c.set_moment.ensures
    ∙ ap (λ m. record k { core = record k.core { moment = m } }) (ap (λ m. m + c.args.milliseconds) c.now.ensures)
    ∙ ap (λ (core : Core). record k { core = core }) (sym (passed-quiet c.args.milliseconds k.core c.requires.quiet))
