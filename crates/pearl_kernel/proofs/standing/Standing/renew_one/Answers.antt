use Rattle.std.proofs.Common.{ap, ◌∙◌}
use Rattle.pearl_kernel.specs.Eligible.{noted}
use Rattle.pearl_kernel.specs.Changes.{renewed}
use Rattle.pearl_kernel.proofs.Renewing.{noted-renews}
use Rattle.pearl_kernel.proofs.standing.Standing.renew_one.Goals as goal

pub returns : goal.returns
returns c =
    let k = c.args.state.now in
    let s = c.args.self.now in
    let able = c.renewed-able.ensures ∙ ap (λ b. renewed c.args.changed k c.args.task b) c.is_able.ensures in
    noted-renews k c.args.changed s c.note.new.self c.args.task c.requires.there
    (c.note.ensures.noted ∙ ap (λ b. noted k c.args.task b s) able) c.note.ensures.alike
