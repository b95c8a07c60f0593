use Rattle.std.proofs.Common.{ap, ◌∙◌}
use Rattle.pearl_check.specs.Calls.{number_of}
use Rattle.pearl_check.proofs.Calling.{finds}
use Rattle.pearl_check.proofs.procedures.Procedures.number_of.Goals as goal

pub returns : goal.returns
returns c =
    c.find.ensures ∙ finds c.self.inside.table.names c.args.name.now ∙ ap (λ procedures. number_of procedures c.args.name.now) c.self.view_is
