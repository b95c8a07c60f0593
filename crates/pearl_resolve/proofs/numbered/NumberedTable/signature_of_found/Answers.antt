use Rattle.std.proofs.Common.{sym, ap, ◌∙◌}
use Rattle.pearl_resolve.specs.Expressions.{number_at, params_of}
use Rattle.pearl_resolve.proofs.Lookups.{meant_so}
use Rattle.pearl_resolve.proofs.numbered.NumberedTable.signature_of_found.Goals as goal

pub returns-in-Some : goal.returns-in-Some
returns-in-Some c = λ of holds.
    let so = meant_so c.args.self.now.table.forms.items of c.args.found c.in-Some.sense.now (c.in-Some.ensures of.table holds.table) in
    c.signature_in.ensures c.args.self.now.table.forms.items
    (record { sense = so.meant; scope = c.args.found.scope; number = number_at of.numbers c.args.found }) so.holds ∙ sym (ap params_of so.is)
