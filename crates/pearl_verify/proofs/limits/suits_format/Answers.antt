use Rattle.std.proofs.Common.{ap, ◌∙◌, arith}
use Rattle.pearl_verify.specs.Formats.{row_fits}
use Rattle.pearl_verify.proofs.Fitting.{long_refused, row_is}
use Rattle.pearl_verify.proofs.limits.suits_format.Goals as goal

pub returns-then-cells-gt64 : goal.returns-then-cells-gt64
returns-then-cells-gt64 c = λ items e. long_refused items c.args.cells.now c.if-cells-gt64.true

pub returns-in-Some : goal.returns-in-Some
returns-in-Some c = λ items e.
    c.row_fits.ensures ∙ (ap (row_fits c.args.row.now) c.as_slice.ensures.value ∙ row_is c.args.row.now items c.args.cells.now c.in-Some.kinds.items e c.in-Some.ensures (omega (arith, c.if-cells-gt64.false)))
