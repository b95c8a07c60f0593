use Rattle.std.proofs.Common.{◌++◌, map, ap, sym, ◌∙◌, append-nil}
use Rattle.std.specs.List.{flat_map}
use Rattle.pearl_names.proofs.Offered.{all_taken}
use Rattle.pearl_program.specs.PlainStatements.{plain_values}
use Rattle.pearl_resolve.specs.Holding.{values_cells}
use Rattle.pearl_resolve.proofs.ScopeCells.{values_cells_more}
use Rattle.pearl_resolve.proofs.cells.add_values_cells.Goals as goal

pub loop-own-init : goal.loop-own-init
loop-own-init c = sym (append-nil c.args.into.now.items)

pub loop-own-preserved : goal.loop-own-preserved
loop-own-preserved c =
    values_cells_more c.args.values.now c.loop-own.own-index c.own-item.result c.args.into.now.items _ _
    c.loop-own-test.true c.own-item.is c.loop-own.invariant c.in_ok-add_cells.ensures

pub returns : goal.returns
returns c = c.loop-own.invariant
    ∙ ap (λ l. c.args.into.now.items ++ flat_map values_cells (map plain_values l)) (all_taken c.args.values.now c.loop-own.own-index c.loop-own-test.false)
