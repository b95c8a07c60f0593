use Rattle.std.proofs.Common.{◌++◌, [], map, ap, ◌∙◌}
use Rattle.std.specs.List.{flat_map}
use Rattle.pearl_value.specs.declared.kind.CellKind.TheVariants.{Plain}
use Rattle.pearl_program.specs.PlainStatements.{plain_values}
use Rattle.pearl_resolve_tables.proofs.Offered.{merged_slots}
use Rattle.pearl_resolve.specs.Holding.{values_cells}
use Rattle.pearl_resolve.specs.Laying.{filled_values, leaves_of_sense, merged}
use Rattle.pearl_resolve.proofs.ScopeCells.{filled_cells}
use Rattle.pearl_resolve.proofs.cells.add_variable_cells.Goals as goal

pub returns-clause-count : goal.returns-clause-count
returns-clause-count c = c.in_ok-count.ensures.slots

pub returns-clause-cells : goal.returns-clause-cells
returns-clause-cells c = λ of h.
    let old = c.args.into.now.items in
    c.in_ok-add_values_cells.ensures
    ∙ ap (λ l. old ++ flat_map values_cells (map plain_values l)) c.as_slice.ensures.value
    ∙ ap (λ l. old ++ flat_map values_cells l) (c.in_ok-count.ensures.values of h)
    ∙ ap (λ l. old ++ flat_map values_cells (map plain_values l ++ filled_values [] (merged (leaves_of_sense of)))) c.new-values.ensures.items
    ∙ ap (λ l. old ++ l) (filled_cells [] (merged (leaves_of_sense of)) ∙ ap (map Plain) (merged_slots (leaves_of_sense of)))
