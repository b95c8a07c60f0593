use Rattle.std.proofs.Common.{refl, ap, ◌∙◌, sym}
use Rattle.std.specs.Prelude.{option_and_then}
use Rattle.pearl_instructions.specs.Offers.{value_kinds, cells_from}
use Rattle.pearl_silent.specs.Steps.{top_cells}
use Rattle.pearl_solo.proofs.Getting.{gets_row}
use Rattle.pearl_solo.proofs.devices.get_values.Goals as goal

pub returns : goal.returns
returns c =
    let row = gets_row c.args.code.now c.args.reading.now c.args.stack.now.frames c.args.stack.now.room c.items_at-items.result.now c.kinds_from.new.kinds.items
    c.items_at-items.ensures c.requires.ready
    (ap (λ n. option_and_then value_kinds (cells_from (top_cells c.args.stack.now.frames) c.args.reading.now.first n)) (sym c.data_count-count.ensures) ∙ c.kinds_from.ensures) in
    (row.0, row.1, refl)
