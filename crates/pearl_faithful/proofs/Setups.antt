-- The tables from which an object's run starts are those of its program.
use Rattle.std.proofs.Common.{◌≡◌, List, [], ◌∷◌, ◌++◌, map, refl, ap, ◌∙◌}
use Rattle.std.specs.List.{flat_map}
use Rattle.pearl_instructions.specs.declared.object.Leaf.{Leaf}
use Rattle.pearl_meaning.specs.ProgramRuns as program
use Rattle.pearl_instructions.specs.Setups.{first_cells}
use Rattle.pearl_gen_expr.specs.Tables.{plain_leaf}
use Rattle.pearl_faithful.specs.Laws.{SameTables}

same_cells : (leaf : Leaf) → first_cells leaf ≡ program.slots_of (plain_leaf leaf)
same_cells leaf = refl

same_slots : (leaves : List Leaf) → flat_map first_cells leaves ≡ flat_map program.slots_of (map plain_leaf leaves)
same_slots [] = refl
same_slots (leaf ∷ leaves) =
    ap (λ cells. cells ++ flat_map first_cells leaves) (same_cells leaf) ∙ ap (λ more. program.slots_of (plain_leaf leaf) ++ more) (same_slots leaves)

pub same_setups : SameTables
same_setups p o tables =
    let slots = same_slots o.leaves ∙ ap (flat_map program.slots_of) tables.leaves in
    let tasks = tables.tasks in
    let semaphores = tables.semaphores in
    let devices = tables.devices in
    let formats = tables.formats in
    cc
