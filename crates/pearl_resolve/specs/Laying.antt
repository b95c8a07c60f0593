-- How a scope's variables lie in leaves and cells, and what their INIT puts into them.
pub use Rattle.pearl_resolve_tables.specs.Laying.{leaves_of_sense, slots, cells_of_sense, negative_if, value_of, or_blank, constant_in, values_of_leaf, left_behind, path_name, filled_leaves, filled_values, merged}
