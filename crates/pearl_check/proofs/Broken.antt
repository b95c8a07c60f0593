-- What a module breaks of S23 to S34, and of S15 to S22, for examples.
use Rattle.std.specs.Prelude.{nat_le, nat_lt, List, ◌++◌, filter}
use Rattle.pearl_tree.specs.declared.fault.RuleFault.{RuleFault}
use Rattle.pearl_tree.specs.ShownModules.{ShownTree}
use Rattle.pearl_names.specs.Tables.{table_of}
use Rattle.pearl_check.specs.Rules.{statements_broken, whole_broken}

abbrev pub broken : ShownTree → List RuleFault
broken tree = filter (λ (fault : RuleFault). nat_le 23 fault.rule) (statements_broken (table_of tree) tree) ++ whole_broken tree

abbrev pub broken_in_parts : ShownTree → List RuleFault
broken_in_parts tree = filter (λ (fault : RuleFault). nat_lt fault.rule 23) (statements_broken (table_of tree) tree)
