use Rattle.std.proofs.Common.{refl}
use Rattle.pearl_tree.specs.declared.operator.TheConstants.{OPS}
use Rattle.pearl_tree.proofs.TableOfOperators.{ops_are_the_operators}
use Rattle.pearl_tree.proofs.Orders.{one_op}
use Rattle.pearl_tree.proofs.table_laws.operators_are_the_language.Goals as goal

pub returns-clause-rows : goal.returns-clause-rows
returns-clause-rows c = ops_are_the_operators

pub returns-clause-one_each : goal.returns-clause-one_each
returns-clause-one_each c code left right a b in_a is_a in_b is_b = one_op OPS refl code left right a b is_a is_b in_a in_b
