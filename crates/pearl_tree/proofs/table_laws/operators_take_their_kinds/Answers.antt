use Rattle.pearl_tree.proofs.TableOfOperators.{ops_have_the_kinds, ops_have_both_kinds}
use Rattle.pearl_tree.proofs.table_laws.operators_take_their_kinds.Goals as goal

pub returns-clause-one : goal.returns-clause-one
returns-clause-one c = ops_have_the_kinds

pub returns-clause-two : goal.returns-clause-two
returns-clause-two c = ops_have_both_kinds
