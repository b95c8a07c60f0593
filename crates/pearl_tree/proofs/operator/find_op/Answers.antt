use Rattle.std.proofs.Common.{Some, refl, sym, ap, ◌∙◌, arith}
use Rattle.std.proofs.lemmas.Bool.{false≢true}
use Rattle.std.proofs.lemmas.List.Elements.{All-more, Contains-get_or}
use Rattle.pearl_tree.specs.declared.operator.OpRow.{OpRow}
use Rattle.pearl_tree.specs.Operators.{HasKey}
use Rattle.pearl_tree.proofs.Orders.{one_op, All-passed}
use Rattle.pearl_tree.proofs.operator.find_op.Goals as goal

pub returns-then-has_key-clause-only : goal.returns-then-has_key-clause-only
returns-then-has_key-clause-only g c k d in_rows is =
    let rows = c.args.rows.now in
    ap Some (one_op rows c.requires c.args.code c.args.left c.args.right _ _ (c.has_key.ensures.0 c.if-has_key.true) is (Contains-get_or rows c.loop-row.row-index _ (omega arith)) (Contains-get_or rows k d in_rows))

pub loop-row-preserved : goal.loop-row-preserved
loop-row-preserved g c =
    All-more (λ (row : OpRow). ¬ HasKey row c.args.code c.args.left c.args.right) c.args.rows.now c.loop-row.row-index _ (omega arith) c.loop-row.invariant
    (λ is. false≢true (sym c.if-has_key.false ∙ c.has_key.ensures.1 is))

pub returns-clause-only : goal.returns-clause-only
returns-clause-only g c k d in_rows is =
    absurd (All-passed (λ (row : OpRow). ¬ HasKey row c.args.code c.args.left c.args.right) c.args.rows.now c.loop-row.row-index (omega arith) c.loop-row.invariant k d in_rows is)

pub returns-clause-none : goal.returns-clause-none
returns-clause-none g c =
    (λ _. All-passed (λ (row : OpRow). ¬ HasKey row c.args.code c.args.left c.args.right) c.args.rows.now c.loop-row.row-index (omega arith) c.loop-row.invariant, λ _. refl)
