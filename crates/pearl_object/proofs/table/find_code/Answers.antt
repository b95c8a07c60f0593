use Rattle.std.proofs.Common.{◌≡◌, Some, refl, sym, ap, ◌∙◌, arith}
use Rattle.std.proofs.lemmas.List.Elements.{All-more, Contains-get_or}
use Rattle.pearl_object.specs.declared.table.CodeRow.{CodeRow}
use Rattle.pearl_object.proofs.CodeTable.{one_row, All-passed}
use Rattle.pearl_object.proofs.table.find_code.Goals as goal

pub returns-then-row-opcode-clause-only : goal.returns-then-row-opcode-clause-only
returns-then-row-opcode-clause-only c k d in_rows is =
    let rows = c.args.rows.now in
    ap Some (one_row rows c.requires _ _ (c.if-row-opcode.true ∙ sym is) (Contains-get_or rows c.loop-row.row-index _ (omega arith)) (Contains-get_or rows k d in_rows))

pub loop-row-preserved : goal.loop-row-preserved
loop-row-preserved c =
    All-more (λ (row : CodeRow). ¬ (row.opcode ≡ c.args.opcode)) c.args.rows.now c.loop-row.row-index _ (omega arith) c.loop-row.invariant c.if-row-opcode.false

pub returns-clause-only : goal.returns-clause-only
returns-clause-only c k d in_rows is =
    absurd (All-passed (λ (row : CodeRow). ¬ (row.opcode ≡ c.args.opcode)) c.args.rows.now c.loop-row.row-index (omega arith) c.loop-row.invariant k d in_rows is)

pub returns-clause-none : goal.returns-clause-none
returns-clause-none c =
    (λ _. All-passed (λ (row : CodeRow). ¬ (row.opcode ≡ c.args.opcode)) c.args.rows.now c.loop-row.row-index (omega arith) c.loop-row.invariant, λ _. refl)
