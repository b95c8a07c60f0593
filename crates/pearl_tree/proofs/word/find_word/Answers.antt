use Rattle.std.proofs.Common.{◌≡◌, Some, refl, sym, ap, ◌∙◌, arith}
use Rattle.std.proofs.lemmas.Bool.{false≢true}
use Rattle.std.proofs.lemmas.Slice.Eq.{bytes_eq-Decides}
use Rattle.std.proofs.lemmas.List.Elements.{All-more, Contains-get_or}
use Rattle.pearl_tree.specs.declared.word.WordRow.{WordRow}
use Rattle.pearl_tree.proofs.Orders.{one_word, All-passed}
use Rattle.pearl_tree.proofs.word.find_word.Goals as goal

pub returns-then-eq-clause-only : goal.returns-then-eq-clause-only
returns-then-eq-clause-only c k d in_rows same =
    let rows = c.args.rows.now in
    let is = (bytes_eq-Decides _ c.args.text.now).0 (sym c.eq.ensures ∙ c.if-eq.true) in
    ap (λ row. Some row.code) (one_word rows c.requires _ _ (is ∙ sym same) (Contains-get_or rows c.loop-row.row-index _ (omega arith)) (Contains-get_or rows k d in_rows))

pub loop-row-preserved : goal.loop-row-preserved
loop-row-preserved c =
    All-more (λ (row : WordRow). ¬ (row.text.now ≡ c.args.text.now)) c.args.rows.now c.loop-row.row-index _ (omega arith) c.loop-row.invariant
    (λ e. false≢true (sym c.if-eq.false ∙ c.eq.ensures ∙ (bytes_eq-Decides _ c.args.text.now).1 e))

pub returns-clause-only : goal.returns-clause-only
returns-clause-only c k d in_rows same =
    absurd (All-passed (λ (row : WordRow). ¬ (row.text.now ≡ c.args.text.now)) c.args.rows.now c.loop-row.row-index (omega arith) c.loop-row.invariant k d in_rows same)

pub returns-clause-none : goal.returns-clause-none
returns-clause-none c =
    (λ _. All-passed (λ (row : WordRow). ¬ (row.text.now ≡ c.args.text.now)) c.args.rows.now c.loop-row.row-index (omega arith) c.loop-row.invariant, λ _. refl)
