use Rattle.std.proofs.Common.{◌≡◌, take, All}
use Rattle.pearl_tree.proofs.word.find_word.Given as goal

abbrev pub invariant-loop-row : goal.invariant-loop-row
invariant-loop-row l = All (λ row. ¬ (row.text.now ≡ l.text)) (take l.row-index l.rows)
