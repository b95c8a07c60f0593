use Rattle.std.proofs.Common.{◌≡◌, ◌++◌, take}
use Rattle.std.specs.List.{flat_map}
use Rattle.pearl_tree.specs.declared.word_code.TheConstants as w
use Rattle.pearl_print.specs.Spelled.{text_of_tokens}
use Rattle.pearl_print.specs.Statements.{stmt_tokens, branch_tokens}
use Rattle.pearl_print.proofs.statement.«+statement».Given as goal

abbrev pub invariant-put_stmts-loop-stmt : goal.invariant-put_stmts-loop-stmt
invariant-put_stmts-loop-stmt l = l.into.items ≡ l.fn.into.items ++ text_of_tokens (flat_map stmt_tokens (take l.stmt-index l.stmts.items.items))

abbrev pub invariant-put_alternatives-loop-branch : goal.invariant-put_alternatives-loop-branch
invariant-put_alternatives-loop-branch l = l.into.items ≡ l.fn.into.items ++ text_of_tokens (flat_map (branch_tokens w.ALT) (take l.branch-index l.branches.items.items))
