-- The formats of statements that have statements within them.
use Rattle.std.proofs.Common.{◌≡◌, List, ◌++◌, sym, ap, ◌∙◌, append_assoc, Box, Global}
use Rattle.pearl_format.specs.declared.item.Item.{Item}
use Rattle.pearl_tree.specs.declared.statement.Stmt as stmt
use Rattle.pearl_tree.specs.declared.statement.Repeat.{Repeat}
use Rattle.pearl_tree.specs.declared.statement.Begin.{Begin}
use Rattle.pearl_tree.specs.declared.statement.If as if_
use Rattle.pearl_tree.specs.declared.statement.If.{out-If}
use Rattle.pearl_tree.specs.declared.statement.Case as case_
use Rattle.pearl_tree.specs.declared.statement.Case.{out-Case}
use Rattle.pearl_tree.specs.ShownStatements.{shown_stmt}
use Rattle.pearl_names.specs.Listed.{stmts_shown, branches_shown, otherwise_shown}
use Rattle.pearl_names.proofs.Offered.{if_shown, case_shown, repeat_shown, begin_shown}
use Rattle.pearl_resolve_tables.specs.Formats.{formats_in, formats_in_all, formats_in_branches, formats_in_otherwise}

-- two parts one after the other
twice : (old mid new first second : List (List Item)) → mid ≡ old ++ first → new ≡ mid ++ second → new ≡ old ++ (first ++ second)
twice old mid new first second a b = b ∙ ap (λ l. l ++ second) a ∙ append_assoc old first second

pub if_formats : (box : Box if_.If Global) (old mid new : List (List Item)) →
    mid ≡ old ++ formats_in_all (stmts_shown (out-If box.value).statements.items.items) →
    new ≡ mid ++ formats_in_otherwise (otherwise_shown (out-If box.value).otherwise) →
    new ≡ old ++ formats_in (shown_stmt (stmt.If box))
if_formats box old mid new a b = twice old mid new _ _ a b ∙ ap (λ s. old ++ formats_in s) (sym (if_shown box))

pub case_formats : (box : Box case_.Case Global) (old mid new : List (List Item)) →
    mid ≡ old ++ formats_in_branches (branches_shown (out-Case box.value).alternatives.items.items) →
    new ≡ mid ++ formats_in_otherwise (otherwise_shown (out-Case box.value).otherwise) →
    new ≡ old ++ formats_in (shown_stmt (stmt.Case box))
case_formats box old mid new a b = twice old mid new _ _ a b ∙ ap (λ s. old ++ formats_in s) (sym (case_shown box))

pub repeat_formats : (box : Box Repeat Global) (old new : List (List Item)) →
    new ≡ old ++ formats_in_all (stmts_shown box.value.body.statements.items.items) → new ≡ old ++ formats_in (shown_stmt (stmt.Repeat box))
repeat_formats box old new a = a ∙ ap (λ s. old ++ formats_in s) (sym (repeat_shown box))

pub begin_formats : (box : Box Begin Global) (old new : List (List Item)) →
    new ≡ old ++ formats_in_all (stmts_shown box.value.body.statements.items.items) → new ≡ old ++ formats_in (shown_stmt (stmt.Begin box))
begin_formats box old new a = a ∙ ap (λ s. old ++ formats_in s) (sym (begin_shown box))
