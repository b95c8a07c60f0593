-- The kinds of statements by their first tokens.
use Rattle.std.proofs.Common.{◌≡◌, ℕ, Bool, true, false, List, Option, Some, None, T, eqb, refl, sym, ap, subst, ◌∙◌}
use Rattle.std.proofs.Math.Facts.{yes_eqb}
use Rattle.pearl_tree.specs.declared.name.Name.{Name}
use Rattle.pearl_tree.specs.declared.expression.Expr.{Expr}
use Rattle.pearl_tree.specs.declared.statement.Start.{Start}
use Rattle.pearl_tree.specs.declared.statement.Start.TheVariants as start
use Rattle.pearl_tree.specs.declared.statement.Once.{Once}
use Rattle.pearl_tree.specs.declared.statement.Once.TheVariants as once
use Rattle.pearl_tree.specs.declared.statement.TaskWord.{TaskWord}
use Rattle.pearl_tree.specs.declared.statement.TaskWord.TheVariants.{Suspend, Terminate, Prevent}
use Rattle.pearl_tree.specs.declared.statement.SemaWord.{SemaWord}
use Rattle.pearl_tree.specs.declared.statement.SemaWord.TheVariants.{Request, Release}
use Rattle.pearl_tree.specs.declared.statement.InterruptWord.{InterruptWord}
use Rattle.pearl_tree.specs.declared.statement.InterruptWord.TheVariants.{Enable, Disable, Trigger}
use Rattle.pearl_tree.specs.declared.statement.Stmt.{Stmt, Empty, Assign, Call, If', Case', Repeat', Exit, Begin'}
use Rattle.pearl_tree.specs.declared.statement.Stmt.{Return, Activate, Continue, Resume, OnTask, OnSemas, OnInterrupt}
use Rattle.pearl_tree.specs.declared.statement.Stmt.{Put, Get, Send, Take}
use Rattle.pearl_tree.specs.declared.statement.If as if_
use Rattle.pearl_tree.specs.declared.statement.Case as case_
use Rattle.pearl_tree.specs.declared.token.What.{What}
use Rattle.pearl_tree.specs.declared.token.What.TheVariants as what
use Rattle.pearl_tree.specs.declared.token.Token.{Token}
use Rattle.pearl_tree.specs.Standing.{HasWord, IsName, SpellsFlag, SpellsMaybe, what_at}
use Rattle.pearl_tree.specs.Statements.{SpellsAfter, SpellsFor, SpellsStart, SpellsOnce, SpellsStmt, task_word}
use Rattle.pearl_tree.specs.Statements.{sema_word, interrupt_word}
use Rattle.pearl_tree.specs.declared.symbol.TheConstants as s
use Rattle.pearl_tree.specs.declared.word_code.TheConstants as w
use Rattle.pearl_tree.proofs.Offered.{group_of}
use Rattle.pearl_parse.specs.Stops.{begins_statement}

abbrev pub group : Stmt → ℕ
group (Empty _) = 0
group (Assign _) = 1
group (Call _) = 1
group (If' _ _) = 3
group (Case' _ _) = 4
group (Repeat' _ _ _ _ _ _ _ _ _ _ _) = 5
group (Exit _) = 6
group (Begin' _ _ _ _ _ _) = 7
group (Return _) = 8
group (Activate _) = 9
group (Continue _) = 9
group (Resume _) = 9
group (OnTask _) = 10
group (OnSemas _) = 11
group (OnInterrupt _) = 12
group (Put _) = 13
group (Get _) = 14
group (Send _) = 15
group (Take _) = 16

module _ (tokens : List Token) where
  -- the first token of a statement of this kind
  record Leads (k n : ℕ) : Type 0 where
    pub first : What
    pub here : what_at tokens k ≡ Some first
    pub kind : group_of first ≡ Some n
    pub begins : begins_statement (Some first) ≡ true

  leads : (k : ℕ) (first : What) (n : ℕ) → what_at tokens k ≡ Some first → group_of first ≡ Some n →
      begins_statement (Some first) ≡ true → Leads k n
  leads k first n here kind begins = record { first = first; here = here; kind = kind; begins = begins }

  lead_after : (word : ℕ) (o : Option Expr) (m n : ℕ) → SpellsMaybe (SpellsAfter tokens word) m o n →
      group_of (what.Word word) ≡ Some 5 → begins_statement (Some (what.Word word)) ≡ true → Leads n 5 → Leads m 5
  lead_after word None m n h e b i = subst (λ k. Leads k 5) h i
  lead_after word (Some x) m n h e b i = leads m (what.Word word) 5 h.0 e b

  lead_for : (o : Option Name) (m n : ℕ) → SpellsMaybe (SpellsFor tokens) m o n → Leads n 5 → Leads m 5
  lead_for None m n h i = subst (λ k. Leads k 5) h i
  lead_for (Some x) m n h i = leads m (what.Word w.FOR) 5 h.0 refl refl

  lead_start : (from : ℕ) (a : Start) (to : ℕ) → SpellsStart tokens from a to → Leads from 9
  lead_start from (start.At x y p) to h = leads from (what.Word w.AT) 9 h.2.0 refl refl
  lead_start from (start.After x y p) to h = leads from (what.Word w.AFTER) 9 h.2.0 refl refl
  lead_start from (start.When n x y p) to h = leads from (what.Word w.WHEN) 9 h.2 refl refl
  lead_start from (start.All x) to h = leads from (what.Word w.ALL) 9 h.2.0 refl refl

  lead_once : (from : ℕ) (a : Once) (to : ℕ) → SpellsOnce tokens from a to → Leads from 9
  lead_once from (once.At x p) to h = leads from (what.Word w.AT) 9 h.1.0 refl refl
  lead_once from (once.After x p) to h = leads from (what.Word w.AFTER) 9 h.1.0 refl refl
  lead_once from (once.When n p) to h = leads from (what.Word w.WHEN) 9 h.1 refl refl

  -- [ CALL ] id
  lead_call : (from : ℕ) (call : Bool) (name : Name) (a : ℕ) → SpellsFlag tokens w.CALL from call a →
      IsName tokens a name → Leads from 1
  lead_call from false name a h i = leads from (what.Id name.text) 1 (subst (λ k. IsName tokens k name) h i).0 refl refl
  lead_call from true name a h i = leads from (what.Word w.CALL) 1 h.0 refl refl

  lead_activate : (from : ℕ) (start : Option Start) (a : ℕ) → SpellsMaybe (SpellsStart tokens) from start a →
      HasWord tokens a w.ACTIVATE → Leads from 9
  lead_activate from None a h i = leads from (what.Word w.ACTIVATE) 9 (subst (λ k. HasWord tokens k w.ACTIVATE) h i)
      refl refl
  lead_activate from (Some x) a h i = lead_start from x a h

  lead_continue : (from : ℕ) (once : Option Once) (a : ℕ) → SpellsMaybe (SpellsOnce tokens) from once a →
      HasWord tokens a w.CONTINUE → Leads from 9
  lead_continue from None a h i = leads from (what.Word w.CONTINUE) 9 (subst (λ k. HasWord tokens k w.CONTINUE) h i)
      refl refl
  lead_continue from (Some x) a h i = lead_once from x a h

  lead_task : (from : ℕ) (word : TaskWord) → HasWord tokens from (task_word word) → Leads from 10
  lead_task from Suspend h = leads from (what.Word w.SUSPEND) 10 h refl refl
  lead_task from Terminate h = leads from (what.Word w.TERMINATE) 10 h refl refl
  lead_task from Prevent h = leads from (what.Word w.PREVENT) 10 h refl refl

  lead_semas : (from : ℕ) (word : SemaWord) → HasWord tokens from (sema_word word) → Leads from 11
  lead_semas from Request h = leads from (what.Word w.REQUEST) 11 h refl refl
  lead_semas from Release h = leads from (what.Word w.RELEASE) 11 h refl refl

  lead_interrupt : (from : ℕ) (word : InterruptWord) → HasWord tokens from (interrupt_word word) → Leads from 12
  lead_interrupt from Enable h = leads from (what.Word w.ENABLE) 12 h refl refl
  lead_interrupt from Disable h = leads from (what.Word w.DISABLE) 12 h refl refl
  lead_interrupt from Trigger h = leads from (what.Word w.TRIGGER) 12 h refl refl

  stmt_leads : (depth from : ℕ) (a : Stmt) (to : ℕ) → SpellsStmt tokens depth from a to → Leads from (group a)
  stmt_leads depth from (Empty p) to h = leads from (what.Symbol s.SEMICOLON) 0 h.1 refl refl
  stmt_leads depth from (Assign part) to h = leads from (what.Id part.value.target.name.text) 1 h.3.1.0 refl refl
  stmt_leads depth from (Call part) to h = lead_call from part.value.call part.value.name h.0 h.3 h.4
  stmt_leads depth from (If' _ (if_.If' x _ r o p)) to h = leads from (what.Word w.IF) 3 h.5.0 refl refl
  stmt_leads depth from (Case' _ (case_.Case' x _ r o p)) to h = leads from (what.Word w.CASE) 4 h.5.0 refl refl
  stmt_leads depth from (Repeat' _ a b c d e ds _ r q p) to h =
      lead_for a from h.0 h.8 (lead_after w.FROM b h.0 h.1 h.9 refl refl
      (lead_after w.BY c h.1 h.2 h.10 refl refl (lead_after w.TO d h.2 h.3 h.11 refl refl
      (lead_after w.WHILE e h.3 h.4 h.12 refl refl (leads h.4 (what.Word w.REPEAT) 5 h.13 refl refl)))))
  stmt_leads depth from (Exit p) to h = leads from (what.Word w.EXIT) 6 h.1 refl refl
  stmt_leads depth from (Begin' _ ds _ r q p) to h = leads from (what.Word w.BEGIN) 7 h.3 refl refl
  stmt_leads depth from (Return part) to h = leads from (what.Word w.RETURN) 8 h.2 refl refl
  stmt_leads depth from (Activate part) to h = lead_activate from part.value.start h.0 h.3 h.4
  stmt_leads depth from (Continue part) to h = lead_continue from part.value.once h.0 h.2 h.3
  stmt_leads depth from (Resume part) to h = lead_once from part.value.once h.0 h.2
  stmt_leads depth from (OnTask part) to h = lead_task from part.value.word h.2
  stmt_leads depth from (OnSemas part) to h = lead_semas from part.value.word h.2
  stmt_leads depth from (OnInterrupt part) to h = lead_interrupt from part.value.word h.1
  stmt_leads depth from (Put part) to h = leads from (what.Word w.PUT) 13 h.3 refl refl
  stmt_leads depth from (Get part) to h = leads from (what.Word w.GET) 14 h.3 refl refl
  stmt_leads depth from (Send part) to h = leads from (what.Word w.SEND) 15 h.2.0 refl refl
  stmt_leads depth from (Take part) to h = leads from (what.Word w.TAKE) 16 h.2 refl refl

  pub stmt_begins : (depth from : ℕ) (a : Stmt) (to : ℕ) → SpellsStmt tokens depth from a to →
      begins_statement (what_at tokens from) ≡ true
  stmt_begins depth from a to h = let lead = stmt_leads depth from a to h in ap begins_statement lead.here ∙ lead.begins

  -- a statement that begins with this token is of its kind
  pub of_kind : (depth from n : ℕ) (first : What) → what_at tokens from ≡ Some first → group_of first ≡ Some n →
      (a : Stmt) (to : ℕ) → SpellsStmt tokens depth from a to → T (eqb (group a) n)
  of_kind depth from n first here kind a to h =
      let lead = stmt_leads depth from a to h in
      let same : lead.first ≡ first = let e = sym lead.here ∙ here in cc e in
      let number : Some (group a) ≡ Some n = sym lead.kind ∙ (ap group_of same ∙ kind) in
      let equal : group a ≡ n = cc number in
      yes_eqb equal
