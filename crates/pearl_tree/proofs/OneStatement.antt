-- What tokens spell is one statement: the same, and up to the same token, wherever the parts lie in memory.
use Rattle.std.proofs.Common.{◌≡◌, ◌≢◌, ◌⊎◌, inl, inr, ℕ, zero, suc, ◌+◌, ◌-◌, ◌<◌, ◌==◌, if◌then◌else◌, Bool, true, false, List, [], ◌∷◌, Option, Some, None, map, option_map, option_and_then, slice_get, T, eqb, refl, sym, ap, subst, ◌∙◌, arith}
use Rattle.std.proofs.Math.Facts.{yes_eqb}
use Rattle.pearl_tree.specs.declared.parts.Parts.{Parts}
use Rattle.pearl_tree.specs.declared.name.Name.{Name}
use Rattle.pearl_tree.specs.declared.expression.Expr.{Expr}
use Rattle.pearl_tree.specs.declared.expression.Ref.{Ref}
use Rattle.pearl_tree.specs.declared.expression.Selector.{Selector, Subscripts}
use Rattle.pearl_tree.specs.declared.format.Fmt.{Fmt}
use Rattle.pearl_tree.specs.declared.statement.Start.{Start}
use Rattle.pearl_tree.specs.declared.statement.Start.TheVariants as start
use Rattle.pearl_tree.specs.declared.statement.Once.{Once}
use Rattle.pearl_tree.specs.declared.statement.Once.TheVariants as once
use Rattle.pearl_tree.specs.declared.statement.TaskWord.{TaskWord}
use Rattle.pearl_tree.specs.declared.statement.TaskWord.TheVariants.{Suspend, Terminate, Prevent}
use Rattle.pearl_tree.specs.declared.statement.SemaWord.{SemaWord}
use Rattle.pearl_tree.specs.declared.statement.SemaWord.TheVariants.{Request, Release}
use Rattle.pearl_tree.specs.declared.statement.InterruptWord.{InterruptWord}
use Rattle.pearl_tree.specs.declared.statement.InterruptWord.TheVariants.{Enable, Disable, Trigger}
use Rattle.pearl_tree.specs.declared.statement.BodyDecl.{BodyDecl}
use Rattle.pearl_tree.specs.declared.statement.Stmt.{Stmt, Empty, Assign, Call, If', Case', Repeat', Exit, Begin', Return, Activate, Continue, Resume, OnTask, OnSemas, OnInterrupt, Put, Get, Send, Take, Row_of-Stmt, end_of-Stmt, more_of-Stmt}
use Rattle.pearl_tree.specs.declared.statement.If as if_
use Rattle.pearl_tree.specs.declared.statement.If.{Held-Case-otherwise, None', Some'}
use Rattle.pearl_tree.specs.declared.statement.Case as case_
use Rattle.pearl_tree.specs.declared.statement.Case.{Row_of-Branch, end_of-Branch, more_of-Branch}
use Rattle.pearl_tree.specs.declared.token.What.{What}
use Rattle.pearl_tree.specs.declared.token.What.TheVariants as what
use Rattle.pearl_tree.specs.declared.token.Token.{Token}
use Rattle.pearl_tree.specs.Standing.{SpellsFlag, IsAt, HasWord, HasSymbol, IsName, SpellsEach, SpellsList, SpellsName, SpellsMaybe, SpellsMaybeBracketed, what_at}
use Rattle.pearl_tree.specs.Expressions.{SpellsWhole, SpellsSelector, SpellsOwnRef}
use Rattle.pearl_tree.specs.Formats.{SpellsFmt}
use Rattle.pearl_tree.specs.Declarations.{SpellsItem}
use Rattle.pearl_tree.specs.Statements.{HasBecomes, SpellsAfter, SpellsFor, SpellsValue, SpellsMaybeList, SpellsStart, SpellsOnce, task_word, sema_word, interrupt_word, SpellsBodyDecl, SpellsStmt, SpellsStmts, SpellsAlternatives, SpellsMoreAlternatives, SpellsOtherwise}
use Rattle.pearl_tree.specs.Following.{lengthens_ref, lengthens_expr, HasOneOf}
use Rattle.pearl_tree.specs.ShownExpressions.{shown_expr, shown_ref}
use Rattle.pearl_tree.specs.ShownDeclarations.{shown_item}
use Rattle.pearl_tree.specs.ShownStatements.{OfEmpty, OfAssign, OfCall, OfIf, OfCase, OfRepeat, OfExit, OfBegin, OfReturn, OfActivate, OfContinue, OfResume, OfOnTask, OfOnSemas, OfOnInterrupt, OfPut, OfGet, OfSend, OfTake, MoreStmts, MoreBranches, OfOtherwise, shown_start, shown_once, shown_body_decl, shown_stmt, shown_stmts, shown_branches, shown_otherwise}
use Rattle.pearl_tree.specs.declared.symbol.TheConstants as s
use Rattle.pearl_tree.specs.declared.word_code.TheConstants as w
use Rattle.pearl_tree.proofs.ExpressionLists.{spells_subscripts}
use Rattle.pearl_tree.proofs.Meeting.{same_word, same_symbol, has_none, meets_once}
use Rattle.pearl_tree.proofs.Chains.{exprs_meet}
use Rattle.pearl_tree.proofs.OperandEnds.{selector_lists_meet}
use Rattle.pearl_tree.proofs.OneLiteral.{same_place, same_name}
use Rattle.pearl_tree.proofs.OneList.{symbol_no_word, each_one, list_one, maybe_one, maybe_bracketed_one, flag_one, as_they_are, option_as_it_is}
use Rattle.pearl_tree.proofs.OneType.{NoBracket, ItemStops, one_item, one_name}
use Rattle.pearl_tree.proofs.OneSchedule.{ExprStops, RefStops, one_whole, one_own_ref, one_after, word_stops, symbol_stops, maybe_after, no_expr_at, one_fmt, Activates, start_word, start_begins, once_word, once_begins, one_start, one_once, start_no_once}

-- the kinds of statements by their first tokens: a number for each, none for other tokens
abbrev group_rows : List (ℕ × ℕ)
group_rows =
    (w.CALL, 1) ∷ (w.IF, 3) ∷ (w.CASE, 4) ∷ (w.FOR, 5) ∷ (w.FROM, 5) ∷ (w.BY, 5) ∷ (w.TO, 5) ∷ (w.WHILE, 5) ∷ (w.REPEAT, 5) ∷
    (w.EXIT, 6) ∷ (w.BEGIN, 7) ∷ (w.RETURN, 8) ∷ (w.AT, 9) ∷ (w.AFTER, 9) ∷ (w.WHEN, 9) ∷ (w.ALL, 9) ∷ (w.ACTIVATE, 9) ∷
    (w.CONTINUE, 9) ∷ (w.SUSPEND, 10) ∷ (w.TERMINATE, 10) ∷ (w.PREVENT, 10) ∷ (w.REQUEST, 11) ∷ (w.RELEASE, 11) ∷
    (w.ENABLE, 12) ∷ (w.DISABLE, 12) ∷ (w.TRIGGER, 12) ∷ (w.PUT, 13) ∷ (w.GET, 14) ∷ (w.SEND, 15) ∷ (w.TAKE, 16) ∷ []

abbrev group_in : List (ℕ × ℕ) → ℕ → Option ℕ
group_in [] code = None
group_in (row ∷ rows) code = if row.0 == code then Some row.1 else group_in rows code

abbrev pub group_of : What → Option ℕ
group_of (what.Symbol symbol) = if symbol == s.SEMICOLON then Some 0 else None
group_of (what.Id _) = Some 1
group_of (what.Word code) = group_in group_rows code
group_of _ = None

abbrev group : Stmt → ℕ
group (Empty _) = 0
group (Assign part) = 1
group (Call part) = 1
group (If' _ _) = 3
group (Case' _ _) = 4
group (Repeat' _ _ _ _ _ _ _ _ _ _ _) = 5
group (Exit _) = 6
group (Begin' _ _ _ _ _ _) = 7
group (Return part) = 8
group (Activate part) = 9
group (Continue part) = 9
group (Resume part) = 9
group (OnTask part) = 10
group (OnSemas part) = 11
group (OnInterrupt part) = 12
group (Put part) = 13
group (Get part) = 14
group (Send part) = 15
group (Take part) = 16

module _ (tokens : List Token) where
  abbrev Leads : ℕ → ℕ → Type 0
  Leads k n = option_and_then group_of (what_at tokens k) ≡ Some n

  leads : (k : ℕ) (first : What) (n : ℕ) → what_at tokens k ≡ Some first → group_of first ≡ Some n → Leads k n
  leads k first n here is = ap (option_and_then group_of) here ∙ is

  -- a statement begins there
  abbrev pub Begins : ℕ → Type 0
  Begins k = (n : ℕ) × Leads k n

  pub no_begin : (k code : ℕ) → HasWord tokens k code → group_of (what.Word code) ≡ None → Begins k → ⊥
  no_begin k code here none h = absurd (let e = sym h.1 ∙ (ap (option_and_then group_of) here ∙ none) in cc e)

  lead_after : (word : ℕ) (o : Option Expr) (m n : ℕ) → SpellsMaybe (SpellsAfter tokens word) m o n → group_of (what.Word word) ≡ Some 5 → Leads n 5 → Leads m 5
  lead_after word None m n h e i = subst (λ k. Leads k 5) h i
  lead_after word (Some x) m n h e i = leads m (what.Word word) 5 h.0 e

  lead_for : (o : Option Name) (m n : ℕ) → SpellsMaybe (SpellsFor tokens) m o n → Leads n 5 → Leads m 5
  lead_for None m n h i = subst (λ k. Leads k 5) h i
  lead_for (Some x) m n h i = leads m (what.Word w.FOR) 5 h.0 refl

  lead_start : (from : ℕ) (a : Start) (to : ℕ) → SpellsStart tokens from a to → Leads from 9
  lead_start from (start.At x y p) to h = leads from (what.Word w.AT) 9 h.2.0 refl
  lead_start from (start.After x y p) to h = leads from (what.Word w.AFTER) 9 h.2.0 refl
  lead_start from (start.When n x y p) to h = leads from (what.Word w.WHEN) 9 h.2 refl
  lead_start from (start.All x) to h = leads from (what.Word w.ALL) 9 h.2.0 refl

  lead_once : (from : ℕ) (a : Once) (to : ℕ) → SpellsOnce tokens from a to → Leads from 9
  lead_once from (once.At x p) to h = leads from (what.Word w.AT) 9 h.1.0 refl
  lead_once from (once.After x p) to h = leads from (what.Word w.AFTER) 9 h.1.0 refl
  lead_once from (once.When n p) to h = leads from (what.Word w.WHEN) 9 h.1 refl

  lead_call : (call : Bool) (from a : ℕ) (name : Name) → SpellsFlag tokens w.CALL from call a → IsName tokens a name → Leads from 1
  lead_call false from a name h i = leads from (what.Id name.text) 1 (subst (λ k. IsName tokens k name) h i).0 refl
  lead_call true from a name h i = leads from (what.Word w.CALL) 1 h.0 refl

  lead_activate : (start : Option Start) (from a : ℕ) → SpellsMaybe (SpellsStart tokens) from start a → HasWord tokens a w.ACTIVATE → Leads from 9
  lead_activate None from a h i = leads from (what.Word w.ACTIVATE) 9 (subst (λ k. HasWord tokens k w.ACTIVATE) h i) refl
  lead_activate (Some x) from a h i = lead_start from x a h

  lead_continue : (once : Option Once) (from a : ℕ) → SpellsMaybe (SpellsOnce tokens) from once a → HasWord tokens a w.CONTINUE → Leads from 9
  lead_continue None from a h i = leads from (what.Word w.CONTINUE) 9 (subst (λ k. HasWord tokens k w.CONTINUE) h i) refl
  lead_continue (Some x) from a h i = lead_once from x a h

  lead_task : (word : TaskWord) (from : ℕ) → HasWord tokens from (task_word word) → Leads from 10
  lead_task Suspend from h = leads from (what.Word w.SUSPEND) 10 h refl
  lead_task Terminate from h = leads from (what.Word w.TERMINATE) 10 h refl
  lead_task Prevent from h = leads from (what.Word w.PREVENT) 10 h refl

  lead_semas : (word : SemaWord) (from : ℕ) → HasWord tokens from (sema_word word) → Leads from 11
  lead_semas Request from h = leads from (what.Word w.REQUEST) 11 h refl
  lead_semas Release from h = leads from (what.Word w.RELEASE) 11 h refl

  lead_interrupt : (word : InterruptWord) (from : ℕ) → HasWord tokens from (interrupt_word word) → Leads from 12
  lead_interrupt Enable from h = leads from (what.Word w.ENABLE) 12 h refl
  lead_interrupt Disable from h = leads from (what.Word w.DISABLE) 12 h refl
  lead_interrupt Trigger from h = leads from (what.Word w.TRIGGER) 12 h refl

  stmt_leads : (depth from : ℕ) (a : Stmt) (to : ℕ) → SpellsStmt tokens depth from a to → Leads from (group a)
  stmt_leads depth from (Empty p) to h = leads from (what.Symbol s.SEMICOLON) 0 h.1 refl
  stmt_leads depth from (Assign part) to h = leads from (what.Id part.value.target.name.text) 1 h.3.1.0 refl
  stmt_leads depth from (Call part) to h = lead_call part.value.call from h.0 part.value.name h.3 h.4
  stmt_leads depth from (If' _ (if_.If' x _ r o p)) to h = leads from (what.Word w.IF) 3 h.5.0 refl
  stmt_leads depth from (Case' _ (case_.Case' x _ r o p)) to h = leads from (what.Word w.CASE) 4 h.5.0 refl
  stmt_leads depth from (Repeat' _ a b c d e ds _ r q p) to h =
      lead_for a from h.0 h.8 (lead_after w.FROM b h.0 h.1 h.9 refl (lead_after w.BY c h.1 h.2 h.10 refl (lead_after w.TO d h.2 h.3 h.11 refl
      (lead_after w.WHILE e h.3 h.4 h.12 refl (leads h.4 (what.Word w.REPEAT) 5 h.13 refl)))))
  stmt_leads depth from (Exit p) to h = leads from (what.Word w.EXIT) 6 h.1 refl
  stmt_leads depth from (Begin' _ ds _ r q p) to h = leads from (what.Word w.BEGIN) 7 h.3 refl
  stmt_leads depth from (Return part) to h = leads from (what.Word w.RETURN) 8 h.2 refl
  stmt_leads depth from (Activate part) to h = lead_activate part.value.start from h.0 h.3 h.4
  stmt_leads depth from (Continue part) to h = lead_continue part.value.once from h.0 h.2 h.3
  stmt_leads depth from (Resume part) to h = lead_once from part.value.once h.0 h.2
  stmt_leads depth from (OnTask part) to h = lead_task part.value.word from h.2
  stmt_leads depth from (OnSemas part) to h = lead_semas part.value.word from h.2
  stmt_leads depth from (OnInterrupt part) to h = lead_interrupt part.value.word from h.1
  stmt_leads depth from (Put part) to h = leads from (what.Word w.PUT) 13 h.3 refl
  stmt_leads depth from (Get part) to h = leads from (what.Word w.GET) 14 h.3 refl
  stmt_leads depth from (Send part) to h = leads from (what.Word w.SEND) 15 h.2.0 refl
  stmt_leads depth from (Take part) to h = leads from (what.Word w.TAKE) 16 h.2 refl

  pub stmt_begins : (depth from : ℕ) (a : Stmt) (to : ℕ) → SpellsStmt tokens depth from a to → Begins from
  stmt_begins depth from a to h = (group a, stmt_leads depth from a to h)

  -- ---- parts of statements

  semicolon_stops : (k : ℕ) → HasSymbol tokens k s.SEMICOLON → ExprStops tokens k
  semicolon_stops k h = symbol_stops tokens k s.SEMICOLON h refl

  comma_stops : (k : ℕ) → HasSymbol tokens k s.COMMA → ExprStops tokens k
  comma_stops k h = symbol_stops tokens k s.COMMA h refl

  close_stops : (k : ℕ) → HasSymbol tokens k s.RIGHT_ROUND → ExprStops tokens k
  close_stops k h = symbol_stops tokens k s.RIGHT_ROUND h refl

  becomes_stops : (k : ℕ) → HasBecomes tokens k → RefStops tokens k
  becomes_stops k (inl h) g = has_none tokens lengthens_ref k (what.Symbol s.BECOMES) h refl g
  becomes_stops k (inr h) g = has_none tokens lengthens_ref k (what.Symbol s.EQUALS_SIGN) h refl g

  becomes_no_end : (k : ℕ) → HasBecomes tokens k → HasSymbol tokens k s.SEMICOLON → ⊥
  becomes_no_end k (inl h) g = absurd (omega (arith, same_symbol tokens k s.BECOMES s.SEMICOLON h g))
  becomes_no_end k (inr h) g = absurd (omega (arith, same_symbol tokens k s.EQUALS_SIGN s.SEMICOLON h g))

  pub no_bracket : (k symbol : ℕ) → HasSymbol tokens k symbol → symbol ≢ s.LEFT_ROUND → NoBracket tokens k
  no_bracket k symbol h other g = other (same_symbol tokens k symbol s.LEFT_ROUND h g)

  one_arguments : (from : ℕ) (xs ys : List Expr) (to end : ℕ) → SpellsMaybeBracketed tokens (SpellsWhole tokens) from xs to → HasSymbol tokens to s.SEMICOLON →
      SpellsMaybeBracketed tokens (SpellsWhole tokens) from ys end → HasSymbol tokens end s.SEMICOLON → (map shown_expr xs ≡ map shown_expr ys) × (to ≡ end)
  one_arguments from xs ys to end h i g j =
      maybe_bracketed_one tokens (SpellsWhole tokens) shown_expr (ExprStops tokens) comma_stops close_stops (one_whole tokens) xs ys from to end
      h (no_bracket to s.SEMICOLON i (λ e. absurd (omega (arith, e)))) g (no_bracket end s.SEMICOLON j (λ e. absurd (omega (arith, e))))

  place_of : (k symbol : ℕ) → HasSymbol tokens k symbol → (place : ℕ) × IsAt tokens k place
  place_of k symbol h = by (slice_get tokens k) h
    where
      by : (o : Option Token) → option_map (λ (token : Token). token.what) o ≡ Some (what.Symbol symbol) →
          (place : ℕ) × (option_map (λ (token : Token). token.place) o ≡ Some place)
      by None e = absurd (let e = e in cc e)
      by (Some token) e = (token.place, refl)

  -- the name and the arguments of a call, as a reference
  as_selectors : (from : ℕ) (arguments : Parts Expr) (to : ℕ) → SpellsMaybeBracketed tokens (SpellsWhole tokens) from arguments.items.items to →
      (xs : List Selector) × SpellsEach (SpellsSelector tokens 33) from xs to
  as_selectors from arguments to h = by arguments.items.items refl h
    where
      by : (ys : List Expr) → arguments.items.items ≡ ys → SpellsMaybeBracketed tokens (SpellsWhole tokens) from ys to →
          (xs : List Selector) × SpellsEach (SpellsSelector tokens 33) from xs to
      by [] e h = ([], h)
      by (y ∷ ys) e h =
          let place = place_of from s.LEFT_ROUND h.1 in
          let list = subst (λ zs. SpellsList tokens (SpellsWhole tokens) (from + 1) zs h.0) (sym e) h.2 in
          let selector = subst (λ X. X) (sym (spells_subscripts tokens 33 from arguments place.0 to)) (h.0, place.1, h.1, omega arith, list, h.3, h.4) in
          (Subscripts arguments place.0 ∷ [], (to, selector, refl))

  assign_no_call : (from : ℕ) (target : Ref) (a : ℕ) (arguments : Parts Expr) (b : ℕ) → SpellsOwnRef tokens from target a → HasBecomes tokens a →
      SpellsMaybeBracketed tokens (SpellsWhole tokens) (from + 1) arguments.items.items b → HasSymbol tokens b s.SEMICOLON → ⊥
  assign_no_call from target a arguments b h i g j =
      let other = as_selectors (from + 1) arguments b g in
      let same = meets_once (HasOneOf lengthens_ref tokens) (becomes_stops a i) (λ e. has_none tokens lengthens_ref b (what.Symbol s.SEMICOLON) j refl e)
      (selector_lists_meet tokens 33 (λ h. exprs_meet tokens 32) (from + 1) target.selectors.items.items other.0 a b h.2 other.1) in
      becomes_no_end b (subst (HasBecomes tokens) same i) j

  one_value : (from : ℕ) (a b : Expr) (to end : ℕ) → SpellsValue tokens from a to → SpellsValue tokens from b end → (shown_expr a ≡ shown_expr b) × (to ≡ end)
  one_value from a b to end h g =
      let same = one_whole tokens (from + 1) a b h.0 g.0 h.2 (close_stops h.0 h.3) g.2 (close_stops g.0 g.3) in
      (same.0, omega (arith, same.1, h.4, g.4))

  maybe_value : (from : ℕ) (a b : Option Expr) (to end : ℕ) → SpellsMaybe (SpellsValue tokens) from a to → HasSymbol tokens to s.SEMICOLON →
      SpellsMaybe (SpellsValue tokens) from b end → HasSymbol tokens end s.SEMICOLON → (option_map shown_expr a ≡ option_map shown_expr b) × (to ≡ end)
  maybe_value from a b to end h i g j =
      maybe_one (SpellsValue tokens) shown_expr (λ k. HasSymbol tokens k s.LEFT_ROUND) (λ k. Unit {0}) (λ k x m h. h.1) (λ k x y m n h _ g _. one_value k x y m n h g)
      a b from to end h (no_bracket to s.SEMICOLON i (λ e. absurd (omega (arith, e)))) tt g (no_bracket end s.SEMICOLON j (λ e. absurd (omega (arith, e)))) tt

  maybe_name : (from : ℕ) (a b : Option Name) (to end : ℕ) → SpellsMaybe (SpellsName tokens) from a to → HasSymbol tokens to s.SEMICOLON →
      SpellsMaybe (SpellsName tokens) from b end → HasSymbol tokens end s.SEMICOLON → (a ≡ b) × (to ≡ end)
  maybe_name from a b to end h i g j =
      let same = maybe_one (SpellsName tokens) (λ x. x) (λ k. (name : Name) × IsName tokens k name) (λ k. Unit {0}) (λ k x m h. (x, h.0))
      (λ k x y m n h _ g _. one_name tokens k x y m n h g) a b from to end h (λ e. absurd (let e = sym i ∙ e.1.0 in cc e)) tt g (λ e. absurd (let e = sym j ∙ e.1.0 in cc e)) tt in
      (option_as_it_is a b same.0, same.1)

  pub ends_no_comma : (k : ℕ) → HasSymbol tokens k s.COMMA → HasSymbol tokens k s.SEMICOLON → ⊥
  ends_no_comma k h g = absurd (omega (arith, same_symbol tokens k s.COMMA s.SEMICOLON h g))

  one_name_list : (from : ℕ) (xs ys : List Name) (to end : ℕ) → SpellsList tokens (SpellsName tokens) from xs to → HasSymbol tokens to s.SEMICOLON →
      SpellsList tokens (SpellsName tokens) from ys end → HasSymbol tokens end s.SEMICOLON → (xs ≡ ys) × (to ≡ end)
  one_name_list from xs ys to end h i g j =
      let same = list_one tokens (SpellsName tokens) (λ x. x) (λ k. Unit {0}) (λ k. HasSymbol tokens k s.SEMICOLON) (λ k _. tt) (λ k _. tt) ends_no_comma
      (λ k x y m n h _ g _. one_name tokens k x y m n h g) xs ys from to end h i g j in
      (as_they_are xs ys same.0, same.1)

  one_formats : (from : ℕ) (xs ys : List Fmt) (to end : ℕ) → SpellsList tokens (SpellsFmt tokens) from xs to → HasSymbol tokens to s.SEMICOLON →
      SpellsList tokens (SpellsFmt tokens) from ys end → HasSymbol tokens end s.SEMICOLON → (xs ≡ ys) × (to ≡ end)
  one_formats from xs ys to end h i g j =
      let same = list_one tokens (SpellsFmt tokens) (λ x. x) (NoBracket tokens) (λ k. HasSymbol tokens k s.SEMICOLON)
      (λ k h. no_bracket k s.COMMA h (λ e. absurd (omega (arith, e)))) (λ k h. no_bracket k s.SEMICOLON h (λ e. absurd (omega (arith, e)))) ends_no_comma
      (one_fmt tokens) xs ys from to end h i g j in
      (as_they_are xs ys same.0, same.1)

  no_value : (from : ℕ) (a : Expr) (to : ℕ) → HasWord tokens from w.TO → SpellsWhole tokens from a to → ⊥
  no_value from a to h g =
      no_expr_at tokens from w.TO h refl (λ e. absurd (omega (arith, e))) (λ e. absurd (omega (arith, e))) (λ e. absurd (omega (arith, e)))
      (λ e. absurd (omega (arith, e))) a to g

  -- [ expr { "," expr } ] TO
  one_values : (from : ℕ) (xs ys : List Expr) (to end : ℕ) → SpellsMaybeList tokens (SpellsWhole tokens) from xs to → HasWord tokens to w.TO →
      SpellsMaybeList tokens (SpellsWhole tokens) from ys end → HasWord tokens end w.TO → (map shown_expr xs ≡ map shown_expr ys) × (to ≡ end)
  one_values from [] [] to end h i g j = (refl, h ∙ sym g)
  one_values from [] (y ∷ ys) to end h i g j = absurd (no_value from y g.0 (subst (λ k. HasWord tokens k w.TO) h i) g.1)
  one_values from (x ∷ xs) [] to end h i g j = absurd (no_value from x h.0 (subst (λ k. HasWord tokens k w.TO) g j) h.1)
  one_values from (x ∷ xs) (y ∷ ys) to end h i g j =
      list_one tokens (SpellsWhole tokens) shown_expr (ExprStops tokens) (λ k. HasWord tokens k w.TO) comma_stops (λ k h. word_stops tokens k w.TO h refl)
      (λ k h g. symbol_no_word tokens k s.COMMA w.TO h g) (one_whole tokens) (x ∷ xs) (y ∷ ys) from to end h i g j

  -- [ ref { "," ref } ] FROM
  one_targets : (from : ℕ) (xs ys : List Ref) (to end : ℕ) → SpellsMaybeList tokens (SpellsOwnRef tokens) from xs to → HasWord tokens to w.FROM →
      SpellsMaybeList tokens (SpellsOwnRef tokens) from ys end → HasWord tokens end w.FROM → (map shown_ref xs ≡ map shown_ref ys) × (to ≡ end)
  one_targets from [] [] to end h i g j = (refl, h ∙ sym g)
  one_targets from [] (y ∷ ys) to end h i g j = absurd (let e = sym (subst (λ k. HasWord tokens k w.FROM) h i) ∙ g.1.1.0 in cc e)
  one_targets from (x ∷ xs) [] to end h i g j = absurd (let e = sym (subst (λ k. HasWord tokens k w.FROM) g j) ∙ h.1.1.0 in cc e)
  one_targets from (x ∷ xs) (y ∷ ys) to end h i g j =
      list_one tokens (SpellsOwnRef tokens) shown_ref (RefStops tokens) (λ k. HasWord tokens k w.FROM)
      (λ k h g. has_none tokens lengthens_ref k (what.Symbol s.COMMA) h refl g) (λ k h g. has_none tokens lengthens_ref k (what.Word w.FROM) h refl g)
      (λ k h g. symbol_no_word tokens k s.COMMA w.FROM h g) (one_own_ref tokens) (x ∷ xs) (y ∷ ys) from to end h i g j

  pub one_body_decl : (from : ℕ) (a b : BodyDecl) (to end : ℕ) → SpellsBodyDecl tokens from a to → SpellsBodyDecl tokens from b end →
      (shown_body_decl a ≡ shown_body_decl b) × (to ≡ end)
  one_body_decl from a b to end h g =
      let all = list_one tokens (SpellsItem tokens) shown_item (ItemStops tokens) (λ k. HasSymbol tokens k s.SEMICOLON)
      (λ k h. (no_bracket k s.COMMA h (λ e. absurd (omega (arith, e))), symbol_no_word tokens k s.COMMA w.INIT h))
      (λ k h. (no_bracket k s.SEMICOLON h (λ e. absurd (omega (arith, e))), symbol_no_word tokens k s.SEMICOLON w.INIT h)) ends_no_comma (one_item tokens)
      a.items.items.items b.items.items.items (from + 1) h.0 g.0 h.3 h.4 g.3 g.4 in
      let place = same_place tokens from a.place b.place h.1 g.1 in
      ((λ i. record { items = all.0 i; place = place i }), omega (arith, all.1, h.5, g.5))

  same_task_word : (k : ℕ) (a b : TaskWord) → T (eqb (task_word a) (task_word b)) → a ≡ b
  same_task_word k Suspend Suspend e = refl
  same_task_word k Terminate Terminate e = refl
  same_task_word k Prevent Prevent e = refl
  same_task_word k a b e = absurd e

  same_sema_word : (k : ℕ) (a b : SemaWord) → T (eqb (sema_word a) (sema_word b)) → a ≡ b
  same_sema_word k Request Request e = refl
  same_sema_word k Release Release e = refl
  same_sema_word k a b e = absurd e

  same_interrupt_word : (k : ℕ) (a b : InterruptWord) → T (eqb (interrupt_word a) (interrupt_word b)) → a ≡ b
  same_interrupt_word k Enable Enable e = refl
  same_interrupt_word k Disable Disable e = refl
  same_interrupt_word k Trigger Trigger e = refl
  same_interrupt_word k a b e = absurd e

  one_word : (k a b : ℕ) → HasWord tokens k a → HasWord tokens k b → T (eqb a b)
  one_word k a b h g = yes_eqb (same_word tokens k a b h g)

  -- a later one of the words FOR, FROM, BY, TO, WHILE and REPEAT
  abbrev Later : ℕ → ℕ → Type 0
  Later word k = (code : ℕ) × HasWord tokens k code × (word < code) × ExprStops tokens k

  later_no : (word k : ℕ) → Later word k → HasWord tokens k word → ⊥
  later_no word k h g = absurd (omega (arith, h.2, same_word tokens k h.0 word h.1 g))

  later_back : (word low : ℕ) (o : Option Expr) (m n : ℕ) → SpellsMaybe (SpellsAfter tokens word) m o n → low < word → lengthens_expr (what.Word word) ≡ false →
      Later word n → Later low m
  later_back word low None m n h less e i = subst (Later low) h (i.0, i.1, omega (arith, less, i.2), i.3)
  later_back word low (Some x) m n h less e i = (word, h.0, less, word_stops tokens m word h.0 e)

  one_later : (word from : ℕ) (a b : Option Expr) (to end : ℕ) → SpellsMaybe (SpellsAfter tokens word) from a to → Later word to →
      SpellsMaybe (SpellsAfter tokens word) from b end → Later word end → (option_map shown_expr a ≡ option_map shown_expr b) × (to ≡ end)
  one_later word from a b to end h i g j =
      maybe_after tokens word from a b to end h (later_no word to i) i.3 g (later_no word end j) j.3

  one_for : (from : ℕ) (a b : Option Name) (to end : ℕ) → SpellsMaybe (SpellsFor tokens) from a to → Later w.FOR to → SpellsMaybe (SpellsFor tokens) from b end →
      Later w.FOR end → (a ≡ b) × (to ≡ end)
  one_for from a b to end h i g j =
      let same = maybe_one (SpellsFor tokens) (λ x. x) (λ k. HasWord tokens k w.FOR) (λ k. Unit {0}) (λ k x m h. h.0)
      (λ k x y m n h _ g _. (same_name tokens (k + 1) x y h.1 g.1, h.2 ∙ sym g.2)) a b from to end h (later_no w.FOR to i) tt g (later_no w.FOR end j) tt in
      (option_as_it_is a b same.0, same.1)

  -- ---- lists of statements

  abbrev pub StmtOne : ℕ → Type 0
  StmtOne depth = (from : ℕ) (a b : Stmt) (to end : ℕ) → SpellsStmt tokens depth from a to → SpellsStmt tokens depth from b end →
      (shown_stmt a ≡ shown_stmt b) × (to ≡ end)

  module _ (below : ℕ) (one : StmtOne below) where
    one_stmts : (from : ℕ) (n m : _) (row : Row_of-Stmt n) (other : Row_of-Stmt m) (to end : ℕ) → SpellsStmts tokens below from row to → (Begins to → ⊥) →
        SpellsStmts tokens below from other end → (Begins end → ⊥) → (shown_stmts row ≡ shown_stmts other) × (to ≡ end)
    one_stmts from _ _ end_of-Stmt end_of-Stmt to end h i g j = (refl, h ∙ sym g)
    one_stmts from _ _ end_of-Stmt (more_of-Stmt y ys) to end h i g j = absurd (i (subst Begins (sym h) (stmt_begins below from y g.0 g.1)))
    one_stmts from _ _ (more_of-Stmt x xs) end_of-Stmt to end h i g j = absurd (j (subst Begins (sym g) (stmt_begins below from x h.0 h.1)))
    one_stmts from _ _ (more_of-Stmt x xs) (more_of-Stmt y ys) to end h i g j =
        let first = one from x y h.0 g.0 h.1 g.1 in
        let rest = one_stmts g.0 _ _ xs ys to end (subst (λ k. SpellsStmts tokens below k xs to) first.1 h.2) i g.2 j in
        ((λ i. MoreStmts (first.0 i) (rest.0 i)), rest.1)

    -- OUT or FIN
    abbrev Closes : ℕ → Type 0
    Closes k = HasWord tokens k w.OUT ⊎ HasWord tokens k w.FIN

    closes_no_begin : (k : ℕ) → Closes k → Begins k → ⊥
    closes_no_begin k (inl h) g = no_begin k w.OUT h refl g
    closes_no_begin k (inr h) g = no_begin k w.FIN h refl g

    closes_no_alt : (k : ℕ) → Closes k → HasWord tokens k w.ALT → ⊥
    closes_no_alt k (inl h) g = absurd (omega (arith, same_word tokens k w.OUT w.ALT h g))
    closes_no_alt k (inr h) g = absurd (omega (arith, same_word tokens k w.FIN w.ALT h g))

    branch_ends : (from : ℕ) (n : _) (row : Row_of-Branch n) (to : ℕ) → SpellsMoreAlternatives tokens below from row to → Closes to → Begins from → ⊥
    branch_ends from _ end_of-Branch to h c g = closes_no_begin to c (subst Begins (sym h) g)
    branch_ends from _ (more_of-Branch _ xs p rest) to h c g = no_begin from w.ALT h.1.1 refl g

    one_more_branches : (from : ℕ) (n m : _) (row : Row_of-Branch n) (other : Row_of-Branch m) (to end : ℕ) → SpellsMoreAlternatives tokens below from row to → Closes to →
        SpellsMoreAlternatives tokens below from other end → Closes end → (shown_branches row ≡ shown_branches other) × (to ≡ end)
    one_more_branches from _ _ end_of-Branch end_of-Branch to end h c g d = (refl, h ∙ sym g)
    one_more_branches from _ _ end_of-Branch (more_of-Branch _ ys q more) to end h c g d = absurd (closes_no_alt from (subst Closes h c) g.1.1)
    one_more_branches from _ _ (more_of-Branch _ xs p rest) end_of-Branch to end h c g d = absurd (closes_no_alt from (subst Closes g d) h.1.1)
    one_more_branches from _ _ (more_of-Branch _ xs p rest) (more_of-Branch _ ys q more) to end h c g d =
        let first = one_stmts (from + 1) _ _ xs ys h.0 g.0 h.1.2 (branch_ends h.0 _ rest to h.2 c) g.1.2 (branch_ends g.0 _ more end g.2 d) in
        let place = same_place tokens from p q h.1.0 g.1.0 in
        let all = one_more_branches g.0 _ _ rest more to end (subst (λ k. SpellsMoreAlternatives tokens below k rest to) first.1 h.2) c g.2 d in
        ((λ i. MoreBranches (first.0 i) (place i) (all.0 i)), all.1)

    one_branches : (from : ℕ) (n m : _) (row : Row_of-Branch n) (other : Row_of-Branch m) (to end : ℕ) → SpellsAlternatives tokens below from row to → Closes to →
        SpellsAlternatives tokens below from other end → Closes end → (shown_branches row ≡ shown_branches other) × (to ≡ end)
    one_branches from _ _ end_of-Branch other to end h c g d = absurd h
    one_branches from _ _ (more_of-Branch _ xs p rest) end_of-Branch to end h c g d = absurd g
    one_branches from _ _ (more_of-Branch _ xs p rest) (more_of-Branch _ ys q more) to end h c g d =
        let first = one_stmts (from + 1) _ _ xs ys h.0 g.0 h.1.2 (branch_ends h.0 _ rest to h.2 c) g.1.2 (branch_ends g.0 _ more end g.2 d) in
        let place = same_place tokens from p q h.1.0 g.1.0 in
        let all = one_more_branches g.0 _ _ rest more to end (subst (λ k. SpellsMoreAlternatives tokens below k rest to) first.1 h.2) c g.2 d in
        ((λ i. MoreBranches (first.0 i) (place i) (all.0 i)), all.1)

    branches_begin : (from : ℕ) (n : _) (row : Row_of-Branch n) (to : ℕ) → SpellsAlternatives tokens below from row to → HasWord tokens from w.ALT
    branches_begin from _ end_of-Branch to h = absurd h
    branches_begin from _ (more_of-Branch _ xs p rest) to h = h.1.1

    one_otherwise : (word from : ℕ) (a b : Held-Case-otherwise) (to end : ℕ) → SpellsOtherwise tokens below word from a to → HasWord tokens to w.FIN →
        SpellsOtherwise tokens below word from b end → HasWord tokens end w.FIN → word ≢ w.FIN → (shown_otherwise a ≡ shown_otherwise b) × (to ≡ end)
    one_otherwise word from None' None' to end h i g j other = (refl, h ∙ sym g)
    one_otherwise word from None' (Some' _ ys q) to end h i g j other = absurd (other (same_word tokens from word w.FIN g.1 (subst (λ k. HasWord tokens k w.FIN) h i)))
    one_otherwise word from (Some' _ xs p) None' to end h i g j other = absurd (other (same_word tokens from word w.FIN h.1 (subst (λ k. HasWord tokens k w.FIN) g j)))
    one_otherwise word from (Some' _ xs p) (Some' _ ys q) to end h i g j other =
        let all = one_stmts (from + 1) _ _ xs ys to end h.2 (no_begin to w.FIN i refl) g.2 (no_begin end w.FIN j refl) in
        let place = same_place tokens from p q h.0 g.0 in
        ((λ i. OfOtherwise (all.0 i) (place i)), all.1)

    else_ends : (from : ℕ) (a : Held-Case-otherwise) (to : ℕ) → SpellsOtherwise tokens below w.ELSE from a to → HasWord tokens to w.FIN → Begins from → ⊥
    else_ends from None' to h i g = no_begin to w.FIN i refl (subst Begins (sym h) g)
    else_ends from (Some' _ xs p) to h i g = no_begin from w.ELSE h.1 refl g

    out_closes : (from : ℕ) (a : Held-Case-otherwise) (to : ℕ) → SpellsOtherwise tokens below w.OUT from a to → HasWord tokens to w.FIN → Closes from
    out_closes from None' to h i = inr (subst (λ k. HasWord tokens k w.FIN) h i)
    out_closes from (Some' _ xs p) to h i = inl h.1

    -- { DCL item { "," item } ";" } { stmt } END
    stmts_no_dcl : (from : ℕ) (n : _) (row : Row_of-Stmt n) (to : ℕ) → SpellsStmts tokens below from row to → HasWord tokens to w.END → HasWord tokens from w.DCL → ⊥
    stmts_no_dcl from _ end_of-Stmt to h i g = absurd (omega (arith, same_word tokens from w.END w.DCL (subst (λ k. HasWord tokens k w.END) h i) g))
    stmts_no_dcl from _ (more_of-Stmt x xs) to h i g = no_begin from w.DCL g refl (stmt_begins below from x h.0 h.1)

    one_body : (from : ℕ) (ds es : List BodyDecl) (n m : _) (row : Row_of-Stmt n) (other : Row_of-Stmt m) (p q a b to end : ℕ) →
        IsAt tokens from p → SpellsEach (SpellsBodyDecl tokens) from ds a → SpellsStmts tokens below a row to → HasWord tokens to w.END →
        IsAt tokens from q → SpellsEach (SpellsBodyDecl tokens) from es b → SpellsStmts tokens below b other end → HasWord tokens end w.END →
        (map shown_body_decl ds ≡ map shown_body_decl es) × (shown_stmts row ≡ shown_stmts other) × (p ≡ q) × (to ≡ end)
    one_body from ds es n m row other p q a b to end at h g i also k j l =
        let first = each_one (SpellsBodyDecl tokens) shown_body_decl (λ k. HasWord tokens k w.DCL) (λ k x m h. h.2) one_body_decl ds es from a b
        h (stmts_no_dcl a n row to g i) k (stmts_no_dcl b m other end j l) in
        let rest = one_stmts b _ _ row other to end (subst (λ k. SpellsStmts tokens below k row to) first.1 g) (no_begin to w.END i refl) j (no_begin end w.END l refl) in
        (first.0, rest.0, same_place tokens from p q at also, rest.1)

  -- ---- activations and continuations

  start_no_word : (from : ℕ) (x : Start) (to code : ℕ) → SpellsStart tokens from x to → HasWord tokens from code → code < w.AT → ⊥
  start_no_word from x to code h g low = by x (start_begins tokens from x to h)
    where
      by : (x : Start) → HasWord tokens from (start_word tokens x) → ⊥
      by (start.At _ _ _) h = absurd (omega (arith, low, same_word tokens from code w.AT g h))
      by (start.After _ _ _) h = absurd (omega (arith, low, same_word tokens from code w.AFTER g h))
      by (start.When _ _ _ _) h = absurd (omega (arith, low, same_word tokens from code w.WHEN g h))
      by (start.All _) h = absurd (omega (arith, low, same_word tokens from code w.ALL g h))

  once_no_word : (from : ℕ) (x : Once) (to code : ℕ) → SpellsOnce tokens from x to → HasWord tokens from code → code < w.AT → ⊥
  once_no_word from x to code h g low = by x (once_begins tokens from x to h)
    where
      by : (x : Once) → HasWord tokens from (once_word tokens x) → ⊥
      by (once.At _ _) h = absurd (omega (arith, low, same_word tokens from code w.AT g h))
      by (once.After _ _) h = absurd (omega (arith, low, same_word tokens from code w.AFTER g h))
      by (once.When _ _) h = absurd (omega (arith, low, same_word tokens from code w.WHEN g h))

  start_no_activate : (k : ℕ) → Activates tokens k → ((x : Start) × (to : ℕ) × SpellsStart tokens k x to) → ⊥
  start_no_activate k h g = start_no_word k g.0 g.1 w.ACTIVATE g.2 h (omega arith)

  once_no_continue : (k : ℕ) → HasWord tokens k w.CONTINUE → ((x : Once) × (to : ℕ) × SpellsOnce tokens k x to) → ⊥
  once_no_continue k h g = once_no_word k g.0 g.1 w.CONTINUE g.2 h (omega arith)

  activate_no_continue : (from : ℕ) (x : Option Start) (a : ℕ) (y : Option Once) (b : ℕ) → SpellsMaybe (SpellsStart tokens) from x a → Activates tokens a →
      SpellsMaybe (SpellsOnce tokens) from y b → HasWord tokens b w.CONTINUE → ⊥
  activate_no_continue from None a None b h i g j =
      absurd (omega (arith, same_word tokens from w.ACTIVATE w.CONTINUE (subst (Activates tokens) h i) (subst (λ k. HasWord tokens k w.CONTINUE) g j)))
  activate_no_continue from None a (Some y) b h i g j = once_no_word from y b w.ACTIVATE g (subst (Activates tokens) h i) (omega arith)
  activate_no_continue from (Some x) a None b h i g j = start_no_word from x a w.CONTINUE h (subst (λ k. HasWord tokens k w.CONTINUE) g j) (omega arith)
  activate_no_continue from (Some x) a (Some y) b h i g j =
      start_no_once tokens from x y a b w.CONTINUE h i g j (word_stops tokens b w.CONTINUE j refl) (λ e. absurd (omega (arith, e))) (λ e. absurd (omega (arith, e))) (λ e. absurd (omega (arith, e)))

  activate_no_resume : (from : ℕ) (x : Option Start) (a : ℕ) (y : Once) (b : ℕ) → SpellsMaybe (SpellsStart tokens) from x a → Activates tokens a →
      SpellsOnce tokens from y b → HasWord tokens b w.RESUME → ⊥
  activate_no_resume from None a y b h i g j = once_no_word from y b w.ACTIVATE g (subst (Activates tokens) h i) (omega arith)
  activate_no_resume from (Some x) a y b h i g j =
      start_no_once tokens from x y a b w.RESUME h i g j (word_stops tokens b w.RESUME j refl) (λ e. absurd (omega (arith, e))) (λ e. absurd (omega (arith, e))) (λ e. absurd (omega (arith, e)))

  continue_no_resume : (from : ℕ) (x : Option Once) (a : ℕ) (y : Once) (b : ℕ) → SpellsMaybe (SpellsOnce tokens) from x a → HasWord tokens a w.CONTINUE →
      SpellsOnce tokens from y b → HasWord tokens b w.RESUME → ⊥
  continue_no_resume from None a y b h i g j = once_no_word from y b w.CONTINUE g (subst (λ k. HasWord tokens k w.CONTINUE) h i) (omega arith)
  continue_no_resume from (Some x) a y b h i g j =
      let same = one_once tokens from x y a b h (word_stops tokens a w.CONTINUE i refl) g (word_stops tokens b w.RESUME j refl) in
      absurd (omega (arith, same_word tokens b w.CONTINUE w.RESUME (subst (λ k. HasWord tokens k w.CONTINUE) same.1 i) j))

  name_no_word : (k : ℕ) (name : Name) (code : ℕ) → IsName tokens k name → HasWord tokens k code → ⊥
  name_no_word k name code h g = absurd (let e = sym h.0 ∙ g in cc e)

  -- ---- statements

  step : (depth : ℕ) → (0 < depth → StmtOne (depth - 1)) → StmtOne depth
  step depth inner from a b to end h g = by a b (yes_eqb groups) h g
    where
      groups : group a ≡ group b
      groups = let e = sym (stmt_leads depth from a to h) ∙ stmt_leads depth from b end g in cc e

      assign_or_call : (target : Ref) (call : Bool) (name : Name) (arguments : Parts Expr) (a b c : ℕ) → SpellsOwnRef tokens from target a → HasBecomes tokens a →
          SpellsFlag tokens w.CALL from call b → IsName tokens b name → SpellsMaybeBracketed tokens (SpellsWhole tokens) (b + 1) arguments.items.items c →
          HasSymbol tokens c s.SEMICOLON → ⊥
      assign_or_call target false name arguments a b c h i g j k l =
          assign_no_call from target a arguments c h i (subst (λ k. SpellsMaybeBracketed tokens (SpellsWhole tokens) (k + 1) arguments.items.items c) g k) l
      assign_or_call target true name arguments a b c h i g j k l = absurd (let e = sym h.1.0 ∙ g.0 in cc e)

      by : (a b : Stmt) → T (eqb (group a) (group b)) → SpellsStmt tokens depth from a to → SpellsStmt tokens depth from b end →
          (shown_stmt a ≡ shown_stmt b) × (to ≡ end)
      by (Empty p) (Empty q) e h g = (ap OfEmpty (same_place tokens from p q h.0 g.0), h.2 ∙ sym g.2)
      by (Assign part) (Assign other) e h g =
          let target = one_own_ref tokens from part.value.target other.value.target h.0 g.0 h.3 (becomes_stops h.0 h.4) g.3 (becomes_stops g.0 g.4) in
          let value = one_whole tokens (g.0 + 1) part.value.value other.value.value h.1 g.1 (subst (λ k. SpellsWhole tokens (k + 1) part.value.value h.1) target.1 h.5) (semicolon_stops h.1 h.6) g.5 (semicolon_stops g.1 g.6) in
          let place = same_place tokens from part.value.place other.value.place h.2 g.2 in
          ((λ i. OfAssign (target.0 i) (value.0 i) (place i)), omega (arith, h.7, g.7, value.1))
      by (Assign part) (Call other) e h g = absurd (assign_or_call part.value.target other.value.call other.value.name other.value.arguments h.0 g.0 g.1 h.3 h.4 g.3 g.4 g.5 g.6)
      by (Call part) (Assign other) e h g = absurd (assign_or_call other.value.target part.value.call part.value.name part.value.arguments g.0 h.0 h.1 g.3 g.4 h.3 h.4 h.5 h.6)
      by (Call part) (Call other) e h g =
          let call = flag_one tokens w.CALL from part.value.call other.value.call h.0 g.0 h.3 (name_no_word h.0 part.value.name w.CALL h.4) g.3 (name_no_word g.0 other.value.name w.CALL g.4) in
          let name = same_name tokens g.0 part.value.name other.value.name (subst (λ k. IsName tokens k part.value.name) call.1 h.4) g.4 in
          let all = one_arguments (g.0 + 1) part.value.arguments.items.items other.value.arguments.items.items h.1 g.1
          (subst (λ k. SpellsMaybeBracketed tokens (SpellsWhole tokens) (k + 1) part.value.arguments.items.items h.1) call.1 h.5) h.6 g.5 g.6 in
          let place = same_place tokens from part.value.place other.value.place h.2 g.2 in
          ((λ i. OfCall (call.0 i) (name i) (all.0 i) (place i)), omega (arith, h.7, g.7, all.1))
      by (If' _ (if_.If' x _ r o p)) (If' _ (if_.If' y _ s' u q)) e h g =
          let condition = one_after tokens w.IF from x y h.0 g.0 h.5 (word_stops tokens h.0 w.THEN h.6 refl) g.5 (word_stops tokens g.0 w.THEN g.6 refl) in
          let all = one_stmts (depth - 1) (inner h.4) (g.0 + 1) _ _ r s' h.1 g.1 (subst (λ k. SpellsStmts tokens (depth - 1) (k + 1) r h.1) condition.1 h.7)
          (else_ends (depth - 1) (inner h.4) h.1 o h.2 h.8 h.9) g.7 (else_ends (depth - 1) (inner h.4) g.1 u g.2 g.8 g.9) in
          let otherwise = one_otherwise (depth - 1) (inner h.4) w.ELSE g.1 o u h.2 g.2 (subst (λ k. SpellsOtherwise tokens (depth - 1) w.ELSE k o h.2) all.1 h.8) h.9 g.8 g.9
          (λ e. absurd (omega (arith, e))) in
          let place = same_place tokens from p q h.3 g.3 in
          ((λ i. OfIf (condition.0 i) (all.0 i) (otherwise.0 i) (place i)), omega (arith, h.11, g.11, otherwise.1))
      by (Case' _ (case_.Case' x _ r o p)) (Case' _ (case_.Case' y _ s' u q)) e h g =
          let this = branches_begin (depth - 1) (inner h.4) h.0 _ r h.1 h.6 in
          let that = branches_begin (depth - 1) (inner h.4) g.0 _ s' g.1 g.6 in
          let selector = one_after tokens w.CASE from x y h.0 g.0 h.5 (word_stops tokens h.0 w.ALT this refl) g.5 (word_stops tokens g.0 w.ALT that refl) in
          let all = one_branches (depth - 1) (inner h.4) g.0 _ _ r s' h.1 g.1 (subst (λ k. SpellsAlternatives tokens (depth - 1) k r h.1) selector.1 h.6)
          (out_closes (depth - 1) (inner h.4) h.1 o h.2 h.7 h.8) g.6 (out_closes (depth - 1) (inner h.4) g.1 u g.2 g.7 g.8) in
          let otherwise = one_otherwise (depth - 1) (inner h.4) w.OUT g.1 o u h.2 g.2 (subst (λ k. SpellsOtherwise tokens (depth - 1) w.OUT k o h.2) all.1 h.7) h.8 g.7 g.8
          (λ e. absurd (omega (arith, e))) in
          let place = same_place tokens from p q h.3 g.3 in
          ((λ i. OfCase (selector.0 i) (all.0 i) (otherwise.0 i) (place i)), omega (arith, h.10, g.10, otherwise.1))
      by (Repeat' _ n1 b1 s1 t1 c1 ds1 _ r1 p1 q1) (Repeat' _ n2 b2 s2 t2 c2 ds2 _ r2 p2 q2) e h g =
          let e1 : Later w.WHILE h.4 = (w.REPEAT, h.13, omega arith, word_stops tokens h.4 w.REPEAT h.13 refl) in
          let e2 : Later w.WHILE g.4 = (w.REPEAT, g.13, omega arith, word_stops tokens g.4 w.REPEAT g.13 refl) in
          let d1 = later_back w.WHILE w.TO c1 h.3 h.4 h.12 (omega arith) refl e1 in
          let d2 = later_back w.WHILE w.TO c2 g.3 g.4 g.12 (omega arith) refl e2 in
          let l1 = later_back w.TO w.BY t1 h.2 h.3 h.11 (omega arith) refl d1 in
          let l2 = later_back w.TO w.BY t2 g.2 g.3 g.11 (omega arith) refl d2 in
          let k1 = later_back w.BY w.FROM s1 h.1 h.2 h.10 (omega arith) refl l1 in
          let k2 = later_back w.BY w.FROM s2 g.1 g.2 g.10 (omega arith) refl l2 in
          let a1 = later_back w.FROM w.FOR b1 h.0 h.1 h.9 (omega arith) refl k1 in
          let a2 = later_back w.FROM w.FOR b2 g.0 g.1 g.9 (omega arith) refl k2 in
          let control = one_for from n1 n2 h.0 g.0 h.8 a1 g.8 a2 in
          let begin = one_later w.FROM g.0 b1 b2 h.1 g.1 (subst (λ k. SpellsMaybe (SpellsAfter tokens w.FROM) k b1 h.1) control.1 h.9) k1 g.9 k2 in
          let by_ = one_later w.BY g.1 s1 s2 h.2 g.2 (subst (λ k. SpellsMaybe (SpellsAfter tokens w.BY) k s1 h.2) begin.1 h.10) l1 g.10 l2 in
          let last = one_later w.TO g.2 t1 t2 h.3 g.3 (subst (λ k. SpellsMaybe (SpellsAfter tokens w.TO) k t1 h.3) by_.1 h.11) d1 g.11 d2 in
          let condition = one_later w.WHILE g.3 c1 c2 h.4 g.4 (subst (λ k. SpellsMaybe (SpellsAfter tokens w.WHILE) k c1 h.4) last.1 h.12) e1 g.12 e2 in
          let body = one_body (depth - 1) (inner h.7) (g.4 + 1) ds1.items.items ds2.items.items _ _ r1 r2 p1 p2 h.14.0 g.14.0 h.5 g.5
          (subst (λ k. IsAt tokens (k + 1) p1) condition.1 h.14.1) (subst (λ k. SpellsEach (SpellsBodyDecl tokens) (k + 1) ds1.items.items h.14.0) condition.1 h.14.2) h.14.3 h.15
          g.14.1 g.14.2 g.14.3 g.15 in
          let place = same_place tokens from q1 q2 h.6 g.6 in
          ((λ i. OfRepeat (control.0 i) (begin.0 i) (by_.0 i) (last.0 i) (condition.0 i) (body.0 i) (body.1 i) (body.2 i) (place i)), omega (arith, h.17, g.17, body.3))
      by (Exit p) (Exit q) e h g = (ap OfExit (same_place tokens from p q h.0 g.0), h.3 ∙ sym g.3)
      by (Begin' _ ds _ r p q) (Begin' _ es _ s' u v) e h g =
          let body = one_body (depth - 1) (inner h.2) (from + 1) ds.items.items es.items.items _ _ r s' p u h.4.0 g.4.0 h.0 g.0 h.4.1 h.4.2 h.4.3 h.5 g.4.1 g.4.2 g.4.3 g.5 in
          let place = same_place tokens from q v h.1 g.1 in
          ((λ i. OfBegin (body.0 i) (body.1 i) (body.2 i) (place i)), omega (arith, h.7, g.7, body.3))
      by (Return part) (Return other) e h g =
          let value = maybe_value (from + 1) part.value.value other.value.value h.0 g.0 h.3 h.4 g.3 g.4 in
          let place = same_place tokens from part.value.place other.value.place h.1 g.1 in
          ((λ i. OfReturn (value.0 i) (place i)), omega (arith, h.5, g.5, value.1))
      by (Activate part) (Activate other) e h g =
          let start = maybe_one (SpellsStart tokens) shown_start (λ k. (x : Start) × (to : ℕ) × SpellsStart tokens k x to) (Activates tokens) (λ k x m h. (x, m, h)) (one_start tokens)
          part.value.start other.value.start from h.0 g.0 h.3 (start_no_activate h.0 h.4) h.4 g.3 (start_no_activate g.0 g.4) g.4 in
          let task = same_name tokens (g.0 + 1) part.value.task other.value.task (subst (λ k. IsName tokens (k + 1) part.value.task) start.1 h.5) g.5 in
          let priority = maybe_after tokens w.PRIO (g.0 + 2) part.value.priority other.value.priority h.1 g.1 (subst (λ k. SpellsMaybe (SpellsAfter tokens w.PRIO) (k + 2) part.value.priority h.1) start.1 h.6)
          (symbol_no_word tokens h.1 s.SEMICOLON w.PRIO h.7) (semicolon_stops h.1 h.7) g.6 (symbol_no_word tokens g.1 s.SEMICOLON w.PRIO g.7) (semicolon_stops g.1 g.7) in
          let place = same_place tokens from part.value.place other.value.place h.2 g.2 in
          ((λ i. OfActivate (start.0 i) (task i) (priority.0 i) (place i)), omega (arith, h.8, g.8, priority.1))
      by (Continue part) (Continue other) e h g =
          let once = maybe_one (SpellsOnce tokens) shown_once (λ k. (x : Once) × (to : ℕ) × SpellsOnce tokens k x to) (λ k. HasWord tokens k w.CONTINUE) (λ k x m h. (x, m, h))
          (λ k x y m n h i g j. one_once tokens k x y m n h (word_stops tokens m w.CONTINUE i refl) g (word_stops tokens n w.CONTINUE j refl))
          part.value.once other.value.once from h.0 g.0 h.2 (once_no_continue h.0 h.3) h.3 g.2 (once_no_continue g.0 g.3) g.3 in
          let task = same_name tokens (g.0 + 1) part.value.task other.value.task (subst (λ k. IsName tokens (k + 1) part.value.task) once.1 h.4) g.4 in
          let place = same_place tokens from part.value.place other.value.place h.1 g.1 in
          ((λ i. OfContinue (once.0 i) (task i) (place i)), omega (arith, h.6, g.6, once.1))
      by (Resume part) (Resume other) e h g =
          let once = one_once tokens from part.value.once other.value.once h.0 g.0 h.2 (word_stops tokens h.0 w.RESUME h.3 refl) g.2 (word_stops tokens g.0 w.RESUME g.3 refl) in
          let place = same_place tokens from part.value.place other.value.place h.1 g.1 in
          ((λ i. OfResume (once.0 i) (place i)), omega (arith, h.5, g.5, once.1))
      by (Activate part) (Continue other) e h g = absurd (activate_no_continue from part.value.start h.0 other.value.once g.0 h.3 h.4 g.2 g.3)
      by (Continue part) (Activate other) e h g = absurd (activate_no_continue from other.value.start g.0 part.value.once h.0 g.3 g.4 h.2 h.3)
      by (Activate part) (Resume other) e h g = absurd (activate_no_resume from part.value.start h.0 other.value.once g.0 h.3 h.4 g.2 g.3)
      by (Resume part) (Activate other) e h g = absurd (activate_no_resume from other.value.start g.0 part.value.once h.0 g.3 g.4 h.2 h.3)
      by (Continue part) (Resume other) e h g = absurd (continue_no_resume from part.value.once h.0 other.value.once g.0 h.2 h.3 g.2 g.3)
      by (Resume part) (Continue other) e h g = absurd (continue_no_resume from other.value.once g.0 part.value.once h.0 g.2 g.3 h.2 h.3)
      by (OnTask part) (OnTask other) e h g =
          let word = same_task_word from part.value.word other.value.word (one_word from (task_word part.value.word) (task_word other.value.word) h.2 g.2) in
          let name = maybe_name (from + 1) part.value.task other.value.task h.0 g.0 h.3 h.4 g.3 g.4 in
          let place = same_place tokens from part.value.place other.value.place h.1 g.1 in
          ((λ i. OfOnTask (word i) (name.0 i) (place i)), omega (arith, h.5, g.5, name.1))
      by (OnSemas part) (OnSemas other) e h g =
          let word = same_sema_word from part.value.word other.value.word (one_word from (sema_word part.value.word) (sema_word other.value.word) h.2 g.2) in
          let all = one_name_list (from + 1) part.value.names.items.items other.value.names.items.items h.0 g.0 h.3 h.4 g.3 g.4 in
          let place = same_place tokens from part.value.place other.value.place h.1 g.1 in
          ((λ i. OfOnSemas (word i) (all.0 i) (place i)), omega (arith, h.5, g.5, all.1))
      by (OnInterrupt part) (OnInterrupt other) e h g =
          let word = same_interrupt_word from part.value.word other.value.word (one_word from (interrupt_word part.value.word) (interrupt_word other.value.word) h.1 g.1) in
          let name = same_name tokens (from + 1) part.value.name other.value.name h.2 g.2 in
          let place = same_place tokens from part.value.place other.value.place h.0 g.0 in
          ((λ i. OfOnInterrupt (word i) (name i) (place i)), h.4 ∙ sym g.4)
      by (Put part) (Put other) e h g =
          let all = one_values (from + 1) part.value.values.items.items other.value.values.items.items h.0 g.0 h.4 h.5 g.4 g.5 in
          let name = same_name tokens (g.0 + 1) part.value.dation other.value.dation (subst (λ k. IsName tokens (k + 1) part.value.dation) all.1 h.6) g.6 in
          let formats = one_formats (g.0 + 3) part.value.formats.items.items other.value.formats.items.items h.1 g.1 (subst (λ k. SpellsList tokens (SpellsFmt tokens) (k + 3) part.value.formats.items.items h.1) all.1 h.8) h.9 g.8 g.9 in
          let place = same_place tokens from part.value.place other.value.place h.2 g.2 in
          ((λ i. OfPut (all.0 i) (name i) (formats.0 i) (place i)), omega (arith, h.10, g.10, formats.1))
      by (Get part) (Get other) e h g =
          let all = one_targets (from + 1) part.value.targets.items.items other.value.targets.items.items h.0 g.0 h.4 h.5 g.4 g.5 in
          let name = same_name tokens (g.0 + 1) part.value.dation other.value.dation (subst (λ k. IsName tokens (k + 1) part.value.dation) all.1 h.6) g.6 in
          let formats = one_formats (g.0 + 3) part.value.formats.items.items other.value.formats.items.items h.1 g.1 (subst (λ k. SpellsList tokens (SpellsFmt tokens) (k + 3) part.value.formats.items.items h.1) all.1 h.8) h.9 g.8 g.9 in
          let place = same_place tokens from part.value.place other.value.place h.2 g.2 in
          ((λ i. OfGet (all.0 i) (name i) (formats.0 i) (place i)), omega (arith, h.10, g.10, formats.1))
      by (Send part) (Send other) e h g =
          let value = one_after tokens w.SEND from part.value.value other.value.value h.0 g.0 h.2 (word_stops tokens h.0 w.TO h.3 refl) g.2 (word_stops tokens g.0 w.TO g.3 refl) in
          let name = same_name tokens (g.0 + 1) part.value.dation other.value.dation (subst (λ k. IsName tokens (k + 1) part.value.dation) value.1 h.4) g.4 in
          let place = same_place tokens from part.value.place other.value.place h.1 g.1 in
          ((λ i. OfSend (value.0 i) (name i) (place i)), omega (arith, h.6, g.6, value.1))
      by (Take part) (Take other) e h g =
          let target = one_own_ref tokens (from + 1) part.value.target other.value.target h.0 g.0 h.3 (λ e. has_none tokens lengthens_ref h.0 (what.Word w.FROM) h.4 refl e) g.3
          (λ e. has_none tokens lengthens_ref g.0 (what.Word w.FROM) g.4 refl e) in
          let name = same_name tokens (g.0 + 1) part.value.dation other.value.dation (subst (λ k. IsName tokens (k + 1) part.value.dation) target.1 h.5) g.5 in
          let place = same_place tokens from part.value.place other.value.place h.1 g.1 in
          ((λ i. OfTake (target.0 i) (name i) (place i)), omega (arith, h.7, g.7, target.1))
      by a b e h g = absurd e

  pub one_stmt : (depth : ℕ) → StmtOne depth
  one_stmt zero = step zero (λ h. absurd (omega (arith, h)))
  one_stmt (suc depth) =
      let less : depth ≡ suc depth - 1 = omega arith in
      step (suc depth) (λ h. subst StmtOne less (one_stmt depth))
