-- Statements and bodies stand at the tokens that printing gives them.
use Rattle.std.proofs.Common.{◌≡◌, ℕ, ◌+◌, ◌-◌, List, ◌++◌, true, inl, refl, subst, ap}
use Rattle.std.specs.List.{flat_map}
use Rattle.pearl_tree.specs.declared.statement.Stmt.{Stmt, Empty, Assign, Call, If', Case', Repeat', Exit, Begin', Return, Activate, Continue, Resume, OnTask, OnSemas, OnInterrupt, Put, Get, Send, Take, Row_of-Stmt, end_of-Stmt, more_of-Stmt}
use Rattle.pearl_tree.specs.declared.statement.If as if_
use Rattle.pearl_tree.specs.declared.statement.If.{Held-Case-otherwise, None', Some'}
use Rattle.pearl_tree.specs.declared.statement.Case as case_
use Rattle.pearl_tree.specs.declared.statement.Case.{Row_of-Branch, end_of-Branch, more_of-Branch}
use Rattle.pearl_tree.specs.declared.token.What.TheVariants as what
use Rattle.pearl_tree.specs.declared.token.Token.{Token}
use Rattle.pearl_tree.specs.Standing.{HasSymbol, SpellsMaybe}
use Rattle.pearl_tree.specs.Statements.{SpellsAfter, SpellsStmt, SpellsStmts, SpellsAlternatives, SpellsMoreAlternatives, SpellsOtherwise, SpellsWholeBody}
use Rattle.pearl_tree.specs.ShownExpressions.{shown_expr, shown_ref}
use Rattle.pearl_tree.specs.ShownStatements.{OfAssign, OfCall, OfIf, OfCase, OfRepeat, OfBegin, OfReturn, OfActivate, OfContinue, OfResume, OfOnTask, OfOnSemas, OfPut, OfGet, OfSend, OfTake, MoreStmts, MoreBranches, OfOtherwise, shown_start, shown_once, shown_stmt, shown_stmts, shown_branches, shown_otherwise}
use Rattle.pearl_tree.specs.ShownModules.{shown_body}
use Rattle.pearl_tree.specs.declared.symbol.TheConstants as s
use Rattle.pearl_tree.specs.declared.word_code.TheConstants as w
use Rattle.pearl_print.specs.Lists.{word, symbol, name_tokens, listed, maybe_bracketed, maybe}
use Rattle.pearl_print.specs.Expressions.{expr_tokens, ref_tokens}
use Rattle.pearl_print.specs.Formats.{by_tokens}
use Rattle.pearl_print.specs.Schedules.{after_tokens, start_tokens, once_tokens}
use Rattle.pearl_print.specs.Statements.{for_tokens, value_tokens, body_decl_tokens, loop_tokens, stmt_tokens, stmts_tokens, alternatives_tokens, otherwise_tokens, body_tokens}
use Rattle.pearl_print.specs.Plain.{plain_name, plain_expr, plain_ref, plain_start, plain_once, plain_stmt, plain_stmts, plain_branches, plain_otherwise, plain_body}
use Rattle.pearl_print.proofs.TokenRanges.{place_of, here, starts, HasTokens, cut, cut3, cut4, cut5, cut_token, cut_two, plus_two, plus_three}
use Rattle.pearl_print.proofs.PlainLists.{Placed, Places, in_parts, each_at, list_at, maybe_list_at, maybe_bracketed_at, maybe_at, seen, seen_option, name_places}
use Rattle.pearl_print.proofs.PlainExpressions.{expr_places, ref_places}
use Rattle.pearl_print.proofs.PlainSchedules.{after_places, maybe_after, for_places, value_places, start_places, once_places, decls_at, by_at}

module _ (before tokens : List Token) where
  mutual
    stmt_at : (depth a : ℕ) (statement : Stmt) (b : ℕ) → SpellsStmt before depth a statement b → (from to : ℕ) → HasTokens tokens from (stmt_tokens statement) to →
        Placed (SpellsStmt tokens depth) (λ statement. plain_stmt (shown_stmt statement)) from statement to
    stmt_at depth a (Empty place) b h from to g =
        record { copy = Empty (place_of tokens from); spelled = (here tokens from _ g.0, g.0, g.1.0); same = refl }
    stmt_at depth a (Assign box) b h from to g =
        let p = cut tokens from (ref_tokens box.value.target ++ symbol s.BECOMES ++ expr_tokens box.value.value) (symbol s.SEMICOLON) to g in
        let q = cut_token tokens from (ref_tokens box.value.target) (what.Symbol s.BECOMES) (expr_tokens box.value.value) p.0 p.1 in
        let first = (ref_places before tokens).at a box.value.target h.0 h.3 from q.0 q.1 in
        let second = (expr_places before tokens).at (h.0 + 1) box.value.value h.1 h.5 (q.0 + 1) p.0 q.3 in
        record {
          copy = Assign (record box { value = record { target = first.copy; value = second.copy; place = place_of tokens from } });
          spelled = (q.0, p.0, here tokens from _ g.0, first.spelled, inl q.2, second.spelled, p.2.0, p.2.1.0);
          same = λ i. OfAssign (first.same i) (second.same i) 0;
        }
    stmt_at depth a (Call box) b h from to g =
        let k = from + 1 in
        let p = cut tokens (k + 1) (maybe_bracketed expr_tokens box.value.arguments.items.items) (symbol s.SEMICOLON) to g.1.1 in
        let list = in_parts (k + 1) box.value.arguments p.0
        (maybe_bracketed_at before tokens (expr_places before tokens) box.value.arguments.items.items (h.0 + 1) h.1 h.5 (k + 1) p.0 p.1) in
        record {
          copy = Call (record box { value = record { call = true; name = record { text = box.value.name.text; place = place_of tokens k }; arguments = list.copy; place = place_of tokens from } });
          spelled = (k, p.0, here tokens from _ g.0, (g.0, refl), (g.1.0, here tokens k _ g.1.0), list.spelled, p.2.0, p.2.1.0);
          same = λ i. OfCall true (plain_name box.value.name) (seen shown_expr plain_expr list.copy.items.items box.value.arguments.items.items list.same i) 0;
        }
    stmt_at depth a (If' ptr (if_.If' condition shape statements otherwise place)) b h from to g =
        let p = cut3 tokens from (after_tokens w.IF condition ++ word w.THEN ++ stmts_tokens statements) (otherwise_tokens w.ELSE otherwise) (word w.FIN ++ symbol s.SEMICOLON) to g in
        let q = cut_token tokens from (after_tokens w.IF condition) (what.Word w.THEN) (stmts_tokens statements) p.0 p.2 in
        let first = (after_places before tokens w.IF).at a condition h.0 h.5 from q.0 q.1 in
        let second = stmts_at (depth - 1) (h.0 + 1) _ statements h.1 h.7 (q.0 + 1) p.0 q.3 in
        let third = otherwise_at (depth - 1) w.ELSE h.1 otherwise h.2 h.8 p.0 p.1 p.3 in
        record {
          copy = If' ptr (if_.If' first.copy shape second.copy third.copy (place_of tokens from));
          spelled = (
            q.0,
            p.0,
            p.1,
            here tokens from _ g.0,
            h.4,
            first.spelled,
            q.2,
            second.spelled,
            third.spelled,
            p.4.0,
            p.4.1.0,
            plus_two (λ k. to ≡ k) p.1 p.4.1.1.0,
          );
          same = λ i. OfIf (first.same i) (second.same i) (third.same i) 0;
        }
    stmt_at depth a (Case' ptr (case_.Case' selector shape alternatives otherwise place)) b h from to g =
        let p = cut4 tokens from (after_tokens w.CASE selector) (alternatives_tokens alternatives) (otherwise_tokens w.OUT otherwise) (word w.FIN ++ symbol s.SEMICOLON) to g in
        let first = (after_places before tokens w.CASE).at a selector h.0 h.5 from p.0 p.3 in
        let second = alternatives_at (depth - 1) h.0 _ alternatives h.1 h.6 p.0 p.1 p.4 in
        let third = otherwise_at (depth - 1) w.OUT h.1 otherwise h.2 h.7 p.1 p.2 p.5 in
        record {
          copy = Case' ptr (case_.Case' first.copy shape second.copy third.copy (place_of tokens from));
          spelled = (
            p.0,
            p.1,
            p.2,
            here tokens from _ g.0,
            h.4,
            first.spelled,
            second.spelled,
            third.spelled,
            p.6.0,
            p.6.1.0,
            plus_two (λ k. to ≡ k) p.2 p.6.1.1.0,
          );
          same = λ i. OfCase (first.same i) (second.same i) (third.same i) 0;
        }
    stmt_at depth a (Repeat' ptr control begin step end condition declarations shape statements body_place place) b h from to g =
        let p = cut tokens from (loop_tokens control begin step end condition)
        (word w.REPEAT ++ (flat_map body_decl_tokens declarations.items.items ++ stmts_tokens statements) ++ (word w.END ++ symbol s.SEMICOLON)) to g in
        let l = cut5 tokens from (maybe for_tokens control) (maybe (after_tokens w.FROM) begin) (maybe (after_tokens w.BY) step) (maybe (after_tokens w.TO) end)
        (maybe (after_tokens w.WHILE) condition) p.0 p.1 in
        let k = p.0 + 1 in
        let q = cut3 tokens k (flat_map body_decl_tokens declarations.items.items) (stmts_tokens statements) (word w.END ++ symbol s.SEMICOLON) to p.2.1 in
        let loop = maybe_at before tokens (for_places before tokens) control a h.0 h.8 from l.0 l.4 in
        let first = maybe_after before tokens w.FROM begin h.0 h.1 h.9 l.0 l.1 l.5 in
        let second = maybe_after before tokens w.BY step h.1 h.2 h.10 l.1 l.2 l.6 in
        let third = maybe_after before tokens w.TO end h.2 h.3 h.11 l.2 l.3 l.7 in
        let fourth = maybe_after before tokens w.WHILE condition h.3 h.4 h.12 l.3 p.0 l.8 in
        let decls = decls_at before tokens (h.4 + 1) declarations h.14.0 h.14.2 k q.0 q.2 in
        let body = stmts_at (depth - 1) h.14.0 _ statements h.5 h.14.3 q.0 q.1 q.3 in
        record {
          copy = Repeat' ptr loop.copy first.copy second.copy third.copy fourth.copy decls.copy shape body.copy (place_of tokens k) (place_of tokens from);
          spelled = (
            l.0,
            l.1,
            l.2,
            l.3,
            p.0,
            q.1,
            starts tokens from _ to g,
            h.7,
            loop.spelled,
            first.spelled,
            second.spelled,
            third.spelled,
            fourth.spelled,
            p.2.0,
            (q.0, starts tokens k _ to p.2.1, decls.spelled, body.spelled),
            q.4.0,
            q.4.1.0,
            plus_two (λ n. to ≡ n) q.1 q.4.1.1.0,
          );
          same = λ i. OfRepeat (loop.same i) (seen_option shown_expr plain_expr first.copy begin first.same i) (seen_option shown_expr plain_expr second.copy step second.same i)
              (seen_option shown_expr plain_expr third.copy end third.same i) (seen_option shown_expr plain_expr fourth.copy condition fourth.same i) (decls.same i) (body.same i) 0 0;
        }
    stmt_at depth a (Exit place) b h from to g =
        record { copy = Exit (place_of tokens from); spelled = (here tokens from _ g.0, g.0, g.1.0, plus_two (λ k. to ≡ k) from g.1.1.0); same = refl }
    stmt_at depth a (Begin' ptr declarations shape statements body_place place) b h from to g =
        let k = from + 1 in
        let q = cut3 tokens k (flat_map body_decl_tokens declarations.items.items) (stmts_tokens statements) (word w.END ++ symbol s.SEMICOLON) to g.1 in
        let decls = decls_at before tokens (a + 1) declarations h.4.0 h.4.2 k q.0 q.2 in
        let body = stmts_at (depth - 1) h.4.0 _ statements h.0 h.4.3 q.0 q.1 q.3 in
        record {
          copy = Begin' ptr decls.copy shape body.copy (place_of tokens k) (place_of tokens from);
          spelled = (
            q.1,
            here tokens from _ g.0,
            h.2,
            g.0,
            (q.0, starts tokens k _ to g.1, decls.spelled, body.spelled),
            q.4.0,
            q.4.1.0,
            plus_two (λ n. to ≡ n) q.1 q.4.1.1.0,
          );
          same = λ i. OfBegin (decls.same i) (body.same i) 0 0;
        }
    stmt_at depth a (Return box) b h from to g =
        let p = cut tokens (from + 1) (maybe value_tokens box.value.value) (symbol s.SEMICOLON) to g.1 in
        let part = maybe_at before tokens (value_places before tokens) box.value.value (a + 1) h.0 h.3 (from + 1) p.0 p.1 in
        record {
          copy = Return (record box { value = record { value = part.copy; place = place_of tokens from } });
          spelled = (p.0, here tokens from _ g.0, g.0, part.spelled, p.2.0, p.2.1.0);
          same = λ i. OfReturn (seen_option shown_expr plain_expr part.copy box.value.value part.same i) 0;
        }
    stmt_at depth a (Activate box) b h from to g =
        let p = cut3 tokens from (maybe start_tokens box.value.start ++ word w.ACTIVATE ++ name_tokens box.value.task) (maybe (after_tokens w.PRIO) box.value.priority) (symbol s.SEMICOLON) to g in
        let q = cut_token tokens from (maybe start_tokens box.value.start) (what.Word w.ACTIVATE) (name_tokens box.value.task) p.0 p.2 in
        let first = maybe_at before tokens (start_places before tokens) box.value.start a h.0 h.3 from q.0 q.1 in
        let second = maybe_after before tokens w.PRIO box.value.priority (h.0 + 2) h.1 h.6 p.0 p.1 p.3 in
        record {
          copy = Activate (record box { value = record { start = first.copy; task = record { text = box.value.task.text; place = place_of tokens (q.0 + 1) }; priority = second.copy; place = place_of tokens from } });
          spelled = (
            q.0,
            p.1,
            starts tokens from _ to g,
            first.spelled,
            q.2,
            (q.3.0, here tokens (q.0 + 1) _ q.3.0),
            subst (λ k. SpellsMaybe (SpellsAfter tokens w.PRIO) k second.copy p.1) (plus_two (λ k. p.0 ≡ k) q.0 q.3.1.0) second.spelled,
            p.4.0,
            p.4.1.0,
          );
          same = λ i. OfActivate (seen_option shown_start plain_start first.copy box.value.start first.same i) (plain_name box.value.task)
              (seen_option shown_expr plain_expr second.copy box.value.priority second.same i) 0;
        }
    stmt_at depth a (Continue box) b h from to g =
        let p = cut_two tokens from (maybe once_tokens box.value.once) (what.Word w.CONTINUE) (what.Id box.value.task.text) (symbol s.SEMICOLON) to g in
        let first = maybe_at before tokens (once_places before tokens) box.value.once a h.0 h.2 from p.0 p.1 in
        record {
          copy = Continue (record box { value = record { once = first.copy; task = record { text = box.value.task.text; place = place_of tokens (p.0 + 1) }; place = place_of tokens from } });
          spelled = (
            p.0,
            starts tokens from _ to g,
            first.spelled,
            p.2,
            (p.3, here tokens (p.0 + 1) _ p.3),
            plus_two (λ k. HasSymbol tokens k s.SEMICOLON) p.0 p.4.0,
            plus_three (λ k. to ≡ k) p.0 p.4.1.0,
          );
          same = λ i. OfContinue (seen_option shown_once plain_once first.copy box.value.once first.same i) (plain_name box.value.task) 0;
        }
    stmt_at depth a (Resume box) b h from to g =
        let p = cut_token tokens from (once_tokens box.value.once) (what.Word w.RESUME) (symbol s.SEMICOLON) to g in
        let first = (once_places before tokens).at a box.value.once h.0 h.2 from p.0 p.1 in
        record {
          copy = Resume (record box { value = record { once = first.copy; place = place_of tokens from } });
          spelled = (p.0, starts tokens from _ to g, first.spelled, p.2, p.3.0, plus_two (λ k. to ≡ k) p.0 p.3.1.0);
          same = ap (λ once. OfResume once 0) first.same;
        }
    stmt_at depth a (OnTask box) b h from to g =
        let p = cut tokens (from + 1) (maybe name_tokens box.value.task) (symbol s.SEMICOLON) to g.1 in
        let part = maybe_at before tokens (name_places before tokens) box.value.task (a + 1) h.0 h.3 (from + 1) p.0 p.1 in
        record {
          copy = OnTask (record box { value = record { word = box.value.word; task = part.copy; place = place_of tokens from } });
          spelled = (p.0, here tokens from _ g.0, g.0, part.spelled, p.2.0, p.2.1.0);
          same = ap (λ task. OfOnTask box.value.word task 0) part.same;
        }
    stmt_at depth a (OnSemas box) b h from to g =
        let p = cut tokens (from + 1) (listed name_tokens box.value.names.items.items) (symbol s.SEMICOLON) to g.1 in
        let list = in_parts (from + 1) box.value.names p.0
        (list_at before tokens (name_places before tokens) box.value.names.items.items (a + 1) h.0 h.3 (from + 1) p.0 p.1) in
        record {
          copy = OnSemas (record box { value = record { word = box.value.word; names = list.copy; place = place_of tokens from } });
          spelled = (p.0, here tokens from _ g.0, g.0, list.spelled, p.2.0, p.2.1.0);
          same = ap (λ names. OfOnSemas box.value.word names 0) list.same;
        }
    stmt_at depth a (OnInterrupt box) b h from to g = record {
      copy = OnInterrupt (record box { value = record { word = box.value.word; name = record { text = box.value.name.text; place = place_of tokens (from + 1) }; place = place_of tokens from } });
      spelled = (
        here tokens from _ g.0,
        g.0,
        (g.1.0, here tokens (from + 1) _ g.1.0),
        plus_two (λ k. HasSymbol tokens k s.SEMICOLON) from g.1.1.0,
        plus_three (λ k. to ≡ k) from g.1.1.1.0,
      );
      same = refl;
    }
    stmt_at depth a (Put box) b h from to g =
        let p = cut_token tokens (from + 1) (listed expr_tokens box.value.values.items.items) (what.Word w.TO) (by_tokens box.value.dation box.value.formats) to g.1 in
        let list = in_parts (from + 1) box.value.values p.0
        (maybe_list_at before tokens (expr_places before tokens) box.value.values.items.items (a + 1) h.0 h.4 (from + 1) p.0 p.1) in
        let by = by_at before tokens box.value.dation box.value.formats (h.0 + 3) h.1 h.8 p.0 to p.3 in
        record {
          copy = Put (record box { value = record { values = list.copy; dation = record { text = box.value.dation.text; place = place_of tokens (p.0 + 1) }; formats = by.0; place = place_of tokens from } });
          spelled = (p.0, by.1, here tokens from _ g.0, g.0, list.spelled, p.2, by.2, by.3, by.4, by.5, by.6);
          same = λ i. OfPut (seen shown_expr plain_expr list.copy.items.items box.value.values.items.items list.same i) (plain_name box.value.dation) (by.7 i) 0;
        }
    stmt_at depth a (Get box) b h from to g =
        let p = cut_token tokens (from + 1) (listed ref_tokens box.value.targets.items.items) (what.Word w.FROM) (by_tokens box.value.dation box.value.formats) to g.1 in
        let list = in_parts (from + 1) box.value.targets p.0
        (maybe_list_at before tokens (ref_places before tokens) box.value.targets.items.items (a + 1) h.0 h.4 (from + 1) p.0 p.1) in
        let by = by_at before tokens box.value.dation box.value.formats (h.0 + 3) h.1 h.8 p.0 to p.3 in
        record {
          copy = Get (record box { value = record { targets = list.copy; dation = record { text = box.value.dation.text; place = place_of tokens (p.0 + 1) }; formats = by.0; place = place_of tokens from } });
          spelled = (p.0, by.1, here tokens from _ g.0, g.0, list.spelled, p.2, by.2, by.3, by.4, by.5, by.6);
          same = λ i. OfGet (seen shown_ref plain_ref list.copy.items.items box.value.targets.items.items list.same i) (plain_name box.value.dation) (by.7 i) 0;
        }
    stmt_at depth a (Send box) b h from to g =
        let p = cut_two tokens from (after_tokens w.SEND box.value.value) (what.Word w.TO) (what.Id box.value.dation.text) (symbol s.SEMICOLON) to g in
        let first = (after_places before tokens w.SEND).at a box.value.value h.0 h.2 from p.0 p.1 in
        record {
          copy = Send (record box { value = record { value = first.copy; dation = record { text = box.value.dation.text; place = place_of tokens (p.0 + 1) }; place = place_of tokens from } });
          spelled = (
            p.0,
            here tokens from _ g.0,
            first.spelled,
            p.2,
            (p.3, here tokens (p.0 + 1) _ p.3),
            plus_two (λ k. HasSymbol tokens k s.SEMICOLON) p.0 p.4.0,
            plus_three (λ k. to ≡ k) p.0 p.4.1.0,
          );
          same = ap (λ value. OfSend value (plain_name box.value.dation) 0) first.same;
        }
    stmt_at depth a (Take box) b h from to g =
        let p = cut_two tokens (from + 1) (ref_tokens box.value.target) (what.Word w.FROM) (what.Id box.value.dation.text) (symbol s.SEMICOLON) to g.1 in
        let first = (ref_places before tokens).at (a + 1) box.value.target h.0 h.3 (from + 1) p.0 p.1 in
        record {
          copy = Take (record box { value = record { target = first.copy; dation = record { text = box.value.dation.text; place = place_of tokens (p.0 + 1) }; place = place_of tokens from } });
          spelled = (
            p.0,
            here tokens from _ g.0,
            g.0,
            first.spelled,
            p.2,
            (p.3, here tokens (p.0 + 1) _ p.3),
            plus_two (λ k. HasSymbol tokens k s.SEMICOLON) p.0 p.4.0,
            plus_three (λ k. to ≡ k) p.0 p.4.1.0,
          );
          same = ap (λ target. OfTake target (plain_name box.value.dation) 0) first.same;
        }

    stmts_at : (depth a : ℕ) (n : _) (row : Row_of-Stmt n) (b : ℕ) → SpellsStmts before depth a row b → (from to : ℕ) → HasTokens tokens from (stmts_tokens row) to →
        Placed (λ from (row : Row_of-Stmt n) to. SpellsStmts tokens depth from row to) (λ (row : Row_of-Stmt n). plain_stmts (shown_stmts row)) from row to
    stmts_at depth a _ end_of-Stmt b h from to g = record { copy = end_of-Stmt; spelled = g.0; same = refl }
    stmts_at depth a _ (more_of-Stmt statement rest) b h from to g =
        let p = cut tokens from (stmt_tokens statement) (stmts_tokens rest) to g in
        let first = stmt_at depth a statement h.0 h.1 from p.0 p.1 in
        let others = stmts_at depth h.0 _ rest b h.2 p.0 to p.2 in
        record {
          copy = more_of-Stmt first.copy others.copy;
          spelled = (p.0, first.spelled, others.spelled);
          same = λ i. MoreStmts (first.same i) (others.same i);
        }

    alternatives_at : (depth a : ℕ) (n : _) (row : Row_of-Branch n) (b : ℕ) → SpellsAlternatives before depth a row b → (from to : ℕ) → HasTokens tokens from (alternatives_tokens row) to →
        Placed (λ from (row : Row_of-Branch n) to. SpellsAlternatives tokens depth from row to) (λ (row : Row_of-Branch n). plain_branches (shown_branches row)) from row to
    alternatives_at depth a _ end_of-Branch b h from to g = absurd h
    alternatives_at depth a _ (more_of-Branch shape statements place rest) b h from to g =
        let p = cut tokens (from + 1) (stmts_tokens statements) (alternatives_tokens rest) to g.1 in
        let first = stmts_at depth (a + 1) _ statements h.0 h.1.2 (from + 1) p.0 p.1 in
        let others = more_alternatives_at depth h.0 _ rest b h.2 p.0 to p.2 in
        record {
          copy = more_of-Branch shape first.copy (place_of tokens from) others.copy;
          spelled = (p.0, (here tokens from _ g.0, g.0, first.spelled), others.spelled);
          same = λ i. MoreBranches (first.same i) 0 (others.same i);
        }

    more_alternatives_at : (depth a : ℕ) (n : _) (row : Row_of-Branch n) (b : ℕ) → SpellsMoreAlternatives before depth a row b → (from to : ℕ) → HasTokens tokens from (alternatives_tokens row) to →
        Placed (λ from (row : Row_of-Branch n) to. SpellsMoreAlternatives tokens depth from row to) (λ (row : Row_of-Branch n). plain_branches (shown_branches row)) from row to
    more_alternatives_at depth a _ end_of-Branch b h from to g = record { copy = end_of-Branch; spelled = g.0; same = refl }
    more_alternatives_at depth a _ (more_of-Branch shape statements place rest) b h from to g =
        let p = cut tokens (from + 1) (stmts_tokens statements) (alternatives_tokens rest) to g.1 in
        let first = stmts_at depth (a + 1) _ statements h.0 h.1.2 (from + 1) p.0 p.1 in
        let others = more_alternatives_at depth h.0 _ rest b h.2 p.0 to p.2 in
        record {
          copy = more_of-Branch shape first.copy (place_of tokens from) others.copy;
          spelled = (p.0, (here tokens from _ g.0, g.0, first.spelled), others.spelled);
          same = λ i. MoreBranches (first.same i) 0 (others.same i);
        }

    otherwise_at : (depth code a : ℕ) (otherwise : Held-Case-otherwise) (b : ℕ) → SpellsOtherwise before depth code a otherwise b → (from to : ℕ) → HasTokens tokens from (otherwise_tokens code otherwise) to →
        Placed (SpellsOtherwise tokens depth code) (λ otherwise. plain_otherwise (shown_otherwise otherwise)) from otherwise to
    otherwise_at depth code a None' b h from to g = record { copy = None'; spelled = g.0; same = refl }
    otherwise_at depth code a (Some' shape statements place) b h from to g =
        let part = stmts_at depth (a + 1) _ statements b h.2 (from + 1) to g.1 in
        record {
          copy = Some' shape part.copy (place_of tokens from);
          spelled = (here tokens from _ g.0, g.0, part.spelled);
          same = ap (λ statements. OfOtherwise statements 0) part.same;
        }

  stmt_places : Places tokens (SpellsStmt before 32) (SpellsStmt tokens 32) stmt_tokens (λ statement. plain_stmt (shown_stmt statement))
  stmt_places = record { at = stmt_at 32 }

  pub body_places : Places tokens (SpellsWholeBody before) (SpellsWholeBody tokens) body_tokens (λ body. plain_body (shown_body body))
  body_places = record {
    at = λ a body b h from to g.
        let statements = body.statements in
        let p = cut tokens from (flat_map body_decl_tokens body.declarations.items.items) (flat_map stmt_tokens statements.items.items) to g in
        let decls = decls_at before tokens a body.declarations h.0 h.2 from p.0 p.1 in
        let list = in_parts p.0 statements to
        (each_at before tokens stmt_places statements.items.items h.0 b h.3 p.0 to p.2) in
        record {
          copy = record { declarations = decls.copy; statements = list.copy; place = place_of tokens from };
          spelled = (p.0, starts tokens from _ to g, decls.spelled, list.spelled);
          same = λ i. record { declarations = decls.same i; statements = seen shown_stmt plain_stmt list.copy.items.items statements.items.items list.same i; place = 0 };
        };
  }
