use Rattle.std.proofs.Common.{◌≡◌, ℕ, ◌+◌, ◌++◌, ◌∷◌, sym, ap, subst, ◌∙◌, arith, true}
use Rattle.pearl_tree.specs.declared.statement.Begin.{Begin}
use Rattle.pearl_tree.specs.declared.statement.Case as case_
use Rattle.pearl_tree.specs.declared.statement.Case.{out-Case}
use Rattle.pearl_tree.specs.declared.statement.If as if_
use Rattle.pearl_tree.specs.declared.statement.If.{out-If}
use Rattle.pearl_tree.specs.declared.statement.Repeat.{Repeat}
use Rattle.pearl_tree.specs.ShownStatements.{ShownStmt, shown_stmt}
use Rattle.pearl_names.specs.Listed.{stmts_shown, branches_shown, otherwise_shown}
use Rattle.pearl_names.specs.Scopes.{scopes_in, scopes_in_all, scopes_in_branches, scopes_in_otherwise}
use Rattle.pearl_scope.specs.declared.places.Spot.{Spot}
use Rattle.pearl_scope.specs.Placed.{Placed, placed_in, placed_stmt, placed_all, placed_branches, placed_otherwise}
use Rattle.pearl_names.proofs.Offered.{if_shown, case_shown, repeat_shown, begin_shown}
use Rattle.pearl_scope.proofs.Placing.{put_at, put_two, put_more, branches_put, grows_more}
use Rattle.pearl_scope.proofs.places.«+place».Goals as goal

abbrev at : Spot → ℕ → ShownStmt → Placed
at spot next statement = record { spot = spot; next = next; statement = statement }

pub place_all-loop-stmt-preserved : goal.place_all-loop-stmt-preserved
place_all-loop-stmt-preserved t c = (
  rw (← c.as_slice-stmt-items.ensures) (put_more _ _ _ c.args.spot c.args.next _ _ c.as_slice-stmt-items.result.now c.loop-stmt.stmt-index c.stmt-item.result c.loop-stmt-test.true c.stmt-item.is
      (rw c.as_slice-stmt-items.ensures c.loop-stmt.invariant.0) c.in_ok-number.ensures.placed c.in_ok-number.ensures.next),
  grows_more _ _ _ c.loop-stmt.invariant.1 c.in_ok-number.ensures.grows,
)

pub place_branches-loop-branch-preserved : goal.place_branches-loop-branch-preserved
place_branches-loop-branch-preserved t c = (
  rw (← c.as_slice-branch-items.ensures) (branches_put _ _ _ c.args.spot c.args.next _ _ c.as_slice-branch-items.result.now c.loop-branch.branch-index c.branch-item.result c.loop-branch-test.true c.branch-item.is
      (rw c.as_slice-branch-items.ensures c.loop-branch.invariant.0) c.in_ok-number.ensures.placed c.in_ok-number.ensures.next),
  grows_more _ _ _ c.loop-branch.invariant.1 c.in_ok-number.ensures.grows,
)

pub place_stmt-returns-in_ok-next-in-If-2-clause-placed : goal.place_stmt-returns-in_ok-next-in-If-2-clause-placed
place_stmt-returns-in_ok-next-in-If-2-clause-placed t c =
    let box = c.in-If.part in
    let part = out-If box.value in
    let spot = c.args.spot in
    let next = c.args.next in
    let inner = stmts_shown part.statements.items.items in
    let last = λ (n : ℕ). placed_otherwise spot n (otherwise_shown part.otherwise) in
    let whole = λ (s : ShownStmt). at spot next s ∷ (placed_all spot next inner ++ last (next + scopes_in_all inner)) in
    let shown = ap shown_stmt c.in-If.is ∙ if_shown box in
    let e : placed_stmt spot next (shown_stmt c.args.stmt.now) ≡ whole (shown_stmt c.args.stmt.now) = ap (placed_stmt spot next) shown ∙ ap whole (sym shown) in
    let first = subst (λ (p : if_.If). placed_in c.place_all.new.places.items ≡ placed_in c.put_place.new.places.items ++ placed_all spot next (stmts_shown (out-If p).statements.items.items))
    c.deref.ensures c.in_ok-next-in-If.ensures.placed in
    let counted = subst (λ (p : if_.If). c.in_ok-next-in-If.next ≡ next + scopes_in_all (stmts_shown (out-If p).statements.items.items)) c.deref.ensures c.in_ok-next-in-If.ensures.next in
    let second = subst (λ (p : if_.If). placed_in c.place_otherwise.new.places.items ≡ placed_in c.place_all.new.places.items ++ placed_otherwise spot c.in_ok-next-in-If.next (otherwise_shown (out-If p).otherwise))
    c.deref-in-If.ensures c.in_ok-next-in-If-2.ensures.placed in
    rw e (put_two _ _ _ _ _ (placed_all spot next inner) last _ (next + scopes_in_all inner) c.in_ok-put_place.ensures.placed first counted second)

pub place_stmt-returns-in_ok-next-in-If-2-clause-next : goal.place_stmt-returns-in_ok-next-in-If-2-clause-next
place_stmt-returns-in_ok-next-in-If-2-clause-next t c =
    let box = c.in-If.part in
    let part = out-If box.value in
    let e : scopes_in (shown_stmt c.args.stmt.now) ≡ scopes_in_all (stmts_shown part.statements.items.items) + scopes_in_otherwise (otherwise_shown part.otherwise) =
    ap scopes_in (ap shown_stmt c.in-If.is ∙ if_shown box) in
    let a = subst (λ (p : if_.If). c.in_ok-next-in-If.next ≡ c.args.next + scopes_in_all (stmts_shown (out-If p).statements.items.items)) c.deref.ensures c.in_ok-next-in-If.ensures.next in
    let b = subst (λ (p : if_.If). c.in_ok-next-in-If-2.next ≡ c.in_ok-next-in-If.next + scopes_in_otherwise (otherwise_shown (out-If p).otherwise)) c.deref-in-If.ensures c.in_ok-next-in-If-2.ensures.next in
    omega (arith, a, b, e)

pub place_stmt-returns-in_ok-next-in-Case-2-clause-placed : goal.place_stmt-returns-in_ok-next-in-Case-2-clause-placed
place_stmt-returns-in_ok-next-in-Case-2-clause-placed t c =
    let box = c.in-Case.part in
    let part = out-Case box.value in
    let spot = c.args.spot in
    let next = c.args.next in
    let inner = branches_shown part.alternatives.items.items in
    let last = λ (n : ℕ). placed_otherwise spot n (otherwise_shown part.otherwise) in
    let whole = λ (s : ShownStmt). at spot next s ∷ (placed_branches spot next inner ++ last (next + scopes_in_branches inner)) in
    let shown = ap shown_stmt c.in-Case.is ∙ case_shown box in
    let e : placed_stmt spot next (shown_stmt c.args.stmt.now) ≡ whole (shown_stmt c.args.stmt.now) = ap (placed_stmt spot next) shown ∙ ap whole (sym shown) in
    let first = subst (λ (p : case_.Case). placed_in c.place_branches.new.places.items ≡ placed_in c.put_place.new.places.items ++ placed_branches spot next (branches_shown (out-Case p).alternatives.items.items))
    c.deref-in-Case.ensures c.in_ok-next-in-Case.ensures.placed in
    let counted = subst (λ (p : case_.Case). c.in_ok-next-in-Case.next ≡ next + scopes_in_branches (branches_shown (out-Case p).alternatives.items.items)) c.deref-in-Case.ensures c.in_ok-next-in-Case.ensures.next in
    let second = subst (λ (p : case_.Case). placed_in c.place_otherwise-in-Case.new.places.items ≡ placed_in c.place_branches.new.places.items ++ placed_otherwise spot c.in_ok-next-in-Case.next (otherwise_shown (out-Case p).otherwise))
    c.deref-in-Case-2.ensures c.in_ok-next-in-Case-2.ensures.placed in
    rw e (put_two _ _ _ _ _ (placed_branches spot next inner) last _ (next + scopes_in_branches inner) c.in_ok-put_place.ensures.placed first counted second)

pub place_stmt-returns-in_ok-next-in-Case-2-clause-next : goal.place_stmt-returns-in_ok-next-in-Case-2-clause-next
place_stmt-returns-in_ok-next-in-Case-2-clause-next t c =
    let box = c.in-Case.part in
    let part = out-Case box.value in
    let e : scopes_in (shown_stmt c.args.stmt.now) ≡ scopes_in_branches (branches_shown part.alternatives.items.items) + scopes_in_otherwise (otherwise_shown part.otherwise) =
    ap scopes_in (ap shown_stmt c.in-Case.is ∙ case_shown box) in
    let a = subst (λ (p : case_.Case). c.in_ok-next-in-Case.next ≡ c.args.next + scopes_in_branches (branches_shown (out-Case p).alternatives.items.items)) c.deref-in-Case.ensures c.in_ok-next-in-Case.ensures.next in
    let b = subst (λ (p : case_.Case). c.in_ok-next-in-Case-2.next ≡ c.in_ok-next-in-Case.next + scopes_in_otherwise (otherwise_shown (out-Case p).otherwise)) c.deref-in-Case-2.ensures c.in_ok-next-in-Case-2.ensures.next in
    omega (arith, a, b, e)

pub place_stmt-returns-in_ok-next-in-Repeat-2-clause-placed : goal.place_stmt-returns-in_ok-next-in-Repeat-2-clause-placed
place_stmt-returns-in_ok-next-in-Repeat-2-clause-placed t c =
    let box = c.in-Repeat.part in
    let spot = c.args.spot in
    let next = c.args.next in
    let within = λ (n : ℕ). placed_all (record { scope = next; in_loop = true }) n (stmts_shown box.value.body.statements.items.items) in
    let whole = λ (s : ShownStmt). at spot next s ∷ within (next + 1) in
    let shown = ap shown_stmt c.in-Repeat.is ∙ repeat_shown box in
    let e : placed_stmt spot next (shown_stmt c.args.stmt.now) ≡ whole (shown_stmt c.args.stmt.now) = ap (placed_stmt spot next) shown ∙ ap whole (sym shown) in
    let inner = subst (λ (p : Repeat). placed_in c.place_all-in-Repeat.new.places.items ≡
    placed_in c.put_place.new.places.items ++ placed_all (record { scope = next; in_loop = true }) c.in_ok-next-in-Repeat.next (stmts_shown p.body.statements.items.items))
    c.deref-in-Repeat.ensures c.in_ok-next-in-Repeat-2.ensures.placed in
    rw e (put_at _ _ _ _ within _ (next + 1) c.in_ok-put_place.ensures.placed c.in_ok-next-in-Repeat.ensures inner)

pub place_stmt-returns-in_ok-next-in-Repeat-2-clause-next : goal.place_stmt-returns-in_ok-next-in-Repeat-2-clause-next
place_stmt-returns-in_ok-next-in-Repeat-2-clause-next t c =
    let box = c.in-Repeat.part in
    let e : scopes_in (shown_stmt c.args.stmt.now) ≡ 1 + scopes_in_all (stmts_shown box.value.body.statements.items.items) =
    ap scopes_in (ap shown_stmt c.in-Repeat.is ∙ repeat_shown box) in
    let a : _ = c.in_ok-next-in-Repeat.ensures in
    let b = subst (λ (p : Repeat). c.in_ok-next-in-Repeat-2.next ≡ c.in_ok-next-in-Repeat.next + scopes_in_all (stmts_shown p.body.statements.items.items)) c.deref-in-Repeat.ensures c.in_ok-next-in-Repeat-2.ensures.next in
    omega (arith, a, b, e)

pub place_stmt-returns-in_ok-next-in-Begin-2-clause-placed : goal.place_stmt-returns-in_ok-next-in-Begin-2-clause-placed
place_stmt-returns-in_ok-next-in-Begin-2-clause-placed t c =
    let box = c.in-Begin.part in
    let spot = c.args.spot in
    let next = c.args.next in
    let within = λ (n : ℕ). placed_all (record { scope = next; in_loop = spot.in_loop }) n (stmts_shown box.value.body.statements.items.items) in
    let whole = λ (s : ShownStmt). at spot next s ∷ within (next + 1) in
    let shown = ap shown_stmt c.in-Begin.is ∙ begin_shown box in
    let e : placed_stmt spot next (shown_stmt c.args.stmt.now) ≡ whole (shown_stmt c.args.stmt.now) = ap (placed_stmt spot next) shown ∙ ap whole (sym shown) in
    let inner = subst (λ (p : Begin). placed_in c.place_all-in-Begin.new.places.items ≡
    placed_in c.put_place.new.places.items ++ placed_all (record { scope = next; in_loop = spot.in_loop }) c.in_ok-next-in-Begin.next (stmts_shown p.body.statements.items.items))
    c.deref-in-Begin.ensures c.in_ok-next-in-Begin-2.ensures.placed in
    rw e (put_at _ _ _ _ within _ (next + 1) c.in_ok-put_place.ensures.placed c.in_ok-next-in-Begin.ensures inner)

pub place_stmt-returns-in_ok-next-in-Begin-2-clause-next : goal.place_stmt-returns-in_ok-next-in-Begin-2-clause-next
place_stmt-returns-in_ok-next-in-Begin-2-clause-next t c =
    let box = c.in-Begin.part in
    let e : scopes_in (shown_stmt c.args.stmt.now) ≡ 1 + scopes_in_all (stmts_shown box.value.body.statements.items.items) =
    ap scopes_in (ap shown_stmt c.in-Begin.is ∙ begin_shown box) in
    let a : _ = c.in_ok-next-in-Begin.ensures in
    let b = subst (λ (p : Begin). c.in_ok-next-in-Begin-2.next ≡ c.in_ok-next-in-Begin.next + scopes_in_all (stmts_shown p.body.statements.items.items)) c.deref-in-Begin.ensures c.in_ok-next-in-Begin-2.ensures.next in
    omega (arith, a, b, e)

pub place_all-returns-in_err-number-clause-grows : goal.place_all-returns-in_err-number-clause-grows
place_all-returns-in_err-number-clause-grows t c = grows_more _ _ _ c.loop-stmt.invariant.1 c.in_err-number.ensures.grows

pub place_all-returns-clause-grows : goal.place_all-returns-clause-grows
place_all-returns-clause-grows t c = c.loop-stmt.invariant.1

pub place_branches-returns-in_err-number-clause-grows : goal.place_branches-returns-in_err-number-clause-grows
place_branches-returns-in_err-number-clause-grows t c = grows_more _ _ _ c.loop-branch.invariant.1 c.in_err-number.ensures.grows

pub place_branches-returns-clause-grows : goal.place_branches-returns-clause-grows
place_branches-returns-clause-grows t c = c.loop-branch.invariant.1
