-- Where the jumps of statements lead.
use Rattle.std.proofs.Common.{◌≡◌, ℕ, ◌+◌, ◌<◌, ◌≤◌, inl, inr, List, [], ◌∷◌, Option, Some, None, slice_get, length, refl, sym, subst, arith}
use Rattle.std.specs.List.{AllByRecursion}
use Rattle.std.proofs.lemmas.Option.{same_Some}
use Rattle.pearl_value.specs.declared.kind.Kind.TheVariants as kind_
use Rattle.pearl_value.specs.declared.trap.Trap.TheVariants.{Overflow}
use Rattle.pearl_program.specs.PlainExpressions.{PlainExpr}
use Rattle.pearl_program.specs.PlainStatements.{PlainCounter, PlainStmt, OfRenew, OfAssign, OfCallOf, OfIf, OfCase, OfRepeat, OfExit, OfReturn, OfActivate, OfContinue, OfResume, OfSuspend, OfTerminate, OfPrevent, OfRequest, OfRelease, OfEnable, OfDisable, OfTrigger, OfPut, OfGet, OfSend, OfTake, PlainStmts, NoStmts, MoreStmts, PlainBranches, NoBranches, MoreBranches}
use Rattle.pearl_program.specs.Typing.{Around}
use Rattle.pearl_program.specs.SoundStatements.{IsIf, IsCondition, IsStmt, AreStmts, AreBranches, within}
use Rattle.pearl_meaning.specs.Setting.{Setting}
use Rattle.pearl_instructions.specs.declared.instr.Instr.{Instr}
use Rattle.pearl_instructions.specs.declared.instr.Instr.TheVariants as instr
use Rattle.pearl_instructions.specs.declared.object.Code.{Code}
use Rattle.pearl_instructions.specs.declared.object.Parts.{Parts as Object}
use Rattle.pearl_gen_stmt.specs.StmtCode.{WithinAt, CountsAt, WhileAt, PassedAt, AdvanceAt, StmtAt, StmtsAt, ElseAt, BranchesAt}
use Rattle.pearl_faithful.proofs.Places.{Every, IsBare, LeadsWell, nowhere, at_one, both, then_at, all_less}
use Rattle.pearl_faithful.proofs.Pushing.{Adds}
use Rattle.pearl_faithful.proofs.StatementsStand.{Stands, within_loop, sent_is}
use Rattle.pearl_faithful.proofs.Leading.{Fine, adds_fine, bare_behind, Leave, Sits, nothing_sits, both_sit, alone}
use Rattle.pearl_faithful.proofs.Simple.{expr_piece, renew_sits, assign_sits, take_sits, call_sits, return_sits, activate_sits, continue_sits, resume_sits, on_task_sits, put_sits, send_sits}
use Rattle.pearl_faithful.proofs.Gets.{get_sits, begins_sit}

-- A part before the statements of a loop, from which jumps lead behind the loop.
record Tests (o : Object) (instrs : List Instr) (past from to : ℕ) : Type 0 where
  forward : from ≤ to
  bare : IsBare instrs o to
  fine : to < past → past < length instrs → IsBare instrs o past → Every instrs (Fine o instrs) from to

-- The end of a loop, from which a jump leads to its Turn.
record Back (o : Object) (instrs : List Instr) (top from past : ℕ) : Type 0 where
  forward : from < past
  bare : IsBare instrs o past
  fine : past < length instrs → top ≤ from → IsBare instrs o top → slice_get instrs top ≡ Some instr.Turn → Every instrs (Fine o instrs) from past

-- The part from the statements of IF up to its end: the jump to ELSE leads well.
record Else (o : Object) (instrs : List Instr) (leave : Option ℕ) (from other to : ℕ) : Type 0 where
  low : from ≤ other
  high : other ≤ to
  other_bare : IsBare instrs o other
  sits : Sits o instrs leave from to

-- The alternatives of CASE: each begins where no operand lies.
record Branches (o : Object) (instrs : List Instr) (leave : Option ℕ) (from : ℕ) (targets : List ℕ) (to : ℕ) : Type 0 where
  heads : AllByRecursion (λ t. (from ≤ t) × (t ≤ to) × IsBare instrs o t) targets
  sits : Sits o instrs leave from to

module _ (o : Object) (instrs : List Instr) where
  leads_to : (j t : ℕ) → t < length instrs → j < t → IsBare instrs o t → LeadsWell instrs o j t
  leads_to j t inside less bare = record { inside = inside; onward = inl less; bare = bare }

  heads_lead : (j from to : ℕ) (ts : List ℕ) → j < from → to < length instrs → AllByRecursion (λ t. (from ≤ t) × (t ≤ to) × IsBare instrs o t) ts → AllByRecursion (LeadsWell instrs o j) ts
  heads_lead j from to [] less inside heads = tt
  heads_lead j from to (t ∷ ts) less inside heads =
      let a = heads.0.0 in let b = heads.0.1 in
      (leads_to j t (omega (arith, b, inside)) (omega (arith, a, less)) heads.0.2, heads_lead j from to ts less inside heads.1)

  heads_more : (from later to : ℕ) (ts : List ℕ) → from ≤ later → AllByRecursion (λ t. (later ≤ t) × (t ≤ to) × IsBare instrs o t) ts → AllByRecursion (λ t. (from ≤ t) × (t ≤ to) × IsBare instrs o t) ts
  heads_more from later to [] less heads = tt
  heads_more from later to (t ∷ ts) less heads = let a = heads.0.0 in ((omega (arith, a, less), heads.0.1, heads.0.2), heads_more from later to ts less heads.1)

  fines : (from to : ℕ) → Every instrs (Adds o) from to → Every instrs (Fine o instrs) from to
  fines from to adds = all_less instrs (Adds o) (Fine o instrs) from to (λ j instr adds. adds_fine o instrs j instr adds) adds

  earlier : (leave : Option ℕ) (middle to : ℕ) → middle ≤ to → Leave o instrs leave to → Leave o instrs leave middle
  earlier leave middle to less out past is = let it = out past is in (let c = it.0 in omega (arith, less, c), it.1, it.2)

  no_test : (past from to : ℕ) → IsBare instrs o from → to ≡ from → Tests o instrs past from to
  no_test past from to bare same = record {
    forward = omega (arith, same);
    bare = subst (λ place. IsBare instrs o place) (sym same) bare;
    fine = λ less inside out. nowhere instrs (Fine o instrs) from to same;
  }

  -- operands, and a jump behind the loop
  test_leaves : (past from end to : ℕ) → from ≤ end → Every instrs (Adds o) from end → slice_get instrs end ≡ Some (instr.JumpZero past) → to ≡ end + 1 → Tests o instrs past from to
  test_leaves past from end to less adds is last = record {
    forward = omega (arith, less, last);
    bare = bare_behind o instrs end to (instr.JumpZero past) last is refl;
    fine = λ before inside out. then_at instrs (Fine o instrs) from end to (instr.JumpZero past) (fines from end adds) last is
        (tt, (leads_to end past inside (omega (arith, before, last)) out, tt));
  }

  both_test : (past from middle to : ℕ) → Tests o instrs past from middle → Tests o instrs past middle to → Tests o instrs past from to
  both_test past from middle to one two = record {
    forward = let a = one.forward in let b = two.forward in omega (arith, a, b);
    bare = two.bare;
    fine = λ less inside out. let b = two.forward in both instrs (Fine o instrs) from middle to (one.fine (omega (arith, b, less)) inside out) (two.fine less inside out);
  }

module _ (o : Object) (r : ℕ) (code : Code) (setting : Setting) (below : ℕ) where
  abbrev instrs : List Instr
  instrs = code.instructions

  counts_test : (past from to : ℕ) (counter : Option PlainCounter) → IsBare instrs o from → CountsAt setting instrs from past counter to → Tests o instrs past from to
  counts_test past from to None bare is = no_test o instrs past from to bare is
  counts_test past from to (Some counter) bare is = by counter.end is
    where
      by : (end : Option PlainExpr) → WithinAt setting instrs from past counter end to → Tests o instrs past from to
      by None is = no_test o instrs past from to bare is
      by (Some e) is = test_leaves o instrs past from (from + 1) to (omega arith)
          (at_one instrs (Adds o) from (from + 1) (instr.Within counter.cell) refl is.0 (refl, tt)) is.1.0 is.1.1

  while_test : (around : Around) → Stands o r code setting around below → (past from to : ℕ) (condition : Option PlainExpr) → IsIf (IsCondition around) condition → IsBare instrs o from →
      WhileAt setting instrs from past condition to → Tests o instrs past from to
  while_test around stands past from to None typed bare is = no_test o instrs past from to bare is
  while_test around stands past from to (Some e) typed bare is =
      let piece = expr_piece o r code setting around below stands e (kind_.Bits 1) from is.0 typed is.1 in
      test_leaves o instrs past from is.0 to piece.0 piece.1 is.2.0 is.2.1

  advance_back : (top from past : ℕ) (counter : Option PlainCounter) → AdvanceAt setting instrs from top counter past → Back o instrs top from past
  advance_back top from past None is = record {
    forward = let last = is.1 in omega (arith, last);
    bare = bare_behind o instrs from past (instr.Jump top) is.1 is.0 refl;
    fine = λ inside less bare turn. let last = is.1 in at_one instrs (Fine o instrs) from past (instr.Jump top) is.1 is.0
        (tt, (record { inside = omega (arith, inside, less, last); onward = inr turn; bare = bare }, tt));
  }
  advance_back top from past (Some counter) is = by counter.end is
    where
      by : (end : Option PlainExpr) → PassedAt setting instrs from top counter end past → Back o instrs top from past
      by None is = record {
        forward = let last = is.3 in omega (arith, last);
        bare = bare_behind o instrs (from + 2) past (instr.Trap Overflow) (let last = is.3 in omega (arith, last)) is.2 refl;
        fine = λ inside less bare turn. let last = is.3 in
            both instrs (Fine o instrs) from (from + 1) past
            (at_one instrs (Fine o instrs) from (from + 1) (instr.Advance counter.cell (from + 2)) refl is.0
            (tt, (leads_to o instrs from (from + 2) (omega (arith, inside, last)) (omega arith) (bare_behind o instrs (from + 1) (from + 2) (instr.Jump top) (omega arith) is.1 refl), tt)))
            (both instrs (Fine o instrs) (from + 1) (from + 2) past
            (at_one instrs (Fine o instrs) (from + 1) (from + 2) (instr.Jump top) (omega arith) is.1
            (tt, (record { inside = omega (arith, inside, less, last); onward = inr turn; bare = bare }, tt)))
            (at_one instrs (Fine o instrs) (from + 2) past (instr.Trap Overflow) (omega (arith, last)) is.2 (tt, tt)));
      }
      by (Some e) is = record {
        forward = let last = is.2 in omega (arith, last);
        bare = bare_behind o instrs (from + 1) past (instr.Jump top) (let last = is.2 in omega (arith, last)) is.1 refl;
        fine = λ inside less bare turn. let last = is.2 in
            both instrs (Fine o instrs) from (from + 1) past
            (at_one instrs (Fine o instrs) from (from + 1) (instr.Advance counter.cell past) refl is.0
            (tt, (leads_to o instrs from past inside (omega (arith, last)) (bare_behind o instrs (from + 1) past (instr.Jump top) (omega (arith, last)) is.1 refl), tt)))
            (at_one instrs (Fine o instrs) (from + 1) past (instr.Jump top) (omega (arith, last)) is.1
            (tt, (record { inside = omega (arith, inside, less, last); onward = inr turn; bare = bare }, tt)));
      }

  -- a jump to the end of the whole statement, and what stands behind it
  jump_over : (leave : Option ℕ) (from to : ℕ) → slice_get instrs from ≡ Some (instr.Jump to) → Sits o instrs leave (from + 1) to → Sits o instrs leave from to
  jump_over leave from to is rest = record {
    forward = let a = rest.forward in omega (arith, a);
    bare = rest.bare;
    fine = λ out inside. let a = rest.forward in
        both instrs (Fine o instrs) from (from + 1) to
        (at_one instrs (Fine o instrs) from (from + 1) (instr.Jump to) refl is (tt, (leads_to o instrs from to inside (omega (arith, a)) rest.bare, tt))) (rest.fine out inside);
  }

  mutual
    stmt_sits : (statement : PlainStmt) (around : Around) → Stands o r code setting around below → (leave : Option ℕ) (from to : ℕ) → IsStmt around statement → IsBare instrs o from →
        StmtAt setting instrs leave from statement to → Sits o instrs leave from to
    stmt_sits (OfRenew cell values) around stands leave from to typed bare is = renew_sits o r code setting around below stands leave values values.constants from cell to typed.0 typed.0.constants bare is
    stmt_sits (OfAssign target value) around stands leave from to typed bare is = assign_sits o r code setting around below stands leave target value typed.0 from to typed.1 typed.2 is
    stmt_sits (OfCallOf procedure arguments) around stands leave from to typed bare is =
        call_sits o r code setting around below stands leave procedure (slice_get setting.program.procedures procedure) arguments typed.0 from to refl typed.1 typed.2 is
    stmt_sits (OfIf condition statements otherwise) around stands leave from to typed bare is =
        let tested = is.0 in let other = is.1 in let end = is.2 in
        let test = expr_piece o r code setting around below stands condition (kind_.Bits 1) from tested typed.0 is.3 in
        let first = stmts_sit statements around stands leave (tested + 1) end typed.1 (bare_behind o instrs tested (tested + 1) (instr.JumpZero other) refl is.4 refl) is.5 in
        let last = else_sits otherwise around stands leave end other to typed.2 first.bare is.6 in
        let rest = both_sit o instrs leave (tested + 1) end to first last.sits in
        let a = test.0 in let b = first.forward in let c = last.low in let d = last.high in
        record {
          forward = omega (arith, a, b, c, d);
          bare = rest.bare;
          fine = λ out inside.
              both instrs (Fine o instrs) from (tested + 1) to
              (then_at instrs (Fine o instrs) from tested (tested + 1) (instr.JumpZero other) (fines o instrs from tested test.1) refl is.4
              (tt, (leads_to o instrs tested other (omega (arith, d, inside)) (omega (arith, b, c)) last.other_bare, tt))) (rest.fine out inside);
        }
    stmt_sits (OfCase selector alternatives otherwise) around stands leave from to typed bare is =
        let selected = is.0 in let end = is.1 in let targets = is.2 in
        let test = expr_piece o r code setting around below stands selector (kind_.Fixed typed.0.0) from selected typed.0.1 is.3 in
        let first = stmts_sit otherwise around stands leave (selected + 1) end typed.2 (bare_behind o instrs selected (selected + 1) (instr.Case targets) refl is.4 refl) is.5 in
        let last = branches_sit alternatives around stands leave (end + 1) targets to typed.1 (bare_behind o instrs end (end + 1) (instr.Jump to) refl is.6 refl) is.7 in
        let rest = both_sit o instrs leave (selected + 1) end to first (jump_over leave end to is.6 last.sits) in
        let a = test.0 in let b = first.forward in let c = rest.forward in
        record {
          forward = omega (arith, a, c);
          bare = rest.bare;
          fine = λ out inside.
              both instrs (Fine o instrs) from (selected + 1) to
              (then_at instrs (Fine o instrs) from selected (selected + 1) (instr.Case targets) (fines o instrs from selected test.1) refl is.4
              (tt, heads_lead o instrs selected (end + 1) to targets (omega (arith, b)) inside last.heads)) (rest.fine out inside);
        }
    stmt_sits (OfRepeat counter condition statements) around stands leave from to typed bare is =
        let top = is.0 in let counted = is.1 in let begin = is.2 in let end = is.3 in
        let inner = within_loop o r code setting around below counter stands in
        let first = begins_sit o r code setting around below stands leave counter from top typed.0 bare is.4 in
        let tests = both_test o instrs to (top + 1) counted begin (counts_test to (top + 1) counted counter (bare_behind o instrs top (top + 1) instr.Turn refl is.5 refl) is.6)
        (while_test (within around counter) inner to counted begin condition typed.1
        (counts_test to (top + 1) counted counter (bare_behind o instrs top (top + 1) instr.Turn refl is.5 refl) is.6).bare is.7) in
        let body = stmts_sit statements (within around counter) inner (Some to) begin end typed.2 tests.bare is.8 in
        let back = advance_back top end to counter is.9 in
        let a = first.forward in let b = tests.forward in let c = body.forward in let d = back.forward in
        record {
          forward = omega (arith, a, b, c, d);
          bare = back.bare;
          fine = λ out inside.
              both instrs (Fine o instrs) from top to (first.fine (earlier o instrs leave top to (omega (arith, b, c, d)) out) (omega (arith, b, c, d, inside)))
              (both instrs (Fine o instrs) top (top + 1) to (at_one instrs (Fine o instrs) top (top + 1) instr.Turn refl is.5 (tt, tt))
              (both instrs (Fine o instrs) (top + 1) begin to (tests.fine (omega (arith, c, d)) inside back.bare)
              (both instrs (Fine o instrs) begin end to (body.fine (λ past is.
              let same : to ≡ past = same_Some to past is in
              (omega (arith, same, d), subst (λ past. past < length instrs) same inside, subst (λ past. IsBare instrs o past) same back.bare)) (omega (arith, d, inside)))
              (back.fine inside (omega (arith, b, c)) first.bare is.5))));
        }
    stmt_sits OfExit around stands leave from to typed bare is = record {
      forward = let last = is.2.1 in omega (arith, last);
      bare = bare_behind o instrs from to (instr.Jump is.0) is.2.1 is.2.0 refl;
      fine = λ out inside. let goes = out is.0 is.1 in let a = goes.0 in let last = is.2.1 in
          at_one instrs (Fine o instrs) from to (instr.Jump is.0) is.2.1 is.2.0 (tt, (leads_to o instrs from is.0 goes.1 (omega (arith, a, last)) goes.2, tt));
    }
    stmt_sits (OfReturn value) around stands leave from to typed bare is = return_sits o r code setting around below stands leave value from to typed is
    stmt_sits (OfActivate task start period priority) around stands leave from to typed bare is =
        activate_sits o r code setting around below stands leave task start period priority from to typed is
    stmt_sits (OfContinue task once) around stands leave from to typed bare is = continue_sits o r code setting around below stands leave task once from to typed.1 is
    stmt_sits (OfResume once) around stands leave from to typed bare is = resume_sits o r code setting around below stands leave once from to typed is
    stmt_sits (OfSuspend task) around stands leave from to typed bare is =
        on_task_sits o r code setting around below stands leave instr.Suspend instr.SuspendOwn task from to (λ t. (tt, refl, refl)) (tt, refl, refl) is
    stmt_sits (OfTerminate task) around stands leave from to typed bare is =
        on_task_sits o r code setting around below stands leave instr.Terminate instr.TerminateOwn task from to (λ t. (tt, refl, refl)) (tt, refl, refl) is
    stmt_sits (OfPrevent task) around stands leave from to typed bare is =
        on_task_sits o r code setting around below stands leave instr.Prevent instr.PreventOwn task from to (λ t. (tt, refl, refl)) (tt, refl, refl) is
    stmt_sits (OfRequest semaphores) around stands leave from to typed bare is = alone o instrs leave from to (instr.Request semaphores) is tt refl refl
    stmt_sits (OfRelease semaphores) around stands leave from to typed bare is = alone o instrs leave from to (instr.Release semaphores) is tt refl refl
    stmt_sits (OfEnable interrupt) around stands leave from to typed bare is = alone o instrs leave from to (instr.Enable interrupt) is tt refl refl
    stmt_sits (OfDisable interrupt) around stands leave from to typed bare is = alone o instrs leave from to (instr.Disable interrupt) is tt refl refl
    stmt_sits (OfTrigger interrupt) around stands leave from to typed bare is = alone o instrs leave from to (instr.Trigger interrupt) is tt refl refl
    stmt_sits (OfPut values device format) around stands leave from to typed bare is = put_sits o r code setting around below stands leave values typed.1 device format from to typed.2 is
    stmt_sits (OfGet targets device format cell) around stands leave from to typed bare is =
        get_sits o r code setting around below stands leave targets typed.1 device format cell from to typed.2 bare is
    stmt_sits (OfSend value device) around stands leave from to typed bare is =
        let known = sent_is o r code setting around below stands device typed.0 typed.1 in
        send_sits o r code setting around below stands leave value typed.0 device from to known.0 known.1 typed.2 is
    stmt_sits (OfTake target device) around stands leave from to typed bare is = take_sits o r code setting around below stands leave target typed.1 device from to typed.3 is

    pub stmts_sit : (statements : PlainStmts) (around : Around) → Stands o r code setting around below → (leave : Option ℕ) (from to : ℕ) → AreStmts around statements →
        IsBare code.instructions o from → StmtsAt setting code.instructions leave from statements to → Sits o code.instructions leave from to
    stmts_sit NoStmts around stands leave from to typed bare is = nothing_sits o instrs leave from to bare is
    stmts_sit (MoreStmts statement rest) around stands leave from to typed bare is =
        let one = stmt_sits statement around stands leave from is.0 typed.0 bare is.1 in
        both_sit o instrs leave from is.0 to one (stmts_sit rest around stands leave is.0 to typed.1 one.bare is.2)

    else_sits : (otherwise : PlainStmts) (around : Around) → Stands o r code setting around below → (leave : Option ℕ) (from other to : ℕ) → AreStmts around otherwise → IsBare instrs o from →
        ElseAt setting instrs leave from other otherwise to → Else o instrs leave from other to
    else_sits NoStmts around stands leave from other to typed bare is = record {
      low = let a = is.0 in omega (arith, a);
      high = let a = is.0 in let b = is.1 in omega (arith, a, b);
      other_bare = subst (λ place. IsBare instrs o place) (sym is.0) bare;
      sits = nothing_sits o instrs leave from to bare is.1;
    }
    else_sits (MoreStmts statement rest) around stands leave from other to typed bare is =
        let behind = bare_behind o instrs from (from + 1) (instr.Jump to) refl is.1 refl in
        let one = stmt_sits statement around stands leave (from + 1) is.0 typed.0 behind is.3 in
        let all = both_sit o instrs leave (from + 1) is.0 to one (stmts_sit rest around stands leave is.0 to typed.1 one.bare is.4) in
        let a = is.2 in let b = all.forward in
        record {
          low = omega (arith, a);
          high = omega (arith, a, b);
          other_bare = subst (λ place. IsBare instrs o place) (sym is.2) behind;
          sits = jump_over leave from to is.1 all;
        }

    branches_sit : (alternatives : PlainBranches) (around : Around) → Stands o r code setting around below → (leave : Option ℕ) (from : ℕ) (targets : List ℕ) (to : ℕ) →
        AreBranches around alternatives → IsBare instrs o from → BranchesAt setting instrs leave from targets alternatives to → Branches o instrs leave from targets to
    branches_sit NoBranches around stands leave from [] to typed bare is = record { heads = tt; sits = nothing_sits o instrs leave from to bare is }
    branches_sit NoBranches around stands leave from (target ∷ targets) to typed bare is = absurd is
    branches_sit (MoreBranches statements rest) around stands leave from [] to typed bare is = absurd is
    branches_sit (MoreBranches statements rest) around stands leave from (target ∷ targets) to typed bare is =
        let end = is.0 in
        let one = stmts_sit statements around stands leave from end typed.0 bare is.2 in
        let more = branches_sit rest around stands leave (end + 1) targets to typed.1 (bare_behind o instrs end (end + 1) (instr.Jump to) refl is.3 refl) is.4 in
        let a = one.forward in let b = more.sits.forward in let c = is.1 in
        record {
          heads = ((omega (arith, c), omega (arith, a, b, c), subst (λ place. IsBare instrs o place) (sym is.1) bare), heads_more o instrs from (end + 1) to targets (omega (arith, a)) more.heads);
          sits = both_sit o instrs leave from end to one (jump_over leave end to is.3 more.sits);
        }
