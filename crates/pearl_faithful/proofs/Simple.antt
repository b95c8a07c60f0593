-- The instructions of statements that have no statements in them.
use Rattle.std.proofs.Common.{◌≡◌, ℕ, ◌+◌, ◌-◌, ◌<◌, ◌≤◌, zero, suc, pos, false, List, [], ◌∷◌, Option, Some, None, slice_get, length, refl, sym, ap, ◌∙◌, subst, arith}
use Rattle.std.specs.Prelude.{Bool, is_some, IfSome}
use Rattle.std.specs.List.{AllByRecursion}
use Rattle.std.proofs.lemmas.Option.{same_Some}
use Rattle.std.proofs.lemmas.Int.{ints}
use Rattle.pearl_value.specs.declared.kind.Kind.{Kind}
use Rattle.pearl_value.specs.declared.kind.Kind.TheVariants as kind_
use Rattle.pearl_value.specs.declared.cell.Cell.{Cell}
use Rattle.pearl_value.specs.declared.cell.Cell.TheVariants.{Fixed}
use Rattle.pearl_value.specs.Kinds.{IsKind}
use Rattle.pearl_value.specs.WellFormed.{IsValue, IsValueOf}
use Rattle.pearl_program.specs.declared.expression.Target.TheVariants.{Leaf as LeafOf, Own, Param}
use Rattle.pearl_program.specs.declared.expression.Bound.{Bound}
use Rattle.pearl_program.specs.PlainExpressions.{PlainExpr, PlainVariable, OfVariable, PlainExprs, PlainArguments}
use Rattle.pearl_program.specs.PlainStatements.{PlainValues, PlainPeriodEnd, OfUntil, OfDuring, PlainPeriod, PlainStart, OfAt, OfAfter, OfWhen, OfWhenAfter, PlainOnce, OnceAt, OnceAfter, OnceWhen}
use Rattle.pearl_program.specs.PlainPrograms.{PlainProcedure}
use Rattle.pearl_program.specs.Typing.{Around, Signature, HasKind, IsVariable, Suit, HaveKinds, IsFixed, HasValueFor}
use Rattle.pearl_program.specs.SoundStatements.{IsIf, AreFirst, IsReturn, IsStart, IsPeriod, IsPeriodEnd, IsOnce, IsActivate}
use Rattle.pearl_meaning.specs.Setting.{Setting, params_of, variable_kind, sent_kind}
use Rattle.pearl_instructions.specs.declared.schedule.OnceForm.{OnceForm}
use Rattle.pearl_instructions.specs.declared.schedule.StartForm.{StartForm}
use Rattle.pearl_instructions.specs.declared.schedule.RepeatForm.{RepeatForm}
use Rattle.pearl_instructions.specs.declared.instr.Instr.{Instr}
use Rattle.pearl_instructions.specs.declared.instr.Instr.TheVariants as instr
use Rattle.pearl_instructions.specs.declared.object.Code.{Code}
use Rattle.pearl_instructions.specs.declared.object.Parts.{Parts as Object}
use Rattle.pearl_instructions.specs.Lawful.{IsInstr}
use Rattle.pearl_instructions.specs.Objects.{result_of}
use Rattle.pearl_instructions.specs.Valid.{targets}
use Rattle.pearl_gen_expr.specs.ExprCode.{writing_to, OffsetOf, ExprAt, AllAt, WayAt}
use Rattle.pearl_gen_expr.proofs.Offered.{expr_forward, all_forward, arguments_forward, signature_is}
use Rattle.pearl_gen_stmt.specs.StmtCode.{on_task, StoresAt, RepeatsAt, RenewAt, ConvertedAt, AssignAt, TakeAt, CallOfAt, DroppedAt, WhenAt, LaterAt, MaybeLaterAt, PeriodEndAt, PeriodAt, PriorityAt, ActivateAt, ContinueAt, ResumeAt, ReturnAt, PutAt, SendAt}
use Rattle.pearl_faithful.proofs.Places.{pushes, Every, IsBare, nowhere, both, then_at}
use Rattle.pearl_faithful.proofs.Pushing.{Adds, offset_adds, result_there, params_lawful, expr_adds, subscripts_add, arguments_add, all_add}
use Rattle.pearl_faithful.proofs.StatementsStand.{IsReturning, Stands, return_typed, variable_is}
use Rattle.pearl_faithful.proofs.Leading.{Sits, nothing_sits, both_sit, closes, alone}

-- an instruction that leaves nothing, goes nowhere else, and that an object may have
abbrev pub Leaves : Object → Instr → Type 0
Leaves o here = IsInstr here × (targets here ≡ []) × (pushes o here ≡ false)

pub writing_leaves : (o : Object) (target : PlainVariable) → Leaves o (writing_to target)
writing_leaves o (OfVariable (LeafOf number) [] es) = (tt, refl, refl)
writing_leaves o (OfVariable (LeafOf number) (bound ∷ bounds) es) = (tt, refl, refl)
writing_leaves o (OfVariable (Own cell) [] es) = (tt, refl, refl)
writing_leaves o (OfVariable (Own cell) (bound ∷ bounds) es) = (tt, refl, refl)
writing_leaves o (OfVariable (Param cell) bounds es) = (tt, refl, refl)

small : (n : ℕ) → n < 65536 → IsValue (Fixed 31 (pos n))
small n less = ((omega arith, omega arith), record { low = grind (arith, ints, less); high = grind (arith, ints, less) })

pub zero_value : IsValue (Fixed 31 (pos 0))
zero_value = small 0 (omega arith)

pub one_value : IsValue (Fixed 31 (pos 1))
one_value = small 1 (omega arith)

module _ (o : Object) (r : ℕ) (code : Code) (setting : Setting) (around : Around) (below : ℕ) (stands : Stands o r code setting around below) where
  abbrev instrs : List Instr
  instrs = code.instructions

  -- a part of operands alone
  abbrev pub Piece : (from to : ℕ) → Type 0
  Piece from to = (from ≤ to) × Every code.instructions (Adds o) from to

  pub none_piece : (from to : ℕ) → to ≡ from → Piece from to
  none_piece from to same = (omega (arith, same), nowhere instrs (Adds o) from to same)

  pub both_piece : (from middle to : ℕ) → Piece from middle → Piece middle to → Piece from to
  both_piece from middle to one two = let a = one.0 in let b = two.0 in (omega (arith, a, b), both instrs (Adds o) from middle to one.1 two.1)

  pub then_piece : (from end to : ℕ) (here : Instr) → Piece from end → to ≡ end + 1 → slice_get instrs end ≡ Some here → Adds o end here → Piece from to
  then_piece from end to here one last is adds = let a = one.0 in (omega (arith, a, last), then_at instrs (Adds o) from end to here one.1 last is adds)

  pub expr_piece : (e : PlainExpr) (kind : Kind) (from to : ℕ) → HasKind around e kind → ExprAt setting.program code.instructions from e to → Piece from to
  expr_piece e kind from to typed is =
      (expr_forward setting.program instrs e from to is, expr_adds setting.program o instrs around stands.placed.sound stands.placed.tables stands.placed.stands e kind from to typed is)

  pub all_piece : (es : PlainExprs) (kinds : List Kind) (from to : ℕ) → HaveKinds around es kinds → AllAt setting.program code.instructions from es to → Piece from to
  all_piece es kinds from to have is =
      (all_forward setting.program instrs es from to is, all_add setting.program o instrs around stands.placed.sound stands.placed.tables stands.placed.stands es kinds from to have is)

  pub converted_piece : (e : PlainExpr) (kind : Kind) (found : Option Kind) (from to : ℕ) → HasValueFor around e kind → found ≡ Some kind → IsKind kind →
      ConvertedAt setting code.instructions from e found to → Piece from to
  converted_piece e kind found from to has known lawful is =
      let same : is.1 ≡ kind = same_Some is.1 kind (sym is.2 ∙ known) in
      then_piece from is.0 to (instr.Conv is.1) (expr_piece e has.0 from is.0 has.1 is.3) is.5 is.4 (refl, subst IsKind (sym same) lawful)

  offset_piece : (bounds : List Bound) (es : PlainExprs) (from to : ℕ) → ((end : ℕ) → AllAt setting.program instrs from es end → Every instrs (Adds o) from end) →
      OffsetOf instrs from bounds (λ end. AllAt setting.program instrs from es end) to → Piece from to
  offset_piece bounds es from to on is = (ahead bounds is, offset_adds o instrs from (λ end. AllAt setting.program instrs from es end) bounds to on is)
    where
      ahead : (bounds : List Bound) → OffsetOf instrs from bounds (λ end. AllAt setting.program instrs from es end) to → from ≤ to
      ahead [] is = omega (arith, is)
      ahead (bound ∷ bounds) is = let less = all_forward setting.program instrs es from is.0 is.1 in let last = is.3 in omega (arith, less, last)

  pub way_piece : (target : PlainVariable) (kind : Kind) (from to : ℕ) → IsVariable around target kind → WayAt setting.program code.instructions from target to → Piece from to
  way_piece (OfVariable (LeafOf number) bounds es) kind from to typed is =
      offset_piece bounds es from to (λ end at. subscripts_add setting.program o instrs around stands.placed.sound stands.placed.tables stands.placed.stands es bounds from end typed.2 at) is
  way_piece (OfVariable (Own cell) bounds es) kind from to typed is =
      offset_piece bounds es from to (λ end at. subscripts_add setting.program o instrs around stands.placed.sound stands.placed.tables stands.placed.stands es bounds from end typed.2 at) is
  way_piece (OfVariable (Param cell) bounds es) kind from to typed is = then_piece from from to (instr.Load cell) (none_piece from from refl) is.1 is.0 (refl, tt)

  -- SCHEDULES

  pub when_piece : (start : Option PlainStart) (form : StartForm) (from to : ℕ) → IsIf (IsStart around) start → WhenAt setting code.instructions from start form to → Piece from to
  when_piece None form from to typed is = none_piece from to is.1
  when_piece (Some (OfAt time)) form from to typed is = expr_piece time kind_.Clock from to typed is.1
  when_piece (Some (OfAfter duration)) form from to typed is = expr_piece duration kind_.Span from to typed is.1
  when_piece (Some (OfWhen interrupt)) form from to typed is = none_piece from to is.1
  when_piece (Some (OfWhenAfter interrupt duration)) form from to typed is = expr_piece duration kind_.Span from to typed.1 is.1

  pub later_piece : (once : PlainOnce) (form : OnceForm) (from to : ℕ) → IsOnce around once → LaterAt setting code.instructions from once form to → Piece from to
  later_piece (OnceAt time) form from to typed is = expr_piece time kind_.Clock from to typed is.1
  later_piece (OnceAfter duration) form from to typed is = expr_piece duration kind_.Span from to typed is.1
  later_piece (OnceWhen interrupt) form from to typed is = none_piece from to is.1

  pub maybe_later_piece : (once : Option PlainOnce) (form : Option OnceForm) (from to : ℕ) → IsIf (IsOnce around) once → MaybeLaterAt setting code.instructions from once form to → Piece from to
  maybe_later_piece None form from to typed is = none_piece from to is.1
  maybe_later_piece (Some once) form from to typed is = later_piece once is.0 from to typed is.2

  period_end_piece : (end : Option PlainPeriodEnd) (form : RepeatForm) (from to : ℕ) → IsIf (IsPeriodEnd around) end → PeriodEndAt setting instrs from end form to → Piece from to
  period_end_piece None form from to typed is = none_piece from to is.1
  period_end_piece (Some (OfUntil time)) form from to typed is = expr_piece time kind_.Clock from to typed is.1
  period_end_piece (Some (OfDuring duration)) form from to typed is = expr_piece duration kind_.Span from to typed is.1

  pub period_piece : (period : Option PlainPeriod) (form : RepeatForm) (from to : ℕ) → IsIf (IsPeriod around) period → PeriodAt setting code.instructions from period form to → Piece from to
  period_piece None form from to typed is = none_piece from to is.1
  period_piece (Some period) form from to typed is =
      both_piece from is.0 to (expr_piece period.duration kind_.Span from is.0 typed.0 is.1) (period_end_piece period.end form is.0 to typed.1 is.2)

  pub priority_piece : (e : Option PlainExpr) (given : Bool) (from to : ℕ) → IsIf (IsFixed around) e → PriorityAt setting code.instructions from e given to → Piece from to
  priority_piece None given from to typed is = none_piece from to is.1
  priority_piece (Some e) given from to typed is = expr_piece e (kind_.Fixed typed.0) from to typed.1 is.1

  module _ (leave : Option ℕ) where
    abbrev Sitting : (from to : ℕ) → Type 0
    Sitting from to = Sits o code.instructions leave from to

    -- operands, and an instruction that takes them off
    pub ends : (from end to : ℕ) (here : Instr) → Piece from end → to ≡ end + 1 → slice_get instrs end ≡ Some here → Leaves o here → Sitting from to
    ends from end to here piece last is leaves = closes o instrs leave from end to here piece.0 piece.1 last is leaves.0 leaves.1 leaves.2

    -- FIRST VALUES

    stores_sit : (xs : List Cell) (kind : Kind) (from cell to : ℕ) → AllByRecursion (IsValueOf kind) xs → IsBare instrs o from → StoresAt setting instrs from cell xs to → Sitting from to
    stores_sit [] kind from cell to typed bare is = nothing_sits o instrs leave from to bare is
    stores_sit (x ∷ xs) kind from cell to typed bare is =
        let one = ends from (from + 1) (from + 2) (instr.Store cell)
        (then_piece from from (from + 1) (instr.Const x) (none_piece from from refl) refl is.0 (refl, typed.0.is_value)) (omega arith) is.1 (tt, refl, refl) in
        both_sit o instrs leave from (from + 2) to one (stores_sit xs kind (from + 2) (cell + 1) to typed.1 one.bare is.2)

    repeats_sit : (more from cell to : ℕ) → IsBare instrs o from → RepeatsAt setting instrs from cell more to → Sitting from to
    repeats_sit zero from cell to bare is = nothing_sits o instrs leave from to bare is
    repeats_sit (suc more) from cell to bare is =
        let one = ends from (from + 1) (from + 2) (instr.Store (cell + 1))
        (then_piece from from (from + 1) (instr.Load cell) (none_piece from from refl) refl is.0 (refl, tt)) (omega arith) is.1 (tt, refl, refl) in
        both_sit o instrs leave from (from + 2) to one (repeats_sit more (from + 2) (cell + 1) to one.bare is.2)

    pub renew_sits : (values : PlainValues) (xs : List Cell) (from cell to : ℕ) → AreFirst values → AllByRecursion (IsValueOf values.kind) xs → IsBare code.instructions o from →
        RenewAt setting code.instructions from cell values xs to → Sitting from to
    renew_sits values [] from cell to first typed bare is = alone o instrs leave from to (instr.Fill cell values.count values.kind) is first.kind refl refl
    renew_sits values (x ∷ xs) from cell to first typed bare is =
        let one = stores_sit (x ∷ xs) values.kind from cell is.0 typed bare is.1 in
        both_sit o instrs leave from is.0 to one (repeats_sit (values.count - length (x ∷ xs)) is.0 (cell + length xs) to one.bare is.2)

    -- VARIABLES

    pub assign_sits : (target : PlainVariable) (e : PlainExpr) (kind : Kind) (from to : ℕ) → IsVariable around target kind → HasValueFor around e kind →
        AssignAt setting code.instructions from target e to → Sitting from to
    assign_sits target e kind from to typed has is =
        let known = variable_is o r code setting around below stands target kind typed in
        ends from is.1 to (writing_to target)
        (both_piece from is.0 is.1 (way_piece target kind from is.0 typed is.2) (converted_piece e kind (variable_kind setting target) is.0 is.1 has known.0 known.1 is.3))
        is.5 is.4 (writing_leaves o target)

    pub take_sits : (target : PlainVariable) (kind : Kind) (device from to : ℕ) → IsVariable around target kind → TakeAt setting code.instructions from target device to → Sitting from to
    take_sits target kind device from to typed is =
        let known = variable_is o r code setting around below stands target kind typed in
        let value = is.0 in let last = is.7 in
        let same : is.1 ≡ kind = same_Some is.1 kind (sym is.2 ∙ known.0) in
        ends from (value + 2) to (writing_to target)
        (then_piece from (value + 1) (value + 2) (instr.Conv is.1)
        (then_piece from value (value + 1) (instr.Take device) (way_piece target kind from value typed is.3) refl is.4 (refl, tt)) (omega arith) is.5 (refl, subst IsKind (sym same) known.1))
        (omega (arith, last)) is.6 (writing_leaves o target)

    -- CALLS

    dropped_sits : (number : ℕ) (result : Option Kind) (from end to : ℕ) → result_of o number ≡ result → Piece from end → slice_get instrs end ≡ Some (instr.Call number) →
        DroppedAt setting instrs (end + 1) result to → Sitting from to
    dropped_sits number None from end to known piece is drops =
        ends from end to (instr.Call number) piece drops is (tt, refl, ap is_some known)
    dropped_sits number (Some kind) from end to known piece is drops =
        ends from (end + 1) to instr.Drop (then_piece from end (end + 1) (instr.Call number) piece refl is (ap is_some known, tt)) drops.1 drops.0 (tt, refl, refl)

    pub call_sits : (number : ℕ) (found : Option PlainProcedure) (arguments : PlainArguments) (signature : Signature) (from to : ℕ) → slice_get setting.program.procedures number ≡ found →
        slice_get around.procedures number ≡ Some signature → Suit around signature.params arguments → CallOfAt setting code.instructions from number found arguments to → Sitting from to
    call_sits number None _ signature from to found known suit is = absurd is
    call_sits number (Some procedure) arguments signature from to found known suit is =
        let call = is.1 in let end = call.2 in let last = call.5 in
        let it : call.0 ≡ procedure = same_Some call.0 procedure (sym call.1 ∙ found) in
        let same = signature_is setting.program around stands.placed.stands number call.0 signature call.1 known in
        let suit = subst (λ (signature : Signature). Suit around signature.params arguments) (sym same) suit in
        let program = setting.program in
        let piece : Piece from end = (
          arguments_forward program instrs arguments (params_of call.0) from end call.3,
          arguments_add program o instrs around stands.placed.sound stands.placed.tables stands.placed.stands arguments (params_of call.0) from end
              (params_lawful program o instrs around stands.placed.sound stands.placed.tables stands.placed.stands number call.0 call.1) suit call.3,
        ) in
        dropped_sits number procedure.result from end to (result_there program o stands.placed.tables number procedure found) piece call.4
        (subst (λ at. DroppedAt setting instrs at procedure.result to) last is.2)

    -- THE END OF A PROCEDURE

    pub return_sits : (value : Option PlainExpr) (from to : ℕ) → IsReturn around around.returns value → ReturnAt setting code.instructions from value to → Sitting from to
    return_sits None from to typed is = alone o instrs leave from to instr.Return is tt refl refl
    return_sits (Some e) from to typed is =
        let returns = return_typed around around.returns e typed in
        let known = subst (λ found. IfSome found (IsReturning o r setting)) returns.1 stands.returns in
        let result : setting.result ≡ Some returns.0 = sym known.0 in
        ends from is.0 to instr.Return (converted_piece e returns.0 setting.result from is.0 returns.2 result (subst (λ found. IfSome found IsKind) result stands.result) is.1) is.2.1 is.2.0 (tt, refl, refl)

    -- TASKS

    pub activate_sits : (task : ℕ) (start : Option PlainStart) (period : Option PlainPeriod) (priority : Option PlainExpr) (from to : ℕ) → IsActivate around task start period priority →
        ActivateAt setting code.instructions from task start period priority to → Sitting from to
    activate_sits task start period priority from to typed is =
        ends from is.5 to (instr.Activate (record { task = task; start = is.0; repeat = is.1; priority = is.2 }))
        (both_piece from is.3 is.5 (when_piece start is.0 from is.3 typed.starts is.6)
        (both_piece is.3 is.4 is.5 (period_piece period is.1 is.3 is.4 typed.repeats is.7) (priority_piece priority is.2 is.4 is.5 typed.urgent is.8)))
        is.10 is.9 (tt, refl, refl)

    pub continue_sits : (task : ℕ) (once : Option PlainOnce) (from to : ℕ) → IsIf (IsOnce around) once → ContinueAt setting code.instructions from task once to → Sitting from to
    continue_sits task once from to typed is =
        ends from is.1 to (instr.Continue (record { task = task; once = is.0 })) (maybe_later_piece once is.0 from is.1 typed is.2) is.4 is.3 (tt, refl, refl)

    pub resume_sits : (once : PlainOnce) (from to : ℕ) → IsOnce around once → ResumeAt setting code.instructions from once to → Sitting from to
    resume_sits once from to typed is = ends from is.1 to (instr.Resume is.0) (later_piece once is.0 from is.1 typed is.2) is.4 is.3 (tt, refl, refl)

    pub on_task_sits : (other : ℕ → Instr) (own : Instr) (task : Option ℕ) (from to : ℕ) → ((t : ℕ) → Leaves o (other t)) → Leaves o own →
        (slice_get code.instructions from ≡ Some (on_task other own task)) × (to ≡ from + 1) → Sitting from to
    on_task_sits other own None from to leaves own_leaves is = alone o instrs leave from to own is own_leaves.0 own_leaves.1 own_leaves.2
    on_task_sits other own (Some t) from to leaves own_leaves is = let it = leaves t in alone o instrs leave from to (other t) is it.0 it.1 it.2

    -- TEXTS AND DEVICES

    pub put_sits : (values : PlainExprs) (kinds : List Kind) (device format from to : ℕ) → HaveKinds around values kinds → PutAt setting code.instructions from values device format to → Sitting from to
    put_sits values kinds device format from to typed is = ends from is.0 to (instr.Put device format) (all_piece values kinds from is.0 typed is.1) is.2.1 is.2.0 (tt, refl, refl)

    pub send_sits : (e : PlainExpr) (kind : Kind) (device from to : ℕ) → sent_kind setting device ≡ Some kind → IsKind kind → HasValueFor around e kind →
        SendAt setting code.instructions from e device to → Sitting from to
    send_sits e kind device from to known lawful has is =
        ends from is.0 to (instr.Send device) (converted_piece e kind (sent_kind setting device) from is.0 has known lawful is.1) is.2.1 is.2.0 (tt, refl, refl)
