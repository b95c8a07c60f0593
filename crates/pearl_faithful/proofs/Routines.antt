-- No rule of the validator fails in a routine.
use Rattle.std.proofs.Common.{◌≡◌, ℕ, zero, suc, ◌+◌, ◌≤◌, ◌⊎◌, Bool, true, false, true≢false, List, [], ◌∷◌, Option, Some, None, slice_get, length, refl, sym, ap, ◌∙◌, subst, arith, le-leb, ltb-true, ltb-false}
use Rattle.std.specs.Prelude.{◌==◌, not, nat_lt, nat_le, is_some, IfSome, if◌then◌else◌}
use Rattle.std.specs.List.{AllByRecursion, list_all}
use Rattle.std.proofs.lemmas.Option.{same_Some, slice_get_past, slice_get_within}
use Rattle.pearl_value.specs.declared.kind.Kind.{Kind}
use Rattle.pearl_value.specs.Kinds.{IsKind}
use Rattle.pearl_program.specs.PlainPrograms.{PlainRoutine, PlainProg}
use Rattle.pearl_program.specs.Typing.{Around}
use Rattle.pearl_program.specs.SoundStatements.{AreStmts}
use Rattle.pearl_program.specs.Sound.{IsSound, IsCellKind, around_of}
use Rattle.pearl_program.specs.Weights.{calls, values, callees, greatest_of_all, weights_of}
use Rattle.pearl_meaning.specs.Setting.{Setting}
use Rattle.pearl_instructions.specs.declared.instr.Instr.{Instr}
use Rattle.pearl_instructions.specs.declared.object.Shape.{Shape as Stated}
use Rattle.pearl_instructions.specs.declared.object.Code.{Code}
use Rattle.pearl_instructions.specs.declared.object.Parts.{Parts as Object}
use Rattle.pearl_instructions.specs.Lawful.{IsInstr}
use Rattle.pearl_instructions.specs.Objects.{routine_at, is_task}
use Rattle.pearl_instructions.specs.Valid.{goes_on, targets, keep, is_closed, judged_whole, judged_at, unsound_in, unsound}
use Rattle.pearl_gen_expr.specs.ExprCode.{instructions_or_none, code_of, Is}
use Rattle.pearl_gen_expr.specs.Tables.{HasTables}
use Rattle.pearl_gen_expr.specs.Shapes.{Keeps, depths}
use Rattle.pearl_gen_expr.proofs.Offered.{both_keep}
use Rattle.pearl_gen_stmt.specs.StmtCode.{StmtsAt}
use Rattle.pearl_gen_stmt.specs.Generated.{within_program, IsStated, IsCode}
use Rattle.pearl_faithful.proofs.Lists.{all_by_number}
use Rattle.pearl_faithful.proofs.Places.{Every, AllLead, then_at, all_less}
use Rattle.pearl_faithful.proofs.StatementsStand.{IsReturning, Stands}
use Rattle.pearl_faithful.proofs.Leading.{Fine, plain, Sits}
use Rattle.pearl_faithful.proofs.Quiet.{IsWhole}
use Rattle.pearl_faithful.proofs.Jumps.{stmts_sit}
use Rattle.pearl_faithful.proofs.StatementsKept.{stmts_keep}

kept : (test : Bool) (rule : ℕ) (later : Option ℕ) → test ≡ true → later ≡ None → keep test rule later ≡ None
kept true rule later e none = none
kept false rule later e none = cc

closed : (instrs : List Instr) (end : ℕ) (last : Instr) → slice_get instrs end ≡ Some last → length instrs ≡ end + 1 → goes_on last ≡ false → is_closed instrs ≡ true
closed [] end last is long stops = cc
closed (here ∷ []) zero last is long stops = ap not (ap goes_on (same_Some here last is) ∙ stops)
closed (here ∷ []) (suc end) last is long stops = absurd (omega (arith, long))
closed (here ∷ next ∷ more) zero last is long stops = absurd (omega (arith, long))
closed (here ∷ next ∷ more) (suc end) last is long stops = closed (next ∷ more) end last is (omega (arith, long)) stops

none_or_some : {X : Type 0} (x : X) → None ≡ Some x → ⊥
none_or_some x is = true≢false (sym (ap is_some is))

-- What is known of a routine beside its code.
pub record Ready (p : PlainProg) (o : Object) (r : ℕ) (code : Code) (result : Option Kind) (routine : PlainRoutine) (returns : Option (Option Kind)) (below : ℕ) : Type 0 where
  pub sound : IsSound p
  pub tables : HasTables p o
  pub weights : depths o ≡ weights_of p.procedures
  pub cells : routine.cells ≡ code.cells
  pub lawful : AllByRecursion IsCellKind routine.cells
  pub light : code.depth ≤ 4096
  pub smaller : (is_task o r ≡ true) ⊎ (below ≤ r)
  pub returning : IfSome returns (IsReturning o r (within_program p result routine))
  pub kind : IfSome result IsKind
  pub body : AreStmts (around_of p routine returns) routine.body
  pub few_calls : greatest_of_all calls routine.body ≤ below

-- what is known of its last instruction
pub record EndsWell (o : Object) (r : ℕ) (code : Code) (last : Instr) : Type 0 where
  pub lawful : IsInstr last
  pub nowhere : targets last ≡ []
  pub stops : goes_on last ≡ false
  pub keeps : IsWhole o code → (end : ℕ) → slice_get code.instructions end ≡ Some last → length code.cells + 0 ≤ code.depth → Keeps o r code end (end + 1) [] []

-- what follows
pub record RoutineIsValid (o : Object) (r : ℕ) (code : Code) : Type 0 where
  pub lawful : AllByRecursion IsInstr code.instructions
  pub none_stated : code.shapes ≡ []
  pub sound : (i : ℕ) → unsound o r i ≡ None

module _ (p : PlainProg) (o : Object) (r : ℕ) (code : Code) (result : Option Kind) (routine : PlainRoutine) (returns : Option (Option Kind)) (below : ℕ) (last : Instr)
    (ready : Ready p o r code result routine returns below) (there : routine_at o r ≡ Some code) (generated : IsCode p o r result routine last) (ends : EndsWell o r code last) where
  abbrev instrs : List Instr
  instrs = code.instructions

  abbrev end : ℕ
  end = generated.end

  abbrev setting : Setting
  setting = within_program p result routine

  abbrev around : Around
  around = around_of p routine returns

  its_instructions : code_of o r ≡ code.instructions
  its_instructions = ap instructions_or_none there

  behind : Is instrs end last
  behind = subst (λ instrs. Is instrs end last) its_instructions generated.behind

  long : length instrs ≡ end + 1
  long = ap length (sym its_instructions) ∙ generated.whole

  stated : IsStated p routine code
  stated = subst (λ found. IfSome found (IsStated p routine)) there generated.stated

  statements : StmtsAt setting instrs None 0 routine.body end
  statements = subst (λ instrs. StmtsAt setting instrs None 0 routine.body end) its_instructions generated.statements

  stands : Stands o r code setting around below
  stands = record {
    placed = record {
      sound = ready.sound;
      tables = ready.tables;
      stands = record { leaves = refl; procedures = refl };
      cells = ready.cells;
      semaphores = ap length (sym ready.tables.semaphores);
      depth = ready.light;
      smaller = ready.smaller;
    };
    cells = refl;
    lawful = ready.lawful;
    devices = refl;
    formats = refl;
    tasks = refl;
    returns = ready.returning;
    result = ready.kind;
  }

  sits : Sits o instrs None 0 end
  sits = stmts_sit o r code setting below routine.body around stands None 0 end ready.body (λ q instr next is. absurd (omega (arith, next))) statements

  fine : Every instrs (Fine o instrs) 0 (length instrs)
  fine = then_at instrs (Fine o instrs) 0 end (length instrs) last (sits.fine (λ past is. absurd (none_or_some past is)) (let e = long in omega (arith, e))) long behind
      (plain o instrs end last ends.lawful ends.nowhere)

  is_whole : IsWhole o code
  is_whole = record { none_stated = stated.1; leads = all_less instrs (Fine o instrs) (AllLead instrs o) 0 (length instrs) (λ j instr fine. fine.1) fine }

  abbrev need : ℕ
  need = greatest_of_all values routine.body

  abbrev most : ℕ
  most = greatest_of_all (callees (depths o)) routine.body

  room : length code.cells + (need + 2) + most ≤ code.depth
  room =
      let a = stated.0 in let b = ap length ready.cells in let c = ap (λ weights. greatest_of_all (callees weights) routine.body) ready.weights in
      omega (arith, a, b, c)

  keeps : Keeps o r code 0 (end + 1) [] []
  keeps = both_keep o r code 0 end (end + 1) [] [] []
      (stmts_keep o r code setting below most need is_whole room routine.body around stands None 0 end ready.body (ready.few_calls, omega arith, omega arith) statements)
      (ends.keeps is_whole end behind (let less = room in omega (arith, less)))

  whole_sound : judged_whole code ≡ None
  whole_sound =
      kept (list_all (λ (s : Stated). nat_lt s.instruction (length instrs)) code.shapes) 1 _ (ap (list_all (λ (s : Stated). nat_lt s.instruction (length instrs))) stated.1)
      (kept (is_closed instrs) 9 _ (closed instrs end last behind long ends.stops)
      (kept (nat_le code.depth 4096) 11 None (le-leb code.depth 4096 ready.light) refl))

  judged : (i : ℕ) → judged_at o r code i (slice_get instrs i) ≡ None
  judged i = by (nat_lt i (end + 1)) refl
    where
      last_one : (test : Bool) → (if test then judged_whole code else None) ≡ None
      last_one true = whole_sound
      last_one false = refl

      by : (test : Bool) → nat_lt i (end + 1) ≡ test → judged_at o r code i (slice_get instrs i) ≡ None
      by true less = keeps.sound refl i (omega arith) (ltb-true i (end + 1) less)
      by false less = let past = ltb-false i (end + 1) less in let e = long in
          ap (judged_at o r code i) (slice_get_past instrs i (omega (arith, e, past))) ∙ last_one (i == length instrs)

  pub routine_valid : RoutineIsValid o r code
  routine_valid = record {
    lawful = all_by_number IsInstr instrs (λ j x is. (fine j x (omega arith) (slice_get_within instrs j x is) is).0);
    none_stated = stated.1;
    sound = λ i. ap (λ found. unsound_in o r found i) there ∙ judged i;
  }
