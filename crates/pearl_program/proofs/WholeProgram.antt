-- A whole program that is sound:
-- SPC tty DATION INOUT ALPHIC;DCL a(3) FIXED INIT(1);p:PROC(x FIXED IDENT);x:=x+a(1);END;
-- t:TASK MAIN;DCL n FIXED;FOR i TO 3 REPEAT a(i):=i;CALL p(n);GET n FROM tty BY F(3);END;END;
use Rattle.std.specs.Prelude.{◌≡◌, ℕ, ◌<◌, ◌≤◌, ◌^◌, nat_eq, nat_lt, pos, true, List, [], ◌∷◌, Some, None, length, slice_get, slice_index_or, codes}
use Rattle.std.specs.List.{IsDistinct, list_all}
use Rattle.std.proofs.Common.{inl, inr, refl, sym, ap, subst, ltb-true, arith}
use Rattle.std.proofs.lemmas.List.Elements.{All-nil, All-cons}
use Rattle.std.proofs.lemmas.List.Sums.{AllPass-from_list_all}
use Rattle.std.proofs.lemmas.Int.{ints}
use Rattle.pearl_value.specs.declared.kind.Kind.{Kind}
use Rattle.pearl_value.specs.declared.kind.Kind.TheVariants.{Fixed}
use Rattle.pearl_value.specs.declared.kind.CellKind.TheVariants.{Plain, RefTo}
use Rattle.pearl_value.specs.declared.cell.Cell.TheVariants as cell
use Rattle.pearl_value.specs.declared.operator.Dyad.TheVariants.{Add}
use Rattle.pearl_value.specs.WellFormed.{IsValueOf}
use Rattle.pearl_format.specs.declared.item.ItemCode.TheVariants.{F}
use Rattle.pearl_tree.specs.Words.{meanings, words}
use Rattle.pearl_tree.specs.Tokens.{IsIdByte, IsId}
use Rattle.pearl_program.specs.declared.expression.Target.TheVariants.{Leaf, Own, Param}
use Rattle.pearl_value.specs.declared.device.Direction.TheVariants.{InOut}
use Rattle.pearl_value.specs.declared.device.Device.TheVariants.{Terminal}
use Rattle.pearl_program.specs.PlainExpressions.{PlainExpr, OfLiteral, OfRead, OfDyadic, PlainVariable, OfVariable, NoExprs, MoreExprs, OfIdent, NoArguments, MoreArguments}
use Rattle.pearl_program.specs.PlainStatements.{PlainCounter, PlainStmts, OfRenew, OfAssign, OfCallOf, OfRepeat, OfGet, NoStmts, MoreStmts}
use Rattle.pearl_program.specs.PlainPrograms.{PlainProcedure, PlainTask, PlainProg}
use Rattle.pearl_program.specs.Typing.{Around, AreOpen, IsLeafOf, HasKind, IsVariable}
use Rattle.pearl_program.specs.SoundStatements.{AreStmts, within}
use Rattle.pearl_program.specs.Sound.{around_of, IsProcedure, IsTask, IsSound}

abbrev pub short : Kind
short = Fixed 31

abbrev pub number : ℕ → PlainExpr
number n = OfLiteral (cell.Fixed 31 (pos n))

abbrev pub alone : ℕ → PlainVariable
alone cell = OfVariable (Own cell) [] NoExprs

abbrev element : PlainExpr → PlainVariable
element e = OfVariable (Leaf 0) (record { lower = pos 1; upper = pos 3 } ∷ []) (MoreExprs e NoExprs)

abbrev referred : PlainVariable
referred = OfVariable (Param 0) [] NoExprs

abbrev procedure : PlainProcedure
procedure = record {
  params = 1;
  result = None;
  routine = record {
    cells = RefTo short ∷ [];
    body = MoreStmts (OfAssign referred (OfDyadic Add (OfRead referred) (OfRead (element (number 1))))) NoStmts;
  };
}

abbrev loop_body : PlainStmts
loop_body =
    MoreStmts (OfAssign (element (OfRead (alone 1))) (OfRead (alone 1)))
    (MoreStmts (OfCallOf 0 (MoreArguments (OfIdent (alone 0)) NoArguments))
    (MoreStmts (OfGet (alone 0 ∷ []) 0 0 4) NoStmts))

-- n, then the control variable, the step and the limit of the loop, then the value that comes in and where it goes
abbrev task : PlainTask
task = record {
  name = codes "t";
  priority = 255;
  main = true;
  routine = record {
    cells = Plain short ∷ Plain short ∷ Plain short ∷ Plain short ∷ Plain short ∷ Plain short ∷ [];
    body =
        MoreStmts (OfRenew 0 (record { kind = short; count = 1; constants = [] }))
        (MoreStmts (OfRepeat (Some (record { cell = 1; begin = None; step = None; end = Some (number 3) })) None loop_body) NoStmts);
  };
}

abbrev pub program : PlainProg
program = record {
  leaves = record { name = codes "a"; values = record { kind = short; count = 3; constants = cell.Fixed 31 (pos 1) ∷ [] } } ∷ [];
  semaphores = [];
  devices = Terminal 1 InOut ∷ [];
  formats = (record { code = F; width = 3 } ∷ []) ∷ [];
  procedures = procedure ∷ [];
  tasks = task ∷ [];
}

pub value_is : (n : ℕ) → n < 2 ^ 31 → IsValueOf short (cell.Fixed 31 (pos n))
value_is n small =
    record { is_value = ((omega arith, omega arith), record { low = omega (arith, ints); high = omega (arith, ints, small) }); same_kind = refl }

small : (0 < 31) × (31 ≤ 63)
small = (omega arith, omega arith)

-- n lies in no hidden cell
pub free : AreOpen (1 ∷ 2 ∷ 3 ∷ 4 ∷ 5 ∷ []) 0 1
free = (inr (omega arith), (inr (omega arith), (inr (omega arith), (inr (omega arith), (inr (omega arith), tt)))))

abbrev pub around_task : Around
around_task = around_of program task.routine None

abbrev pub counter : PlainCounter
counter = record { cell = 1; begin = None; step = None; end = Some (number 3) }

element_is : (around : Around) (e : PlainExpr) → around.leaves ≡ program.leaves → HasKind around e short →
    IsVariable around (element e) short
element_is around e is kind = (
  subst (λ leaves. IsLeafOf (slice_get leaves 0) (record { lower = pos 1; upper = pos 3 } ∷ []) short) (sym is) (refl, refl),
  refl,
  (record { rising = omega (arith, ints); low = omega (arith, ints); high = omega (arith, ints) }, (31, kind), tt),
)

nothing_distinct : IsDistinct nat_eq []
unfolding IsDistinct
nothing_distinct = tt

abbrev pub around_procedure : Around
around_procedure = around_of program procedure.routine (Some None)

procedure_sound : IsProcedure program procedure
procedure_sound = record {
  few = omega arith;
  result = tt;
  routine = record {
    params = (small, tt);
    others = tt;
    behind = tt;
    apart = nothing_distinct;
    body = (
      (short, refl, (short, (short, short, inl refl, inl (element_is around_procedure (number 1) refl (value_is 1 (omega arith))), refl), tt)),
      tt,
    );
  };
}

read_control : HasKind (within around_task (Some counter)) (OfRead (alone 1)) short
read_control = inr (refl, refl)

loop_sound : AreStmts (within around_task (Some counter)) loop_body
loop_sound = (
  (short, element_is (within around_task (Some counter)) (OfRead (alone 1)) refl read_control, (short, read_control, tt)),
  (
    (record { params = RefTo short ∷ []; result = None }, refl, (((refl, free), refl, tt), tt)),
    (
      (tt, short ∷ [], (((refl, free), refl, tt), tt), record { suits = (omega arith, tt); few = omega arith; short = omega arith }, refl),
      tt,
    ),
  ),
)

distinct : IsDistinct nat_eq (1 ∷ 2 ∷ 3 ∷ 4 ∷ 5 ∷ [])
unfolding IsDistinct
distinct = ((refl, (refl, (refl, (refl, tt)))), ((refl, (refl, (refl, tt))), ((refl, (refl, tt)), ((refl, tt), (tt, tt)))))

-- no word is as short as t
all_long : list_all (λ (row : List ℕ × ℕ). nat_lt 1 (length row.0)) words ≡ true
unfolding words meanings
all_long = refl

name_is : IsId (codes "t")
name_is = record {
  begins = inr (omega arith, omega arith);
  bytes = All-cons IsIdByte 116 [] (inl (inr (omega arith, omega arith))) (All-nil IsIdByte);
  length = omega arith;
  no_word = λ k row within same.
      let long = ltb-true 1 (length (slice_index_or words k row).0) (AllPass-from_list_all (λ (row : List ℕ × ℕ). nat_lt 1 (length row.0)) words all_long k row within) in
      let one = ap length same in
      omega (arith, long, one);
}

task_sound : IsTask program task
task_sound = record {
  named = name_is;
  urgent = (omega arith, omega arith);
  routine = record {
    params = tt;
    others = (small, (small, (small, (small, (small, (small, tt))))));
    behind = (omega arith, (omega arith, (omega arith, (omega arith, (omega arith, tt)))));
    apart = distinct;
    body = (
      (record { kind = small; some = omega arith; few = omega arith; constants = tt }, (refl, free)),
      ((record { cells = (31, refl); begin = tt; step = tt; end = (31, value_is 3 (omega arith)) }, tt, loop_sound), tt),
    );
  };
}

pub program_sound : IsSound program
program_sound = record {
  leaves = (
    record {
      named = (omega arith, omega arith);
      spelled = ((omega arith, omega arith), tt);
      values = record { kind = small; some = omega arith; few = omega arith; constants = (value_is 1 (omega arith), tt) };
    },
    tt,
  );
  semaphores = tt;
  devices = ((omega arith, omega arith, tt), tt);
  rising = tt;
  formats = (((omega arith, omega arith), tt), tt);
  procedures = (procedure_sound, tt);
  order = (omega arith, tt);
  tasks = (task_sound, tt);
  sizes = record {
    tasks = omega arith;
    procedures = omega arith;
    semaphores = omega arith;
    slots = omega arith;
    devices = omega arith;
    weights = (omega arith, tt);
    task_weights = (omega arith, tt);
  };
}
