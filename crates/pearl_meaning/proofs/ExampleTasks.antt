-- What the statements on tasks, semaphores and interrupts offer, and which values of schedules are out of range.
use Rattle.std.specs.Prelude.{◌≡◌, ℕ, pos, negsuc, [], ◌∷◌, Some, None}
use Rattle.std.proofs.Common.{refl}
use Rattle.pearl_value.specs.declared.cell.Cell.TheVariants.{Clock, Span}
use Rattle.pearl_value.specs.declared.operator.Dyad.TheVariants.{Add, Div}
use Rattle.pearl_value.specs.declared.trap.Trap.TheVariants as trap
use Rattle.pearl_rules.specs.declared.action.Action.TheVariants.{Read, Write, Now, Request, Release, Activate, Continue, Resume, Suspend, Terminate, Prevent, Enable, Trigger, End, Trap}
use Rattle.pearl_rules.specs.declared.action.Start.TheVariants as start
use Rattle.pearl_rules.specs.declared.action.Repeat.TheVariants as repeat
use Rattle.pearl_rules.specs.declared.action.Answer.TheVariants.{Nothing, One}
use Rattle.pearl_program.specs.PlainExpressions.{PlainExpr, OfLiteral, OfRead, OfDyadic, OfNow}
use Rattle.pearl_program.specs.PlainStatements.{OfUntil, OfDuring, PlainPeriod, OfAfter, OfWhenAfter, OnceAt, OnceAfter, OnceWhen, PlainStmt, OfAssign, OfActivate, OfContinue, OfResume, OfSuspend, OfTerminate, OfPrevent, OfRequest, OfRelease, OfEnable, OfTrigger}
use Rattle.pearl_meaning.specs.Programs.{offer}
use Rattle.pearl_meaning.proofs.Examples.{number, hears, literal, a, two, doing, program, offers}

abbrev lasting : ℕ → PlainExpr
lasting milliseconds = OfLiteral (Span (pos milliseconds))

abbrev less_than_none : PlainExpr
less_than_none = OfLiteral (Span (negsuc 0))

abbrev period : PlainExpr → PlainPeriod
period duration = record { duration = duration; end = None }

-- ACTIVATE task 1: without PRIO no priority is told
starts : offer (doing (OfActivate 1 None None None)) 0 [] ≡ Activate 1 start.Free repeat.Once None
unfolding offer
starts = refl

-- AFTER 1 SEC ALL 2 SEC UNTIL NOW + 1 SEC ACTIVATE task 1 PRIO a;
plans : offers (offer (doing (OfActivate 1 (Some (OfAfter (lasting 1000)))
    (Some (record { duration = lasting 2000; end = Some (OfUntil (OfDyadic Add OfNow (lasting 1000))) })) (Some (OfRead a)))) 0)
    (One (Clock 5000) ∷ hears 9 ∷ Nothing ∷ [])
    ≡ Now ∷ Read 0 ∷ Activate 1 (start.After (pos 1000)) (repeat.Until (pos 2000) 6000) (Some 9) ∷ End ∷ []
unfolding offer
plans = refl

plans_at_interrupts : offer (doing (OfActivate 1 (Some (OfWhenAfter 0 (lasting 1000))) (Some (record { duration = lasting 1; end = Some (OfDuring (lasting 0)) })) None)) 0 []
    ≡ Activate 1 (start.WhenAfter 0 (pos 1000)) (repeat.During (pos 1) (pos 0)) None
unfolding offer
plans_at_interrupts = refl

abbrev traps_range : PlainStmt → Type 0
traps_range statement = offer (doing statement) 0 [] ≡ Trap trap.Range

-- AFTER -1 SEC RESUME; and the like
after_is_not_negative : traps_range (OfResume (OnceAfter less_than_none))
unfolding offer
after_is_not_negative = refl

continue_after_is_not_negative : traps_range (OfContinue 1 (Some (OnceAfter less_than_none)))
unfolding offer
continue_after_is_not_negative = refl

when_after_is_not_negative : traps_range (OfActivate 1 (Some (OfWhenAfter 0 less_than_none)) None None)
unfolding offer
when_after_is_not_negative = refl

all_is_a_millisecond : traps_range (OfActivate 1 None (Some (period (lasting 0))) None)
unfolding offer
all_is_a_millisecond = refl

during_is_not_negative : traps_range (OfActivate 1 None (Some (record { duration = lasting 1; end = Some (OfDuring less_than_none) })) None)
unfolding offer
during_is_not_negative = refl

priority_is_not_0 : traps_range (OfActivate 1 None None (Some (literal 0)))
unfolding offer
priority_is_not_0 = refl

priority_is_not_256 : traps_range (OfActivate 1 None None (Some (literal 256)))
unfolding offer
priority_is_not_256 = refl

-- AFTER -1 SEC ACTIVATE task 1 PRIO a // 0; all values come before the check
values_come_first : offers (offer (doing (OfActivate 1 (Some (OfAfter less_than_none)) None (Some (OfDyadic Div (OfRead a) (literal 0))))) 0) (hears 1 ∷ [])
    ≡ Read 0 ∷ Trap trap.ZeroDivide ∷ []
unfolding offer
values_come_first = refl

goes_on_at : offers (offer (doing (OfContinue 1 (Some (OnceAt OfNow)))) 0) (One (Clock 7) ∷ Nothing ∷ []) ≡ Now ∷ Continue 1 (start.At 7) ∷ End ∷ []
unfolding offer
goes_on_at = refl

goes_on_at_once : offer (doing (OfContinue 1 None)) 0 [] ≡ Continue 1 start.Free
unfolding offer
goes_on_at_once = refl

waits_for_an_interrupt : offer (doing (OfResume (OnceWhen 0))) 0 [] ≡ Resume (start.When 0)
unfolding offer
waits_for_an_interrupt = refl

-- SUSPEND; means the own task, PREVENT task 1; that one
suspends_itself : offers (offer (program [] [] (two (OfSuspend None) (OfPrevent (Some 1)))) 0) (Nothing ∷ Nothing ∷ []) ≡ Suspend 0 ∷ Prevent 1 ∷ End ∷ []
unfolding offer
suspends_itself = refl

-- TERMINATE; is the last thing that a task does
ends_itself : offers (offer (program [] [] (two (OfTerminate None) (OfAssign a (literal 1)))) 0) (Nothing ∷ []) ≡ Terminate 0 ∷ Terminate 0 ∷ []
unfolding offer
ends_itself = refl

ends_another : offers (offer (program [] [] (two (OfTerminate (Some 1)) (OfAssign a (literal 1)))) 0) (Nothing ∷ []) ≡ Terminate 1 ∷ Write 0 (number 1) ∷ []
unfolding offer
ends_another = refl

-- REQUEST s, t; RELEASE s, t; each is one action
all_at_once : offers (offer (program [] [] (two (OfRequest (0 ∷ 1 ∷ [])) (OfRelease (0 ∷ 1 ∷ [])))) 0) (Nothing ∷ Nothing ∷ [])
    ≡ Request (record { items = 0 ∷ 1 ∷ [] }) ∷ Release (record { items = 0 ∷ 1 ∷ [] }) ∷ End ∷ []
unfolding offer
all_at_once = refl

switches : offers (offer (program [] [] (two (OfEnable 0) (OfTrigger 0))) 0) (Nothing ∷ []) ≡ Enable 0 ∷ Trigger 0 ∷ []
unfolding offer
switches = refl
