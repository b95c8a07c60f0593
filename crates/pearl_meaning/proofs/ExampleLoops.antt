-- How loops, CASE and blocks go.
use Rattle.std.specs.Prelude.{◌≡◌, ℕ, negsuc, [], ◌∷◌, Option, Some, None}
use Rattle.std.specs.Fmt.{digits}
use Rattle.std.proofs.Common.{refl}
use Rattle.pearl_value.specs.declared.kind.Kind.TheVariants as kind
use Rattle.pearl_value.specs.declared.kind.CellKind.{CellKind}
use Rattle.pearl_value.specs.declared.kind.CellKind.TheVariants.{Plain}
use Rattle.pearl_value.specs.declared.cell.Cell.TheVariants.{Fixed}
use Rattle.pearl_value.specs.declared.operator.Dyad.TheVariants.{Add, Lt}
use Rattle.pearl_value.specs.declared.trap.Trap.TheVariants as trap
use Rattle.pearl_rules.specs.declared.action.Action.{Action}
use Rattle.pearl_rules.specs.declared.action.Action.TheVariants.{Read, Write, Turn, Put, End, Trap}
use Rattle.pearl_rules.specs.declared.action.Answer.TheVariants.{Nothing, One}
use Rattle.pearl_program.specs.PlainExpressions.{PlainExpr, OfRead, OfDyadic, OfTry}
use Rattle.pearl_program.specs.PlainStatements.{PlainCounter, PlainStmt, OfRenew, OfAssign, OfCase, OfRepeat, OfExit, OfPut, PlainStmts, NoStmts, MoreStmts, NoBranches, MoreBranches}
use Rattle.pearl_program.specs.PlainPrograms.{PlainProg}
use Rattle.pearl_meaning.specs.Programs.{offer}
use Rattle.pearl_meaning.proofs.Examples.{fixed, number, hears, literal, alone, own, a, b, s, only, two, doing, program, offers}

-- a loop that counts in its cells 0 to 2
abbrev counting : Option PlainExpr → Option PlainExpr → Option PlainExpr → Option PlainCounter
counting begin step end = Some (record { cell = 0; begin = begin; step = step; end = end })

abbrev counted : CellKind → Option PlainCounter → PlainStmt → PlainProg
counted cell counter statement = program [] (cell ∷ cell ∷ cell ∷ []) (only (OfRepeat counter None (only statement)))

abbrev writes_control : PlainStmt
writes_control = OfAssign a (OfRead (own 0))

-- FOR i FROM a BY b TO s REPEAT a := i; END; the three are evaluated once, in this order
counts_up : offers (offer (counted fixed (counting (Some (OfRead a)) (Some (OfRead b)) (Some (OfRead s))) writes_control) 0)
    (hears 5 ∷ hears 2 ∷ hears 7 ∷ Nothing ∷ Nothing ∷ Nothing ∷ Nothing ∷ Nothing ∷ [])
    ≡ Read 0 ∷ Read 1 ∷ Read 9 ∷ Turn ∷ Write 0 (number 5) ∷ Turn ∷ Write 0 (number 7) ∷ Turn ∷ End ∷ []
unfolding offer
counts_up = refl

-- BY b with b negative
counts_down : offers (offer (counted fixed (counting None (Some (OfRead b)) (Some (literal 0))) writes_control) 0)
    (One (Fixed 31 (negsuc 0)) ∷ Nothing ∷ Nothing ∷ Nothing ∷ Nothing ∷ Nothing ∷ [])
    ≡ Read 1 ∷ Turn ∷ Write 0 (number 1) ∷ Turn ∷ Write 0 (number 0) ∷ Turn ∷ End ∷ []
unfolding offer
counts_down = refl

-- BY 0 is Range before TO is evaluated
traps_at_no_step : offers (offer (counted fixed (counting None (Some (OfRead b)) (Some (OfRead a))) writes_control) 0) (hears 0 ∷ [])
    ≡ Read 1 ∷ Trap trap.Range ∷ []
unfolding offer
traps_at_no_step = refl

-- with LENGTH FIXED(3), FROM is converted before BY is evaluated
converts_from_first : offers (offer (counted (Plain (kind.Fixed 3)) (counting (Some (OfRead a)) (Some (OfRead b)) None) writes_control) 0) (hears 8 ∷ [])
    ≡ Read 0 ∷ Trap trap.Overflow ∷ []
unfolding offer
converts_from_first = refl

-- and BY before it is compared with 0
converts_by_next : offers (offer (counted (Plain (kind.Fixed 3)) (counting (Some (OfRead a)) (Some (OfRead b)) None) writes_control) 0) (hears 7 ∷ hears 8 ∷ [])
    ≡ Read 0 ∷ Read 1 ∷ Trap trap.Overflow ∷ []
unfolding offer
converts_by_next = refl

-- FOR i FROM 2147483646 TO 2147483647 REPEAT PUT i TO tty BY F(10); END; a sum outside FIXED(31) ends the loop
abbrev to_the_last : Option PlainExpr → PlainProg
to_the_last end = counted fixed (counting (Some (literal 2147483646)) None end) (OfPut (alone (OfRead (own 0))) 1 3)

abbrev shown : ℕ → Action
shown last = Put 1 (record { items = 50 ∷ 49 ∷ 52 ∷ 55 ∷ 52 ∷ 56 ∷ 51 ∷ 54 ∷ 52 ∷ last ∷ [] })

ends_at_the_last : offers (offer (to_the_last (Some (literal 2147483647))) 0) (Nothing ∷ Nothing ∷ Nothing ∷ Nothing ∷ [])
    ≡ Turn ∷ shown 54 ∷ Turn ∷ shown 55 ∷ End ∷ []
unfolding offer digits
ends_at_the_last = refl

-- without TO it is Overflow
passes_the_last : offers (offer (to_the_last None) 0) (Nothing ∷ Nothing ∷ Nothing ∷ Nothing ∷ [])
    ≡ Turn ∷ shown 54 ∷ Turn ∷ shown 55 ∷ Trap trap.Overflow ∷ []
unfolding offer digits
passes_the_last = refl

-- WHILE a < b REPEAT a := b; END; each turn is an action, and the condition comes after it
asks_at_each_turn : offers (offer (doing (OfRepeat None (Some (OfDyadic Lt (OfRead a) (OfRead b))) (only (OfAssign a (OfRead b))))) 0)
    (Nothing ∷ hears 1 ∷ hears 2 ∷ hears 2 ∷ Nothing ∷ Nothing ∷ hears 2 ∷ hears 2 ∷ [])
    ≡ Turn ∷ Read 0 ∷ Read 1 ∷ Read 1 ∷ Write 0 (number 2) ∷ Turn ∷ Read 0 ∷ Read 1 ∷ End ∷ []
unfolding offer
asks_at_each_turn = refl

-- TO 0 WHILE TRY ..: where TO ends the loop WHILE isn't asked
limit_comes_first : offers (offer (program [] (fixed ∷ fixed ∷ fixed ∷ []) (only (OfRepeat (counting None None (Some (literal 0))) (Some (OfTry 0)) NoStmts))) 0) (Nothing ∷ [])
    ≡ Turn ∷ End ∷ []
unfolding offer
limit_comes_first = refl

-- REPEAT DCL n FIXED INIT(5); n := n + a; a := n; END; the variables are new at each turn
new_at_each_turn : offers (offer (program [] (fixed ∷ []) (only (OfRepeat None None
    (MoreStmts (OfRenew 0 (record { kind = kind.Fixed 31; count = 1; constants = number 5 ∷ [] }))
    (two (OfAssign (own 0) (OfDyadic Add (OfRead (own 0)) (OfRead a))) (OfAssign a (OfRead (own 0)))))))) 0)
    (Nothing ∷ hears 1 ∷ Nothing ∷ Nothing ∷ hears 2 ∷ [])
    ≡ Turn ∷ Read 0 ∷ Write 0 (number 6) ∷ Turn ∷ Read 0 ∷ Write 0 (number 7) ∷ []
unfolding offer
new_at_each_turn = refl

-- REPEAT REPEAT EXIT; END; a := 1; EXIT; END; a := 2; leaves the inner loop, then the outer one
leaves_the_innermost : offers (offer (program [] [] (two
    (OfRepeat None None (MoreStmts (OfRepeat None None (two OfExit (OfAssign a (literal 9)))) (two (OfAssign a (literal 1)) OfExit)))
    (OfAssign a (literal 2)))) 0) (Nothing ∷ Nothing ∷ Nothing ∷ Nothing ∷ [])
    ≡ Turn ∷ Turn ∷ Write 0 (number 1) ∷ Write 0 (number 2) ∷ End ∷ []
unfolding offer
leaves_the_innermost = refl

-- CASE b ALT a := 1; ALT a := 2; OUT .. FIN; a := 4;
abbrev choosing : PlainStmts → PlainProg
choosing otherwise = program [] [] (two
    (OfCase (OfRead b) (MoreBranches (only (OfAssign a (literal 1))) (MoreBranches (only (OfAssign a (literal 2))) NoBranches)) otherwise)
    (OfAssign a (literal 4)))

takes_the_second : offers (offer (choosing NoStmts) 0) (hears 2 ∷ Nothing ∷ []) ≡ Read 1 ∷ Write 0 (number 2) ∷ Write 0 (number 4) ∷ []
unfolding offer
takes_the_second = refl

takes_none : offers (offer (choosing NoStmts) 0) (hears 3 ∷ Nothing ∷ []) ≡ Read 1 ∷ Write 0 (number 4) ∷ End ∷ []
unfolding offer
takes_none = refl

takes_out : offers (offer (choosing (only (OfAssign a (literal 3)))) 0) (hears 0 ∷ Nothing ∷ []) ≡ Read 1 ∷ Write 0 (number 3) ∷ Write 0 (number 4) ∷ []
unfolding offer
takes_out = refl

takes_out_below : offers (offer (choosing (only (OfAssign a (literal 3)))) 0) (One (Fixed 31 (negsuc 0)) ∷ []) ≡ Read 1 ∷ Write 0 (number 3) ∷ []
unfolding offer
takes_out_below = refl
