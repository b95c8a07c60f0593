-- In which order operands, subscripts and values are evaluated, and what is checked and converted when.
use Rattle.std.specs.Prelude.{◌≡◌, ℕ, pos, negsuc, [], ◌∷◌}
use Rattle.std.proofs.Common.{refl}
use Rattle.pearl_value.specs.declared.cell.Cell.TheVariants.{Fixed, Bits, Clock}
use Rattle.pearl_value.specs.declared.operator.Dyad.TheVariants.{Add, Or, Div, Eq}
use Rattle.pearl_value.specs.declared.operator.Monad.TheVariants.{Minus}
use Rattle.pearl_value.specs.declared.trap.Trap.TheVariants as trap
use Rattle.pearl_rules.specs.declared.action.Action.TheVariants.{Read, Write, Now, Try, End, Trap}
use Rattle.pearl_rules.specs.declared.action.Answer.TheVariants.{Nothing, One}
use Rattle.pearl_program.specs.PlainExpressions.{PlainExpr, OfLiteral, OfRead, OfMonadic, OfDyadic, OfNow, OfTry}
use Rattle.pearl_program.specs.PlainStatements.{OfAssign, OfIf, NoStmts}
use Rattle.pearl_meaning.specs.Programs.{offer}
use Rattle.pearl_meaning.proofs.Examples.{number, hears, text, literal, a, b, t, s, m, only, doing, offers}

-- a := a + b; the left operand is read first
reads_from_the_left : offers (offer (doing (OfAssign a (OfDyadic Add (OfRead a) (OfRead b)))) 0) (hears 10 ∷ hears 5 ∷ Nothing ∷ [])
    ≡ Read 0 ∷ Read 1 ∷ Write 0 (number 15) ∷ End ∷ []
unfolding offer
reads_from_the_left = refl

-- a := -7 // 2;
cuts_towards_zero : offers (offer (doing (OfAssign a (OfDyadic Div (OfMonadic Minus (literal 7)) (literal 2)))) 0) (Nothing ∷ [])
    ≡ Write 0 (Fixed 31 (negsuc 2)) ∷ End ∷ []
unfolding offer
cuts_towards_zero = refl

abbrev bit : ℕ → PlainExpr
bit value = OfLiteral (Bits 1 value)

-- IF TRY second OR TRY first THEN .. FIN; the right operand is asked also where the left one is '1'B
asks_both : offers (offer (doing (OfIf (OfDyadic Or (OfTry 1) (OfTry 0)) (only (OfAssign a (literal 1))) (only (OfAssign a (literal 2))))) 0)
    (One (Bits 1 1) ∷ One (Bits 1 0) ∷ [])
    ≡ Try 1 ∷ Try 0 ∷ Write 0 (number 1) ∷ []
unfolding offer
asks_both = refl

takes_else : offer (doing (OfIf (bit 0) (only (OfAssign a (literal 1))) (only (OfAssign a (literal 2))))) 0 [] ≡ Write 0 (number 2)
unfolding offer
takes_else = refl

-- m(a, b) := s; all subscripts, the last one running fastest, then the value, then the write
targets_first : offers (offer (doing (OfAssign (m (OfRead a) (OfRead b)) (OfRead s))) 0) (hears 2 ∷ hears 1 ∷ One (Fixed 3 (pos 7)) ∷ Nothing ∷ [])
    ≡ Read 0 ∷ Read 1 ∷ Read 9 ∷ Write 5 (number 7) ∷ End ∷ []
unfolding offer
targets_first = refl

-- the second subscript is evaluated though the first is outside, and the check comes before the value
checks_before_the_value : offers (offer (doing (OfAssign (m (OfRead a) (OfRead b)) (OfRead s))) 0) (hears 3 ∷ hears 1 ∷ [])
    ≡ Read 0 ∷ Read 1 ∷ Trap trap.Index ∷ []
unfolding offer
checks_before_the_value = refl

-- a := m(a, 3); is read by one action
reads_an_element : offers (offer (doing (OfAssign a (OfRead (m (OfRead a) (literal 3))))) 0) (hears 1 ∷ hears 40 ∷ [])
    ≡ Read 0 ∷ Read 4 ∷ Write 0 (number 40) ∷ []
unfolding offer
reads_an_element = refl

-- t := 'ab'; is filled with a blank
fills_with_blanks : offer (doing (OfAssign t (OfLiteral (text (97 ∷ 98 ∷ []))))) 0 [] ≡ Write 8 (text (97 ∷ 98 ∷ 32 ∷ []))
unfolding offer
fills_with_blanks = refl

-- s := a; with s FIXED(3)
converts_to_the_target : offers (offer (doing (OfAssign s (OfRead a))) 0) (hears 7 ∷ []) ≡ Read 0 ∷ Write 9 (Fixed 3 (pos 7)) ∷ []
unfolding offer
converts_to_the_target = refl

traps_where_it_does_not_fit : offers (offer (doing (OfAssign s (OfRead a))) 0) (hears 8 ∷ []) ≡ Read 0 ∷ Trap trap.Overflow ∷ []
unfolding offer
traps_where_it_does_not_fit = refl

traps_at_zero : offers (offer (doing (OfAssign a (OfDyadic Div (OfRead a) (OfRead b)))) 0) (hears 8 ∷ hears 0 ∷ []) ≡ Read 0 ∷ Read 1 ∷ Trap trap.ZeroDivide ∷ []
unfolding offer
traps_at_zero = refl

-- IF NOW == .. : the time of day is asked
asks_the_time : offers (offer (doing (OfIf (OfDyadic Eq OfNow (OfLiteral (Clock 1000))) (only (OfAssign a (literal 1))) NoStmts)) 0) (One (Clock 1000) ∷ [])
    ≡ Now ∷ Write 0 (number 1) ∷ []
unfolding offer
asks_the_time = refl
