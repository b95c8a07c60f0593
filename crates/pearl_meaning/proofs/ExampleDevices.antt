-- What PUT, GET, SEND and TAKE do.
use Rattle.std.specs.Prelude.{◌≡◌, [], ◌∷◌, None}
use Rattle.std.specs.Fmt.{digits}
use Rattle.std.proofs.Common.{refl}
use Rattle.pearl_value.specs.declared.kind.Kind.TheVariants as kind
use Rattle.pearl_value.specs.declared.kind.CellKind.TheVariants.{RefTo}
use Rattle.pearl_value.specs.declared.cell.Cell.{Cell}
use Rattle.pearl_value.specs.declared.cell.Cell.TheVariants.{Bits}
use Rattle.pearl_value.specs.declared.trap.Trap.TheVariants as trap
use Rattle.pearl_rules.specs.declared.action.Action.{Action}
use Rattle.pearl_rules.specs.declared.action.Action.TheVariants.{Read, Write, Enter, Put, Get, Take, Send, End, Trap}
use Rattle.pearl_rules.specs.declared.action.Answer.{Answer}
use Rattle.pearl_rules.specs.declared.action.Answer.TheVariants.{Nothing, Many}
use Rattle.pearl_program.specs.PlainExpressions.{OfLiteral, OfRead, OfIdent, NoArguments, MoreArguments}
use Rattle.pearl_program.specs.PlainStatements.{OfAssign, OfCallOf, OfPut, OfGet, OfSend, OfTake}
use Rattle.pearl_program.specs.PlainPrograms.{PlainProg}
use Rattle.pearl_meaning.specs.Programs.{offer}
use Rattle.pearl_meaning.proofs.Examples.{fixed, number, hears, literal, alone, both, own, param, a, b, s, m, only, two, doing, program, offers}

-- PUT 17 TO tty BY F(5), SKIP;
writes_a_text : offers (offer (doing (OfPut (alone (literal 17)) 1 0)) 0) (Nothing ∷ [])
    ≡ Put 1 (record { items = 32 ∷ 32 ∷ 32 ∷ 49 ∷ 55 ∷ 10 ∷ [] }) ∷ End ∷ []
unfolding offer digits
writes_a_text = refl

-- PUT 1000 TO tty BY F(3);
traps_where_it_is_too_long : offer (doing (OfPut (alone (literal 1000)) 1 1)) 0 [] ≡ Trap trap.Format
unfolding offer digits
traps_where_it_is_too_long = refl

-- PUT 1000, a TO tty BY F(3), F(3); all values come before the text
values_come_first : offers (offer (doing (OfPut (both (literal 1000) (OfRead a)) 1 2)) 0) (hears 1 ∷ []) ≡ Read 0 ∷ Trap trap.Format ∷ []
unfolding offer digits
values_come_first = refl

abbrev kinds_of_two : Action
kinds_of_two = Get 1 2 (record { items = kind.Fixed 31 ∷ kind.Fixed 31 ∷ [] })

abbrev come : Cell → Cell → Answer
come x y = Many (record { items = x ∷ y ∷ [] })

-- GET a, m(a, b) FROM tty BY F(3), F(3); the values come into cells 0 and 1. All subscripts come first, then the action, and then the
-- values are written from left to right: the element is the one that was found before
abbrev getting : PlainProg
getting = program [] (fixed ∷ fixed ∷ fixed ∷ fixed ∷ []) (only (OfGet (a ∷ m (OfRead a) (OfRead b) ∷ []) 1 2 0))

writes_what_came : offers (offer getting 0) (hears 1 ∷ hears 3 ∷ come (number 2) (number 40) ∷ Nothing ∷ Nothing ∷ [])
    ≡ Read 0 ∷ Read 1 ∷ kinds_of_two ∷ Write 0 (number 2) ∷ Write 4 (number 40) ∷ End ∷ []
unfolding offer
writes_what_came = refl

checks_before_it_gets : offers (offer getting 0) (hears 1 ∷ hears 4 ∷ []) ≡ Read 0 ∷ Read 1 ∷ Trap trap.Index ∷ []
unfolding offer
checks_before_it_gets = refl

-- DCL n FIXED, .. GET n FROM tty BY F(3); a := n;
gets_into_a_cell : offers (offer (program [] (fixed ∷ fixed ∷ fixed ∷ []) (two (OfGet (own 0 ∷ []) 1 1 1) (OfAssign a (OfRead (own 0))))) 0)
    (Many (record { items = number 12 ∷ [] }) ∷ [])
    ≡ Get 1 1 (record { items = kind.Fixed 31 ∷ [] }) ∷ Write 0 (number 12) ∷ []
unfolding offer
gets_into_a_cell = refl

-- the same through a parameter with IDENT
gets_through_a_reference : offers (offer (program (record {
  params = 1;
  result = None;
  routine = record { cells = RefTo (kind.Fixed 31) ∷ fixed ∷ fixed ∷ []; body = only (OfGet (param 0 ∷ []) 1 1 1) };
} ∷ []) [] (only (OfCallOf 0 (MoreArguments (OfIdent b) NoArguments)))) 0)
    (Nothing ∷ Many (record { items = number 12 ∷ [] }) ∷ Nothing ∷ [])
    ≡ Enter ∷ Get 1 1 (record { items = kind.Fixed 31 ∷ [] }) ∷ Write 1 (number 12) ∷ End ∷ []
unfolding offer
gets_through_a_reference = refl

-- TAKE m(a, 2) FROM probe; the subscript, then the action, then the conversion
takes_a_value : offers (offer (doing (OfTake (m (OfRead a) (literal 2)) 2)) 0) (hears 1 ∷ hears 75 ∷ Nothing ∷ [])
    ≡ Read 0 ∷ Take 2 ∷ Write 3 (number 75) ∷ End ∷ []
unfolding offer
takes_a_value = refl

-- TAKE s FROM probe; with s FIXED(3): the value is gone
takes_what_does_not_fit : offers (offer (doing (OfTake s 2)) 0) (hears 8 ∷ []) ≡ Take 2 ∷ Trap trap.Overflow ∷ []
unfolding offer
takes_what_does_not_fit = refl

-- SEND '11'B TO valve; which takes BIT(4)
sends_what_was_filled : offers (offer (doing (OfSend (OfLiteral (Bits 2 3)) 3)) 0) (Nothing ∷ []) ≡ Send 3 (Bits 4 12) ∷ End ∷ []
unfolding offer
sends_what_was_filled = refl
