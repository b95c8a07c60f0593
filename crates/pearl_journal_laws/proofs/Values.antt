-- Which values may come in at an input.
use Rattle.std.proofs.Common.{◌≡◌, Bool, true, false, length, Ok, refl, le-leb}
use Rattle.std.proofs.lemmas.Bool.{false≢true, leb-true}
use Rattle.pearl_value.specs.Blanks.{filled_to, widened}
use Rattle.std.specs.Prelude.{Err, if◌then◌else◌}
use Rattle.pearl_value.specs.declared.kind.Kind.{Kind}
use Rattle.pearl_value.specs.declared.kind.Kind.TheVariants as kind
use Rattle.pearl_value.specs.declared.cell.Cell.{Cell}
use Rattle.pearl_value.specs.declared.cell.Cell.TheVariants.{Fixed, Bits, Chars, Clock, Span, Ref}
use Rattle.pearl_value.specs.declared.trap.Trap.{Trap}
use Rattle.pearl_value.specs.declared.trap.Trap.TheVariants.{Overflow}
use Rattle.pearl_value.specs.Conversions.{fits_fixed}
use Rattle.pearl_value.specs.WellFormed.{IsValue}
use Rattle.pearl_rules.specs.Entries.{Becomes}
use Rattle.pearl_journal.specs.Values.{may_come_in}

fits_if : (fits : Bool) (x y : Cell) (trap : Trap) → (if fits then Ok x else Err trap) ≡ Ok y → fits ≡ true
fits_if true x y trap e = refl
fits_if false x y trap e = cc

pub may_come : (of : Kind) (x : Cell) → Becomes of x → may_come_in of x ≡ true
may_come (kind.Fixed to) (Fixed len value) is =
    fits_if (fits_fixed to value) (Fixed to value) is.becomes Overflow is.converts
may_come (kind.Bits to) (Bits len value) is = le-leb len to is.suits
may_come (kind.Chars to) (Chars text) is = le-leb (length text.items) to is.suits
may_come kind.Clock (Clock time) is = refl
may_come kind.Span (Span time) is = refl
may_come of (Ref to place) is = absurd is.is_value
may_come of x is = absurd is.suits

becomes : (of : Kind) (x : Cell) → IsValue x → may_come_in of x ≡ true → Becomes of x
becomes (kind.Fixed to) (Fixed len value) is may =
    record { is_value = is; suits = tt; becomes = Fixed to value; converts = rw (may) refl }
becomes (kind.Bits to) (Bits len value) is may =
    record {
      is_value = is;
      suits = leb-true len to may;
      becomes = Bits to (widened len value to);
      converts = rw (may) refl;
    }
becomes (kind.Chars to) (Chars text) is may =
    record {
      is_value = is;
      suits = leb-true (length text.items) to may;
      becomes = Chars (record { items = filled_to to text.items });
      converts = rw (may) refl;
    }
becomes kind.Clock (Clock time) is may = record { is_value = is; suits = tt; becomes = Clock time; converts = refl }
becomes kind.Span (Span time) is may = record { is_value = is; suits = tt; becomes = Span time; converts = refl }
becomes of x is may = absurd (false≢true may)

pub may_not_come : (of : Kind) (x : Cell) → IsValue x → (Becomes of x → ⊥) → may_come_in of x ≡ false
may_not_come of x is never = by (may_come_in of x) refl
  where
    by : (may : Bool) → may_come_in of x ≡ may → may ≡ false
    by true e = absurd (never (becomes of x is e))
    by false e = refl
