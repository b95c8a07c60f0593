-- Which kinds are the same.
use Rattle.std.specs.Prelude.{◌==◌, Bool, true, false}
use Rattle.pearl_value.specs.declared.kind.Kind.{Kind}
use Rattle.pearl_value.specs.declared.kind.Kind.TheVariants.{Fixed, Bits, Chars, Clock, Span}

abbrev pub is_kind : Kind → Kind → Bool
is_kind (Fixed len) (Fixed other) = len == other
is_kind (Bits len) (Bits other) = len == other
is_kind (Chars len) (Chars other) = len == other
is_kind Clock Clock = true
is_kind Span Span = true
is_kind kind other = false
