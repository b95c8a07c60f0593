-- Kinds of cells that are spelled are in their ranges, and those in range are spelled.
use Rattle.std.proofs.Common.{◌≡◌, Bool, true, false, None, refl, arith}
use Rattle.pearl_value.specs.declared.kind.Kind.TheVariants.{Fixed, Bits, Chars, Clock, Span}
use Rattle.pearl_value.specs.declared.kind.CellKind.{CellKind}
use Rattle.pearl_value.specs.declared.kind.CellKind.TheVariants.{Plain, RefTo}
use Rattle.pearl_instructions.specs.Lawful.{IsCellKind, IsPlain}
use Rattle.pearl_fields.specs.Codec.{within}
use Rattle.pearl_object.specs.Kinds.{cell_kind}
use Rattle.pearl_object.proofs.Ranges.{within_is, is_within, kind_is, plain_kind_fits}

pub cell_kind_is : (free : Bool) (k : CellKind) → (cell_kind free).fits k → IsCellKind k
unfolding cell_kind
cell_kind_is free (Plain (Fixed len)) h = within_is 1 63 len h.1.0.1
cell_kind_is free (Plain (Bits len)) h = within_is 1 64 len h.1.0.1
cell_kind_is free (Plain (Chars len)) h = within_is 1 255 len h.1.0.1
cell_kind_is free (Plain Clock) h = tt
cell_kind_is free (Plain Span) h = tt
cell_kind_is free (RefTo of) h = kind_is None of h.1.0

-- what isn't free to be a reference is none
pub plain_where_bound : (k : CellKind) → (cell_kind false).fits k → IsPlain k
unfolding cell_kind
plain_where_bound (Plain of) h = tt
plain_where_bound (RefTo of) h = absurd (let b : within 0 4 5 ≡ true = h.0.1 in cc)

pub free_kind_fits : (k : CellKind) → IsCellKind k → (cell_kind true).fits k
unfolding cell_kind
free_kind_fits (Plain (Fixed len)) h = ((omega arith, refl), ((omega (arith, h.1), is_within 1 63 len h.0 h.1), refl))
free_kind_fits (Plain (Bits len)) h = ((omega arith, refl), ((omega (arith, h.1), is_within 1 64 len h.0 h.1), refl))
free_kind_fits (Plain (Chars len)) h = ((omega arith, refl), ((omega (arith, h.1), is_within 1 255 len h.0 h.1), refl))
free_kind_fits (Plain Clock) h = ((omega arith, refl), refl)
free_kind_fits (Plain Span) h = ((omega arith, refl), refl)
free_kind_fits (RefTo of) h = ((omega arith, refl), (plain_kind_fits of h, refl))

pub bound_kind_fits : (k : CellKind) → IsCellKind k → IsPlain k → (cell_kind false).fits k
unfolding cell_kind
bound_kind_fits (Plain (Fixed len)) h plain = ((omega arith, refl), ((omega (arith, h.1), is_within 1 63 len h.0 h.1), refl))
bound_kind_fits (Plain (Bits len)) h plain = ((omega arith, refl), ((omega (arith, h.1), is_within 1 64 len h.0 h.1), refl))
bound_kind_fits (Plain (Chars len)) h plain = ((omega arith, refl), ((omega (arith, h.1), is_within 1 255 len h.0 h.1), refl))
bound_kind_fits (Plain Clock) h plain = ((omega arith, refl), refl)
bound_kind_fits (Plain Span) h plain = ((omega arith, refl), refl)
bound_kind_fits (RefTo of) h plain = absurd plain
