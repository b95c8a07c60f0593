-- Why the five types carry the five families.
use Rattle.std.specs.Prelude.{◌≡◌, ℕ, Bool, true, false, nat_eq, Option, Some, None, refl}
use Rattle.std.proofs.Common.{ap, sym, ◌∙◌}
use Rattle.std.proofs.lemmas.Bool.{false≢true}
use Rattle.pearl_value.specs.declared.cell.Cell.{Cell}
use Rattle.pearl_value.specs.declared.cell.Cell.TheVariants.{Fixed, Bits, Chars, Clock, Span, Ref}
use Rattle.pearl_port.specs.Families.{family_of, ReadsFrom, Carries}
use Rattle.pearl_port.specs.Values.{fixed_cell, fixed_read, bits_cell, bits_read, chars_cell, chars_read}
use Rattle.pearl_port.specs.Values.{clock_cell, clock_read, span_cell, span_read}

-- whether it is this family
abbrev is_family : ℕ → Option ℕ → Bool
is_family family None = false
is_family family (Some other) = nat_eq other family

module _ {X : Type 0} (family : ℕ) (known : nat_eq family family ≡ true) (cell_of : X → Cell) (cell : Cell) where
  -- a cell of the family, from which the value is read that is this cell
  reads_one : (x : X) → family_of cell ≡ Some family → cell_of x ≡ cell → ReadsFrom family cell_of cell (Some x)
  reads_one x own same = record {
    none = ((λ h. absurd (false≢true (sym h))), (λ other. absurd (other own)));
    same = same;
  }

  -- a cell that isn't of the family, from which nothing is read
  reads_none : is_family family (family_of cell) ≡ false → ReadsFrom family cell_of cell None
  reads_none other = record {
    none = ((λ h own. false≢true (sym other ∙ (ap (is_family family) own ∙ known))), (λ h. refl));
    same = tt;
  }

fixed_reads : (cell : Cell) → ReadsFrom 0 fixed_cell cell (fixed_read cell)
fixed_reads (Fixed len value) =
    reads_one 0 refl fixed_cell (Fixed len value) (record { len = len; value = value }) refl refl
fixed_reads (Bits len value) = reads_none 0 refl fixed_cell (Bits len value) refl
fixed_reads (Chars text) = reads_none 0 refl fixed_cell (Chars text) refl
fixed_reads (Clock time) = reads_none 0 refl fixed_cell (Clock time) refl
fixed_reads (Span time) = reads_none 0 refl fixed_cell (Span time) refl
fixed_reads (Ref of place) = reads_none 0 refl fixed_cell (Ref of place) refl

pub fixed_carries : Carries 0 fixed_cell fixed_read
fixed_carries = record { again = λ x. refl; reads = fixed_reads }

bits_reads : (cell : Cell) → ReadsFrom 1 bits_cell cell (bits_read cell)
bits_reads (Fixed len value) = reads_none 1 refl bits_cell (Fixed len value) refl
bits_reads (Bits len value) =
    reads_one 1 refl bits_cell (Bits len value) (record { len = len; value = value }) refl refl
bits_reads (Chars text) = reads_none 1 refl bits_cell (Chars text) refl
bits_reads (Clock time) = reads_none 1 refl bits_cell (Clock time) refl
bits_reads (Span time) = reads_none 1 refl bits_cell (Span time) refl
bits_reads (Ref of place) = reads_none 1 refl bits_cell (Ref of place) refl

pub bits_carries : Carries 1 bits_cell bits_read
bits_carries = record { again = λ x. refl; reads = bits_reads }

chars_reads : (cell : Cell) → ReadsFrom 2 chars_cell cell (chars_read cell)
chars_reads (Fixed len value) = reads_none 2 refl chars_cell (Fixed len value) refl
chars_reads (Bits len value) = reads_none 2 refl chars_cell (Bits len value) refl
chars_reads (Chars text) =
    reads_one 2 refl chars_cell (Chars text) (record { text = text }) refl refl
chars_reads (Clock time) = reads_none 2 refl chars_cell (Clock time) refl
chars_reads (Span time) = reads_none 2 refl chars_cell (Span time) refl
chars_reads (Ref of place) = reads_none 2 refl chars_cell (Ref of place) refl

pub chars_carries : Carries 2 chars_cell chars_read
chars_carries = record { again = λ x. refl; reads = chars_reads }

clock_reads : (cell : Cell) → ReadsFrom 3 clock_cell cell (clock_read cell)
clock_reads (Fixed len value) = reads_none 3 refl clock_cell (Fixed len value) refl
clock_reads (Bits len value) = reads_none 3 refl clock_cell (Bits len value) refl
clock_reads (Chars text) = reads_none 3 refl clock_cell (Chars text) refl
clock_reads (Clock time) =
    reads_one 3 refl clock_cell (Clock time) (record { time = time }) refl refl
clock_reads (Span time) = reads_none 3 refl clock_cell (Span time) refl
clock_reads (Ref of place) = reads_none 3 refl clock_cell (Ref of place) refl

pub clock_carries : Carries 3 clock_cell clock_read
clock_carries = record { again = λ x. refl; reads = clock_reads }

span_reads : (cell : Cell) → ReadsFrom 4 span_cell cell (span_read cell)
span_reads (Fixed len value) = reads_none 4 refl span_cell (Fixed len value) refl
span_reads (Bits len value) = reads_none 4 refl span_cell (Bits len value) refl
span_reads (Chars text) = reads_none 4 refl span_cell (Chars text) refl
span_reads (Clock time) = reads_none 4 refl span_cell (Clock time) refl
span_reads (Span time) =
    reads_one 4 refl span_cell (Span time) (record { time = time }) refl refl
span_reads (Ref of place) = reads_none 4 refl span_cell (Ref of place) refl

pub span_carries : Carries 4 span_cell span_read
span_carries = record { again = λ x. refl; reads = span_reads }
