-- What a value is written as in a line of a transcript.
use Rattle.std.specs.Prelude.{ℕ, List, [], ◌∷◌, ◌++◌, ◌%◌, codes, ◌==◌, if◌then◌else◌}
use Rattle.std.specs.Fmt.{signed_decimal}
use Rattle.std.specs.List.{flat_map}
use Rattle.pearl_value.specs.declared.cell.Cell.{Cell}
use Rattle.pearl_value.specs.declared.cell.Cell.TheVariants.{Fixed, Bits, Chars, Clock, Span, Ref}
use Rattle.pearl_format.specs.Fields.{bits_text, clock_text, span_text}

abbrev pub quoted_byte : ℕ → List ℕ
quoted_byte byte = if byte == 39 then byte ∷ byte ∷ [] else byte ∷ []

-- a CLOCK shows its milliseconds where they aren't 0
abbrev pub clock_literal : ℕ → List ℕ
clock_literal time = clock_text (if time % 1000 == 0 then 8 else 12) time

-- a value as a literal: of a CHAR the apostrophes are doubled; a reference is no value
abbrev pub literal : Cell → List ℕ
literal (Fixed len value) = signed_decimal value
literal (Bits len value) = codes "'" ++ bits_text 1 len value ++ codes "'B"
literal (Chars text) = codes "'" ++ flat_map quoted_byte text.items ++ codes "'"
literal (Clock time) = clock_literal time
literal (Span time) = span_text time
literal (Ref kind place) = []
