-- Which cell a carried value is, and which value a cell is.
use Rattle.std.specs.Prelude.{Option, Some, None}
use Rattle.pearl_value.specs.declared.cell.Cell.{Cell}
use Rattle.pearl_value.specs.declared.cell.Cell.TheVariants.{Fixed, Bits, Chars, Clock, Span}
use Rattle.pearl_port.specs.declared.values.FixedValue.{FixedValue}
use Rattle.pearl_port.specs.declared.values.BitsValue.{BitsValue}
use Rattle.pearl_port.specs.declared.values.CharsValue.{CharsValue}
use Rattle.pearl_port.specs.declared.values.ClockValue.{ClockValue}
use Rattle.pearl_port.specs.declared.values.SpanValue.{SpanValue}

abbrev pub fixed_cell : FixedValue → Cell
fixed_cell x = Fixed x.len x.value

abbrev pub fixed_read : Cell → Option FixedValue
fixed_read (Fixed len value) = Some (record { len = len; value = value })
fixed_read _ = None

abbrev pub bits_cell : BitsValue → Cell
bits_cell x = Bits x.len x.value

abbrev pub bits_read : Cell → Option BitsValue
bits_read (Bits len value) = Some (record { len = len; value = value })
bits_read _ = None

abbrev pub chars_cell : CharsValue → Cell
chars_cell x = Chars x.text

abbrev pub chars_read : Cell → Option CharsValue
chars_read (Chars text) = Some (record { text = text })
chars_read _ = None

abbrev pub clock_cell : ClockValue → Cell
clock_cell x = Clock x.time

abbrev pub clock_read : Cell → Option ClockValue
clock_read (Clock time) = Some (record { time = time })
clock_read _ = None

abbrev pub span_cell : SpanValue → Cell
span_cell x = Span x.time

abbrev pub span_read : Cell → Option SpanValue
span_read (Span time) = Some (record { time = time })
span_read _ = None
