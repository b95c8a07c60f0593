-- The text of lawful tokens has exactly these tokens.
use Rattle.std.proofs.Common.{List, [], ◌∷◌, All}
use Rattle.std.proofs.lemmas.List.Elements.{All-cons, All-nil, All-head, All-tail}
use Rattle.pearl_tree.specs.declared.token.What.{What}
use Rattle.pearl_tree.specs.declared.token.What.TheVariants as what
use Rattle.pearl_tree.specs.Tokens.{IsLawfulWhat}
use Rattle.pearl_print.specs.Reading.{IsReadBack, LawfulTextReads}
use Rattle.pearl_print.proofs.Reading.{text_reads}
use Rattle.pearl_print.proofs.WordsRead.{word_reads, id_reads}
use Rattle.pearl_print.proofs.SymbolsRead.{symbol_reads}
use Rattle.pearl_print.proofs.NumbersRead.{number_reads, decimal_reads}
use Rattle.pearl_print.proofs.ClocksRead.{clock_reads}
use Rattle.pearl_print.proofs.TextsRead.{text_reads_back}
use Rattle.pearl_print.proofs.BitsRead.{bits_read_back}

lawful_reads : (token : What) → IsLawfulWhat token → IsReadBack token
lawful_reads (what.Word code) is = word_reads code is
lawful_reads (what.Id text) is = id_reads text.items is
lawful_reads (what.Number value) is = number_reads value is
lawful_reads (what.Decimal whole thousandths) is = decimal_reads whole thousandths is.0 is.1
lawful_reads (what.Clock milliseconds) is = clock_reads milliseconds is
lawful_reads (what.Bits len value) is = bits_read_back len value is
lawful_reads (what.Text text) is = text_reads_back text.items is
lawful_reads (what.Symbol symbol) is = symbol_reads symbol is

all_read : (whats : List What) → All IsLawfulWhat whats → All IsReadBack whats
all_read [] each = All-nil IsReadBack
all_read (token ∷ whats) each =
    All-cons IsReadBack token whats (lawful_reads token (All-head IsLawfulWhat token whats each)) (all_read whats (All-tail IsLawfulWhat token whats each))

pub lawful_text_reads : LawfulTextReads
lawful_text_reads whats each = text_reads whats (all_read whats each)
