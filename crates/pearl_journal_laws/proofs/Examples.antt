-- Lines that have all that the laws ask, and what comes of them.
use Rattle.std.proofs.Common.{◌≡◌, ◌≢◌, ◌≤◌, ◌<◌, ℕ, zero, suc, List, [], ◌∷◌, ◌++◌, inl, replicate, Bool, true, false, not, ◌==◌, slice_get, bytes_eq, Some, None, codes, length, refl, ap, sym, ◌∙◌, subst, arith, pos, lit<}
use Rattle.std.proofs.lemmas.Bool.{false≢true}
use Rattle.std.proofs.lemmas.List.{append-nil, length-append, length-replicate}
use Rattle.std.proofs.lemmas.Slice.Eq.{bytes_eq-Decides}
use Rattle.std.specs.Bool.{Decides}
use Rattle.std.specs.List.{list_all}
use Rattle.pearl_value.specs.declared.cell.Cell.TheVariants.{Fixed, Bits}
use Rattle.pearl_value.specs.declared.kind.Kind.TheVariants as kind
use Rattle.pearl_rules.specs.declared.entry.Entry.TheVariants as entry
use Rattle.pearl_value.specs.declared.device.Device.TheVariants as device
use Rattle.pearl_value.specs.declared.device.Direction.TheVariants as direction
use Rattle.pearl_rules.specs.declared.setup.Setup.{Setup}
use Rattle.pearl_rules.specs.declared.setup.TaskEntry.{TaskEntry}
use Rattle.pearl_rules.specs.Literals.{clock_literal, span_literal}
use Rattle.pearl_journal.specs.declared.reading.Line.TheVariants.{Blank, Item, Wrong}
use Rattle.pearl_journal.specs.Laws.{IsBare, IsComment, IsGap, IsWord}
use Rattle.pearl_journal.specs.Entries.{Bad, after, entries, entries_from, more_entries}
use Rattle.pearl_journal.specs.Meaning.{meaning}
use Rattle.pearl_journal.specs.Readings.{Reading, start}
use Rattle.pearl_journal.specs.Words.{is_blank, number}
use Rattle.pearl_journal.specs.Values.{literal}
use Rattle.pearl_journal.proofs.Offered.{IsSolid, solid_begins, solid_last}
use Rattle.pearl_journal_laws.specs.Literals.{AreBits}
use Rattle.pearl_journal_laws.specs.Named.{IsFirst, IsInput, IsNowhere, IsReadable}
use Rattle.pearl_journal_laws.specs.Readings.{behind_lines}
use Rattle.pearl_journal_laws.specs.Says.{IsNoNumber, IsText, Says, SaysMore}
use Rattle.pearl_journal_laws.specs.Times.{AreThousandths}
use Rattle.pearl_journal_laws.proofs.ArrivalLaws.{chars_is, chars_no_number, chars_no_text, chars_none, irpt_is, irpt_no_number, irpt_none, line_is, line_no_number, line_no_text, line_none, part_missing, value_is, value_long, value_no_literal, value_no_number, value_none, value_unfit}
use Rattle.pearl_journal_laws.proofs.Durations.{was_length}
use Rattle.pearl_journal_laws.proofs.Endings.{both_true, no_return_by}
use Rattle.pearl_journal_laws.proofs.Finding.{input_decides, interrupt_decides, named_decides, readable_decides}
use Rattle.pearl_journal_laws.proofs.Numbers.{number_is, was_number}
use Rattle.pearl_journal_laws.proofs.StepLaws.{clock_first, clock_later, clock_none, other_none, pass_is, pass_late, pass_no_picks, pass_no_times, run_is, run_none, state_is, state_none, tick_is, tick_late, tick_none, turn_is, turn_no_name, turn_none}
use Rattle.pearl_journal_laws.proofs.Readings.{refused_at}
use Rattle.pearl_journal_laws.proofs.Returns.{second_long, second_refused, second_skipped}
use Rattle.pearl_journal_laws.proofs.Texts.{text_is, was_text}
use Rattle.pearl_journal_laws.proofs.Literals.{some_literal}
use Rattle.pearl_journal_laws.proofs.TimesOfDay.{reads_time, was_time}
use Rattle.pearl_journal_laws.proofs.Writing.{last_behind, says_text, says_three, says_word}

-- A PLANT

abbrev task : List ℕ → TaskEntry
task name = record { name = record { items = name }; priority = 10; main = true }

-- three tasks, two of them of one name; an interrupt, two terminals and an input
abbrev plant : Setup
plant =
    record {
      tasks = task (codes "Drain") ∷ task (codes "Fill") ∷ task (codes "Fill") ∷ [];
      slots = [];
      semaphores = [];
      devices = device.Interrupt 4 ∷ device.Terminal 1 direction.Out ∷ device.Terminal 2 direction.InOut
          ∷ device.Input 2 (kind.Fixed 7) ∷ [];
      formats = [];
    }

-- the last millisecond but one
abbrev late : Reading
late = record { lines = 7; is_first = false; moment = 1099511627775 }

-- WORDS

solid_by : (text : List ℕ) → list_all (λ byte. not (is_blank byte)) text ≡ true → IsSolid text
solid_by [] e = tt
solid_by (byte ∷ text) e =
    let h = both_true (is_blank byte) (list_all (λ byte. not (is_blank byte)) text) e in
    (h.0, solid_by text h.1)

bare_by : (text : List ℕ) → text ≢ [] → list_all (λ byte. not (is_blank byte)) text ≡ true → IsBare text
bare_by text some e =
    let solid = solid_by text e in
    record {
      begins = λ byte rest e. solid_begins text [] solid some byte rest (append-nil text ∙ e);
      ends = λ front byte e. solid_last front byte (subst IsSolid e solid);
    }

-- a word, a blank and a text without blanks
two : (word text : List ℕ) → IsWord word → text ≢ [] → list_all (λ byte. not (is_blank byte)) text ≡ true →
    list_all (λ byte. not (byte == 13)) text ≡ true → length (word ++ 32 ∷ text) ≤ 1024 →
    Says (word ++ 32 ∷ text) word text
two word text is some solid no_return short =
    says_text word text is (bare_by text some solid) some (no_return_by text no_return) short

-- the same with a second word
three : (word second text : List ℕ) → IsWord word → second ≢ [] → text ≢ [] →
    list_all (λ byte. not (is_blank byte)) second ≡ true → list_all (λ byte. not (is_blank byte)) text ≡ true →
    list_all (λ byte. not (byte == 13)) text ≡ true → length (word ++ 32 ∷ (second ++ 32 ∷ text)) ≤ 1024 →
    SaysMore (word ++ 32 ∷ (second ++ 32 ∷ text)) word second text
three word second text is some more first solid no_return short =
    says_three word second text is some (solid_by second first) (bare_by text more solid) more
    (no_return_by text no_return)
    short

word_by : (byte : ℕ) (word : List ℕ) → list_all (λ byte. not (is_blank byte)) (byte ∷ word) ≡ true →
    (byte == 35) ≡ false →
    IsWord (byte ∷ word)
word_by byte word solid other =
    record {
      some = λ e. cc;
      solid = solid_by (byte ∷ word) solid;
      no_comment = λ rest e. let same : byte ≡ 35 = cc in false≢true (sym other ∙ ap (λ b. b == 35) same);
    }

-- PLACES

module _ {X : Type 0} (test : X → Bool) (IsWanted : X → Type 0)
    (decides : (x : X) → Decides (test x) (IsWanted x)) where
  none_by : (all : List X) → list_all (λ x. not (test x)) all ≡ true → IsNowhere IsWanted all
  none_by [] e place other at wanted = cc
  none_by (x ∷ all) e zero other at wanted =
      let same : x ≡ other = cc in
      let yes : test x ≡ true = (decides x).1 (subst IsWanted (sym same) wanted) in
      false≢true (sym (both_true (test x) (list_all (λ x. not (test x)) all) e).0 ∙ yes)
  none_by (x ∷ all) e (suc place) other at wanted =
      none_by all (both_true (test x) (list_all (λ x. not (test x)) all) e).1 place other at wanted

  at_end : (before : List X) (x : X) (after : List X) → slice_get (before ++ x ∷ after) (length before) ≡ Some x
  at_end [] x after = refl
  at_end (b ∷ before) x after = at_end before x after

  within : (before : List X) (x : X) (after : List X) (place : ℕ) → place < length before →
      slice_get (before ++ x ∷ after) place ≡ slice_get before place
  within [] x after place less = absurd (omega (arith, less))
  within (b ∷ before) x after zero less = refl
  within (b ∷ before) x after (suc place) less = within before x after place (omega (arith, less))

  first_by : (before : List X) (x : X) (after : List X) → list_all (λ x. not (test x)) before ≡ true → IsWanted x →
      IsFirst IsWanted (before ++ x ∷ after) (length before)
  first_by before x after e wanted =
      record {
        found = x;
        stands = at_end before x after;
        wanted = wanted;
        first = λ place other less at. none_by before e place other (sym (within before x after place less) ∙ at);
      }

-- LINES OF TIME AND OF TASKS

noon : Says (codes "clock 12:00:00") (codes "clock") (codes "12:00:00")
noon = two (codes "clock") (codes "12:00:00") (word_by 99 (codes "lock") refl refl) (λ e. cc) refl refl (omega arith)

noon_is_read : clock_literal (codes "12:00:00") ≡ Some 43200000
unfolding clock_literal
noon_is_read = refl

a_first_clock : meaning plant start (codes "clock 12:00:00") ≡ Item (entry.Clock 43200000)
a_first_clock =
    clock_first plant start _ (codes "12:00:00") 43200000 noon refl (omega arith)
    (was_time (codes "12:00:00") 43200000 noon_is_read)

-- one digit behind a point says tenths
five_tenths : AreThousandths (codes "5") 500
five_tenths =
    record { some = λ e. cc; few = omega arith; are_digits = ((omega arith, omega arith), tt); value = refl }

later_is_read : clock_literal (codes "12:00:00.5") ≡ Some 43200500
unfolding clock_literal
later_is_read = refl

a_clock_with_a_point : meaning plant start (codes "clock 12:00:00.5") ≡ Item (entry.Clock 43200500)
a_clock_with_a_point =
    clock_first plant start _ (codes "12:00:00.5") 43200500
    (two (codes "clock") (codes "12:00:00.5") (word_by 99 (codes "lock") refl refl) (λ e. cc) refl refl (omega arith))
    refl (omega arith) (was_time (codes "12:00:00.5") 43200500 later_is_read)

a_later_clock : meaning plant late (codes "clock 12:00:00") ≡ Wrong 1
a_later_clock = clock_later plant late _ (codes "12:00:00") noon refl

a_run : meaning plant late (codes "run 100") ≡ Item (entry.Run 100)
a_run =
    run_is plant late _ (codes "100") 100
    (two (codes "run") (codes "100") (word_by 114 (codes "un") refl refl) (λ e. cc) refl refl (omega arith))
    (omega arith)
    (was_number (codes "100") 100 refl)

a_pass_to_the_last_moment : meaning plant late (codes "pass 1 20") ≡ Item (entry.Pass 1 20)
a_pass_to_the_last_moment =
    pass_is plant late _ (codes "1") (codes "20")
    (three (codes "pass") (codes "1") (codes "20") (word_by 112 (codes "ass") refl refl) (λ e. cc)
    (λ e. cc) refl refl refl
    (omega arith)) 1 20 (was_number (codes "1") 1 refl) (was_number (codes "20") 20 refl) (omega arith)

a_pass_too_far : meaning plant late (codes "pass 2 20") ≡ Wrong 3
a_pass_too_far =
    pass_late plant late _ (codes "2") (codes "20")
    (three (codes "pass") (codes "2") (codes "20") (word_by 112 (codes "ass") refl refl) (λ e. cc)
    (λ e. cc) refl refl refl
    (omega arith)) 2 20 (was_number (codes "2") 2 refl) (was_number (codes "20") 20 refl) (omega arith)

a_turn_of_two : meaning plant start (codes "turn Fill") ≡ Item (entry.Turn 1)
a_turn_of_two =
    turn_is plant start _ (codes "Fill") 1
    (two (codes "turn") (codes "Fill") (word_by 116 (codes "urn") refl refl) (λ e. cc) refl refl (omega arith))
    (omega arith)
    refl
    (first_by _ _ (named_decides (codes "Fill")) (task (codes "Drain") ∷ []) (task (codes "Fill"))
    (task (codes "Fill") ∷ [])
    refl refl)

a_turn_of_none : meaning plant start (codes "turn TASK") ≡ Wrong 2
a_turn_of_none =
    turn_none plant start _ (codes "TASK")
    (two (codes "turn") (codes "TASK") (word_by 116 (codes "urn") refl refl) (λ e. cc) refl refl (omega arith)) refl
    (none_by _ _ (named_decides (codes "TASK")) plant.tasks refl)

a_state : meaning plant start (codes "state") ≡ Item entry.State
a_state =
    state_is plant start (codes "state")
    (says_word (codes "state") (word_by 115 (codes "tate") refl refl) (no_return_by (codes "state") refl) (omega arith))
    (omega arith)

-- LINES OF WHAT COMES IN

an_interrupt : meaning plant start (codes "irpt 4") ≡ Item (entry.Irpt 0)
an_interrupt =
    irpt_is plant start _ (codes "4")
    (two (codes "irpt") (codes "4") (word_by 105 (codes "rpt") refl refl) (λ e. cc) refl refl (omega arith)) 4 0
    (omega arith)
    (was_number (codes "4") 4 refl) (first_by _ _ (interrupt_decides 4) [] (device.Interrupt 4) _ refl refl)

no_interrupt : meaning plant start (codes "irpt 2") ≡ Wrong 2
no_interrupt =
    irpt_none plant start _ (codes "2")
    (two (codes "irpt") (codes "2") (word_by 105 (codes "rpt") refl refl) (λ e. cc) refl refl (omega arith)) 2
    (was_number (codes "2") 2 refl) (none_by _ _ (interrupt_decides 2) plant.devices refl)

-- the two terminals, with the second before which none reads
second_terminal : IsFirst (IsReadable 2) plant.devices 2
second_terminal =
    first_by _ _ (readable_decides 2) (device.Interrupt 4 ∷ device.Terminal 1 direction.Out ∷ [])
    (device.Terminal 2 direction.InOut) (device.Input 2 (kind.Fixed 7) ∷ []) refl (direction.InOut, refl, λ e. cc)

characters : meaning plant start (codes "chars 2 'it''s'") ≡ Item (entry.Chars 2 (record { items = codes "it's" }))
characters =
    chars_is plant start _ (codes "2") (codes "'it''s'")
    (three (codes "chars") (codes "2") (codes "'it''s'") (word_by 99 (codes "hars") refl refl) (λ e. cc)
    (λ e. cc) refl refl
    refl (omega arith)) (codes "it's") 2 2 (omega arith) (was_number (codes "2") 2 refl)
    (was_text (codes "'it''s'") (codes "it's") refl) (λ e. cc) second_terminal

characters_for_nobody : meaning plant start (codes "chars 1 'x'") ≡ Wrong 2
characters_for_nobody =
    chars_none plant start _ (codes "1") (codes "'x'")
    (three (codes "chars") (codes "1") (codes "'x'") (word_by 99 (codes "hars") refl refl) (λ e. cc) (λ e. cc) refl refl
    refl (omega arith)) (codes "x") 1 (was_number (codes "1") 1 refl) (was_text (codes "'x'") (codes "x") refl)
    (λ e. cc)
    (none_by _ _ (readable_decides 1) plant.devices refl)

an_empty_line : meaning plant start (codes "line 2 ''") ≡ Item (entry.Line 2 (record { items = [] }))
an_empty_line =
    line_is plant start _ (codes "2") (codes "''")
    (three (codes "line") (codes "2") (codes "''") (word_by 108 (codes "ine") refl refl) (λ e. cc) (λ e. cc) refl refl
    refl (omega arith)) [] 2 2 (omega arith) (was_number (codes "2") 2 refl)
    (was_text (codes "''") [] refl) second_terminal

input : IsFirst (IsInput 2) plant.devices 3
input =
    first_by _ _ (input_decides 2)
    (device.Interrupt 4 ∷ device.Terminal 1 direction.Out ∷ device.Terminal 2 direction.InOut ∷ [])
    (device.Input 2 (kind.Fixed 7)) [] refl (kind.Fixed 7, refl)

says_value : (text : List ℕ) → text ≢ [] → list_all (λ byte. not (is_blank byte)) text ≡ true →
    list_all (λ byte. not (byte == 13)) text ≡ true → length text ≤ 100 →
    SaysMore (codes "value 2 " ++ text) (codes "value") (codes "2") text
says_value text some solid no_return short =
    three (codes "value") (codes "2") text (word_by 118 (codes "alue") refl refl) (λ e. cc) some refl solid no_return
    (omega (arith, short))

a_value : meaning plant start (codes "value 2 75") ≡ Item (entry.Value 3 (Fixed 31 (pos 75)))
a_value =
    value_is plant start _ (codes "2") (codes "75") (says_value (codes "75") (λ e. cc) refl refl (omega arith)) 2 3
    (kind.Fixed 7) (Fixed 31 (pos 75)) (omega arith) (was_number (codes "2") 2 refl)
    (inl (75, was_number (codes "75") 75 refl, refl), refl) input refl
    (record {
      is_value = ((omega arith, omega arith), record { low = omega arith; high = omega arith });
      suits = tt;
      becomes = Fixed 7 (pos 75);
      converts = refl;
    })

a_great_value : meaning plant start (codes "value 2 128") ≡ Wrong 4
a_great_value =
    value_unfit plant start _ (codes "2") (codes "128") (says_value (codes "128") (λ e. cc) refl refl (omega arith)) 2 3
    (kind.Fixed 7) (Fixed 31 (pos 128)) (was_number (codes "2") 2 refl)
    (inl (128, was_number (codes "128") 128 refl, refl), refl) input refl
    (λ is. let e = is.converts in cc)

five_in_bits : AreBits (codes "'101'B") 3 5
five_in_bits =
    record {
      digits = codes "101";
      word = codes "B";
      group = 1;
      spelled = refl;
      says_group = inl (refl, refl);
      some = λ e. cc;
      are_digits = (
        (inl (omega arith, omega arith), lit< tt),
        (
          (inl (omega arith, omega arith), lit< tt),
          ((inl (omega arith, omega arith), lit< tt), tt),
        ),
      );
      count = refl;
      few = omega arith;
      number = refl;
    }

bits_for_a_number : meaning plant start (codes "value 2 '101'B") ≡ Wrong 4
bits_for_a_number =
    value_unfit plant start _ (codes "2") (codes "'101'B") (says_value (codes "'101'B") (λ e. cc) refl refl
    (omega arith)) 2 3
    (kind.Fixed 7) (Bits 3 5) (was_number (codes "2") 2 refl)
    five_in_bits input refl (λ is. is.suits)

-- what is read as no number is none
no_number_by : (text : List ℕ) → number text ≡ None → IsNoNumber text
no_number_by text none n is = let some = number_is text n is in let no : ⊥ = cc in no

a_run_of_nothing : meaning plant start (codes "run x") ≡ Wrong 1
a_run_of_nothing =
    run_none plant start _ (codes "x")
    (two (codes "run") (codes "x") (word_by 114 (codes "un") refl refl) (λ e. cc) refl refl (omega arith))
    (no_number_by (codes "x") refl)

tomorrow_is_not_read : clock_literal (codes "24:00:00") ≡ None
unfolding clock_literal
tomorrow_is_not_read = refl

a_clock_of_tomorrow : meaning plant start (codes "clock 24:00:00") ≡ Wrong 1
a_clock_of_tomorrow =
    clock_none plant start _ (codes "24:00:00")
    (two (codes "clock") (codes "24:00:00") (word_by 99 (codes "lock") refl refl) (λ e. cc) refl refl (omega arith))
    (λ time is.
    let none = tomorrow_is_not_read in let some = reads_time (codes "24:00:00") time is in let no : ⊥ = cc in no)

-- 400,000 hours are more than 2^40 milliseconds
hours_are_read : span_literal is_blank (codes "400000HRS") ≡ Some (pos 1440000000000)
unfolding span_literal
hours_are_read = refl

a_long_time : meaning plant start (codes "value 2 400000HRS") ≡ Wrong 4
a_long_time =
    value_long plant start _ (codes "2") (codes "400000HRS")
    (says_value (codes "400000HRS") (λ e. cc) refl refl (omega arith)) 2 3 (was_number (codes "2") 2 refl) (
      pos 1440000000000,
      was_length (codes "400000HRS") (pos 1440000000000) hours_are_read,
      λ fits. let high = fits.high in omega (arith, high),
    ) input

no_such_input : meaning plant start (codes "value 3 75") ≡ Wrong 2
no_such_input =
    value_none plant start (codes "value 3 75") (codes "3") (codes "75")
    (three (codes "value") (codes "3") (codes "75") (word_by 118 (codes "alue") refl refl) (λ e. cc) (λ e. cc) refl refl
    refl (omega arith)) 3 (was_number (codes "3") 3 refl)
    (inl (Fixed 31 (pos 75), (inl (75, was_number (codes "75") 75 refl, refl), refl)))
    (none_by _ _ (input_decides 3) plant.devices refl)

nothing_is_read : literal (codes "x") ≡ None
unfolding clock_literal span_literal
nothing_is_read = refl

a_value_of_nothing : meaning plant start (codes "value 2 x") ≡ Wrong 1
a_value_of_nothing =
    value_no_literal plant start _ (codes "2") (codes "x") (says_value (codes "x") (λ e. cc) refl refl (omega arith))
    (λ is. some_literal (codes "x") is nothing_is_read)

-- apostrophes with nothing between them are no characters
nothing_between : (text : List ℕ) → IsText (codes "''") text → text ≡ []
nothing_between text is = let read = text_is (codes "''") text is in let same : [] ≡ text = cc in sym same

no_characters : meaning plant start (codes "chars 2 ''") ≡ Wrong 1
no_characters =
    chars_no_text plant start _ (codes "2") (codes "''")
    (three (codes "chars") (codes "2") (codes "''") (word_by 99 (codes "hars") refl refl) (λ e. cc) (λ e. cc) refl refl
    refl (omega arith)) nothing_between

-- FORMS THAT LINES DON'T HAVE

-- a word and `x`
says_x : (byte : ℕ) (word : List ℕ) → list_all (λ byte. not (is_blank byte)) (byte ∷ word) ≡ true →
    (byte == 35) ≡ false → length word ≤ 100 →
    Says (byte ∷ word ++ codes " x") (byte ∷ word) (codes "x")
says_x byte word solid other short =
    two (byte ∷ word) (codes "x") (word_by byte word solid other) (λ e. cc) refl refl
    (by word short)
  where
    by : (word : List ℕ) → length word ≤ 100 → length (byte ∷ word ++ codes " x") ≤ 1024
    by word short = let count = length-append word (codes " x") in omega (arith, count, short)

x_is_no_number : IsNoNumber (codes "x")
x_is_no_number = no_number_by (codes "x") refl

an_interrupt_of_nothing : meaning plant start (codes "irpt x") ≡ Wrong 1
an_interrupt_of_nothing =
    irpt_no_number plant start _ (codes "x") (says_x 105 (codes "rpt") refl refl (omega arith)) x_is_no_number

a_tick_of_nothing : meaning plant start (codes "tick x") ≡ Wrong 1
a_tick_of_nothing =
    tick_none plant start _ (codes "x") (says_x 116 (codes "ick") refl refl (omega arith)) x_is_no_number

a_state_of_something : meaning plant start (codes "state x") ≡ Wrong 1
a_state_of_something =
    state_none plant start _ (codes "x") (says_x 115 (codes "tate") refl refl (omega arith)) (λ e. cc)

a_turn_of_no_name : meaning plant start (codes "turn 1a") ≡ Wrong 1
a_turn_of_no_name =
    turn_no_name plant start _ (codes "1a")
    (two (codes "turn") (codes "1a") (word_by 116 (codes "urn") refl refl) (λ e. cc) refl refl (omega arith)) refl

apart : (word other : List ℕ) → bytes_eq word other ≡ false → word ≢ other
apart word other e same = false≢true (sym e ∙ (bytes_eq-Decides word other).1 same)

another_word : meaning plant start (codes "walk x") ≡ Wrong 1
another_word =
    other_none plant start _ (codes "walk") (codes "x") (says_x 119 (codes "alk") refl refl (omega arith))
    (record {
      clock = apart (codes "walk") (codes "clock") refl;
      run = apart (codes "walk") (codes "run") refl;
      tick = apart (codes "walk") (codes "tick") refl;
      pass = apart (codes "walk") (codes "pass") refl;
      irpt = apart (codes "walk") (codes "irpt") refl;
      chars = apart (codes "walk") (codes "chars") refl;
      line = apart (codes "walk") (codes "line") refl;
      value = apart (codes "walk") (codes "value") refl;
      turn = apart (codes "walk") (codes "turn") refl;
      state = apart (codes "walk") (codes "state") refl;
    })

a_missing_part : meaning plant start (codes "pass x") ≡ Wrong 1
a_missing_part =
    part_missing plant start _ (codes "pass") (codes "x") (inl refl)
    (says_x 112 (codes "ass") refl refl (omega arith)) (solid_by (codes "x") refl)

-- NUMBERS OF MILLISECONDS

says_tick : (digits : List ℕ) → digits ≢ [] → list_all (λ byte. not (is_blank byte)) digits ≡ true →
    list_all (λ byte. not (byte == 13)) digits ≡ true → length digits ≤ 100 →
    Says (codes "tick " ++ digits) (codes "tick") digits
says_tick digits some solid no_return short =
    two (codes "tick") digits (word_by 116 (codes "ick") refl refl) some solid no_return (omega (arith, short))

five_milliseconds : meaning plant start (codes "tick 5") ≡ Item (entry.Tick 5)
five_milliseconds =
    tick_is plant start _ (codes "5") 5 (says_tick (codes "5") (λ e. cc) refl refl (omega arith))
    (was_number (codes "5") 5 refl) (omega arith)

a_tick_to_the_last_moment : meaning plant late (codes "tick 1") ≡ Item (entry.Tick 1)
a_tick_to_the_last_moment =
    tick_is plant late _ (codes "1") 1 (says_tick (codes "1") (λ e. cc) refl refl (omega arith))
    (was_number (codes "1") 1 refl) (omega arith)

a_tick_too_far : meaning plant late (codes "tick 2") ≡ Wrong 3
a_tick_too_far =
    tick_late plant late _ (codes "2") 2 (says_tick (codes "2") (λ e. cc) refl refl (omega arith))
    (was_number (codes "2") 2 refl) (omega arith)

a_pass_without_times : meaning plant start (codes "pass x 1") ≡ Wrong 1
a_pass_without_times =
    pass_no_times plant start _ (codes "x") (codes "1")
    (three (codes "pass") (codes "x") (codes "1") (word_by 112 (codes "ass") refl refl) (λ e. cc) (λ e. cc) refl refl
    refl (omega arith)) x_is_no_number

a_pass_without_picks : meaning plant start (codes "pass 1 x") ≡ Wrong 1
a_pass_without_picks =
    pass_no_picks plant start _ (codes "1") (codes "x")
    (three (codes "pass") (codes "1") (codes "x") (word_by 112 (codes "ass") refl refl) (λ e. cc) (λ e. cc) refl refl
    refl (omega arith)) x_is_no_number

-- TERMINALS AND INPUTS

characters_for_x : meaning plant start (codes "chars x 'a'") ≡ Wrong 1
characters_for_x =
    chars_no_number plant start _ (codes "x") (codes "'a'")
    (three (codes "chars") (codes "x") (codes "'a'") (word_by 99 (codes "hars") refl refl) (λ e. cc) (λ e. cc) refl refl
    refl (omega arith)) x_is_no_number

says_line : (second text : List ℕ) → second ≢ [] → text ≢ [] →
    list_all (λ byte. not (is_blank byte)) second ≡ true → list_all (λ byte. not (is_blank byte)) text ≡ true →
    list_all (λ byte. not (byte == 13)) text ≡ true → length (codes "line" ++ 32 ∷ (second ++ 32 ∷ text)) ≤ 1024 →
    SaysMore (codes "line" ++ 32 ∷ (second ++ 32 ∷ text)) (codes "line") second text
says_line second text some more first solid no_return short =
    three (codes "line") second text (word_by 108 (codes "ine") refl refl) some more first solid no_return short

-- the terminal with the number 1 is one of direction OUT, and none has the number 3
a_line_for_nobody : meaning plant start (codes "line 1 'x'") ≡ Wrong 2
a_line_for_nobody =
    line_none plant start _ (codes "1") (codes "'x'")
    (says_line (codes "1") (codes "'x'") (λ e. cc) (λ e. cc) refl refl refl (omega arith)) (codes "x") 1
    (was_number (codes "1") 1 refl) (was_text (codes "'x'") (codes "x") refl)
    (none_by _ _ (readable_decides 1) plant.devices refl)

a_line_for_no_terminal : meaning plant start (codes "line 3 'x'") ≡ Wrong 2
a_line_for_no_terminal =
    line_none plant start _ (codes "3") (codes "'x'")
    (says_line (codes "3") (codes "'x'") (λ e. cc) (λ e. cc) refl refl refl (omega arith)) (codes "x") 3
    (was_number (codes "3") 3 refl) (was_text (codes "'x'") (codes "x") refl)
    (none_by _ _ (readable_decides 3) plant.devices refl)

a_line_for_x : meaning plant start (codes "line x 'a'") ≡ Wrong 1
a_line_for_x =
    line_no_number plant start _ (codes "x") (codes "'a'")
    (says_line (codes "x") (codes "'a'") (λ e. cc) (λ e. cc) refl refl refl (omega arith)) x_is_no_number

five_is_no_text : (text : List ℕ) → IsText (codes "5") text → ⊥
five_is_no_text text is = let read = text_is (codes "5") text is in let no : ⊥ = cc in no

a_line_of_no_text : meaning plant start (codes "line 1 5") ≡ Wrong 1
a_line_of_no_text =
    line_no_text plant start _ (codes "1") (codes "5")
    (says_line (codes "1") (codes "5") (λ e. cc) (λ e. cc) refl refl refl (omega arith)) five_is_no_text

a_value_for_x : meaning plant start (codes "value x 1") ≡ Wrong 1
a_value_for_x =
    value_no_number plant start _ (codes "x") (codes "1")
    (three (codes "value") (codes "x") (codes "1") (word_by 118 (codes "alue") refl refl) (λ e. cc) (λ e. cc) refl refl
    refl (omega arith)) x_is_no_number

-- BLANKS, TABS AND BYTES 13

begins_by : (first : ℕ) (more : List ℕ) → is_blank first ≡ false → (byte : ℕ) (rest : List ℕ) →
    first ∷ more ≡ byte ∷ rest → is_blank byte ≡ false
begins_by first more is byte rest e = let same : first ≡ byte = cc in subst (λ b. is_blank b ≡ false) same is

no_comment : (first : ℕ) (more : List ℕ) → is_blank first ≡ false → (first == 35) ≡ false →
    IsComment (first ∷ more) → ⊥
no_comment first more solid other is = by is.front is.is_gap is.spelled
  where
    by : (front : List ℕ) → IsGap front → first ∷ more ≡ front ++ 35 ∷ is.rest → ⊥
    by [] gap e = let same : first ≡ 35 = cc in false≢true (sym other ∙ ap (λ b. b == 35) same)
    by (b ∷ front) gap e = let same : first ≡ b = cc in false≢true (sym solid ∙ ap is_blank same ∙ gap.0)

-- a blank and a tab in front, a tab and a blank behind `pass`, two blanks behind 1, and a tab at the end
abbrev spaced : List ℕ
spaced = 32 ∷ 9 ∷ (codes "pass" ++ 9 ∷ 32 ∷ (codes "1" ++ 32 ∷ 32 ∷ (codes "20" ++ 9 ∷ [])))

spaced_says : SaysMore spaced (codes "pass") (codes "1") (codes "20")
spaced_says =
    record {
      parts = record {
        gap = 32 ∷ 32 ∷ [];
        says = record {
          front = 32 ∷ 9 ∷ [];
          gap = 9 ∷ 32 ∷ [];
          back = 9 ∷ [];
          spelled = refl;
          front_is_gap = (refl, (refl, tt));
          gap_is_gap = (refl, (refl, tt));
          back_is_gap = (refl, tt);
          is_word = word_by 112 (codes "ass") refl refl;
          is_bare = record {
            begins = begins_by 49 (32 ∷ 32 ∷ codes "20") refl;
            ends = λ front byte e.
                let last = last_behind (49 ∷ 32 ∷ 32 ∷ []) (codes "20") front byte (λ h. cc) e in
                (bare_by (codes "20") (λ h. cc) refl).ends last.0 byte last.1;
          };
          parted = λ e. cc;
        };
        is_gap = (refl, (refl, tt));
        parted = λ e. cc;
        solid = solid_by (codes "1") refl;
      };
      is_bare = bare_by (codes "20") (λ e. cc) refl;
      ends = no_return_by spaced refl;
      short = omega arith;
    }

a_pass_with_blanks : meaning plant start spaced ≡ Item (entry.Pass 1 20)
a_pass_with_blanks =
    pass_is plant start spaced (codes "1") (codes "20") spaced_says 1 20 (was_number (codes "1") 1 refl)
    (was_number (codes "20") 20 refl) (omega arith)

a_second_return : meaning plant start (codes "run 1" ++ 13 ∷ 13 ∷ []) ≡ Wrong 1
a_second_return = second_refused plant start (codes "run 1") (no_comment 114 (codes "un 1") refl refl)

hash : IsComment (codes "# noon")
hash = record { front = []; rest = codes " noon"; spelled = refl; is_gap = tt }

a_second_return_of_a_comment : meaning plant start (codes "# noon" ++ 13 ∷ 13 ∷ []) ≡ Blank
a_second_return_of_a_comment = second_skipped plant start (codes "# noon") hash (omega arith)

a_long_comment : meaning plant start (35 ∷ replicate 1023 120 ++ 13 ∷ 13 ∷ []) ≡ Wrong 1
a_long_comment =
    let count = length-replicate {A = ℕ} 1023 120 in
    second_long plant start (35 ∷ replicate 1023 120) (omega (arith, count))

-- THE LINE THAT IS REFUSED

noon_is_skipped : (reading : Reading) → meaning plant reading (codes "# noon") ≡ Blank
unfolding meaning
noon_is_skipped reading = refl

-- the comment is counted
a_second_line : (entries plant (codes "# noon" ∷ codes "run x" ∷ codes "run 1" ∷ [])).ending ≡ Bad 2 1
a_second_line =
    let before = codes "# noon" ∷ [] in
    refused_at plant before (codes "run x") (codes "run 1" ∷ []) 1
    (ap (λ means. (more_entries means 1 (entries_from plant (after start means) [])).ending) (noon_is_skipped start))
    (run_none plant (behind_lines plant start before) _ (codes "x") (says_x 114 (codes "un") refl refl (omega arith))
    x_is_no_number)
