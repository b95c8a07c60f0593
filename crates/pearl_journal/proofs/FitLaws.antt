-- An accepted entry fits the tables at the moment at which it is read.
use Rattle.std.proofs.Common.{◌≡◌, ◌<◌, ◌≤◌, ◌+◌, ◌^◌, ℕ, List, [], ◌∷◌, Bool, true, false, length, get_or, refl, nat_lt, subst, sym}
use Rattle.std.proofs.lemmas.Bool.{leb-true, ltb-true}
use Rattle.std.proofs.lemmas.List.Quantifiers.{position-Some}
use Rattle.std.proofs.lemmas.Option.{slice_get-get_or}
use Rattle.std.specs.Prelude.{Option, Some, None, Result, Ok, Err, IfSome, IfOk, codes, bytes_eq, nat_le, slice_get, ◌&&◌, ◌==◌, if◌then◌else◌}
use Rattle.std.specs.List.{position, position_or_len}
use Rattle.std.specs.Str.{all_ascii_digits}
use Rattle.std.specs.Str.Parse.{digits_value}
use Rattle.pearl_value.specs.declared.cell.Cell.{Cell}
use Rattle.pearl_rules.specs.declared.entry.Entry.{Entry}
use Rattle.pearl_rules.specs.declared.entry.Entry.TheVariants as entry
use Rattle.pearl_value.specs.declared.device.Device.{Device}
use Rattle.pearl_value.specs.declared.device.Device.TheVariants as device
use Rattle.pearl_value.specs.declared.device.Direction.{Direction}
use Rattle.pearl_value.specs.declared.device.Direction.TheVariants as direction
use Rattle.pearl_rules.specs.declared.setup.Setup.{Setup}
use Rattle.pearl_rules.specs.declared.setup.TaskEntry.{TaskEntry}
use Rattle.pearl_rules.specs.Entries.{AreFitting, EntryFits, moment_after}
use Rattle.pearl_rules.specs.Literals.{clock_literal}
use Rattle.pearl_value.specs.Names.{is_id}
use Rattle.pearl_rules.specs.Tables.{input_kind, IsInterrupt, IsReadable, Reads}
use Rattle.pearl_rules.proofs.Offered.{clock_below}
use Rattle.pearl_journal.specs.declared.limits.TheConstants.{LAST_MOMENT, LINE_LIMIT, NO_FIT, NO_FORM, NOT_DECLARED, TOO_LATE}
use Rattle.pearl_journal.specs.declared.reading.Line.{Line}
use Rattle.pearl_journal.specs.declared.reading.Line.TheVariants.{Blank, Item, Wrong}
use Rattle.pearl_journal.specs.Devices.{is_input, is_interrupt, is_readable, reads}
use Rattle.pearl_journal.specs.Lines.{without_return}
use Rattle.pearl_journal.specs.Words.{behind_blanks, before_blanks, first_word, behind_word, limited, number, task_named}
use Rattle.pearl_journal.specs.Readings.{Reading}
use Rattle.pearl_journal.specs.Meaning.{arriving_form, chars_entry, clock_entry, entry_of, form_of, in_time, irpt_entry, is_skipped, line_entry, line_of, meaning, needing, pass_entry, run_entry, state_entry, task_form, terminal_entry, text_meaning, tick_entry, turn_entry, value_entry}
use Rattle.pearl_journal.specs.Texts.{quoted, text_literal}
use Rattle.pearl_journal.specs.declared.literals.Literal.{Literal}
use Rattle.pearl_journal.specs.Values.{coming_in, literal}
use Rattle.pearl_journal.proofs.ValueFits.{LiteralIs, coming_in-fits, literal-is}
use Rattle.pearl_journal.proofs.TextFits.{Printed, quoted-printed, text_literal-printed}
use Rattle.pearl_journal.specs.Entries.{Entries, IfItem, after, entries_from, more_entries}

some_if : (test : Bool) (n : ℕ) (P : ℕ → Type 0) → (test ≡ true → P n) → IfSome (if test then Some n else None) P
some_if true n P h = h refl
some_if false n P h = tt

either_some : (test : Bool) (o : Option ℕ) (P : ℕ → Type 0) → IfSome o P → IfSome (if test then o else None) P
either_some true o P h = h
either_some false o P h = tt

-- a number is below 2^63
pub number-below : (text : List ℕ) → IfSome (number text) (λ n. n < 2 ^ 63)
number-below [] = tt
number-below (byte ∷ bytes) =
    let n = digits_value 10 (byte ∷ bytes) in
    either_some (all_ascii_digits (byte ∷ bytes)) (limited n) (λ m. m < 2 ^ 63) (some_if (nat_lt n (2 ^ 63)) n (λ m. m < 2 ^ 63) (ltb-true n (2 ^ 63)))

-- the task of a name is one of the tasks
pub task_named-within : (tasks : List TaskEntry) (name : List ℕ) → IfSome (task_named tasks name) (λ task. task < length tasks)
task_named-within tasks name =
    let place = position_or_len (λ (task : TaskEntry). bytes_eq task.name.items name) tasks in
    some_if (nat_lt place (length tasks)) place (λ task. task < length tasks) (ltb-true place (length tasks))

-- the first device that is so is one of the devices, and is so
found_device : (is_it : Device → Bool) (devices : List Device) (P : Option Device → Type 0) → ((device : Device) → is_it device ≡ true → P (Some device)) → (place : ℕ) →
    position is_it devices ≡ Some place → P (slice_get devices place)
found_device is_it devices P sure place e =
    let h = position-Some is_it devices place (device.Interrupt 0) e in
    subst P (sym (slice_get-get_or devices place (device.Interrupt 0) h.0)) (sure (get_or devices place (device.Interrupt 0)) h.1)

interrupt_is : (k : ℕ) (device : Device) → is_interrupt k device ≡ true → IsInterrupt (Some device)
interrupt_is k (device.Interrupt number) h = tt
interrupt_is k (device.Terminal number direction) h = cc
interrupt_is k (device.Input number kind) h = cc
interrupt_is k (device.Output number kind) h = cc

reads_is : (of : Direction) → reads of ≡ true → Reads of
reads_is direction.In h = tt
reads_is direction.Out h = cc
reads_is direction.InOut h = tt

both_true : (a b : Bool) → a && b ≡ true → b ≡ true
both_true true b h = h
both_true false b h = cc

readable_is : (k : ℕ) (device : Device) → is_readable k device ≡ true → IsReadable (Some device)
readable_is k (device.Interrupt number) h = cc
readable_is k (device.Terminal number of) h = reads_is of (both_true (number == k) (reads of) h)
readable_is k (device.Input number kind) h = cc
readable_is k (device.Output number kind) h = cc

-- FORMS

-- what has to hold of an entry apart from the moment
abbrev pub FormFits : Setup → Entry → Type 0
FormFits setup (entry.Tick milliseconds) = Unit {0}
FormFits setup (entry.Pass times picks) = picks < 2 ^ 63
FormFits setup (entry.Clock time) = EntryFits setup 0 (entry.Clock time)
FormFits setup (entry.Run picks) = EntryFits setup 0 (entry.Run picks)
FormFits setup (entry.Irpt device) = EntryFits setup 0 (entry.Irpt device)
FormFits setup (entry.Chars device text) = EntryFits setup 0 (entry.Chars device text)
FormFits setup (entry.Line device text) = EntryFits setup 0 (entry.Line device text)
FormFits setup (entry.Value device x) = EntryFits setup 0 (entry.Value device x)
FormFits setup (entry.Turn task) = EntryFits setup 0 (entry.Turn task)
FormFits setup entry.State = Unit {0}

-- what is there is so
needing-fits : {X : Type 0} (code : ℕ) (o : Option X) (form : X → Result Entry ℕ) (P : Entry → Type 0) → ((x : X) → o ≡ Some x → IfOk (form x) P) →
    IfOk (needing code o form) P
needing-fits code None form P h = tt
needing-fits code (Some x) form P h = h x refl

either_ok : (test : Bool) (r s : Result Entry ℕ) (P : Entry → Type 0) → IfOk r P → IfOk s P → IfOk (if test then r else s) P
either_ok true r s P h k = h
either_ok false r s P h k = k

is_some : {X : Type 0} (o : Option X) (P : X → Type 0) → IfSome o P → (x : X) → o ≡ Some x → P x
is_some o P h x e = subst (λ p. IfSome p P) e h

clock_entry-fits : (setup : Setup) (is_first : Bool) (rest : List ℕ) → IfOk (clock_entry is_first rest) (FormFits setup)
clock_entry-fits setup is_first rest =
    either_ok is_first (needing NO_FORM (clock_literal rest) (λ time. Ok (entry.Clock time))) (Err NO_FORM) (FormFits setup)
    (needing-fits NO_FORM (clock_literal rest) (λ time. Ok (entry.Clock time)) (FormFits setup)
    (is_some (clock_literal rest) (λ n. n < 86400000) (clock_below rest))) tt

run_entry-fits : (setup : Setup) (rest : List ℕ) → IfOk (run_entry rest) (FormFits setup)
run_entry-fits setup rest =
    needing-fits NO_FORM (number rest) (λ picks. Ok (entry.Run picks)) (FormFits setup) (is_some (number rest) (λ n. n < 2 ^ 63) (number-below rest))

tick_entry-fits : (setup : Setup) (rest : List ℕ) → IfOk (tick_entry rest) (FormFits setup)
tick_entry-fits setup rest = needing-fits NO_FORM (number rest) (λ n. Ok (entry.Tick n)) (FormFits setup) (λ n e. tt)

pass_entry-fits : (setup : Setup) (rest : List ℕ) → IfOk (pass_entry rest) (FormFits setup)
pass_entry-fits setup rest =
    let picks = number (behind_word rest) in
    let with_picks : ℕ → Result Entry ℕ = λ times. needing NO_FORM picks (λ n. Ok (entry.Pass times n)) in
    needing-fits NO_FORM (number (first_word rest)) with_picks (FormFits setup) (λ times e.
    needing-fits NO_FORM picks (λ n. Ok (entry.Pass times n)) (FormFits setup) (is_some picks (λ n. n < 2 ^ 63) (number-below (behind_word rest))))

irpt_entry-fits : (setup : Setup) (rest : List ℕ) → IfOk (irpt_entry setup rest) (FormFits setup)
irpt_entry-fits setup rest =
    let named : ℕ → Option ℕ = λ k. position (is_interrupt k) setup.devices in
    needing-fits NO_FORM (number rest) (λ k. needing NOT_DECLARED (named k) (λ device. Ok (entry.Irpt device))) (FormFits setup) (λ k e.
    needing-fits NOT_DECLARED (named k) (λ device. Ok (entry.Irpt device)) (FormFits setup)
    (found_device (is_interrupt k) setup.devices IsInterrupt (interrupt_is k)))

-- a form of a terminal and a text, where it fits with any such text
terminal_entry-fits : (setup : Setup) (word : List ℕ) (text : Option (List ℕ)) (form : ℕ → List ℕ → Entry) (P : Entry → Type 0) → IfSome text Printed →
    ((device : ℕ) (letters : List ℕ) → IsReadable (slice_get setup.devices device) → Printed letters → P (form device letters)) →
    IfOk (terminal_entry setup word text form) P
terminal_entry-fits setup word text form P printed fits =
    let named : ℕ → Option ℕ = λ k. position (is_readable k) setup.devices in
    let with_text : ℕ → List ℕ → Result Entry ℕ = λ k letters. needing NOT_DECLARED (named k) (λ device. Ok (form device letters)) in
    needing-fits NO_FORM (number word) (λ k. needing NO_FORM text (with_text k)) P (λ k e.
    needing-fits NO_FORM text (with_text k) P (λ letters is.
    needing-fits NOT_DECLARED (named k) (λ device. Ok (form device letters)) P (λ device at.
    fits device letters (found_device (is_readable k) setup.devices IsReadable (readable_is k) device at) (is_some text Printed printed letters is))))

chars_entry-fits : (setup : Setup) (rest : List ℕ) → IfOk (chars_entry setup rest) (FormFits setup)
chars_entry-fits setup rest =
    terminal_entry-fits setup (first_word rest) (text_literal (behind_word rest)) (λ device text. entry.Chars device (record { items = text })) (FormFits setup)
    (text_literal-printed (behind_word rest)) (λ device letters is printed. (is, printed))

line_entry-fits : (setup : Setup) (rest : List ℕ) → IfOk (line_entry setup rest) (FormFits setup)
line_entry-fits setup rest =
    terminal_entry-fits setup (first_word rest) (quoted (behind_word rest)) (λ device text. entry.Line device (record { items = text })) (FormFits setup)
    (quoted-printed (behind_word rest)) (λ device letters is printed. (is, printed))

value_entry-fits : (setup : Setup) (rest : List ℕ) → IfOk (value_entry setup rest) (FormFits setup)
value_entry-fits setup rest =
    let P : Entry → Type 0 = FormFits setup in
    let spelled = literal (behind_word rest) in
    let named : ℕ → Option ℕ = λ k. position (is_input k) setup.devices in
    let given : Literal → ℕ → Option Cell = λ l device. coming_in (input_kind (slice_get setup.devices device)) l in
    let at_device : Literal → ℕ → Result Entry ℕ = λ l device. needing NO_FIT (given l device) (λ x. Ok (entry.Value device x)) in
    let with_literal : ℕ → Literal → Result Entry ℕ = λ k l. needing NOT_DECLARED (named k) (at_device l) in
    needing-fits NO_FORM (number (first_word rest)) (λ k. needing NO_FORM spelled (with_literal k)) P (λ k e.
    needing-fits NO_FORM spelled (with_literal k) P (λ l is.
    needing-fits NOT_DECLARED (named k) (at_device l) P (λ device at.
    needing-fits NO_FIT (given l device) (λ x. Ok (entry.Value device x)) P
    (coming_in-fits (input_kind (slice_get setup.devices device)) l (is_some spelled LiteralIs (literal-is (behind_word rest)) l is)))))

turn_entry-fits : (setup : Setup) (rest : List ℕ) → IfOk (turn_entry setup rest) (FormFits setup)
turn_entry-fits setup rest =
    let named = task_named setup.tasks rest in
    let turn = needing NOT_DECLARED named (λ task. Ok (entry.Turn task)) in
    either_ok (is_id rest) turn (Err NO_FORM) (FormFits setup)
    (needing-fits NOT_DECLARED named (λ task. Ok (entry.Turn task)) (FormFits setup)
    (is_some named (λ task. task < length setup.tasks) (task_named-within setup.tasks rest))) tt

state_entry-fits : (setup : Setup) (rest : List ℕ) → IfOk (state_entry rest) (FormFits setup)
state_entry-fits setup [] = tt
state_entry-fits setup (byte ∷ bytes) = tt

task_form-fits : (setup : Setup) (word rest : List ℕ) → IfOk (task_form setup word rest) (FormFits setup)
task_form-fits setup word rest =
    let P : Entry → Type 0 = FormFits setup in
    let states = if bytes_eq word (codes "state") then state_entry rest else Err NO_FORM in
    either_ok (bytes_eq word (codes "turn")) (turn_entry setup rest) states P (turn_entry-fits setup rest) (
    either_ok (bytes_eq word (codes "state")) (state_entry rest) (Err NO_FORM) P (state_entry-fits setup rest) tt)

arriving_form-fits : (setup : Setup) (word rest : List ℕ) → IfOk (arriving_form setup word rest) (FormFits setup)
arriving_form-fits setup word rest =
    let P : Entry → Type 0 = FormFits setup in
    let tasks = task_form setup word rest in
    let values = if bytes_eq word (codes "value") then value_entry setup rest else tasks in
    let lines = if bytes_eq word (codes "line") then line_entry setup rest else values in
    let chars = if bytes_eq word (codes "chars") then chars_entry setup rest else lines in
    either_ok (bytes_eq word (codes "irpt")) (irpt_entry setup rest) chars P (irpt_entry-fits setup rest) (
    either_ok (bytes_eq word (codes "chars")) (chars_entry setup rest) lines P (chars_entry-fits setup rest) (
    either_ok (bytes_eq word (codes "line")) (line_entry setup rest) values P (line_entry-fits setup rest) (
    either_ok (bytes_eq word (codes "value")) (value_entry setup rest) tasks P (value_entry-fits setup rest) (task_form-fits setup word rest))))

form_of-fits : (setup : Setup) (is_first : Bool) (word rest : List ℕ) → IfOk (form_of setup is_first word rest) (FormFits setup)
form_of-fits setup is_first word rest =
    let P : Entry → Type 0 = FormFits setup in
    let arrives = arriving_form setup word rest in
    let passes = if bytes_eq word (codes "pass") then pass_entry rest else arrives in
    let ticks = if bytes_eq word (codes "tick") then tick_entry rest else passes in
    let runs = if bytes_eq word (codes "run") then run_entry rest else ticks in
    either_ok (bytes_eq word (codes "clock")) (clock_entry is_first rest) runs P (clock_entry-fits setup is_first rest) (
    either_ok (bytes_eq word (codes "run")) (run_entry rest) ticks P (run_entry-fits setup rest) (
    either_ok (bytes_eq word (codes "tick")) (tick_entry rest) passes P (tick_entry-fits setup rest) (
    either_ok (bytes_eq word (codes "pass")) (pass_entry rest) arrives P (pass_entry-fits setup rest) (arriving_form-fits setup word rest))))

-- ENTRIES

-- an entry of a form that leads past no moment but the last fits
timely : (setup : Setup) (moment : ℕ) (means : Entry) → FormFits setup means → moment_after moment means ≤ LAST_MOMENT → EntryFits setup moment means
timely setup moment (entry.Clock time) fits early = fits
timely setup moment (entry.Run picks) fits early = fits
timely setup moment (entry.Tick milliseconds) fits early = early
timely setup moment (entry.Pass times picks) fits early = (early, fits)
timely setup moment (entry.Irpt device) fits early = fits
timely setup moment (entry.Chars device text) fits early = fits
timely setup moment (entry.Line device text) fits early = fits
timely setup moment (entry.Value device x) fits early = fits
timely setup moment (entry.Turn task) fits early = fits
timely setup moment entry.State fits early = tt

ok_if : (test : Bool) (means : Entry) (code : ℕ) (P : Entry → Type 0) → (test ≡ true → P means) → IfOk (if test then Ok means else Err code) P
ok_if true means code P h = h refl
ok_if false means code P h = tt

in_time-fits : (setup : Setup) (moment : ℕ) (r : Result Entry ℕ) → IfOk r (FormFits setup) → IfOk (in_time moment r) (EntryFits setup moment)
in_time-fits setup moment (Err code) fits = tt
in_time-fits setup moment (Ok means) fits =
    ok_if (nat_le (moment_after moment means) LAST_MOMENT) means TOO_LATE (EntryFits setup moment)
    (λ early. timely setup moment means fits (leb-true (moment_after moment means) LAST_MOMENT early))

entry_of-fits : (setup : Setup) (reading : Reading) (word rest : List ℕ) → IfOk (entry_of setup reading word rest) (EntryFits setup reading.moment)
entry_of-fits setup reading word rest =
    in_time-fits setup reading.moment (form_of setup reading.is_first word rest) (form_of-fits setup reading.is_first word rest)

line_of-fits : (r : Result Entry ℕ) (P : Entry → Type 0) → IfOk r P → IfItem (line_of r) P
line_of-fits (Ok entry) P h = h
line_of-fits (Err code) P h = tt

either_item : (test : Bool) (l m : Line) (P : Entry → Type 0) → IfItem l P → IfItem m P → IfItem (if test then l else m) P
either_item true l m P h k = h
either_item false l m P h k = k

-- an accepted entry can come at the moment that is read
pub meaning-fits : (setup : Setup) (reading : Reading) (line : List ℕ) → IfItem (meaning setup reading line) (EntryFits setup reading.moment)
unfolding meaning
meaning-fits setup reading line =
    let P : Entry → Type 0 = EntryFits setup reading.moment in
    let text = before_blanks (behind_blanks (without_return line)) in
    let spelled = entry_of setup reading (first_word text) (behind_word text) in
    either_item (nat_le (length (without_return line)) LINE_LIMIT) (text_meaning setup reading text) (Wrong NO_FORM) P
    (either_item (is_skipped text) Blank (line_of spelled) P tt
    (line_of-fits spelled P (entry_of-fits setup reading (first_word text) (behind_word text))))
    tt

-- an entry that fits leads past no moment but the last
pub late_after : (setup : Setup) (moment : ℕ) (means : Entry) → moment ≤ LAST_MOMENT → EntryFits setup moment means → moment_after moment means ≤ LAST_MOMENT
late_after setup moment (entry.Clock time) late fits = late
late_after setup moment (entry.Run picks) late fits = late
late_after setup moment (entry.Tick milliseconds) late fits = fits
late_after setup moment (entry.Pass times picks) late fits = fits.0
late_after setup moment (entry.Irpt device) late fits = late
late_after setup moment (entry.Chars device text) late fits = late
late_after setup moment (entry.Line device text) late fits = late
late_after setup moment (entry.Value device value) late fits = late
late_after setup moment (entry.Turn task) late fits = late
late_after setup moment entry.State late fits = late

-- an accepted entry leads past no moment but the last
pub moment_after-late : (setup : Setup) (moment now : ℕ) (line : Line) (means : Entry) → line ≡ Item means → IfItem line (EntryFits setup now) →
    moment ≡ now → moment ≤ LAST_MOMENT → moment_after moment means ≤ LAST_MOMENT
moment_after-late setup moment now line means is fits same late =
    let fits_now : EntryFits setup now means = subst (λ l. IfItem l (EntryFits setup now)) is fits in
    late_after setup moment means late (subst (λ m. EntryFits setup m means) (sym same) fits_now)

more-fit : (setup : Setup) (moment : ℕ) (means : Line) (line : ℕ) (later : Entries) → IfItem means (EntryFits setup moment) → AreFitting setup later.accepted →
    AreFitting setup (more_entries means line later).accepted
more-fit setup moment Blank line later fits others = others
more-fit setup moment (Item entry) line later fits others = ((moment, fits), others)
more-fit setup moment (Wrong code) line later fits others = tt

-- the accepted entries of all lines fit
pub entries-fit : (setup : Setup) (reading : Reading) (lines : List (List ℕ)) → AreFitting setup (entries_from setup reading lines).accepted
entries-fit setup reading [] = tt
entries-fit setup reading (line ∷ lines) =
    let means = meaning setup reading line in
    more-fit setup reading.moment means (reading.lines + 1) (entries_from setup (after reading means) lines) (meaning-fits setup reading line)
    (entries-fit setup (after reading means) lines)
