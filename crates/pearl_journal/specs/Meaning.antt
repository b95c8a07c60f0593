-- What one line of a journal means.
use Rattle.std.specs.Prelude.{ℕ, Bool, true, List, [], ◌∷◌, Option, Some, None, Result, Ok, Err, length, slice_get, codes, nat_le, ◌==◌, if◌then◌else◌, bytes_eq}
use Rattle.std.specs.List.{position}
use Rattle.pearl_rules.specs.declared.entry.Entry.{Entry}
use Rattle.pearl_rules.specs.declared.entry.Entry.TheVariants as entry
use Rattle.pearl_rules.specs.declared.setup.Setup.{Setup}
use Rattle.pearl_rules.specs.Entries.{moment_after}
use Rattle.pearl_rules.specs.Literals.{clock_literal}
use Rattle.pearl_value.specs.Names.{is_id}
use Rattle.pearl_rules.specs.Tables.{input_kind}
use Rattle.pearl_journal.specs.declared.limits.TheConstants.{LAST_MOMENT, LINE_LIMIT, NO_FIT, NO_FORM, NOT_DECLARED, TOO_LATE}
use Rattle.pearl_journal.specs.declared.reading.Line.{Line}
use Rattle.pearl_journal.specs.declared.reading.Line.TheVariants.{Blank, Item, Wrong}
use Rattle.pearl_journal.specs.Lines.{without_return}
use Rattle.pearl_journal.specs.Devices.{is_input, is_interrupt, is_readable}
use Rattle.pearl_journal.specs.Readings.{Reading}
use Rattle.pearl_journal.specs.Texts.{quoted, text_literal}
use Rattle.pearl_journal.specs.Values.{coming_in, literal}
use Rattle.pearl_journal.specs.Words.{behind_blanks, before_blanks, first_word, behind_word, number, task_named}

-- FORMS

-- what comes of it if it is there, and else the refusal with this code
abbrev pub needing : {X : Type 0} → (code : ℕ) → Option X → (X → Result Entry ℕ) → Result Entry ℕ
needing code None entry = Err code
needing code (Some x) entry = entry x

-- `clock C`, which is only the first entry
abbrev pub clock_entry : (is_first : Bool) → List ℕ → Result Entry ℕ
clock_entry is_first rest =
    if is_first then needing NO_FORM (clock_literal rest) (λ time. Ok (entry.Clock time)) else Err NO_FORM

-- `run N`
abbrev pub run_entry : List ℕ → Result Entry ℕ
run_entry rest = needing NO_FORM (number rest) (λ picks. Ok (entry.Run picks))

-- `tick N`
abbrev pub tick_entry : List ℕ → Result Entry ℕ
tick_entry rest = needing NO_FORM (number rest) (λ milliseconds. Ok (entry.Tick milliseconds))

-- `pass D N`
abbrev pub pass_entry : List ℕ → Result Entry ℕ
pass_entry rest =
    needing NO_FORM (number (first_word rest)) (λ times.
    needing NO_FORM (number (behind_word rest)) (λ picks. Ok (entry.Pass times picks)))

-- `irpt K`: an interrupt has the number
abbrev pub irpt_entry : Setup → List ℕ → Result Entry ℕ
irpt_entry setup rest =
    needing NO_FORM (number rest) (λ k.
    needing NOT_DECLARED (position (is_interrupt k) setup.devices) (λ device. Ok (entry.Irpt device)))

-- a number and a text, the number that of a terminal at which bytes can come in
abbrev pub terminal_entry : Setup → List ℕ → Option (List ℕ) → (ℕ → List ℕ → Entry) → Result Entry ℕ
terminal_entry setup word text form =
    needing NO_FORM (number word) (λ k.
    needing NO_FORM text (λ text.
    needing NOT_DECLARED (position (is_readable k) setup.devices) (λ device. Ok (form device text))))

-- `chars K 'text'`
abbrev pub chars_entry : Setup → List ℕ → Result Entry ℕ
chars_entry setup rest =
    terminal_entry setup (first_word rest) (text_literal (behind_word rest)) (λ device text. entry.Chars device (record { items = text }))

-- `line K 'text'`: the text may be empty
abbrev pub line_entry : Setup → List ℕ → Result Entry ℕ
line_entry setup rest =
    terminal_entry setup (first_word rest) (quoted (behind_word rest)) (λ device text. entry.Line device (record { items = text }))

-- `value K V`: an input has the number, and what the literal says can come in there
abbrev pub value_entry : Setup → List ℕ → Result Entry ℕ
value_entry setup rest =
    needing NO_FORM (number (first_word rest)) (λ k.
    needing NO_FORM (literal (behind_word rest)) (λ spelled.
    needing NOT_DECLARED (position (is_input k) setup.devices) (λ device.
    needing NO_FIT (coming_in (input_kind (slice_get setup.devices device)) spelled) (λ x. Ok (entry.Value device x)))))

-- `turn NAME`: a name has the letters and the length of an id, and is that of a task
abbrev pub turn_entry : Setup → List ℕ → Result Entry ℕ
turn_entry setup rest =
    if is_id rest then needing NOT_DECLARED (task_named setup.tasks rest) (λ task. Ok (entry.Turn task)) else Err NO_FORM

-- `state`
abbrev pub state_entry : List ℕ → Result Entry ℕ
state_entry [] = Ok entry.State
state_entry (byte ∷ bytes) = Err NO_FORM

-- THE FORM THAT A LINE WITH THIS FIRST WORD HAS, AND THIS REST

abbrev pub task_form : Setup → (word rest : List ℕ) → Result Entry ℕ
task_form setup word rest =
    if bytes_eq word (codes "turn") then turn_entry setup rest else (
    if bytes_eq word (codes "state") then state_entry rest else Err NO_FORM)

-- or one of those before
abbrev pub arriving_form : Setup → (word rest : List ℕ) → Result Entry ℕ
arriving_form setup word rest =
    if bytes_eq word (codes "irpt") then irpt_entry setup rest else (
    if bytes_eq word (codes "chars") then chars_entry setup rest else (
    if bytes_eq word (codes "line") then line_entry setup rest else (
    if bytes_eq word (codes "value") then value_entry setup rest else task_form setup word rest)))

-- or one of those before
abbrev pub form_of : Setup → (is_first : Bool) → (word rest : List ℕ) → Result Entry ℕ
form_of setup is_first word rest =
    if bytes_eq word (codes "clock") then clock_entry is_first rest else (
    if bytes_eq word (codes "run") then run_entry rest else (
    if bytes_eq word (codes "tick") then tick_entry rest else (
    if bytes_eq word (codes "pass") then pass_entry rest else arriving_form setup word rest)))

-- ENTRIES

-- an entry leads past no moment but the last
abbrev pub in_time : (moment : ℕ) → Result Entry ℕ → Result Entry ℕ
in_time moment (Err code) = Err code
in_time moment (Ok entry) = if nat_le (moment_after moment entry) LAST_MOMENT then Ok entry else Err TOO_LATE

-- the entry of a line, or the code of its refusal: that of its form comes first
abbrev pub entry_of : Setup → Reading → (word rest : List ℕ) → Result Entry ℕ
entry_of setup reading word rest = in_time reading.moment (form_of setup reading.is_first word rest)

abbrev pub line_of : Result Entry ℕ → Line
line_of (Ok entry) = Item entry
line_of (Err code) = Wrong code

-- an empty text is skipped, and one that begins with `#`
abbrev pub is_skipped : List ℕ → Bool
is_skipped [] = true
is_skipped (byte ∷ bytes) = byte == 35

-- what a text without blanks at its ends means
abbrev pub text_meaning : Setup → Reading → List ℕ → Line
text_meaning setup reading text =
    if is_skipped text then Blank else line_of (entry_of setup reading (first_word text) (behind_word text))

-- a line has no more bytes than the limit
abbrev pub meaning_within : Setup → Reading → List ℕ → Line
meaning_within setup reading line =
    if nat_le (length line) LINE_LIMIT then text_meaning setup reading (before_blanks (behind_blanks line)) else Wrong NO_FORM

-- what a line means to one who has read so far
unfoldable pub meaning : Setup → Reading → List ℕ → Line
meaning setup reading line = meaning_within setup reading (without_return line)
