-- In which order the codes of refusals are tried, and how late a moment may be.
use Rattle.std.proofs.Common.{◌≡◌, ◌≢◌, ◌≤◌, ◌<◌, ◌+◌, ◌^◌, ℕ, List, [], ◌∷◌, suc, ◌⊎◌, inl, inr, Bool, true, false, not, cond, map, length, nat_le, nat_lt, codes, bytes_eq, Option, Some, None, Result, Ok, Err, slice_get, refl, ap, ap₂, sym, ◌∙◌, subst, arith, le-leb}
use Rattle.std.proofs.lemmas.Bool.{cases_lt, lt-leb}
use Rattle.std.specs.List.{position, position_or_len}
use Rattle.pearl_rules.specs.declared.entry.Entry.{Entry}
use Rattle.pearl_rules.specs.declared.entry.Entry.TheVariants as entry
use Rattle.pearl_rules.specs.declared.setup.Setup.{Setup}
use Rattle.pearl_value.specs.declared.device.Device.{Device}
use Rattle.pearl_value.specs.declared.device.Device.TheVariants as device
use Rattle.pearl_rules.specs.Entries.{moment_after}
use Rattle.pearl_value.specs.Names.{is_id}
use Rattle.pearl_rules.specs.Tables.{input_kind}
use Rattle.pearl_rules.specs.Literals.{clock_literal}
use Rattle.pearl_journal.specs.declared.limits.TheConstants.{LAST_MOMENT, LINE_LIMIT}
use Rattle.pearl_journal.specs.declared.reading.Line.{Line}
use Rattle.pearl_journal.specs.declared.reading.Line.TheVariants.{Item, Wrong}
use Rattle.pearl_journal.specs.Devices.{is_input, is_interrupt, is_readable}
use Rattle.pearl_journal.specs.Lines.{without_return}
use Rattle.pearl_journal.specs.Readings.{Reading}
use Rattle.pearl_journal.specs.Texts.{quoted, text_literal}
use Rattle.pearl_journal.specs.Values.{coming_in, literal}
use Rattle.pearl_journal.specs.Words.{before_blanks, behind_blanks, behind_word, first_word, number, task_named}
use Rattle.pearl_journal.specs.Meaning.{needing, clock_entry, run_entry, tick_entry, pass_entry, irpt_entry, terminal_entry, value_entry, turn_entry, state_entry, task_form, arriving_form, form_of, in_time, line_of, is_skipped, meaning}
use Rattle.pearl_journal.specs.Laws.{EndsInNoReturn, NamesAlike, SaysWordAndText, of_any_kind}
use Rattle.pearl_journal.proofs.MeaningLaws.{blanks_free}

-- ONE CODE

-- where the one is refused with this code, so is the other
abbrev Keeps : (code : ℕ) → (x y : Result Entry ℕ) → Type 0
Keeps code x y = x ≡ Err code → y ≡ Err code

-- an entry is no refusal
entry_keeps : (code : ℕ) (e : Entry) (y : Result Entry ℕ) → Keeps code (Ok e) y
entry_keeps code e y h = let no : ⊥ = cc in absurd no

-- nor is another code this one
other_keeps : (code other : ℕ) (y : Result Entry ℕ) → other ≢ code → Keeps code (Err other) y
other_keeps code other y differ h = let same : other ≡ code = cc in absurd (differ same)

same_keeps : (code : ℕ) (x y : Result Entry ℕ) → x ≡ y → Keeps code x y
same_keeps code x y same h = sym same ∙ h

-- one of two
if_keeps : (code : ℕ) (b : Bool) (x y others other : Result Entry ℕ) → Keeps code x others → Keeps code y other →
    Keeps code (cond b x y) (cond b others other)
if_keeps code true x y others other first second = first
if_keeps code false x y others other first second = second

module _ {X : Type 0} (code needed : ℕ) where
  -- what both need
  need_keeps : (o : Option X) (f g : X → Result Entry ℕ) → ((x : X) → Keeps code (f x) (g x)) →
      Keeps code (needing needed o f) (needing needed o g)
  need_keeps None f g keeps h = h
  need_keeps (Some x) f g keeps h = keeps x h

  -- what is there or isn't on both sides, where what comes of it is never refused with the code
  need_alike : (o other : Option X) (f g : X → Result Entry ℕ) → o ≡ other →
      ((x : X) (y : Result Entry ℕ) → Keeps code (f x) y) →
      Keeps code (needing needed o f) (needing needed other g)
  need_alike None other f g same never h = ap (λ p. needing needed p g) (sym same) ∙ h
  need_alike (Some x) other f g same never h = never x (needing needed other g) h

  -- a need with another code
  need_other : (y : Result Entry ℕ) (o : Option X) (f : X → Result Entry ℕ) → needed ≢ code →
      ((x : X) (z : Result Entry ℕ) → Keeps code (f x) z) →
      Keeps code (needing needed o f) y
  need_other y None f differ never = other_keeps code needed y differ
  need_other y (Some x) f differ never = never x y

-- DEVICES OF OTHER KINDS

-- a test that doesn't ask for kinds of inputs
abbrev AsksNoKind : (Device → Bool) → Type 0
AsksNoKind test = (d : Device) → test (of_any_kind d) ≡ test d

place_of_any : (test : Device → Bool) → AsksNoKind test → (devices : List Device) →
    position_or_len test (map of_any_kind devices) ≡ position_or_len test devices
place_of_any test asks [] = refl
place_of_any test asks (d ∷ devices) = ap₂ (λ b n. cond (not b) (1 + n) 0) (asks d) (place_of_any test asks devices)

count_of_any : (devices : List Device) → length (map of_any_kind devices) ≡ length devices
count_of_any [] = refl
count_of_any (d ∷ devices) = ap suc (count_of_any devices)

found_of_any : (test : Device → Bool) → AsksNoKind test → (devices : List Device) →
    position test (map of_any_kind devices) ≡ position test devices
found_of_any test asks devices =
    ap₂ (λ n m. cond (nat_lt n m) (Some n) None) (place_of_any test asks devices) (count_of_any devices)

found_alike : (test : Device → Bool) → AsksNoKind test → (devices others : List Device) →
    map of_any_kind devices ≡ map of_any_kind others → position test devices ≡ position test others
found_alike test asks devices others same =
    sym (found_of_any test asks devices) ∙ ap (position test) same ∙ found_of_any test asks others

interrupt_asks : (k : ℕ) → AsksNoKind (is_interrupt k)
interrupt_asks k (device.Interrupt number) = refl
interrupt_asks k (device.Terminal number direction) = refl
interrupt_asks k (device.Input number kind) = refl
interrupt_asks k (device.Output number kind) = refl

readable_asks : (k : ℕ) → AsksNoKind (is_readable k)
readable_asks k (device.Interrupt number) = refl
readable_asks k (device.Terminal number direction) = refl
readable_asks k (device.Input number kind) = refl
readable_asks k (device.Output number kind) = refl

input_asks : (k : ℕ) → AsksNoKind (is_input k)
input_asks k (device.Interrupt number) = refl
input_asks k (device.Terminal number direction) = refl
input_asks k (device.Input number kind) = refl
input_asks k (device.Output number kind) = refl

-- FORMS

-- what is not in the grammar isn't whatever is declared
module _ (setup other : Setup) (rest : List ℕ) where
  irpt_form : Keeps 1 (irpt_entry setup rest) (irpt_entry other rest)
  irpt_form =
      need_keeps 1 1 (number rest) _ _ (λ k.
      need_other 1 2 _ (position (is_interrupt k) setup.devices) _ (λ e. cc) (λ d. entry_keeps 1 (entry.Irpt d)))

  terminal_form : (word : List ℕ) (text : Option (List ℕ)) (form : ℕ → List ℕ → Entry) →
      Keeps 1 (terminal_entry setup word text form) (terminal_entry other word text form)
  terminal_form word text form =
      need_keeps 1 1 (number word) _ _ (λ k.
      need_keeps 1 1 text _ _ (λ spelled.
      need_other 1 2 _ (position (is_readable k) setup.devices) _ (λ e. cc) (λ d. entry_keeps 1 (form d spelled))))

  value_form : Keeps 1 (value_entry setup rest) (value_entry other rest)
  value_form =
      need_keeps 1 1 (number (first_word rest)) _ _ (λ k.
      need_keeps 1 1 (literal (behind_word rest)) _ _ (λ spelled.
      need_other 1 2 _ (position (is_input k) setup.devices) _ (λ e. cc) (λ d y.
      need_other 1 4 y (coming_in (input_kind (slice_get setup.devices d)) spelled) _ (λ e. cc)
      (λ x. entry_keeps 1 (entry.Value d x)))))

  turn_form : Keeps 1 (turn_entry setup rest) (turn_entry other rest)
  turn_form =
      if_keeps 1 (is_id rest) _ _ _ _
      (need_other 1 2 _ (task_named setup.tasks rest) _ (λ e. cc) (λ t. entry_keeps 1 (entry.Turn t)))
      (same_keeps 1 _ _ refl)

-- what isn't declared isn't whatever kinds inputs have
module _ (setup other : Setup) (alike : NamesAlike setup other) (rest : List ℕ) where
  irpt_name : Keeps 2 (irpt_entry setup rest) (irpt_entry other rest)
  irpt_name =
      need_keeps 2 1 (number rest) _ _ (λ k.
      need_alike 2 2 _ _ _ _ (found_alike (is_interrupt k) (interrupt_asks k) setup.devices other.devices alike.devices)
      (λ d. entry_keeps 2 (entry.Irpt d)))

  terminal_name : (word : List ℕ) (text : Option (List ℕ)) (form : ℕ → List ℕ → Entry) →
      Keeps 2 (terminal_entry setup word text form) (terminal_entry other word text form)
  terminal_name word text form =
      need_keeps 2 1 (number word) _ _ (λ k.
      need_keeps 2 1 text _ _ (λ spelled.
      need_alike 2 2 _ _ _ _ (found_alike (is_readable k) (readable_asks k) setup.devices other.devices alike.devices)
      (λ d. entry_keeps 2 (form d spelled))))

  value_name : Keeps 2 (value_entry setup rest) (value_entry other rest)
  value_name =
      need_keeps 2 1 (number (first_word rest)) _ _ (λ k.
      need_keeps 2 1 (literal (behind_word rest)) _ _ (λ spelled.
      need_alike 2 2 _ _ _ _ (found_alike (is_input k) (input_asks k) setup.devices other.devices alike.devices) (λ d y.
      need_other 2 4 y (coming_in (input_kind (slice_get setup.devices d)) spelled) _ (λ e. cc)
      (λ x. entry_keeps 2 (entry.Value d x)))))

  turn_name : Keeps 2 (turn_entry setup rest) (turn_entry other rest)
  turn_name =
      if_keeps 2 (is_id rest) _ _ _ _
      (need_alike 2 2 _ _ _ _ (ap (λ tasks. task_named tasks rest) alike.tasks) (λ t. entry_keeps 2 (entry.Turn t)))
      (same_keeps 2 _ _ refl)

-- ALL FORMS

-- where the forms that ask the tables keep a code, all do
module _ (code : ℕ) (setup other : Setup) (is_first : Bool) (word rest : List ℕ)
    (irpt : Keeps code (irpt_entry setup rest) (irpt_entry other rest))
    (terminal : (w : List ℕ) (text : Option (List ℕ)) (form : ℕ → List ℕ → Entry) →
    Keeps code (terminal_entry setup w text form) (terminal_entry other w text form))
    (value : Keeps code (value_entry setup rest) (value_entry other rest))
    (turn : Keeps code (turn_entry setup rest) (turn_entry other rest)) where
  task_keeps : Keeps code (task_form setup word rest) (task_form other word rest)
  task_keeps =
      if_keeps code (bytes_eq word (codes "turn")) _ _ _ _ turn
      (same_keeps code _ _ refl)

  arriving_keeps : Keeps code (arriving_form setup word rest) (arriving_form other word rest)
  arriving_keeps =
      if_keeps code (bytes_eq word (codes "irpt")) _ _ _ _ irpt
      (if_keeps code (bytes_eq word (codes "chars")) _ _ _ _
      (terminal (first_word rest) (text_literal (behind_word rest)) (λ d text. entry.Chars d (record { items = text })))
      (if_keeps code (bytes_eq word (codes "line")) _ _ _ _
      (terminal (first_word rest) (quoted (behind_word rest)) (λ d text. entry.Line d (record { items = text })))
      (if_keeps code (bytes_eq word (codes "value")) _ _ _ _ value task_keeps)))

  form_keeps : Keeps code (form_of setup is_first word rest) (form_of other is_first word rest)
  form_keeps =
      if_keeps code (bytes_eq word (codes "clock")) _ _ _ _ (same_keeps code _ _ refl)
      (if_keeps code (bytes_eq word (codes "run")) _ _ _ _ (same_keeps code _ _ refl)
      (if_keeps code (bytes_eq word (codes "tick")) _ _ _ _ (same_keeps code _ _ refl)
      (if_keeps code (bytes_eq word (codes "pass")) _ _ _ _ (same_keeps code _ _ refl) arriving_keeps)))

-- LINES

-- the same of lines
abbrev LineKeeps : (code : ℕ) → (x y : Line) → Type 0
LineKeeps code x y = x ≡ Wrong code → y ≡ Wrong code

-- an entry that comes in time, and its refusal
time_keeps : (code moment later : ℕ) (x y : Result Entry ℕ) → code ≢ 3 → Keeps code x y →
    LineKeeps code (line_of (in_time moment x)) (line_of (in_time later y))
time_keeps code moment later (Err other) y differ keeps h =
    let same : Err other ≡ Err code = cc in ap (λ z. line_of (in_time later z)) (keeps same)
time_keeps code moment later (Ok e) y differ keeps h = by_test (nat_le (moment_after moment e) LAST_MOMENT) h
  where
    by_test : (b : Bool) → line_of (cond b (Ok e) (Err 3)) ≡ Wrong code → line_of (in_time later y) ≡ Wrong code
    by_test true is = let no : ⊥ = cc in absurd no
    by_test false is = let same : code ≡ 3 = cc in absurd (differ same)

line_if : (code : ℕ) (b : Bool) (x y others other : Line) → LineKeeps code x others → LineKeeps code y other →
    LineKeeps code (cond b x y) (cond b others other)
line_if code true x y others other first second = first
line_if code false x y others other first second = second

module _ (code : ℕ) (setup other : Setup) (reading later : Reading) (differ : code ≢ 3)
    (forms : (word rest : List ℕ) →
    Keeps code (form_of setup reading.is_first word rest) (form_of other later.is_first word rest)) where
  meaning_keeps : (line : List ℕ) → LineKeeps code (meaning setup reading line) (meaning other later line)
  unfolding meaning
  meaning_keeps line =
      let bytes = without_return line in
      let text = before_blanks (behind_blanks bytes) in
      line_if code (nat_le (length bytes) LINE_LIMIT) _ _ _ _
      (line_if code (is_skipped text) _ _ _ _ (λ h. h)
      (time_keeps code reading.moment later.moment (form_of setup reading.is_first (first_word text) (behind_word text))
      (form_of other later.is_first (first_word text) (behind_word text)) differ
      (forms (first_word text) (behind_word text))))
      (λ h. h)

pub form_is_first : (setup other : Setup) (reading later : Reading) (line : List ℕ) →
    reading.is_first ≡ later.is_first →
    meaning setup reading line ≡ Wrong 1 → meaning other later line ≡ Wrong 1
form_is_first setup other reading later line same =
    meaning_keeps 1 setup other reading later (λ e. cc)
    (λ word rest. subst (λ b. Keeps 1 (form_of setup reading.is_first word rest) (form_of other b word rest)) same
    (form_keeps 1 setup other reading.is_first word rest (irpt_form setup other rest) (terminal_form setup other rest)
    (value_form setup other rest) (turn_form setup other rest))) line

pub names_are_second : (setup other : Setup) (reading later : Reading) (line : List ℕ) → NamesAlike setup other →
    reading.is_first ≡ later.is_first → meaning setup reading line ≡ Wrong 2 → meaning other later line ≡ Wrong 2
names_are_second setup other reading later line alike same =
    meaning_keeps 2 setup other reading later (λ e. cc)
    (λ word rest. subst (λ b. Keeps 2 (form_of setup reading.is_first word rest) (form_of other b word rest)) same
    (form_keeps 2 setup other reading.is_first word rest (irpt_name setup other alike rest)
    (terminal_name setup other alike rest)
    (value_name setup other alike rest) (turn_name setup other alike rest))) line

pub time_is_last : (setup : Setup) (reading later : Reading) (line : List ℕ) (code : ℕ) → code ≢ 3 →
    reading.is_first ≡ later.is_first → meaning setup reading line ≡ Wrong code → meaning setup later line ≡ Wrong code
time_is_last setup reading later line code differ same =
    meaning_keeps code setup setup reading later differ
    (λ word rest. same_keeps code _ _ (ap (λ b. form_of setup b word rest) same)) line

-- NO OTHER CODES

-- it isn't refused with this code
abbrev Never : (code : ℕ) → Result Entry ℕ → Type 0
Never code x = (y : Result Entry ℕ) → Keeps code x y

if_never : (code : ℕ) (b : Bool) (x y : Result Entry ℕ) → Never code x → Never code y → Never code (cond b x y)
if_never code true x y first second = first
if_never code false x y first second = second

module _ (code : ℕ) (one : 1 ≢ code) (two : 2 ≢ code) (three : 3 ≢ code) (four : 4 ≢ code) (setup : Setup) where
  clock_never : (is_first : Bool) (rest : List ℕ) → Never code (clock_entry is_first rest)
  clock_never is_first rest =
      if_never code is_first _ _
      (λ y. need_other code 1 y (clock_literal rest) _ one (λ time. entry_keeps code (entry.Clock time)))
      (λ y. other_keeps code 1 y one)

  run_never : (rest : List ℕ) → Never code (run_entry rest)
  run_never rest y = need_other code 1 y (number rest) _ one (λ n. entry_keeps code (entry.Run n))

  tick_never : (rest : List ℕ) → Never code (tick_entry rest)
  tick_never rest y = need_other code 1 y (number rest) _ one (λ n. entry_keeps code (entry.Tick n))

  pass_never : (rest : List ℕ) → Never code (pass_entry rest)
  pass_never rest y =
      need_other code 1 y (number (first_word rest)) _ one (λ times z.
      need_other code 1 z (number (behind_word rest)) _ one (λ picks. entry_keeps code (entry.Pass times picks)))

  irpt_never : (rest : List ℕ) → Never code (irpt_entry setup rest)
  irpt_never rest y =
      need_other code 1 y (number rest) _ one (λ k z.
      need_other code 2 z (position (is_interrupt k) setup.devices) _ two (λ d. entry_keeps code (entry.Irpt d)))

  terminal_never : (word : List ℕ) (text : Option (List ℕ)) (form : ℕ → List ℕ → Entry) →
      Never code (terminal_entry setup word text form)
  terminal_never word text form y =
      need_other code 1 y (number word) _ one (λ k z.
      need_other code 1 z text _ one (λ spelled u.
      need_other code 2 u (position (is_readable k) setup.devices) _ two (λ d. entry_keeps code (form d spelled))))

  value_never : (rest : List ℕ) → Never code (value_entry setup rest)
  value_never rest y =
      need_other code 1 y (number (first_word rest)) _ one (λ k z.
      need_other code 1 z (literal (behind_word rest)) _ one (λ spelled u.
      need_other code 2 u (position (is_input k) setup.devices) _ two (λ d v.
      need_other code 4 v (coming_in (input_kind (slice_get setup.devices d)) spelled) _ four
      (λ x. entry_keeps code (entry.Value d x)))))

  turn_never : (rest : List ℕ) → Never code (turn_entry setup rest)
  turn_never rest =
      if_never code (is_id rest) _ _
      (λ y. need_other code 2 y (task_named setup.tasks rest) _ two (λ t. entry_keeps code (entry.Turn t)))
      (λ y. other_keeps code 1 y one)

  state_never : (rest : List ℕ) → Never code (state_entry rest)
  state_never [] y = entry_keeps code entry.State y
  state_never (byte ∷ rest) y = other_keeps code 1 y one

  form_never : (is_first : Bool) (word rest : List ℕ) → Never code (form_of setup is_first word rest)
  form_never is_first word rest =
      if_never code (bytes_eq word (codes "clock")) _ _ (clock_never is_first rest)
      (if_never code (bytes_eq word (codes "run")) _ _ (run_never rest)
      (if_never code (bytes_eq word (codes "tick")) _ _ (tick_never rest)
      (if_never code (bytes_eq word (codes "pass")) _ _ (pass_never rest)
      (if_never code (bytes_eq word (codes "irpt")) _ _ (irpt_never rest)
      (if_never code (bytes_eq word (codes "chars")) _ _
      (terminal_never (first_word rest) (text_literal (behind_word rest))
      (λ d text. entry.Chars d (record { items = text })))
      (if_never code (bytes_eq word (codes "line")) _ _
      (terminal_never (first_word rest) (quoted (behind_word rest)) (λ d text. entry.Line d (record { items = text })))
      (if_never code (bytes_eq word (codes "value")) _ _ (value_never rest)
      (if_never code (bytes_eq word (codes "turn")) _ _ (turn_never rest)
      (if_never code (bytes_eq word (codes "state")) _ _ (state_never rest) (λ y. other_keeps code 1 y one))))))))))

  time_never : (moment : ℕ) (x : Result Entry ℕ) → Never code x → line_of (in_time moment x) ≡ Wrong code → ⊥
  time_never moment (Err other) never h =
      let same : Err other ≡ Err code = cc in
      let no : Ok entry.State ≡ Err code = never (Ok entry.State) same in
      let none : ⊥ = cc in
      none
  time_never moment (Ok e) never h = by_test (nat_le (moment_after moment e) LAST_MOMENT) h
    where
      by_test : (b : Bool) → line_of (cond b (Ok e) (Err 3)) ≡ Wrong code → ⊥
      by_test true is = cc
      by_test false is = let same : 3 ≡ code = cc in three same

  lines_never : (b : Bool) (x y : Line) → (x ≡ Wrong code → ⊥) → (y ≡ Wrong code → ⊥) → cond b x y ≡ Wrong code → ⊥
  lines_never true x y first second = first
  lines_never false x y first second = second

  meaning_never : (reading : Reading) (line : List ℕ) → meaning setup reading line ≡ Wrong code → ⊥
  unfolding meaning
  meaning_never reading line =
      let bytes = without_return line in
      let text = before_blanks (behind_blanks bytes) in
      lines_never (nat_le (length bytes) LINE_LIMIT) _ _
      (lines_never (is_skipped text) _ _ (λ e. cc)
      (time_never reading.moment (form_of setup reading.is_first (first_word text) (behind_word text))
      (form_never reading.is_first (first_word text) (behind_word text))))
      (λ e. let same : 1 ≡ code = cc in one same)

pub codes_are_four : (setup : Setup) (reading : Reading) (line : List ℕ) (code : ℕ) →
    meaning setup reading line ≡ Wrong code →
    (1 ≤ code) × (code ≤ 4)
codes_are_four setup reading line code h = (above (cases_lt code 1), below (cases_lt 4 code))
  where
    above : (code < 1) ⊎ (1 ≤ code) → 1 ≤ code
    above (inl less) =
        absurd
        (meaning_never code (λ e. omega (arith, e, less)) (λ e. omega (arith, e, less)) (λ e. omega (arith, e, less))
        (λ e. omega (arith, e, less)) setup reading line h)
    above (inr up) = up

    below : (4 < code) ⊎ (code ≤ 4) → code ≤ 4
    below (inl more) =
        absurd
        (meaning_never code (λ e. omega (arith, e, more)) (λ e. omega (arith, e, more)) (λ e. omega (arith, e, more))
        (λ e. omega (arith, e, more)) setup reading line h)
    below (inr up) = up

-- THE LAST MOMENT

-- the entry of `tick`
tick_is : (setup : Setup) (is_first : Bool) (digits : List ℕ) (n : ℕ) → number digits ≡ Some n →
    form_of setup is_first (codes "tick") digits ≡ Ok (entry.Tick n)
tick_is setup is_first digits n spelled = ap (λ o. needing 1 o (λ milliseconds. Ok (entry.Tick milliseconds))) spelled

module _ (setup : Setup) (reading : Reading) (line digits : List ℕ) (n : ℕ) where
  tick_means : SaysWordAndText line (codes "tick") digits → EndsInNoReturn line → length line ≤ 1024 →
      number digits ≡ Some n →
      meaning setup reading line ≡ line_of (cond (nat_le (reading.moment + n) LAST_MOMENT) (Ok (entry.Tick n)) (Err 3))
  tick_means says ends short spelled =
      blanks_free setup reading line (codes "tick") digits says ends short
      ∙ ap (λ x. line_of (in_time reading.moment x)) (tick_is setup reading.is_first digits n spelled)

  pub tick_up_to : SaysWordAndText line (codes "tick") digits → EndsInNoReturn line → length line ≤ 1024 →
      number digits ≡ Some n →
      reading.moment + n ≤ 2 ^ 40 → meaning setup reading line ≡ Item (entry.Tick n)
  tick_up_to says ends short spelled within =
      tick_means says ends short spelled
      ∙ ap (λ b. line_of (cond b (Ok (entry.Tick n)) (Err 3))) (le-leb (reading.moment + n) 1099511627776 within)

  pub tick_past : SaysWordAndText line (codes "tick") digits → EndsInNoReturn line → length line ≤ 1024 →
      number digits ≡ Some n →
      2 ^ 40 < reading.moment + n → meaning setup reading line ≡ Wrong 3
  tick_past says ends short spelled late =
      tick_means says ends short spelled
      ∙ ap (λ b. line_of (cond b (Ok (entry.Tick n)) (Err 3))) (lt-leb (reading.moment + n) 1099511627776 late)
