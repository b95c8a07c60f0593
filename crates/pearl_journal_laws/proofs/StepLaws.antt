-- What lines say that tell of time and of tasks.
use Rattle.std.proofs.Common.{◌≡◌, ◌≢◌, ◌≤◌, ◌<◌, ◌+◌, ◌^◌, ℕ, List, [], ◌∷◌, Bool, true, false, cond, Option, Some, None, Result, Ok, Err, codes, bytes_eq, refl, ap, ap₂, ◌∙◌}
use Rattle.std.proofs.lemmas.Slice.Eq.{bytes_eq-Decides}
use Rattle.pearl_rules.specs.declared.entry.Entry.{Entry}
use Rattle.pearl_rules.specs.declared.entry.Entry.TheVariants as entry
use Rattle.pearl_rules.specs.declared.setup.Setup.{Setup}
use Rattle.pearl_rules.specs.Literals.{clock_literal}
use Rattle.pearl_value.specs.Names.{is_id}
use Rattle.pearl_journal.specs.declared.limits.TheConstants.{LAST_MOMENT}
use Rattle.pearl_journal.specs.declared.reading.Line.{Line}
use Rattle.pearl_journal.specs.declared.reading.Line.TheVariants.{Blank, Item, Wrong}
use Rattle.pearl_journal.specs.Entries.{after}
use Rattle.pearl_journal.specs.Meaning.{clock_entry, form_of, meaning, needing, state_entry, turn_entry}
use Rattle.pearl_journal.specs.Readings.{Reading}
use Rattle.pearl_journal.specs.Words.{number, task_named}
use Rattle.pearl_journal.proofs.Offered.{meaning-fits, moment_after-late}
use Rattle.pearl_journal_laws.specs.Named.{IsFirst, IsNamed, IsNowhere}
use Rattle.pearl_journal_laws.specs.Says.{IsNoNumber, IsNumber, IsOther, Says, SaysMore}
use Rattle.pearl_journal_laws.specs.Times.{IsTimeOfDay}
use Rattle.pearl_journal_laws.proofs.TimesOfDay.{reads_time, was_time}
use Rattle.pearl_journal_laws.proofs.Saying.{accepted, as_text, behind_of, first_of, need_either, refused, rest_of, too_late}
use Rattle.pearl_journal_laws.proofs.Numbers.{no_number, number_is}
use Rattle.pearl_journal_laws.proofs.Finding.{first_found, named_decides, none_found}

module _ (setup : Setup) (reading : Reading) (line text : List ℕ) where
  -- CLOCK

  clock_form : (is_first : Bool) (o : Option ℕ) → clock_literal text ≡ o →
      clock_entry is_first text ≡ cond is_first (needing 1 o (λ time. Ok (entry.Clock time))) (Err 1)
  clock_form is_first o is = ap (λ o. cond is_first (needing 1 o (λ time. Ok (entry.Clock time))) (Err 1)) is

  pub clock_first : (time : ℕ) → Says line (codes "clock") text → reading.is_first ≡ true → reading.moment ≤ 2 ^ 40 →
      IsTimeOfDay text time → meaning setup reading line ≡ Item (entry.Clock time)
  clock_first time says first within is =
      accepted setup reading line (codes "clock") text says (entry.Clock time)
      (ap (λ b. clock_entry b text) first ∙ clock_form true (Some time) (reads_time text time is)) within

  pub clock_later : Says line (codes "clock") text → reading.is_first ≡ false → meaning setup reading line ≡ Wrong 1
  clock_later says later =
      refused setup reading line (codes "clock") text says 1 (ap (λ b. clock_entry b text) later)

  pub clock_none : Says line (codes "clock") text → ((time : ℕ) → IsTimeOfDay text time → ⊥) →
      meaning setup reading line ≡ Wrong 1
  clock_none says never =
      refused setup reading line (codes "clock") text says 1
      (clock_form reading.is_first None none ∙ alike reading.is_first)
    where
      by : (o : Option ℕ) → clock_literal text ≡ o → o ≡ None
      by None e = refl
      by (Some time) e = absurd (never time (was_time text time e))

      none : clock_literal text ≡ None
      none = by (clock_literal text) refl

      alike : (b : Bool) → cond {A = Result Entry ℕ} b (Err 1) (Err 1) ≡ Err 1
      alike true = refl
      alike false = refl

  -- RUN AND TICK

  pub run_is : (n : ℕ) → Says line (codes "run") text → reading.moment ≤ 2 ^ 40 → IsNumber text n →
      meaning setup reading line ≡ Item (entry.Run n)
  run_is n says within is =
      accepted setup reading line (codes "run") text says (entry.Run n)
      (ap (λ o. needing 1 o (λ picks. Ok (entry.Run picks))) (number_is text n is)) within

  pub run_none : Says line (codes "run") text → IsNoNumber text → meaning setup reading line ≡ Wrong 1
  run_none says none =
      refused setup reading line (codes "run") text says 1
      (ap (λ o. needing 1 o (λ picks. Ok (entry.Run picks))) (no_number text none))

  tick_form : (o : Option ℕ) → number text ≡ o →
      form_of setup reading.is_first (codes "tick") text ≡ needing 1 o (λ milliseconds. Ok (entry.Tick milliseconds))
  tick_form o is = ap (λ o. needing 1 o (λ milliseconds. Ok (entry.Tick milliseconds))) is

  pub tick_is : (n : ℕ) → Says line (codes "tick") text → IsNumber text n → reading.moment + n ≤ 2 ^ 40 →
      meaning setup reading line ≡ Item (entry.Tick n)
  tick_is n says is within =
      accepted setup reading line (codes "tick") text says (entry.Tick n)
      (tick_form (Some n) (number_is text n is)) within

  pub tick_late : (n : ℕ) → Says line (codes "tick") text → IsNumber text n → 2 ^ 40 < reading.moment + n →
      meaning setup reading line ≡ Wrong 3
  tick_late n says is late =
      too_late setup reading line (codes "tick") text says (entry.Tick n)
      (tick_form (Some n) (number_is text n is)) late

  pub tick_none : Says line (codes "tick") text → IsNoNumber text → meaning setup reading line ≡ Wrong 1
  tick_none says none =
      refused setup reading line (codes "tick") text says 1 (tick_form None (no_number text none))

  -- STATE

  state_more : (rest : List ℕ) → rest ≢ [] → state_entry rest ≡ Err 1
  state_more [] some = absurd (some refl)
  state_more (byte ∷ rest) some = refl

  pub state_none : Says line (codes "state") text → text ≢ [] → meaning setup reading line ≡ Wrong 1
  state_none says some = refused setup reading line (codes "state") text says 1 (state_more text some)

  -- TURN

  turn_form : (o : Option ℕ) → is_id text ≡ true → task_named setup.tasks text ≡ o →
      turn_entry setup text ≡ needing 2 o (λ task. Ok (entry.Turn task))
  turn_form o named is =
      ap (λ b. cond b (needing 2 (task_named setup.tasks text) (λ task. Ok (entry.Turn task))) (Err 1)) named
      ∙ ap (λ o. needing 2 o (λ task. Ok (entry.Turn task))) is

  pub turn_is : (task : ℕ) → Says line (codes "turn") text → reading.moment ≤ 2 ^ 40 → is_id text ≡ true →
      IsFirst (IsNamed text) setup.tasks task → meaning setup reading line ≡ Item (entry.Turn task)
  turn_is task says within named is =
      accepted setup reading line (codes "turn") text says (entry.Turn task)
      (turn_form (Some task) named (first_found _ _ (named_decides text) setup.tasks task is)) within

  pub turn_none : Says line (codes "turn") text → is_id text ≡ true → IsNowhere (IsNamed text) setup.tasks →
      meaning setup reading line ≡ Wrong 2
  turn_none says named none =
      refused setup reading line (codes "turn") text says 2
      (turn_form None named (none_found _ _ (named_decides text) setup.tasks none))

  pub turn_no_name : Says line (codes "turn") text → is_id text ≡ false → meaning setup reading line ≡ Wrong 1
  turn_no_name says other =
      refused setup reading line (codes "turn") text says 1
      (ap (λ b. cond b (needing 2 (task_named setup.tasks text) (λ task. Ok (entry.Turn task))) (Err 1)) other)

pub state_is : (setup : Setup) (reading : Reading) (line : List ℕ) → Says line (codes "state") [] →
    reading.moment ≤ 2 ^ 40 → meaning setup reading line ≡ Item entry.State
state_is setup reading line says within =
    accepted setup reading line (codes "state") [] says entry.State refl within

-- PASS

module _ (setup : Setup) (reading : Reading) (line first second : List ℕ)
    (says : SaysMore line (codes "pass") first second) where
  pass_form : (times picks : Option ℕ) → number first ≡ times → number second ≡ picks →
      form_of setup reading.is_first (codes "pass") (rest_of says)
      ≡ needing 1 times (λ d. needing 1 picks (λ n. Ok (entry.Pass d n)))
  pass_form times picks t p =
      ap₂ (λ a b. needing 1 a (λ d. needing 1 b (λ n. Ok (entry.Pass d n))))
      (ap number (first_of says) ∙ t) (ap number (behind_of says) ∙ p)

  pub pass_is : (d n : ℕ) → IsNumber first d → IsNumber second n → reading.moment + d ≤ 2 ^ 40 →
      meaning setup reading line ≡ Item (entry.Pass d n)
  pass_is d n is also within =
      accepted setup reading line (codes "pass") (rest_of says) (as_text says) (entry.Pass d n)
      (pass_form (Some d) (Some n) (number_is first d is) (number_is second n also)) within

  pub pass_late : (d n : ℕ) → IsNumber first d → IsNumber second n → 2 ^ 40 < reading.moment + d →
      meaning setup reading line ≡ Wrong 3
  pass_late d n is also late =
      too_late setup reading line (codes "pass") (rest_of says) (as_text says) (entry.Pass d n)
      (pass_form (Some d) (Some n) (number_is first d is) (number_is second n also)) late

  pub pass_no_times : IsNoNumber first → meaning setup reading line ≡ Wrong 1
  pass_no_times none =
      refused setup reading line (codes "pass") (rest_of says) (as_text says) 1
      (pass_form None (number second) (no_number first none) refl)

  pub pass_no_picks : IsNoNumber second → meaning setup reading line ≡ Wrong 1
  pass_no_picks none =
      refused setup reading line (codes "pass") (rest_of says) (as_text says) 1
      (pass_form (number first) None refl (no_number second none) ∙ need_either (number first) 1 _ (λ d. refl))

-- OTHER WORDS

differs : (word other : List ℕ) → word ≢ other → bytes_eq word other ≡ false
differs word other apart = by (bytes_eq word other) refl
  where
    by : (b : Bool) → bytes_eq word other ≡ b → b ≡ false
    by true e = absurd (apart ((bytes_eq-Decides word other).0 e))
    by false e = refl

pub no_form : (setup : Setup) (is_first : Bool) (word text : List ℕ) → IsOther word →
    form_of setup is_first word text ≡ Err 1
no_form setup is_first word text is =
    let clock = differs word (codes "clock") is.clock in
    let run = differs word (codes "run") is.run in
    let tick = differs word (codes "tick") is.tick in
    let pass = differs word (codes "pass") is.pass in
    let irpt = differs word (codes "irpt") is.irpt in
    let chars = differs word (codes "chars") is.chars in
    let line = differs word (codes "line") is.line in
    let value = differs word (codes "value") is.value in
    let turn = differs word (codes "turn") is.turn in
    let state = differs word (codes "state") is.state in
    rw (clock, run, tick, pass, irpt, chars, line, value, turn, state) refl

pub other_none : (setup : Setup) (reading : Reading) (line word text : List ℕ) → Says line word text → IsOther word →
    meaning setup reading line ≡ Wrong 1
other_none setup reading line word text says is =
    refused setup reading line word text says 1 (no_form setup reading.is_first word text is)

-- MOMENTS

pub stays_within : (setup : Setup) (reading : Reading) (line : List ℕ) → reading.moment ≤ 2 ^ 40 →
    (after reading (meaning setup reading line)).moment ≤ 2 ^ 40
stays_within setup reading line within = by (meaning setup reading line) refl
  where
    by : (means : Line) → meaning setup reading line ≡ means → (after reading means).moment ≤ LAST_MOMENT
    by Blank e = within
    by (Wrong code) e = within
    by (Item means) e =
        moment_after-late setup reading.moment reading.moment (meaning setup reading line) means e
        (meaning-fits setup reading line) refl within
