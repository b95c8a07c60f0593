-- Which lines mean the same, whatever came before them.
use Rattle.std.proofs.Common.{◌≡◌, ◌+◌, ◌^◌, ◌≤◌, ℕ, List, [], ◌∷◌, ◌++◌, Bool, true, false, cond, length, nat_le, Option, Some, None, Result, Ok, Err, codes, bytes_eq, refl, ap, ap₂, sym, ◌∙◌, subst, arith}
use Rattle.std.proofs.lemmas.Bool.{ne_eqb}
use Rattle.std.proofs.lemmas.List.{append-nil}
use Rattle.std.proofs.lemmas.Slice.Eq.{bytes_eq-Decides}
use Rattle.std.specs.Prelude.{if◌then◌else◌}
use Rattle.pearl_rules.specs.declared.entry.Entry.{Entry}
use Rattle.pearl_rules.specs.declared.entry.Entry.TheVariants as entry
use Rattle.pearl_rules.specs.declared.setup.Setup.{Setup}
use Rattle.pearl_rules.specs.Entries.{moment_after, time_in}
use Rattle.pearl_rules.specs.Literals.{clock_literal}
use Rattle.pearl_journal.specs.declared.limits.TheConstants.{LINE_LIMIT}
use Rattle.pearl_journal.specs.declared.reading.Line.{Line}
use Rattle.pearl_journal.specs.declared.reading.Line.TheVariants.{Blank, Item, Wrong}
use Rattle.pearl_journal.specs.Entries.{All, Bad, after, entries, entries_from, more_entries}
use Rattle.pearl_journal.specs.Laws.{EndsInNoReturn, IsGap, IsWord, SaysWordAndText}
use Rattle.pearl_journal.specs.Lines.{without_return}
use Rattle.pearl_journal.specs.Meaning.{clock_entry, form_of, in_time, is_skipped, line_of, meaning, meaning_within, needing, text_meaning}
use Rattle.pearl_journal.specs.Pieces.{begin_later, reading_at}
use Rattle.pearl_journal.specs.Readings.{Reading, start}
use Rattle.pearl_journal.specs.Words.{behind_word, first_word}
use Rattle.pearl_journal_laws.specs.Later.{HasNoClock, SetsClock, renumbered, with_front}
use Rattle.pearl_journal_laws.specs.Readings.{behind_lines}
use Rattle.pearl_journal_laws.specs.Says.{Says}
use Rattle.pearl_journal_laws.proofs.Endings.{EndsWell, behind, time_ends}
use Rattle.pearl_journal_laws.proofs.Joining.{entries_joined, moment_led}
use Rattle.pearl_journal_laws.proofs.Readings.{count_at}
use Rattle.pearl_journal_laws.proofs.Returns.{no_gap}
use Rattle.pearl_journal_laws.proofs.StepLaws.{clock_first, clock_later}
use Rattle.pearl_journal_laws.proofs.TimesOfDay.{was_time}
use Rattle.pearl_journal_laws.proofs.Trimming.{Said, said, trimmed}

-- FORMS

no_time : (is_first : Bool) (text : List ℕ) → ((time : ℕ) → clock_literal text ≡ Some time → ⊥) →
    clock_entry is_first text ≡ Err 1
no_time true text never = by (clock_literal text) refl
  where
    by : (o : Option ℕ) → clock_literal text ≡ o → needing 1 o (λ time. Ok (entry.Clock time)) ≡ Err 1
    by None e = refl
    by (Some time) e = absurd (never time e)
no_time false text never = refl

-- the word `clock` alone asks whether an entry came before, and where a time of day stands behind it
forms_alike : (setup : Setup) (one other : Bool) (word text : List ℕ) →
    (word ≡ codes "clock" → (time : ℕ) → clock_literal text ≡ Some time → ⊥) →
    form_of setup one word text ≡ form_of setup other word text
forms_alike setup one other word text never =
    by (bytes_eq word (codes "clock")) _ (bytes_eq-Decides word (codes "clock")).0
  where
    by : (is_clock : Bool) (rest : Result Entry ℕ) → (is_clock ≡ true → word ≡ codes "clock") →
        (if is_clock then clock_entry one text else rest) ≡ (if is_clock then clock_entry other text else rest)
    by true rest is = no_time one text (never (is refl)) ∙ sym (no_time other text (never (is refl)))
    by false rest is = refl

-- LINES

clock_is_word : IsWord (codes "clock")
clock_is_word =
    record { some = λ e. cc; solid = (refl, (refl, (refl, (refl, (refl, tt))))); no_comment = λ rest e. cc }

module _ (setup : Setup) (reading other : Reading) (line : List ℕ) (same : other.moment ≡ reading.moment)
    (never : SetsClock line → ⊥) where
  abbrev text : List ℕ
  text = trimmed (without_return line)

  sets : (s : Said (without_return line)) → first_word text ≡ codes "clock" → (time : ℕ) →
      clock_literal (behind_word text) ≡ Some time → SetsClock line
  sets s word time read =
      let is : codes "clock" ≡ s.word = sym word ∙ s.first in
      record {
        text = s.text;
        time = time;
        says = subst (λ w. SaysWordAndText (without_return line) w s.text) (sym is)
            (s.says (subst IsWord is clock_is_word));
        is_time = was_time s.text time (ap clock_literal (sym s.behind) ∙ read);
      }

  texts_alike : text_meaning setup other text ≡ text_meaning setup reading text
  texts_alike =
      ap₂ (λ moment form. cond (is_skipped text) Blank (line_of (in_time moment form))) same
      (forms_alike setup other.is_first reading.is_first (first_word text) (behind_word text)
      (λ word time read. never (sets (said (without_return line)) word time read)))

  pub means_alike : meaning setup other line ≡ meaning setup reading line
  unfolding meaning
  means_alike = ap (λ means. cond (nat_le (length (without_return line)) LINE_LIMIT) means (Wrong 1)) texts_alike

-- a line that sets the clock ends in its time of day, or in a blank behind that
ends_well : (text back : List ℕ) → EndsWell text → IsGap back → EndsWell (text ++ back)
ends_well text [] well is = subst EndsWell (sym (append-nil text)) well
ends_well text (b ∷ back) well is =
    behind text (b ∷ back) (λ e. cc, λ front e. no_gap front (subst IsGap e is))

clock_ends : (line : List ℕ) → SetsClock line → EndsInNoReturn (without_return line)
clock_ends line is =
    let says = is.says in
    let inner = says.gap ++ (is.text ++ says.back) in
    let well : EndsWell (says.front ++ (codes "clock" ++ inner)) =
    behind says.front (codes "clock" ++ inner)
    (behind (codes "clock") inner
    (behind says.gap (is.text ++ says.back)
    (ends_well is.text says.back (time_ends is.text is.time is.is_time) says.back_is_gap))) in
    subst EndsInNoReturn (sym says.spelled) well.1

stays_whole : (line : List ℕ) → EndsInNoReturn line → without_return line ≡ line
stays_whole [] ends = refl
stays_whole (byte ∷ []) ends = rw (ne_eqb byte 13 (λ e. ends [] (ap (λ b. b ∷ []) e))) refl
stays_whole (byte ∷ next ∷ rest) ends =
    ap (λ t. byte ∷ t)
    (stays_whole (next ∷ rest) (λ front e. ends (byte ∷ front) (ap (λ t. byte ∷ t) e)))

module _ (setup : Setup) (reading : Reading) (line : List ℕ) (is : SetsClock line)
    (short : length (without_return line) ≤ 1024) where
  says : Says (without_return line) (codes "clock") is.text
  says = record { parts = is.says; ends = clock_ends line is; short = short }

  -- a byte 13 that was dropped changes nothing
  dropped : meaning setup reading line ≡ meaning setup reading (without_return line)
  unfolding meaning
  dropped = ap (meaning_within setup reading) (sym (stays_whole (without_return line) (clock_ends line is)))

  pub sets_first : reading.is_first ≡ true → reading.moment ≤ 2 ^ 40 →
      meaning setup reading line ≡ Item (entry.Clock is.time)
  sets_first first within =
      dropped ∙ clock_first setup reading (without_return line) is.text is.time says first within is.is_time

  pub sets_none : reading.is_first ≡ false → meaning setup reading line ≡ Wrong 1
  sets_none later = dropped ∙ clock_later setup reading (without_return line) is.text says later

-- JOURNALS

pub lines_alike : (setup : Setup) (reading other : Reading) (before : ℕ) → other.lines ≡ reading.lines + before →
    other.moment ≡ reading.moment → (lines : List (List ℕ)) → HasNoClock lines →
    entries_from setup other lines ≡ renumbered before (entries_from setup reading lines)
lines_alike setup reading other before count same [] none = refl
lines_alike setup reading other before count same (line ∷ lines) none =
    ap (λ means. more_entries means (other.lines + 1) (entries_from setup (after other means) lines))
    (means_alike setup reading other line same none.0)
    ∙ by (meaning setup reading line)
    (λ one two count same. lines_alike setup one two before count same lines none.1)
  where
    by : (means : Line) →
        ((one two : Reading) → two.lines ≡ one.lines + before → two.moment ≡ one.moment →
        entries_from setup two lines ≡ renumbered before (entries_from setup one lines)) →
        more_entries means (other.lines + 1) (entries_from setup (after other means) lines)
        ≡ renumbered before (more_entries means (reading.lines + 1) (entries_from setup (after reading means) lines))
    by Blank later = later (after reading Blank) (after other Blank) (omega (arith, count)) same
    by (Item entry) later =
        ap (more_entries (Item entry) (other.lines + 1))
        (later (after reading (Item entry)) (after other (Item entry)) (omega (arith, count))
        (ap (λ moment. moment_after moment entry) same))
    by (Wrong code) later =
        let number : other.lines + 1 ≡ reading.lines + 1 + before = omega (arith, count) in
        ap (λ n. record { accepted = []; ending = Bad n code }) number

pub goes_on : (setup : Setup) (lines more : List (List ℕ)) (found : List Entry) →
    entries setup lines ≡ record { accepted = found; ending = All } → HasNoClock more →
    entries setup (lines ++ more)
    ≡ with_front found
    (renumbered (length lines) (entries_from setup (reading_at begin_later (time_in found)) more))
goes_on setup lines more found all none =
    let there = behind_lines setup start lines in
    let counted = count_at setup lines in
    let count : there.lines ≡ 0 + length lines = omega (arith, counted) in
    let led = moment_led setup start lines found all in
    let moment : there.moment ≡ time_in found = omega (arith, led) in
    entries_joined setup start lines more found all
    ∙ ap (with_front found)
    (lines_alike setup (reading_at begin_later (time_in found)) there (length lines) count moment more none)
