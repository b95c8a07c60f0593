-- How far a journal was read behind a line, and which entries it has.
use Rattle.std.proofs.Common.{[], ◌++◌, length, arith, ◌∙◌, ◌≡◌, ◌≢◌, ◌+◌, ℕ, List, ◌∷◌, refl, ap}
use Rattle.pearl_rules.specs.declared.entry.Entry.{Entry}
use Rattle.pearl_rules.specs.declared.entry.Entry.TheVariants.{Tick, Pass}
use Rattle.pearl_rules.specs.declared.setup.Setup.{Setup}
use Rattle.pearl_journal.specs.declared.reading.Line.{Line}
use Rattle.pearl_journal.specs.declared.reading.Line.TheVariants.{Blank, Item, Wrong}
use Rattle.pearl_journal.specs.Entries.{All, Bad, Ending, Entries, after, entries, entries_from, more_entries}
use Rattle.pearl_journal.specs.Meaning.{meaning}
use Rattle.pearl_journal.specs.Readings.{Reading, start}
use Rattle.pearl_journal_laws.specs.Readings.{behind_lines}

pub is_counted : (reading : Reading) (means : Line) → (after reading means).lines ≡ reading.lines + 1
is_counted reading Blank = refl
is_counted reading (Item entry) = refl
is_counted reading (Wrong code) = refl

pub moment_stays : (reading : Reading) (entry : Entry) → ((n : ℕ) → entry ≢ Tick n) → ((d n : ℕ) → entry ≢ Pass d n) →
    (after reading (Item entry)).moment ≡ reading.moment
moment_stays reading (Tick n) no_tick no_pass = absurd (no_tick n refl)
moment_stays reading (Pass d n) no_tick no_pass = absurd (no_pass d n refl)
moment_stays reading entry no_tick no_pass = refl

-- the entries of a line that means this, and of those behind it
pub entries_of : (setup : Setup) (reading : Reading) (line : List ℕ) (later : List (List ℕ)) (means : Line) →
    meaning setup reading line ≡ means → entries_from setup reading (line ∷ later)
    ≡ more_entries means (reading.lines + 1) (entries_from setup (after reading means) later)
entries_of setup reading line later means is =
    ap (λ means. more_entries means (reading.lines + 1) (entries_from setup (after reading means) later)) is

-- LINES BEHIND OTHERS

count_behind : (setup : Setup) (reading : Reading) (lines : List (List ℕ)) →
    (behind_lines setup reading lines).lines ≡ reading.lines + length lines
count_behind setup reading [] = omega arith
count_behind setup reading (line ∷ lines) =
    let next = after reading (meaning setup reading line) in
    let counted = is_counted reading (meaning setup reading line) in
    count_behind setup next lines ∙ omega (arith, counted)

-- what ends a journal behind a line that isn't refused ends it with that line
ends_behind : (means : Line) (number : ℕ) (some more : Entries) (told : Ending) →
    (more_entries means number some).ending ≡ All → (some.ending ≡ All → more.ending ≡ told) →
    (more_entries means number more).ending ≡ told
ends_behind Blank number some more told all same = same all
ends_behind (Item entry) number some more told all same = same all
ends_behind (Wrong code) number some more told all same = absurd (not_all all)
  where
    not_all : Bad number code ≡ All → ⊥
    not_all e = cc

refused_behind : (setup : Setup) (reading : Reading) (before : List (List ℕ)) (line : List ℕ)
    (later : List (List ℕ)) (code : ℕ) → (entries_from setup reading before).ending ≡ All →
    meaning setup (behind_lines setup reading before) line ≡ Wrong code →
    (entries_from setup reading (before ++ line ∷ later)).ending ≡ Bad (reading.lines + length before + 1) code
refused_behind setup reading [] line later code all wrong =
    let same : reading.lines + 1 ≡ reading.lines + 0 + 1 = omega arith in
    ap (λ e. e.ending) (entries_of setup reading line later (Wrong code) wrong) ∙ ap (λ n. Bad n code) same
refused_behind setup reading (first ∷ before) line later code all wrong =
    let means = meaning setup reading first in
    let next = after reading means in
    let counted = is_counted reading means in
    let same : next.lines + length before + 1 ≡ reading.lines + length (first ∷ before) + 1 =
    omega (arith, counted) in
    ends_behind means (reading.lines + 1) (entries_from setup next before)
    (entries_from setup next (before ++ line ∷ later)) (Bad (reading.lines + length (first ∷ before) + 1) code) all
    (λ all. refused_behind setup next before line later code all wrong ∙ ap (λ n. Bad n code) same)

-- FROM THE START

pub count_at : (setup : Setup) (lines : List (List ℕ)) → (behind_lines setup start lines).lines ≡ length lines
count_at setup lines =
    let none : start.lines + length lines ≡ length lines = omega arith in count_behind setup start lines ∙ none

pub refused_at : (setup : Setup) (before : List (List ℕ)) (line : List ℕ) (later : List (List ℕ)) (code : ℕ) →
    (entries setup before).ending ≡ All → meaning setup (behind_lines setup start before) line ≡ Wrong code →
    (entries setup (before ++ line ∷ later)).ending ≡ Bad (length before + 1) code
refused_at setup before line later code all wrong =
    let same : start.lines + length before + 1 ≡ length before + 1 = omega arith in
    refused_behind setup start before line later code all wrong ∙ ap (λ n. Bad n code) same
