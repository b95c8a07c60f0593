-- The lines of what is told, the entries of a journal and what fits ask the tables for tasks and devices alone.
use Rattle.std.proofs.Common.{◌≡◌, ℕ, ◌+◌, List, [], ◌∷◌, ◌++◌, refl, ap, ap₂, sym, ◌∙◌, subst}
use Rattle.pearl_rules.specs.declared.entry.Entry.{Entry}
use Rattle.pearl_rules.specs.declared.entry.Entry.TheVariants.{Clock}
use Rattle.pearl_rules.specs.declared.event.Event.{Event}
use Rattle.pearl_rules.specs.declared.event.Event.TheVariants.{Start}
use Rattle.pearl_rules.specs.declared.setup.Setup.{Setup}
use Rattle.pearl_rules.specs.Core.{Report, Happened, Shows}
use Rattle.pearl_rules.specs.Entries.{IsFitting, AreFitting}
use Rattle.pearl_program.specs.PlainPrograms.{PlainProg}
use Rattle.pearl_instructions.specs.declared.object.Parts.{Parts as Object}
use Rattle.pearl_instructions.specs.Setups.{setup_of}
use Rattle.pearl_meaning.specs.ProgramRuns.{setup_of as tables_of}
use Rattle.pearl_script.specs.Lines.{event_line, report_line, lines_of}
use Rattle.pearl_journal.specs.Entries.{after, more_entries, entries_from, entries}
use Rattle.pearl_journal.specs.Meaning.{meaning}
use Rattle.pearl_journal.specs.Readings.{Reading, start}
use Rattle.pearl_faithful.specs.Faithful.{SharesTables}

-- tables with just these tasks and devices
abbrev names_of : Setup → Setup
names_of setup = record { tasks = setup.tasks; slots = []; semaphores = []; devices = setup.devices; formats = [] }

event_named : (s : Setup) (moment : ℕ) (event : Event) → event_line moment event (names_of s) ≡ event_line moment event s
event_named s moment (Start task priority) = refl
event_named s moment other = refl

report_named : (s : Setup) (report : ℕ × Report) → report_line (names_of s) report ≡ report_line s report
report_named s (moment, Happened event) = event_named s moment event
report_named s (moment, Shows task shown) = refl

lines_named : (s : Setup) (told : List (ℕ × Report)) → lines_of (names_of s) told ≡ lines_of s told
lines_named s [] = refl
lines_named s (report ∷ told) = ap₂ (λ line lines. line ++ lines) (report_named s report) (lines_named s told)

meaning_named : (s : Setup) (reading : Reading) (line : List ℕ) → meaning (names_of s) reading line ≡ meaning s reading line
unfolding meaning
meaning_named s reading line = refl

entries_named : (s : Setup) (reading : Reading) (lines : List (List ℕ)) → entries_from (names_of s) reading lines ≡ entries_from s reading lines
entries_named s reading [] = refl
entries_named s reading (line ∷ lines) =
    let same = meaning_named s reading line in
    ap₂ (λ said later. more_entries said (reading.lines + 1) later) same
    (ap (λ said. entries_from (names_of s) (after reading said) lines) same ∙ entries_named s (after reading (meaning s reading line)) lines)

fits_by_name : (s : Setup) (entry : Entry) → IsFitting s entry → IsFitting (names_of s) entry
fits_by_name s (Clock time) fits = fits
fits_by_name s other fits = fits

named_fits : (s : Setup) (entry : Entry) → IsFitting (names_of s) entry → IsFitting s entry
named_fits s (Clock time) fits = fits
named_fits s other fits = fits

fit_by_name : (s : Setup) (es : List Entry) → AreFitting s es → AreFitting (names_of s) es
fit_by_name s [] fit = tt
fit_by_name s (entry ∷ es) fit = (fits_by_name s entry fit.0, fit_by_name s es fit.1)

named_fit : (s : Setup) (es : List Entry) → AreFitting (names_of s) es → AreFitting s es
named_fit s [] fit = tt
named_fit s (entry ∷ es) fit = (named_fits s entry fit.0, named_fit s es fit.1)

names_same : (s t : Setup) → s.tasks ≡ t.tasks → s.devices ≡ t.devices → names_of s ≡ names_of t
names_same s t tasks devices =
    ap₂ (λ tasks devices. record { tasks = tasks; slots = []; semaphores = []; devices = devices; formats = [] }) tasks devices

-- so it is of a program's tables and of those of an object that shares them
module _ (p : PlainProg) (o : Object) (tables : SharesTables p o) where
  same_names : names_of (setup_of o) ≡ names_of (tables_of p)
  same_names = names_same (setup_of o) (tables_of p) tables.tasks tables.devices

  pub lines_alike : (told : List (ℕ × Report)) → lines_of (setup_of o) told ≡ lines_of (tables_of p) told
  lines_alike told =
      sym (lines_named (setup_of o) told) ∙ (ap (λ setup. lines_of setup told) same_names ∙ lines_named (tables_of p) told)

  pub entries_alike : (lines : List (List ℕ)) → entries (setup_of o) lines ≡ entries (tables_of p) lines
  entries_alike lines =
      sym (entries_named (setup_of o) start lines) ∙ (ap (λ setup. entries setup lines) same_names ∙ entries_named (tables_of p) start lines)

  pub fit_alike : (es : List Entry) → AreFitting (tables_of p) es → AreFitting (setup_of o) es
  fit_alike es fit =
      named_fit (setup_of o) es (subst (λ setup. AreFitting setup es) (sym same_names) (fit_by_name (tables_of p) es fit))
