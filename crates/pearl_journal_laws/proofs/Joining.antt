-- Lines of a journal behind those of another one, and how far entries lead.
use Rattle.std.proofs.Common.{◌≡◌, ◌≢◌, ◌+◌, ◌==◌, ℕ, List, [], ◌∷◌, ◌++◌, Bool, true, false, refl, ap, sym, ◌∙◌, arith}
use Rattle.std.specs.Prelude.{if◌then◌else◌}
use Rattle.pearl_rules.specs.declared.entry.Entry.{Entry}
use Rattle.pearl_rules.specs.declared.entry.Entry.TheVariants.{Tick, Pass}
use Rattle.pearl_rules.specs.declared.setup.Setup.{Setup}
use Rattle.pearl_rules.specs.Entries.{moment_after, time_in}
use Rattle.pearl_journal.specs.declared.reading.Line.{Line}
use Rattle.pearl_journal.specs.declared.reading.Line.TheVariants.{Blank, Item, Wrong}
use Rattle.pearl_journal.specs.Entries.{All, Bad, Entries, after, entries_from, more_entries}
use Rattle.pearl_journal.specs.Lines.{ended_lines, in_front, in_front_of_some, journal_lines}
use Rattle.pearl_journal.specs.Meaning.{meaning}
use Rattle.pearl_journal.specs.Readings.{Reading}
use Rattle.pearl_journal_laws.specs.Later.{EndsEachLine, with_front}
use Rattle.pearl_journal_laws.specs.Readings.{behind_lines}

-- LINES

-- some bytes have a line
some_lines : (byte : ℕ) (bytes : List ℕ) → journal_lines (byte ∷ bytes) ≢ []
some_lines byte bytes = by (byte == 10) (journal_lines bytes)
  where
    by : (is_end : Bool) (lines : List (List ℕ)) → (if is_end then [] ∷ lines else in_front byte lines) ≢ []
    by true lines e = cc
    by false [] e = cc
    by false (line ∷ lines) e = cc

none_ended : (bytes : List ℕ) → journal_lines bytes ≡ [] → ended_lines bytes ≡ []
none_ended [] e = refl
none_ended (byte ∷ bytes) e = absurd (some_lines byte bytes e)

-- where each line is ended, so are those behind the first byte
inner_if : (is_end : Bool) (byte : ℕ) (ended lines : List (List ℕ)) → (lines ≡ [] → ended ≡ []) →
    (if is_end then [] ∷ ended else in_front_of_some byte ended)
    ≡ (if is_end then [] ∷ lines else in_front byte lines) →
    ended ≡ lines
inner_if true byte ended lines none e = cc
inner_if false byte [] [] none e = refl
inner_if false byte [] (line ∷ lines) none e = let no : ⊥ = cc in absurd no
inner_if false byte (first ∷ ended) [] none e = none refl
inner_if false byte (first ∷ ended) (line ∷ lines) none e = cc

inner_ends : (byte : ℕ) (bytes : List ℕ) → EndsEachLine (byte ∷ bytes) → EndsEachLine bytes
inner_ends byte bytes ends =
    inner_if (byte == 10) byte (ended_lines bytes) (journal_lines bytes) (none_ended bytes) ends

-- a byte in front of lines that others follow
joined_if : (is_end : Bool) (byte : ℕ) (put : List (List ℕ) → List (List ℕ)) →
    ((line : List ℕ) (lines : List (List ℕ)) → put (line ∷ lines) ≡ (byte ∷ line) ∷ lines) →
    (ended lines later all : List (List ℕ)) → ended ≡ lines →
    (if is_end then [] ∷ ended else in_front_of_some byte ended)
    ≡ (if is_end then [] ∷ lines else in_front byte lines) →
    all ≡ lines ++ later →
    (if is_end then [] ∷ all else put all) ≡ (if is_end then [] ∷ lines else in_front byte lines) ++ later
joined_if true byte put is ended lines later all same e joined = ap (λ l. [] ∷ l) joined
joined_if false byte put is ended [] later all same e joined =
    let no : [] ≡ (byte ∷ []) ∷ [] = ap (in_front_of_some byte) (sym same) ∙ e in absurd cc
joined_if false byte put is ended (line ∷ lines) later all same e joined = ap put joined ∙ is line (lines ++ later)

pub lines_joined : (journal next : List ℕ) → EndsEachLine journal →
    journal_lines (journal ++ next) ≡ journal_lines journal ++ journal_lines next
lines_joined [] next ends = refl
lines_joined (byte ∷ journal) next ends =
    let inner = inner_ends byte journal ends in
    joined_if (byte == 10) byte (in_front byte) (λ line lines. refl) (ended_lines journal) (journal_lines journal)
    (journal_lines next) (journal_lines (journal ++ next)) inner ends (lines_joined journal next inner)

pub ended_joined : (journal next : List ℕ) → EndsEachLine journal →
    ended_lines (journal ++ next) ≡ journal_lines journal ++ ended_lines next
ended_joined [] next ends = refl
ended_joined (byte ∷ journal) next ends =
    let inner = inner_ends byte journal ends in
    joined_if (byte == 10) byte (in_front_of_some byte) (λ line lines. refl) (ended_lines journal)
    (journal_lines journal) (ended_lines next) (ended_lines (journal ++ next)) inner ends
    (ended_joined journal next inner)

-- a byte 10 at the end ends each line
last_if : (is_end : Bool) (byte : ℕ) (ended lines : List (List ℕ)) → ended ≡ lines → lines ≢ [] →
    (if is_end then [] ∷ ended else in_front_of_some byte ended)
    ≡ (if is_end then [] ∷ lines else in_front byte lines)
last_if true byte ended lines same some = ap (λ l. [] ∷ l) same
last_if false byte ended [] same some = absurd (some refl)
last_if false byte ended (line ∷ lines) same some = ap (in_front_of_some byte) same

pub last_ends : (front : List ℕ) → EndsEachLine (front ++ 10 ∷ [])
last_ends [] = refl
last_ends (byte ∷ front) =
    last_if (byte == 10) byte (ended_lines (front ++ 10 ∷ [])) (journal_lines (front ++ 10 ∷ [])) (last_ends front)
    (some front)
  where
    some : (front : List ℕ) → journal_lines (front ++ 10 ∷ []) ≢ []
    some [] = some_lines 10 []
    some (byte ∷ front) = some_lines byte (front ++ 10 ∷ [])

-- ENTRIES

no_refusal : (line code : ℕ) → Bad line code ≡ All → ⊥
no_refusal line code e = cc

-- what one line leaves, and others behind it
joined_behind : (means : Line) (number : ℕ) (some all later : Entries) (found : List Entry) →
    more_entries means number some ≡ record { accepted = found; ending = All } →
    ((front : List Entry) → some ≡ record { accepted = front; ending = All } → all ≡ with_front front later) →
    more_entries means number all ≡ with_front found later
joined_behind Blank number some all later found e joined = joined found e
joined_behind (Item entry) number some all later found e joined =
    let ends : some.ending ≡ All = ap (λ x. x.ending) e in
    let whole : some ≡ record { accepted = some.accepted; ending = All } =
    ap (λ end. record some { ending = end }) ends in
    ap (more_entries (Item entry) number) (joined some.accepted whole)
    ∙ ap (λ front. with_front front later) (ap (λ x. x.accepted) e)
joined_behind (Wrong code) number some all later found e joined =
    absurd (no_refusal number code (ap (λ x. x.ending) e))

pub entries_joined : (setup : Setup) (reading : Reading) (lines more : List (List ℕ)) (found : List Entry) →
    entries_from setup reading lines ≡ record { accepted = found; ending = All } →
    entries_from setup reading (lines ++ more)
    ≡ with_front found (entries_from setup (behind_lines setup reading lines) more)
entries_joined setup reading [] more found e =
    ap (λ front. with_front front (entries_from setup reading more)) (ap (λ x. x.accepted) e)
entries_joined setup reading (line ∷ lines) more found e =
    let means = meaning setup reading line in
    let next = after reading means in
    joined_behind means (reading.lines + 1) (entries_from setup next lines) (entries_from setup next (lines ++ more))
    (entries_from setup (behind_lines setup next lines) more) found e
    (λ front same. entries_joined setup next lines more front same)

-- MOMENTS

time_behind : (moment : ℕ) (entry : Entry) (later : List Entry) →
    moment_after moment entry + time_in later ≡ moment + time_in (entry ∷ later)
time_behind moment (Tick n) later = omega arith
time_behind moment (Pass d n) later = omega arith
time_behind moment entry later = refl

-- behind a line the moment is that of its entry, and the others lead on from there
led_behind : (reading : Reading) (means : Line) (number : ℕ) (some : Entries) (found : List Entry) (moment : ℕ) →
    more_entries means number some ≡ record { accepted = found; ending = All } →
    ((front : List Entry) → some ≡ record { accepted = front; ending = All } →
    moment ≡ (after reading means).moment + time_in front) →
    moment ≡ reading.moment + time_in found
led_behind reading Blank number some found moment e led = led found e
led_behind reading (Item entry) number some found moment e led =
    let ends : some.ending ≡ All = ap (λ x. x.ending) e in
    let whole : some ≡ record { accepted = some.accepted; ending = All } =
    ap (λ end. record some { ending = end }) ends in
    led some.accepted whole ∙ time_behind reading.moment entry some.accepted
    ∙ ap (λ all. reading.moment + time_in all) (ap (λ x. x.accepted) e)
led_behind reading (Wrong code) number some found moment e led =
    absurd (no_refusal number code (ap (λ x. x.ending) e))

pub moment_led : (setup : Setup) (reading : Reading) (lines : List (List ℕ)) (found : List Entry) →
    entries_from setup reading lines ≡ record { accepted = found; ending = All } →
    (behind_lines setup reading lines).moment ≡ reading.moment + time_in found
moment_led setup reading [] found e =
    let none : [] ≡ found = ap (λ x. x.accepted) e in
    let here : reading.moment ≡ reading.moment + 0 = omega arith in
    here ∙ ap (λ all. reading.moment + time_in all) none
moment_led setup reading (line ∷ lines) found e =
    let means = meaning setup reading line in
    let next = after reading means in
    led_behind reading means (reading.lines + 1) (entries_from setup next lines) found
    (behind_lines setup next lines).moment e (λ front same. moment_led setup next lines front same)
