-- Which lines of a journal are handled, over the bytes that were read of it, and what was carried out of them.
use Rattle.std.proofs.Common.{◌≡◌, ◌≤◌, ◌<◌, ℕ, List, [], ◌∷◌, ◌++◌, Option, Result, Ok, Err, ap, sym, ◌∙◌, subst, arith, length, take, drop, nat_le, Bool, true, false, if◌then◌else◌}
use Rattle.std.proofs.lemmas.Bool.Decides.{nat_tests}
use Rattle.std.proofs.lemmas.List.{take-append-drop, take-take}
use Rattle.std.specs.Prelude.{OnOk, IfErr}
use Rattle.pearl_io.proofs.Offered.{takes_front_more, takes_more}
use Rattle.pearl_rules.specs.declared.entry.Entry.{Entry}
use Rattle.pearl_rules.specs.declared.setup.Setup.{Setup}
use Rattle.pearl_journal.specs.Entries.{All, Bad, Entries, entries_from}
use Rattle.pearl_journal.specs.Lines.{journal_lines, ended_lines}
use Rattle.pearl_journal.specs.Pieces.{HasNoWhole, Kept, bytes_from, ended_on, read_on, reading_at, unless_refused}
use Rattle.pearl_journal.proofs.Offered.{none_ended, none_read}
use Rattle.pearl_top.specs.declared.failure.Failure.{Failure}
use Rattle.pearl_top.specs.declared.failure.Failure.TheVariants as failure
use Rattle.pearl_top.specs.declared.limits.TheConstants.{JOURNAL_LIMIT}
use Rattle.pearl_top.specs.Going.{Going, GoesInTurn}
use Rattle.pearl_top.specs.JournalDue.{handled, handled_if}
use Rattle.pearl_top.specs.Replay.{with_front, BeginsWith, Carried, CarriesOut, IsFailure, IsUnread, LinesDone, Reads, ReadsSuch}
use Rattle.pearl_top.proofs.LineLaws.{bad_behind, begins_behind, writes-then}
use Rattle.pearl_top.proofs.TakenLaws.{append_nil}

pub le_true : (a b : ℕ) → a ≤ b → nat_le a b ≡ true
le_true a b h = grind (arith, nat_tests)

pub le_false : (a b : ℕ) → b < a → nat_le a b ≡ false
le_false a b h = grind (arith, nat_tests)

pub le_of_true : (a b : ℕ) → nat_le a b ≡ true → a ≤ b
le_of_true a b h = grind (arith, nat_tests)

pub lt_of_false : (a b : ℕ) → nat_le a b ≡ false → b < a
lt_of_false a b h = grind (arith, nat_tests)

-- a journal within the limit is handled whole
pub handled-whole : (journal : List ℕ) → length journal ≤ JOURNAL_LIMIT → handled journal ≡ journal_lines journal
handled-whole journal h = ap (λ b. handled_if b journal) (le_true (length journal) JOURNAL_LIMIT h)

-- and of a longer one the lines that end within it
pub handled-long : (journal : List ℕ) → JOURNAL_LIMIT < length journal → handled journal ≡ ended_lines (take JOURNAL_LIMIT journal)
handled-long journal h = ap (λ b. handled_if b journal) (le_false (length journal) JOURNAL_LIMIT h)

-- a front, and what is behind it
front_and_rest : (journal bytes : List ℕ) → bytes ≡ take (length bytes) journal → bytes ++ drop (length bytes) journal ≡ journal
front_and_rest journal bytes front =
    ap (λ x. x ++ drop (length bytes) journal) front ∙ take-append-drop (length bytes) journal

-- WHERE NOTHING WAS READ

standing : (kept : Kept) (bytes : List ℕ) → IsUnread kept → bytes_from kept bytes ≡ bytes
standing kept bytes unread =
    ap (λ x. x ++ (if kept.is_whole then 10 ∷ bytes else bytes)) unread.empty ∙ ap (λ (b : Bool). if b then 10 ∷ bytes else bytes) unread.partial

-- the entries from there on are those of all lines, and those of the lines that are ended
read_first : (setup : Setup) (kept : Kept) (now : ℕ) (bytes : List ℕ) → IsUnread kept →
    read_on setup kept now bytes ≡ entries_from setup (reading_at kept now) (journal_lines bytes)
read_first setup kept now bytes unread =
    ap (λ bad. unless_refused bad (entries_from setup (reading_at kept now) (journal_lines (bytes_from kept bytes)))) unread.unrefused
    ∙ ap (λ all. entries_from setup (reading_at kept now) (journal_lines all)) (standing kept bytes unread)

ended_first : (setup : Setup) (kept : Kept) (now : ℕ) (bytes : List ℕ) → IsUnread kept →
    ended_on setup kept now bytes ≡ entries_from setup (reading_at kept now) (ended_lines bytes)
ended_first setup kept now bytes unread =
    ap (λ bad. unless_refused bad (entries_from setup (reading_at kept now) (ended_lines (bytes_from kept bytes)))) unread.unrefused
    ∙ ap (λ all. entries_from setup (reading_at kept now) (ended_lines all)) (standing kept bytes unread)

such_if : (setup : Setup) (kept : Kept) (now : ℕ) (journal bytes : List ℕ) (AreSuch : Entries → Type 0) → IsUnread kept → bytes ≡ take (length bytes) journal →
    length bytes ≤ JOURNAL_LIMIT → ReadsSuch setup kept now bytes AreSuch → (fits : Bool) →
    AreSuch (entries_from setup (reading_at kept now) (handled_if fits journal))
such_if setup kept now journal bytes AreSuch unread front within such true =
    subst AreSuch (read_first setup kept now journal unread)
    (subst (λ all. AreSuch (read_on setup kept now all)) (front_and_rest journal bytes front) (such.all (drop (length bytes) journal)))
such_if setup kept now journal bytes AreSuch unread front within such false =
    let first : List ℕ = take JOURNAL_LIMIT journal in
    let again : bytes ≡ take (length bytes) first = front ∙ sym (take-take (length bytes) JOURNAL_LIMIT journal within) in
    subst AreSuch (ended_first setup kept now first unread)
    (subst (λ all. AreSuch (ended_on setup kept now all)) (front_and_rest first bytes again) (such.ended (drop (length bytes) first)))

-- the entries of the lines that are handled are such, where those of the bytes read are, whatever follows
pub handled-such : (setup : Setup) (kept : Kept) (now : ℕ) (journal bytes : List ℕ) (AreSuch : Entries → Type 0) → IsUnread kept →
    bytes ≡ take (length bytes) journal → length bytes ≤ JOURNAL_LIMIT → ReadsSuch setup kept now bytes AreSuch →
    AreSuch (entries_from setup (reading_at kept now) (handled journal))
handled-such setup kept now journal bytes AreSuch unread front within such =
    such_if setup kept now journal bytes AreSuch unread front within such (nat_le (length journal) JOURNAL_LIMIT)

-- the entries of a journal that was read up to its end are those read so far, and then those that are read at its end
last_reads : (setup : Setup) (first kept last : Kept) (since now : ℕ) (bytes : List ℕ) (es : List Entry) → IsUnread first → Reads setup first since bytes es kept now →
    ((setup : Setup) (now : ℕ) → read_on setup last now [] ≡ read_on setup kept now []) →
    entries_from setup (reading_at first since) (journal_lines bytes) ≡ with_front es (read_on setup last now [])
last_reads setup first kept last since now bytes es unread reads ends =
    ap (λ all. entries_from setup (reading_at first since) (journal_lines all)) (sym (append_nil bytes))
    ∙ sym (read_first setup first since (bytes ++ []) unread)
    ∙ reads.all []
    ∙ ap (with_front es) (sym (ends setup now))

module _ {X : Type 0} (g : Going X) (turn : GoesInTurn g) (begin : Kept) (unread : IsUnread begin) where
  -- WHAT WAS READ TO AN END

  -- the lines that end within the bytes that were read are done
  pub ended_done : (kept : Kept) (seen now : X) (bytes : List ℕ) (old new : Option (List ℕ)) → HasNoWhole kept →
      Carried g begin seen bytes kept now old new → LinesDone g (reading_at begin (g.moment seen)) (ended_lines bytes) All seen now old new
  ended_done kept seen now bytes old new h so_far =
      let setup : Setup = g.tables seen in record {
        es = so_far.es;
        text = so_far.text;
        read = ap (λ all. entries_from setup (reading_at begin (g.moment seen)) (ended_lines all)) (sym (append_nil bytes))
            ∙ sym (ended_first setup begin (g.moment seen) (bytes ++ []) unread)
            ∙ so_far.reads.ended []
            ∙ ap (with_front so_far.es) (none_ended setup kept (g.moment now) h)
            ∙ ap (λ accepted. record { accepted = accepted; ending = All }) (append_nil so_far.es);
        writes = so_far.writes;
        rests = so_far.rests;
        taken = so_far.taken;
      }

  -- WHERE IT FAILS

  -- some bytes of a journal failed
  pub fails_at : (seen now : X) (journal bytes : List ℕ) (old new : Option (List ℕ)) (why : Failure) (rose failed wider : Type 0) → (failed → wider) →
      bytes ≡ take (length bytes) journal → length bytes ≤ JOURNAL_LIMIT → IsFailure g why begin seen bytes now old new failed →
      CarriesOut g (Err why) (reading_at begin (g.moment seen)) journal rose wider seen now old new
  fails_at seen now journal bytes old new (failure.Refused refusal) rose failed wider widen front within (line, code, is, bad) =
      subst (λ r. CarriesOut g (Err (failure.Refused r)) (reading_at begin (g.moment seen)) journal rose wider seen now old new) (sym is) (record {
        es = bad.es;
        text = bad.text;
        read = handled-such (g.tables seen) begin (g.moment seen) journal bytes (λ found. found ≡ record { accepted = bad.es; ending = Bad line code }) unread front within
            bad.reads;
        writes = bad.writes;
        rests = bad.rests;
        taken = bad.taken;
      })
  fails_at seen now journal bytes old new failure.WriteFault rose failed wider widen front within (cause, cut) =
      let begins = handled-such (g.tables seen) begin (g.moment seen) journal bytes (BeginsWith cut.es) unread front within cut.reads in (
        widen cause,
        record {
          es = cut.es ++ begins.0.accepted;
          ending = begins.0.ending;
          left = cut.left ++ begins.0.accepted;
          text = cut.text;
          read = begins.1;
          writes = turn.behind seen now cut.es cut.left begins.0.accepted cut.text cut.writes;
          taken = cut.taken;
        },
      )

  -- THE LAST LINE

  -- the last line was carried out
  last_done : (kept last after : Kept) (seen there now : X) (bytes : List ℕ) (old between new : Option (List ℕ)) →
      Carried g begin seen bytes kept there old between → ((setup : Setup) (now : ℕ) → read_on setup last now [] ≡ read_on setup kept now []) →
      HasNoWhole after → after.is_finished ≡ true → Carried g last there [] after now between new →
      LinesDone g (reading_at begin (g.moment seen)) (journal_lines bytes) All seen now old new
  last_done kept last after seen there now bytes old between new first ends h finished second =
      let setup : Setup = g.tables seen in
      let reads : Reads setup last (g.moment there) [] second.es after (g.moment now) =
      subst (λ tables. Reads tables last (g.moment there) [] second.es after (g.moment now)) (turn.same_tables seen there first.es [] first.text first.writes) second.reads in
      record {
        es = first.es ++ second.es;
        text = first.text ++ second.text;
        read = last_reads setup begin kept last _ (g.moment there) bytes first.es unread first.reads ends
            ∙ ap (with_front first.es) (reads.all [] ∙ ap (with_front second.es) (none_read setup after (g.moment now) h finished))
            ∙ ap (λ accepted. record { accepted = first.es ++ accepted; ending = All }) (append_nil second.es);
        writes = writes-then g turn seen there now first.es second.es [] first.text second.text first.writes second.writes;
        rests = second.rests;
        taken = takes_more old between new first.text second.text first.taken second.taken;
      }

  -- it failed
  last_fails : (kept last : Kept) (seen there now : X) (bytes : List ℕ) (old between new : Option (List ℕ)) (why : Failure) (rose failed wider : Type 0) →
      (failed → wider) → length bytes ≤ JOURNAL_LIMIT → Carried g begin seen bytes kept there old between →
      ((setup : Setup) (now : ℕ) → read_on setup last now [] ≡ read_on setup kept now []) → IsFailure g why last there [] now between new failed →
      CarriesOut g (Err why) (reading_at begin (g.moment seen)) bytes rose wider seen now old new
  last_fails kept last seen there now bytes old between new (failure.Refused refusal) rose failed wider widen within first ends (line, code, is, bad) =
      let setup : Setup = g.tables seen in
      subst (λ r. CarriesOut g (Err (failure.Refused r)) (reading_at begin (g.moment seen)) bytes rose wider seen now old new) (sym is) (record {
        es = first.es ++ bad.es;
        text = first.text ++ bad.text;
        read = ap (entries_from setup (reading_at begin (g.moment seen))) (handled-whole bytes within)
            ∙ last_reads setup begin kept last _ (g.moment there) bytes first.es unread first.reads ends
            ∙ bad_behind first.es bad.es line code (read_on setup last (g.moment there) [])
            (subst (λ tables. read_on tables last (g.moment there) [] ≡ record { accepted = bad.es; ending = Bad line code })
            (turn.same_tables seen there first.es [] first.text first.writes) (bad.reads.all []));
        writes = writes-then g turn seen there now first.es bad.es [] first.text bad.text first.writes bad.writes;
        rests = bad.rests;
        taken = takes_more old between new first.text bad.text first.taken bad.taken;
      })
  last_fails kept last seen there now bytes old between new failure.WriteFault rose failed wider widen within first ends (cause, cut) =
      let setup : Setup = g.tables seen in
      let begins = begins_behind first.es cut.es (read_on setup last (g.moment there) [])
      (subst (λ tables. BeginsWith cut.es (read_on tables last (g.moment there) [])) (turn.same_tables seen there first.es [] first.text first.writes)
      (cut.reads.all [])) in (
        widen cause,
        record {
          es = (first.es ++ cut.es) ++ begins.0.accepted;
          ending = begins.0.ending;
          left = cut.left ++ begins.0.accepted;
          text = first.text ++ cut.text;
          read = ap (entries_from setup (reading_at begin (g.moment seen))) (handled-whole bytes within)
              ∙ last_reads setup begin kept last _ (g.moment there) bytes first.es unread first.reads ends ∙ begins.1;
          writes = turn.behind seen now (first.es ++ cut.es) cut.left begins.0.accepted (first.text ++ cut.text)
              (writes-then g turn seen there now first.es cut.es cut.left first.text cut.text first.writes cut.writes);
          taken = takes_front_more old between new first.text cut.text first.taken cut.taken;
        },
      )

  -- all that was read is the journal, and its end was told
  pub ends_at : (r : Result (Unit {0}) Failure) (kept last after : Kept) (seen there now : X) (bytes : List ℕ) (old between new : Option (List ℕ))
      (rose failed wider : Type 0) → (failed → wider) → length bytes ≤ JOURNAL_LIMIT → Carried g begin seen bytes kept there old between →
      ((setup : Setup) (now : ℕ) → read_on setup last now [] ≡ read_on setup kept now []) → after.is_finished ≡ true → OnOk r (HasNoWhole after) →
      OnOk r (Carried g last there [] after now between new) → IfErr r (λ why. IsFailure g why last there [] now between new failed) →
      CarriesOut g r (reading_at begin (g.moment seen)) bytes rose wider seen now old new
  ends_at (Ok is) kept last after seen there now bytes old between new rose failed wider widen within first ends finished h done fails =
      (within, last_done kept last after seen there now bytes old between new first ends h finished done)
  ends_at (Err why) kept last after seen there now bytes old between new rose failed wider widen within first ends finished h done fails =
      last_fails kept last seen there now bytes old between new why rose failed wider widen within first ends fails
