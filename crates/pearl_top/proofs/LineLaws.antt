-- One part of a journal after another.
use Rattle.std.proofs.Common.{◌≡◌, ◌⊎◌, ◌<◌, ℕ, zero, suc, Bool, true, false, ◌==◌, length, arith, List, [], ◌∷◌, ◌++◌, Option, Result, Ok, Err, refl, ap, ap₂, sym, ◌∙◌, subst, inl, inr, append_assoc, take, drop}
use Rattle.std.proofs.lemmas.Bool.{eqb-true}
use Rattle.std.proofs.lemmas.List.{take-append-drop}
use Rattle.pearl_io.specs.Outside.{Takes, TakesFront}
use Rattle.pearl_io.proofs.Offered.{takes_more, takes_front_more}
use Rattle.pearl_rules.specs.declared.entry.Entry.{Entry}
use Rattle.pearl_rules.specs.declared.setup.Setup.{Setup}
use Rattle.pearl_rules.specs.Entries.{EntryFits, moment_after}
use Rattle.pearl_script.specs.declared.refusal.Refusal.TheVariants.{Journal}
use Rattle.pearl_journal.specs.Entries.{Bad, Entries}
use Rattle.pearl_journal.specs.declared.lines.BadLine.{BadLine}
use Rattle.pearl_journal.specs.declared.lines.Next.{Next}
use Rattle.pearl_journal.specs.declared.lines.Next.TheVariants as next
use Rattle.pearl_journal.specs.Lines.{ended_lines}
use Rattle.pearl_journal.specs.Pieces.{HasNoWhole, IfEntry, Kept, begin, ended_on, moment_said, read_on, reading_at, said}
use Rattle.pearl_journal.specs.Readings.{start}
use Rattle.pearl_top.specs.declared.failure.Failure.{Failure}
use Rattle.pearl_top.specs.declared.failure.Failure.TheVariants as failure
use Rattle.pearl_top.specs.Going.{Going, GoesInTurn}
use Rattle.pearl_top.specs.Replay.{with_front, BeginsWith, Carried, CutShort, IsFailure, IsUnread, Reads, ReadsSuch}
use Rattle.pearl_top.proofs.TakenLaws.{append_nil, takes_none}

-- WHAT WAS READ

pub front_front : (es fs : List Entry) (later : Entries) → with_front es (with_front fs later) ≡ with_front (es ++ fs) later
front_front es fs later = ap (λ accepted. record { accepted = accepted; ending = later.ending }) (sym (append_assoc es fs later.accepted))

-- no bytes lead nowhere
reads-none : (setup : Setup) (kept : Kept) (now : ℕ) → Reads setup kept now [] [] kept now
reads-none setup kept now = record { all = λ rest. refl; ended = λ rest. refl }

-- some bytes, and then others
reads-then : (setup : Setup) (before mid after : Kept) (since between now : ℕ) (bytes more : List ℕ) (es fs : List Entry) →
    Reads setup before since bytes es mid between → Reads setup mid between more fs after now → Reads setup before since (bytes ++ more) (es ++ fs) after now
reads-then setup before mid after since between now bytes more es fs first second = record {
  all = λ rest. ap (read_on setup before since) (append_assoc bytes more rest) ∙ first.all (more ++ rest) ∙ ap (with_front es) (second.all rest)
      ∙ front_front es fs (read_on setup after now rest);
  ended = λ rest. ap (ended_on setup before since) (append_assoc bytes more rest) ∙ first.ended (more ++ rest) ∙ ap (with_front es) (second.ended rest)
      ∙ front_front es fs (ended_on setup after now rest);
}

-- what is read behind some bytes is such, and so is then all
such-then : (setup : Setup) (before mid : Kept) (since between : ℕ) (bytes more : List ℕ) (es : List Entry) (AreSuch AllAre : Entries → Type 0) →
    ((later : Entries) → AreSuch later → AllAre (with_front es later)) → Reads setup before since bytes es mid between →
    ReadsSuch setup mid between more AreSuch → ReadsSuch setup before since (bytes ++ more) AllAre
such-then setup before mid since between bytes more es AreSuch AllAre widen first second = record {
  all = λ rest. subst AllAre (sym (ap (read_on setup before since) (append_assoc bytes more rest) ∙ first.all (more ++ rest)))
      (widen (read_on setup mid between (more ++ rest)) (second.all rest));
  ended = λ rest. subst AllAre (sym (ap (ended_on setup before since) (append_assoc bytes more rest) ∙ first.ended (more ++ rest)))
      (widen (ended_on setup mid between (more ++ rest)) (second.ended rest));
}

-- and with more bytes behind
such-behind : (setup : Setup) (before : Kept) (since : ℕ) (bytes more : List ℕ) (AreSuch : Entries → Type 0) → ReadsSuch setup before since bytes AreSuch →
    ReadsSuch setup before since (bytes ++ more) AreSuch
such-behind setup before since bytes more AreSuch first = record {
  all = λ rest. subst (λ all. AreSuch (read_on setup before since all)) (sym (append_assoc bytes more rest)) (first.all (more ++ rest));
  ended = λ rest. subst (λ all. AreSuch (ended_on setup before since all)) (sym (append_assoc bytes more rest)) (first.ended (more ++ rest));
}

pub bad_behind : (es fs : List Entry) (line code : ℕ) (later : Entries) → later ≡ record { accepted = fs; ending = Bad line code } →
    with_front es later ≡ record { accepted = es ++ fs; ending = Bad line code }
bad_behind es fs line code later bad = ap (with_front es) bad

pub begins_behind : (es fs : List Entry) (later : Entries) → BeginsWith fs later → BeginsWith (es ++ fs) (with_front es later)
begins_behind es fs later begins = (begins.0, ap (with_front es) begins.1 ∙ front_front es fs begins.0)

-- what the reader answers is true of the lines that follow, read in this way
abbrev pub Answers : (Setup → Kept → ℕ → List ℕ → Entries) → Setup → ℕ → Kept → Kept → Result Next BadLine → Type 0
Answers reading held moment before after answer =
    (rest : List ℕ) → reading held before moment rest ≡ said answer (reading held after (moment_said moment answer) rest)

-- by the tables and at the moment of the machine
answers_as : (reading : Setup → Kept → ℕ → List ℕ → Entries) (held setup : Setup) (moment now : ℕ) (before after : Kept) (answer other : Result Next BadLine) →
    held ≡ setup → moment ≡ now → answer ≡ other → Answers reading held moment before after answer → Answers reading setup now before after other
answers_as reading held setup moment now before after answer other same at is answers =
    subst (Answers reading setup now before after) is
    (subst (λ m. Answers reading setup m before after answer) at (subst (λ tables. Answers reading tables moment before after answer) same answers))

-- what an accepted line is fits there as well
pub fits_there : (held setup : Setup) (moment now : ℕ) (answer : Next) (entry : Entry) → held ≡ setup → moment ≡ now → answer ≡ next.Entry entry →
    IfEntry (Ok answer) (EntryFits held moment) → EntryFits setup now entry
fits_there held setup moment now answer entry same at is fits =
    subst (λ n. IfEntry (Ok n) (EntryFits setup now)) is
    (subst (λ m. IfEntry (Ok answer) (EntryFits setup m)) at (subst (λ tables. IfEntry (Ok answer) (EntryFits tables moment)) same fits))

-- WHAT WAS CARRIED OUT

module _ {X : Type 0} (g : Going X) (turn : GoesInTurn g) where
  -- what is said by the tables of where it came from is said by those of where it goes on
  by_tables : (P : Setup → Type 0) (seen there : X) (es : List Entry) (text : List ℕ) → g.writes seen es [] there text → P (g.tables there) → P (g.tables seen)
  by_tables P seen there es text writes holds = subst P (turn.same_tables seen there es [] text writes) holds

  -- one part, and then another that goes as far as some entries are left
  pub writes-then : (a b c : X) (es fs left : List Entry) (text more : List ℕ) → g.writes a es [] b text → g.writes b fs left c more →
      g.writes a (es ++ fs) left c (text ++ more)
  writes-then a b c es fs left text more first second =
      turn.in_turn a b c (es ++ fs) fs left text more (turn.behind a b es [] fs text first) second

  pub carried-none : (kept : Kept) (seen : X) (old : Option (List ℕ)) → g.rests seen → Carried g kept seen [] kept seen old old
  carried-none kept seen old rests = record {
    es = [];
    text = [];
    reads = reads-none (g.tables seen) kept (g.moment seen);
    writes = turn.nothing seen [];
    rests = rests;
    taken = takes_none old;
  }

  -- some bytes, and then others
  pub carried-then : (before mid after : Kept) (seen there now : X) (bytes more : List ℕ) (old between new : Option (List ℕ)) →
      Carried g before seen bytes mid there old between → Carried g mid there more after now between new → Carried g before seen (bytes ++ more) after now old new
  carried-then before mid after seen there now bytes more old between new first second = record {
    es = first.es ++ second.es;
    text = first.text ++ second.text;
    reads = reads-then (g.tables seen) before mid after _ _ _ bytes more first.es second.es first.reads
        (by_tables (λ setup. Reads setup mid (g.moment there) more second.es after (g.moment now)) seen there first.es first.text first.writes second.reads);
    writes = writes-then seen there now first.es second.es [] first.text second.text first.writes second.writes;
    rests = second.rests;
    taken = takes_more old between new first.text second.text first.taken second.taken;
  }

  -- bytes that the reader has taken
  pub carried-fed : (before after : Kept) (seen : X) (bytes : List ℕ) (old : Option (List ℕ)) → g.rests seen →
      ((setup : Setup) (now : ℕ) (rest : List ℕ) → read_on setup after now rest ≡ read_on setup before now (bytes ++ rest)) →
      ((setup : Setup) (now : ℕ) (rest : List ℕ) → ended_on setup after now rest ≡ ended_on setup before now (bytes ++ rest)) →
      Carried g before seen bytes after seen old old
  carried-fed before after seen bytes old rests read ended = record {
    es = [];
    text = [];
    reads = record {
      all = λ rest. sym (read (g.tables seen) (g.moment seen) rest);
      ended = λ rest. sym (ended (g.tables seen) (g.moment seen) rest);
    };
    writes = turn.nothing seen [];
    rests = rests;
    taken = takes_none old;
  }

  -- no line, or one that is skipped
  pub carried-nothing : (before after : Kept) (seen : X) (held : Setup) (moment : ℕ) (answer : Next) (old : Option (List ℕ)) → g.rests seen → held ≡ g.tables seen →
      moment ≡ g.moment seen → (answer ≡ next.Blank) ⊎ (answer ≡ next.Partial) → Answers read_on held moment before after (Ok answer) →
      Answers ended_on held moment before after (Ok answer) → Carried g before seen [] after seen old old
  carried-nothing before after seen held moment answer old rests same at is read ended = record {
    es = [];
    text = [];
    reads = reads-nothing is;
    writes = turn.nothing seen [];
    rests = rests;
    taken = takes_none old;
  }
    where
      reads-nothing : (answer ≡ next.Blank) ⊎ (answer ≡ next.Partial) → Reads (g.tables seen) before (g.moment seen) [] [] after (g.moment seen)
      reads-nothing (inl e) = record {
        all = answers_as read_on held (g.tables seen) moment (g.moment seen) before after (Ok answer) (Ok next.Blank) same at (ap Ok e) read;
        ended = answers_as ended_on held (g.tables seen) moment (g.moment seen) before after (Ok answer) (Ok next.Blank) same at (ap Ok e) ended;
      }
      reads-nothing (inr e) = record {
        all = answers_as read_on held (g.tables seen) moment (g.moment seen) before after (Ok answer) (Ok next.Partial) same at (ap Ok e) read;
        ended = answers_as ended_on held (g.tables seen) moment (g.moment seen) before after (Ok answer) (Ok next.Partial) same at (ap Ok e) ended;
      }

  -- a line that is an entry
  pub carried-entry : (before after : Kept) (seen now : X) (answer : Next) (entry : Entry) (text : List ℕ) (held : Setup) (moment : ℕ)
      (old new : Option (List ℕ)) → held ≡ g.tables seen → moment ≡ g.moment seen → answer ≡ next.Entry entry →
      Answers read_on held moment before after (Ok answer) → Answers ended_on held moment before after (Ok answer) →
      g.moment now ≡ moment_after (g.moment seen) entry → g.writes seen (entry ∷ []) [] now text → g.rests now → Takes old new text →
      Carried g before seen [] after now old new
  carried-entry before after seen now answer entry text held moment old new same at is read ended later writes rests taken =
      let setup : Setup = g.tables seen in
      let whole = answers_as read_on held setup moment (g.moment seen) before after (Ok answer) (Ok (next.Entry entry)) same at (ap Ok is) read in
      let some = answers_as ended_on held setup moment (g.moment seen) before after (Ok answer) (Ok (next.Entry entry)) same at (ap Ok is) ended in record {
        es = entry ∷ [];
        text = text;
        reads = record {
          all = λ rest. whole rest ∙ ap (λ m. with_front (entry ∷ []) (read_on setup after m rest)) (sym later);
          ended = λ rest. some rest ∙ ap (λ m. with_front (entry ∷ []) (ended_on setup after m rest)) (sym later);
        };
        writes = writes;
        rests = rests;
        taken = taken;
      }

  -- HOW IT FAILS

  -- a line that is refused
  pub fails-bad : (before after : Kept) (seen : X) (bad : BadLine) (held : Setup) (moment : ℕ) (old : Option (List ℕ)) (failed : Type 0) → g.rests seen →
      held ≡ g.tables seen → moment ≡ g.moment seen → Answers read_on held moment before after (Err bad) → Answers ended_on held moment before after (Err bad) →
      IsFailure g (failure.Refused (Journal bad.line bad.code)) before seen [] seen old old failed
  fails-bad before after seen bad held moment old failed rests same at read ended =
      let setup : Setup = g.tables seen in (
        bad.line,
        bad.code,
        refl,
        record {
          es = [];
          text = [];
          reads = record {
            all = answers_as read_on held setup moment (g.moment seen) before after (Err bad) (Err bad) same at refl read;
            ended = answers_as ended_on held setup moment (g.moment seen) before after (Err bad) (Err bad) same at refl ended;
          };
          writes = turn.nothing seen [];
          rests = rests;
          taken = takes_none old;
        },
      )

  -- a line of which the output was cut off
  pub cut-entry : (before after : Kept) (seen now : X) (answer : Next) (entry : Entry) (left : List Entry) (text : List ℕ) (held : Setup) (moment : ℕ)
      (old new : Option (List ℕ)) → held ≡ g.tables seen → moment ≡ g.moment seen → answer ≡ next.Entry entry →
      Answers read_on held moment before after (Ok answer) → Answers ended_on held moment before after (Ok answer) →
      g.writes seen (entry ∷ []) left now text → TakesFront old new text → CutShort g before seen [] now old new
  cut-entry before after seen now answer entry left text held moment old new same at is read ended writes front =
      let setup : Setup = g.tables seen in
      let there : ℕ = moment_after (g.moment seen) entry in record {
        es = entry ∷ [];
        left = left;
        text = text;
        reads = record {
          all = λ rest. (
            read_on setup after there rest,
            answers_as read_on held setup moment (g.moment seen) before after (Ok answer) (Ok (next.Entry entry)) same at (ap Ok is) read rest,
          );
          ended = λ rest. (
            ended_on setup after there rest,
            answers_as ended_on held setup moment (g.moment seen) before after (Ok answer) (Ok (next.Entry entry)) same at (ap Ok is) ended rest,
          );
        };
        writes = writes;
        taken = front;
      }

  -- the bytes behind some that were carried out fail
  pub fails-then : (before mid : Kept) (seen there now : X) (bytes more : List ℕ) (old between new : Option (List ℕ)) (why : Failure) (failed wider : Type 0) →
      (failed → wider) → Carried g before seen bytes mid there old between → IsFailure g why mid there more now between new failed →
      IsFailure g why before seen (bytes ++ more) now old new wider
  fails-then before mid seen there now bytes more old between new (failure.Refused refusal) failed wider widen first (line, code, is, bad) = (
    line,
    code,
    is,
    record {
      es = first.es ++ bad.es;
      text = first.text ++ bad.text;
      reads = such-then (g.tables seen) before mid _ _ bytes more first.es (λ found. found ≡ record { accepted = bad.es; ending = Bad line code })
          (λ found. found ≡ record { accepted = first.es ++ bad.es; ending = Bad line code }) (bad_behind first.es bad.es line code) first.reads
          (by_tables (λ setup. ReadsSuch setup mid (g.moment there) more (λ found. found ≡ record { accepted = bad.es; ending = Bad line code })) seen there first.es
          first.text first.writes bad.reads);
      writes = writes-then seen there now first.es bad.es [] first.text bad.text first.writes bad.writes;
      rests = bad.rests;
      taken = takes_more old between new first.text bad.text first.taken bad.taken;
    },
  )
  fails-then before mid seen there now bytes more old between new failure.WriteFault failed wider widen first (cause, cut) = (
    widen cause,
    record {
      es = first.es ++ cut.es;
      left = cut.left;
      text = first.text ++ cut.text;
      reads = such-then (g.tables seen) before mid _ _ bytes more first.es (BeginsWith cut.es) (BeginsWith (first.es ++ cut.es))
          (begins_behind first.es cut.es) first.reads
          (by_tables (λ setup. ReadsSuch setup mid (g.moment there) more (BeginsWith cut.es)) seen there first.es first.text first.writes cut.reads);
      writes = writes-then seen there now first.es cut.es cut.left first.text cut.text first.writes cut.writes;
      taken = takes_front_more old between new first.text cut.text first.taken cut.taken;
    },
  )

  -- and with more bytes behind
  pub fails-behind : (before : Kept) (seen now : X) (bytes more : List ℕ) (old new : Option (List ℕ)) (why : Failure) (failed : Type 0) →
      IsFailure g why before seen bytes now old new failed → IsFailure g why before seen (bytes ++ more) now old new failed
  fails-behind before seen now bytes more old new (failure.Refused refusal) failed (line, code, is, bad) = (
    line,
    code,
    is,
    record {
      es = bad.es;
      text = bad.text;
      reads = such-behind (g.tables seen) before _ bytes more (λ found. found ≡ record { accepted = bad.es; ending = Bad line code }) bad.reads;
      writes = bad.writes;
      rests = bad.rests;
      taken = bad.taken;
    },
  )
  fails-behind before seen now bytes more old new failure.WriteFault failed (cause, cut) = (
    cause,
    record {
      es = cut.es;
      left = cut.left;
      text = cut.text;
      reads = such-behind (g.tables seen) before _ bytes more (BeginsWith cut.es) cut.reads;
      writes = cut.writes;
      taken = cut.taken;
    },
  )

  -- ONE MORE LINE

  -- bytes that the reader took, and what stands whole then
  pub carried-line : (before mid fed after : Kept) (seen there now : X) (bytes piece : List ℕ) (old between new : Option (List ℕ)) →
      Carried g before seen bytes mid there old between →
      ((setup : Setup) (now : ℕ) (rest : List ℕ) → read_on setup fed now rest ≡ read_on setup mid now (piece ++ rest)) →
      ((setup : Setup) (now : ℕ) (rest : List ℕ) → ended_on setup fed now rest ≡ ended_on setup mid now (piece ++ rest)) →
      Carried g fed there [] after now between new → Carried g before seen (bytes ++ piece) after now old new
  carried-line before mid fed after seen there now bytes piece old between new first read ended second =
      carried-then before mid after seen there now bytes piece old between new first
      (subst (λ all. Carried g mid there all after now between new) (append_nil piece)
      (carried-then mid fed after there there now piece [] between between new (carried-fed mid fed there piece between first.rests read ended) second))

  pub fails-line : (before mid fed : Kept) (seen there now : X) (bytes piece : List ℕ) (old between new : Option (List ℕ)) (why : Failure) (failed wider : Type 0) →
      (failed → wider) → Carried g before seen bytes mid there old between →
      ((setup : Setup) (now : ℕ) (rest : List ℕ) → read_on setup fed now rest ≡ read_on setup mid now (piece ++ rest)) →
      ((setup : Setup) (now : ℕ) (rest : List ℕ) → ended_on setup fed now rest ≡ ended_on setup mid now (piece ++ rest)) →
      IsFailure g why fed there [] now between new failed → IsFailure g why before seen (bytes ++ piece) now old new wider
  fails-line before mid fed seen there now bytes piece old between new why failed wider widen first read ended fails =
      fails-then before mid seen there now bytes piece old between new why failed wider widen first
      (subst (λ all. IsFailure g why mid there all now between new failed) (append_nil piece)
      (fails-then mid fed there there now piece [] between between new why failed failed (λ f. f) (carried-fed mid fed there piece between first.rests read ended)
      fails))

-- what is in front of a piece's rest, and one more part of it
pub more_front : (piece bytes left : List ℕ) (n : ℕ) → piece ≡ bytes ++ left → piece ≡ (bytes ++ take n left) ++ drop n left
more_front piece bytes left n e =
    e ∙ ap (λ x. bytes ++ x) (sym (take-append-drop n left)) ∙ sym (append_assoc bytes (take n left) (drop n left))

-- as the code asks whether bytes are left
pub some_left : (b : Bool) (n : ℕ) → b ≡ (n == 0) → b ≡ false → 0 < n
some_left b zero is more = absurd (cc)
some_left b (suc n) is more = omega arith

pub none_left : (b : Bool) (bytes : List ℕ) → b ≡ (length bytes == 0) → b ≡ true → bytes ≡ []
none_left b [] is empty = refl
none_left b (byte ∷ bytes) is empty = absurd (omega (arith, eqb-true (length (byte ∷ bytes)) 0 (sym is ∙ empty)))

-- AT THE START

pub begins_open : (kept : Kept) → IsUnread kept → HasNoWhole kept
begins_open kept unread = record {
  unrefused = unread.unrefused;
  partial = unread.partial;
  unended = ap ended_lines unread.empty;
  last = λ finished. unread.empty;
}

pub new_unread : (kept : Kept) → kept ≡ begin → IsUnread kept
new_unread kept new = subst IsUnread (sym new) (record { none = refl; empty = refl; partial = refl; unfinished = refl; unrefused = refl })

pub new_first : (kept : Kept) (moment : ℕ) → kept ≡ begin → moment ≡ 0 → reading_at kept moment ≡ start
new_first kept moment new none = ap₂ reading_at new none
