-- Laws of journals that come in pieces, from the first piece to the last.
use Rattle.std.proofs.Common.{◌≡◌, ◌≢◌, ◌<◌, ◌≤◌, ℕ, ◌+◌, List, [], ◌∷◌, ◌++◌, true, false, codes, nat_lt, length, take, Result, Ok, Err, OnOk, refl, ap, ap₂, sym, ◌∙◌, arith, inl, inr}
use Rattle.std.specs.List.{concat}
use Rattle.std.proofs.Math.Seq.{take-append-add}
use Rattle.std.proofs.lemmas.Bool.{cases_lt, le-ltb, lt-ltb, ne_eqb}
use Rattle.std.proofs.lemmas.List.{append_assoc, append-nil, length-append, length-take, take-append-le, take-take, take_all}
use Rattle.pearl_rules.specs.declared.setup.Setup.{Setup}
use Rattle.pearl_journal.specs.declared.limits.TheConstants.{LINE_LIMIT, LINE_ROOM, NO_FORM}
use Rattle.pearl_journal.specs.declared.lines.BadLine.{BadLine}
use Rattle.pearl_journal.specs.declared.lines.Next.{Next}
use Rattle.pearl_journal.specs.declared.lines.Next.TheVariants as next
use Rattle.pearl_journal.specs.Cuts.{fed_each, read_pieces, taken_of}
use Rattle.pearl_journal.specs.Entries.{All, Entries, entries, entries_from}
use Rattle.pearl_journal.specs.Laws.{EndsInNoReturn, SaysWordAndText}
use Rattle.pearl_journal.specs.Lines.{ended_lines, journal_lines, line_end}
use Rattle.pearl_journal.specs.Meaning.{meaning}
use Rattle.pearl_journal.specs.Pieces.{HasNoWhole, IsKept, Kept, answer_of, begin, begin_later, fed, finished, kept_after, moment_said, read_on, reading_at, said, taken, told, told_if}
use Rattle.pearl_journal.specs.Readings.{Reading}
use Rattle.pearl_journal.proofs.MeaningLaws.{blanks_free, meaning-long, returns_dropped}
use Rattle.pearl_journal.proofs.PieceLaws.{answer_none, answer_read, begin_kept, fed_kept, fed_read, finished_after, finished_kept, finished_read, line_end-behind, none_read, too_long, unended_append, unended_first, unended_more, unended_rest}

-- ANSWERS ONE AFTER ANOTHER

kept_if : (kept : Kept) (answer : Result Next BadLine) → IsKept kept → OnOk answer (HasNoWhole (kept_after kept answer)) →
    OnOk answer (IsKept (kept_after kept answer))
kept_if kept (Ok (next.Entry entry)) h none = record { short = omega arith; unended = refl; stays = λ _. none.unrefused; last = λ _ _. refl }
kept_if kept (Ok next.Blank) h none = record { short = omega arith; unended = refl; stays = λ _. none.unrefused; last = λ _ _. refl }
kept_if kept (Ok next.Partial) h none = h
kept_if kept (Err bad) h none = tt

-- behind a refusal nothing counts
said_same : (answer : Result Next BadLine) (later other : Entries) → OnOk answer (later ≡ other) → said answer later ≡ said answer other
said_same (Ok (next.Entry entry)) later other h = ap (λ es. said (Ok (next.Entry entry)) es) h
said_same (Ok next.Blank) later other h = h
said_same (Ok next.Partial) later other h = h
said_same (Err bad) later other h = refl

if_ok : (answer : Result Next BadLine) (P Q : Type 0) → OnOk answer P → (P → Q) → OnOk answer Q
if_ok (Ok x) P Q h f = f h
if_ok (Err bad) P Q h f = tt

ok_both : (answer : Result Next BadLine) (P Q : Type 0) → OnOk answer P → OnOk answer Q → OnOk answer (P × Q)
ok_both (Ok x) P Q h k = (h, k)
ok_both (Err bad) P Q h k = tt

pieces_on : (setup : Setup) (kept : Kept) (now : ℕ) (pieces : List (List ℕ)) → IsKept kept → HasNoWhole kept → kept.is_finished ≡ false →
    read_pieces setup kept now pieces ≡ read_on setup kept now (taken_of pieces)
pieces_on setup kept now [] h none open_end =
    let end = finished kept in
    let answer = answer_of setup end now in
    let left = kept_after end answer in
    let last = answer_none setup end now (finished_kept kept h) in
    sym (
    sym (finished_read setup kept end now h.unended refl) ∙
    answer_read setup end left now [] answer h.unended refl refl ∙
    said_same answer (read_on setup left (moment_said now answer) []) (record { accepted = []; ending = All })
    (if_ok answer (HasNoWhole left) (read_on setup left (moment_said now answer) [] ≡ record { accepted = []; ending = All }) last
    (λ n. none_read setup left (moment_said now answer) n (finished_after end answer)))
    )
pieces_on setup kept now (piece ∷ pieces) h none open_end =
    let more = fed kept piece in
    let stays : IsKept more = fed_kept kept piece none.partial open_end h in
    let answer = answer_of setup more now in
    let left = kept_after more answer in
    let after = answer_none setup more now stays in
    let rest = taken_of pieces in
    said_same answer (read_pieces setup left (moment_said now answer) pieces) (read_on setup left (moment_said now answer) rest)
    (if_ok answer (IsKept left × HasNoWhole left) (read_pieces setup left (moment_said now answer) pieces ≡ read_on setup left (moment_said now answer) rest)
    (ok_both answer (IsKept left) (HasNoWhole left) (kept_if more answer stays after) after)
    (λ both. pieces_on setup left (moment_said now answer) pieces both.0 both.1 (finished_after more answer ∙ open_end))) ∙
    sym (answer_read setup more left now rest answer stays.unended refl refl) ∙
    fed_read setup kept more now (taken piece) piece rest none.partial h.unended refl refl

begin_none : HasNoWhole begin
begin_none = record { unrefused = refl; partial = refl; unended = refl; last = λ _. refl }

pub pieces_entries : (setup : Setup) (pieces : List (List ℕ)) → read_pieces setup begin 0 pieces ≡ entries setup (journal_lines (taken_of pieces))
pieces_entries setup pieces = pieces_on setup begin 0 pieces begin_kept begin_none refl

pub pieces_same : (setup : Setup) (pieces others : List (List ℕ)) → taken_of pieces ≡ taken_of others →
    read_pieces setup begin 0 pieces ≡ read_pieces setup begin 0 others
pieces_same setup pieces others e =
    pieces_entries setup pieces ∙ ap (λ bytes. entries setup (journal_lines bytes)) e ∙ sym (pieces_entries setup others)

-- A JOURNAL THAT GOES ON WITH A RUN

later_kept : IsKept begin_later
later_kept = record { short = omega arith; unended = refl; stays = λ h. refl; last = λ h k. refl }

later_none : HasNoWhole begin_later
later_none = record { unrefused = refl; partial = refl; unended = refl; last = λ _. refl }

pub pieces_later : (setup : Setup) (now : ℕ) (pieces : List (List ℕ)) →
    read_pieces setup begin_later now pieces ≡ entries_from setup (reading_at begin_later now) (journal_lines (taken_of pieces))
pieces_later setup now pieces = pieces_on setup begin_later now pieces later_kept later_none refl

-- SEAMS

take_seam : (most : ℕ) (front back : List ℕ) → take most (take most front ++ back) ≡ take most (front ++ back)
take_seam most front back = elim (cases_lt most (length front)) [
  | inl h ↦
      let full : length (take most front) ≡ most = omega (arith, length-take most front) in
      take-append-le most (take most front) back (omega arith) ∙ take-take most most front (omega arith) ∙ sym (take-append-le most front back (omega arith))
  | inr h ↦ ap (λ bytes. take most (bytes ++ back)) (take_all most front h)
]

no_end : (bytes : List ℕ) → ended_lines bytes ≡ [] → line_end bytes ≡ length bytes
no_end bytes h = omega (arith, line_end-behind bytes [] h, ap line_end (append-nil bytes))

front_whole : (bytes : List ℕ) → ended_lines bytes ≡ [] → take (line_end bytes) bytes ≡ bytes
front_whole bytes h = take_all (line_end bytes) bytes (omega (arith, no_end bytes h))

fronts_joined : (front back : List ℕ) → ended_lines front ≡ [] →
    take (line_end (front ++ back)) (front ++ back) ≡ front ++ take (line_end back) back
fronts_joined front back h = ap (λ n. take n (front ++ back)) (line_end-behind front back h) ∙ take-append-add front back (line_end back)

lt_more : (a b c : ℕ) → nat_lt (c + a) (c + b) ≡ nat_lt a b
lt_more a b c = elim (cases_lt a b) [
  | inl h ↦ lt-ltb (c + a) (c + b) (omega arith) ∙ sym (lt-ltb a b h)
  | inr h ↦ le-ltb (c + a) (c + b) (omega arith) ∙ sym (le-ltb a b h)
]

pub fed_joined : (kept : Kept) (front back : List ℕ) → ended_lines front ≡ [] → fed (fed kept front) back ≡ fed kept (front ++ back)
fed_joined kept front back h =
    let standing : take LINE_ROOM (take LINE_ROOM (kept.standing ++ take (line_end front) front) ++ take (line_end back) back) ≡
    take LINE_ROOM (kept.standing ++ take (line_end (front ++ back)) (front ++ back)) =
    take_seam LINE_ROOM (kept.standing ++ take (line_end front) front) (take (line_end back) back) ∙
    ap (take LINE_ROOM) (append_assoc kept.standing (take (line_end front) front) (take (line_end back) back) ∙
    ap (λ bytes. kept.standing ++ bytes) (ap (λ bytes. bytes ++ take (line_end back) back) (front_whole front h) ∙ sym (fronts_joined front back h))) in
    let ends : nat_lt (line_end back) (length back) ≡ nat_lt (line_end (front ++ back)) (length (front ++ back)) =
    sym (ap₂ nat_lt (line_end-behind front back h) (length-append front back) ∙ lt_more (line_end back) (length back) (length front)) in
    ap₂ (λ bytes whole. record kept { standing = bytes; is_whole = whole }) standing ends

-- a whole line stands behind the standing bytes
fed_line : (kept : Kept) (line rest : List ℕ) → ended_lines line ≡ [] →
    fed kept (line ++ 10 ∷ rest) ≡ record kept { standing = take LINE_ROOM (kept.standing ++ line); is_whole = true }
fed_line kept line rest h =
    let standing : take LINE_ROOM (kept.standing ++ take (line_end (line ++ 10 ∷ rest)) (line ++ 10 ∷ rest)) ≡ take LINE_ROOM (kept.standing ++ line) =
    ap (λ bytes. take LINE_ROOM (kept.standing ++ bytes)) (fronts_joined line (10 ∷ rest) h ∙ append-nil line) in
    let ends : nat_lt (line_end (line ++ 10 ∷ rest)) (length (line ++ 10 ∷ rest)) ≡ true =
    lt-ltb (line_end (line ++ 10 ∷ rest)) (length (line ++ 10 ∷ rest)) (omega (arith, line_end-behind line (10 ∷ rest) h, length-append line (10 ∷ rest))) in
    ap₂ (λ bytes whole. record kept { standing = bytes; is_whole = whole }) standing ends

-- a line that is too long means the same once it is cut
cut_means : (setup : Setup) (reading : Reading) (line : List ℕ) → meaning setup reading (take LINE_ROOM line) ≡ meaning setup reading line
cut_means setup reading line = elim (cases_lt LINE_ROOM (length line)) [
  | inl long ↦ too_long setup reading (take LINE_ROOM line) (omega (arith, length-take LINE_ROOM line)) ∙ sym (too_long setup reading line (omega arith))
  | inr short ↦ ap (meaning setup reading) (take_all LINE_ROOM line short)
]

with_return : (bytes : List ℕ) → ended_lines bytes ≡ [] → ended_lines (bytes ++ 13 ∷ []) ≡ []
with_return bytes h = unended_append bytes (13 ∷ []) h refl

pub return_dropped : (setup : Setup) (kept : Kept) (now : ℕ) (bytes rest : List ℕ) → ended_lines bytes ≡ [] → EndsInNoReturn (kept.standing ++ bytes) →
    answer_of setup (fed (fed kept (bytes ++ 13 ∷ [])) (10 ∷ rest)) now ≡ answer_of setup (fed kept (bytes ++ 10 ∷ rest)) now
return_dropped setup kept now bytes rest h ends =
    let reading = reading_at kept now in
    let line = kept.standing ++ bytes in
    ap (λ k. answer_of setup k now)
    (fed_joined kept (bytes ++ 13 ∷ []) (10 ∷ rest) (with_return bytes h) ∙ fed_line kept (bytes ++ 13 ∷ []) rest (with_return bytes h)) ∙
    ap (λ means. told_if kept.refused true (told (kept.lines + 1) means)) (
    cut_means setup reading (kept.standing ++ (bytes ++ 13 ∷ [])) ∙
    ap (meaning setup reading) (sym (append_assoc kept.standing bytes (13 ∷ []))) ∙
    returns_dropped setup reading line ends ∙ sym (cut_means setup reading line)
    ) ∙
    sym (ap (λ k. answer_of setup k now) (fed_line kept bytes rest h))

pub return_stands : (kept : Kept) (bytes rest : List ℕ) (byte : ℕ) → ended_lines bytes ≡ [] → byte ≢ 10 →
    (fed (fed kept (bytes ++ 13 ∷ [])) (byte ∷ 10 ∷ rest)).standing ≡ take LINE_ROOM (kept.standing ++ (bytes ++ 13 ∷ byte ∷ []))
return_stands kept bytes rest byte h other =
    let two : ended_lines (13 ∷ byte ∷ []) ≡ [] = rw (ne_eqb byte 10 other) refl in
    ap (λ k. k.standing) (
    fed_joined kept (bytes ++ 13 ∷ []) (byte ∷ 10 ∷ rest) (with_return bytes h) ∙
    ap (fed kept) (append_assoc bytes (13 ∷ []) (byte ∷ 10 ∷ rest) ∙ sym (append_assoc bytes (13 ∷ byte ∷ []) (10 ∷ rest))) ∙
    fed_line kept (bytes ++ 13 ∷ byte ∷ []) rest (unended_append bytes (13 ∷ byte ∷ []) h two)
    )

-- `clock` as the first line of a journal that goes on with a run
pub clock_again : (setup : Setup) (now : ℕ) (line text rest : List ℕ) → SaysWordAndText line (codes "clock") text →
    EndsInNoReturn line → length line ≤ LINE_LIMIT → ended_lines line ≡ [] →
    answer_of setup (fed begin_later (line ++ 10 ∷ rest)) now ≡ Err (record { line = 1; code = NO_FORM })
clock_again setup now line text rest says ends short h =
    let reading = reading_at begin_later now in
    ap (λ k. answer_of setup k now) (fed_line begin_later line rest h) ∙
    ap (λ means. told 1 means)
    (cut_means setup reading line ∙ blanks_free setup reading line (codes "clock") text says ends short)

-- LONG LINES

unended_back : (front back : List ℕ) → ended_lines (front ++ back) ≡ [] → ended_lines back ≡ []
unended_back [] back h = h
unended_back (byte ∷ front) back h = unended_back front back (unended_rest byte (front ++ back) h)

unended_start : (front back : List ℕ) → ended_lines (front ++ back) ≡ [] → ended_lines front ≡ []
unended_start [] back h = refl
unended_start (byte ∷ front) back h =
    unended_more byte front (unended_first byte (front ++ back) h) (unended_start front back (unended_rest byte (front ++ back) h))

fed_nothing : (kept : Kept) → length kept.standing ≤ LINE_ROOM → kept.is_whole ≡ false → kept ≡ fed kept []
fed_nothing kept short partial =
    let same : kept.standing ≡ take LINE_ROOM (kept.standing ++ []) =
    sym (ap (take LINE_ROOM) (append-nil kept.standing) ∙ take_all LINE_ROOM kept.standing short) in
    ap₂ (λ bytes whole. record kept { standing = bytes; is_whole = whole }) same partial

each_joined : (kept : Kept) (pieces : List (List ℕ)) → length kept.standing ≤ LINE_ROOM → kept.is_whole ≡ false → ended_lines (concat pieces) ≡ [] →
    fed_each kept pieces ≡ fed kept (concat pieces)
each_joined kept [] short partial h = fed_nothing kept short partial
each_joined kept (piece ∷ pieces) short partial h =
    let one : ended_lines piece ≡ [] = unended_start piece (concat pieces) h in
    each_joined (fed kept piece) pieces (omega (arith, length-take LINE_ROOM (kept.standing ++ take (line_end piece) piece)))
    (le-ltb (line_end piece) (length piece) (omega (arith, no_end piece one))) (unended_back piece (concat pieces) h) ∙
    fed_joined kept piece (concat pieces) one

line_in_pieces : (kept : Kept) (pieces : List (List ℕ)) (rest : List ℕ) → HasNoWhole kept → kept.standing ≡ [] → ended_lines (concat pieces) ≡ [] →
    fed (fed_each kept pieces) (10 ∷ rest) ≡ record kept { standing = take LINE_ROOM (concat pieces); is_whole = true }
line_in_pieces kept pieces rest none empty h =
    ap (λ k. fed k (10 ∷ rest)) (each_joined kept pieces (omega (arith, ap length empty)) none.partial h) ∙
    fed_joined kept (concat pieces) (10 ∷ rest) h ∙ fed_line kept (concat pieces) rest h ∙
    ap (λ bytes. record kept { standing = take LINE_ROOM (bytes ++ concat pieces); is_whole = true }) empty

pub long_refused : (setup : Setup) (kept : Kept) (now : ℕ) (pieces : List (List ℕ)) (rest : List ℕ) → HasNoWhole kept → kept.standing ≡ [] →
    ended_lines (concat pieces) ≡ [] → EndsInNoReturn (concat pieces) → LINE_LIMIT < length (concat pieces) →
    answer_of setup (fed (fed_each kept pieces) (10 ∷ rest)) now ≡ Err (record { line = kept.lines + 1; code = NO_FORM })
long_refused setup kept now pieces rest none empty h ends long =
    ap (λ k. answer_of setup k now) (line_in_pieces kept pieces rest none empty h) ∙
    ap₂ (λ refused means. told_if refused true (told (kept.lines + 1) means)) none.unrefused
    (cut_means setup (reading_at kept now) (concat pieces) ∙ meaning-long setup (reading_at kept now) (concat pieces) ends long)

pub short_whole : (kept : Kept) (pieces : List (List ℕ)) (rest : List ℕ) → HasNoWhole kept → kept.standing ≡ [] → ended_lines (concat pieces) ≡ [] →
    length (concat pieces) ≤ LINE_LIMIT → (fed (fed_each kept pieces) (10 ∷ rest)).standing ≡ concat pieces
short_whole kept pieces rest none empty h short =
    ap (λ k. k.standing) (line_in_pieces kept pieces rest none empty h) ∙ take_all LINE_ROOM (concat pieces) (omega arith)
