-- Laws of a journal that is read in pieces: however it is cut, the same entries come.
use Rattle.std.proofs.Common.{◌≡◌, ◌<◌, ◌≤◌, ℕ, ◌+◌, ◌-◌, ◌⊎◌, ◌↔◌, suc, zero, List, [], ◌∷◌, ◌++◌, Bool, true, false, ◌||◌, ◌==◌, nat_lt, if◌then◌else◌, length, min, take, drop, Option, Some, None, Result, Ok, Err, OnOk, refl, ap, ap₂, sym, subst, ◌∙◌, add-one, arith, inl, inr}
use Rattle.std.proofs.lemmas.Bool.{both_ways, cases_lt, eqb-true, le-ltb, lt-ltb, ltb-false, ltb-true}
use Rattle.std.proofs.Math.Seq.{take-append-add}
use Rattle.std.proofs.lemmas.List.{append_assoc, append-nil, length-append, length-take, take_all, take_min}
use Rattle.pearl_rules.specs.declared.entry.Entry.{Entry}
use Rattle.pearl_rules.specs.declared.setup.Setup.{Setup}
use Rattle.pearl_rules.specs.Entries.{EntryFits}
use Rattle.pearl_journal.specs.declared.limits.TheConstants.{LINE_ROOM, NO_FORM}
use Rattle.pearl_journal.specs.declared.lines.BadLine.{BadLine}
use Rattle.pearl_journal.specs.declared.lines.Next.{Next}
use Rattle.pearl_journal.specs.declared.lines.Next.TheVariants as next
use Rattle.pearl_journal.specs.declared.reading.Line.{Line}
use Rattle.pearl_journal.specs.declared.reading.Line.TheVariants.{Blank, Item, Wrong}
use Rattle.pearl_journal.specs.Lines.{ended_lines, in_front_of_some, journal_lines, line_end, without_return}
use Rattle.pearl_journal.specs.Readings.{Reading}
use Rattle.pearl_journal.specs.Meaning.{meaning}
use Rattle.pearl_journal.specs.Entries.{All, Bad, IfItem, after, entries, entries_from, more_entries}
use Rattle.pearl_journal.specs.Pieces.{HasNoWhole, IfEntry, IsKept, IsPartial, Kept, answer_of, begin, bytes_from, ended_on, fed, finished, kept_after, moment_said, read_on, reading_at, said, taken, told, told_if, unless_refused}
use Rattle.pearl_journal.proofs.JournalLaws.{ended_lines-none, ended_lines-split, journal_lines-split, journal_lines-whole}
use Rattle.pearl_journal.proofs.FitLaws.{meaning-fits}
use Rattle.pearl_journal.proofs.MeaningLaws.{above_if}

-- BYTES OF ONE LINE

none_before : (byte : ℕ) (lines : List (List ℕ)) → in_front_of_some byte lines ≡ [] → lines ≡ []
none_before byte [] h = refl
none_before byte (line ∷ lines) h = absurd (cc)

no_line : (line : List ℕ) (lines : List (List ℕ)) → line ∷ lines ≡ [] → ⊥
no_line line lines h = cc

-- what is true of bytes that have no byte 10, byte by byte
unended_if : (is_end : Bool) (byte : ℕ) (lines : List (List ℕ)) → (if is_end then [] ∷ lines else in_front_of_some byte lines) ≡ [] →
    (is_end ≡ false) × (lines ≡ [])
unended_if true byte lines h = absurd (no_line [] lines h)
unended_if false byte lines h = (refl, none_before byte lines h)

pub unended_first : (byte : ℕ) (bytes : List ℕ) → ended_lines (byte ∷ bytes) ≡ [] → (byte == 10) ≡ false
unended_first byte bytes h = (unended_if (byte == 10) byte (ended_lines bytes) h).0

pub unended_rest : (byte : ℕ) (bytes : List ℕ) → ended_lines (byte ∷ bytes) ≡ [] → ended_lines bytes ≡ []
unended_rest byte bytes h = (unended_if (byte == 10) byte (ended_lines bytes) h).1

pub unended_more : (byte : ℕ) (bytes : List ℕ) → (byte == 10) ≡ false → ended_lines bytes ≡ [] → ended_lines (byte ∷ bytes) ≡ []
unended_more byte bytes other h = rw (other, h) refl

unended_take : (n : ℕ) (bytes : List ℕ) → ended_lines bytes ≡ [] → ended_lines (take n bytes) ≡ []
unended_take zero bytes h = refl
unended_take (suc n) [] h = refl
unended_take (suc n) (byte ∷ bytes) h =
    unended_more byte (take n bytes) (unended_first byte bytes h) (unended_take n bytes (unended_rest byte bytes h))

pub unended_append : (front back : List ℕ) → ended_lines front ≡ [] → ended_lines back ≡ [] → ended_lines (front ++ back) ≡ []
unended_append [] back h k = k
unended_append (byte ∷ front) back h k =
    unended_more byte (front ++ back) (unended_first byte front h) (unended_append front back (unended_rest byte front h) k)

take_if : (is_end : Bool) (byte n : ℕ) (bytes : List ℕ) → (byte == 10) ≡ is_end → ended_lines (take n bytes) ≡ [] →
    ended_lines (take (if is_end then 0 else n + 1) (byte ∷ bytes)) ≡ []
take_if true byte n bytes is h = refl
take_if false byte n bytes is h = rw (add-one n) (unended_more byte (take n bytes) is h)

-- the bytes before the first byte 10
pub unended_front : (piece : List ℕ) → ended_lines (take (line_end piece) piece) ≡ []
unended_front [] = refl
unended_front (byte ∷ bytes) = take_if (byte == 10) byte (line_end bytes) bytes refl (unended_front bytes)

-- a line and the byte 10 that ends it are the first line
journal_lines-line : (line rest : List ℕ) → ended_lines line ≡ [] → journal_lines (line ++ 10 ∷ rest) ≡ line ∷ journal_lines rest
journal_lines-line [] rest h = refl
journal_lines-line (byte ∷ line) rest h = rw (unended_first byte line h, journal_lines-line line rest (unended_rest byte line h)) refl

ended_lines-line : (line rest : List ℕ) → ended_lines line ≡ [] → ended_lines (line ++ 10 ∷ rest) ≡ line ∷ ended_lines rest
ended_lines-line [] rest h = refl
ended_lines-line (byte ∷ line) rest h = rw (unended_first byte line h, ended_lines-line line rest (unended_rest byte line h)) refl

-- the first byte 10 comes behind such bytes
pub line_end-behind : (line rest : List ℕ) → ended_lines line ≡ [] → line_end (line ++ rest) ≡ length line + line_end rest
line_end-behind [] rest h = omega arith
line_end-behind (byte ∷ line) rest h =
    let e = line_end-behind line rest (unended_rest byte line h) in
    rw (unended_first byte line h) (omega (arith, e))

-- bytes are put behind a line up to this length
pub put_cut : (most count : ℕ) (line bytes : List ℕ) → length line ≤ most → count ≡ min (most - length line) (length bytes) →
    line ++ take count bytes ≡ take most (line ++ bytes)
put_cut most count line bytes short e =
    let sum : length line + (most - length line) ≡ most = omega arith in
    ap (λ n. line ++ take n bytes) e ∙ ap (λ front. line ++ front) (take_min (most - length line) bytes) ∙
    sym (take-append-add line bytes (most - length line)) ∙ ap (λ n. take n (line ++ bytes)) sum

-- LINES THAT ARE TOO LONG

return_is_one : (line : List ℕ) → length line ≤ length (without_return line) + 1
return_is_one [] = omega arith
return_is_one (byte ∷ []) = omega arith
return_is_one (byte ∷ next ∷ rest) = omega (arith, return_is_one (next ∷ rest))

pub too_long : (setup : Setup) (reading : Reading) (line : List ℕ) → LINE_ROOM ≤ length line → meaning setup reading line ≡ Wrong NO_FORM
unfolding meaning
too_long setup reading line long = above_if setup reading (without_return line) (omega (arith, return_is_one line))

refused_first : (setup : Setup) (reading : Reading) (line : List ℕ) (lines : List (List ℕ)) → LINE_ROOM ≤ length line →
    entries_from setup reading (line ∷ lines) ≡ record { accepted = []; ending = Bad (reading.lines + 1) NO_FORM }
refused_first setup reading line lines long = rw (too_long setup reading line long) refl

first_length : (bytes : List ℕ) → line_end bytes < length bytes → length (take (line_end bytes) bytes) ≡ line_end bytes
first_length bytes h = omega (arith, length-take (line_end bytes) bytes)

-- where the first line is too long, nothing is accepted
long_read : (setup : Setup) (reading : Reading) (bytes : List ℕ) → LINE_ROOM ≤ line_end bytes → LINE_ROOM ≤ length bytes →
    entries_from setup reading (journal_lines bytes) ≡ record { accepted = []; ending = Bad (reading.lines + 1) NO_FORM }
long_read setup reading bytes far long = elim (cases_lt (line_end bytes) (length bytes)) [
  | inl h ↦ ap (entries_from setup reading) (journal_lines-split bytes h) ∙
      refused_first setup reading (take (line_end bytes) bytes) (journal_lines (drop (line_end bytes + 1) bytes)) (omega (arith, first_length bytes h))
  | inr h ↦ ap (entries_from setup reading) (journal_lines-whole bytes h (omega arith)) ∙ refused_first setup reading bytes [] long
]

-- of lines that are ended too
long_ended : (setup : Setup) (reading : Reading) (bytes : List ℕ) → LINE_ROOM ≤ line_end bytes → line_end bytes < length bytes →
    entries_from setup reading (ended_lines bytes) ≡ record { accepted = []; ending = Bad (reading.lines + 1) NO_FORM }
long_ended setup reading bytes far h =
    ap (entries_from setup reading) (ended_lines-split bytes h) ∙
    refused_first setup reading (take (line_end bytes) bytes) (ended_lines (drop (line_end bytes + 1) bytes)) (omega (arith, first_length bytes h))

-- CUTS

cut_long : (setup : Setup) (reading : Reading) (line rest : List ℕ) → ended_lines line ≡ [] → LINE_ROOM < length line →
    entries_from setup reading (journal_lines (take LINE_ROOM line ++ rest)) ≡ entries_from setup reading (journal_lines (line ++ rest))
cut_long setup reading line rest one long =
    let front : ended_lines (take LINE_ROOM line) ≡ [] = unended_take LINE_ROOM line one in
    let count = length-take LINE_ROOM line in
    long_read setup reading (take LINE_ROOM line ++ rest)
    (omega (arith, line_end-behind (take LINE_ROOM line) rest front, count)) (omega (arith, length-append (take LINE_ROOM line) rest, count)) ∙
    sym (long_read setup reading (line ++ rest) (omega (arith, line_end-behind line rest one)) (omega (arith, length-append line rest)))

cut_long_ended : (setup : Setup) (reading : Reading) (line rest : List ℕ) → ended_lines line ≡ [] → LINE_ROOM < length line →
    (line_end rest < length rest) ⊎ (length rest ≤ line_end rest) →
    entries_from setup reading (ended_lines (take LINE_ROOM line ++ rest)) ≡ entries_from setup reading (ended_lines (line ++ rest))
cut_long_ended setup reading line rest one long (inl ends) =
    let front : ended_lines (take LINE_ROOM line) ≡ [] = unended_take LINE_ROOM line one in
    let count = length-take LINE_ROOM line in
    let near = line_end-behind (take LINE_ROOM line) rest front in
    let far = line_end-behind line rest one in
    long_ended setup reading (take LINE_ROOM line ++ rest)
    (omega (arith, near, count)) (omega (arith, near, length-append (take LINE_ROOM line) rest)) ∙
    sym (long_ended setup reading (line ++ rest) (omega (arith, far)) (omega (arith, far, length-append line rest)))
cut_long_ended setup reading line rest one long (inr open_end) =
    let front : ended_lines (take LINE_ROOM line) ≡ [] = unended_take LINE_ROOM line one in
    let near = line_end-behind (take LINE_ROOM line) rest front in
    let far = line_end-behind line rest one in
    ap (entries_from setup reading) (ended_lines-none (take LINE_ROOM line ++ rest) (omega (arith, near, length-append (take LINE_ROOM line) rest)) ∙
    sym (ended_lines-none (line ++ rest) (omega (arith, far, length-append line rest))))

-- what comes of a line's bytes and of those that follow, where the line was cut because it is too long
cut_read : (setup : Setup) (reading : Reading) (line rest : List ℕ) → ended_lines line ≡ [] →
    entries_from setup reading (journal_lines (take LINE_ROOM line ++ rest)) ≡ entries_from setup reading (journal_lines (line ++ rest))
cut_read setup reading line rest one = elim (cases_lt LINE_ROOM (length line)) [
  | inl long ↦ cut_long setup reading line rest one long
  | inr short ↦ ap (λ bytes. entries_from setup reading (journal_lines (bytes ++ rest))) (take_all LINE_ROOM line short)
]

-- and of the lines that are ended
cut_ended : (setup : Setup) (reading : Reading) (line rest : List ℕ) → ended_lines line ≡ [] →
    entries_from setup reading (ended_lines (take LINE_ROOM line ++ rest)) ≡ entries_from setup reading (ended_lines (line ++ rest))
cut_ended setup reading line rest one = elim (cases_lt LINE_ROOM (length line)) [
  | inl long ↦ cut_long_ended setup reading line rest one long (cases_lt (line_end rest) (length rest))
  | inr short ↦ ap (λ bytes. entries_from setup reading (ended_lines (bytes ++ rest))) (take_all LINE_ROOM line short)
]

lt_suc : (a b : ℕ) → nat_lt (a + 1) (suc b) ≡ nat_lt a b
lt_suc a b = elim (cases_lt a b) [
  | inl h ↦ lt-ltb (a + 1) (suc b) (omega arith) ∙ sym (lt-ltb a b h)
  | inr h ↦ le-ltb (a + 1) (suc b) (omega arith) ∙ sym (le-ltb a b h)
]

-- the end of a piece's first line is part of what is taken
taken_if : (is_end : Bool) (byte n : ℕ) (bytes rest : List ℕ) → (byte == 10) ≡ is_end →
    take n bytes ++ (if nat_lt n (length bytes) then 10 ∷ rest else rest) ≡ take (min (n + 1) (length bytes)) bytes ++ rest →
    take (if is_end then 0 else n + 1) (byte ∷ bytes) ++ (if nat_lt (if is_end then 0 else n + 1) (length (byte ∷ bytes)) then 10 ∷ rest else rest) ≡
    take (min ((if is_end then 0 else n + 1) + 1) (length (byte ∷ bytes))) (byte ∷ bytes) ++ rest
taken_if true byte n bytes rest is e =
    let some : nat_lt 0 (suc (length bytes)) ≡ true = lt-ltb 0 (suc (length bytes)) (omega arith) in
    let one : min 1 (suc (length bytes)) ≡ 1 = omega arith in
    ap (λ test. if test then 10 ∷ rest else rest) some ∙ ap (λ b. b ∷ rest) (sym (eqb-true byte 10 is)) ∙
    sym (ap (λ k. take k (byte ∷ bytes) ++ rest) one)
taken_if false byte n bytes rest is e =
    let more : min (n + 1 + 1) (suc (length bytes)) ≡ suc (min (n + 1) (length bytes)) = omega arith in
    ap₂ (λ k test. take k (byte ∷ bytes) ++ (if test then 10 ∷ rest else rest)) (add-one n) (lt_suc n (length bytes)) ∙
    ap (λ xs. byte ∷ xs) e ∙ sym (ap (λ k. take k (byte ∷ bytes) ++ rest) more)

-- the bytes that are put behind the standing ones, and what follows, are the bytes that were taken and what follows
taken_bytes : (piece rest : List ℕ) →
    take (line_end piece) piece ++ (if nat_lt (line_end piece) (length piece) then 10 ∷ rest else rest) ≡ take (taken piece) piece ++ rest
taken_bytes [] rest = refl
taken_bytes (byte ∷ bytes) rest = taken_if (byte == 10) byte (line_end bytes) bytes rest refl (taken_bytes bytes rest)

fed_bytes : (kept : Kept) (piece rest : List ℕ) → kept.is_whole ≡ false →
    (kept.standing ++ take (line_end piece) piece) ++ (if nat_lt (line_end piece) (length piece) then 10 ∷ rest else rest) ≡
    bytes_from kept (take (taken piece) piece ++ rest)
fed_bytes kept piece rest partial =
    rw (partial) (append_assoc kept.standing (take (line_end piece) piece) (if nat_lt (line_end piece) (length piece) then 10 ∷ rest else rest) ∙
    ap (λ bytes. kept.standing ++ bytes) (taken_bytes piece rest))

-- WHAT A PIECE LEAVES

fed_read_all : (setup : Setup) (kept : Kept) (now : ℕ) (piece rest : List ℕ) → kept.is_whole ≡ false → ended_lines kept.standing ≡ [] →
    read_on setup (fed kept piece) now rest ≡ read_on setup kept now (take (taken piece) piece ++ rest)
fed_read_all setup kept now piece rest partial one =
    ap (unless_refused kept.refused) (
    cut_read setup (reading_at kept now) (kept.standing ++ take (line_end piece) piece)
    (if nat_lt (line_end piece) (length piece) then 10 ∷ rest else rest)
    (unended_append kept.standing (take (line_end piece) piece) one (unended_front piece)) ∙
    ap (λ bytes. entries_from setup (reading_at kept now) (journal_lines bytes)) (fed_bytes kept piece rest partial)
    )

-- the entries that follow are those that follow where the bytes that were taken come first
pub fed_read : (setup : Setup) (kept new : Kept) (now count : ℕ) (piece rest : List ℕ) → kept.is_whole ≡ false → ended_lines kept.standing ≡ [] →
    new ≡ fed kept piece → count ≡ taken piece → read_on setup new now rest ≡ read_on setup kept now (take count piece ++ rest)
fed_read setup kept new now count piece rest partial one is number =
    ap (λ later. read_on setup later now rest) is ∙ fed_read_all setup kept now piece rest partial one ∙
    sym (ap (λ n. read_on setup kept now (take n piece ++ rest)) number)

fed_ended_all : (setup : Setup) (kept : Kept) (now : ℕ) (piece rest : List ℕ) → kept.is_whole ≡ false → ended_lines kept.standing ≡ [] →
    ended_on setup (fed kept piece) now rest ≡ ended_on setup kept now (take (taken piece) piece ++ rest)
fed_ended_all setup kept now piece rest partial one =
    ap (unless_refused kept.refused) (
    cut_ended setup (reading_at kept now) (kept.standing ++ take (line_end piece) piece)
    (if nat_lt (line_end piece) (length piece) then 10 ∷ rest else rest)
    (unended_append kept.standing (take (line_end piece) piece) one (unended_front piece)) ∙
    ap (λ bytes. entries_from setup (reading_at kept now) (ended_lines bytes)) (fed_bytes kept piece rest partial)
    )

-- the entries that follow are those that follow where the bytes that were taken come first
pub fed_ended : (setup : Setup) (kept new : Kept) (now count : ℕ) (piece rest : List ℕ) → kept.is_whole ≡ false → ended_lines kept.standing ≡ [] →
    new ≡ fed kept piece → count ≡ taken piece → ended_on setup new now rest ≡ ended_on setup kept now (take count piece ++ rest)
fed_ended setup kept new now count piece rest partial one is number =
    ap (λ later. ended_on setup later now rest) is ∙ fed_ended_all setup kept now piece rest partial one ∙
    sym (ap (λ n. ended_on setup kept now (take n piece ++ rest)) number)

-- WHAT THE END OF A JOURNAL LEAVES

last_line : (bytes : List ℕ) (is_some : Bool) → nat_lt 0 (length bytes) ≡ is_some → ended_lines bytes ≡ [] →
    journal_lines (bytes ++ (if is_some then 10 ∷ [] else [])) ≡ journal_lines (bytes ++ [])
last_line bytes false is one = refl
last_line bytes true is one =
    journal_lines-line bytes [] one ∙ sym (ap journal_lines (append-nil bytes) ∙
    journal_lines-whole bytes (omega (arith, line_end-behind bytes [] one, ap line_end (append-nil bytes))) (ltb-true 0 (length bytes) is))

finished_if : (setup : Setup) (reading : Reading) (refused : Option BadLine) (bytes : List ℕ) (is_whole : Bool) → ended_lines bytes ≡ [] →
    unless_refused refused (entries_from setup reading (journal_lines (bytes ++ (if is_whole || nat_lt 0 (length bytes) then 10 ∷ [] else [])))) ≡
    unless_refused refused (entries_from setup reading (journal_lines (bytes ++ (if is_whole then 10 ∷ [] else []))))
finished_if setup reading refused bytes true one = refl
finished_if setup reading refused bytes false one =
    ap (λ lines. unless_refused refused (entries_from setup reading lines)) (last_line bytes (nat_lt 0 (length bytes)) refl one)

pub finished_read : (setup : Setup) (kept new : Kept) (now : ℕ) → ended_lines kept.standing ≡ [] → new ≡ finished kept →
    read_on setup new now [] ≡ read_on setup kept now []
finished_read setup kept new now one is =
    ap (λ later. read_on setup later now []) is ∙ finished_if setup (reading_at kept now) kept.refused kept.standing kept.is_whole one

-- WHAT AN ANSWER LEAVES

behind_line : (setup : Setup) (kept : Kept) (now : ℕ) (means : Line) (later : List (List ℕ)) (rest : List ℕ) → kept.refused ≡ None → later ≡ journal_lines rest →
    more_entries means (kept.lines + 1) (entries_from setup (after (reading_at kept now) means) later) ≡
    said (told (kept.lines + 1) means) (read_on setup (kept_after kept (told (kept.lines + 1) means)) (moment_said now (told (kept.lines + 1) means)) rest)
behind_line setup kept now Blank later rest free e = rw (free, e) refl
behind_line setup kept now (Item entry) later rest free e = rw (free, e) refl
behind_line setup kept now (Wrong code) later rest free e = refl

behind_ended : (setup : Setup) (kept : Kept) (now : ℕ) (means : Line) (later : List (List ℕ)) (rest : List ℕ) → kept.refused ≡ None → later ≡ ended_lines rest →
    more_entries means (kept.lines + 1) (entries_from setup (after (reading_at kept now) means) later) ≡
    said (told (kept.lines + 1) means) (ended_on setup (kept_after kept (told (kept.lines + 1) means)) (moment_said now (told (kept.lines + 1) means)) rest)
behind_ended setup kept now Blank later rest free e = rw (free, e) refl
behind_ended setup kept now (Item entry) later rest free e = rw (free, e) refl
behind_ended setup kept now (Wrong code) later rest free e = refl

read_whole : (setup : Setup) (kept : Kept) (now : ℕ) (rest : List ℕ) → kept.refused ≡ None → kept.is_whole ≡ true → ended_lines kept.standing ≡ [] →
    (let means = meaning setup (reading_at kept now) kept.standing in
    read_on setup kept now rest ≡
    said (told (kept.lines + 1) means) (read_on setup (kept_after kept (told (kept.lines + 1) means)) (moment_said now (told (kept.lines + 1) means)) rest))
read_whole setup kept now rest free whole one =
    ap₂ (λ refused test. unless_refused refused (entries_from setup (reading_at kept now) (journal_lines (kept.standing ++ (if test then 10 ∷ rest else rest)))))
    free whole ∙
    ap (entries_from setup (reading_at kept now)) (journal_lines-line kept.standing rest one) ∙
    behind_line setup kept now (meaning setup (reading_at kept now) kept.standing) (journal_lines rest) rest free refl

read_if : (setup : Setup) (kept : Kept) (now : ℕ) (rest : List ℕ) (refused : Option BadLine) (is_whole : Bool) →
    kept.refused ≡ refused → kept.is_whole ≡ is_whole → ended_lines kept.standing ≡ [] →
    (let answer = told_if refused is_whole (told (kept.lines + 1) (meaning setup (reading_at kept now) kept.standing)) in
    read_on setup kept now rest ≡ said answer (read_on setup (kept_after kept answer) (moment_said now answer) rest))
read_if setup kept now rest (Some bad) is_whole was is one = rw (was) refl
read_if setup kept now rest None true was is one = read_whole setup kept now rest was is one
read_if setup kept now rest None false was is one = refl

-- what an answer says comes first, and then what comes behind it
pub answer_read : (setup : Setup) (kept new : Kept) (now : ℕ) (rest : List ℕ) (answer : Result Next BadLine) → ended_lines kept.standing ≡ [] →
    answer ≡ answer_of setup kept now → new ≡ kept_after kept answer →
    read_on setup kept now rest ≡ said answer (read_on setup new (moment_said now answer) rest)
answer_read setup kept new now rest answer one is leaves =
    let law = read_if setup kept now rest kept.refused kept.is_whole refl refl one in
    subst (λ later. read_on setup kept now rest ≡ said answer (read_on setup later (moment_said now answer) rest)) (sym leaves)
    (subst (λ a. read_on setup kept now rest ≡ said a (read_on setup (kept_after kept a) (moment_said now a) rest)) (sym is) law)

ended_whole : (setup : Setup) (kept : Kept) (now : ℕ) (rest : List ℕ) → kept.refused ≡ None → kept.is_whole ≡ true → ended_lines kept.standing ≡ [] →
    (let means = meaning setup (reading_at kept now) kept.standing in
    ended_on setup kept now rest ≡
    said (told (kept.lines + 1) means) (ended_on setup (kept_after kept (told (kept.lines + 1) means)) (moment_said now (told (kept.lines + 1) means)) rest))
ended_whole setup kept now rest free whole one =
    ap₂ (λ refused test. unless_refused refused (entries_from setup (reading_at kept now) (ended_lines (kept.standing ++ (if test then 10 ∷ rest else rest)))))
    free whole ∙
    ap (entries_from setup (reading_at kept now)) (ended_lines-line kept.standing rest one) ∙
    behind_ended setup kept now (meaning setup (reading_at kept now) kept.standing) (ended_lines rest) rest free refl

ended_if : (setup : Setup) (kept : Kept) (now : ℕ) (rest : List ℕ) (refused : Option BadLine) (is_whole : Bool) →
    kept.refused ≡ refused → kept.is_whole ≡ is_whole → ended_lines kept.standing ≡ [] →
    (let answer = told_if refused is_whole (told (kept.lines + 1) (meaning setup (reading_at kept now) kept.standing)) in
    ended_on setup kept now rest ≡ said answer (ended_on setup (kept_after kept answer) (moment_said now answer) rest))
ended_if setup kept now rest (Some bad) is_whole was is one = rw (was) refl
ended_if setup kept now rest None true was is one = ended_whole setup kept now rest was is one
ended_if setup kept now rest None false was is one = refl

-- what an answer says comes first, and then what comes behind it
pub answer_ended : (setup : Setup) (kept new : Kept) (now : ℕ) (rest : List ℕ) (answer : Result Next BadLine) → ended_lines kept.standing ≡ [] →
    answer ≡ answer_of setup kept now → new ≡ kept_after kept answer →
    ended_on setup kept now rest ≡ said answer (ended_on setup new (moment_said now answer) rest)
answer_ended setup kept new now rest answer one is leaves =
    let law = ended_if setup kept now rest kept.refused kept.is_whole refl refl one in
    subst (λ later. ended_on setup kept now rest ≡ said answer (ended_on setup later (moment_said now answer) rest)) (sym leaves)
    (subst (λ a. ended_on setup kept now rest ≡ said a (ended_on setup (kept_after kept a) (moment_said now a) rest)) (sym is) law)

-- an entry that is told fits the moment
pub told_fits : (number : ℕ) (means : Line) (P : Entry → Type 0) → IfItem means P → IfEntry (told number means) P
told_fits number Blank P h = tt
told_fits number (Item entry) P h = h
told_fits number (Wrong code) P h = tt

if_fits : (refused : Option BadLine) (is_whole : Bool) (answer : Result Next BadLine) (P : Entry → Type 0) → IfEntry answer P →
    IfEntry (told_if refused is_whole answer) P
if_fits (Some bad) is_whole answer P h = tt
if_fits None true answer P h = h
if_fits None false answer P h = tt

pub answer_fits : (setup : Setup) (kept : Kept) (now : ℕ) → IfEntry (answer_of setup kept now) (EntryFits setup now)
answer_fits setup kept now =
    let means = meaning setup (reading_at kept now) kept.standing in
    if_fits kept.refused kept.is_whole (told (kept.lines + 1) means) (EntryFits setup now)
    (told_fits (kept.lines + 1) means (EntryFits setup now) (meaning-fits setup (reading_at kept now) kept.standing))

-- a whole line is told of
told_whole : (number : ℕ) (means : Line) → IsPartial (told number means) → ⊥
told_whole number Blank h = cc
told_whole number (Item entry) h = cc
told_whole number (Wrong code) h = cc

partial_if : (refused : Option BadLine) (is_whole : Bool) (number : ℕ) (means : Line) → (is_whole ≡ false → refused ≡ None) →
    IsPartial (told_if refused is_whole (told number means)) ↔ (is_whole ≡ false)
partial_if (Some bad) true number means stays = (λ h. absurd (cc), λ h. absurd (cc))
partial_if (Some bad) false number means stays = let e = stays refl in absurd (cc)
partial_if None true number means stays = (λ h. absurd (told_whole number means h), λ h. absurd (cc))
partial_if None false number means stays = (λ h. refl, λ h. refl)

pub answer_partial : (setup : Setup) (kept : Kept) (now : ℕ) → IsKept kept → IsPartial (answer_of setup kept now) ↔ (kept.is_whole ≡ false)
answer_partial setup kept now h =
    partial_if kept.refused kept.is_whole (kept.lines + 1) (meaning setup (reading_at kept now) kept.standing) h.stays

-- WHAT STAYS TRUE

pub begin_kept : IsKept begin
begin_kept = record { short = omega arith; unended = refl; stays = λ h. refl; last = λ h k. refl }

pub fed_kept : (kept : Kept) (piece : List ℕ) → kept.is_whole ≡ false → kept.is_finished ≡ false → IsKept kept → IsKept (fed kept piece)
fed_kept kept piece partial open_end h = record {
  short = omega (arith, length-take LINE_ROOM (kept.standing ++ take (line_end piece) piece));
  unended = unended_take LINE_ROOM (kept.standing ++ take (line_end piece) piece)
      (unended_append kept.standing (take (line_end piece) piece) h.unended (unended_front piece));
  stays = λ _. h.stays partial;
  last = λ ended _. absurd (both_ways kept.is_finished open_end ended);
}

or_false : (test other : Bool) → (test || other) ≡ false → (test ≡ false) × (other ≡ false)
or_false true other h = absurd (cc)
or_false false other h = (refl, h)

no_bytes : (bytes : List ℕ) → nat_lt 0 (length bytes) ≡ false → bytes ≡ []
no_bytes [] h = refl
no_bytes (byte ∷ bytes) h = absurd (omega (arith, ltb-false 0 (suc (length bytes)) h))

pub finished_kept : (kept : Kept) → IsKept kept → IsKept (finished kept)
finished_kept kept h = record {
  short = h.short;
  unended = h.unended;
  stays = λ partial. h.stays (or_false kept.is_whole (nat_lt 0 (length kept.standing)) partial).0;
  last = λ _ partial. no_bytes kept.standing (or_false kept.is_whole (nat_lt 0 (length kept.standing)) partial).1;
}

none_after_line : (kept : Kept) (number : ℕ) (means : Line) → kept.refused ≡ None → OnOk (told number means) (HasNoWhole (kept_after kept (told number means)))
none_after_line kept number Blank free = record { unrefused = free; partial = refl; unended = refl; last = λ h. refl }
none_after_line kept number (Item entry) free = record { unrefused = free; partial = refl; unended = refl; last = λ h. refl }
none_after_line kept number (Wrong code) free = tt

none_if : (kept : Kept) (refused : Option BadLine) (is_whole : Bool) (number : ℕ) (means : Line) → kept.refused ≡ refused → kept.is_whole ≡ is_whole → IsKept kept →
    OnOk (told_if refused is_whole (told number means)) (HasNoWhole (kept_after kept (told_if refused is_whole (told number means))))
none_if kept (Some bad) is_whole number means was is h = tt
none_if kept None true number means was is h = none_after_line kept number means was
none_if kept None false number means was is h = record { unrefused = was; partial = is; unended = h.unended; last = λ ended. h.last ended is }

pub answer_none : (setup : Setup) (kept : Kept) (now : ℕ) → IsKept kept →
    OnOk (answer_of setup kept now) (HasNoWhole (kept_after kept (answer_of setup kept now)))
answer_none setup kept now h =
    none_if kept kept.refused kept.is_whole (kept.lines + 1) (meaning setup (reading_at kept now) kept.standing) refl refl h

-- WHAT THOSE CITE WHO READ A JOURNAL

pub begin_reads : (setup : Setup) (rest : List ℕ) → read_on setup begin 0 rest ≡ entries setup (journal_lines rest)
begin_reads setup rest = refl

pub begin_ended : (setup : Setup) (rest : List ℕ) → ended_on setup begin 0 rest ≡ entries setup (ended_lines rest)
begin_ended setup rest = refl

-- where each whole line was taken, no line is ended any more
pub none_ended : (setup : Setup) (kept : Kept) (now : ℕ) → HasNoWhole kept → ended_on setup kept now [] ≡ record { accepted = []; ending = All }
none_ended setup kept now h = rw (h.unrefused, h.partial, append-nil kept.standing, h.unended) refl

-- and behind the end of the journal there is none
pub none_read : (setup : Setup) (kept : Kept) (now : ℕ) → HasNoWhole kept → kept.is_finished ≡ true → read_on setup kept now [] ≡ record { accepted = []; ending = All }
none_read setup kept now h ends = let e : kept.standing ≡ [] = h.last ends in rw (h.unrefused, h.partial, e) refl

pub taken_within : (piece : List ℕ) → taken piece ≤ length piece
taken_within piece = omega arith

pub taken_some : (piece : List ℕ) → 0 < length piece → 0 < taken piece
taken_some piece some = omega arith

-- a piece without a byte 10 is taken whole
pub fed_all : (kept : Kept) (piece : List ℕ) → (fed kept piece).is_whole ≡ false → taken piece ≡ length piece
fed_all kept piece partial = omega (arith, ltb-false (line_end piece) (length piece) partial)

-- one line more at most was taken
pub lines_at_most : (kept : Kept) (answer : Result Next BadLine) → (kept_after kept answer).lines ≤ kept.lines + 1
lines_at_most kept (Ok (next.Entry entry)) = omega arith
lines_at_most kept (Ok next.Blank) = omega arith
lines_at_most kept (Ok next.Partial) = omega arith
lines_at_most kept (Err bad) = omega arith

pub finished_after : (kept : Kept) (answer : Result Next BadLine) → (kept_after kept answer).is_finished ≡ kept.is_finished
finished_after kept (Ok (next.Entry entry)) = refl
finished_after kept (Ok next.Blank) = refl
finished_after kept (Ok next.Partial) = refl
finished_after kept (Err bad) = refl
