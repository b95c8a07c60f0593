-- Laws of a journal's lines, and of the entries that they have.
use Rattle.std.proofs.Common.{◌≡◌, ◌<◌, ◌≤◌, ℕ, ◌+◌, List, [], ◌∷◌, ◌++◌, Bool, true, false, length, take, drop, refl, ap, ◌==◌, arith, add-one}
use Rattle.std.proofs.lemmas.Bool.{ne_eqb}
use Rattle.std.specs.Bool.{if◌then◌else◌}
use Rattle.pearl_rules.specs.declared.entry.Entry.{Entry}
use Rattle.pearl_rules.specs.declared.setup.Setup.{Setup}
use Rattle.pearl_journal.specs.declared.reading.Line.{Line}
use Rattle.pearl_journal.specs.declared.reading.Line.TheVariants.{Blank, Item, Wrong}
use Rattle.pearl_journal.specs.Lines.{journal_lines, ended_lines, in_front, in_front_of_some, line_end, without_return}
use Rattle.pearl_journal.specs.Readings.{Reading}
use Rattle.pearl_journal.specs.Meaning.{meaning}
use Rattle.pearl_journal.specs.Entries.{All, Bad, Entries, after, more_entries, entries_from}

split_if : (is_end : Bool) (b : ℕ) (bs : List ℕ) (n : ℕ) → (if is_end then 0 else n + 1) < length bs + 1 →
    (n < length bs → journal_lines bs ≡ take n bs ∷ journal_lines (drop (n + 1) bs)) →
    (if is_end then [] ∷ journal_lines bs else in_front b (journal_lines bs)) ≡
    take (if is_end then 0 else n + 1) (b ∷ bs) ∷ journal_lines (drop ((if is_end then 0 else n + 1) + 1) (b ∷ bs))
split_if true b bs n h e = refl
split_if false b bs n h e =
    let e' : journal_lines bs ≡ take n bs ∷ journal_lines (drop (n + 1) bs) = e (omega arith) in rw (e', add-one (n + 1)) (rw (add-one n) refl)

-- the first line, and the bytes after its end
pub journal_lines-split : (bytes : List ℕ) → line_end bytes < length bytes → journal_lines bytes ≡ take (line_end bytes) bytes ∷ journal_lines (drop (line_end bytes + 1) bytes)
journal_lines-split [] h = absurd (omega arith)
journal_lines-split (b ∷ bs) h = split_if (b == 10) b bs (line_end bs) (omega arith) (journal_lines-split bs)

ended_if : (is_end : Bool) (b : ℕ) (bs : List ℕ) (n : ℕ) → (if is_end then 0 else n + 1) < length bs + 1 →
    (n < length bs → ended_lines bs ≡ take n bs ∷ ended_lines (drop (n + 1) bs)) →
    (if is_end then [] ∷ ended_lines bs else in_front_of_some b (ended_lines bs)) ≡
    take (if is_end then 0 else n + 1) (b ∷ bs) ∷ ended_lines (drop ((if is_end then 0 else n + 1) + 1) (b ∷ bs))
ended_if true b bs n h e = refl
ended_if false b bs n h e =
    let e' : ended_lines bs ≡ take n bs ∷ ended_lines (drop (n + 1) bs) = e (omega arith) in rw (e', add-one (n + 1)) (rw (add-one n) refl)

-- the same of the lines that are ended
pub ended_lines-split : (bytes : List ℕ) → line_end bytes < length bytes →
    ended_lines bytes ≡ take (line_end bytes) bytes ∷ ended_lines (drop (line_end bytes + 1) bytes)
ended_lines-split [] h = absurd (omega arith)
ended_lines-split (b ∷ bs) h = ended_if (b == 10) b bs (line_end bs) (omega arith) (ended_lines-split bs)

whole_if : (is_end : Bool) (b : ℕ) (bs : List ℕ) (n : ℕ) → length bs + 1 ≤ (if is_end then 0 else n + 1) →
    (length bs ≤ n → journal_lines bs ≡ bs ∷ []) → (if is_end then [] ∷ journal_lines bs else in_front b (journal_lines bs)) ≡ (b ∷ bs) ∷ []
whole_if true b bs n h e = absurd (omega arith)
whole_if false b bs n h e = let e' : journal_lines bs ≡ bs ∷ [] = e (omega arith) in rw (e') refl

last_if : (is_end : Bool) (b : ℕ) → 1 ≤ (if is_end then 0 else 1) → (if is_end then [] ∷ [] else in_front b []) ≡ (b ∷ []) ∷ []
last_if true b h = absurd (omega arith)
last_if false b h = refl

-- without a byte 10 all is one line, if there is some byte
pub journal_lines-whole : (bytes : List ℕ) → length bytes ≤ line_end bytes → 0 < length bytes → journal_lines bytes ≡ bytes ∷ []
journal_lines-whole [] h some = absurd (omega arith)
journal_lines-whole (b ∷ []) h some = last_if (b == 10) b h
journal_lines-whole (b ∷ next ∷ bs) h some =
    whole_if (b == 10) b (next ∷ bs) (line_end (next ∷ bs)) (omega arith) (λ l. journal_lines-whole (next ∷ bs) l (omega arith))

none_if : (is_end : Bool) (b : ℕ) (bs : List ℕ) (n : ℕ) → length bs + 1 ≤ (if is_end then 0 else n + 1) →
    (length bs ≤ n → ended_lines bs ≡ []) → (if is_end then [] ∷ ended_lines bs else in_front_of_some b (ended_lines bs)) ≡ []
none_if true b bs n h e = absurd (omega arith)
none_if false b bs n h e = let e' : ended_lines bs ≡ [] = e (omega arith) in rw (e') refl

-- and none of the lines is ended
pub ended_lines-none : (bytes : List ℕ) → length bytes ≤ line_end bytes → ended_lines bytes ≡ []
ended_lines-none [] h = refl
ended_lines-none (b ∷ bs) h = none_if (b == 10) b bs (line_end bs) (omega arith) (ended_lines-none bs)

-- RETURNS

-- a byte 13 at the end of a line is dropped
pub without_return-drops : (front : List ℕ) → without_return (front ++ 13 ∷ []) ≡ front
without_return-drops [] = refl
without_return-drops (byte ∷ []) = refl
without_return-drops (byte ∷ next ∷ rest) = ap (λ line. byte ∷ line) (without_return-drops (next ∷ rest))

-- and no other byte
pub without_return-keeps : (front : List ℕ) (last : ℕ) → (last ≡ 13 → ⊥) → without_return (front ++ last ∷ []) ≡ front ++ last ∷ []
without_return-keeps [] last other = rw (ne_eqb last 13 other) refl
without_return-keeps (byte ∷ []) last other = ap (λ line. byte ∷ line) (without_return-keeps [] last other)
without_return-keeps (byte ∷ next ∷ rest) last other = ap (λ line. byte ∷ line) (without_return-keeps (next ∷ rest) last other)

-- FRONTS OF A JOURNAL

-- more lines behind some
pub record HasMore (lines front : List (List ℕ)) : Type 0 where
  pub more : List (List ℕ)
  pub same : lines ≡ front ++ more

more_in_front : (byte : ℕ) (front more : List (List ℕ)) → HasMore (in_front byte (front ++ more)) (in_front_of_some byte front)
more_in_front byte [] more = record { more = in_front byte more; same = refl }
more_in_front byte (line ∷ lines) more = record { more = more; same = refl }

lines_if : (is_end : Bool) (byte : ℕ) (all front : List (List ℕ)) → HasMore all front →
    HasMore (if is_end then [] ∷ all else in_front byte all) (if is_end then [] ∷ front else in_front_of_some byte front)
lines_if true byte all front h = record { more = h.more; same = ap (λ x. [] ∷ x) h.same }
lines_if false byte all front h = rw (h.same) (more_in_front byte front h.more)

-- the lines that end in a front of the bytes are the first of all lines
pub journal_lines-front : (front rest : List ℕ) → HasMore (journal_lines (front ++ rest)) (ended_lines front)
journal_lines-front [] rest = record { more = journal_lines rest; same = refl }
journal_lines-front (byte ∷ front) rest = lines_if (byte == 10) byte (journal_lines (front ++ rest)) (ended_lines front) (journal_lines-front front rest)

some_in_front : (byte : ℕ) (front more : List (List ℕ)) → HasMore (in_front_of_some byte (front ++ more)) (in_front_of_some byte front)
some_in_front byte [] more = record { more = in_front_of_some byte more; same = refl }
some_in_front byte (line ∷ lines) more = record { more = more; same = refl }

some_if : (is_end : Bool) (byte : ℕ) (all front : List (List ℕ)) → HasMore all front →
    HasMore (if is_end then [] ∷ all else in_front_of_some byte all) (if is_end then [] ∷ front else in_front_of_some byte front)
some_if true byte all front h = record { more = h.more; same = ap (λ x. [] ∷ x) h.same }
some_if false byte all front h = rw (h.same) (some_in_front byte front h.more)

-- and of the lines that end
pub ended_lines-front : (front rest : List ℕ) → HasMore (ended_lines (front ++ rest)) (ended_lines front)
ended_lines-front [] rest = record { more = ended_lines rest; same = refl }
ended_lines-front (byte ∷ front) rest = some_if (byte == 10) byte (ended_lines (front ++ rest)) (ended_lines front) (ended_lines-front front rest)

-- ENTRIES

all_not_bad : (line code : ℕ) → All ≡ Bad line code → ⊥
all_not_bad line code e = cc

bad_more : (means : Line) (k line code : ℕ) (es : List Entry) (later longer : Entries) →
    ((fs : List Entry) → later ≡ record { accepted = fs; ending = Bad line code } → longer ≡ later) →
    more_entries means k later ≡ record { accepted = es; ending = Bad line code } → more_entries means k longer ≡ more_entries means k later
bad_more Blank k line code es later longer same bad = same es bad
bad_more (Item entry) k line code es later longer same bad =
    let ends : later.ending ≡ Bad line code = ap (λ e. e.ending) bad in
    let e : longer ≡ later = same later.accepted (ap (λ x. record { accepted = later.accepted; ending = x }) ends) in
    rw (e) refl
bad_more (Wrong wrong) k line code es later longer same bad = refl

-- lines behind a refused one change nothing
pub entries-bad : (setup : Setup) (reading : Reading) (lines more : List (List ℕ)) (es : List Entry) (line code : ℕ) →
    entries_from setup reading lines ≡ record { accepted = es; ending = Bad line code } →
    entries_from setup reading (lines ++ more) ≡ entries_from setup reading lines
entries-bad setup reading [] more es line code bad = absurd (all_not_bad line code (ap (λ e. e.ending) bad))
entries-bad setup reading (text ∷ lines) more es line code bad =
    let means = meaning setup reading text in
    let next = after reading means in
    bad_more means (reading.lines + 1) line code es (entries_from setup next lines) (entries_from setup next (lines ++ more))
    (λ fs h. entries-bad setup next lines more fs line code h) bad
