-- What lines mean that are written otherwise, and which lines are skipped.
use Rattle.std.proofs.Common.{◌≡◌, ◌≢◌, ◌≤◌, ◌<◌, ℕ, List, [], ◌∷◌, ◌++◌, Bool, false, length, drop, codes, slice_get, Ok, refl, ap, ap₂, sym, ◌∙◌, subst, arith, inl, inr}
use Rattle.std.proofs.lemmas.Bool.{ne_eqb, le-leb}
use Rattle.std.proofs.lemmas.Bool.Decides.{leb_tells}
use Rattle.std.proofs.lemmas.List.{append_assoc, append-nil}
use Rattle.pearl_rules.specs.declared.setup.Setup.{Setup}
use Rattle.pearl_rules.specs.declared.entry.Entry.TheVariants as entry
use Rattle.pearl_rules.specs.Tables.{input_kind}
use Rattle.std.specs.List.{position}
use Rattle.pearl_journal.specs.declared.limits.TheConstants.{LINE_LIMIT, NO_FIT, NO_FORM, NOT_DECLARED}
use Rattle.pearl_journal.specs.Devices.{is_input}
use Rattle.pearl_journal.specs.Texts.{quoted, text_literal}
use Rattle.pearl_journal.specs.Values.{coming_in, literal}
use Rattle.pearl_journal.specs.declared.reading.Line.TheVariants.{Blank, Wrong}
use Rattle.pearl_journal.specs.Lines.{without_return}
use Rattle.pearl_journal.specs.Words.{behind_blanks, before_blanks, behind_word, first_word, number}
use Rattle.pearl_journal.specs.Readings.{Reading}
use Rattle.pearl_journal.specs.Meaning.{entry_of, form_of, in_time, is_skipped, line_of, meaning, meaning_within, needing, terminal_entry, text_meaning}
use Rattle.pearl_journal.specs.Laws.{EndsInNoReturn, IsBare, IsComment, IsGap, IsWord, SaysThreeParts, SaysWordAndText, TakesTwoParts}
use Rattle.pearl_journal.proofs.JournalLaws.{without_return-drops}
use Rattle.pearl_journal.proofs.BlankLaws.{IsSolid, StopsWord, after_first-word, before_blanks-behind, before_blanks-first, before_blanks-gap, before_first-word, behind_blanks-bare, behind_blanks-gap, solid_begins, solid_last}

-- RETURNS

without_return-same : (line : List ℕ) → EndsInNoReturn line → without_return line ≡ line
without_return-same [] h = refl
without_return-same (byte ∷ []) h = rw (ne_eqb byte 13 (λ e. h [] (ap (λ b. b ∷ []) e))) refl
without_return-same (byte ∷ next ∷ rest) h =
    ap (λ bytes. byte ∷ bytes) (without_return-same (next ∷ rest) (λ front e. h (byte ∷ front) (ap (λ bytes. byte ∷ bytes) e)))

pub returns_dropped : (setup : Setup) (reading : Reading) (line : List ℕ) → EndsInNoReturn line →
    meaning setup reading (line ++ 13 ∷ []) ≡ meaning setup reading line
unfolding meaning
returns_dropped setup reading line h = ap (meaning_within setup reading) (without_return-drops line ∙ sym (without_return-same line h))

-- LENGTHS

within_if : (setup : Setup) (reading : Reading) (line : List ℕ) → length line ≤ LINE_LIMIT →
    meaning_within setup reading line ≡ text_meaning setup reading (before_blanks (behind_blanks line))
within_if setup reading line short = rw (le-leb (length line) LINE_LIMIT short) refl

pub meaning-within : (setup : Setup) (reading : Reading) (line : List ℕ) → EndsInNoReturn line → length line ≤ LINE_LIMIT →
    meaning setup reading line ≡ text_meaning setup reading (before_blanks (behind_blanks line))
unfolding meaning
meaning-within setup reading line h short = ap (meaning_within setup reading) (without_return-same line h) ∙ within_if setup reading line short

pub above_if : (setup : Setup) (reading : Reading) (line : List ℕ) → LINE_LIMIT < length line → meaning_within setup reading line ≡ Wrong NO_FORM
above_if setup reading line long = elim (leb_tells (length line) LINE_LIMIT) [
  | inl h ↦ absurd (omega (arith, h.1))
  | inr h ↦ rw (h.0) refl
]

pub meaning-long : (setup : Setup) (reading : Reading) (line : List ℕ) → EndsInNoReturn line → LINE_LIMIT < length line → meaning setup reading line ≡ Wrong NO_FORM
unfolding meaning
meaning-long setup reading line h long = ap (meaning_within setup reading) (without_return-same line h) ∙ above_if setup reading line long

-- SKIPPED LINES

gap_text : (line : List ℕ) → IsGap line → before_blanks (behind_blanks line) ≡ []
gap_text line h = ap (λ bytes. before_blanks (behind_blanks bytes)) (sym (append-nil line)) ∙ ap before_blanks (behind_blanks-gap line [] h)

return_is_no_blank : (front : List ℕ) → IsGap (front ++ 13 ∷ []) → ⊥
return_is_no_blank [] h = cc
return_is_no_blank (byte ∷ front) h = return_is_no_blank front h.1

gap_ends : (line : List ℕ) → IsGap line → EndsInNoReturn line
gap_ends line h front e = return_is_no_blank front (subst IsGap e h)

pub gaps_skipped : (setup : Setup) (reading : Reading) (line : List ℕ) → IsGap line → length line ≤ LINE_LIMIT → meaning setup reading line ≡ Blank
gaps_skipped setup reading line h short = meaning-within setup reading line (gap_ends line h) short ∙ ap (text_meaning setup reading) (gap_text line h)

hash_skips : (setup : Setup) (reading : Reading) (more : List ℕ) → text_meaning setup reading (35 ∷ more) ≡ Blank
hash_skips setup reading more = refl

comment_text : (setup : Setup) (reading : Reading) (rest : List ℕ) → text_meaning setup reading (before_blanks (35 ∷ rest)) ≡ Blank
comment_text setup reading rest = let first = before_blanks-first 35 rest refl in ap (text_meaning setup reading) first.1 ∙ hash_skips setup reading first.0

pub comments_skipped : (setup : Setup) (reading : Reading) (line : List ℕ) → IsComment line → EndsInNoReturn line → length line ≤ LINE_LIMIT →
    meaning setup reading line ≡ Blank
comments_skipped setup reading line comment h short =
    let begins : behind_blanks (35 ∷ comment.rest) ≡ 35 ∷ comment.rest = behind_blanks-bare (35 ∷ comment.rest) (λ byte rest e. cc) in
    let text : behind_blanks line ≡ 35 ∷ comment.rest =
    ap behind_blanks comment.spelled ∙ behind_blanks-gap comment.front (35 ∷ comment.rest) comment.is_gap ∙ begins in
    meaning-within setup reading line h short ∙ ap (λ bytes. text_meaning setup reading (before_blanks bytes)) text ∙ comment_text setup reading comment.rest

-- WORDS

not_skipped : (word rest : List ℕ) → IsWord word → is_skipped (word ++ rest) ≡ false
not_skipped [] rest h = absurd (h.some refl)
not_skipped (byte ∷ word) rest h = ne_eqb byte 35 (λ e. h.no_comment word (ap (λ b. b ∷ word) e))

-- a text says what its word and the text behind it say
text_says : (setup : Setup) (reading : Reading) (text word rest : List ℕ) → is_skipped text ≡ false → first_word text ≡ word → behind_word text ≡ rest →
    text_meaning setup reading text ≡ line_of (entry_of setup reading word rest)
text_says setup reading text word rest skipped front behind =
    rw (skipped) (ap (λ w. line_of (entry_of setup reading w (behind_word text))) front ∙ ap (λ r. line_of (entry_of setup reading word r)) behind)

stops_at_gap : (gap text : List ℕ) → IsGap gap → gap ≢ [] → StopsWord (gap ++ text)
stops_at_gap [] text is_gap some byte more e = absurd (some refl)
stops_at_gap (b ∷ gap) text is_gap some byte more e = cc (e, is_gap.0)

behind_gap : (gap text : List ℕ) → IsGap gap → gap ≢ [] → IsBare text → behind_blanks (drop 1 (gap ++ text)) ≡ text
behind_gap [] text is_gap some bare = absurd (some refl)
behind_gap (byte ∷ gap) text is_gap some bare = behind_blanks-gap gap text is_gap.1 ∙ behind_blanks-bare text bare.begins

lone_word_says : (setup : Setup) (reading : Reading) (word : List ℕ) → IsWord word → text_meaning setup reading (word ++ []) ≡ line_of (entry_of setup reading word [])
lone_word_says setup reading word h =
    text_says setup reading (word ++ []) word [] (not_skipped word [] h) (before_first-word word [] h.solid (λ byte more e. cc))
    (ap behind_blanks (after_first-word word [] h.solid (λ byte more e. cc)))

two_say : (setup : Setup) (reading : Reading) (word gap text : List ℕ) → IsWord word → IsGap gap → gap ≢ [] → IsBare text →
    text_meaning setup reading (word ++ (gap ++ text)) ≡ line_of (entry_of setup reading word text)
two_say setup reading word gap text h is_gap some bare =
    text_says setup reading (word ++ (gap ++ text)) word text (not_skipped word (gap ++ text) h)
    (before_first-word word (gap ++ text) h.solid (stops_at_gap gap text is_gap some))
    (ap behind_blanks (after_first-word word (gap ++ text) h.solid (stops_at_gap gap text is_gap some)) ∙ behind_gap gap text is_gap some bare)

-- the same with blanks behind
with_back : (setup : Setup) (reading : Reading) (word gap text back : List ℕ) → IsWord word → IsGap gap → IsGap back → IsBare text → (gap ≡ [] → text ≡ []) →
    text_meaning setup reading (before_blanks (word ++ (gap ++ (text ++ back)))) ≡ line_of (entry_of setup reading word text)
with_back setup reading word gap [] back h is_gap is_back bare parted =
    let ends : before_blanks word ≡ word = before_blanks-behind [] word h.some (λ front byte e. solid_last front byte (subst IsSolid e h.solid)) in
    let text : before_blanks (word ++ (gap ++ back)) ≡ word =
    ap before_blanks (sym (append_assoc word gap back)) ∙ before_blanks-gap (word ++ gap) back is_back ∙ before_blanks-gap word gap is_gap ∙ ends in
    ap (text_meaning setup reading) (text ∙ sym (append-nil word)) ∙ lone_word_says setup reading word h
with_back setup reading word gap (byte ∷ rest) back h is_gap is_back bare parted =
    let spoken = byte ∷ rest in
    let none : spoken ≢ [] = λ e. cc in
    let some : gap ≢ [] = λ e. none (parted e) in
    let whole : word ++ (gap ++ (spoken ++ back)) ≡ word ++ gap ++ spoken ++ back = sym (append_assoc (word ++ gap) spoken back ∙ append_assoc word gap (spoken ++ back)) in
    let text : before_blanks (word ++ (gap ++ (spoken ++ back))) ≡ word ++ (gap ++ spoken) =
    ap before_blanks whole ∙ before_blanks-gap (word ++ gap ++ spoken) back is_back ∙ before_blanks-behind (word ++ gap) spoken none bare.ends
    ∙ append_assoc word gap spoken in
    ap (text_meaning setup reading) text ∙ two_say setup reading word gap spoken h is_gap some bare

pub blanks_free : (setup : Setup) (reading : Reading) (line word text : List ℕ) → SaysWordAndText line word text → EndsInNoReturn line →
    length line ≤ LINE_LIMIT → meaning setup reading line ≡ line_of (entry_of setup reading word text)
blanks_free setup reading line word text says h short =
    let inner = word ++ (says.gap ++ (text ++ says.back)) in
    let begins : behind_blanks inner ≡ inner =
    behind_blanks-bare inner (solid_begins word (says.gap ++ (text ++ says.back)) says.is_word.solid says.is_word.some) in
    let front : behind_blanks line ≡ inner = ap behind_blanks says.spelled ∙ behind_blanks-gap says.front inner says.front_is_gap ∙ begins in
    meaning-within setup reading line h short ∙ ap (λ bytes. text_meaning setup reading (before_blanks bytes)) front
    ∙ with_back setup reading word says.gap text says.back says.is_word says.gap_is_gap says.back_is_gap says.is_bare says.parted

-- LATER WORDS

-- a second word, and what stands behind it and the blanks after it
second_word : (second gap text : List ℕ) → IsSolid second → IsGap gap → gap ≢ [] →
    first_word (second ++ (gap ++ text)) ≡ second
second_word second gap text solid is_gap some =
    before_first-word second (gap ++ text) solid (stops_at_gap gap text is_gap some)

behind_second : (second gap text : List ℕ) → IsSolid second → IsGap gap → gap ≢ [] →
    behind_word (second ++ (gap ++ text)) ≡ behind_blanks text
behind_second second [] text solid is_gap some = absurd (some refl)
behind_second second (byte ∷ gap) text solid is_gap some =
    ap behind_blanks (after_first-word second (byte ∷ gap ++ text) solid (stops_at_gap (byte ∷ gap) text is_gap some))
    ∙ behind_blanks-gap gap text is_gap.1

-- what a line means that has two parts behind its first word: these two settle it
parts_settle : (setup : Setup) (is_first : Bool) (word rest other : List ℕ) → TakesTwoParts word →
    first_word rest ≡ first_word other →
    behind_word rest ≡ behind_word other → form_of setup is_first word rest ≡ form_of setup is_first word other
parts_settle setup is_first word rest other takes front behind = by_word takes
  where
    alike : (w : List ℕ) → form_of setup is_first w rest ≡ form_of setup is_first w other → word ≡ w →
        form_of setup is_first word rest ≡ form_of setup is_first word other
    alike w same is = subst (λ v. form_of setup is_first v rest ≡ form_of setup is_first v other) (sym is) same

    by_word : TakesTwoParts word → form_of setup is_first word rest ≡ form_of setup is_first word other
    by_word (inl is) = alike (codes "pass")
        (ap₂
        (λ a b. needing NO_FORM (number a)
        (λ times. needing NO_FORM (number b) (λ picks. Ok (entry.Pass times picks)))) front behind) is
    by_word (inr (inl is)) = alike (codes "chars")
        (ap₂
        (λ a b. terminal_entry setup a (text_literal b)
        (λ device text. entry.Chars device (record { items = text }))) front behind) is
    by_word (inr (inr (inl is))) = alike (codes "line")
        (ap₂
        (λ a b. terminal_entry setup a (quoted b)
        (λ device text. entry.Line device (record { items = text }))) front behind) is
    by_word (inr (inr (inr is))) = alike (codes "value")
        (ap₂ (λ a b. needing NO_FORM (number a) (λ k.
        needing NO_FORM (literal b) (λ spelled.
        needing NOT_DECLARED (position (is_input k) setup.devices) (λ device.
        needing NO_FIT (coming_in (input_kind (slice_get setup.devices device)) spelled)
        (λ x. Ok (entry.Value device x)))))) front behind) is

pub later_blanks_free : (setup : Setup) (reading : Reading) (line other word second text : List ℕ) →
    TakesTwoParts word →
    SaysThreeParts line word second text → SaysThreeParts other word second text →
    EndsInNoReturn line → EndsInNoReturn other → length line ≤ 1024 → length other ≤ 1024 →
    meaning setup reading line ≡ meaning setup reading other
later_blanks_free setup reading line other word second text takes first says line_ends other_ends line_short other_short =
    blanks_free setup reading line word (second ++ (first.gap ++ text)) first.says line_ends line_short
    ∙ ap (λ x. line_of (in_time reading.moment x))
    (parts_settle setup reading.is_first word (second ++ (first.gap ++ text)) (second ++ (says.gap ++ text)) takes
    (second_word second first.gap text first.solid first.is_gap first.parted
    ∙ sym (second_word second says.gap text says.solid says.is_gap says.parted))
    (behind_second second first.gap text first.solid first.is_gap first.parted
    ∙ sym (behind_second second says.gap text says.solid says.is_gap says.parted)))
    ∙ sym (blanks_free setup reading other word (second ++ (says.gap ++ text)) says.says other_ends other_short)
