-- Of two bytes 13 at a line's end one is dropped, and the other is a byte of its last word.
use Rattle.std.proofs.Common.{◌≡◌, ◌≢◌, ◌≤◌, ◌<◌, ◌⊎◌, ◌+◌, ℕ, zero, suc, List, [], ◌∷◌, ◌++◌, inl, inr, Bool, true, false, cond, drop, length, nat_le, Option, Some, None, Result, Ok, Err, codes, bytes_eq, refl, ap, sym, ◌∙◌, subst, arith, le-leb}
use Rattle.std.proofs.lemmas.Bool.{false≢true, ne_eqb}
use Rattle.std.proofs.lemmas.Bool.Decides.{leb_tells}
use Rattle.std.proofs.lemmas.List.{append-nil, append_assoc}
use Rattle.std.specs.Prelude.{if◌then◌else◌}
use Rattle.std.specs.List.{position, position_or_len, prefix_len}
use Rattle.pearl_rules.specs.declared.entry.Entry.{Entry}
use Rattle.pearl_rules.specs.declared.entry.Entry.TheVariants as entry
use Rattle.pearl_rules.specs.declared.setup.Setup.{Setup}
use Rattle.pearl_rules.specs.Literals.{clock_literal}
use Rattle.pearl_value.specs.Names.{is_id}
use Rattle.pearl_journal.specs.declared.limits.TheConstants.{LINE_LIMIT}
use Rattle.pearl_journal.specs.declared.reading.Line.TheVariants.{Blank, Wrong}
use Rattle.pearl_journal.specs.Devices.{is_interrupt}
use Rattle.pearl_journal.specs.Laws.{EndsInNoReturn, IsComment, IsGap}
use Rattle.pearl_journal.specs.Lines.{without_return}
use Rattle.pearl_journal.specs.Meaning.{arriving_form, form_of, line_of, in_time, meaning, meaning_within, needing, state_entry, task_form, text_meaning}
use Rattle.pearl_journal.specs.Readings.{Reading}
use Rattle.pearl_journal.specs.Texts.{quoted, text_literal}
use Rattle.pearl_journal.specs.Values.{literal}
use Rattle.pearl_journal.specs.Words.{before_blanks, behind_blanks, behind_word, first_word, is_blank, number, task_named}
use Rattle.pearl_journal.proofs.Offered.{before_blanks-bare, before_blanks-first}
use Rattle.pearl_journal.proofs.Offered.{behind_blanks-bare, behind_blanks-gap, without_return-drops}
use Rattle.pearl_journal_laws.specs.Says.{IsOther}
use Rattle.pearl_journal_laws.proofs.ArrivalLaws.{numbered_none, terminal_no_text}
use Rattle.pearl_journal_laws.proofs.Endings.{EndsWell, id_ends, literal_ends, no_return_by, number_ends, text_ends, time_ends}
use Rattle.pearl_journal_laws.proofs.Literals.{missing_literal}
use Rattle.pearl_journal_laws.proofs.Numbers.{no_number}
use Rattle.pearl_journal_laws.proofs.Parting.{Worded, fronted, worded}
use Rattle.pearl_journal_laws.proofs.Saying.{need_either}
use Rattle.pearl_journal_laws.proofs.StepLaws.{no_form}
use Rattle.pearl_journal_laws.proofs.Texts.{no_literal, no_text}
use Rattle.pearl_journal_laws.proofs.TimesOfDay.{was_time}
use Rattle.pearl_journal_laws.proofs.Trimming.{behind_is, word_is}
use Rattle.pearl_journal_laws.proofs.Writing.{last_behind}

-- LAST BYTES

abbrev EndsInReturn : List ℕ → Type 0
EndsInReturn text = (front : List ℕ) × (text ≡ front ++ 13 ∷ [])

last_same : (front other : List ℕ) (byte last : ℕ) → front ++ byte ∷ [] ≡ other ++ last ∷ [] → byte ≡ last
last_same [] [] byte last e = cc
last_same [] (o ∷ other) byte last e = let none : [] ≡ other ++ last ∷ [] = cc in absurd (empty other none)
  where
    empty : (bytes : List ℕ) → [] ≡ bytes ++ last ∷ [] → ⊥
    empty [] e = cc
    empty (b ∷ bytes) e = cc
last_same (f ∷ front) [] byte last e = let none : front ++ byte ∷ [] ≡ [] = cc in absurd (empty front none)
  where
    empty : (bytes : List ℕ) → bytes ++ byte ∷ [] ≡ [] → ⊥
    empty [] e = cc
    empty (b ∷ bytes) e = cc
last_same (f ∷ front) (o ∷ other) byte last e = last_same front other byte last cc

pub no_gap : (front : List ℕ) → IsGap (front ++ 13 ∷ []) → ⊥
no_gap [] gap = let no : false ≡ true = gap.0 in false≢true no
no_gap (b ∷ front) gap = no_gap front gap.1

-- what is left of such a text ends in the same byte, or nothing is left
abbrev IsEnd : List ℕ → Type 0
IsEnd text = (text ≡ []) ⊎ EndsInReturn text

nothing_left : (n : ℕ) → drop {A = ℕ} n [] ≡ []
nothing_left zero = refl
nothing_left (suc n) = refl

end_left : (n : ℕ) (text : List ℕ) → IsEnd text → IsEnd (drop n text)
end_left zero text is = is
end_left (suc n) [] is = inl refl
end_left (suc n) (b ∷ text) (inl e) = let no : ⊥ = cc in absurd no
end_left (suc n) (b ∷ text) (inr is) = by is.0 is.1 (λ end. end_left n text end)
  where
    by : (front : List ℕ) → b ∷ text ≡ front ++ 13 ∷ [] → (IsEnd text → IsEnd (drop n text)) → IsEnd (drop n text)
    by [] e later = let none : text ≡ [] = cc in inl (ap (drop n) none ∙ nothing_left n)
    by (f ∷ front) e later = later (inr (front, cc))

end_behind : (text : List ℕ) → EndsInReturn text → IsEnd (behind_word text)
end_behind text is =
    let first = position_or_len is_blank text + 1 in
    let left = drop first text in
    end_left (prefix_len is_blank left) left (end_left first text (inr is))

-- nothing that is to stand in a line ends so
not_well : (text : List ℕ) → IsEnd text → EndsWell text → ⊥
not_well text (inl none) well = well.0 none
not_well text (inr is) well = well.1 is.0 is.1

-- FORMS

module _ (text : List ℕ) (is : IsEnd text) where
  end_number : number text ≡ None
  end_number = no_number text (λ n number. not_well text is (number_ends text n number))

  end_quoted : quoted text ≡ None
  end_quoted = no_text text (λ spelled said. not_well text is (text_ends text spelled said))

  end_text : text_literal text ≡ None
  end_text = no_literal text (λ spelled said. absurd (not_well text is (text_ends text spelled said)))

  end_literal : literal text ≡ None
  end_literal = missing_literal text (λ said. not_well text is (literal_ends text said))

  end_time : clock_literal text ≡ None
  end_time = by (clock_literal text) refl
    where
      by : (o : Option ℕ) → clock_literal text ≡ o → o ≡ None
      by None e = refl
      by (Some time) e = absurd (not_well text is (time_ends text time (was_time text time e)))

either : (test : Bool) (some other : Result Entry ℕ) → some ≡ Err 1 → other ≡ Err 1 →
    (if test then some else other) ≡ Err 1
either true some other e o = e
either false some other e o = o

module _ (setup : Setup) (rest : List ℕ) (is : EndsInReturn rest) where
  end_here : IsEnd rest
  end_here = inr is

  end_later : IsEnd (behind_word rest)
  end_later = end_behind rest is

  no_task_form : (word : List ℕ) → task_form setup word rest ≡ Err 1
  no_task_form word =
      either (bytes_eq word (codes "turn")) _ _
      (ap (λ b. cond b (needing 2 (task_named setup.tasks rest) (λ task. Ok (entry.Turn task))) (Err 1))
      (ap is_id is.1 ∙ id_ends is.0))
      (either (bytes_eq word (codes "state")) _ (Err 1) (ap state_entry is.1 ∙ more is.0) refl)
    where
      more : (front : List ℕ) → state_entry (front ++ 13 ∷ []) ≡ Err 1
      more [] = refl
      more (b ∷ front) = refl

  no_arriving_form : (word : List ℕ) → arriving_form setup word rest ≡ Err 1
  no_arriving_form word =
      let behind = behind_word rest in
      either (bytes_eq word (codes "irpt")) _ _
      (ap (λ n. needing 1 n (λ k. needing 2 (position (is_interrupt k) setup.devices) (λ d. Ok (entry.Irpt d))))
      (end_number rest end_here))
      (either (bytes_eq word (codes "chars")) _ _
      (terminal_no_text setup _ (first_word rest) (text_literal behind) (end_text behind end_later))
      (either (bytes_eq word (codes "line")) _ _
      (terminal_no_text setup _ (first_word rest) (quoted behind) (end_quoted behind end_later))
      (either (bytes_eq word (codes "value")) _ _
      (numbered_none setup (number (first_word rest)) behind (end_literal behind end_later))
      (no_task_form word))))

  no_form_ends : (is_first : Bool) (word : List ℕ) → form_of setup is_first word rest ≡ Err 1
  no_form_ends is_first word =
      either (bytes_eq word (codes "clock")) _ _
      (either is_first _ (Err 1)
      (ap (λ o. needing 1 o (λ time. Ok (entry.Clock time))) (end_time rest end_here)) refl)
      (either (bytes_eq word (codes "run")) _ _
      (ap (λ o. needing 1 o (λ picks. Ok (entry.Run picks))) (end_number rest end_here))
      (either (bytes_eq word (codes "tick")) _ _
      (ap (λ o. needing 1 o (λ n. Ok (entry.Tick n))) (end_number rest end_here))
      (either (bytes_eq word (codes "pass")) _ _
      (ap (λ b. needing 1 (number (first_word rest)) (λ d. needing 1 b (λ n. Ok (entry.Pass d n))))
      (end_number (behind_word rest) end_later)
      ∙ need_either (number (first_word rest)) 1 _ (λ d. refl))
      (no_arriving_form word))))

-- WORDS

other_word : (word : List ℕ) → EndsInReturn word → IsOther word
other_word word is =
    record {
      clock = other (codes "clock") (no_return_by (codes "clock") refl);
      run = other (codes "run") (no_return_by (codes "run") refl);
      tick = other (codes "tick") (no_return_by (codes "tick") refl);
      pass = other (codes "pass") (no_return_by (codes "pass") refl);
      irpt = other (codes "irpt") (no_return_by (codes "irpt") refl);
      chars = other (codes "chars") (no_return_by (codes "chars") refl);
      line = other (codes "line") (no_return_by (codes "line") refl);
      value = other (codes "value") (no_return_by (codes "value") refl);
      turn = other (codes "turn") (no_return_by (codes "turn") refl);
      state = other (codes "state") (no_return_by (codes "state") refl);
    }
  where
    other : (known : List ℕ) → EndsInNoReturn known → word ≢ known
    other known ends e = ends is.0 (sym e ∙ is.1)

module _ (text : List ℕ) (is : EndsInReturn text) (w : Worded text) where
  word_ends : (gap : List ℕ) → IsGap gap → text ≡ w.word ++ gap → EndsInReturn w.word
  word_ends [] gap e = (is.0, sym (e ∙ append-nil w.word) ∙ is.1)
  word_ends (b ∷ bytes) gap e =
      let last = last_behind w.word (b ∷ bytes) is.0 13 (λ h. cc) (sym e ∙ is.1) in
      absurd (no_gap last.0 (subst IsGap last.1 gap))

  -- where nothing stands behind the word, the last byte is the word's
  first_ends : behind_word text ≡ [] → EndsInReturn (first_word text)
  first_ends none =
      let nothing : w.text ≡ [] = sym (behind_is text w) ∙ none in
      subst EndsInReturn (sym (word_is text w))
      (word_ends w.gap w.is_gap
      (w.spelled ∙ ap (λ t. w.word ++ (w.gap ++ t)) nothing ∙ ap (λ t. w.word ++ t) (append-nil w.gap)))

-- the last byte is one of the word, or of the text behind it
no_form_of : (setup : Setup) (is_first : Bool) (text : List ℕ) → EndsInReturn text →
    form_of setup is_first (first_word text) (behind_word text) ≡ Err 1
no_form_of setup is_first text is = elim (end_behind text is) [
  | inr ends ↦ no_form_ends setup (behind_word text) ends is_first (first_word text)
  | inl none ↦
      no_form setup is_first (first_word text) (behind_word text)
      (other_word (first_word text) (first_ends text is (worded text) none))
]

-- LINES

length_last : (line : List ℕ) → length (line ++ 13 ∷ []) ≡ length line + 1
length_last [] = refl
length_last (b ∷ line) = let e = length_last line in omega (arith, e)

-- a comment is one without the byte 13 behind it
comment_of : (line : List ℕ) → IsComment (line ++ 13 ∷ []) → IsComment line
comment_of line is =
    let last = last_behind is.front (35 ∷ is.rest) line 13 (λ e. cc) (sym is.spelled) in
    by last.0 last.1
  where
    no_hash : 35 ∷ is.rest ≡ 13 ∷ [] → ⊥
    no_hash e = cc

    by : (front : List ℕ) → 35 ∷ is.rest ≡ front ++ 13 ∷ [] → IsComment line
    by [] e = absurd (no_hash e)
    by (b ∷ front) e =
        let hash : b ≡ 35 = cc in
        let whole : line ++ 13 ∷ [] ≡ is.front ++ b ∷ front ++ 13 ∷ [] =
        is.spelled ∙ ap (λ t. is.front ++ t) e ∙ sym (append_assoc is.front (b ∷ front) (13 ∷ [])) in
        record {
          front = is.front;
          rest = front;
          spelled = sym (without_return-drops line) ∙ ap without_return whole
              ∙ without_return-drops (is.front ++ b ∷ front)
              ∙ ap (λ c. is.front ++ c ∷ front) hash;
          is_gap = is.is_gap;
        }

module _ (setup : Setup) (reading : Reading) (line : List ℕ) where
  one_dropped : meaning setup reading (line ++ 13 ∷ 13 ∷ []) ≡ meaning_within setup reading (line ++ 13 ∷ [])
  unfolding meaning
  one_dropped =
      ap (meaning_within setup reading)
      (ap without_return (sym (append_assoc line (13 ∷ []) (13 ∷ []))) ∙ without_return-drops (line ++ 13 ∷ []))

  within_limit : length (line ++ 13 ∷ []) ≤ LINE_LIMIT → meaning_within setup reading (line ++ 13 ∷ [])
      ≡ text_meaning setup reading (before_blanks (behind_blanks (line ++ 13 ∷ [])))
  within_limit short = rw (le-leb (length (line ++ 13 ∷ [])) LINE_LIMIT short) refl

  wrong_text : (first : ℕ) (more : List ℕ) → EndsInReturn (first ∷ more) → first ≢ 35 →
      text_meaning setup reading (first ∷ more) ≡ Wrong 1
  wrong_text first more is other =
      rw (ne_eqb first 35 other)
      (ap (λ x. line_of (in_time reading.moment x)) (no_form_of setup reading.is_first (first ∷ more) is))

  wrong_trimmed : (gap rest : List ℕ) → IsGap gap → line ++ 13 ∷ [] ≡ gap ++ rest →
      ((byte : ℕ) (more : List ℕ) → rest ≡ byte ∷ more → is_blank byte ≡ false) → (IsComment line → ⊥) →
      text_meaning setup reading (before_blanks (behind_blanks (line ++ 13 ∷ []))) ≡ Wrong 1
  wrong_trimmed gap [] is spelled begins never =
      absurd (no_gap line (subst IsGap (sym (spelled ∙ append-nil gap)) is))
  wrong_trimmed gap (first ∷ more) is spelled begins never =
      let text = first ∷ more in
      let ends = last_behind gap text line 13 (λ e. cc) (sym spelled) in
      let front : behind_blanks (line ++ 13 ∷ []) ≡ text =
      ap behind_blanks spelled ∙ behind_blanks-gap gap text is ∙ behind_blanks-bare text begins in
      let back : before_blanks text ≡ text =
      before_blanks-bare text (λ front byte e.
      subst (λ b. is_blank b ≡ false) (last_same ends.0 front 13 byte (sym ends.1 ∙ e)) refl) in
      ap (text_meaning setup reading) (ap before_blanks front ∙ back)
      ∙ wrong_text first more ends (λ e. never (comment_of line (record {
        front = gap;
        rest = more;
        spelled = spelled ∙ ap (λ b. gap ++ b ∷ more) e;
        is_gap = is;
      })))

  pub second_long : 1024 ≤ length line → meaning setup reading (line ++ 13 ∷ 13 ∷ []) ≡ Wrong 1
  second_long long = one_dropped ∙ by (leb_tells (length (line ++ 13 ∷ [])) LINE_LIMIT)
    where
      by : ((nat_le (length (line ++ 13 ∷ [])) LINE_LIMIT ≡ true) × (length (line ++ 13 ∷ []) ≤ LINE_LIMIT))
          ⊎ ((nat_le (length (line ++ 13 ∷ [])) LINE_LIMIT ≡ false) × (LINE_LIMIT < length (line ++ 13 ∷ []))) →
          meaning_within setup reading (line ++ 13 ∷ []) ≡ Wrong 1
      by (inl h) = let count = length_last line in let few = h.1 in absurd (omega (arith, count, few, long))
      by (inr h) = rw (h.0) refl

  pub second_refused : (IsComment line → ⊥) → meaning setup reading (line ++ 13 ∷ 13 ∷ []) ≡ Wrong 1
  second_refused never = elim (leb_tells (length (line ++ 13 ∷ [])) LINE_LIMIT) [
    | inl h ↦
        let f = fronted (line ++ 13 ∷ []) in
        one_dropped ∙ within_limit h.1 ∙ wrong_trimmed f.gap f.rest f.is_gap f.spelled f.begins never
    | inr h ↦ let count = length_last line in let many = h.1 in second_long (omega (arith, count, many))
  ]

  pub second_skipped : IsComment line → length line < 1024 → meaning setup reading (line ++ 13 ∷ 13 ∷ []) ≡ Blank
  second_skipped is short =
      let rest = is.rest ++ 13 ∷ [] in
      let spelled : line ++ 13 ∷ [] ≡ is.front ++ 35 ∷ rest =
      ap (λ t. t ++ 13 ∷ []) is.spelled ∙ append_assoc is.front (35 ∷ is.rest) (13 ∷ []) in
      let front : behind_blanks (line ++ 13 ∷ []) ≡ 35 ∷ rest =
      ap behind_blanks spelled ∙ behind_blanks-gap is.front (35 ∷ rest) is.is_gap
      ∙ behind_blanks-bare (35 ∷ rest) (λ byte more e. cc) in
      let first = before_blanks-first 35 rest refl in
      let count = length_last line in
      one_dropped ∙ within_limit (omega (arith, count, short))
      ∙ ap (text_meaning setup reading) (ap before_blanks front ∙ first.1) ∙ skips first.0
    where
      skips : (more : List ℕ) → text_meaning setup reading (35 ∷ more) ≡ Blank
      skips more = refl
