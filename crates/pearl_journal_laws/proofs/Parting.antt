-- Each line is a gap, or a comment, or says a word and a text; and each text is one word, or says two parts.
use Rattle.std.proofs.Common.{◌≡◌, ◌≢◌, ◌≤◌, ◌⊎◌, ◌==◌, ℕ, List, [], ◌∷◌, ◌++◌, inl, inr, Bool, true, false, length, refl, ap, ap₂, sym, ◌∙◌, subst}
use Rattle.std.proofs.lemmas.Bool.{eqb-true, false≢true}
use Rattle.std.proofs.lemmas.List.{append-nil, append_assoc}
use Rattle.pearl_journal.specs.Laws.{EndsInNoReturn, IsComment, IsGap, SaysWordAndText}
use Rattle.pearl_journal.specs.Words.{is_blank}
use Rattle.pearl_journal.proofs.Offered.{IsSolid}
use Rattle.pearl_journal_laws.specs.Says.{Says, SaysMore}

-- ENDS

-- no blank comes first
abbrev pub Begins : List ℕ → Type 0
Begins text = (byte : ℕ) (rest : List ℕ) → text ≡ byte ∷ rest → is_blank byte ≡ false

-- no blank comes last
abbrev pub Ends : List ℕ → Type 0
Ends text = (front : List ℕ) (byte : ℕ) → text ≡ front ++ byte ∷ [] → is_blank byte ≡ false

-- blanks, and a text that begins with none
pub record Fronted (bytes : List ℕ) : Type 0 where
  pub gap : List ℕ
  pub rest : List ℕ
  pub is_gap : IsGap gap
  pub spelled : bytes ≡ gap ++ rest
  pub begins : Begins rest

pub fronted : (bytes : List ℕ) → Fronted bytes
fronted [] = record { gap = []; rest = []; is_gap = tt; spelled = refl; begins = λ byte rest e. cc }
fronted (b ∷ bytes) = by (is_blank b) refl (fronted bytes)
  where
    by : (blank : Bool) → is_blank b ≡ blank → Fronted bytes → Fronted (b ∷ bytes)
    by true is f =
        record {
          gap = b ∷ f.gap;
          rest = f.rest;
          is_gap = (is, f.is_gap);
          spelled = ap (λ t. b ∷ t) f.spelled;
          begins = f.begins;
        }
    by false is f =
        record {
          gap = [];
          rest = b ∷ bytes;
          is_gap = tt;
          spelled = refl;
          begins = λ byte rest e. let same : b ≡ byte = cc in subst (λ c. is_blank c ≡ false) same is;
        }

-- a text that ends in no blank, and blanks
pub record Backed (bytes : List ℕ) : Type 0 where
  pub text : List ℕ
  pub back : List ℕ
  pub is_gap : IsGap back
  pub spelled : bytes ≡ text ++ back
  pub ends : Ends text

no_last : (front : List ℕ) (byte : ℕ) → [] ≡ front ++ byte ∷ [] → ⊥
no_last [] byte e = cc
no_last (b ∷ front) byte e = cc

alone_ends : (b : ℕ) → is_blank b ≡ false → Ends (b ∷ [])
alone_ends b is [] byte e = let same : b ≡ byte = cc in subst (λ c. is_blank c ≡ false) same is
alone_ends b is (c ∷ front) byte e = let none : [] ≡ front ++ byte ∷ [] = cc in absurd (no_last front byte none)

more_ends : (b next : ℕ) (text : List ℕ) → Ends (next ∷ text) → Ends (b ∷ next ∷ text)
more_ends b next text ends [] byte e = let no : ⊥ = cc in absurd no
more_ends b next text ends (c ∷ front) byte e = ends front byte cc

pub backed : (bytes : List ℕ) → Backed bytes
backed [] =
    record { text = []; back = []; is_gap = tt; spelled = refl; ends = λ front byte e. absurd (no_last front byte e) }
backed (b ∷ bytes) = let r = backed bytes in by r.text r.back r.is_gap r.spelled r.ends (is_blank b) refl
  where
    by : (text back : List ℕ) → IsGap back → bytes ≡ text ++ back → Ends text → (blank : Bool) → is_blank b ≡ blank →
        Backed (b ∷ bytes)
    by [] back gap spelled ends true is =
        record {
          text = [];
          back = b ∷ back;
          is_gap = (is, gap);
          spelled = ap (λ t. b ∷ t) spelled;
          ends = λ front byte e. absurd (no_last front byte e);
        }
    by [] back gap spelled ends false is =
        record {
          text = b ∷ [];
          back = back;
          is_gap = gap;
          spelled = ap (λ t. b ∷ t) spelled;
          ends = alone_ends b is;
        }
    by (next ∷ text) back gap spelled ends blank is =
        record {
          text = b ∷ next ∷ text;
          back = back;
          is_gap = gap;
          spelled = ap (λ t. b ∷ t) spelled;
          ends = more_ends b next text ends;
        }

-- PARTS

-- a word, blanks, and a text that begins with none
pub record Worded (bytes : List ℕ) : Type 0 where
  pub word : List ℕ
  pub gap : List ℕ
  pub text : List ℕ
  pub solid : IsSolid word
  pub is_gap : IsGap gap
  pub spelled : bytes ≡ word ++ (gap ++ text)
  pub begins : Begins text
  pub parted : gap ≡ [] → text ≡ []

pub worded : (bytes : List ℕ) → Worded bytes
worded [] =
    record {
      word = [];
      gap = [];
      text = [];
      solid = tt;
      is_gap = tt;
      spelled = refl;
      begins = λ byte rest e. cc;
      parted = λ e. refl;
    }
worded (b ∷ bytes) = by (is_blank b) refl (worded bytes)
  where
    by : (blank : Bool) → is_blank b ≡ blank → Worded bytes → Worded (b ∷ bytes)
    by true is w =
        let f = fronted bytes in
        record {
          word = [];
          gap = b ∷ f.gap;
          text = f.rest;
          solid = tt;
          is_gap = (is, f.is_gap);
          spelled = ap (λ t. b ∷ t) f.spelled;
          begins = f.begins;
          parted = λ e. cc;
        }
    by false is w =
        record {
          word = b ∷ w.word;
          gap = w.gap;
          text = w.text;
          solid = (is, w.solid);
          is_gap = w.is_gap;
          spelled = ap (λ t. b ∷ t) w.spelled;
          begins = w.begins;
          parted = w.parted;
        }

-- what is behind others ends as all do
pub ends_of : (before text : List ℕ) → Ends (before ++ text) → Ends text
ends_of before text ends front byte e =
    ends (before ++ front) byte (ap (λ t. before ++ t) e ∙ sym (append_assoc before front (byte ∷ [])))

-- LINES

-- a line that is no gap: a comment, or a word and a text
abbrev pub SaysSome : List ℕ → Type 0
SaysSome line = (word : List ℕ) × (text : List ℕ) × SaysWordAndText line word text

some_word : (first : ℕ) (bytes : List ℕ) → is_blank first ≡ false → (w : Worded (first ∷ bytes)) → w.word ≢ []
some_word first bytes solid w none =
    by w.gap w.text w.is_gap w.parted (w.spelled ∙ ap (λ t. t ++ (w.gap ++ w.text)) none)
  where
    by : (gap text : List ℕ) → IsGap gap → (gap ≡ [] → text ≡ []) → first ∷ bytes ≡ gap ++ text → ⊥
    by [] text is parted e = let nothing = parted refl in cc (e, nothing)
    by (b ∷ gap) text is parted e =
        let same : first ≡ b = cc in
        false≢true (sym solid ∙ ap is_blank same ∙ is.0)

-- behind the blanks at the front something stands that is no blank
said : (front text back : List ℕ) (first : ℕ) (rest : List ℕ) → IsGap front → IsGap back → Ends text →
    text ≡ first ∷ rest → is_blank first ≡ false → first ≢ 35 → SaysSome (front ++ (text ++ back))
said front text back first rest is_front is_back ends begins solid other =
    let w = worded (first ∷ rest) in
    let whole : text ≡ w.word ++ (w.gap ++ w.text) = begins ∙ w.spelled in
    let some = some_word first rest solid w in
    let text_ends : Ends w.text =
    ends_of w.gap w.text (ends_of w.word (w.gap ++ w.text) (subst Ends whole ends)) in (
      w.word,
      w.text,
      record {
        front = front;
        gap = w.gap;
        back = back;
        spelled = ap (λ t. front ++ (t ++ back)) whole
            ∙ ap (λ t. front ++ t) (append_assoc w.word (w.gap ++ w.text) back
            ∙ ap (λ t. w.word ++ t) (append_assoc w.gap w.text back));
        front_is_gap = is_front;
        gap_is_gap = w.is_gap;
        back_is_gap = is_back;
        is_word = record { some = some; solid = w.solid; no_comment = no_comment w.word (w.gap ++ w.text) w.spelled };
        is_bare = record { begins = w.begins; ends = text_ends };
        parted = w.parted;
      },
    )
  where
    no_comment : (word more : List ℕ) → first ∷ rest ≡ word ++ more → (behind : List ℕ) → word ≢ 35 ∷ behind
    no_comment word more e behind is =
        let all : first ∷ rest ≡ 35 ∷ (behind ++ more) = e ∙ ap (λ t. t ++ more) is in
        other cc

abbrev pub Parts : List ℕ → Type 0
Parts line = IsGap line ⊎ (IsComment line ⊎ SaysSome line)

pub each_line_parts : (line : List ℕ) → Parts line
each_line_parts line = let f = fronted line in by f.gap f.rest f.is_gap f.spelled f.begins
  where
    -- what stands before the blanks at the end begins with the same byte
    behind : (front : List ℕ) (first : ℕ) (rest text back : List ℕ) → IsGap front → line ≡ front ++ first ∷ rest →
        is_blank first ≡ false → first ≢ 35 → IsGap back → first ∷ rest ≡ text ++ back → Ends text → SaysSome line
    behind front first rest [] back is spelled solid other is_back e ends =
        absurd (false≢true (sym solid ∙ (subst IsGap (sym e) is_back).0))
    behind front first rest (b ∷ text) back is spelled solid other is_back e ends =
        let same : b ≡ first = cc in
        subst SaysSome (ap (λ t. front ++ t) (sym e) ∙ sym spelled)
        (said front (b ∷ text) back b text is is_back ends refl
        (subst (λ c. is_blank c ≡ false) (sym same) solid) (λ h. other (sym same ∙ h)))

    some : (front : List ℕ) (first : ℕ) (rest : List ℕ) → IsGap front → line ≡ front ++ first ∷ rest →
        is_blank first ≡ false → (hash : Bool) → (first == 35) ≡ hash → Parts line
    some front first rest is spelled solid true h =
        let same = eqb-true first 35 h in
        inr (inl (record {
          front = front;
          rest = rest;
          spelled = spelled ∙ ap (λ b. front ++ b ∷ rest) same;
          is_gap = is;
        }))
    some front first rest is spelled solid false h =
        let b = backed (first ∷ rest) in
        inr (inr (behind front first rest b.text b.back is spelled solid
        (λ e. false≢true (sym h ∙ ap (λ c. c == 35) e)) b.is_gap b.spelled b.ends))

    by : (front rest : List ℕ) → IsGap front → line ≡ front ++ rest → Begins rest → Parts line
    by front [] is spelled begins = inl (subst IsGap (sym (spelled ∙ append-nil front)) is)
    by front (first ∷ rest) is spelled begins =
        some front first rest is spelled (begins first rest refl) (first == 35) refl

pub each_line_says : (line : List ℕ) → EndsInNoReturn line → length line ≤ 1024 →
    IsGap line ⊎ (IsComment line ⊎ ((word : List ℕ) × (text : List ℕ) × Says line word text))
each_line_says line ends short = elim (each_line_parts line) [
  | inl gap ↦ inl gap
  | inr (inl comment) ↦ inr (inl comment)
  | inr (inr says) ↦ inr (inr (says.0, says.1, record { parts = says.2; ends = ends; short = short }))
]

-- TEXTS

pub each_text_says : (line word text : List ℕ) → Says line word text →
    IsSolid text ⊎ ((second : List ℕ) × (rest : List ℕ) × SaysMore line word second rest)
each_text_says line word text says = let w = worded text in by w w.gap refl
  where
    by : (w : Worded text) (gap : List ℕ) → w.gap ≡ gap →
        IsSolid text ⊎ ((second : List ℕ) × (rest : List ℕ) × SaysMore line word second rest)
    by w [] e =
        let whole : text ≡ w.word =
        w.spelled ∙ ap₂ (λ a b. w.word ++ (a ++ b)) e (w.parted e) ∙ append-nil w.word in
        inl (subst IsSolid (sym whole) w.solid)
    by w (b ∷ gap) e =
        let whole = subst Ends w.spelled says.parts.is_bare.ends in
        inr (
          w.word,
          w.text,
          record {
            parts = record {
              gap = w.gap;
              says = subst (SaysWordAndText line word) w.spelled says.parts;
              is_gap = w.is_gap;
              parted = λ none. let no : b ∷ gap ≡ [] = sym e ∙ none in cc;
              solid = w.solid;
            };
            is_bare = record {
              begins = w.begins;
              ends = ends_of w.gap w.text (ends_of w.word (w.gap ++ w.text) whole);
            };
            ends = says.ends;
            short = says.short;
          },
        )
