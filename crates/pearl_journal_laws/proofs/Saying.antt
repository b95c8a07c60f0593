-- What a line means comes of its word and of what stands behind it.
use Rattle.std.proofs.Common.{◌≡◌, ◌≢◌, ◌≤◌, ◌<◌, ℕ, List, [], ◌∷◌, ◌++◌, cond, Option, Some, None, Result, Ok, Err, refl, ap, sym, ◌∙◌, le-leb}
use Rattle.std.proofs.lemmas.Bool.{lt-leb}
use Rattle.std.proofs.lemmas.List.{append-nil}
use Rattle.pearl_rules.specs.declared.entry.Entry.{Entry}
use Rattle.pearl_rules.specs.declared.setup.Setup.{Setup}
use Rattle.pearl_rules.specs.Entries.{moment_after}
use Rattle.pearl_journal.specs.declared.limits.TheConstants.{LAST_MOMENT}
use Rattle.pearl_journal.specs.declared.reading.Line.TheVariants.{Item, Wrong}
use Rattle.pearl_journal.specs.Laws.{IsBare, IsGap}
use Rattle.pearl_journal.specs.Meaning.{form_of, in_time, line_of, meaning, needing}
use Rattle.pearl_journal.specs.Readings.{Reading}
use Rattle.pearl_journal.specs.Words.{behind_word, behind_blanks, first_word}
use Rattle.pearl_journal.proofs.Offered.{IsSolid, StopsWord, after_first-word, before_first-word, behind_blanks-bare}
use Rattle.pearl_journal.proofs.Offered.{behind_blanks-gap, blanks_free}
use Rattle.pearl_journal_laws.specs.Says.{Says, SaysMore}

-- WORDS

-- all that stands behind the first word
abbrev pub rest_of : {line word second text : List ℕ} → SaysMore line word second text → List ℕ
rest_of {second} {text} more = second ++ (more.parts.gap ++ text)

pub as_text : {line word second text : List ℕ} → (more : SaysMore line word second text) → Says line word (rest_of more)
as_text more = record { parts = more.parts.says; ends = more.ends; short = more.short }

stops_at_gap : (gap text : List ℕ) → IsGap gap → gap ≢ [] → StopsWord (gap ++ text)
stops_at_gap [] text is_gap some byte more e = absurd (some refl)
stops_at_gap (b ∷ gap) text is_gap some byte more e = cc (e, is_gap.0)

behind_second : (second gap text : List ℕ) → IsSolid second → IsGap gap → gap ≢ [] → IsBare text →
    behind_word (second ++ (gap ++ text)) ≡ text
behind_second second [] text solid is_gap some bare = absurd (some refl)
behind_second second (byte ∷ gap) text solid is_gap some bare =
    ap behind_blanks (after_first-word second (byte ∷ gap ++ text) solid (stops_at_gap (byte ∷ gap) text is_gap some))
    ∙ behind_blanks-gap gap text is_gap.1 ∙ behind_blanks-bare text bare.begins

pub first_of : {line word second text : List ℕ} → (more : SaysMore line word second text) →
    first_word (rest_of more) ≡ second
first_of {line} {word} {second} {text} more =
    before_first-word second (more.parts.gap ++ text) more.parts.solid
    (stops_at_gap more.parts.gap text more.parts.is_gap more.parts.parted)

pub behind_of : {line word second text : List ℕ} → (more : SaysMore line word second text) →
    behind_word (rest_of more) ≡ text
behind_of {line} {word} {second} {text} more =
    behind_second second more.parts.gap text more.parts.solid more.parts.is_gap more.parts.parted more.is_bare

-- a word alone has nothing behind it
pub lone_first : (word : List ℕ) → IsSolid word → first_word word ≡ word
lone_first word solid =
    ap first_word (sym (append-nil word)) ∙ before_first-word word [] solid (λ byte more e. cc)

pub lone_behind : (word : List ℕ) → IsSolid word → behind_word word ≡ []
lone_behind word solid =
    ap behind_word (sym (append-nil word)) ∙ ap behind_blanks (after_first-word word [] solid (λ byte more e. cc))

-- ENTRIES AND CODES

module _ (setup : Setup) (reading : Reading) (line word text : List ℕ) (says : Says line word text) where
  means : (form : Result Entry ℕ) → form_of setup reading.is_first word text ≡ form →
      meaning setup reading line ≡ line_of (in_time reading.moment form)
  means form is =
      blanks_free setup reading line word text says.parts says.ends says.short
      ∙ ap (λ x. line_of (in_time reading.moment x)) is

  pub refused : (code : ℕ) → form_of setup reading.is_first word text ≡ Err code →
      meaning setup reading line ≡ Wrong code
  refused code is = means (Err code) is

  pub accepted : (e : Entry) → form_of setup reading.is_first word text ≡ Ok e →
      moment_after reading.moment e ≤ LAST_MOMENT →
      meaning setup reading line ≡ Item e
  accepted e is within =
      means (Ok e) is
      ∙ ap (λ b. line_of (cond b (Ok e) (Err 3))) (le-leb (moment_after reading.moment e) LAST_MOMENT within)

  pub too_late : (e : Entry) → form_of setup reading.is_first word text ≡ Ok e →
      LAST_MOMENT < moment_after reading.moment e →
      meaning setup reading line ≡ Wrong 3
  too_late e is late =
      means (Ok e) is
      ∙ ap (λ b. line_of (cond b (Ok e) (Err 3))) (lt-leb (moment_after reading.moment e) LAST_MOMENT late)

-- what is needed first and refused later has one code
pub need_either : {X : Type 0} (o : Option X) (code : ℕ) (go : X → Result Entry ℕ) → ((x : X) → go x ≡ Err code) →
    needing code o go ≡ Err code
need_either None code go refuses = refl
need_either (Some x) code go refuses = refuses x
