-- What lines say that tell of what comes in.
use Rattle.std.proofs.Common.{◌≡◌, ◌≢◌, ◌≤◌, ◌^◌, ℕ, List, [], inl, inr, Bool, true, false, Option, Some, None, Result, Ok, Err, slice_get, codes, refl, ap, ap₂, sym, ◌∙◌, subst}
use Rattle.std.specs.Prelude.{if◌then◌else◌}
use Rattle.std.specs.List.{position}
use Rattle.pearl_value.specs.declared.cell.Cell.{Cell}
use Rattle.pearl_value.specs.declared.kind.Kind.{Kind}
use Rattle.pearl_rules.specs.declared.entry.Entry.{Entry}
use Rattle.pearl_rules.specs.declared.entry.Entry.TheVariants as entry
use Rattle.pearl_value.specs.declared.device.Device.TheVariants as device
use Rattle.pearl_rules.specs.declared.setup.Setup.{Setup}
use Rattle.pearl_rules.specs.Entries.{Becomes}
use Rattle.pearl_rules.specs.Literals.{clock_literal, span_literal}
use Rattle.pearl_rules.specs.Tables.{input_kind}
use Rattle.pearl_journal.specs.declared.reading.Line.TheVariants.{Item, Wrong}
use Rattle.pearl_journal.specs.Devices.{is_input, is_interrupt, is_readable}
use Rattle.pearl_journal.specs.Laws.{TakesTwoParts}
use Rattle.pearl_journal.specs.Meaning.{form_of, irpt_entry, meaning, needing, terminal_entry}
use Rattle.pearl_journal.specs.Readings.{Reading}
use Rattle.pearl_journal.specs.Texts.{quoted, text_literal}
use Rattle.pearl_journal.specs.Values.{coming_in, literal, may_come_in}
use Rattle.pearl_journal.specs.Words.{behind_word, first_word, number}
use Rattle.pearl_journal.proofs.Offered.{IsSolid}
use Rattle.pearl_journal_laws.specs.Literals.{IsLiteral, Spells, SpellsTooMuch}
use Rattle.pearl_journal_laws.specs.Named.{IsFirst, IsInput, IsInterrupt, IsNowhere, IsReadable}
use Rattle.pearl_journal_laws.specs.Says.{IsNoNumber, IsNumber, IsText, Says, SaysMore}
use Rattle.pearl_journal_laws.proofs.Saying.{accepted, as_text, behind_of, first_of, lone_behind, need_either, refused, rest_of}
use Rattle.pearl_journal_laws.proofs.Numbers.{no_number, number_is}
use Rattle.pearl_journal_laws.proofs.Finding.{first_found, input_decides, interrupt_decides, none_found, readable_decides}
use Rattle.pearl_journal_laws.proofs.Texts.{literal_is, no_literal, no_text, text_is}
use Rattle.pearl_journal_laws.proofs.Literals.{comes_at, missing_literal, some_literal, spells_value, stays_at, value_at}
use Rattle.pearl_journal_laws.proofs.Values.{may_come, may_not_come}

-- INTERRUPTS

module _ (setup : Setup) (reading : Reading) (line text : List ℕ) (says : Says line (codes "irpt") text) where
  irpt_form : (k : ℕ) (o : Option ℕ) → IsNumber text k → position (is_interrupt k) setup.devices ≡ o →
      irpt_entry setup text ≡ needing 2 o (λ d. Ok (entry.Irpt d))
  irpt_form k o is found =
      ap (λ n. needing 1 n (λ k. needing 2 (position (is_interrupt k) setup.devices) (λ d. Ok (entry.Irpt d))))
      (number_is text k is)
      ∙ ap (λ o. needing 2 o (λ d. Ok (entry.Irpt d))) found

  pub irpt_is : (k d : ℕ) → reading.moment ≤ 2 ^ 40 → IsNumber text k → IsFirst (IsInterrupt k) setup.devices d →
      meaning setup reading line ≡ Item (entry.Irpt d)
  irpt_is k d within is first =
      accepted setup reading line (codes "irpt") text says (entry.Irpt d)
      (irpt_form k (Some d) is (first_found _ _ (interrupt_decides k) setup.devices d first)) within

  pub irpt_none : (k : ℕ) → IsNumber text k → IsNowhere (IsInterrupt k) setup.devices →
      meaning setup reading line ≡ Wrong 2
  irpt_none k is none =
      refused setup reading line (codes "irpt") text says 2
      (irpt_form k None is (none_found _ _ (interrupt_decides k) setup.devices none))

  pub irpt_no_number : IsNoNumber text → meaning setup reading line ≡ Wrong 1
  irpt_no_number none =
      refused setup reading line (codes "irpt") text says 1
      (ap (λ n. needing 1 n (λ k. needing 2 (position (is_interrupt k) setup.devices) (λ d. Ok (entry.Irpt d))))
      (no_number text none))

-- TERMINALS

module _ (setup : Setup) (form : ℕ → List ℕ → Entry) where
  terminal_form : (word : List ℕ) (o : Option (List ℕ)) (k : ℕ) (text : List ℕ) (place : Option ℕ) →
      number word ≡ Some k →
      o ≡ Some text → position (is_readable k) setup.devices ≡ place →
      terminal_entry setup word o form ≡ needing 2 place (λ d. Ok (form d text))
  terminal_form word o k text place is said found =
      ap₂ (λ n t. needing 1 n (λ k. needing 1 t (λ text.
      needing 2 (position (is_readable k) setup.devices) (λ d. Ok (form d text))))) is said
      ∙ ap (λ o. needing 2 o (λ d. Ok (form d text))) found

  pub terminal_no_text : (word : List ℕ) (o : Option (List ℕ)) → o ≡ None → terminal_entry setup word o form ≡ Err 1
  terminal_no_text word o none =
      ap (λ t. terminal_entry setup word t form) none ∙ need_either (number word) 1 _ (λ k. refl)

  terminal_no_number : (word : List ℕ) (o : Option (List ℕ)) → number word ≡ None →
      terminal_entry setup word o form ≡ Err 1
  terminal_no_number word o none =
      ap (λ n. needing 1 n (λ k. needing 1 o (λ text.
      needing 2 (position (is_readable k) setup.devices) (λ d. Ok (form d text))))) none

abbrev chars_at : ℕ → List ℕ → Entry
chars_at d text = entry.Chars d (record { items = text })

abbrev line_at : ℕ → List ℕ → Entry
line_at d text = entry.Line d (record { items = text })

module _ (setup : Setup) (reading : Reading) (line digits spelled : List ℕ)
    (says : SaysMore line (codes "chars") digits spelled) where
  chars_form : (form : Result Entry ℕ) →
      terminal_entry setup digits (text_literal spelled) chars_at ≡ form →
      form_of setup reading.is_first (codes "chars") (rest_of says) ≡ form
  chars_form form is =
      ap₂ (λ a b. terminal_entry setup a (text_literal b) chars_at)
      (first_of says) (behind_of says) ∙ is

  pub chars_is : (text : List ℕ) (k d : ℕ) → reading.moment ≤ 2 ^ 40 → IsNumber digits k → IsText spelled text →
      text ≢ [] → IsFirst (IsReadable k) setup.devices d → meaning setup reading line ≡ Item (chars_at d text)
  chars_is text k d within is said some first =
      accepted setup reading line (codes "chars") (rest_of says) (as_text says) (chars_at d text)
      (chars_form _
      (terminal_form setup chars_at digits (text_literal spelled) k text (Some d) (number_is digits k is)
      (literal_is spelled text said some)
      (first_found _ _ (readable_decides k) setup.devices d first))) within

  pub chars_none : (text : List ℕ) (k : ℕ) → IsNumber digits k → IsText spelled text → text ≢ [] →
      IsNowhere (IsReadable k) setup.devices → meaning setup reading line ≡ Wrong 2
  chars_none text k is said some none =
      refused setup reading line (codes "chars") (rest_of says) (as_text says) 2
      (chars_form _ (terminal_form setup chars_at digits (text_literal spelled) k text None
      (number_is digits k is) (literal_is spelled text said some)
      (none_found _ _ (readable_decides k) setup.devices none)))

  pub chars_no_text : ((text : List ℕ) → IsText spelled text → text ≡ []) → meaning setup reading line ≡ Wrong 1
  chars_no_text empty =
      refused setup reading line (codes "chars") (rest_of says) (as_text says) 1
      (chars_form _ (terminal_no_text setup _ digits (text_literal spelled) (no_literal spelled empty)))

  pub chars_no_number : IsNoNumber digits → meaning setup reading line ≡ Wrong 1
  chars_no_number none =
      refused setup reading line (codes "chars") (rest_of says) (as_text says) 1
      (chars_form _ (terminal_no_number setup _ digits (text_literal spelled) (no_number digits none)))

module _ (setup : Setup) (reading : Reading) (line digits spelled : List ℕ)
    (says : SaysMore line (codes "line") digits spelled) where
  line_form : (form : Result Entry ℕ) →
      terminal_entry setup digits (quoted spelled) line_at ≡ form →
      form_of setup reading.is_first (codes "line") (rest_of says) ≡ form
  line_form form is =
      ap₂ (λ a b. terminal_entry setup a (quoted b) line_at)
      (first_of says) (behind_of says) ∙ is

  pub line_is : (text : List ℕ) (k d : ℕ) → reading.moment ≤ 2 ^ 40 → IsNumber digits k → IsText spelled text →
      IsFirst (IsReadable k) setup.devices d → meaning setup reading line ≡ Item (line_at d text)
  line_is text k d within is said first =
      accepted setup reading line (codes "line") (rest_of says) (as_text says) (line_at d text)
      (line_form _ (terminal_form setup line_at digits (quoted spelled) k text (Some d)
      (number_is digits k is) (text_is spelled text said)
      (first_found _ _ (readable_decides k) setup.devices d first))) within

  pub line_none : (text : List ℕ) (k : ℕ) → IsNumber digits k → IsText spelled text →
      IsNowhere (IsReadable k) setup.devices → meaning setup reading line ≡ Wrong 2
  line_none text k is said none =
      refused setup reading line (codes "line") (rest_of says) (as_text says) 2
      (line_form _ (terminal_form setup line_at digits (quoted spelled) k text None
      (number_is digits k is) (text_is spelled text said) (none_found _ _ (readable_decides k) setup.devices none)))

  pub line_no_text : ((text : List ℕ) → IsText spelled text → ⊥) → meaning setup reading line ≡ Wrong 1
  line_no_text none =
      refused setup reading line (codes "line") (rest_of says) (as_text says) 1
      (line_form _ (terminal_no_text setup _ digits (quoted spelled) (no_text spelled none)))

  pub line_no_number : IsNoNumber digits → meaning setup reading line ≡ Wrong 1
  line_no_number none =
      refused setup reading line (codes "line") (rest_of says) (as_text says) 1
      (line_form _ (terminal_no_number setup _ digits (quoted spelled) (no_number digits none)))

-- INPUTS

module _ (setup : Setup) where
  -- an entry of a value at the input that is found, or a code
  abbrev placed : Option ℕ → List ℕ → Result Entry ℕ
  placed place bytes =
      needing 1 (literal bytes) (λ said.
      needing 2 place (λ d.
      needing 4 (coming_in (input_kind (slice_get setup.devices d)) said) (λ x. Ok (entry.Value d x))))

  -- the same of a number
  abbrev numbered : Option ℕ → List ℕ → Result Entry ℕ
  numbered n bytes = needing 1 n (λ k. placed (position (is_input k) setup.devices) bytes)

  placed_none : (place : Option ℕ) (bytes : List ℕ) → literal bytes ≡ None → placed place bytes ≡ Err 1
  placed_none place bytes none =
      ap (λ o. needing 1 o (λ said.
      needing 2 place (λ d.
      needing 4 (coming_in (input_kind (slice_get setup.devices d)) said) (λ x. Ok (entry.Value d x))))) none

  pub numbered_none : (n : Option ℕ) (bytes : List ℕ) → literal bytes ≡ None → numbered n bytes ≡ Err 1
  numbered_none n bytes none = need_either n 1 _ (λ k. placed_none (position (is_input k) setup.devices) bytes none)

  -- at an input of this kind
  placed_at : (d k : ℕ) (of : Kind) (bytes : List ℕ) → slice_get setup.devices d ≡ Some (device.Input k of) →
      placed (Some d) bytes ≡ value_at d of bytes
  placed_at d k of bytes at =
      ap (λ o. needing 1 (literal bytes) (λ said.
      needing 4 (coming_in (input_kind o) said) (λ x. Ok (entry.Value d x)))) at

-- where something is there, what comes of it is all the same
need_there : {X : Type 0} (o : Option X) (form : Result Entry ℕ) → (o ≡ None → ⊥) → needing 1 o (λ x. form) ≡ form
need_there None form there = absurd (there refl)
need_there (Some x) form there = refl

module _ (setup : Setup) (reading : Reading) (line digits spelled : List ℕ)
    (says : SaysMore line (codes "value") digits spelled) where
  value_form : (n : Option ℕ) → number digits ≡ n →
      form_of setup reading.is_first (codes "value") (rest_of says) ≡ numbered setup n spelled
  value_form n is = ap₂ (numbered setup) (ap number (first_of says) ∙ is) (behind_of says)

  -- at the input that has the number
  value_found : (k d : ℕ) (of : Kind) → IsNumber digits k → IsFirst (IsInput k) setup.devices d →
      slice_get setup.devices d ≡ Some (device.Input k of) →
      form_of setup reading.is_first (codes "value") (rest_of says) ≡ value_at d of spelled
  value_found k d of is first at =
      value_form (Some k) (number_is digits k is)
      ∙ ap (λ place. placed setup place spelled) (first_found _ _ (input_decides k) setup.devices d first)
      ∙ placed_at setup d k of spelled at

  value_comes : (k d : ℕ) (of : Kind) (x : Cell) (may : Bool) → IsNumber digits k → Spells spelled x →
      IsFirst (IsInput k) setup.devices d → slice_get setup.devices d ≡ Some (device.Input k of) →
      may_come_in of x ≡ may →
      form_of setup reading.is_first (codes "value") (rest_of says)
      ≡ needing 4 (if may then Some x else None) (λ x. Ok (entry.Value d x))
  value_comes k d of x may is spells first at comes =
      value_found k d of is first at ∙ comes_at spelled x d of spells
      ∙ ap (λ b. needing 4 (if b then Some x else None) (λ x. Ok (entry.Value d x))) comes

  pub value_is : (k d : ℕ) (of : Kind) (x : Cell) → reading.moment ≤ 2 ^ 40 → IsNumber digits k →
      Spells spelled x → IsFirst (IsInput k) setup.devices d →
      slice_get setup.devices d ≡ Some (device.Input k of) → Becomes of x →
      meaning setup reading line ≡ Item (entry.Value d x)
  value_is k d of x within is spells first at becomes =
      accepted setup reading line (codes "value") (rest_of says) (as_text says) (entry.Value d x)
      (value_comes k d of x true is spells first at (may_come of x becomes)) within

  pub value_unfit : (k d : ℕ) (of : Kind) (x : Cell) → IsNumber digits k →
      Spells spelled x → IsFirst (IsInput k) setup.devices d →
      slice_get setup.devices d ≡ Some (device.Input k of) → (Becomes of x → ⊥) → meaning setup reading line ≡ Wrong 4
  value_unfit k d of x is spells first at never =
      refused setup reading line (codes "value") (rest_of says) (as_text says) 4
      (value_comes k d of x false is spells first at (may_not_come of x (spells_value spelled x spells) never))

  pub value_long : (k d : ℕ) → IsNumber digits k → SpellsTooMuch spelled → IsFirst (IsInput k) setup.devices d →
      meaning setup reading line ≡ Wrong 4
  value_long k d is spells first =
      let at : slice_get setup.devices d ≡ Some (device.Input k first.wanted.0) = first.stands
      ∙ ap Some first.wanted.1 in
      refused setup reading line (codes "value") (rest_of says) (as_text says) 4
      (value_found k d first.wanted.0 is first at ∙ stays_at spelled d first.wanted.0 spells)

  pub value_none : (k : ℕ) → IsNumber digits k → IsLiteral spelled →
      IsNowhere (IsInput k) setup.devices → meaning setup reading line ≡ Wrong 2
  value_none k is spells none =
      refused setup reading line (codes "value") (rest_of says) (as_text says) 2
      (value_form (Some k) (number_is digits k is)
      ∙ ap (λ place. placed setup place spelled) (none_found _ _ (input_decides k) setup.devices none)
      ∙ need_there (literal spelled) (Err 2) (some_literal spelled spells))

  pub value_no_literal : (IsLiteral spelled → ⊥) → meaning setup reading line ≡ Wrong 1
  value_no_literal never =
      refused setup reading line (codes "value") (rest_of says) (as_text says) 1
      (value_form (number digits) refl ∙ numbered_none setup (number digits) spelled (missing_literal spelled never))

  pub value_no_number : IsNoNumber digits → meaning setup reading line ≡ Wrong 1
  value_no_number none =
      refused setup reading line (codes "value") (rest_of says) (as_text says) 1
      (value_form None (no_number digits none))

-- MISSING PARTS

nothing_is_literal : literal [] ≡ None
unfolding clock_literal span_literal
nothing_is_literal = refl

no_second : (setup : Setup) (is_first : Bool) (word rest : List ℕ) → TakesTwoParts word → behind_word rest ≡ [] →
    form_of setup is_first word rest ≡ Err 1
no_second setup is_first word rest takes nothing = by_word takes
  where
    alike : (w : List ℕ) → form_of setup is_first w rest ≡ Err 1 → word ≡ w → form_of setup is_first word rest ≡ Err 1
    alike w none is = subst (λ v. form_of setup is_first v rest ≡ Err 1) (sym is) none

    by_word : TakesTwoParts word → form_of setup is_first word rest ≡ Err 1
    by_word (inl is) = alike (codes "pass")
        (need_either (number (first_word rest)) 1 _
        (λ d. ap (λ b. needing 1 (number b) (λ n. Ok (entry.Pass d n))) nothing)) is
    by_word (inr (inl is)) = alike (codes "chars")
        (terminal_no_text setup _ (first_word rest) (text_literal (behind_word rest)) (ap text_literal nothing)) is
    by_word (inr (inr (inl is))) = alike (codes "line")
        (terminal_no_text setup _ (first_word rest) (quoted (behind_word rest)) (ap quoted nothing)) is
    by_word (inr (inr (inr is))) = alike (codes "value")
        (numbered_none setup (number (first_word rest)) (behind_word rest) (ap literal nothing ∙ nothing_is_literal)) is

pub part_missing : (setup : Setup) (reading : Reading) (line word second : List ℕ) → TakesTwoParts word →
    Says line word second →
    IsSolid second → meaning setup reading line ≡ Wrong 1
part_missing setup reading line word second takes says solid =
    refused setup reading line word second says 1
    (no_second setup reading.is_first word second takes (lone_behind second solid))
