-- Which texts stand between apostrophes.
use Rattle.std.proofs.Common.{◌≡◌, ◌≢◌, ℕ, List, [], ◌∷◌, Option, Some, None, refl, ap, ◌∙◌, subst}
use Rattle.std.specs.Prelude.{IfSome}
use Rattle.pearl_journal.specs.Texts.{if_some, quoted, text_literal}
use Rattle.pearl_journal.proofs.Offered.{IsShort, quoted-short, quoted_only, quoted_read}
use Rattle.pearl_journal_laws.specs.Says.{IsText}

pub text_is : (spelled text : List ℕ) → IsText spelled text → quoted spelled ≡ Some text
text_is spelled text is = ap quoted is.written ∙ quoted_read text is.printed is.short

some_text : (text : List ℕ) → text ≢ [] → if_some (Some text) ≡ Some text
some_text [] some = absurd (some refl)
some_text (byte ∷ text) some = refl

pub literal_is : (spelled text : List ℕ) → IsText spelled text → text ≢ [] → text_literal spelled ≡ Some text
literal_is spelled text is some = ap if_some (text_is spelled text is) ∙ some_text text some

pub was_text : (spelled text : List ℕ) → quoted spelled ≡ Some text → IsText spelled text
was_text spelled text e =
    let short : IsShort text = subst (λ o. IfSome o IsShort) e (quoted-short spelled) in
    record { written = quoted_only spelled text e; printed = short.printed; short = short.short }

pub no_text : (spelled : List ℕ) → ((text : List ℕ) → IsText spelled text → ⊥) → quoted spelled ≡ None
no_text spelled none = by (quoted spelled) refl
  where
    by : (o : Option (List ℕ)) → quoted spelled ≡ o → o ≡ None
    by None e = refl
    by (Some text) e = absurd (none text (was_text spelled text e))

pub no_literal : (spelled : List ℕ) → ((text : List ℕ) → IsText spelled text → text ≡ []) → text_literal spelled ≡ None
no_literal spelled empty = by (quoted spelled) refl
  where
    by : (o : Option (List ℕ)) → quoted spelled ≡ o → if_some o ≡ None
    by None e = refl
    by (Some text) e = ap (λ t. if_some (Some t)) (empty text (was_text spelled text e))
