-- Names that were seen, by their texts, and those that repeat one before.
use Rattle.std.proofs.Common.{◌≡◌, ℕ, ◌+◌, ◌<◌, Bool, true, false, cond, ◌||◌, List, [], ◌∷◌, ◌++◌, Option, Some, None, is_some, bytes_eq, refl, sym, ap, subst, ◌∙◌, append_assoc, append-nil, length, take, get_or}
use Rattle.arrayvec.specs.ArrayVec.{ArrayVec}
use Rattle.pearl_tree.specs.declared.fault.RuleFault.{RuleFault}
use Rattle.pearl_tree.specs.declared.rule.TheConstants as rule
use Rattle.pearl_tree.specs.declared.name.Name.{Name}
use Rattle.pearl_tree.specs.declared.typing.Field.{Field}
use Rattle.pearl_tree.specs.ShownDeclarations.{shown_names}
use Rattle.pearl_tree.specs.Faults.{fault_if}
use Rattle.pearl_tree.specs.Names.{name_text, names_of, is_among, repeats}
use Rattle.pearl_names.specs.Shapes.{field_names}
use Rattle.pearl_names.specs.FirstNames.{number_of, or_else, HasNoted}
use Rattle.pearl_names.specs.Forming.{fields_shown}
use Rattle.pearl_scope.specs.Seen.{Sees}
use Rattle.pearl_names.proofs.Offered.{bytes_symm, one_taken}

repeats_append : (number : ℕ) (before a b : List Name) → repeats number before (a ++ b) ≡ repeats number before a ++ repeats number (before ++ a) b
repeats_append number before [] b = ap (λ l. repeats number l b) (sym (append-nil before))
repeats_append number before (name ∷ a) b =
    ap (λ t. fault_if (is_among before (name_text name)) name.place number ++ t) (repeats_append number (before ++ name ∷ []) a b)
    ∙ sym (append_assoc (fault_if (is_among before (name_text name)) name.place number) (repeats number (before ++ name ∷ []) a) _)
    ∙ ap (λ l. (fault_if (is_among before (name_text name)) name.place number ++ repeats number (before ++ name ∷ []) a) ++ repeats number l b)
    (append_assoc before (name ∷ []) a)

among_push : (before : List Name) (name : Name) (q : List ℕ) → is_among (before ++ name ∷ []) q ≡ is_among before q || bytes_eq q (name_text name)
among_push [] name q = by (bytes_eq q (name_text name)) refl
  where
    by : (b : Bool) → bytes_eq q (name_text name) ≡ b → (bytes_eq (name_text name) q || false) ≡ b
    by true e = ap (λ c. c || false) (bytes_symm q (name_text name) true e)
    by false e = ap (λ c. c || false) (bytes_symm q (name_text name) false e)
among_push (first ∷ before) name q = by (bytes_eq (name_text first) q) (among_push before name q)
  where
    by : (b : Bool) → is_among (before ++ name ∷ []) q ≡ is_among before q || bytes_eq q (name_text name) →
        (b || is_among (before ++ name ∷ []) q) ≡ (b || is_among before q) || bytes_eq q (name_text name)
    by true rest = refl
    by false rest = rest

sees_more : (old new : List (ArrayVec ℕ × ℕ)) (before : List Name) (name : Name) (number : ℕ) → Sees old before → HasNoted old (name_text name) number new →
    Sees new (before ++ name ∷ [])
sees_more old new before name number sees noted q =
    ap is_some (noted q) ∙ by (number_of old q) (bytes_eq q (name_text name))
    ∙ ap (λ b. b || bytes_eq q (name_text name)) (sees q) ∙ sym (among_push before name q)
  where
    by : (o : Option ℕ) (b : Bool) → is_some (or_else o (cond b (Some number) None)) ≡ is_some o || b
    by None true = refl
    by None false = refl
    by (Some n) b = refl

-- what a loop over names has told
abbrev pub Told : (old new : List (ArrayVec ℕ × ℕ)) (before after : List RuleFault) → List Name → Type 0
Told old new before after names =
    (earlier : List Name) → Sees old earlier → Sees new (earlier ++ names) × (after ≡ before ++ repeats rule.S6 earlier names)

pub told_none : (seen : List (ArrayVec ℕ × ℕ)) (faults : List RuleFault) → Told seen seen faults faults []
told_none seen faults earlier sees = (subst (Sees seen) (sym (append-nil earlier)) sees, sym (append-nil faults))

pub told_more : (old now new : List (ArrayVec ℕ × ℕ)) (a b c : List RuleFault) (xs : List Name) (i : ℕ) (x : Name) (number : ℕ) (again : Bool) →
    i < length xs → x ≡ get_or xs i x → Told old now a b (take i xs) → again ≡ is_some (number_of now (name_text x)) → HasNoted now (name_text x) number new →
    c ≡ b ++ fault_if again x.place rule.S6 → Told old new a c (take (i + 1) xs)
told_more old now new a b c xs i x number again inside is told twice noted more earlier sees =
    let so = told earlier sees in
    let here : again ≡ is_among (earlier ++ take i xs) (name_text x) = twice ∙ so.0 (name_text x) in
    let taken = one_taken xs i x inside is in (
      subst (Sees new) (append_assoc earlier (take i xs) (x ∷ []) ∙ ap (λ t. earlier ++ t) (sym taken)) (sees_more now new (earlier ++ take i xs) x number so.0 noted),
      more ∙ (λ j. so.1 j ++ fault_if (here j) x.place rule.S6)
          ∙ append_assoc a (repeats rule.S6 earlier (take i xs)) _
          ∙ ap (λ t. a ++ (repeats rule.S6 earlier (take i xs) ++ t)) (append-nil' (fault_if (is_among (earlier ++ take i xs) (name_text x)) x.place rule.S6))
          ∙ ap (λ t. a ++ t) (sym (repeats_append rule.S6 earlier (take i xs) (x ∷ [])))
          ∙ ap (λ l. a ++ repeats rule.S6 earlier l) (sym taken),
    )
  where
    append-nil' : (l : List RuleFault) → l ≡ l ++ []
    append-nil' l = sym (append-nil l)

-- what a loop over fields has told
pub record ToldFields (seen : List (ArrayVec ℕ × ℕ)) (before after : List RuleFault) (fields : List Field) : Type 0 where
  pub sees : Sees seen (field_names (fields_shown fields))
  pub told : after ≡ before ++ repeats rule.S6 [] (field_names (fields_shown fields))

pub told_no_field : (seen : List (ArrayVec ℕ × ℕ)) (faults : List RuleFault) → seen ≡ [] → ToldFields seen faults faults []
told_no_field seen faults none = record {
  sees = λ q. ap (λ entries. is_some (number_of entries q)) none;
  told = sym (append-nil faults);
}

names_more : (xs : List Field) (x : Field) → field_names (fields_shown (xs ++ x ∷ [])) ≡ field_names (fields_shown xs) ++ names_of (shown_names x.names)
names_more [] x = append-nil (names_of (shown_names x.names))
names_more (y ∷ ys) x = ap (λ t. names_of (shown_names y.names) ++ t) (names_more ys x) ∙ sym (append_assoc (names_of (shown_names y.names)) _ _)

pub told_field : (now new : List (ArrayVec ℕ × ℕ)) (a b c : List RuleFault) (xs : List Field) (i : ℕ) (x : Field) (names : List Name) → i < length xs → x ≡ get_or xs i x →
    names ≡ names_of (shown_names x.names) → ToldFields now a b (take i xs) → Told now new b c names → ToldFields new a c (take (i + 1) xs)
told_field now new a b c xs i x names inside is same so told =
    let earlier = field_names (fields_shown (take i xs)) in
    let more = told earlier so.sees in
    let e : field_names (fields_shown (take (i + 1) xs)) ≡ earlier ++ names =
    ap (λ l. field_names (fields_shown l)) (one_taken xs i x inside is) ∙ names_more (take i xs) x ∙ ap (λ t. earlier ++ t) (sym same) in
    record {
      sees = subst (Sees new) (sym e) more.0;
      told = more.1 ∙ ap (λ t. t ++ repeats rule.S6 earlier names) so.told ∙ append_assoc a (repeats rule.S6 [] earlier) _
          ∙ ap (λ t. a ++ t) (sym (repeats_append rule.S6 [] earlier names) ∙ ap (repeats rule.S6 []) (sym e));
    }
