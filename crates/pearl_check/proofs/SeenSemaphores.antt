-- Semaphores that were seen in one statement, and those that repeat one before.
use Rattle.std.proofs.Common.{◌≡◌, ℕ, ◌-◌, ◌<◌, Bool, true, false, List, [], ◌∷◌, ◌++◌, cond, refl, sym, ap, subst, ◌∙◌, append_assoc, append-nil, arith, length, take, drop, get_or}
use Rattle.std.specs.Prelude.{is_some, filter}
use Rattle.arrayvec.specs.ArrayVec.{ArrayVec}
use Rattle.pearl_tree.specs.declared.fault.RuleFault.{RuleFault}
use Rattle.pearl_tree.specs.declared.name.Name.{Name}
use Rattle.pearl_tree.specs.Faults.{fault_if}
use Rattle.pearl_tree.specs.Names.{name_text, is_among, repeats}
use Rattle.pearl_names.specs.FirstNames.{number_of, HasNoted}
use Rattle.pearl_names.proofs.Offered.{all_taken}
use Rattle.pearl_scope.specs.Seen.{Sees}
use Rattle.pearl_scope.proofs.Offered.{told_none, told_more}

-- one name more is noted
pub sees_next : (old new : List (ArrayVec ℕ × ℕ)) (before : List Name) (name : Name) (number : ℕ) (again : Bool) →
    again ≡ is_some (number_of old (name_text name)) → HasNoted old (name_text name) number new → Sees old before → Sees new (before ++ name ∷ [])
sees_next old new before name number again twice noted sees =
    (told_more old old new [] [] (fault_if again name.place 6) (name ∷ []) 0 name number again (omega arith) refl (told_none old []) twice noted refl before sees).0

-- what is told of a name, and which names were seen after it, where only those that pass a test are asked for
abbrev pub Tells : (Name → Bool) → (old new : List (ArrayVec ℕ × ℕ)) (now told : List RuleFault) → Name → Type 0
Tells test old new now told name =
    (before : List Name) → Sees old before →
    Sees new (before ++ filter test (name ∷ [])) × (told ≡ now ++ repeats 31 before (filter test (name ∷ [])))

-- what was told of the names before those that are left
pub record ToldSo (test : Name → Bool) (seen : List (ArrayVec ℕ × ℕ)) (old now : List RuleFault) (all left : List Name) : Type 0 where
  pub before : List Name
  pub sees : Sees seen before
  pub told : now ++ repeats 31 before (filter test left) ≡ old ++ repeats 31 [] (filter test all)

pub told_nothing : (test : Name → Bool) (seen : List (ArrayVec ℕ × ℕ)) (old : List RuleFault) (all : List Name) → seen ≡ [] → ToldSo test seen old old all all
told_nothing test seen old all none = record {
  before = [];
  sees = λ text. ap (λ entries. is_some (number_of entries text)) none;
  told = refl;
}

pub told_next : (test : Name → Bool) (seen new : List (ArrayVec ℕ × ℕ)) (old now told : List RuleFault) (all left : List Name) (name : Name) →
    Tells test seen new now told name → ToldSo test seen old now all (name ∷ left) → ToldSo test new old told all left
told_next test seen new old now told all left name tells so = by (test name) tells so.told
  where
    by : (b : Bool) →
        ((before : List Name) → Sees seen before →
        Sees new (before ++ cond b (name ∷ []) []) × (told ≡ now ++ repeats 31 before (cond b (name ∷ []) []))) →
        now ++ repeats 31 so.before (cond b (name ∷ filter test left) (filter test left)) ≡ old ++ repeats 31 [] (filter test all) →
        ToldSo test new old told all left
    by true tells is =
        let step = tells so.before so.sees in
        let fault = fault_if (is_among so.before (name_text name)) name.place 31 in
        let rest = repeats 31 (so.before ++ name ∷ []) (filter test left) in
        record {
          before = so.before ++ name ∷ [];
          sees = step.0;
          told = ap (λ t. t ++ rest) (step.1 ∙ ap (λ t. now ++ t) (append-nil fault)) ∙ append_assoc now fault rest ∙ is;
        }
    by false tells is =
        let step = tells so.before so.sees in
        record {
          before = so.before ++ [];
          sees = step.0;
          told = ap (λ t. t ++ repeats 31 (so.before ++ []) (filter test left)) (step.1 ∙ append-nil now)
              ∙ ap (λ l. now ++ repeats 31 l (filter test left)) (append-nil so.before) ∙ is;
        }

-- the same of the first of a list
pub told_rest : (test : Name → Bool) (seen new : List (ArrayVec ℕ × ℕ)) (old now told : List RuleFault) (all left : List Name) (name : Name) →
    0 < length left → name ≡ get_or left 0 name → Tells test seen new now told name → ToldSo test seen old now all left →
    ToldSo test new old told all (take (length left - 1) (drop 1 left))
told_rest test seen new old now told all [] name inside is tells so = absurd (omega (arith, inside))
told_rest test seen new old now told all (first ∷ left) name inside is tells so =
    subst (ToldSo test new old told all) (sym (all_taken left (length (first ∷ left) - 1) (omega arith)))
    (told_next test seen new old now told all left first (subst (Tells test seen new now told) is tells) so)

-- no name is left
pub told_all : (test : Name → Bool) (seen : List (ArrayVec ℕ × ℕ)) (old now : List RuleFault) (all left : List Name) → length left < 1 →
    ToldSo test seen old now all left → now ≡ old ++ repeats 31 [] (filter test all)
told_all test seen old now all [] none so = sym (append-nil now) ∙ so.told
told_all test seen old now all (name ∷ left) none so = absurd (omega (arith, none))
