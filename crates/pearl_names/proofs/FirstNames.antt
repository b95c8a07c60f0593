-- The first of some names that has a text, where one more name comes behind them.
use Rattle.std.proofs.Common.{◌≡◌, ℕ, suc, ◌+◌, ◌<◌, ◌^◌, Bool, true, false, cond, List, [], ◌∷◌, ◌++◌, length, length-append, Option, Some, None, option_map, is_some, bytes_eq, refl, sym, ap, ◌∙◌, true≢false, arith}
use Rattle.std.proofs.lemmas.Map.Text.{is_eq-slice_cmp}
use Rattle.std.proofs.lemmas.Slice.Eq.{bytes_eq-Decides}
use Rattle.std.specs.Cmp.Lexicographic.{slice_cmp}
use Rattle.std.specs.Map.{lookup}
use Rattle.std.specs.Ordering.{is_eq, nat_cmp}
use Rattle.arrayvec.specs.ArrayVec.{ArrayVec}
use Rattle.pearl_names.specs.declared.scope.SortedName.{SortedName}
use Rattle.pearl_tree.specs.Names.{name_text}
use Rattle.pearl_names.specs.FirstNames.{first_index, number_of, or_else, HasNoted, IsIndex}

-- one more name
pub first_push : (names : List SortedName) (entry : SortedName) (text : List ℕ) →
    first_index (names ++ entry ∷ []) text ≡
    or_else (first_index names text) (cond (bytes_eq text (name_text entry.name)) (Some (length names)) None)
first_push [] entry text = refl
first_push (first ∷ names) entry text = by (first_push names entry text) (bytes_eq text (name_text first.name))
  where
    last : (o : Option ℕ) (b : Bool) → option_map suc (or_else o (cond b (Some (length names)) None)) ≡ or_else (option_map suc o) (cond b (Some (length (first ∷ names))) None)
    last None true = refl
    last None false = refl
    last (Some i) b = refl

    by : first_index (names ++ entry ∷ []) text ≡ or_else (first_index names text) (cond (bytes_eq text (name_text entry.name)) (Some (length names)) None) →
        (b : Bool) → cond b (Some 0) (option_map suc (first_index (names ++ entry ∷ []) text)) ≡
        or_else (cond b (Some 0) (option_map suc (first_index names text))) (cond (bytes_eq text (name_text entry.name)) (Some (length (first ∷ names))) None)
    by within true = refl
    by within false = ap (option_map suc) within ∙ last (first_index names text) (bytes_eq text (name_text entry.name))

pub bytes_symm : (a b : List ℕ) (is : Bool) → bytes_eq a b ≡ is → bytes_eq b a ≡ is
bytes_symm a b true e = (bytes_eq-Decides b a).1 (sym ((bytes_eq-Decides a b).0 e))
bytes_symm a b false e = by (bytes_eq b a) refl
  where
    by : (c : Bool) → bytes_eq b a ≡ c → c ≡ false
    by true h = absurd (true≢false (sym ((bytes_eq-Decides a b).1 (sym ((bytes_eq-Decides b a).0 h))) ∙ e))
    by false h = refl

-- a map in the order of texts finds what stands at a text
pub same_found : (entries : List (ArrayVec ℕ × ℕ)) (text : List ℕ) →
    lookup (λ key. is_eq (slice_cmp nat_cmp text key.items)) entries ≡ number_of entries text
same_found entries text = ap (λ test. lookup test entries) (λ i key. is_eq-slice_cmp text key.items i)

pub same_updates : (key : ArrayVec ℕ) (number : ℕ) (old new : List (ArrayVec ℕ × ℕ)) →
    ((q : ArrayVec ℕ) → lookup (λ k. is_eq (slice_cmp nat_cmp q.items k.items)) new ≡
    cond (is_eq (slice_cmp nat_cmp key.items q.items)) (Some number) (lookup (λ k. is_eq (slice_cmp nat_cmp q.items k.items)) old)) →
    (q : ArrayVec ℕ) → number_of new q.items ≡ cond (bytes_eq key.items q.items) (Some number) (number_of old q.items)
same_updates key number old new updates q =
    sym (same_found new q.items) ∙ updates q
    ∙ (λ i. cond (is_eq-slice_cmp key.items q.items i) (Some number) (same_found old q.items i))

-- the text was not there, and is put in
pub noted_new : (key : ArrayVec ℕ) (text : List ℕ) (number : ℕ) (old new : List (ArrayVec ℕ × ℕ)) → key.items ≡ text → number_of old text ≡ None →
    ((q : ArrayVec ℕ) → number_of new q.items ≡ cond (bytes_eq key.items q.items) (Some number) (number_of old q.items)) →
    HasNoted old text number new
noted_new key text number old new same fresh updates q = by (bytes_eq q text) refl
  where
    by : (b : Bool) → bytes_eq q text ≡ b → number_of new q ≡ or_else (number_of old q) (cond b (Some number) None)
    by true e =
        updates (record { items = q }) ∙ ap (λ b. cond b (Some number) (number_of old q)) (ap (λ k. bytes_eq k q) same ∙ bytes_symm q text true e)
        ∙ ap (λ o. or_else o (Some number)) (sym (ap (number_of old) ((bytes_eq-Decides q text).0 e) ∙ fresh))
    by false e =
        updates (record { items = q }) ∙ ap (λ b. cond b (Some number) (number_of old q)) (ap (λ k. bytes_eq k q) same ∙ bytes_symm q text false e)
        ∙ kept (number_of old q)
      where
        kept : (o : Option ℕ) → o ≡ or_else o None
        kept None = refl
        kept (Some x) = refl

-- the text was there, and the map stays
pub noted_twice : (text : List ℕ) (number : ℕ) (entries : List (ArrayVec ℕ × ℕ)) → is_some (number_of entries text) ≡ true → HasNoted entries text number entries
noted_twice text number entries there q = by (bytes_eq q text) refl
  where
    some : (o : Option ℕ) → is_some o ≡ true → o ≡ or_else o (Some number)
    some None h = absurd (true≢false (sym h))
    some (Some i) h = refl

    kept : (o : Option ℕ) → o ≡ or_else o None
    kept None = refl
    kept (Some x) = refl

    by : (b : Bool) → bytes_eq q text ≡ b → number_of entries q ≡ or_else (number_of entries q) (cond b (Some number) None)
    by true e = some (number_of entries q) (ap (λ t. is_some (number_of entries t)) ((bytes_eq-Decides q text).0 e) ∙ there)
    by false e = kept (number_of entries q)

pub index_push : (names : List SortedName) (entry : SortedName) (text : List ℕ) (number : ℕ) (old new : List (ArrayVec ℕ × ℕ)) → IsIndex names old →
    number + 1 < 2 ^ 32 → number ≡ length names → name_text entry.name ≡ text → HasNoted old text number new → IsIndex (names ++ entry ∷ []) new
index_push names entry text number old new index few last same noted = record {
  finds = λ q.
      noted q
      ∙ (λ i. or_else (index.finds q i) (cond (bytes_eq q (same' i)) (Some (last i)) None))
      ∙ sym (first_push names entry q);
  few = let e : length (names ++ entry ∷ []) ≡ length names + 1 = length-append names (entry ∷ []) in omega (arith, e, few, last);
}
  where
    same' : text ≡ name_text entry.name
    same' = sym same

pub none_since : {X : Type 0} (o : Option X) → is_some o ≡ false → o ≡ None
none_since None h = refl
none_since (Some i) h = absurd (true≢false h)
