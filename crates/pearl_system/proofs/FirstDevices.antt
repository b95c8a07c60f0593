-- The first of some devices that has a name, and whether one has a word and a number, where one more device comes behind them.
use Rattle.std.proofs.Common.{◌≡◌, ℕ, suc, Bool, true, false, cond, not, ◌&&◌, ◌||◌, ◌==◌, List, [], ◌∷◌, ◌++◌, length, map, Option, Some, None, option_map, is_some, bytes_eq, refl, sym, ap, ◌∙◌, true≢false, arith}
use Rattle.std.proofs.lemmas.Bool.Decides.{nat_tests}
use Rattle.std.proofs.lemmas.List.Folds.{list_any-append}
use Rattle.std.proofs.lemmas.Map.Text.{is_eq-slice_cmp}
use Rattle.std.proofs.lemmas.Slice.Eq.{bytes_eq-Decides}
use Rattle.std.specs.Cmp.{both_tied, unsigned_ties}
use Rattle.std.specs.Cmp.Lexicographic.{slice_cmp}
use Rattle.std.specs.List.{list_any, slice_get}
use Rattle.std.specs.Map.{lookup}
use Rattle.std.specs.declared.cmp.Ordering.{Ordering}
use Rattle.std.specs.Option.{option_and_then, option_or}
use Rattle.std.specs.Ordering.{is_eq, nat_cmp, ordering_then}
use Rattle.arrayvec.specs.ArrayVec.{ArrayVec}
use Rattle.pearl_tree.specs.declared.declaration.Device.{Device}
use Rattle.pearl_tree.specs.Names.{is_among}
use Rattle.pearl_system.specs.Devices.{named, spelling}
use Rattle.pearl_system.specs.FirstDevices.{first_index, has_pair, number_at, HasAdded, HasNoted, HoldsTwins, IsIndex}

pub none_since : {X : Type 0} (o : Option X) → is_some o ≡ false → o ≡ None
none_since None h = refl
none_since (Some i) h = absurd (true≢false h)

pub bytes_symm : (a b : List ℕ) (is : Bool) → bytes_eq a b ≡ is → bytes_eq b a ≡ is
bytes_symm a b true e = (bytes_eq-Decides b a).1 (sym ((bytes_eq-Decides a b).0 e))
bytes_symm a b false e = by (bytes_eq b a) refl
  where
    by : (c : Bool) → bytes_eq b a ≡ c → c ≡ false
    by true h = absurd (true≢false (sym ((bytes_eq-Decides a b).1 (sym ((bytes_eq-Decides b a).0 h))) ∙ e))
    by false h = refl

-- one more device
first_push : (devices : List Device) (device : Device) (text : List ℕ) →
    first_index (devices ++ device ∷ []) text ≡
    option_or (first_index devices text) (cond (bytes_eq text device.name.text.items) (Some (length devices)) None)
first_push [] device text = refl
first_push (first ∷ devices) device text = by (first_push devices device text) (bytes_eq text first.name.text.items)
  where
    last : (o : Option ℕ) (b : Bool) → option_map suc (option_or o (cond b (Some (length devices)) None)) ≡
        option_or (option_map suc o) (cond b (Some (length (first ∷ devices))) None)
    last None true = refl
    last None false = refl
    last (Some i) b = refl

    by : first_index (devices ++ device ∷ []) text ≡
        option_or (first_index devices text) (cond (bytes_eq text device.name.text.items) (Some (length devices)) None) →
        (b : Bool) → cond b (Some 0) (option_map suc (first_index (devices ++ device ∷ []) text)) ≡
        option_or (cond b (Some 0) (option_map suc (first_index devices text)))
        (cond (bytes_eq text device.name.text.items) (Some (length (first ∷ devices))) None)
    by within true = refl
    by within false = ap (option_map suc) within ∙ last (first_index devices text) (bytes_eq text device.name.text.items)

pub index_push : (devices : List Device) (device : Device) (number : ℕ) (old new : List (ArrayVec ℕ × ℕ)) → IsIndex devices old →
    number ≡ length devices → HasNoted old device.name.text.items number new → IsIndex (devices ++ device ∷ []) new
index_push devices device number old new index last noted text =
    noted text
    ∙ (λ i. option_or (index text i) (cond (bytes_eq text device.name.text.items) (Some (last i)) None))
    ∙ sym (first_push devices device text)

-- a map in the order of texts finds what stands at a text
pub same_found : (entries : List (ArrayVec ℕ × ℕ)) (text : List ℕ) →
    lookup (λ key. is_eq (slice_cmp nat_cmp text key.items)) entries ≡ number_at entries text
same_found entries text = ap (λ test. lookup test entries) (λ i key. is_eq-slice_cmp text key.items i)

pub same_updates : (key : ArrayVec ℕ) (number : ℕ) (old new : List (ArrayVec ℕ × ℕ)) →
    ((q : ArrayVec ℕ) → lookup (λ k. is_eq (slice_cmp nat_cmp q.items k.items)) new ≡
    cond (is_eq (slice_cmp nat_cmp key.items q.items)) (Some number) (lookup (λ k. is_eq (slice_cmp nat_cmp q.items k.items)) old)) →
    (q : ArrayVec ℕ) → number_at new q.items ≡ cond (bytes_eq key.items q.items) (Some number) (number_at old q.items)
same_updates key number old new updates q =
    sym (same_found new q.items) ∙ updates q
    ∙ (λ i. cond (is_eq-slice_cmp key.items q.items i) (Some number) (same_found old q.items i))

-- a set in the order of words and numbers has those that stand in it
abbrev pub order : ArrayVec ℕ × ℕ → ArrayVec ℕ × ℕ → Ordering
order a b = ordering_then (slice_cmp nat_cmp a.0.items b.0.items) (nat_cmp a.1 b.1)

same_pair : (a b : ArrayVec ℕ × ℕ) → is_eq (order a b) ≡ (bytes_eq a.0.items b.0.items && (a.1 == b.1))
same_pair a b =
    sym (both_tied (bytes_eq a.0.items b.0.items) (a.1 == b.1) (slice_cmp nat_cmp a.0.items b.0.items) (nat_cmp a.1 b.1)
    (sym (is_eq-slice_cmp a.0.items b.0.items)) (unsigned_ties a.1 b.1))

pub same_has : (keys : List (ArrayVec ℕ × ℕ)) (pair : ArrayVec ℕ × ℕ) → list_any (λ key. is_eq (order pair key)) keys ≡ has_pair keys pair.0.items pair.1
same_has keys pair = ap (λ test. list_any test keys) (λ i key. same_pair pair key i)

pub same_added : (key : ArrayVec ℕ × ℕ) (old new : List (ArrayVec ℕ × ℕ)) →
    ((q : ArrayVec ℕ × ℕ) → list_any (λ k. is_eq (order q k)) new ≡ cond (is_eq (order key q)) true (list_any (λ k. is_eq (order q k)) old)) →
    (q : ArrayVec ℕ × ℕ) → has_pair new q.0.items q.1 ≡ cond (bytes_eq key.0.items q.0.items && (key.1 == q.1)) true (has_pair old q.0.items q.1)
same_added key old new updates q =
    sym (same_has new q) ∙ updates q ∙ (λ i. cond (same_pair key q i) true (same_has old q i))

-- the text was not there, and is put in
pub noted_new : (key : ArrayVec ℕ) (text : List ℕ) (number : ℕ) (old new : List (ArrayVec ℕ × ℕ)) → key.items ≡ text → number_at old text ≡ None →
    ((q : ArrayVec ℕ) → number_at new q.items ≡ cond (bytes_eq key.items q.items) (Some number) (number_at old q.items)) →
    HasNoted old text number new
noted_new key text number old new same fresh updates q = by (bytes_eq q text) refl
  where
    kept : (o : Option ℕ) → o ≡ option_or o None
    kept None = refl
    kept (Some x) = refl

    by : (b : Bool) → bytes_eq q text ≡ b → number_at new q ≡ option_or (number_at old q) (cond b (Some number) None)
    by true e =
        updates (record { items = q }) ∙ ap (λ b. cond b (Some number) (number_at old q)) (ap (λ k. bytes_eq k q) same ∙ bytes_symm q text true e)
        ∙ ap (λ o. option_or o (Some number)) (sym (ap (number_at old) ((bytes_eq-Decides q text).0 e) ∙ fresh))
    by false e =
        updates (record { items = q }) ∙ ap (λ b. cond b (Some number) (number_at old q)) (ap (λ k. bytes_eq k q) same ∙ bytes_symm q text false e)
        ∙ kept (number_at old q)

-- the text was there, and the map stays
pub noted_twice : (text : List ℕ) (number : ℕ) (entries : List (ArrayVec ℕ × ℕ)) → is_some (number_at entries text) ≡ true →
    HasNoted entries text number entries
noted_twice text number entries there q = by (bytes_eq q text) refl
  where
    some : (o : Option ℕ) → is_some o ≡ true → o ≡ option_or o (Some number)
    some None h = absurd (true≢false (sym h))
    some (Some i) h = refl

    kept : (o : Option ℕ) → o ≡ option_or o None
    kept None = refl
    kept (Some x) = refl

    by : (b : Bool) → bytes_eq q text ≡ b → number_at entries q ≡ option_or (number_at entries q) (cond b (Some number) None)
    by true e = some (number_at entries q) (ap (λ t. is_some (number_at entries t)) ((bytes_eq-Decides q text).0 e) ∙ there)
    by false e = kept (number_at entries q)

-- a name is among those of devices where one is the first with it
pub among_found : (devices : List Device) (text : List ℕ) →
    is_among (map (λ device. device.name) devices) text ≡ is_some (first_index devices text)
among_found [] text = refl
among_found (device ∷ devices) text = by (among_found devices text) (bytes_eq text device.name.text.items) refl
  where
    some : (o : Option ℕ) → is_some o ≡ is_some (option_map suc o)
    some None = refl
    some (Some i) = refl

    by : is_among (map (λ device. device.name) devices) text ≡ is_some (first_index devices text) → (b : Bool) →
        bytes_eq text device.name.text.items ≡ b →
        (bytes_eq device.name.text.items text || is_among (map (λ device. device.name) devices) text) ≡
        is_some (cond b (Some 0) (option_map suc (first_index devices text)))
    by rest true e = ap (λ b. b || is_among (map (λ device. device.name) devices) text) (bytes_symm text device.name.text.items true e)
    by rest false e =
        ap (λ b. b || is_among (map (λ device. device.name) devices) text) (bytes_symm text device.name.text.items false e)
        ∙ rest ∙ some (first_index devices text)

-- what a name means is the device where the first of it stands
pub named_at : (devices : List Device) (text : List ℕ) → named devices text ≡ option_and_then (λ at. slice_get devices at) (first_index devices text)
named_at [] text = refl
named_at (device ∷ devices) text = by (bytes_eq text device.name.text.items) (named_at devices text)
  where
    behind : (o : Option ℕ) → option_and_then (λ at. slice_get devices at) o ≡ option_and_then (λ at. slice_get (device ∷ devices) at) (option_map suc o)
    behind None = refl
    behind (Some at) = refl

    by : (b : Bool) → named devices text ≡ option_and_then (λ at. slice_get devices at) (first_index devices text) →
        cond b (Some device) (named devices text) ≡
        option_and_then (λ at. slice_get (device ∷ devices) at) (cond b (Some 0) (option_map suc (first_index devices text)))
    by true rest = refl
    by false rest = rest ∙ behind (first_index devices text)

-- the same where a map gives it
pub named_found : (devices : List Device) (entries : List (ArrayVec ℕ × ℕ)) (text : List ℕ) (at : Option ℕ) → IsIndex devices entries →
    at ≡ number_at entries text → named devices text ≡ option_and_then (λ k. slice_get devices k) at
named_found devices entries text at index is =
    named_at devices text ∙ ap (option_and_then (λ k. slice_get devices k)) (sym (index text) ∙ sym is)

pub not_not : (b : Bool) → not (not b) ≡ b
not_not true = refl
not_not false = refl

-- a word with its number is put in
pub added_pair : (key : ArrayVec ℕ) (word : List ℕ) (number : ℕ) (old new : List (ArrayVec ℕ × ℕ)) → key.items ≡ word →
    ((q : ArrayVec ℕ × ℕ) → has_pair new q.0.items q.1 ≡ cond (bytes_eq key.items q.0.items && (number == q.1)) true (has_pair old q.0.items q.1)) →
    HasAdded old word number new
added_pair key word number old new same updates q n =
    updates (record { items = q }, n)
    ∙ or_is (bytes_eq key.items q && (number == n)) (has_pair old q n)
    ∙ ap (λ w. (bytes_eq w q && (number == n)) || has_pair old q n) same
  where
    or_is : (a b : Bool) → cond a true b ≡ (a || b)
    or_is true b = refl
    or_is false b = refl

-- one more word with its number
pub twins_push : (devices : List Device) (device : Device) (old new : List (ArrayVec ℕ × ℕ)) → HoldsTwins devices old →
    HasAdded old (spelling device.word) device.number.value new → HoldsTwins (devices ++ device ∷ []) new
twins_push devices device old new holds added word number =
    added word number
    ∙ (λ i. turned i || holds word number i)
    ∙ swapped (test device) (list_any test devices)
    ∙ sym (list_any-append test devices (device ∷ []))
  where
    test : Device → Bool
    test other = bytes_eq word (spelling other.word) && (number == other.number.value)

    turned : (bytes_eq (spelling device.word) word && (device.number.value == number)) ≡ test device
    turned = λ i. bytes_symm word (spelling device.word) (bytes_eq word (spelling device.word)) refl i && numbers i
      where
        numbers : (device.number.value == number) ≡ (number == device.number.value)
        numbers = grind (arith, nat_tests)

    swapped : (a b : Bool) → (a || b) ≡ (b || (a || false))
    swapped true true = refl
    swapped true false = refl
    swapped false true = refl
    swapped false false = refl
