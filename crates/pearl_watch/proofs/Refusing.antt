-- When a name is refused, and which slots it watches.
use Rattle.std.proofs.Common.{◌≡◌, ℕ, zero, suc, ◌+◌, ◌<◌, ◌≤◌, Bool, true, false, ◌||◌, List, [], ◌∷◌, ◌++◌, Option, Some, None, length, map, take, get_or, slice_get, refl, sym, ap, ap₂, subst, ◌∙◌, add-one, arith, length-append}
use Rattle.std.specs.Prelude.{is_none, nat_lt}
use Rattle.std.specs.List.{AllByRecursion, list_any}
use Rattle.std.specs.Str.{bytes_eq}
use Rattle.std.proofs.lemmas.List.{get_or-map, take-map}
use Rattle.std.proofs.lemmas.Option.{get_or_from_slice_get, same_Some, slice_get-get_or}
use Rattle.std.proofs.lemmas.List.Quantifiers.{position-Some}
use Rattle.std.proofs.lemmas.Slice.Eq.{bytes_eq-Decides}
use Rattle.pearl_instructions.specs.declared.object.Leaf.{Leaf}
use Rattle.pearl_instructions.specs.Lawful.{IsLeaf}
use Rattle.pearl_instructions.specs.Objects.{first_slot}
use Rattle.pearl_watch.specs.declared.watched.Watched.{Watched}
use Rattle.pearl_watch.specs.Watched.{leaf_named, slots_from, slots_of, slots_named, name_at, watched_by, is_refused}

each : (leaves : List Leaf) (v : ℕ) (leaf : Leaf) → AllByRecursion IsLeaf leaves → slice_get leaves v ≡ Some leaf → IsLeaf leaf
each [] v leaf all e = cc
each (l ∷ leaves) zero leaf all e = subst IsLeaf (same_Some l leaf e) all.0
each (l ∷ leaves) (suc v) leaf all e = each leaves v leaf all.1 e

pub length-slots : (name first count : ℕ) → length (slots_from name first count) ≡ count
length-slots name first zero = refl
length-slots name first (suc count) =
    length-append (slots_from name first count) (record { name = name; number = count; slot = first + count } ∷ [])
    ∙ ap (λ n. n + 1) (length-slots name first count) ∙ add-one count

pub more_slots : (name first count : ℕ) →
    slots_from name first (count + 1) ≡ slots_from name first count ++ record { name = name; number = count; slot = first + count } ∷ []
more_slots name first count = ap (slots_from name first) (add-one count)

-- the slots that one more name watches
pub more_watched : (leaves : List Leaf) (names : List (List ℕ)) (name v : ℕ) (leaf : Leaf) →
    leaf_named leaves (name_at names name) ≡ Some v → slice_get leaves v ≡ Some leaf →
    watched_by leaves names (name + 1) ≡ watched_by leaves names name ++ slots_from name (first_slot leaves v) leaf.slots
more_watched leaves names name v leaf e at =
    ap (watched_by leaves names) (add-one name)
    ∙ ap (λ o. watched_by leaves names name ++ slots_named leaves name o) e
    ∙ ap (λ o. watched_by leaves names name ++ slots_of leaves name v o) at

pub how_many : (leaves : List Leaf) (names : List (List ℕ)) (name v : ℕ) (leaf : Leaf) →
    leaf_named leaves (name_at names name) ≡ Some v → slice_get leaves v ≡ Some leaf →
    length (watched_by leaves names (name + 1)) ≡ length (watched_by leaves names name) + leaf.slots
how_many leaves names name v leaf e at =
    ap length (more_watched leaves names name v leaf e at)
    ∙ length-append (watched_by leaves names name) (slots_from name (first_slot leaves v) leaf.slots)
    ∙ ap (λ n. length (watched_by leaves names name) + n) (length-slots name (first_slot leaves v) leaf.slots)

-- one of three is enough, and none is needed
second : (a c : Bool) → (a || true || c) ≡ true
second true c = refl
second false c = refl

third : (a b : Bool) → (a || b || true) ≡ true
third true b = refl
third false true = refl
third false false = refl

pub unknown : (leaves : List Leaf) (names : List (List ℕ)) (name : ℕ) → leaf_named leaves (name_at names name) ≡ None → is_refused leaves names name ≡ true
unknown leaves names name e =
    ap (λ o. is_none o || list_any (λ before. bytes_eq before (name_at names name)) (take name names)
    || nat_lt 1024 (length (watched_by leaves names (name + 1)))) e

pub repeated : (leaves : List Leaf) (names : List (List ℕ)) (name : ℕ) →
    list_any (λ before. bytes_eq before (name_at names name)) (take name names) ≡ true → is_refused leaves names name ≡ true
repeated leaves names name e =
    ap (λ b. is_none (leaf_named leaves (name_at names name)) || b || nat_lt 1024 (length (watched_by leaves names (name + 1)))) e
    ∙ second (is_none (leaf_named leaves (name_at names name))) (nat_lt 1024 (length (watched_by leaves names (name + 1))))

pub too_many : (leaves : List Leaf) (names : List (List ℕ)) (name v : ℕ) (leaf : Leaf) →
    leaf_named leaves (name_at names name) ≡ Some v → slice_get leaves v ≡ Some leaf →
    1024 < length (watched_by leaves names name) + leaf.slots → is_refused leaves names name ≡ true
too_many leaves names name v leaf e at many =
    let more : nat_lt 1024 (length (watched_by leaves names (name + 1))) ≡ true =
    ap (nat_lt 1024) (how_many leaves names name v leaf e at) ∙ grind (arith, many) in
    ap (λ b. is_none (leaf_named leaves (name_at names name)) || list_any (λ before. bytes_eq before (name_at names name)) (take name names) || b) more
    ∙ third (is_none (leaf_named leaves (name_at names name))) (list_any (λ before. bytes_eq before (name_at names name)) (take name names))

pub accepted : (leaves : List Leaf) (names : List (List ℕ)) (name v : ℕ) (leaf : Leaf) →
    leaf_named leaves (name_at names name) ≡ Some v → slice_get leaves v ≡ Some leaf →
    list_any (λ before. bytes_eq before (name_at names name)) (take name names) ≡ false →
    length (watched_by leaves names name) + leaf.slots ≤ 1024 → is_refused leaves names name ≡ false
accepted leaves names name v leaf e at new few =
    let enough : nat_lt 1024 (length (watched_by leaves names (name + 1))) ≡ false =
    ap (nat_lt 1024) (how_many leaves names name v leaf e at) ∙ grind (arith, few) in
    ap (λ o. is_none o || list_any (λ before. bytes_eq before (name_at names name)) (take name names)
    || nat_lt 1024 (length (watched_by leaves names (name + 1)))) e
    ∙ ap₂ (λ a b. a || b) new enough

-- a test of bytes finds the bytes of a text where it finds the text
pub among_bytes : {X : Type 0} (bytes : X → List ℕ) (test : List ℕ → Bool) (xs : List X) → list_any test (map bytes xs) ≡ list_any (λ x. test (bytes x)) xs
among_bytes bytes test [] = refl
among_bytes bytes test (x ∷ xs) = ap (λ b. test (bytes x) || b) (among_bytes bytes test xs)

-- what a list of bytes has at a place, where it is made of a list of texts
pub bytes_at : {X : Type 0} (bytes : X → List ℕ) (xs : List X) (i : ℕ) (x : X) → i < length xs → x ≡ get_or xs i x → bytes x ≡ name_at (map bytes xs) i
bytes_at bytes xs i x within is = ap bytes is ∙ sym (get_or-map bytes xs i x [] within)

pub there : {X : Type 0} (xs : List X) (i : ℕ) (x : X) → i < length xs → x ≡ get_or xs i x → slice_get xs i ≡ Some x
there xs i x within is = slice_get-get_or xs i x within ∙ ap Some (sym is)

-- a name is among those before it where its bytes are
pub among : {X : Type 0} (bytes : X → List ℕ) (xs : List X) (i : ℕ) (text : List ℕ) (found : Bool) → text ≡ name_at (map bytes xs) i →
    found ≡ list_any (λ before. bytes_eq (bytes before) text) (take i xs) →
    list_any (λ before. bytes_eq before (name_at (map bytes xs) i)) (take i (map bytes xs)) ≡ found
among bytes xs i text found same is =
    ap (λ n. list_any (λ before. bytes_eq before n) (take i (map bytes xs))) (sym same)
    ∙ ap (list_any (λ before. bytes_eq before text)) (take-map bytes i xs)
    ∙ among_bytes bytes (λ before. bytes_eq before text) (take i xs) ∙ sym is

-- the leaf that a name means, told of the same bytes
pub is_named : (leaves : List Leaf) (text name : List ℕ) (leaf : Option ℕ) → text ≡ name → leaf_named leaves text ≡ leaf → leaf_named leaves name ≡ leaf
is_named leaves text name leaf same e = ap (leaf_named leaves) (sym same) ∙ e

pub within : (leaves : List Leaf) (name : List ℕ) (v : ℕ) (leaf : Leaf) → leaf_named leaves name ≡ Some v → v < length leaves
within leaves name v leaf e = (position-Some (λ leaf. bytes_eq leaf.name name) leaves v leaf e).0

-- a name that a leaf has is as short as the leaf's
pub short_name : (leaves : List Leaf) (name : List ℕ) (v : ℕ) (leaf : Leaf) → AllByRecursion IsLeaf leaves → leaf_named leaves name ≡ Some v →
    slice_get leaves v ≡ Some leaf → length name ≤ 1024
short_name leaves name v leaf all e at =
    let here : bytes_eq (get_or leaves v leaf).name name ≡ true = (position-Some (λ leaf. bytes_eq leaf.name name) leaves v leaf e).1 in
    let same : leaf.name ≡ name =
    (bytes_eq-Decides leaf.name name).0 (ap (λ l. bytes_eq l.name name) (sym (get_or_from_slice_get leaves v leaf leaf at)) ∙ here) in
    subst (λ bytes. length bytes ≤ 1024) same (each leaves v leaf all at).short

pub some_slots : (leaves : List Leaf) (v : ℕ) (leaf : Leaf) → AllByRecursion IsLeaf leaves → slice_get leaves v ≡ Some leaf → 0 < leaf.slots
some_slots leaves v leaf all at = (each leaves v leaf all at).some.0

-- the slots of one more name were added
pub pushed : (leaves own : List Leaf) (names : List (List ℕ)) (name v first : ℕ) (leaf : Leaf) (before after : List Watched) →
    leaves ≡ own → leaf_named leaves (name_at names name) ≡ Some v → slice_get leaves v ≡ Some leaf → first ≡ first_slot own v →
    before ≡ watched_by leaves names name → after ≡ before ++ slots_from name first leaf.slots → after ≡ watched_by leaves names (name + 1)
pushed leaves own names name v first leaf before after same named at numbered was is =
    let begins : first ≡ first_slot leaves v = numbered ∙ ap (λ ls. first_slot ls v) (sym same) in
    is ∙ ap₂ (λ w f. w ++ slots_from name f leaf.slots) was begins ∙ sym (more_watched leaves names name v leaf named at)

pub length-pushed : (name first : ℕ) (leaf : Leaf) (before after : List Watched) → after ≡ before ++ slots_from name first leaf.slots →
    length after ≡ length before + leaf.slots
length-pushed name first leaf before after is =
    ap length is ∙ length-append before (slots_from name first leaf.slots) ∙ ap (λ n. length before + n) (length-slots name first leaf.slots)
