-- The place of the first field of a name, where one more field comes behind them, and which field stands there.
use Rattle.std.proofs.Common.{◌≡◌, ℕ, suc, Bool, true, false, cond, List, [], ◌∷◌, ◌++◌, length, Option, Some, None, option_map, is_some, bytes_eq, refl, sym, ap, ◌∙◌, slice_get}
use Rattle.std.specs.Map.{lookup}
use Rattle.std.specs.Option.{is_none, option_and_then}
use Rattle.arrayvec.specs.ArrayVec.{ArrayVec}
use Rattle.pearl_names.specs.declared.types.FieldForm.{FieldForm}
use Rattle.pearl_names.specs.FirstNames.{number_of, or_else, HasNoted}
use Rattle.pearl_names.specs.FieldEntries.{field_place, HasPlaces}

-- one more field
place_push : (entries : List (ArrayVec ℕ × FieldForm)) (entry : ArrayVec ℕ × FieldForm) (text : List ℕ) →
    field_place (entries ++ entry ∷ []) text ≡
    or_else (field_place entries text) (cond (bytes_eq text entry.0.items) (Some (length entries)) None)
place_push [] entry text = refl
place_push (first ∷ entries) entry text = by (place_push entries entry text) (bytes_eq text first.0.items)
  where
    last : (o : Option ℕ) (b : Bool) → option_map suc (or_else o (cond b (Some (length entries)) None)) ≡ or_else (option_map suc o) (cond b (Some (length (first ∷ entries))) None)
    last None true = refl
    last None false = refl
    last (Some i) b = refl

    by : field_place (entries ++ entry ∷ []) text ≡ or_else (field_place entries text) (cond (bytes_eq text entry.0.items) (Some (length entries)) None) →
        (b : Bool) → cond b (Some 0) (option_map suc (field_place (entries ++ entry ∷ []) text)) ≡
        or_else (cond b (Some 0) (option_map suc (field_place entries text))) (cond (bytes_eq text entry.0.items) (Some (length (first ∷ entries))) None)
    by within true = refl
    by within false = ap (option_map suc) within ∙ last (field_place entries text) (bytes_eq text entry.0.items)

pub places_push : (entries : List (ArrayVec ℕ × FieldForm)) (entry : ArrayVec ℕ × FieldForm) (number : ℕ) (old new : List (ArrayVec ℕ × ℕ)) → HasPlaces entries old →
    number ≡ length entries → HasNoted old entry.0.items number new → HasPlaces (entries ++ entry ∷ []) new
places_push entries entry number old new has last noted text =
    noted text
    ∙ (λ i. or_else (has text i) (cond (bytes_eq text entry.0.items) (Some (last i)) None))
    ∙ sym (place_push entries entry text)

-- the field of a name stands at the name's place
found_place : (entries : List (ArrayVec ℕ × FieldForm)) (text : List ℕ) →
    option_and_then (λ place. option_map (λ entry. entry.1) (slice_get entries place)) (field_place entries text) ≡
    lookup (λ key. bytes_eq text key.items) entries
found_place [] text = refl
found_place (first ∷ entries) text = by (found_place entries text) (bytes_eq text first.0.items)
  where
    behind : (o : Option ℕ) → option_and_then (λ place. option_map (λ entry. entry.1) (slice_get (first ∷ entries) place)) (option_map suc o) ≡
        option_and_then (λ place. option_map (λ entry. entry.1) (slice_get entries place)) o
    behind None = refl
    behind (Some place) = refl

    by : option_and_then (λ place. option_map (λ entry. entry.1) (slice_get entries place)) (field_place entries text) ≡ lookup (λ key. bytes_eq text key.items) entries →
        (b : Bool) → option_and_then (λ place. option_map (λ entry. entry.1) (slice_get (first ∷ entries) place)) (cond b (Some 0) (option_map suc (field_place entries text))) ≡
        cond b (Some first.1) (lookup (λ key. bytes_eq text key.items) entries)
    by rest true = refl
    by rest false = behind (field_place entries text) ∙ rest

pub field_found : (entries : List (ArrayVec ℕ × FieldForm)) (places : List (ArrayVec ℕ × ℕ)) (text : List ℕ) (place : Option ℕ) → HasPlaces entries places →
    place ≡ number_of places text →
    option_and_then (λ place. option_map (λ entry. entry.1) (slice_get entries place)) place ≡ lookup (λ key. bytes_eq text key.items) entries
field_found entries places text place has is =
    ap (option_and_then (λ place. option_map (λ entry. entry.1) (slice_get entries place))) (is ∙ has text) ∙ found_place entries text

some_place : (entries : List (ArrayVec ℕ × FieldForm)) (text : List ℕ) →
    is_some (field_place entries text) ≡ is_some (lookup (λ key. bytes_eq text key.items) entries)
some_place [] text = refl
some_place (first ∷ entries) text = by (some_place entries text) (bytes_eq text first.0.items)
  where
    some : (o : Option ℕ) → is_some (option_map suc o) ≡ is_some o
    some None = refl
    some (Some i) = refl

    by : is_some (field_place entries text) ≡ is_some (lookup (λ key. bytes_eq text key.items) entries) →
        (b : Bool) → is_some (cond b (Some 0) (option_map suc (field_place entries text))) ≡ is_some (cond b (Some first.1) (lookup (λ key. bytes_eq text key.items) entries))
    by rest true = refl
    by rest false = some (field_place entries text) ∙ rest

-- whether no field has a name is told by the map
pub is_fresh : (entries : List (ArrayVec ℕ × FieldForm)) (places : List (ArrayVec ℕ × ℕ)) (text : List ℕ) (is : Bool) → HasPlaces entries places →
    is_some (number_of places text) ≡ is → cond is false true ≡ is_none (lookup (λ key. bytes_eq text key.items) entries)
is_fresh entries places text is has there =
    ap (λ b. cond b false true) (sym there ∙ ap is_some (has text) ∙ some_place entries text) ∙ turned (lookup (λ key. bytes_eq text key.items) entries)
  where
    turned : (o : Option FieldForm) → cond (is_some o) false true ≡ is_none o
    turned None = refl
    turned (Some field) = refl
