-- The pieces and calls of a statement, one part at a time, and those of statements, one at a time.
use Rattle.std.proofs.Common.{◌≡◌, ℕ, ◌+◌, max, List, [], ◌∷◌, ◌++◌, Option, length, map, refl, ap, sym, ◌∙◌, append_assoc, append-nil, filter_map, length-append, arith}
use Rattle.std.proofs.lemmas.List.{map-append}
use Rattle.std.proofs.lemmas.List.Elements.{filter_map-append}
use Rattle.std.proofs.lemmas.List.Sums.{sum_by-append}
use Rattle.std.proofs.lemmas.Grind.{flat_map-append}
use Rattle.std.specs.List.{flat_map}
use Rattle.pearl_names.specs.Counts.{cut}
use Rattle.pearl_scope.specs.Placed.{Placed}
use Rattle.pearl_calls.specs.Weights.{greatest}
use Rattle.pearl_tree.specs.declared.name.Name.{Name}
use Rattle.pearl_names.specs.Tables.{Table}
use Rattle.pearl_check.specs.Asked.{Asked, asked_at}
use Rattle.pearl_check.specs.Calling.{calls_of_place}
use Rattle.pearl_check.specs.Calls.{asked_pieces, called_by, number_of}
use Rattle.pearl_check.specs.Sizes.{need, greatest_need, all_hidden, hidden_cells}

-- one more of a list that is gone through
pub one_more : {X Y : Type 0} (f : X → List Y) (before after : List X) (x : X) → after ≡ before ++ x ∷ [] → flat_map f after ≡ flat_map f before ++ f x
one_more f before after x is =
    ap (flat_map f) is ∙ flat_map-append f before (x ∷ []) ∙ ap (λ t. flat_map f before ++ t) (append-nil (f x))

pub pieces_more : (before after : List Asked) (part : Asked) (sum more own next : ℕ) → after ≡ before ++ part ∷ [] →
    sum ≡ cut (length (flat_map asked_pieces before)) → more ≡ length (asked_pieces part) → own ≡ cut more → next ≡ cut (sum + own) →
    next ≡ cut (length (flat_map asked_pieces after))
pieces_more before after part sum more own next is sums counts cuts adds =
    let all : length (flat_map asked_pieces after) ≡ length (flat_map asked_pieces before) + length (asked_pieces part) =
    ap length (one_more asked_pieces before after part is) ∙ length-append (flat_map asked_pieces before) (asked_pieces part) in
    whole sum more own next _ _ _ sums counts cuts adds all
  where
    whole : (sum more own next a b c : ℕ) → sum ≡ cut a → more ≡ b → own ≡ cut more → next ≡ cut (sum + own) → c ≡ a + b → next ≡ cut c
    whole sum more own next a b c p q r s t = omega arith

pub calls_more : {X : Type 0} (f : X → List ℕ) (before after : List X) (x : X) (old now new : List ℕ) → after ≡ before ++ x ∷ [] →
    now ≡ old ++ flat_map f before → new ≡ now ++ f x → new ≡ old ++ flat_map f after
calls_more f before after x old now new is so more =
    more ∙ ap (λ t. t ++ f x) so ∙ append_assoc old (flat_map f before) (f x) ∙ ap (λ t. old ++ t) (sym (one_more f before after x is))

pub greatest-append : (a b : List ℕ) → greatest (a ++ b) ≡ max (greatest a) (greatest b)
greatest-append [] b = omega arith
greatest-append (n ∷ a) b = let rest = greatest-append a b in omega (arith, rest)

pub needs_more : (before after : List Placed) (place : Placed) (most own next : ℕ) → after ≡ before ++ place ∷ [] →
    most ≡ cut (greatest_need before) → own ≡ cut (need place) → next ≡ max most own → next ≡ cut (greatest_need after)
needs_more before after place most own next is so owns joins =
    let all : greatest_need after ≡ max (greatest_need before) (need place) =
    ap greatest_need is ∙ ap (λ t. greatest (2 ∷ t)) (map-append need before (place ∷ [])) ∙ greatest-append (2 ∷ map need before) (need place ∷ [])
    ∙ (let e : max (need place) 0 ≡ need place = omega arith in ap (max (greatest_need before)) e) in
    whole _ _ most own next _ so owns joins all
  where
    whole : (a b most own next c : ℕ) → most ≡ cut a → own ≡ cut b → next ≡ max most own → c ≡ max a b → next ≡ cut c
    whole a b most own next c p q r s = omega arith

pub hidden_more : (before after : List Placed) (place : Placed) (sum own next : ℕ) → after ≡ before ++ place ∷ [] →
    sum ≡ cut (all_hidden before) → own ≡ cut (hidden_cells place.statement) → next ≡ cut (sum + own) → next ≡ cut (all_hidden after)
hidden_more before after place sum own next is so owns joins =
    let all = ap all_hidden is ∙ sum_by-append (λ (place : Placed). hidden_cells place.statement) before (place ∷ []) in
    whole _ _ sum own next _ so owns joins all
  where
    whole : (a b sum own next c : ℕ) → sum ≡ cut a → own ≡ cut b → next ≡ cut (sum + own) → c ≡ a + (0 + b) → next ≡ cut c
    whole a b sum own next c p q r s = omega arith

-- procedures called by the numbers of all names, or of each part's
pub filtered : {X Y Z : Type 0} (h : Y → Option Z) (f : X → List Y) (xs : List X) → filter_map h (flat_map f xs) ≡ flat_map (λ x. filter_map h (f x)) xs
filtered h f [] = refl
filtered h f (x ∷ xs) = filter_map-append h (f x) (flat_map f xs) ∙ ap (λ t. filter_map h (f x) ++ t) (filtered h f xs)

pub own_joined : (cells hidden need sum own a b c : ℕ) → cells ≡ cut a → hidden ≡ cut b → sum ≡ cut (cells + hidden) → need ≡ cut c →
    own ≡ cut (sum + need) → own ≡ cut (a + b + c)
own_joined cells hidden need sum own a b c p q r s t = omega arith

place_calls : (table : Table) (procedures : List Name) (place : Placed) →
    filter_map (number_of procedures) (flat_map (called_by table) (asked_at place)) ≡ calls_of_place table procedures place
place_calls table procedures place = filtered (number_of procedures) (called_by table) (asked_at place)

-- the calls of statements, found place by place
pub calls_listed : (table : Table) (procedures : List Name) (places : List Placed) →
    filter_map (number_of procedures) (flat_map (λ place. flat_map (called_by table) (asked_at place)) places) ≡
    flat_map (calls_of_place table procedures) places
calls_listed table procedures places =
    filtered (number_of procedures) (λ place. flat_map (called_by table) (asked_at place)) places ∙ each places
  where
    each : (places : List Placed) →
        flat_map (λ place. filter_map (number_of procedures) (flat_map (called_by table) (asked_at place))) places ≡ flat_map (calls_of_place table procedures) places
    each [] = refl
    each (place ∷ rest) = λ i. place_calls table procedures place i ++ each rest i
