-- Parts that stand at the tokens which printing gives them, and lists of such parts.
use Rattle.std.proofs.Common.{◌≡◌, ℕ, ◌+◌, List, [], ◌∷◌, ◌++◌, length, map, Bool, true, false, Option, Some, None, option_map, refl, sym, subst, ap, ◌∙◌}
use Rattle.std.specs.List.{flat_map}
use Rattle.std.specs.Vec.{with_items}
use Rattle.std.proofs.lemmas.List.{with_items_is, length-map}
use Rattle.pearl_tree.specs.declared.parts.Parts.{Parts}
use Rattle.pearl_tree.specs.declared.token.What.{What}
use Rattle.pearl_tree.specs.declared.token.Token.{Token}
use Rattle.pearl_tree.specs.Standing.{Spelling, SpellsName, SpellsNumber, SpellsBracketedNumber, SpellsEach, SpellsMore, SpellsList, SpellsBracketed, SpellsMaybeBracketed, SpellsMaybeHeaded, SpellsMaybe, SpellsFlag, HasSymbol}
use Rattle.pearl_tree.specs.Statements.{SpellsMaybeList}
use Rattle.pearl_tree.specs.declared.symbol.TheConstants as s
use Rattle.pearl_print.specs.Lists.{symbol, name_tokens, number_tokens, after_commas, listed, bracketed, maybe_bracketed, maybe_headed, maybe, flag, bracketed_number}
use Rattle.pearl_print.specs.Plain.{plain_name, plain_number}
use Rattle.pearl_print.proofs.TokenRanges.{place_of, here, HasTokens, cut, plus_two, plus_three}

-- a part that is spelled there, and says the same
pub record Placed {X Y : Type 0} (spells : Spelling X) (view : X → Y) (from : ℕ) (part : X) (to : ℕ) : Type 0 where
  pub copy : X
  pub spelled : spells from copy to
  pub same : view copy ≡ view part

-- a part that was spelled by other tokens stands wherever its own tokens do
pub record Places {X Y : Type 0} (tokens : List Token) (was spells : Spelling X) (each : X → List What) (view : X → Y) : Type 0 where
  pub at : (a : ℕ) (part : X) (b : ℕ) → was a part b → (from to : ℕ) → HasTokens tokens from (each part) to → Placed spells view from part to

-- a list that isn't empty
record PlacedSome {X Y : Type 0} (spells : Spelling (List X)) (view : X → Y) (from : ℕ) (x : X) (xs : List X) (to : ℕ) : Type 0 where
  pub head : X
  pub tail : List X
  pub spelled : spells from (head ∷ tail) to
  pub same : view head ∷ map view tail ≡ view x ∷ map view xs

module _ (before tokens : List Token) {X Y : Type 0} {was spells : Spelling X} {each : X → List What} {view : X → Y} (part : Places tokens was spells each view) where
  pub each_at : (xs : List X) (a b : ℕ) → SpellsEach was a xs b → (from to : ℕ) → HasTokens tokens from (flat_map each xs) to →
      Placed (SpellsEach spells) (map view) from xs to
  each_at [] a b h from to g = record { copy = []; spelled = g.0; same = refl }
  each_at (x ∷ xs) a b h from to g =
      let p = cut tokens from (each x) (flat_map each xs) to g in
      let first = part.at a x h.0 h.1 from p.0 p.1 in
      let rest = each_at xs h.0 b h.2 p.0 to p.2 in
      record { copy = first.copy ∷ rest.copy; spelled = (p.0, first.spelled, rest.spelled); same = λ i. first.same i ∷ rest.same i }

  after_commas_at : (xs : List X) (a b : ℕ) → SpellsMore before was a xs b → (from to : ℕ) → HasTokens tokens from (after_commas each xs) to →
      Placed (SpellsMore tokens spells) (map view) from xs to
  after_commas_at [] a b h from to g = record { copy = []; spelled = g.0; same = refl }
  after_commas_at (x ∷ xs) a b h from to g =
      let p = cut tokens (from + 1) (each x) (after_commas each xs) to g.1 in
      let first = part.at (a + 1) x h.0 h.2 (from + 1) p.0 p.1 in
      let rest = after_commas_at xs h.0 b h.3 p.0 to p.2 in
      record { copy = first.copy ∷ rest.copy; spelled = (p.0, g.0, first.spelled, rest.spelled); same = λ i. first.same i ∷ rest.same i }

  some_at : (x : X) (xs : List X) (a b : ℕ) → SpellsList before was a (x ∷ xs) b → (from to : ℕ) → HasTokens tokens from (each x ++ after_commas each xs) to →
      PlacedSome (SpellsList tokens spells) view from x xs to
  some_at x xs a b h from to g =
      let p = cut tokens from (each x) (after_commas each xs) to g in
      let first = part.at a x h.0 h.1 from p.0 p.1 in
      let rest = after_commas_at xs h.0 b h.2 p.0 to p.2 in
      record { head = first.copy; tail = rest.copy; spelled = (p.0, first.spelled, rest.spelled); same = λ i. first.same i ∷ rest.same i }

  bracketed_some : (x : X) (xs : List X) (a b : ℕ) → SpellsBracketed before was a (x ∷ xs) b → (from to : ℕ) →
      HasTokens tokens from (bracketed each (x ∷ xs)) to → PlacedSome (SpellsBracketed tokens spells) view from x xs to
  bracketed_some x xs a b h from to g =
      let p = cut tokens (from + 1) (each x ++ after_commas each xs) (symbol s.RIGHT_ROUND) to g.1 in
      let list = some_at x xs (a + 1) h.0 h.2 (from + 1) p.0 p.1 in
      record { head = list.head; tail = list.tail; spelled = (p.0, g.0, list.spelled, p.2.0, p.2.1.0); same = list.same }

  pub list_at : (xs : List X) (a b : ℕ) → SpellsList before was a xs b → (from to : ℕ) → HasTokens tokens from (listed each xs) to →
      Placed (SpellsList tokens spells) (map view) from xs to
  list_at [] a b h from to g = absurd h
  list_at (x ∷ xs) a b h from to g =
      let list = some_at x xs a b h from to g in
      record { copy = list.head ∷ list.tail; spelled = list.spelled; same = list.same }

  pub maybe_list_at : (xs : List X) (a b : ℕ) → SpellsMaybeList before was a xs b → (from to : ℕ) → HasTokens tokens from (listed each xs) to →
      Placed (SpellsMaybeList tokens spells) (map view) from xs to
  maybe_list_at [] a b h from to g = record { copy = []; spelled = g.0; same = refl }
  maybe_list_at (x ∷ xs) a b h from to g =
      let list = some_at x xs a b h from to g in
      record { copy = list.head ∷ list.tail; spelled = list.spelled; same = list.same }

  pub bracketed_at : (xs : List X) (a b : ℕ) → SpellsBracketed before was a xs b → (from to : ℕ) → HasTokens tokens from (bracketed each xs) to →
      Placed (SpellsBracketed tokens spells) (map view) from xs to
  bracketed_at [] a b h from to g = absurd h.2
  bracketed_at (x ∷ xs) a b h from to g =
      let list = bracketed_some x xs a b h from to g in
      record { copy = list.head ∷ list.tail; spelled = list.spelled; same = list.same }

  pub maybe_bracketed_at : (xs : List X) (a b : ℕ) → SpellsMaybeBracketed before was a xs b → (from to : ℕ) → HasTokens tokens from (maybe_bracketed each xs) to →
      Placed (SpellsMaybeBracketed tokens spells) (map view) from xs to
  maybe_bracketed_at [] a b h from to g = record { copy = []; spelled = g.0; same = refl }
  maybe_bracketed_at (x ∷ xs) a b h from to g =
      let list = bracketed_some x xs a b h from to g in
      record { copy = list.head ∷ list.tail; spelled = list.spelled; same = list.same }

  pub maybe_headed_at : (code : ℕ) (xs : List X) (a b : ℕ) → SpellsMaybeHeaded before code was a xs b → (from to : ℕ) →
      HasTokens tokens from (maybe_headed code each xs) to → Placed (SpellsMaybeHeaded tokens code spells) (map view) from xs to
  maybe_headed_at code [] a b h from to g = record { copy = []; spelled = g.0; same = refl }
  maybe_headed_at code (x ∷ xs) a b h from to g =
      let list = bracketed_some x xs (a + 1) b h.1 (from + 1) to g.1 in
      record { copy = list.head ∷ list.tail; spelled = (g.0, list.spelled); same = list.same }

  pub maybe_at : (o : Option X) (a b : ℕ) → SpellsMaybe was a o b → (from to : ℕ) → HasTokens tokens from (maybe each o) to →
      Placed (SpellsMaybe spells) (option_map view) from o to
  maybe_at None a b h from to g = record { copy = None; spelled = g.0; same = refl }
  maybe_at (Some x) a b h from to g =
      let p = part.at a x b h from to g in
      record { copy = Some p.copy; spelled = p.spelled; same = ap Some p.same }

-- the same parts, where they lie in memory
abbrev refilled : {X : Type 0} → Parts X → List X → Parts X
refilled parts xs = record { items = with_items parts.items xs }

refilled_is : {X : Type 0} (parts : Parts X) (xs : List X) → length xs ≡ length parts.items.items → (refilled parts xs).items.items ≡ xs
refilled_is parts xs same = with_items_is parts.items xs (same ∙ sym parts.items.ok.0)

pub same_length : {X Y : Type 0} (view : X → Y) (xs ys : List X) → map view xs ≡ map view ys → length xs ≡ length ys
same_length view xs ys same = sym (length-map xs view) ∙ ap length same ∙ length-map ys view

pub in_parts : {X Y : Type 0} {spells : Spelling (List X)} {view : X → Y} (from : ℕ) (parts : Parts X) (to : ℕ) →
    Placed spells (map view) from parts.items.items to →
    Placed (λ from (parts : Parts X) to. spells from parts.items.items to) (λ (parts : Parts X). map view parts.items.items) from parts to
in_parts {spells = spells} {view = view} from parts to p =
    let is = refilled_is parts p.copy (same_length view p.copy parts.items.items p.same) in
    record {
      copy = refilled parts p.copy;
      spelled = subst (λ xs. spells from xs to) (sym is) p.spelled;
      same = ap (map view) is ∙ p.same;
    }

-- what is seen of a list or of an option in plus_two steps
module _ {X Y Z : Type 0} (shown : X → Y) (plain : Y → Z) where
  in_steps : (xs : List X) → map plain (map shown xs) ≡ map (λ x. plain (shown x)) xs
  in_steps [] = refl
  in_steps (x ∷ xs) = ap (λ ys. plain (shown x) ∷ ys) (in_steps xs)

  pub seen : (xs ys : List X) → map (λ x. plain (shown x)) xs ≡ map (λ x. plain (shown x)) ys → map plain (map shown xs) ≡ map plain (map shown ys)
  seen xs ys same = in_steps xs ∙ same ∙ sym (in_steps ys)

  option_in_steps : (o : Option X) → option_map plain (option_map shown o) ≡ option_map (λ x. plain (shown x)) o
  option_in_steps None = refl
  option_in_steps (Some x) = refl

  pub seen_option : (o p : Option X) → option_map (λ x. plain (shown x)) o ≡ option_map (λ x. plain (shown x)) p →
      option_map plain (option_map shown o) ≡ option_map plain (option_map shown p)
  seen_option o p same = option_in_steps o ∙ same ∙ sym (option_in_steps p)

module _ (before tokens : List Token) where
  pub name_places : Places tokens (SpellsName before) (SpellsName tokens) name_tokens plain_name
  name_places = record {
    at = λ a part b h from to g.
        record { copy = record part { place = place_of tokens from }; spelled = ((g.0, here tokens from _ g.0), g.1.0); same = refl };
  }

  pub number_places : Places tokens (SpellsNumber before) (SpellsNumber tokens) number_tokens plain_number
  number_places = record {
    at = λ a part b h from to g.
        record { copy = record part { place = place_of tokens from }; spelled = ((g.0, here tokens from _ g.0), g.1.0); same = refl };
  }

  pub bracketed_number_places : Places tokens (SpellsBracketedNumber before) (SpellsBracketedNumber tokens) bracketed_number plain_number
  bracketed_number_places = record {
    at = λ a part b h from to g. record {
      copy = record part { place = place_of tokens (from + 1) };
      spelled = (
        g.0,
        (g.1.0, here tokens (from + 1) _ g.1.0),
        plus_two (λ k. HasSymbol tokens k s.RIGHT_ROUND) from g.1.1.0,
        plus_three (λ k. to ≡ k) from g.1.1.1.0,
      );
      same = refl;
    };
  }

pub flag_at : (tokens : List Token) (code : ℕ) (told : Bool) (from to : ℕ) → HasTokens tokens from (flag code told) to → SpellsFlag tokens code from told to
flag_at tokens code false from to g = g.0
flag_at tokens code true from to g = (g.0, g.1.0)
