-- One more name of a scope, and whether it repeats one before.
use Rattle.std.proofs.Common.{◌≡◌, ℕ, suc, Bool, true, false, cond, ◌||◌, List, [], ◌∷◌, ◌++◌, map, Option, Some, None, option_map, is_some, bytes_eq, refl, sym, ap, ◌∙◌, append_assoc, append-nil, length, length-append, ◌+◌, ◌<◌, ◌^◌, take, get_or, subst, arith}
use Rattle.std.proofs.lemmas.List.{map-append}
use Rattle.pearl_tree.specs.declared.fault.RuleFault.{RuleFault}
use Rattle.pearl_tree.specs.declared.name.Name.{Name}
use Rattle.pearl_names.specs.declared.scope.SortedName.{SortedName}
use Rattle.pearl_tree.specs.declared.rule.TheConstants as rule
use Rattle.pearl_tree.specs.Faults.{fault_if}
use Rattle.pearl_tree.specs.Names.{name_text, is_among, repeats}
use Rattle.arrayvec.specs.ArrayVec.{ArrayVec}
use Rattle.pearl_names.specs.FirstNames.{first_index, number_of, HasNoted, IsIndex}
use Rattle.pearl_names.specs.FirstNames.{repeated, HasNames}
use Rattle.pearl_names.proofs.FirstNames.{bytes_symm, index_push}
use Rattle.pearl_names.proofs.Lists.{one_taken}

repeats_push : (rule : ℕ) (before names : List Name) (name : Name) →
    repeats rule before (names ++ name ∷ []) ≡ repeats rule before names ++ fault_if (is_among (before ++ names) (name_text name)) name.place rule
repeats_push rule before [] name =
    append-nil _ ∙ ap (λ l. fault_if (is_among l (name_text name)) name.place rule) (sym (append-nil before))
repeats_push rule before (first ∷ names) name =
    ap (λ t. fault_if (is_among before (name_text first)) first.place rule ++ t) (repeats_push rule (before ++ first ∷ []) names name)
    ∙ sym (append_assoc (fault_if (is_among before (name_text first)) first.place rule) (repeats rule (before ++ first ∷ []) names) _)
    ∙ ap (λ l. (fault_if (is_among before (name_text first)) first.place rule ++ repeats rule (before ++ first ∷ []) names) ++ fault_if (is_among l (name_text name)) name.place rule)
    (append_assoc before (first ∷ []) names)

among_found : (names : List SortedName) (text : List ℕ) → is_among (map (λ entry. entry.name) names) text ≡ is_some (first_index names text)
among_found [] text = refl
among_found (entry ∷ names) text = by (among_found names text) (bytes_eq text (name_text entry.name)) refl
  where
    some : (o : Option ℕ) → is_some o ≡ is_some (option_map suc o)
    some None = refl
    some (Some i) = refl

    by : is_among (map (λ entry. entry.name) names) text ≡ is_some (first_index names text) → (b : Bool) → bytes_eq text (name_text entry.name) ≡ b →
        (bytes_eq (name_text entry.name) text || is_among (map (λ entry. entry.name) names) text) ≡ is_some (cond b (Some 0) (option_map suc (first_index names text)))
    by rest true e = ap (λ b. b || is_among (map (λ entry. entry.name) names) text) (bytes_symm text (name_text entry.name) true e)
    by rest false e = ap (λ b. b || is_among (map (λ entry. entry.name) names) text) (bytes_symm text (name_text entry.name) false e) ∙ rest ∙ some (first_index names text)

pub repeated_push : (names : List SortedName) (entry : SortedName) →
    repeated (names ++ entry ∷ []) ≡ repeated names ++ fault_if (is_some (first_index names (name_text entry.name))) entry.name.place rule.S1
unfolding repeated
repeated_push names entry =
    ap (repeats rule.S1 []) (map-append (λ entry. entry.name) names (entry ∷ []))
    ∙ repeats_push rule.S1 [] (map (λ entry. entry.name) names) entry.name
    ∙ ap (λ b. repeats rule.S1 [] (map (λ entry. entry.name) names) ++ fault_if b entry.name.place rule.S1) (among_found names (name_text entry.name))

-- of no names
pub repeated_nil : repeated [] ≡ []
unfolding repeated
repeated_nil = refl

pub no_names : (names : List SortedName) (entries : List (ArrayVec ℕ × ℕ)) (faults : List RuleFault) → names ≡ [] → entries ≡ [] → faults ≡ [] → HasNames names entries faults
unfolding repeated
no_names names entries faults a b c = record {
  index = record {
    finds = λ text. ap (λ l. number_of l text) b ∙ ap (λ l. first_index l text) (sym a);
    few = let e : length names ≡ 0 = ap length a in omega (arith, e);
  };
  repeats = c ∙ ap repeated (sym a);
}

module _ (names : List SortedName) (entry : SortedName) (name : Name) (number : ℕ) (old new : List (ArrayVec ℕ × ℕ)) (faults : List RuleFault)
    (has : HasNames names old faults) (few : number + 1 < 2 ^ 32) (last : number ≡ length names) (same : entry.name ≡ name)
    (noted : HasNoted old name.text.items number new) where
  index_after : IsIndex (names ++ entry ∷ []) new
  index_after = index_push names entry name.text.items number old new has.index few last (ap (λ n. n.text.items) same) noted

  found : (b : Bool) → b ≡ is_some (number_of old name.text.items) → b ≡ is_some (first_index names (name_text entry.name))
  found b h = h ∙ ap is_some (has.index.finds name.text.items) ∙ ap (λ n. is_some (first_index names (name_text n))) (sym same)

  -- no name has its text
  pub new_name : false ≡ is_some (number_of old name.text.items) → (after : List RuleFault) → after ≡ faults → HasNames (names ++ entry ∷ []) new after
  new_name h after told = record {
    index = index_after;
    repeats = told ∙ has.repeats ∙ sym (append-nil (repeated names))
        ∙ ap (λ b. repeated names ++ fault_if b entry.name.place rule.S1) (found false h) ∙ sym (repeated_push names entry);
  }

  -- a name before has it
  pub old_name : true ≡ is_some (number_of old name.text.items) → (after : List RuleFault) → after ≡ faults ++ record { place = name.place; rule = rule.S1 } ∷ [] →
      HasNames (names ++ entry ∷ []) new after
  old_name h after told = record {
    index = index_after;
    repeats = told ∙ ap (λ t. t ++ record { place = name.place; rule = rule.S1 } ∷ []) has.repeats
        ∙ ap (λ n. repeated names ++ record { place = n.place; rule = rule.S1 } ∷ []) (sym same)
        ∙ ap (λ b. repeated names ++ fault_if b entry.name.place rule.S1) (found true h) ∙ sym (repeated_push names entry);
  }

-- the names that a loop has noted so far
pub record Noted (names : List SortedName) (entries : List (ArrayVec ℕ × ℕ)) (faults : List RuleFault) (number : ℕ) : Type 0 where
  pub has : HasNames names entries faults
  pub counted : number ≡ length names

pub noted_none : (entries : List (ArrayVec ℕ × ℕ)) (faults : List RuleFault) → entries ≡ [] → faults ≡ [] → Noted [] entries faults 0
noted_none entries faults a b = record { has = no_names [] entries faults refl a b; counted = refl }

pub noted_more : (xs : List SortedName) (i : ℕ) (x : SortedName) (old new : List (ArrayVec ℕ × ℕ)) (before after : List RuleFault) (number next : ℕ) →
    i < length xs → x ≡ get_or xs i x → Noted (take i xs) old before number → next ≡ number + 1 →
    ((names : List SortedName) → number ≡ length names → HasNames names old before → HasNames (names ++ x ∷ []) new after) →
    Noted (take (i + 1) xs) new after next
noted_more xs i x old new before after number next inside is so counted step =
    subst (λ names. Noted names new after next) (sym (one_taken xs i x inside is))
    (record {
      has = step (take i xs) so.counted so.has;
      counted = let c : _ = so.counted in let e : length (take i xs ++ x ∷ []) ≡ length (take i xs) + 1 = length-append (take i xs) (x ∷ []) in omega (arith, c, e, counted);
    })
