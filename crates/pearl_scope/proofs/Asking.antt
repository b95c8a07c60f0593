-- The rules asked at parts one after the other.
use Rattle.std.proofs.Common.{◌≡◌, ℕ, ◌+◌, ◌<◌, List, [], ◌∷◌, ◌++◌, Option, length, take, get_or, refl, sym, ap, subst, ◌∙◌, append_assoc, append-nil}
use Rattle.std.proofs.lemmas.Grind.{flat_map-append}
use Rattle.std.specs.List.{flat_map}
use Rattle.pearl_tree.specs.declared.fault.RuleFault.{RuleFault}
use Rattle.pearl_names.specs.declared.forms.Types.{Types}
use Rattle.pearl_names.specs.declared.length.DefaultLength.{DefaultLength}
use Rattle.pearl_scope.specs.declared.part.Part.{Part as CodePart}
use Rattle.pearl_names.specs.Forming.{AllMatch, Grows}
use Rattle.pearl_scope.specs.PartLists.{shown_part, parts_in}
use Rattle.pearl_scope.specs.Parts.{Part}
use Rattle.pearl_scope.specs.Rules.{part_faults, faults_in}
use Rattle.pearl_names.specs.Known.{Known}
use Rattle.pearl_names.specs.ScopeNames.{ScopeNames}
use Rattle.pearl_names.specs.Shapes.{Shape}
use Rattle.pearl_names.proofs.Offered.{all_match_more, grows_more, grows_none, one_taken}
use Rattle.pearl_scope.proofs.PartLists.{parts_in-nil, parts_in-append, parts_in-cons}

-- what was told of these parts
pub record Asked (scopes : List ScopeNames) (lengths : List DefaultLength) (old now : Types) (before after : List RuleFault) (parts : List Part) : Type 0 where
  pub grows : Grows old.forms.items now.forms.items
  pub named : now.named.items ≡ old.named.items
  pub told : (shapes : List (Option Shape)) → AllMatch old.forms.items old.named.items shapes →
      after ≡ before ++ flat_map (part_faults (record { scopes = scopes; lengths = lengths; shapes = shapes })) parts

pub asked_none : (scopes : List ScopeNames) (lengths : List DefaultLength) (types : Types) (faults : List RuleFault) → Asked scopes lengths types types faults faults (parts_in [])
asked_none scopes lengths types faults =
    subst (Asked scopes lengths types types faults faults) (sym parts_in-nil)
    (record { grows = grows_none _; named = refl; told = λ shapes all. sym (append-nil faults) })

module _ (scopes : List ScopeNames) (lengths : List DefaultLength) (old now new : Types) (a b c : List RuleFault) where
  pub asked_more : (xs : List CodePart) (i : ℕ) (x : CodePart) → i < length xs → x ≡ get_or xs i x → Asked scopes lengths old now a b (parts_in (take i xs)) →
      Grows now.forms.items new.forms.items → new.named.items ≡ now.named.items →
      ((shapes : List (Option Shape)) → AllMatch now.forms.items now.named.items shapes →
      c ≡ b ++ part_faults (record { scopes = scopes; lengths = lengths; shapes = shapes }) (shown_part x)) →
      Asked scopes lengths old new a c (parts_in (take (i + 1) xs))
  asked_more xs i x inside is so grows named told =
      subst (Asked scopes lengths old new a c) (sym (ap parts_in (one_taken xs i x inside is) ∙ parts_in-append (take i xs) (x ∷ []) ∙ ap (λ t. parts_in (take i xs) ++ t) (parts_in-cons x [] ∙ ap (λ t. shown_part x ∷ t) parts_in-nil)))
      (record {
        grows = grows_more _ _ _ so.grows grows;
        named = named ∙ so.named;
        told = λ shapes all.
            let rules = part_faults (record { scopes = scopes; lengths = lengths; shapes = shapes }) in
            let here = subst (λ n. AllMatch now.forms.items n shapes) (sym so.named) (all_match_more old.forms.items now.forms.items old.named.items shapes so.grows all) in
            told shapes here ∙ ap (λ t. t ++ rules (shown_part x)) (so.told shapes all)
            ∙ append_assoc a (flat_map rules (parts_in (take i xs))) (rules (shown_part x))
            ∙ ap (λ t. a ++ (flat_map rules (parts_in (take i xs)) ++ t)) (sym (append-nil (rules (shown_part x))))
            ∙ ap (λ t. a ++ t) (sym (flat_map-append rules (parts_in (take i xs)) (shown_part x ∷ [])));
      })

pub adds : (a b c p q : List RuleFault) → b ≡ a ++ p → c ≡ b ++ q → c ≡ a ++ (p ++ q)
adds a b c p q one two = two ∙ ap (λ l. l ++ q) one ∙ append_assoc a p q

pub all_asked : (known : Known) (parts : List Part) → flat_map (part_faults known) parts ≡ faults_in known parts
unfolding faults_in
all_asked known parts = refl
