-- Faults that are added one after the other.
use Rattle.std.proofs.Common.{◌≡◌, ℕ, ◌+◌, ◌<◌, List, [], ◌∷◌, ◌++◌, length, take, get_or, sym, ap, ◌∙◌, append_assoc, append-nil}
use Rattle.std.proofs.lemmas.Grind.{flat_map-append}
use Rattle.std.specs.List.{flat_map}
use Rattle.pearl_tree.specs.declared.fault.RuleFault.{RuleFault}
use Rattle.pearl_names.specs.declared.table.SenseTable.{SenseTable}
use Rattle.pearl_names.specs.Holding.{HoldsTable}
use Rattle.pearl_names.specs.Tables.{Table}
use Rattle.pearl_names.proofs.Offered.{one_taken}
use Rattle.pearl_scope.specs.declared.places.Place.{Place}
use Rattle.pearl_scope.specs.Placed.{placed_at, placed_in}
use Rattle.pearl_scope.proofs.Offered.{placed_in-append}

-- what a loop has added for these, of each table of names that the one in memory holds
abbrev pub Adds : {X : Type 0} → SenseTable → (old new : List RuleFault) → (Table → X → List RuleFault) → List X → Type 0
Adds held old new faults xs = (table : Table) → HoldsTable held table → new ≡ old ++ flat_map (faults table) xs

pub adds_none : {X : Type 0} (held : SenseTable) (old : List RuleFault) (faults : Table → X → List RuleFault) (xs : List X) → xs ≡ [] → Adds held old old faults xs
adds_none held old faults xs none table holds = append-nil-of (ap (flat_map (faults table)) none)
  where
    append-nil-of : {more : List RuleFault} → more ≡ [] → old ≡ old ++ more
    append-nil-of is = sym (append-nil old) ∙ ap (λ t. old ++ t) (sym is)

pub adds_more : {X : Type 0} (held : SenseTable) (old now new : List RuleFault) (faults : Table → X → List RuleFault) (before after : List X) (x : X) →
    after ≡ before ++ x ∷ [] → Adds held old now faults before →
    ((table : Table) → HoldsTable held table → new ≡ now ++ faults table x) → Adds held old new faults after
adds_more held old now new faults before after x is so more table holds =
    more table holds
    ∙ ap (λ t. t ++ faults table x) (so table holds)
    ∙ append_assoc old (flat_map (faults table) before) (faults table x)
    ∙ ap (λ t. old ++ (flat_map (faults table) before ++ t)) (sym (append-nil (faults table x)))
    ∙ ap (λ t. old ++ t) (sym (flat_map-append (faults table) before (x ∷ [])))
    ∙ ap (λ t. old ++ flat_map (faults table) t) (sym is)

-- one place more is taken of a list
pub placed_taken : (xs : List Place) (i : ℕ) (x : Place) → i < length xs → x ≡ get_or xs i x →
    placed_in (take (i + 1) xs) ≡ placed_in (take i xs) ++ placed_at x ∷ []
unfolding placed_in
placed_taken xs i x inside is = ap placed_in (one_taken xs i x inside is) ∙ placed_in-append (take i xs) (x ∷ [])
