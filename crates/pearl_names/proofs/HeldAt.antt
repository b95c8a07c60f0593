-- What is found in a table that is held in memory.
use Rattle.std.proofs.Common.{◌≡◌, ℕ, zero, suc, List, [], ◌∷◌, Some, None, slice_get, unwrap_or, subst, sym}
use Rattle.std.proofs.lemmas.Option.{same_Some, none-some}
use Rattle.std.specs.Option.{option_and_then}
use Rattle.pearl_names.specs.declared.sense.ScopeSenses.{ScopeSenses}
use Rattle.pearl_names.specs.declared.sense.Sense.{Sense as HeldSense}
use Rattle.pearl_names.specs.declared.types.StructForm.{StructForm}
use Rattle.pearl_names.specs.Holding.{HoldsFound, HoldsAll, HoldsSenses}
use Rattle.pearl_names.specs.Tables.{Sense}

entry_held : (forms : List StructForm) (senses : List HeldSense) (of : List Sense) (entry : ℕ) → HoldsAll forms senses of →
    HoldsFound forms (slice_get senses entry) (slice_get of entry)
entry_held forms [] [] entry h = tt
entry_held forms (sense ∷ senses) (one ∷ of) zero h = h.0
entry_held forms (sense ∷ senses) (one ∷ of) (suc entry) h = entry_held forms senses of entry h.1
entry_held forms [] (one ∷ of) entry h = absurd h
entry_held forms (sense ∷ senses) [] entry h = absurd h

pub found_held : (forms : List StructForm) (scopes : List ScopeSenses) (of : List (List Sense)) (scope entry : ℕ) → HoldsSenses forms scopes of →
    HoldsFound forms (option_and_then (λ s. slice_get s.senses.items entry) (slice_get scopes scope))
    (option_and_then (λ names. slice_get names entry) (slice_get of scope))
found_held forms [] [] scope entry h = tt
found_held forms (first ∷ scopes) (one ∷ of) zero entry h = entry_held forms first.senses.items one entry h.0
found_held forms (first ∷ scopes) (one ∷ of) (suc scope) entry h = found_held forms scopes of scope entry h.1
found_held forms [] (one ∷ of) scope entry h = absurd h
found_held forms (first ∷ scopes) [] scope entry h = absurd h

-- what the names of a scope stand for
pub scope_held : (forms : List StructForm) (scopes : List ScopeSenses) (of : List (List Sense)) (n : ℕ) (scope : ScopeSenses) → HoldsSenses forms scopes of →
    slice_get scopes n ≡ Some scope → HoldsAll forms scope.senses.items (unwrap_or (slice_get of n) [])
scope_held forms [] [] n scope h at = absurd (none-some scope at)
scope_held forms (first ∷ scopes) (one ∷ of) zero scope h at = subst (λ s. HoldsAll forms s.senses.items one) (same_Some first scope at) h.0
scope_held forms (first ∷ scopes) (one ∷ of) (suc n) scope h at = scope_held forms scopes of n scope h.1 at
scope_held forms [] (one ∷ of) n scope h at = absurd h
scope_held forms (first ∷ scopes) [] n scope h at = absurd h

-- there is no such scope
pub scope_past : (forms : List StructForm) (scopes : List ScopeSenses) (of : List (List Sense)) (n : ℕ) → HoldsSenses forms scopes of →
    slice_get scopes n ≡ None → HoldsAll forms [] (unwrap_or (slice_get of n) [])
scope_past forms [] [] n h at = tt
scope_past forms (first ∷ scopes) (one ∷ of) zero h at = absurd (none-some first (sym at))
scope_past forms (first ∷ scopes) (one ∷ of) (suc n) h at = scope_past forms scopes of n h.1 at
scope_past forms [] (one ∷ of) n h at = absurd h
scope_past forms (first ∷ scopes) [] n h at = absurd h
