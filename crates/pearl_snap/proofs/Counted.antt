-- Objects that have bytes have no more instructions in a routine than can be counted; so a state of one, and it, have a spelling.
use Rattle.std.proofs.Common.{◌≡◌, ℕ, zero, suc, ◌<◌, ◌^◌, List, [], ◌∷◌, ◌++◌, length, Some, subst}
use Rattle.std.specs.Prelude.{map, slice_get}
use Rattle.std.specs.List.{AllByRecursion}
use Rattle.pearl_fields.specs.Codec.{IsBytes, number_bytes, rolled_fit}
use Rattle.pearl_fields.proofs.Offered.{bytes_before, bytes_behind}
use Rattle.pearl_instructions.specs.declared.object.Code.{Code}
use Rattle.pearl_instructions.specs.declared.object.Procedure.{Procedure}
use Rattle.pearl_instructions.specs.declared.object.Task.{Task}
use Rattle.pearl_instructions.specs.declared.object.Parts.{Parts as Object}
use Rattle.pearl_instructions.specs.Lawful.{IsObject}
use Rattle.pearl_object.specs.declared.states.Alone.{Alone}
use Rattle.pearl_object.specs.Lists.{alone}
use Rattle.pearl_object.specs.Codes.{code as code_part}
use Rattle.pearl_object.specs.Objects.{procedure, task, parts, object, object_bytes}
use Rattle.pearl_object.proofs.Offered.{object_fits}
use Rattle.pearl_saved.specs.declared.saved.Saved.{Saved}
use Rattle.pearl_snap.specs.States.{saved}
use Rattle.pearl_snap.specs.Snapshots.{front, snapshot, snapshot_bytes}
use Rattle.pearl_saved.specs.Rules.{IsMachineState}
use Rattle.pearl_records.specs.States.{AllEnd}
use Rattle.pearl_snap.specs.Restoring.{IsSnapshot}
use Rattle.pearl_snap.proofs.Spelling.{AreCounted, state_fits}

abbrev IsCounted : Code → Type 0
IsCounted c = length c.instructions < 2 ^ 64

code_counted : (params : ℕ) (c : Code) → (code_part params).fits c → IsCounted c
unfolding code_part
code_counted params c h = h.0.1.1.0.0.0.0

procedures_counted : (ps : List Procedure) → rolled_fit (λ (s : Alone). procedure) (λ s x. s) alone ps → AllByRecursion IsCounted (map (λ p. p.code) ps)
unfolding procedure
procedures_counted [] h = tt
procedures_counted (p ∷ ps) h = (code_counted p.params p.code h.0.0.1.1, procedures_counted ps h.1)

tasks_counted : (ts : List Task) → rolled_fit (λ (s : Alone). task) (λ s x. s) alone ts → AllByRecursion IsCounted (map (λ t. t.code) ts)
unfolding task
tasks_counted [] h = tt
tasks_counted (t ∷ ts) h = (code_counted 0 t.code h.0.0.1.1.1, tasks_counted ts h.1)

joined_all : {X : Type 0} (P : X → Type 0) (xs ys : List X) → AllByRecursion P xs → AllByRecursion P ys → AllByRecursion P (xs ++ ys)
joined_all P [] ys h k = k
joined_all P (x ∷ xs) ys h k = (h.0, joined_all P xs ys h.1 k)

one_of : {X : Type 0} (P : X → Type 0) (xs : List X) (i : ℕ) (x : X) → AllByRecursion P xs → slice_get xs i ≡ Some x → P x
one_of P [] i x h e = absurd cc
one_of P (y ∷ xs) zero x h e = let same : y ≡ x = cc in subst P same h.0
one_of P (y ∷ xs) (suc i) x h e = one_of P xs i x h.1 e

are_counted : (o : Object) → object.fits o → AreCounted o
unfolding object parts
are_counted o h = λ r c e.
    let tables = h.0.1.0 in
    one_of IsCounted _ r c
    (joined_all IsCounted _ _ (procedures_counted o.procedures tables.1.1.1.1.0.0.1.1) (tasks_counted o.tasks tables.1.1.1.1.1.0.1.1)) e

object_counted : (o : Object) (s : Saved) → IsObject o → IsBytes (snapshot_bytes o s) → AreCounted o
unfolding snapshot
object_counted o s lawful are =
    let b = object_bytes o in
    let n = number_bytes (length b) in
    let behind = bytes_behind front ((n ++ b) ++ saved.bytes s) are in
    are_counted o (object_fits o lawful (bytes_behind n b (bytes_before (n ++ b) (saved.bytes s) behind)))

-- the bytes that are written of a state of an object are those of a snapshot
pub is_snapshot : (bytes : List ℕ) (o : Object) (s : Saved) → IsBytes bytes → IsObject o → bytes ≡ snapshot_bytes o s → IsMachineState o s → AllEnd s.core → IsSnapshot bytes o s
is_snapshot bytes o s are lawful same is ends = record {
  object = lawful;
  state = state_fits o s lawful (object_counted o s lawful (subst IsBytes same are)) is ends;
  same = same;
}
