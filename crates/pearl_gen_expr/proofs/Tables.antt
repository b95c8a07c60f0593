-- What stands at a number of a program's table stands there in the object's.
use Rattle.std.proofs.Common.{◌≡◌, ℕ, zero, suc, ◌+◌, List, [], ◌∷◌, length, map, Some, slice_get, refl, sym, ap, ◌∙◌, subst}
use Rattle.std.specs.Prelude.{option_map}
use Rattle.std.specs.List.{AllByRecursion}
use Rattle.std.proofs.lemmas.Option.{slice_get-map, same_Some}
use Rattle.std.proofs.lemmas.List.{length-take-le}
use Rattle.pearl_program.specs.PlainPrograms.{PlainProcedure, PlainProg}
use Rattle.pearl_program.specs.Typing.{Around, Signature}
use Rattle.pearl_program.specs.Sound.{IsSound, IsProcedure, signature_of}
use Rattle.pearl_meaning.specs.Setting.{params_of}
use Rattle.pearl_meaning.specs.Variables as meaning
use Rattle.pearl_instructions.specs.declared.object.Leaf.{Leaf}
use Rattle.pearl_instructions.specs.declared.object.Parts.{Parts as Object}
use Rattle.pearl_instructions.specs.Objects.{first_slot}
use Rattle.pearl_gen_expr.specs.Tables.{plain_leaf, HasTables}
use Rattle.pearl_gen_expr.specs.Calls.{IsAroundIn}

pub leaf_is : (p : PlainProg) (o : Object) → HasTables p o → (number : ℕ) (leaf : Leaf) → slice_get o.leaves number ≡ Some leaf →
    slice_get p.leaves number ≡ Some (plain_leaf leaf)
leaf_is p o tables number leaf at =
    ap (λ leaves. slice_get leaves number) (sym tables.leaves) ∙ (slice_get-map plain_leaf o.leaves number ∙ ap (option_map plain_leaf) at)

first_is : (leaves : List Leaf) (number : ℕ) → meaning.first_slot (map plain_leaf leaves) number ≡ first_slot leaves number
first_is [] number = refl
first_is (leaf ∷ leaves) zero = refl
first_is (leaf ∷ leaves) (suc number) = ap (λ n. leaf.slots + n) (first_is leaves number)

pub slots_are : (p : PlainProg) (o : Object) → HasTables p o → (number : ℕ) → meaning.first_slot p.leaves number ≡ first_slot o.leaves number
slots_are p o tables number = ap (λ leaves. meaning.first_slot leaves number) (sym tables.leaves) ∙ first_is o.leaves number

-- what holds of all holds of each
pub each : {X : Type 0} (P : X → Type 0) (xs : List X) (n : ℕ) (x : X) → AllByRecursion P xs → slice_get xs n ≡ Some x → P x
each P [] n x all at = cc
each P (y ∷ ys) zero x all at = subst P (same_Some y x at) all.0
each P (y ∷ ys) (suc n) x all at = each P ys n x all.1 at

-- a procedure has cells for all of its parameters
pub params_are : (p : PlainProg) → IsSound p → (number : ℕ) (procedure : PlainProcedure) → slice_get p.procedures number ≡ Some procedure →
    length (params_of procedure) ≡ procedure.params
params_are p sound number procedure at =
    length-take-le procedure.params procedure.routine.cells (each (IsProcedure p) p.procedures number procedure sound.procedures at).few

-- a procedure's signature is what is around
pub signature_is : (p : PlainProg) (around : Around) → IsAroundIn p around → (number : ℕ) (procedure : PlainProcedure) (signature : Signature) →
    slice_get p.procedures number ≡ Some procedure → slice_get around.procedures number ≡ Some signature → signature_of procedure ≡ signature
signature_is p around is number procedure signature at other =
    same_Some (signature_of procedure) signature (ap (option_map signature_of) (sym at) ∙
    (sym (slice_get-map signature_of p.procedures number) ∙ (ap (λ all. slice_get all number) (sym is.procedures) ∙ other)))
