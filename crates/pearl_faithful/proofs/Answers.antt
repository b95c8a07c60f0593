-- An answer that suits what is offered in an object with a program's tables suits it in the program.
use Rattle.std.proofs.Common.{◌≡◌, ℕ, List, [], ◌∷◌, ◌++◌, map, Option, Some, None, refl, sym, subst, ap, ◌∙◌, append_assoc, append-nil}
use Rattle.std.specs.Prelude.{◌-◌, nat_lt, if◌then◌else◌, option_and_then, slice_get}
use Rattle.pearl_value.specs.declared.kind.Kind.{Kind}
use Rattle.pearl_value.specs.declared.kind.Kind.TheVariants as kind
use Rattle.pearl_rules.specs.declared.action.Action.{Action}
use Rattle.pearl_rules.specs.declared.action.Action.TheVariants as action
use Rattle.pearl_rules.specs.declared.action.Answer.{Answer}
use Rattle.pearl_rules.specs.declared.action.Answer.TheVariants.{Nothing, One, Many}
use Rattle.pearl_value.specs.declared.device.Device.{Device}
use Rattle.pearl_value.specs.declared.device.Device.TheVariants.{Interrupt, Terminal, Input, Output}
use Rattle.pearl_program.specs.PlainPrograms.{PlainProg}
use Rattle.pearl_instructions.specs.declared.object.Leaf.{Leaf}
use Rattle.pearl_instructions.specs.declared.object.Parts.{Parts as Object}
use Rattle.pearl_instructions.specs.Objects as objects
use Rattle.pearl_instructions.specs.Kinds.{plain_kind, kind_taken}
use Rattle.pearl_instructions.specs.Stacks as stacks
use Rattle.pearl_instructions.specs.Stacks.{Answers}
use Rattle.pearl_meaning.specs.Programs.{offer}
use Rattle.pearl_rules.specs.Tables.{input_kind}
use Rattle.pearl_meaning.specs.Hearing.{slot_kind, IsOneOf, AreOf, Suits, HeardAfter}
use Rattle.pearl_gen_expr.specs.Tables.{HasTables, plain_leaf}

same_slots : (leaves : List Leaf) (slot : ℕ) → objects.slot_kind leaves slot ≡ slot_kind (map plain_leaf leaves) slot
same_slots [] slot = refl
same_slots (leaf ∷ leaves) slot = ap (λ found. if nat_lt slot leaf.slots then Some leaf.kind else found) (same_slots leaves (slot - leaf.slots))

same_inputs : (device : Option Device) → option_and_then plain_kind (kind_taken device) ≡ input_kind device
same_inputs None = refl
same_inputs (Some (Interrupt number)) = refl
same_inputs (Some (Terminal number way)) = refl
same_inputs (Some (Input number of)) = refl
same_inputs (Some (Output number of)) = refl

one_of : (found : Option Kind) (answer : Answer) → stacks.IsOneOf found answer → IsOneOf found answer
one_of None answer is = absurd is
one_of (Some of) Nothing is = is
one_of (Some of) (One x) is = is
one_of (Some of) (Many xs) is = is

are_of : (kinds : List Kind) (answer : Answer) → stacks.AreOf kinds answer → AreOf kinds answer
are_of kinds Nothing are = are
are_of kinds (One x) are = are
are_of kinds (Many xs) are = are

module _ (p : PlainProg) (o : Object) (tables : HasTables p o) (t : ℕ) where
  pub suits : (offered : Action) (answer : Answer) → Answers o t offered answer → Suits p t offered answer
  suits (action.Read slot) answer is =
      one_of (slot_kind p.leaves slot) answer
      (subst (λ found. stacks.IsOneOf found answer) (same_slots o.leaves slot ∙ ap (λ leaves. slot_kind leaves slot) tables.leaves) is)
  suits action.Now answer is = one_of (Some kind.Clock) answer is
  suits (action.Try semaphore) answer is = one_of (Some (kind.Bits 1)) answer is
  suits (action.Take device) answer is =
      one_of (input_kind (slice_get p.devices device)) answer
      (subst (λ found. stacks.IsOneOf found answer)
      (ap (λ found. option_and_then plain_kind (kind_taken found)) (ap (λ devices. slice_get devices device) tables.devices)
      ∙ same_inputs (slice_get p.devices device))
      is)
  suits (action.Get device format kinds) answer is = are_of kinds.items answer is
  suits action.End answer is = is
  suits (action.Trap trap) answer is = is
  suits (action.Terminate task) answer is = is
  suits offered answer is = is

-- one answer more that suits
pub heard_more : (p : PlainProg) (t : ℕ) (before answers : List Answer) (answer : Answer) → HeardAfter p t before answers →
    Suits p t (offer p t (before ++ answers)) answer → HeardAfter p t before (answers ++ answer ∷ [])
heard_more p t before [] answer heard suits = (subst (λ answers. Suits p t (offer p t answers) answer) (append-nil before) suits, tt)
heard_more p t before (first ∷ answers) answer heard suits = (
  heard.0,
  heard_more p t (before ++ first ∷ []) answers answer heard.1
      (subst (λ answers. Suits p t (offer p t answers) answer) (sym (append_assoc before (first ∷ []) answers)) suits),
)
