-- An answer that suits what a program's task does suits it in an object with the program's tables.
use Rattle.std.specs.Prelude.{◌≡◌, ℕ, ◌-◌, nat_lt, if◌then◌else◌, List, [], ◌∷◌, map, Option, Some, None, option_and_then, slice_get}
use Rattle.std.proofs.Common.{refl, sym, subst, ap, ◌∙◌}
use Rattle.pearl_value.specs.declared.kind.Kind.{Kind}
use Rattle.pearl_value.specs.declared.kind.Kind.TheVariants as kind
use Rattle.pearl_rules.specs.declared.action.Action.{Action}
use Rattle.pearl_rules.specs.declared.action.Action.TheVariants as action
use Rattle.pearl_rules.specs.declared.action.Answer.{Answer}
use Rattle.pearl_rules.specs.declared.action.Answer.TheVariants.{Nothing, One, Many}
use Rattle.pearl_value.specs.declared.device.Device.{Device}
use Rattle.pearl_value.specs.declared.device.Device.TheVariants.{Interrupt, Terminal, Input, Output}
use Rattle.pearl_program.specs.PlainPrograms.{PlainProg}
use Rattle.pearl_instructions.specs.declared.object.Leaf.{Leaf}
use Rattle.pearl_instructions.specs.declared.object.Parts.{Parts as Object}
use Rattle.pearl_instructions.specs.Objects as objects
use Rattle.pearl_instructions.specs.Kinds.{plain_kind, kind_taken}
use Rattle.pearl_instructions.specs.Stacks as stacks
use Rattle.pearl_instructions.specs.Stacks.{Answers}
use Rattle.pearl_rules.specs.Tables.{input_kind}
use Rattle.pearl_meaning.specs.Hearing.{slot_kind, IsOneOf, AreOf, Suits}
use Rattle.pearl_gen_expr.specs.Tables.{HasTables, plain_leaf}

slots_same : (leaves : List Leaf) (slot : ℕ) → slot_kind (map plain_leaf leaves) slot ≡ objects.slot_kind leaves slot
slots_same [] slot = refl
slots_same (leaf ∷ leaves) slot = ap (λ found. if nat_lt slot leaf.slots then Some leaf.kind else found) (slots_same leaves (slot - leaf.slots))

one_same : (found : Option Kind) (answer : Answer) → IsOneOf found answer → stacks.IsOneOf found answer
one_same None answer is = absurd (none answer is)
  where
    none : (answer : Answer) → IsOneOf None answer → ⊥
    none Nothing is = is
    none (One x) is = is
    none (Many xs) is = is
one_same (Some of) Nothing is = is
one_same (Some of) (One x) is = is
one_same (Some of) (Many xs) is = is

many_same : (kinds : List Kind) (answer : Answer) → AreOf kinds answer → stacks.AreOf kinds answer
many_same kinds Nothing are = are
many_same kinds (One x) are = are
many_same kinds (Many xs) are = are

taken_same : (device : Option Device) → input_kind device ≡ option_and_then plain_kind (kind_taken device)
taken_same None = refl
taken_same (Some (Interrupt number)) = refl
taken_same (Some (Terminal number way)) = refl
taken_same (Some (Input number of)) = refl
taken_same (Some (Output number of)) = refl

module _ (p : PlainProg) (o : Object) (tables : HasTables p o) (t : ℕ) where
  pub suits_same : (offered : Action) (answer : Answer) → Suits p t offered answer → Answers o t offered answer
  suits_same (action.Read slot) answer suits =
      one_same (objects.slot_kind o.leaves slot) answer
      (subst (λ found. IsOneOf found answer) (ap (λ leaves. slot_kind leaves slot) (sym tables.leaves) ∙ slots_same o.leaves slot) suits)
  suits_same action.Now answer suits = one_same (Some kind.Clock) answer suits
  suits_same (action.Try semaphore) answer suits = one_same (Some (kind.Bits 1)) answer suits
  suits_same (action.Take device) answer suits =
      one_same (option_and_then plain_kind (kind_taken (slice_get o.devices device))) answer
      (subst (λ found. IsOneOf found answer)
      (taken_same (slice_get p.devices device) ∙ ap (λ found. option_and_then plain_kind (kind_taken found)) (ap (λ devices. slice_get devices device) (sym tables.devices)))
      suits)
  suits_same (action.Get device format kinds) answer suits = many_same kinds.items answer suits
  suits_same action.End answer suits = suits
  suits_same (action.Trap trap) answer suits = suits
  suits_same (action.Terminate task) answer suits = suits
  suits_same offered answer suits = suits
