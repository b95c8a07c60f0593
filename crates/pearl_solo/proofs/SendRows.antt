-- The rows of Send and Call.
use Rattle.std.proofs.Common.{◌≡◌, ℕ, ◌∷◌, List, [], Option, Some, slice_get, ap, ◌∙◌}
use Rattle.std.specs.Prelude.{nat_le, length}
use Rattle.std.proofs.lemmas.Option.{same_Some}
use Rattle.pearl_value.specs.declared.cell.Cell.{Cell}
use Rattle.pearl_rules.specs.declared.action.Action.TheVariants as action
use Rattle.pearl_rules.specs.declared.action.Answer.{Answer}
use Rattle.pearl_stack.specs.Frames.{Frame, top_operands}
use Rattle.pearl_instructions.specs.declared.object.Procedure.{Procedure}
use Rattle.pearl_instructions.specs.Steps as step
use Rattle.pearl_instructions.specs.Steps.{Offers, acts, given, needed}
use Rattle.pearl_instructions.specs.Flow.{call, called}
use Rattle.pearl_silent.specs.Steps.{on_top, Applies}
use Rattle.pearl_silent.proofs.Offered.{given_some, needed_true}

send_at : (f : Frame) (lower : List Frame) (d : ℕ) (xs : List Cell) (x : Cell) → slice_get xs 0 ≡ Some x →
    (go : Answer → List Frame) × (step.popped xs (λ x left. acts (action.Send d x) f lower left) ≡ Offers (action.Send d x) go)
send_at f lower d [] x e = cc
send_at f lower d (y ∷ left) x e = (_, ap (λ x. acts (action.Send d x) f lower left) (same_Some y x e))

pub send_offers : (frames : List Frame) (d : ℕ) (x : Cell) → slice_get (top_operands frames) 0 ≡ Some x →
    (go : Answer → List Frame) × (on_top (λ f lower. step.popped f.operands (λ x left. acts (action.Send d x) f lower left)) frames ≡ Offers (action.Send d x) go)
send_offers [] d x e = cc
send_offers (f ∷ lower) d x e = send_at f lower d f.operands x e

call_at : (f : Frame) (lower : List Frame) (p room : ℕ) (callee : Option Procedure) → Applies (call p callee f lower) room →
    (go : Answer → List Frame) × (call p callee f lower ≡ Offers action.Enter go)
call_at f lower p room callee a =
    let some = given_some callee _ room a in
    let fits = needed_true (nat_le some.0.params (length f.operands)) _ room some.2 in
    let go : Answer → List Frame = λ answer. called p some.0 (f ∷ lower) f.operands in
    (go, ap (λ o. call p o f lower) some.1 ∙ ap (λ b. needed b (Offers action.Enter go)) fits.0)

pub call_offers : (frames : List Frame) (p room : ℕ) (callee : Option Procedure) → Applies (on_top (λ f lower. call p callee f lower) frames) room →
    (go : Answer → List Frame) × (on_top (λ f lower. call p callee f lower) frames ≡ Offers action.Enter go)
call_offers [] p room callee a = absurd a
call_offers (f ∷ lower) p room callee a = call_at f lower p room callee a
