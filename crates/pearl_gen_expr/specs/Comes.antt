-- To what code comes over some answers: to a stack, to an action, or to where there is no row.
use Rattle.std.specs.Prelude.{◌≡◌, ℕ, zero, suc, List, [], ◌∷◌}
use Rattle.pearl_rules.specs.declared.action.Action.{Action}
use Rattle.pearl_rules.specs.declared.action.Answer.{Answer}
use Rattle.pearl_stack.specs.Frames.{Frame}
use Rattle.pearl_instructions.specs.declared.object.Parts.{Parts as Object}
use Rattle.pearl_instructions.specs.Steps.{Step, Silent, Offers, Missing}
use Rattle.pearl_instructions.specs.Rows.{row}

-- what code is to come to
pub record Aim : Type 1 where
  -- a stack, with the answers that are left there
  pub Reached : List Frame → List Answer → Type 0
  -- an action that is offered once no answer is left
  pub Offered : Action → Type 0
  -- a place where there is no row
  pub Lost : Type 0

-- this action, each row being there
abbrev pub offers : Action → Aim
offers action = record { Reached = λ frames rest. ⊥; Offered = λ offered. offered ≡ action; Lost = ⊥ }

-- the same, or a place where there is no row: in a valid object no answer that suits leads there
abbrev pub or_lost : Aim → Aim
or_lost aim = record aim { Lost = Unit {0} }

-- An action that is offered once no answer is left is the right one; else this holds of the stack that is left, and of the
-- answers that are.
abbrev pub Onward : Aim → (List Frame → List Answer → Type 0) → Step → List Answer → Type 0
Onward aim goes (Silent frames) rest = goes frames rest
Onward aim goes (Offers offered go) [] = aim.Offered offered
Onward aim goes (Offers offered go) (answer ∷ rest) = goes (go answer) rest
Onward aim goes Missing rest = aim.Lost

-- after so many rows, the offering one counted
abbrev pub ComesIn : Object → Aim → ℕ → List Frame → List Answer → Type 0
ComesIn o aim zero frames rest = aim.Reached frames rest
ComesIn o aim (suc n) frames rest = Onward aim (λ frames rest. ComesIn o aim n frames rest) (row o frames) rest

-- from this stack the code comes there over these answers
pub record Comes (o : Object) (frames : List Frame) (rest : List Answer) (aim : Aim) : Type 0 where
  pub rows : ℕ
  pub comes : ComesIn o aim rows frames rest
