-- What code offers from a stack is what it offers from where its row leads.
use Rattle.std.proofs.Common.{◌≡◌, List, [], ◌∷◌}
use Rattle.pearl_rules.specs.declared.action.Action.{Action}
use Rattle.pearl_rules.specs.declared.action.Answer.{Answer}
use Rattle.pearl_stack.specs.Frames.{Frame}
use Rattle.pearl_instructions.specs.declared.object.Parts.{Parts as Object}
use Rattle.pearl_instructions.specs.Rows.{row}
use Rattle.pearl_instructions.specs.Steps.{Step, Silent, Offers, Missing}
use Rattle.pearl_gen_expr.specs.Comes.{offers}
use Rattle.pearl_gen_expr.proofs.Offered.{ComesFrom, further}
use Rattle.pearl_gen_stmt.specs.Offering.{OffersAfter}

module _ (o : Object) (frames : List Frame) where
  onward : (step : Step) (rest : List Answer) (action : Action) → row o frames ≡ step → OffersAfter o frames rest action →
      ComesFrom o step rest (offers action)
  onward step rest action e comes = further o frames step rest (offers action) (λ is. is) e comes

  pub offers_next : (next : List Frame) (rest : List Answer) (action : Action) → row o frames ≡ Silent next → OffersAfter o frames rest action →
      OffersAfter o next rest action
  offers_next next rest action e comes = let on = onward (Silent next) rest action e comes in record { rows = on.rows; comes = on.onward }

  pub offers_now : (offered : Action) (go : Answer → List Frame) (action : Action) → row o frames ≡ Offers offered go → OffersAfter o frames [] action →
      offered ≡ action
  offers_now offered go action e comes = (onward (Offers offered go) [] action e comes).onward

  pub offers_behind : (offered : Action) (go : Answer → List Frame) (answer : Answer) (rest : List Answer) (action : Action) → row o frames ≡ Offers offered go →
      OffersAfter o frames (answer ∷ rest) action → OffersAfter o (go answer) rest action
  offers_behind offered go answer rest action e comes =
      let on = onward (Offers offered go) (answer ∷ rest) action e comes in record { rows = on.rows; comes = on.onward }

  pub offers_somewhere : (rest : List Answer) (action : Action) → row o frames ≡ Missing → OffersAfter o frames rest action → ⊥
  offers_somewhere rest action e comes = (onward Missing rest action e comes).onward
