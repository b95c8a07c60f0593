-- In a valid object no row that code comes to is missing, as long as each answer suits what was asked.
use Rattle.std.specs.Prelude.{◌≡◌, ℕ, zero, suc, ◌+◌, List, [], ◌∷◌, ◌++◌, length, Option, Some, None}
use Rattle.std.proofs.Common.{refl, sym, subst, arith, append_assoc, append-nil}
use Rattle.pearl_rules.specs.declared.action.Action.{Action}
use Rattle.pearl_rules.specs.declared.action.Answer.{Answer}
use Rattle.pearl_stack.specs.Frames.{Frame}
use Rattle.pearl_instructions.specs.declared.instr.Instr.{Instr}
use Rattle.pearl_instructions.specs.declared.object.Parts.{Parts as Object}
use Rattle.pearl_instructions.specs.Lawful.{IsObject}
use Rattle.pearl_instructions.specs.Laws.{Leads as RowsLead, KeepsTask}
use Rattle.pearl_instructions.specs.Owned.{IsOfTask, Moves, Afterwards}
use Rattle.pearl_instructions.specs.Rows.{act, row, instr_at, lowest}
use Rattle.pearl_instructions.specs.Stacks.{IsStack, Answers, Goes, task_of}
use Rattle.pearl_instructions.specs.Steps.{Step, Silent, Offers, Missing, given}
use Rattle.pearl_instructions.specs.Valid.{IsValid}
use Rattle.pearl_gen_expr.specs.Comes.{Aim, offers, or_lost, Onward, ComesIn, Comes}
use Rattle.pearl_gen_expr.proofs.Offered.{further}

-- the task whose stack it is
lowest_of : (o : Object) (task : ℕ) (f : Frame) (lower : List Frame) → IsOfTask o task (f ∷ lower) →
    lowest f lower ≡ length o.procedures + task
lowest_of o task f [] is = is
lowest_of o task f (g ∷ lower) is = lowest_of o task g lower is

task_is : (o : Object) (task : ℕ) (frames : List Frame) → IsOfTask o task frames → IsStack o frames →
    task_of o frames ≡ task
task_is o task [] is stack = absurd stack
task_is o task (f ∷ lower) is stack = let low = lowest_of o task f lower is in omega (arith, low)

-- After some answers an action may be asked: which one is said by `Asks`.
module _ (o : Object) (t : ℕ) (Asks : List Answer → Action → Type 0) where
  -- from a stack where code is after the answers before, to the action that is asked behind some more
  abbrev pub ComesAsked : (before : List Answer) → List Frame → Type 0
  ComesAsked before frames =
      (more : List Answer) (a : Action) → Asks (before ++ more) a → Comes o frames more (or_lost (offers a))

  -- each answer suits the action that is asked after the answers before it
  abbrev pub AreHeard : (before answers : List Answer) → Type 0
  AreHeard before [] = Unit {0}
  AreHeard before (answer ∷ answers) =
      (a : Action) × Asks before a × Answers o t a answer × AreHeard (before ++ answer ∷ []) answers

module _ (leads : RowsLead) (keeps : KeepsTask) (o : Object) (valid : IsValid o) (object : IsObject o) (t : ℕ) where
  -- a stack of this task
  pub record IsHere (frames : List Frame) : Type 0 where
    pub stack : IsStack o frames
    pub own : IsOfTask o t frames

  -- what a row leaves is one
  abbrev LeadsOn : Step → Type 0
  LeadsOn (Silent frames) = IsHere frames
  LeadsOn (Offers offered go) = (answer : Answer) → Answers o t offered answer → IsHere (go answer)
  LeadsOn Missing = ⊥

  both_lead : (f : Frame) (lower : List Frame) (instr : Instr) (step : Step) → Goes o t step →
      Afterwards o t (λ next. Moves instr f lower next × IsOfTask o t next) step → LeadsOn step
  both_lead f lower instr (Silent frames) goes after = record { stack = goes; own = after.1 }
  both_lead f lower instr (Offers offered go) goes after =
      λ answer suits. record { stack = goes answer suits; own = (after answer suits).1 }
  both_lead f lower instr Missing goes after = goes

  leads_on : (frames : List Frame) → IsHere frames → LeadsOn (row o frames)
  leads_on [] is = absurd is.stack
  leads_on (f ∷ lower) is = by (instr_at o f) refl
    where
      goes : Goes o t (row o (f ∷ lower))
      goes = subst (λ own. Goes o own (row o (f ∷ lower))) (task_is o t (f ∷ lower) is.own is.stack)
          (leads o valid object (f ∷ lower) is.stack)

      by : (found : Option Instr) → instr_at o f ≡ found → LeadsOn (row o (f ∷ lower))
      by None e = absurd (subst (λ found. Goes o t (given found (λ instr. act o instr f lower))) e goes)
      by (Some instr) e = both_lead f lower instr (row o (f ∷ lower)) goes (keeps o t f lower instr is.own e)

  module _ (Asks : List Answer → Action → Type 0) where
    abbrev Asked : (before : List Answer) → List Frame → Type 0
    Asked before frames = ComesAsked o t Asks before frames

    asked_next : (before : List Answer) (frames next : List Frame) → row o frames ≡ Silent next →
        Asked before frames → Asked before next
    asked_next before frames next e asked = λ more a is.
        let on = further o frames (Silent next) more (or_lost (offers a)) (λ is. is) e (asked more a is) in
        record { rows = on.rows; comes = on.onward }

    asked_now : (before : List Answer) (frames : List Frame) (offered : Action) (go : Answer → List Frame) (a : Action) →
        row o frames ≡ Offers offered go → Asked before frames → Asks before a → offered ≡ a
    asked_now before frames offered go a e asked is =
        let now = asked [] a (subst (λ answers. Asks answers a) (sym (append-nil before)) is) in
        (further o frames (Offers offered go) [] (or_lost (offers a)) (λ is. is) e now).onward

    asked_behind : (before : List Answer) (frames : List Frame) (offered : Action) (go : Answer → List Frame)
        (answer : Answer) → row o frames ≡ Offers offered go → Asked before frames →
        Asked (before ++ answer ∷ []) (go answer)
    asked_behind before frames offered go answer e asked = λ more a is.
        let same = append_assoc before (answer ∷ []) more in
        let then = asked (answer ∷ more) a (subst (λ answers. Asks answers a) same is) in
        let on = further o frames (Offers offered go) (answer ∷ more) (or_lost (offers a)) (λ is. is) e then in
        record { rows = on.rows; comes = on.onward }

    -- what is reached at a stack of this task, or offered, is what is sought
    module _ (aim sought : Aim)
        (reached : (frames : List Frame) (rest : List Answer) → IsHere frames → aim.Reached frames rest →
        sought.Reached frames rest) (offered : (a : Action) → aim.Offered a → sought.Offered a) where
      abbrev Within : ℕ → List Frame → List Answer → Type 0
      Within n frames rest = ComesIn o (or_lost aim) n frames rest

      abbrev Surely : ℕ → List Frame → List Answer → Type 0
      Surely n frames rest = ComesIn o sought n frames rest

      -- from any stack of this task
      abbrev Always : ℕ → Type 0
      Always n = (before rest : List Answer) (frames : List Frame) → IsHere frames → Asked before frames →
          AreHeard o t Asks before rest → Within n frames rest → Surely n frames rest

      by_step : (n : ℕ) (before : List Answer) (frames : List Frame) (step : Step) (rest : List Answer) →
          row o frames ≡ step → LeadsOn step → Asked before frames → AreHeard o t Asks before rest →
          Onward (or_lost aim) (Within n) step rest → Always n → Onward sought (Surely n) step rest
      by_step n before frames (Silent next) rest e leads asked heard on later =
          later before rest next leads (asked_next before frames next e asked) heard on
      by_step n before frames (Offers a go) [] e leads asked heard on later = offered a on
      by_step n before frames (Offers a go) (answer ∷ rest) e leads asked heard on later =
          let now = asked_now before frames a go heard.0 e asked heard.1 in
          let suits : Answers o t a answer = subst (λ a. Answers o t a answer) (sym now) heard.2 in
          later (before ++ answer ∷ []) rest (go answer) (leads answer suits)
          (asked_behind before frames a go answer e asked) heard.3 on
      by_step n before frames Missing rest e leads asked heard on later = absurd leads

      always : (n : ℕ) → Always n
      always zero before rest frames here asked heard on = reached frames rest here on
      always (suc n) before rest frames here asked heard on =
          by_step n before frames (row o frames) rest refl (leads_on frames here) asked heard on (always n)

      pub arrives : (answers : List Answer) (frames : List Frame) → IsHere frames → Asked [] frames →
          AreHeard o t Asks [] answers → Comes o frames answers (or_lost aim) → Comes o frames answers sought
      arrives answers frames here asked heard comes =
          record { rows = comes.rows; comes = always comes.rows [] answers frames here asked heard comes.comes }
