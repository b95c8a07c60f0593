use Rattle.std.proofs.Common.{subst}
use Rattle.pearl_names.specs.declared.sense.Sense.TheVariants as held
use Rattle.pearl_names.specs.Holding.{HoldsSense}
use Rattle.pearl_resolve.proofs.Reached.{control_walk, no_variable, parameter_walk}
use Rattle.pearl_resolve.proofs.walk.walk_of.Goals as goal

pub returns-in-Control : goal.returns-in-Control
returns-in-Control c = λ forms of h.
    control_walk forms c.kind_walk.result c.args.scope c.args.number c.in-Control.kind of
    (subst (λ s. HoldsSense forms s of) c.in-Control.is h) (c.kind_walk.ensures forms)

pub returns-in-Parameter : goal.returns-in-Parameter
returns-in-Parameter c = λ forms of h.
    parameter_walk forms c.parameter_walk.result c.args.scope c.args.number c.in-Parameter.parameter of
    (subst (λ s. HoldsSense forms s of) c.in-Parameter.is h) (c.parameter_walk.ensures forms)

pub returns-in-NewType : goal.returns-in-NewType
returns-in-NewType c = λ forms of h.
    no_variable forms c.no_walk.result c.args.scope c.args.number held.NewType of (λ form inv x. x) (λ kind x. x) (λ parameter x. x)
    (subst (λ s. HoldsSense forms s of) c.in-NewType.is h) (c.no_walk.ensures forms)

pub returns-in-Semaphore : goal.returns-in-Semaphore
returns-in-Semaphore c = λ forms of h.
    no_variable forms c.no_walk-in-Semaphore.result c.args.scope c.args.number held.Semaphore of (λ form inv x. x) (λ kind x. x) (λ parameter x. x)
    (subst (λ s. HoldsSense forms s of) c.in-Semaphore.is h) (c.no_walk-in-Semaphore.ensures forms)

pub returns-in-Interrupt : goal.returns-in-Interrupt
returns-in-Interrupt c = λ forms of h.
    no_variable forms c.no_walk-in-Interrupt.result c.args.scope c.args.number held.Interrupt of (λ form inv x. x) (λ kind x. x) (λ parameter x. x)
    (subst (λ s. HoldsSense forms s of) c.in-Interrupt.is h) (c.no_walk-in-Interrupt.ensures forms)

pub returns-in-AlphicDation : goal.returns-in-AlphicDation
returns-in-AlphicDation c = λ forms of h.
    no_variable forms c.no_walk-in-AlphicDation.result c.args.scope c.args.number (held.AlphicDation c.in-AlphicDation.field-0) of (λ form inv x. x) (λ kind x. x) (λ parameter x. x)
    (subst (λ s. HoldsSense forms s of) c.in-AlphicDation.is h) (c.no_walk-in-AlphicDation.ensures forms)

pub returns-in-BasicDation : goal.returns-in-BasicDation
returns-in-BasicDation c = λ forms of h.
    no_variable forms c.no_walk-in-BasicDation.result c.args.scope c.args.number (held.BasicDation c.in-BasicDation.direction c.in-BasicDation.kind) of (λ form inv x. x) (λ kind x. x) (λ parameter x. x)
    (subst (λ s. HoldsSense forms s of) c.in-BasicDation.is h) (c.no_walk-in-BasicDation.ensures forms)

pub returns-in-Task : goal.returns-in-Task
returns-in-Task c = λ forms of h.
    no_variable forms c.no_walk-in-Task.result c.args.scope c.args.number held.Task of (λ form inv x. x) (λ kind x. x) (λ parameter x. x)
    (subst (λ s. HoldsSense forms s of) c.in-Task.is h) (c.no_walk-in-Task.ensures forms)

pub returns-in-Procedure : goal.returns-in-Procedure
returns-in-Procedure c = λ forms of h.
    no_variable forms c.no_walk-in-Procedure.result c.args.scope c.args.number (held.Procedure c.in-Procedure.field-0) of (λ form inv x. x) (λ kind x. x) (λ parameter x. x)
    (subst (λ s. HoldsSense forms s of) c.in-Procedure.is h) (c.no_walk-in-Procedure.ensures forms)
