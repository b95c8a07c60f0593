use Rattle.std.proofs.Common.{◌≡◌, ◌-◌, List, length, reverse, take, Some, refl, sym, ap, ◌∙◌, subst, arith, length-take-le}
use Rattle.pearl_value.specs.declared.cell.Cell.{Cell}
use Rattle.pearl_stack.specs.declared.stack.Head.{Head}
use Rattle.pearl_stack.specs.Frames.{Frame, popped}
use Rattle.pearl_stack.specs.Held.{Held}
use Rattle.pearl_stack.specs.Memory.{frames_of, Divides}
use Rattle.pearl_stack.proofs.Holds.{Holds, pops}
use Rattle.pearl_stack.proofs.stack.Loaded.pop.Goals as goal

pub pop-requires : goal.pop-requires
pop-requires c =
    let heads : List Head = c.self.inside.heads.items in
    let values : List Cell = c.self.inside.values.items in
    let frames : List Frame = c.args.self.now.frames in
    let holds : Holds heads values frames = record { shows = ap (λ s. s.frames) c.self.view_is; divides = c.self.invariant.6 } in
    let old = pops heads values frames holds c.requires in
    omega (arith, old.some)

pub invariant_of-self : goal.invariant_of-self
invariant_of-self c =
    let heads : List Head = c.self.inside.heads.items in
    let values : List Cell = c.self.inside.values.items in
    let frames : List Frame = c.args.self.now.frames in
    let holds : Holds heads values frames = record { shows = ap (λ s. s.frames) c.self.view_is; divides = c.self.invariant.6 } in
    let old = pops heads values frames holds c.requires in
    let items : c.pop.new.self.items ≡ take (length values - 1) values = ap (λ (h : Held). h.items) c.pop.ensures.rest in
    let short : length c.pop.new.self.items ≡ length values - 1 = ap length items ∙ length-take-le (length values - 1) values (omega arith) in (
      omega (arith, ap (λ (h : Held). h.room) c.pop.ensures.rest, c.self.invariant.0),
      c.self.invariant.1,
      c.self.invariant.2,
      c.self.invariant.3,
      omega (arith, short, c.self.invariant.4),
      c.self.invariant.5,
      subst (λ vs. Divides (reverse heads) (length vs)) (sym items) old.rest.divides,
    )

pub returns-clause-operand : goal.returns-clause-operand
returns-clause-operand c =
    let heads : List Head = c.self.inside.heads.items in
    let values : List Cell = c.self.inside.values.items in
    let frames : List Frame = c.args.self.now.frames in
    let holds : Holds heads values frames = record { shows = ap (λ s. s.frames) c.self.view_is; divides = c.self.invariant.6 } in
    let old = pops heads values frames holds c.requires in
    old.operand c.pop.result ∙ ap Some (sym c.pop.ensures.value)

pub returns-clause-rest : goal.returns-clause-rest
returns-clause-rest c =
    let heads : List Head = c.self.inside.heads.items in
    let values : List Cell = c.self.inside.values.items in
    let frames : List Frame = c.args.self.now.frames in
    let holds : Holds heads values frames = record { shows = ap (λ s. s.frames) c.self.view_is; divides = c.self.invariant.6 } in
    let room = ap (λ s. s.room) c.self.view_is in
    let most = ap (λ s. s.most) c.self.view_is in
    let old = pops heads values frames holds c.requires in
    let items : c.pop.new.self.items ≡ take (length values - 1) values = ap (λ (h : Held). h.items) c.pop.ensures.rest in
    let shows : frames_of (reverse heads) c.pop.new.self.items ≡ popped frames = ap (frames_of (reverse heads)) items ∙ old.rest.shows in
    rw (shows, room, most) refl
