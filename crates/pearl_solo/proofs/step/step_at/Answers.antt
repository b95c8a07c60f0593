use Rattle.std.proofs.Common.{◌≡◌, suc, ◌-◌, length, sym, subst, arith}
use Rattle.pearl_instructions.specs.Rows.{row}
use Rattle.pearl_silent.specs.Steps.{Does, IsSizes}
use Rattle.pearl_exchange.specs.Offers.{action_of}
use Rattle.pearl_solo.specs.Gives.{gave}
use Rattle.pearl_silent.proofs.Offered.{row_is, kept, same_task, stands, frames_some, top_sizes}
use Rattle.pearl_solo.proofs.Sized.{here_next}
use Rattle.pearl_solo.proofs.step.step_at.Goals as goal

pub on_ways-requires-clause-at : goal.on_ways-requires-clause-at
on_ways-requires-clause-at c =
    let frames = c.args.stack.now.frames in
    let some = frames_some c.args.code.now frames c.requires.stack in
    let one : suc (c.frames.result - 1) ≡ length frames = omega (arith, c.frames.ensures, some) in
    let top : IsSizes c.frame-here.result frames = top_sizes c.args.code.now frames (c.frames.result - 1) c.frame-here.result c.requires.stack one c.frame-here.ensures in
    stands c.laws_hold.ensures.laws c.args.code.now c.args.stack.now c.args.instr.now c.frame-here.result c.laws_hold.ensures.valid c.laws_hold.ensures.object c.requires.stack c.requires.room
    (here_next c.frame-here.result frames top c.requires.next) c.requires.there

pub returns-clause-does : goal.returns-clause-does
returns-clause-does c =
    let frames = c.args.stack.now.frames in
    let some = frames_some c.args.code.now frames c.requires.stack in
    let one : suc (c.frames.result - 1) ≡ length frames = omega (arith, c.frames.ensures, some) in
    let top : IsSizes c.frame-here.result frames = top_sizes c.args.code.now frames (c.frames.result - 1) c.frame-here.result c.requires.stack one c.frame-here.ensures in
    let does : Does (row c.args.code.now frames) c.args.stack.now c.on_ways.new.stack (gave c.on_ways.result (action_of c.on_ways.new.into)) =
    subst (λ r. Does r c.args.stack.now c.on_ways.new.stack (gave c.on_ways.result (action_of c.on_ways.new.into))) (sym (row_is c.args.code.now frames c.args.instr.now c.requires.there)) c.on_ways.ensures in
    does

pub returns-clause-stack : goal.returns-clause-stack
returns-clause-stack c =
    let frames = c.args.stack.now.frames in
    let some = frames_some c.args.code.now frames c.requires.stack in
    let one : suc (c.frames.result - 1) ≡ length frames = omega (arith, c.frames.ensures, some) in
    let top : IsSizes c.frame-here.result frames = top_sizes c.args.code.now frames (c.frames.result - 1) c.frame-here.result c.requires.stack one c.frame-here.ensures in
    let does : Does (row c.args.code.now frames) c.args.stack.now c.on_ways.new.stack (gave c.on_ways.result (action_of c.on_ways.new.into)) =
    subst (λ r. Does r c.args.stack.now c.on_ways.new.stack (gave c.on_ways.result (action_of c.on_ways.new.into))) (sym (row_is c.args.code.now frames c.args.instr.now c.requires.there)) c.on_ways.ensures in
    (kept c.laws_hold.ensures.laws c.args.code.now c.args.stack.now c.on_ways.new.stack (gave c.on_ways.result (action_of c.on_ways.new.into)) c.laws_hold.ensures.valid c.laws_hold.ensures.object c.requires.stack c.requires.room does).0

pub returns-clause-room : goal.returns-clause-room
returns-clause-room c =
    let frames = c.args.stack.now.frames in
    let some = frames_some c.args.code.now frames c.requires.stack in
    let one : suc (c.frames.result - 1) ≡ length frames = omega (arith, c.frames.ensures, some) in
    let top : IsSizes c.frame-here.result frames = top_sizes c.args.code.now frames (c.frames.result - 1) c.frame-here.result c.requires.stack one c.frame-here.ensures in
    let does : Does (row c.args.code.now frames) c.args.stack.now c.on_ways.new.stack (gave c.on_ways.result (action_of c.on_ways.new.into)) =
    subst (λ r. Does r c.args.stack.now c.on_ways.new.stack (gave c.on_ways.result (action_of c.on_ways.new.into))) (sym (row_is c.args.code.now frames c.args.instr.now c.requires.there)) c.on_ways.ensures in
    (kept c.laws_hold.ensures.laws c.args.code.now c.args.stack.now c.on_ways.new.stack (gave c.on_ways.result (action_of c.on_ways.new.into)) c.laws_hold.ensures.valid c.laws_hold.ensures.object c.requires.stack c.requires.room does).1

pub returns-clause-task : goal.returns-clause-task
returns-clause-task c =
    let frames = c.args.stack.now.frames in
    let some = frames_some c.args.code.now frames c.requires.stack in
    let one : suc (c.frames.result - 1) ≡ length frames = omega (arith, c.frames.ensures, some) in
    let top : IsSizes c.frame-here.result frames = top_sizes c.args.code.now frames (c.frames.result - 1) c.frame-here.result c.requires.stack one c.frame-here.ensures in
    let does : Does (row c.args.code.now frames) c.args.stack.now c.on_ways.new.stack (gave c.on_ways.result (action_of c.on_ways.new.into)) =
    subst (λ r. Does r c.args.stack.now c.on_ways.new.stack (gave c.on_ways.result (action_of c.on_ways.new.into))) (sym (row_is c.args.code.now frames c.args.instr.now c.requires.there)) c.on_ways.ensures in
    same_task c.laws_hold.ensures.laws c.args.code.now c.args.stack.now c.on_ways.new.stack (gave c.on_ways.result (action_of c.on_ways.new.into)) c.laws_hold.ensures.valid c.laws_hold.ensures.object c.requires.stack does
