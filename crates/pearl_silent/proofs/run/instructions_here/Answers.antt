use Rattle.std.proofs.Common.{◌≡◌, ◌-◌, suc, length, Some, sym, ap, ◌∙◌, subst, arith}
use Rattle.std.specs.Prelude.{IsSome, option_map}
use Rattle.pearl_instructions.specs.declared.object.Parts.{Parts as Object}
use Rattle.pearl_instructions.specs.Objects.{routine_at}
use Rattle.pearl_silent.specs.Steps.{IsSizes}
use Rattle.pearl_silent.proofs.Stands.{frames_some, frame_there, top_sizes}
use Rattle.pearl_silent.proofs.Places.{routine_here, instructions_here}
use Rattle.pearl_silent.proofs.run.instructions_here.Goals as goal

pub overflow_sub-frames : goal.overflow_sub-frames
overflow_sub-frames c = let some = frames_some c.args.code.now c.args.stack.now.frames c.requires in omega (arith, c.frames.ensures, some)

pub frame-here-requires : goal.frame-here-requires
frame-here-requires c =
    let some = frames_some c.args.code.now c.args.stack.now.frames c.requires in
    frame_there c.args.code.now c.args.stack.now.frames (c.frames.result - 1) c.requires (omega (arith, c.frames.ensures, some))

pub code_at-requires : goal.code_at-requires
code_at-requires c =
    let frames = c.args.stack.now.frames in
    let some = frames_some c.args.code.now frames c.requires in
    let one : suc (c.frames.result - 1) ≡ length frames = omega (arith, c.frames.ensures, some) in
    let top : IsSizes c.frame-here.result frames = top_sizes c.args.code.now frames (c.frames.result - 1) c.frame-here.result c.requires one c.frame-here.ensures in
    subst (λ (o : Object). IsSome (routine_at o c.frame-here.result.routine)) (sym c.object.ensures.value) (routine_here c.args.code.now frames c.frame-here.result c.requires top)

pub returns : goal.returns
returns c =
    let frames = c.args.stack.now.frames in
    let some = frames_some c.args.code.now frames c.requires in
    let one : suc (c.frames.result - 1) ≡ length frames = omega (arith, c.frames.ensures, some) in
    let top : IsSizes c.frame-here.result frames = top_sizes c.args.code.now frames (c.frames.result - 1) c.frame-here.result c.requires one c.frame-here.ensures in
    instructions_here c.args.code.now frames c.frame-here.result top
    ∙ (ap (λ (o : Object). option_map (λ code. code.instructions) (routine_at o c.frame-here.result.routine)) (sym c.object.ensures.value)
    ∙ (ap (option_map (λ code. code.instructions)) c.code_at.ensures ∙ ap Some (sym c.as_slice.ensures)))
