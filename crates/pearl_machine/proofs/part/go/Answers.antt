use Rattle.std.proofs.Common.{ap, sym, ◌∙◌}
use Rattle.pearl_stack.specs.Frames.{Stack}
use Rattle.pearl_machine.specs.Parts.{frames_if, start_of}
use Rattle.pearl_machine.proofs.part.go.Goals as goal

pub returns-then-not-part-clause-frames : goal.returns-then-not-part-clause-frames
returns-then-not-part-clause-frames c =
    ap (λ (s : Stack). s.frames) c.begin.ensures.frames
    ∙ sym (ap (λ g. frames_if g (start_of c.args.code.now c.args.task) c.args.part.now.stack.frames) c.if-not-part.true)

pub returns-else-not-part-clause-frames : goal.returns-else-not-part-clause-frames
returns-else-not-part-clause-frames c =
    sym (ap (λ g. frames_if g (start_of c.args.code.now c.args.task) c.args.part.now.stack.frames) c.if-not-part.false)
