use Rattle.std.proofs.Common.{◌≡◌, suc, ◌-◌, ◌≤◌, Some, length, sym, ◌∙◌, subst, arith}
use Rattle.std.proofs.lemmas.Option.{same_Some}
use Rattle.pearl_instructions.specs.declared.instr.Instr.{Instr}
use Rattle.pearl_silent.specs.Standing.{family, instr_of}
use Rattle.pearl_silent.specs.Steps.{IsSizes}
use Rattle.pearl_silent.proofs.Offered.{frames_some, top_sizes, read_is}
use Rattle.pearl_solo.proofs.Sized.{next_here}
use Rattle.pearl_solo.proofs.step.step_other.Goals as goal

pub step_at-requires-clause-there : goal.step_at-requires-clause-there
step_at-requires-clause-there c =
    let frames = c.args.stack.now.frames in
    let some = frames_some c.args.code.now frames c.requires.stack in
    let one : suc (c.frames.result - 1) ≡ length frames = omega (arith, c.frames.ensures, some) in
    let top : IsSizes c.frame-here.result frames = top_sizes c.args.code.now frames (c.frames.result - 1) c.frame-here.result c.requires.stack one c.frame-here.ensures in
    sym (read_is c.args.code.now frames c.frame-here.result top) ∙ c.instr_at-instr.ensures.instr

pub step_at-requires-clause-family : goal.step_at-requires-clause-family
step_at-requires-clause-family c =
    let frames = c.args.stack.now.frames in
    let some = frames_some c.args.code.now frames c.requires.stack in
    let one : suc (c.frames.result - 1) ≡ length frames = omega (arith, c.frames.ensures, some) in
    let top : IsSizes c.frame-here.result frames = top_sizes c.args.code.now frames (c.frames.result - 1) c.frame-here.result c.requires.stack one c.frame-here.ensures in
    let there : instr_of c.args.code.now frames ≡ Some c.instr_at-instr.result.now = sym (read_is c.args.code.now frames c.frame-here.result top) ∙ c.instr_at-instr.ensures.instr in
    subst (λ (i : Instr). 2 ≤ family i) (same_Some c.requires.other.0 c.instr_at-instr.result.now (sym c.requires.other.1 ∙ there)) c.requires.other.2

pub step_at-requires-clause-next : goal.step_at-requires-clause-next
step_at-requires-clause-next c =
    let frames = c.args.stack.now.frames in
    let some = frames_some c.args.code.now frames c.requires.stack in
    let one : suc (c.frames.result - 1) ≡ length frames = omega (arith, c.frames.ensures, some) in
    let top : IsSizes c.frame-here.result frames = top_sizes c.args.code.now frames (c.frames.result - 1) c.frame-here.result c.requires.stack one c.frame-here.ensures in
    next_here c.frame-here.result frames top c.instr_at-instr.ensures.next
