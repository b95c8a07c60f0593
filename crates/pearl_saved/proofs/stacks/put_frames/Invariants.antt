use Rattle.std.proofs.Common.{◌≡◌, take}
use Rattle.pearl_saved.specs.Stacks.{frames_made}
use Rattle.pearl_saved.proofs.stacks.put_frames.Given as goal

abbrev pub invariant-loop-frame : goal.invariant-loop-frame
invariant-loop-frame l = l.stack ≡ record l.initial.stack { frames = frames_made (take l.frame-index l.frames) }
