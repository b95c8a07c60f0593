-- What the frames of a lawful state stand for: exactly the stacks that an object's task can have.
use Rattle.std.specs.Prelude.{◌≡◌, ℕ, ◌+◌, List, [], length}
use Rattle.pearl_stack.specs.Frames.{Frame}
use Rattle.pearl_instructions.specs.declared.object.Parts.{Parts as Object}
use Rattle.pearl_instructions.specs.Owners as owners
use Rattle.pearl_saved.specs.declared.saved.FrameRecord.{FrameRecord}
use Rattle.pearl_saved.specs.Rules.{IsStackOf, AllRefer}
use Rattle.pearl_saved.specs.Stacks.{stack_record, frames_made}

-- frames that keep N5 and N6 for task t are those of a stack of it, and are what is recorded of this stack
abbrev pub FramesAreOfAStack : Type 0
FramesAreOfAStack =
    (o : Object) (t : ℕ) (frames : List FrameRecord) → IsStackOf o (length o.procedures + t) frames → AllRefer o [] frames →
    owners.IsStackOf o t (frames_made frames) × (stack_record (frames_made frames) ≡ frames)

-- what is recorded of a stack of task t keeps N5 and N6 for it
abbrev pub StacksKeepRules : Type 0
StacksKeepRules =
    (o : Object) (t : ℕ) (frames : List Frame) → owners.IsStackOf o t frames →
    IsStackOf o (length o.procedures + t) (stack_record frames) × AllRefer o [] (stack_record frames)

-- the stack of what is recorded of a stack is this stack
abbrev pub StacksComeBack : Type 0
StacksComeBack = (frames : List Frame) → frames_made (stack_record frames) ≡ frames
