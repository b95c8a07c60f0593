-- Snapshots byte by byte: that of an empty object, its cuts, an object that can't be read, and a state with a stack.
use Rattle.std.proofs.Common.{◌≡◌, ℕ, ◌++◌, List, [], ◌∷◌, take, None, Ok, Err, refl}
use Rattle.pearl_instructions.specs.declared.object.Parts.{Parts as Object}
use Rattle.pearl_fields.specs.Codec.{number_bytes, digits, number_read, number_in_read, exact_read, rolled_read, whole_read}
use Rattle.pearl_object.specs.Kinds.{kind}
use Rattle.pearl_object.specs.Literals.{literal, value_of}
use Rattle.pearl_object.specs.Objects.{parts, object}
use Rattle.pearl_saved.specs.declared.saved.Saved.{Saved}
use Rattle.pearl_snap.specs.Lists.{maybe_number}
use Rattle.pearl_snap.specs.Cells.{target, reference, cell}
use Rattle.pearl_snap.specs.Plans.{continuation, activation}
use Rattle.pearl_snap.specs.Tasks.{frame, acting, task}
use Rattle.pearl_snap.specs.States.{saved}
use Rattle.pearl_snap.specs.Snapshots.{embedded_read, snapshot, snapshot_bytes}
use Rattle.pearl_snap.proofs.ExampleStates.{standing, lowest, called}

abbrev nothing : Object
nothing = record { devices = []; semaphores = []; leaves = []; formats = []; procedures = []; tasks = [] }

abbrev at_rest : Saved
at_rest = record {
  core = record { moment = 0; clock = 0; last = None; slots = []; counts = []; switches = []; terminals = []; inputs = []; tasks = [] };
  stacks = [];
}

abbrev least : List ℕ
least = 80 ∷ 82 ∷ 83 ∷ 49 ∷ 10 ∷ 80 ∷ 82 ∷ 76 ∷ 49 ∷ 0 ∷ 0 ∷ 0 ∷ 0 ∷ 0 ∷ 0 ∷ 0 ∷ 0 ∷ 0 ∷ 0 ∷ 0 ∷ 0 ∷ 0 ∷ 0 ∷ 0 ∷ []

-- the object's number of bytes, then the object, then nine fields of one byte
spelled : snapshot_bytes nothing at_rest ≡ least
unfolding snapshot object parts saved maybe_number number_bytes digits
spelled = refl

read_again : whole_read snapshot least ≡ Ok (record { object = nothing; saved = at_rest })
unfolding snapshot embedded_read object parts saved maybe_number number_read number_in_read exact_read rolled_read
read_again = refl

-- cut within the front, and before the last field, the place is the length
cut_in_front : whole_read snapshot (take 3 least) ≡ Err 0
unfolding snapshot exact_read
cut_in_front = refl

cut_at_the_end : whole_read snapshot (take 23 least) ≡ Err 0
unfolding snapshot embedded_read object parts saved maybe_number number_read number_in_read exact_read rolled_read
cut_at_the_end = refl

-- a byte behind the end is bad, one byte before the end
longer : whole_read snapshot (least ++ 0 ∷ []) ≡ Err 1
unfolding snapshot embedded_read object parts saved maybe_number number_read number_in_read exact_read rolled_read
longer = refl

-- of an object that can't be read its number of bytes is blamed, which begins two bytes before the end
unreadable : whole_read snapshot (80 ∷ 82 ∷ 83 ∷ 49 ∷ 1 ∷ 81 ∷ []) ≡ Err 2
unfolding snapshot embedded_read object number_read exact_read
unreadable = refl

-- a suspended task that keeps one start, in a procedure that refers to a cell of the task
in_a_call : saved.bytes (record { core = standing; stacks = (lowest ∷ called 0 0 ∷ []) ∷ [] }) ≡
    7 ∷ 0 ∷ 1 ∷ 2 ∷ 0 ∷ 31 ∷ 0 ∷ 0 ∷ 31 ∷ 2 ∷ 1 ∷ 3 ∷ 0 ∷ 0 ∷ 0 ∷ 1 ∷ 2 ∷ 1 ∷ 1 ∷ 2 ∷ 0 ∷ 0 ∷ 2 ∷ 1 ∷ 1 ∷ 1 ∷ 0 ∷ 0 ∷ 31 ∷ 10 ∷ 0 ∷ 0 ∷ 0 ∷ 1 ∷ 1 ∷ 0 ∷ 31 ∷ 1 ∷ 0 ∷ 0 ∷ 0 ∷ []
unfolding saved maybe_number task acting frame cell reference target continuation activation literal value_of kind number_bytes digits
in_a_call = refl
