use Rattle.std.proofs.Common.{◌≡◌, ◌-◌, List}
use Rattle.pearl_fields.specs.Codec.{rolled_read}
use Rattle.pearl_fields.proofs.Offered.{with_front}
use Rattle.pearl_snap.specs.declared.states.Free.{Free}
use Rattle.pearl_snap.specs.declared.states.SavedTask.{SavedTask}
use Rattle.pearl_snap.specs.Lists.{free}
use Rattle.pearl_snap.specs.Tasks.{task}
use Rattle.pearl_snap.specs.States.{rows_of, stacks_of}
use Rattle.pearl_snap.proofs.state.read_rows.Given as goal

-- the tasks that were read
abbrev pub invariant-loop : goal.invariant-loop
invariant-loop l =
    (xs : List SavedTask) × (l.rows.items ≡ rows_of xs) × (l.stacks.items ≡ stacks_of xs)
    × (with_front xs (rolled_read (λ (s : Free). task) (λ s x. s) free (l.count - l.counter) l.reader) ≡ rolled_read (λ (s : Free). task) (λ s x. s) free l.count l.fn.reader)
