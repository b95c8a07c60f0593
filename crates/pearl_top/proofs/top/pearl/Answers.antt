use Rattle.std.proofs.Common.{List, ℕ}
use Rattle.std.specs.Prelude.{map, string_bytes}
use Rattle.pearl_io.specs.Outside.{CountRose, WriteFailed, content}
use Rattle.pearl_top.specs.Commands.{command_of}
use Rattle.pearl_top.specs.Outcome.{DueFor}
use Rattle.pearl_top.proofs.Completeness.{completes}
use Rattle.pearl_top.proofs.TakenLaws.{concluded}
use Rattle.pearl_top.proofs.WordLaws.{bad_object, due_told, just_usage, only_usage, read_rose, settles, usage_only}
use Rattle.pearl_top.proofs.top.pearl.Goals as goal

pub returns-clause-due : goal.returns-clause-due
returns-clause-due g c =
    let command = command_of (map string_bytes c.args.words.now) in
    let rose : List ℕ → Type 0 = λ name. CountRose (g.S.Shelf.faults c.args.shelf.now name) (g.S.Shelf.faults c.carry_out-ended.new.shelf name) in
    let failed : Type 0 = WriteFailed (g.K.Sink.faults c.args.sink.now) (g.K.Sink.faults c.carry_out-ended.new.sink) (g.K.Sink.full c.carry_out-ended.new.sink) in
    let left = c.carry_out-ended.ensures.ends in (
      left.0,
      left.1,
      concluded (g.K.Sink.taken c.args.sink.now) (g.K.Sink.taken c.carry_out-ended.new.sink) (g.K.Sink.taken c.conclude.new.sink) failed
          (DueFor command left.0 rose) c.carry_out-ended.result c.conclude.result left.2 c.conclude.ensures.ends,
    )

pub returns-clause-ends : goal.returns-clause-ends
returns-clause-ends g c files holds =
    let command = command_of (map string_bytes c.args.words.now) in
    let rose : List ℕ → Type 0 = λ name. CountRose (g.S.Shelf.faults c.args.shelf.now name) (g.S.Shelf.faults c.carry_out-ended.new.shelf name) in
    let due = returns-clause-due g c in
    due_told command (g.S.Shelf.holds c.args.shelf.now) files due.0 rose (g.K.Sink.taken c.args.sink.now) (g.K.Sink.taken c.conclude.new.sink) c.conclude.result holds due.1 due.2

pub returns-clause-outcome : goal.returns-clause-outcome
returns-clause-outcome g c files holds no_memory no_read no_write =
    let command = command_of (map string_bytes c.args.words.now) in
    let rose : List ℕ → Type 0 = λ name. CountRose (g.S.Shelf.faults c.args.shelf.now name) (g.S.Shelf.faults c.carry_out-ended.new.shelf name) in
    let due = returns-clause-due g c in
    settles command (content files) rose (g.K.Sink.taken c.args.sink.now) (g.K.Sink.taken c.conclude.new.sink) c.conclude.result
    (due_told command (g.S.Shelf.holds c.args.shelf.now) files due.0 rose (g.K.Sink.taken c.args.sink.now) (g.K.Sink.taken c.conclude.new.sink) c.conclude.result holds due.1 due.2) no_memory no_read no_write

pub returns-clause-complete : goal.returns-clause-complete
returns-clause-complete g c files holds order no_memory no_read no_write =
    let command = command_of (map string_bytes c.args.words.now) in
    let rose : List ℕ → Type 0 = λ name. CountRose (g.S.Shelf.faults c.args.shelf.now name) (g.S.Shelf.faults c.carry_out-ended.new.shelf name) in
    let due = returns-clause-due g c in
    completes c.snapshots_are_read_as_they_are_spelled.ensures.lawful command (content files) rose (g.K.Sink.taken c.args.sink.now) (g.K.Sink.taken c.conclude.new.sink) c.conclude.result
    (due_told command (g.S.Shelf.holds c.args.shelf.now) files due.0 rose (g.K.Sink.taken c.args.sink.now) (g.K.Sink.taken c.conclude.new.sink) c.conclude.result holds due.1 due.2) order no_memory no_read no_write

pub returns-clause-usage : goal.returns-clause-usage
returns-clause-usage g c is =
    let command = command_of (map string_bytes c.args.words.now) in
    let rose : List ℕ → Type 0 = λ name. CountRose (g.S.Shelf.faults c.args.shelf.now name) (g.S.Shelf.faults c.carry_out-ended.new.shelf name) in
    let due = returns-clause-due g c in
    usage_only command due.0 rose (g.K.Sink.taken c.args.sink.now) (g.K.Sink.taken c.conclude.new.sink) c.conclude.result is due.2

pub returns-clause-no_line : goal.returns-clause-no_line
returns-clause-no_line g c none =
    let command = command_of (map string_bytes c.args.words.now) in
    let rose : List ℕ → Type 0 = λ name. CountRose (g.S.Shelf.faults c.args.shelf.now name) (g.S.Shelf.faults c.carry_out-ended.new.shelf name) in
    let due = returns-clause-due g c in
    only_usage command due.0 rose (g.K.Sink.taken c.args.sink.now) (g.K.Sink.taken c.conclude.new.sink) c.conclude.result none due.2

pub returns-clause-no_command : goal.returns-clause-no_command
returns-clause-no_command g c none = just_usage (g.K.Sink.taken c.args.sink.now) (g.K.Sink.taken c.conclude.new.sink) _ c.conclude.result (returns-clause-no_line g c none)

pub returns-clause-object : goal.returns-clause-object
returns-clause-object g c is =
    let command = command_of (map string_bytes c.args.words.now) in
    let rose : List ℕ → Type 0 = λ name. CountRose (g.S.Shelf.faults c.args.shelf.now name) (g.S.Shelf.faults c.carry_out-ended.new.shelf name) in
    let due = returns-clause-due g c in
    bad_object command due.0 rose (g.K.Sink.taken c.args.sink.now) (g.K.Sink.taken c.conclude.new.sink) c.conclude.result is due.2

pub returns-clause-read : goal.returns-clause-read
returns-clause-read g c is =
    let command = command_of (map string_bytes c.args.words.now) in
    let rose : List ℕ → Type 0 = λ name. CountRose (g.S.Shelf.faults c.args.shelf.now name) (g.S.Shelf.faults c.carry_out-ended.new.shelf name) in
    let due = returns-clause-due g c in
    read_rose command due.0 rose (g.K.Sink.taken c.args.sink.now) (g.K.Sink.taken c.conclude.new.sink) c.conclude.result due.2 is
