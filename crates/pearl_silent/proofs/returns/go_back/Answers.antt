use Rattle.std.proofs.Common.{◌≡◌, Some, None, Option, drop, slice_get, sym, ap, ◌∙◌, subst}
use Rattle.std.proofs.lemmas.Option.{slice_get_within}
use Rattle.pearl_value.specs.declared.cell.Cell.{Cell}
use Rattle.pearl_value.specs.declared.kind.Kind.{Kind}
use Rattle.pearl_stack.specs.Frames.{Stack, top_operands, pushed}
use Rattle.pearl_instructions.specs.Flow.{returns}
use Rattle.pearl_silent.specs.Steps.{on_top, next_of, Applies, HasNext}
use Rattle.pearl_silent.proofs.Made.{silent_does}
use Rattle.pearl_silent.proofs.Tops.{next_at, next_pushed, long_some}
use Rattle.pearl_silent.proofs.Copies.{some_of}
use Rattle.pearl_silent.proofs.CallRows.{caller_there, under_some, back_is, back_with_is, result_there}
use Rattle.pearl_silent.proofs.returns.go_back.Goals as goal

pub leave-requires : goal.leave-requires
leave-requires c =
    let old : Stack = c.args.stack.now in
    long_some old.frames (caller_there old.frames c.args.result_kind old.room c.requires.ready)

pub go_on-requires-clause-some : goal.go_on-requires-clause-some
go_on-requires-clause-some c =
    let old : Stack = c.args.stack.now in
    let next : HasNext (drop 1 old.frames) = record { some = under_some old.frames (caller_there old.frames c.args.result_kind old.room c.requires.ready); next = c.requires.next } in
    (next_at c.leave.new.self _ c.leave.ensures next).some

pub go_on-requires-clause-next : goal.go_on-requires-clause-next
go_on-requires-clause-next c =
    let old : Stack = c.args.stack.now in
    let next : HasNext (drop 1 old.frames) = record { some = under_some old.frames (caller_there old.frames c.args.result_kind old.room c.requires.ready); next = c.requires.next } in
    (next_at c.leave.new.self _ c.leave.ensures next).next

pub returns-in-None : goal.returns-in-None
returns-in-None c =
    let old : Stack = c.args.stack.now in
    let ready : Applies (on_top (λ f lower. returns None f lower) old.frames) old.room =
    subst (λ r. Applies (on_top (λ f lower. returns r f lower) old.frames) old.room) c.in-None.is c.requires.ready in
    silent_does _ old c.go_on.new.self _
    (ap (λ (r : Option Kind). on_top (λ f lower. returns r f lower) old.frames) c.in-None.is ∙ back_is old.frames old.room ready)
    (c.go_on.ensures ∙ ap (λ (s : Stack). record s { frames = next_of s.frames }) c.leave.ensures)

pub leave_with_top-requires-clause-operand : goal.leave_with_top-requires-clause-operand
leave_with_top-requires-clause-operand c =
    let old : Stack = c.args.stack.now in
    let ready : Applies (on_top (λ f lower. returns (Some c.in-Some.field-0) f lower) old.frames) old.room =
    subst (λ r. Applies (on_top (λ f lower. returns r f lower) old.frames) old.room) c.in-Some.is c.requires.ready in
    let x = result_there old.frames old.room c.in-Some.field-0 ready in
    slice_get_within (top_operands old.frames) 0 x.0 x.1

pub leave_with_top-requires-clause-below : goal.leave_with_top-requires-clause-below
leave_with_top-requires-clause-below c =
    let old : Stack = c.args.stack.now in
    under_some old.frames (caller_there old.frames c.args.result_kind old.room c.requires.ready)

pub go_on-requires-in-Some-clause-some : goal.go_on-requires-in-Some-clause-some
go_on-requires-in-Some-clause-some c =
    let old : Stack = c.args.stack.now in
    let next : HasNext (drop 1 old.frames) = record { some = under_some old.frames (caller_there old.frames c.args.result_kind old.room c.requires.ready); next = c.requires.next } in
    let left : (x : Cell) × (slice_get (top_operands old.frames) 0 ≡ Some x) × (record old { frames = pushed x (drop 1 old.frames) } ≡ c.leave_with_top.new.self) =
    some_of (slice_get (top_operands old.frames) 0) (λ x. record old { frames = pushed x (drop 1 old.frames) }) c.leave_with_top.new.self c.leave_with_top.ensures in
    (next_at c.leave_with_top.new.self _ (sym left.2) (next_pushed left.0 (drop 1 old.frames) next)).some

pub go_on-requires-in-Some-clause-next : goal.go_on-requires-in-Some-clause-next
go_on-requires-in-Some-clause-next c =
    let old : Stack = c.args.stack.now in
    let next : HasNext (drop 1 old.frames) = record { some = under_some old.frames (caller_there old.frames c.args.result_kind old.room c.requires.ready); next = c.requires.next } in
    let left : (x : Cell) × (slice_get (top_operands old.frames) 0 ≡ Some x) × (record old { frames = pushed x (drop 1 old.frames) } ≡ c.leave_with_top.new.self) =
    some_of (slice_get (top_operands old.frames) 0) (λ x. record old { frames = pushed x (drop 1 old.frames) }) c.leave_with_top.new.self c.leave_with_top.ensures in
    (next_at c.leave_with_top.new.self _ (sym left.2) (next_pushed left.0 (drop 1 old.frames) next)).next

pub returns-in-Some : goal.returns-in-Some
returns-in-Some c =
    let old : Stack = c.args.stack.now in
    let ready : Applies (on_top (λ f lower. returns (Some c.in-Some.field-0) f lower) old.frames) old.room =
    subst (λ r. Applies (on_top (λ f lower. returns r f lower) old.frames) old.room) c.in-Some.is c.requires.ready in
    let left : (x : Cell) × (slice_get (top_operands old.frames) 0 ≡ Some x) × (record old { frames = pushed x (drop 1 old.frames) } ≡ c.leave_with_top.new.self) =
    some_of (slice_get (top_operands old.frames) 0) (λ x. record old { frames = pushed x (drop 1 old.frames) }) c.leave_with_top.new.self c.leave_with_top.ensures in
    silent_does _ old c.go_on-in-Some.new.self _
    (ap (λ (r : Option Kind). on_top (λ f lower. returns r f lower) old.frames) c.in-Some.is ∙ back_with_is old.frames old.room c.in-Some.field-0 left.0 ready left.1)
    (c.go_on-in-Some.ensures ∙ ap (λ (s : Stack). record s { frames = next_of s.frames }) (sym left.2))
