use Rattle.std.proofs.Common.{◌≡◌, Ok, ap, ◌∙◌, arith}
use Rattle.std.proofs.lemmas.Int.{ints}
use Rattle.pearl_value.specs.declared.cell.Cell.TheVariants.{Fixed}
use Rattle.pearl_stack.specs.Frames.{Stack, pushed, without}
use Rattle.pearl_silent.specs.Steps.{next_of, made_on}
use Rattle.pearl_silent.proofs.Tops.{next_at, next_pushed, next_without, without_some}
use Rattle.pearl_silent.proofs.Made.{silent_does, made_room, made_silent}
use Rattle.pearl_silent.proofs.outcomes.leave_fixed.Goals as goal

pub push_fixed-requires-clause-some : goal.push_fixed-requires-clause-some
push_fixed-requires-clause-some c = rw c.drop_top.ensures (without_some c.args.taken c.args.stack.now.frames c.requires.next.some)

pub push_fixed-requires-clause-room : goal.push_fixed-requires-clause-room
push_fixed-requires-clause-room c = rw c.drop_top.ensures (made_room c.args.stack.now.frames c.args.taken c.args.stack.now.room (Fixed c.args.len c.args.value) c.requires.ready)

pub go_on-requires-clause-some : goal.go_on-requires-clause-some
go_on-requires-clause-some c =
    let old : Stack = c.args.stack.now in
    let e : c.push_fixed.new.self ≡ record old { frames = pushed (Fixed c.args.len c.args.value) (without c.args.taken old.frames) } =
    c.push_fixed.ensures ∙ (ap (λ v. record c.drop_top.new.self { frames = pushed (Fixed c.args.len v) c.drop_top.new.self.frames }) (omega (arith, ints)) ∙ ap (λ (s : Stack). record s { frames = pushed (Fixed c.args.len c.args.value) s.frames }) c.drop_top.ensures) in
    (next_at c.push_fixed.new.self _ e (next_pushed (Fixed c.args.len c.args.value) (without c.args.taken old.frames) (next_without c.args.taken old.frames c.requires.next))).some

pub go_on-requires-clause-next : goal.go_on-requires-clause-next
go_on-requires-clause-next c =
    let old : Stack = c.args.stack.now in
    let e : c.push_fixed.new.self ≡ record old { frames = pushed (Fixed c.args.len c.args.value) (without c.args.taken old.frames) } =
    c.push_fixed.ensures ∙ (ap (λ v. record c.drop_top.new.self { frames = pushed (Fixed c.args.len v) c.drop_top.new.self.frames }) (omega (arith, ints)) ∙ ap (λ (s : Stack). record s { frames = pushed (Fixed c.args.len c.args.value) s.frames }) c.drop_top.ensures) in
    (next_at c.push_fixed.new.self _ e (next_pushed (Fixed c.args.len c.args.value) (without c.args.taken old.frames) (next_without c.args.taken old.frames c.requires.next))).next

pub returns : goal.returns
returns c =
    let old : Stack = c.args.stack.now in
    let e : c.push_fixed.new.self ≡ record old { frames = pushed (Fixed c.args.len c.args.value) (without c.args.taken old.frames) } =
    c.push_fixed.ensures ∙ (ap (λ v. record c.drop_top.new.self { frames = pushed (Fixed c.args.len v) c.drop_top.new.self.frames }) (omega (arith, ints)) ∙ ap (λ (s : Stack). record s { frames = pushed (Fixed c.args.len c.args.value) s.frames }) c.drop_top.ensures) in
    silent_does (made_on c.args.taken (Ok (Fixed c.args.len c.args.value)) old.frames) old c.go_on.new.self _ (made_silent old.frames c.args.taken (Fixed c.args.len c.args.value) c.requires.next.some)
    (c.go_on.ensures ∙ ap (λ (s : Stack). record s { frames = next_of s.frames }) e)
