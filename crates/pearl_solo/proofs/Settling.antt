-- A run of silent rows ends where an action is offered.
use Rattle.std.proofs.Common.{◌≡◌, ℕ, zero, suc, ◌<◌, List, arith}
use Rattle.pearl_rules.specs.declared.action.Action.{Action}
use Rattle.pearl_rules.specs.declared.action.Answer.{Answer}
use Rattle.pearl_stack.specs.Frames.{Frame}
use Rattle.pearl_instructions.specs.declared.object.Parts.{Parts as Object}
use Rattle.pearl_instructions.specs.Rows.{row}
use Rattle.pearl_instructions.specs.Stacks.{OffersWithin}
use Rattle.pearl_instructions.specs.Steps.{Silent, Offers}
use Rattle.pearl_silent.specs.Settling.{Silently}
use Rattle.pearl_silent.proofs.Offered.{Run, rows_left, falls, within_all, left_no_more}
use Rattle.pearl_solo.specs.Settling.{Settles}

some_left : (o : Object) (n : ℕ) (now : List Frame) → OffersWithin o n now → 0 < n
some_left o zero now h = absurd h
some_left o (suc n) now h = omega arith

pub run_ends : (o : Object) (first now : List Frame) (action : Action) (go : Answer → List Frame) → Run o first now → row o now ≡ Offers action go → Settles o first now action
run_ends o first now action go r e =
    let some = some_left o r.left now r.within in
    record { rows = r.done; silent = r.silent; go = go; offers = e; few = omega (arith, some, r.sum) }

-- fewer rows are left after silent rows and one more
pub falls_behind : (o : Object) (m n : ℕ) (frames now last : List Frame) → OffersWithin o m frames → Silently o n frames now → row o now ≡ Silent last →
    rows_left o m last < rows_left o m frames
falls_behind o m n frames now last within s e =
    let fewer = left_no_more o m frames now n within s in
    let less = falls o m now last (within_all o m frames now n within s) e in
    omega (arith, fewer, less)
