-- What holds of lines, for those who write them one by one.
use Rattle.std.proofs.Common.{◌≡◌, ℕ, ◌<◌, List, [], ◌∷◌, ◌++◌, length, codes, ap, ◌∙◌, arith, length-append}
use Rattle.std.proofs.lemmas.List.{append-nil}
use Rattle.std.proofs.lemmas.Grind.{flat_map-append}
use Rattle.pearl_rules.specs.declared.event.Event.{Event}
use Rattle.pearl_rules.specs.declared.event.Event.TheVariants.{Start, End, Stop, Trap, Kept, Overrun, Masked, Lost, Out, Send}
use Rattle.pearl_rules.specs.declared.event.Shown.{Shown}
use Rattle.pearl_rules.specs.declared.event.Shown.TheVariants.{Dormant, Suspended, Blocked, Running, Runnable}
use Rattle.pearl_rules.specs.declared.setup.Setup.{Setup}
use Rattle.pearl_rules.specs.Core.{Report, Happened, Shows}
use Rattle.pearl_script.specs.declared.refusal.Refusal.{Refusal}
use Rattle.pearl_script.specs.declared.refusal.Refusal.TheVariants.{Usage, Syntax, Source, Object, Unsound, Snapshot, State, Journal, Read, Memory, TooLong, Name}
use Rattle.pearl_script.specs.Words.{task_name}
use Rattle.pearl_script.specs.Lines.{event_line, state_line, close_line, report_line, lines_of}
use Rattle.pearl_script.specs.Refusals.{refusal_line}

pub lines_of-append : (setup : Setup) (before after : List (ℕ × Report)) → lines_of setup (before ++ after) ≡ lines_of setup before ++ lines_of setup after
lines_of-append setup before after = flat_map-append (report_line setup) before after

-- one more thing is told
pub lines_of-next : (setup : Setup) (before : List (ℕ × Report)) (report : ℕ × Report) → lines_of setup (before ++ report ∷ []) ≡ lines_of setup before ++ report_line setup report
lines_of-next setup before report =
    lines_of-append setup before (report ∷ []) ∙ ap (λ (line : List ℕ). lines_of setup before ++ line) (append-nil (report_line setup report))

-- what ends with something is not empty
ended_nonempty : (front end : List ℕ) → 0 < length end → 0 < length (front ++ end)
ended_nonempty front end some = omega (arith, length-append front end)

pub event_line_nonempty : (moment : ℕ) (event : Event) (setup : Setup) → 0 < length (event_line moment event setup)
event_line_nonempty moment (Start task priority) setup = ended_nonempty _ (codes "\n") (omega arith)
event_line_nonempty moment (End task) setup = ended_nonempty _ (codes "\n") (omega arith)
event_line_nonempty moment (Stop task) setup = ended_nonempty _ (codes "\n") (omega arith)
event_line_nonempty moment (Trap task trap) setup = ended_nonempty _ (codes "\n") (omega arith)
event_line_nonempty moment (Kept task number) setup = ended_nonempty _ (codes "\n") (omega arith)
event_line_nonempty moment (Overrun task) setup = ended_nonempty _ (codes "\n") (omega arith)
event_line_nonempty moment (Masked device) setup = ended_nonempty _ (codes "\n") (omega arith)
event_line_nonempty moment (Lost device) setup = ended_nonempty _ (codes "\n") (omega arith)
event_line_nonempty moment (Out device text) setup = ended_nonempty _ (codes "'\n") (omega arith)
event_line_nonempty moment (Send device value) setup = ended_nonempty _ (codes "\n") (omega arith)

pub state_line_nonempty : (moment : ℕ) (name : List ℕ) (shown : Shown) → 0 < length (state_line moment name shown)
state_line_nonempty moment name Dormant = ended_nonempty _ (codes " dormant\n") (omega arith)
state_line_nonempty moment name (Suspended priority) = ended_nonempty _ (codes "\n") (omega arith)
state_line_nonempty moment name (Blocked priority) = ended_nonempty _ (codes "\n") (omega arith)
state_line_nonempty moment name (Running priority) = ended_nonempty _ (codes "\n") (omega arith)
state_line_nonempty moment name (Runnable priority) = ended_nonempty _ (codes "\n") (omega arith)

pub report_line_nonempty : (setup : Setup) (report : ℕ × Report) → 0 < length (report_line setup report)
report_line_nonempty setup (moment, Happened event) = event_line_nonempty moment event setup
report_line_nonempty setup (moment, Shows task shown) = state_line_nonempty moment (task_name setup task) shown

pub close_line_nonempty : (moment : ℕ) → 0 < length (close_line moment)
close_line_nonempty moment = ended_nonempty _ (codes " close\n") (omega arith)

pub refusal_line_nonempty : (refusal : Refusal) → 0 < length (refusal_line refusal)
refusal_line_nonempty Usage = omega arith
refusal_line_nonempty (Syntax place) = omega arith
refusal_line_nonempty (Source place rule) = omega arith
refusal_line_nonempty (Object place) = omega arith
refusal_line_nonempty (Unsound routine instruction rule) = omega arith
refusal_line_nonempty (Snapshot place) = omega arith
refusal_line_nonempty (State rule) = omega arith
refusal_line_nonempty (Journal line code) = omega arith
refusal_line_nonempty Read = omega arith
refusal_line_nonempty Memory = omega arith
refusal_line_nonempty (TooLong count) = omega arith
refusal_line_nonempty (Name number) = omega arith
