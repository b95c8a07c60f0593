-- What is told of a fault of the calls below, and what is due where a command fails before anything was written.
use Rattle.std.specs.Prelude.{ℕ, List}
use Rattle.pearl_lex.specs.declared.fault.LexFault.{LexFault}
use Rattle.pearl_lex.specs.declared.fault.LexFault.TheVariants as lex
use Rattle.pearl_parse_expr.specs.declared.fault.ParseFault.{ParseFault}
use Rattle.pearl_parse_expr.specs.declared.fault.ParseFault.TheVariants as parse
use Rattle.pearl_check.specs.declared.fault.CheckFault.{CheckFault}
use Rattle.pearl_check.specs.declared.fault.CheckFault.TheVariants as check
use Rattle.pearl_object.specs.declared.fault.ReadFail.{ReadFail}
use Rattle.pearl_object.specs.declared.fault.ReadFail.TheVariants as read
use Rattle.pearl_verify.specs.declared.verify.VerifyFault.{VerifyFault}
use Rattle.pearl_verify.specs.declared.verify.VerifyFault.TheVariants as verify
use Rattle.pearl_watch.specs.declared.fault.WatchFault.{WatchFault}
use Rattle.pearl_watch.specs.declared.fault.WatchFault.TheVariants as watch
use Rattle.pearl_snap.specs.declared.fault.SnapFault.{SnapFault}
use Rattle.pearl_snap.specs.declared.fault.SnapFault.TheVariants as snap
use Rattle.pearl_snap.specs.Numbers.{number}
use Rattle.pearl_script.specs.declared.refusal.Refusal.{Refusal}
use Rattle.pearl_script.specs.declared.refusal.Refusal.TheVariants.{Syntax, Source, Object, Unsound, Snapshot, State, Memory, Name}
use Rattle.pearl_script.specs.Refusals.{refusal_line}
use Rattle.pearl_top.specs.declared.failure.Failure.{Failure}
use Rattle.pearl_top.specs.declared.failure.Failure.TheVariants.{Refused, WriteFault}
use Rattle.pearl_top.specs.declared.status.Status.{Status}
use Rattle.pearl_top.specs.Status.{status_of}

-- of bytes that have no tokens
abbrev pub lex_refusal : LexFault → Refusal
lex_refusal (lex.Refused place) = Syntax place
lex_refusal lex.NoMemory = Memory

-- of tokens that have no tree
abbrev pub parse_refusal : ParseFault → Refusal
parse_refusal (parse.Refused place) = Syntax place
parse_refusal parse.NoMemory = Memory

-- of a tree that breaks a rule
abbrev pub check_refusal : CheckFault → Refusal
check_refusal (check.Refused fault) = Source fault.place fault.rule
check_refusal check.NoMemory = Memory

-- of bytes that are no object's
abbrev pub read_refusal : ReadFail → Refusal
read_refusal (read.BadObject place) = Object place
read_refusal read.NoMemory = Memory

-- of an object in which a rule of the validator fails
abbrev pub verify_refusal : VerifyFault → Refusal
verify_refusal (verify.Unsound routine instruction rule) = Unsound routine instruction rule
verify_refusal verify.NoMemory = Memory

-- of names of which one can't be watched
abbrev pub watch_refusal : WatchFault → Refusal
watch_refusal (watch.BadName number) = Name number
watch_refusal watch.NoMemory = Memory

-- of bytes from which no run goes on
abbrev pub snap_refusal : SnapFault → Refusal
snap_refusal (snap.BadBytes place) = Snapshot place
snap_refusal (snap.BadState rule) = State (number rule)
snap_refusal snap.NoMemory = Memory

-- the failure is a refusal, whose line alone is due with its status
abbrev pub IsDue : (Status → List ℕ → Type 0) → Failure → Type 0
IsDue due (Refused refusal) = due (status_of refusal) (refusal_line refusal)
IsDue due WriteFault = ⊥
