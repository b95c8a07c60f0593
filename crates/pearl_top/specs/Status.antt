-- The exit status of each way in which a call ends, and the way in which it ends after a refusal.
use Rattle.std.specs.Prelude.{ℕ}
use Rattle.pearl_script.specs.declared.refusal.Refusal.{Refusal}
use Rattle.pearl_script.specs.declared.refusal.Refusal.TheVariants as refusal
use Rattle.pearl_top.specs.declared.status.Status as declared
use Rattle.pearl_top.specs.declared.status.Status.TheVariants.{Done, Usage, Refused, BadObject, BadJournal, ReadFault, WriteFault, NoMemory, TooLong, BadName}

abbrev pub code_of : declared.Status → ℕ
code_of Done = 0
code_of Usage = 1
code_of Refused = 2
code_of BadObject = 3
code_of BadJournal = 4
code_of ReadFault = 5
code_of WriteFault = 6
code_of NoMemory = 7
code_of TooLong = 8
code_of BadName = 9

abbrev pub status_of : Refusal → declared.Status
status_of refusal.Usage = Usage
status_of (refusal.Syntax place) = Refused
status_of (refusal.Source place rule) = Refused
status_of (refusal.Object place) = BadObject
status_of (refusal.Unsound routine instruction rule) = BadObject
status_of (refusal.Snapshot place) = BadObject
status_of (refusal.State rule) = BadObject
status_of (refusal.Journal line code) = BadJournal
status_of refusal.Read = ReadFault
status_of refusal.Memory = NoMemory
status_of (refusal.TooLong count) = TooLong
status_of (refusal.Name number) = BadName
