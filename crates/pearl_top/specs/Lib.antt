-- which program a module means
pub mod Programs
-- that the program of a module is sound
pub mod SoundPrograms
-- the exit status of each way in which a call ends
pub mod Status
-- which words are a command
pub mod Commands
-- what is told of a fault of the calls below, and what is due where a command fails at once
pub mod Failures
-- what a sink took in a call, measured against what was due
pub mod Taken
-- what a run over the entries of a journal writes, by how it ends
pub mod Transcript
-- what runs over the entries of a journal, and what it writes
pub mod Runners
-- what goes over the entries of a journal, and which laws it keeps
pub mod Going
-- how what goes over a journal does so
pub mod Replay
-- what is due at and after a journal, for whatever runs over it
pub mod JournalDue
-- what is due at a file that is read whole, and what a file of an untold shelf may have
pub mod Reading
-- the way of a source from its bytes to the module that is asked
pub mod Sources
-- what is due for a source that is printed
pub mod PrintDue
-- what is due for a source that is checked
pub mod CheckDue
-- what is due for a source that is run over a journal
pub mod RunDue
-- what is due for a source that is compiled
pub mod CompileDue
-- what is due for an object that is executed or listed
pub mod ObjectDue
-- what is due for an object of which some leaves are watched
pub mod WatchDue
-- what is due for an object of which a run is saved
pub mod SaveDue
-- where a machine stands behind a journal, and when bytes are its snapshot
pub mod Saving
-- what is due for a snapshot from which a run goes on
pub mod ResumeDue
-- what is due for the workload of a number
pub mod BenchDue
-- which status and which bytes belong to some words and files
pub mod Outcome
-- which words and files bring a command to its end
pub mod Complete
-- the definitions determine the answer, what was compiled runs as its source does, printing a printed text changes nothing
pub mod Laws
-- when a machine is ready to run from its start
pub mod Ready
-- a machine and a monitor, as what goes over a journal
pub mod Followers
-- a machine that goes on from a saved state, as what goes over a journal
pub mod Resumed
-- when a run that was saved goes on as if it had not been stopped
pub mod SavedRuns
