-- What a kernel keeps true of its fields, and what one step of a task asks of them.
use Rattle.std.specs.Prelude.{◌≡◌, ℕ, ◌<◌, ◌≤◌, [], length}
use Rattle.pearl_rules.specs.declared.setup.Setup.{Setup}
use Rattle.pearl_kernel.specs.Kept.{Kept, IsLawful}
use Rattle.pearl_kernel.specs.Names.{NamesAll}
use Rattle.pearl_kernel.specs.Eligible.{Stand, IsStandOf}
use Rattle.pearl_kernel.specs.Timing.{IsTimely}

-- It is the kernel of some tables and has at most 200 tasks, and what is kept of the tasks is so.
pub record IsWhole (k : Kept) (s : Stand) : Type 0 where
  pub few : length k.core.tasks ≤ 200
  pub lawful : (setup : Setup) × IsLawful setup k
  pub stand : IsStandOf k s

-- something is kept of each task, of which there are at most 200, and what they offer names what is there
pub record IsOfTasks (k : Kept) (s : Stand) : Type 0 where
  pub few : length k.core.tasks ≤ 200
  pub size : length s.able ≡ length k.core.tasks
  pub same : length k.offers ≡ length k.core.tasks
  pub names : NamesAll k

-- the task is there, each task has its place for an offer, no moment is too far, and there is room for the events of all tasks
pub record HasRoom (k : Kept) (t : ℕ) : Type 0 where
  pub there : t < length k.core.tasks
  pub few : length k.core.tasks ≤ 200
  pub same : length k.offers ≡ length k.core.tasks
  pub timely : IsTimely k.core
  pub room : k.core.told ≡ []
