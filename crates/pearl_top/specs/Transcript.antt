-- What a run over the entries of a journal writes, by how it ends.
use Rattle.std.specs.Prelude.{◌≡◌, ℕ, List, ◌++◌}
use Rattle.pearl_rules.specs.declared.setup.Setup.{Setup}
use Rattle.pearl_rules.specs.Core.{Core, Report}
use Rattle.pearl_rules.specs.Pick.{Offered, states}
use Rattle.pearl_script.specs.declared.refusal.Refusal.{Refusal}
use Rattle.pearl_script.specs.Lines.{lines_of, close_line}
use Rattle.pearl_script.specs.Refusals.{refusal_line}

-- how a run ends: what was told, how each task stands, and the moment
pub record Ended : Type 0 where
  pub told : List (ℕ × Report)
  pub stand : List (ℕ × Report)
  pub moment : ℕ

abbrev pub ended_of : Core → Offered → Ended
ended_of core offers = record { told = core.told; stand = states core offers; moment = core.moment }

-- how what is written ends: by the tasks' states and the closing line, or by the line of a refusal
pub data Close : Type 0 where
  Closed : Close
  Cut : (refusal : Refusal) → Close

abbrev pub closing : Setup → Ended → Close → List ℕ
closing setup end Closed = lines_of setup end.stand ++ close_line end.moment
closing setup end (Cut refusal) = refusal_line refusal

-- the lines of all that is told up to the end of a run that ends in such a way, and what closes them
pub record IsTranscript (setup : Setup) (EndsSo : Ended → Type 0) (close : Close) (bytes : List ℕ) : Type 0 where
  pub end : Ended
  pub ends : EndsSo end
  pub text : bytes ≡ lines_of setup end.told ++ closing setup end close
