use Rattle.std.proofs.Common.{◌+◌, true, false, refl}
use Rattle.pearl_journal_laws.proofs.Looking.{lines_alike, means_alike, sets_first, sets_none}
use Rattle.pearl_journal_laws.proofs.journals.clocks_alone_look_back.Goals as goal

pub returns-clause-clock : goal.returns-clause-clock
returns-clause-clock c setup reading line is short within = (
  sets_first setup (record reading { is_first = true }) line is short refl within,
  sets_none setup (record reading { is_first = false }) line is short refl,
)

pub returns-clause-line : goal.returns-clause-line
returns-clause-line c setup reading line count first never =
    means_alike setup reading (record reading { lines = count; is_first = first }) line refl never

pub returns-clause-lines : goal.returns-clause-lines
returns-clause-lines c setup reading lines before first none =
    lines_alike setup reading (record reading { lines = reading.lines + before; is_first = first }) before refl refl
    lines none
