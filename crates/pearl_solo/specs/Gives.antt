-- What an instruction did, with the action that lies beside it.
use Rattle.pearl_rules.specs.declared.action.Action.{Action}
use Rattle.pearl_silent.specs.Steps.{Stepped, GoesOn, Halts}
use Rattle.pearl_solo.specs.declared.stepped.Gave.{Gave}
use Rattle.pearl_solo.specs.declared.stepped.Gave.TheVariants.{Silent, Offered}

abbrev pub gave : Gave → Action → Stepped
gave Silent action = GoesOn
gave Offered action = Halts action
