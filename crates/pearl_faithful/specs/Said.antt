-- What an action says, apart from the number that a format has.
use Rattle.std.specs.Prelude.{ℕ, List, [], Option, option_map}
use Rattle.pearl_value.specs.declared.kind.Kind.{Kind}
use Rattle.pearl_format.specs.declared.item.Item.{Item}
use Rattle.pearl_rules.specs.declared.action.Action.{Action}
use Rattle.pearl_rules.specs.declared.action.Action.TheVariants.{Get}
use Rattle.pearl_rules.specs.Core.{Core}
use Rattle.pearl_rules.specs.Devices.{items_of}
use Rattle.pearl_rules.specs.Pick.{Offered}

-- GET with the items of its format, and any other action as it is
pub data Said : Type 0 where
  Gets : (device : ℕ) (items : List Item) (kinds : List Kind) → Said
  Does : (action : Action) → Said

abbrev pub said : Core → Action → Said
said core (Get device format kinds) = Gets device (items_of core format) kinds.items
said core action = Does action

-- what each task offers to do next, so said
abbrev pub all_said : Core → Offered → ℕ → Option Said
all_said core offers t = option_map (said core) (offers t)

-- a core, whichever formats there are
abbrev pub without_formats : Core → Core
without_formats core = record core { formats = [] }
