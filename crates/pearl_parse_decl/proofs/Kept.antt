-- On which tokens parts depend: those before their end alone.
use Rattle.std.proofs.Common.{ℕ, ◌+◌, ◌≤◌, List, ◌∙◌, arith}
use Rattle.pearl_tree.specs.declared.tree.TaskHead.TheVariants.{PrioFirst, MainFirst}
use Rattle.pearl_tree.specs.declared.limit.TheConstants as limit
use Rattle.pearl_tree.specs.declared.token.Token.{Token}
use Rattle.pearl_tree.specs.declared.word_code.TheConstants as w
use Rattle.pearl_tree.specs.Standing.{Spelling}
use Rattle.pearl_tree.specs.Expressions.{SpellsWhole}
use Rattle.pearl_tree.specs.Types.{SpellsWholeTyping}
use Rattle.pearl_tree.specs.Declarations.{SpellsDevice, SpellsItem, SpellsDeclared, SpellsSpec, SpellsParam, SpellsPrio}
use Rattle.pearl_tree.specs.Modules.{SpellsTaskHead, SpellsReturns}
use Rattle.pearl_parse_expr.proofs.Offered as local
pub use Rattle.pearl_parse_expr.proofs.Offered.{Keeps, Kept, local_of, after_of, each_keeps, some_keeps, more_keeps}
pub use Rattle.pearl_parse_expr.proofs.Offered.{list_keeps, each_long, more_long, list_long}
use Rattle.pearl_grammar.proofs.Offered as fact
use Rattle.pearl_grammar.proofs.Offered.{expr_keeps, whole_typing, item, declared}
pub use Rattle.pearl_grammar.proofs.Offered.{flag_keeps, symbol_flag_keeps, maybe_keeps, maybe_bracketed_keeps}
pub use Rattle.pearl_grammar.proofs.Offered.{maybe_bracketed_long, name_keeps, own_ref_keeps, fmt_keeps}
use Rattle.pearl_parse_decl.specs.Readings.{IsSelfContained}

pub contained_of : {X : Type 0} (n : ℕ) (spells : List Token → Spelling X) → 1 ≤ n → Kept n spells →
    IsSelfContained spells
contained_of n spells few kept tokens others k alike from x to h near =
    let part = kept tokens others k alike from x to h near in
    (omega (arith, part.0), part.1)

pub whole_keeps : Kept 1 SpellsWhole
whole_keeps tokens others k alike = expr_keeps limit.BRACKETS_MAX tokens others k alike

-- ---- by their rules

pub whole_typing_keeps : Kept 1 SpellsWholeTyping
whole_typing_keeps = whole_typing.kept

pub device_keeps : Kept 7 SpellsDevice
device_keeps = fact.device.kept

pub item_keeps : Kept 2 SpellsItem
item_keeps = item.kept

pub declared_keeps : Kept 2 SpellsDeclared
declared_keeps = declared.kept

pub spec_keeps : Kept 2 SpellsSpec
spec_keeps = fact.spec.kept

pub param_keeps : Kept 2 SpellsParam
param_keeps = fact.param.kept

pub prio_keeps : Kept 2 SpellsPrio
prio_keeps = fact.prio.kept

pub returns_keep : Kept 4 SpellsReturns
returns_keep = fact.returns.kept

-- ---- without one

pub task_head_keeps : Kept 0 SpellsTaskHead
task_head_keeps tokens others k alike from (PrioFirst prio main) to h near =
    let flag = flag_keeps tokens others k alike w.MAIN h.0 main to h.2 near in
    let first = maybe_keeps tokens others k alike 2 SpellsPrio (prio_keeps tokens others k alike) from prio h.0 h.1
    (omega (arith, flag.0)) in
    (omega (arith, flag.0, first.0), (h.0, first.1, flag.1))
task_head_keeps tokens others k alike from (MainFirst prio) to h near =
    let last = prio_keeps tokens others k alike (from + 1) prio to h.1 near in
    (omega (arith, last.0), (local.what tokens others k alike from (omega (arith, last.0)) ∙ h.0, last.1))
