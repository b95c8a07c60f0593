-- What is due for a source that is checked: its tokens, its grammar and its static rules are asked.
use Rattle.std.specs.Prelude.{◌≡◌, ℕ, ◌⊎◌, List, [], ◌++◌, Some, codes}
use Rattle.std.specs.Fmt.{decimal}
use Rattle.pearl_tree.specs.declared.fault.RuleFault.{RuleFault}
use Rattle.pearl_tree.specs.declared.tree.Tree.{Tree}
use Rattle.pearl_tree.specs.ShownModules.{shown_tree}
use Rattle.pearl_check.specs.declared.sizes.Sizes.{Sizes}
use Rattle.pearl_check.specs.Checks.{sizes_of}
use Rattle.pearl_check.specs.Rules.{all_broken, first}
use Rattle.pearl_script.specs.declared.refusal.Refusal.TheVariants as refusal
use Rattle.pearl_script.specs.Refusals.{refusal_line}
use Rattle.pearl_top.specs.declared.status.Status.{Status}
use Rattle.pearl_top.specs.Reading.{DueAtSource}
use Rattle.pearl_top.specs.Sources.{IsTree, IsUnspelled}

-- the line of a module that breaks no rule: how many tasks, procedures and slots it has
abbrev pub accepted_line : Sizes → List ℕ
accepted_line sizes =
    codes "accepted " ++ decimal sizes.tasks ++ codes " " ++ decimal sizes.procedures ++ codes " " ++ decimal sizes.slots ++ codes "\n"

-- these bytes, within the limit, are spelled by a tree that breaks no rule
pub record BreaksNone (source : List ℕ) : Type 0 where
  pub tree : Tree
  pub is : IsTree source tree
  pub none : all_broken (shown_tree tree) ≡ []

-- and this is the line of its sizes
pub record IsAccepted (source bytes : List ℕ) : Type 0 where
  pub is : BreaksNone source
  pub text : bytes ≡ accepted_line (sizes_of (shown_tree is.tree))

-- these bytes, within the limit, are spelled by a tree that breaks a rule, and this is the line of the first one
pub record BreaksSome (source bytes : List ℕ) : Type 0 where
  pub tree : Tree
  pub is : IsTree source tree
  pub fault : RuleFault
  pub is_first : first (all_broken (shown_tree tree)) ≡ Some fault
  pub text : bytes ≡ refusal_line (refusal.Source fault.place fault.rule)

-- these bytes have no tokens, or no tree spells them, or it breaks a rule
abbrev pub IsUnaccepted : List ℕ → List ℕ → Type 0
IsUnaccepted source bytes = IsUnspelled source bytes ⊎ BreaksSome source bytes

-- what is due at a source that is checked: the line of its sizes, or a refusal
abbrev pub CheckDue : List ℕ → Type 0 → Status → List ℕ → Type 0
CheckDue source = DueAtSource source (IsAccepted source) (IsUnaccepted source)
