-- A source that is checked: what is due for it is determined, and comes to its end where no rule is broken.
use Rattle.std.proofs.Common.{◌≡◌, ◌≤◌, ℕ, List, [], Some, length, ap, sym, ◌∙◌, subst, inl, inr}
use Rattle.pearl_tree.specs.declared.fault.RuleFault.{RuleFault}
use Rattle.pearl_tree.specs.declared.tree.Tree.{Tree}
use Rattle.pearl_tree.specs.Modules.{Spells}
use Rattle.pearl_tree.specs.ShownModules.{shown_tree}
use Rattle.pearl_tree.proofs.Offered.{one_tree}
use Rattle.pearl_lex.proofs.Offered.{one_reading}
use Rattle.pearl_check.specs.Checks.{sizes_of}
use Rattle.pearl_check.specs.Rules.{all_broken, first}
use Rattle.pearl_script.specs.declared.refusal.Refusal.TheVariants as refusal
use Rattle.pearl_script.specs.Refusals.{refusal_line}
use Rattle.pearl_top.specs.CheckDue.{BreaksNone, BreaksSome, IsAccepted, IsUnaccepted, accepted_line}
use Rattle.pearl_top.specs.declared.limits.TheConstants.{SOURCE_LIMIT}
use Rattle.pearl_top.specs.Sources.{IsTree}
use Rattle.pearl_top.proofs.PrintLaws.{never_unspelled, unspelled_once}
use Rattle.pearl_top.specs.Reading.{ASource}
use Rattle.pearl_top.proofs.FileLaws.{IsSettled}

-- a source has one tree
pub shown_once : (source : List ℕ) (tree other : Tree) → IsTree source tree → IsTree source other → shown_tree tree ≡ shown_tree other
shown_once source tree other one two =
    let same : two.tokens ≡ one.tokens = one_reading source two.tokens one.tokens two.lexes one.lexes in
    one_tree one.tokens tree other one.spells (subst (Spells other) same two.spells)

pub accepted_once : (source bytes others : List ℕ) → IsAccepted source bytes → IsAccepted source others → bytes ≡ others
accepted_once source bytes others one two =
    one.text ∙ ap (λ tree. accepted_line (sizes_of tree)) (shown_once source one.is.tree two.is.tree one.is.is two.is.is) ∙ sym two.text

-- no rule is broken, or there is a first one
none_or_some : (fault : RuleFault) → first [] ≡ Some fault → ⊥
none_or_some fault e = cc

none_and_some : (source bytes : List ℕ) → BreaksNone source → BreaksSome source bytes → ⊥
none_and_some source bytes none some =
    none_or_some some.fault (ap first (sym none.none) ∙ ap (λ tree. first (all_broken tree)) (shown_once source none.tree some.tree none.is some.is) ∙ some.is_first)

-- a source that breaks no rule is not refused
pub never_unaccepted : (source bytes : List ℕ) → BreaksNone source → IsUnaccepted source bytes → ⊥
never_unaccepted source bytes none (inl unspelled) = never_unspelled source bytes none.tree none.is unspelled
never_unaccepted source bytes none (inr some) = none_and_some source bytes none some

one_fault : (fault other : RuleFault) → Some fault ≡ Some other → fault ≡ other
one_fault fault other e = cc

broken_once : (source bytes others : List ℕ) → BreaksSome source bytes → BreaksSome source others → bytes ≡ others
broken_once source bytes others one two =
    let same : one.fault ≡ two.fault = one_fault one.fault two.fault
    (sym one.is_first ∙ ap (λ tree. first (all_broken tree)) (shown_once source one.tree two.tree one.is two.is) ∙ two.is_first) in
    one.text ∙ ap (λ (fault : RuleFault). refusal_line (refusal.Source fault.place fault.rule)) same ∙ sym two.text

pub unaccepted_once : (source bytes others : List ℕ) → IsUnaccepted source bytes → IsUnaccepted source others → bytes ≡ others
unaccepted_once source bytes others (inl unspelled) (inl also) = unspelled_once source bytes others unspelled also
unaccepted_once source bytes others (inl unspelled) (inr some) = absurd (never_unspelled source bytes some.tree some.is unspelled)
unaccepted_once source bytes others (inr some) (inl unspelled) = absurd (never_unspelled source others some.tree some.is unspelled)
unaccepted_once source bytes others (inr some) (inr also) = broken_once source bytes others some also

pub unaccepted_within : (source bytes : List ℕ) → IsUnaccepted source bytes → length source ≤ SOURCE_LIMIT
unaccepted_within source bytes (inl unspelled) = unspelled.within
unaccepted_within source bytes (inr some) = some.is.within

-- what is due is settled by the source
pub check_settled : (source : List ℕ) → IsSettled ASource source (IsAccepted source) (IsUnaccepted source)
check_settled source = record {
  done_within = λ bytes accepted. accepted.is.is.within;
  refused_within = unaccepted_within source;
  never_both = λ bytes others accepted. never_unaccepted source others accepted.is;
  refused_once = unaccepted_once source;
}
