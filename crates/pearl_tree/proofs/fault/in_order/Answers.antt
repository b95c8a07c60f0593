use Rattle.std.proofs.lemmas.List.Filters.{dedup_is}
use Rattle.std.proofs.lemmas.List.Kept.{Contains-dedup, Contains-from_dedup, IsStrictlySortedBy-dedup}
use Rattle.std.proofs.lemmas.List.Sorted.{Contains-permutation, IsPermutation-sym}
use Rattle.pearl_tree.proofs.FaultOrder.{total, ties, rising, same_equiv, same_fault}
use Rattle.pearl_tree.proofs.fault.in_order.Goals as goal

pub returns : goal.returns
returns c =
    let is = dedup_is _ _ _ c.dedup.ensures.filtered in
    let moved = c.sort_unstable.ensures.permutation in
    record {
      rising = rw is (rising _ (IsStrictlySortedBy-dedup total ties _ c.sort_unstable.ensures.sorted));
      exact = λ fault. (
        λ h. Contains-permutation _ _ fault (IsPermutation-sym _ _ moved) (Contains-from_dedup _ _ fault (rw is at h)),
        λ h. rw is (Contains-dedup same_equiv same_fault _ fault (Contains-permutation _ _ fault moved h)),
      );
    }
