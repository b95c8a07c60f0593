use Rattle.std.proofs.Common.{◌≡◌, ◌≤◌, ◌∷◌, [], ◌++◌, List, true, false, length, leb, sym, ap, subst, ◌∙◌, rules}
use Rattle.std.proofs.lemmas.List.Sorted.{IsPartitionPoint-from_clause, IsPartitionedBy-leb}
use Rattle.std.specs.List.{AllWithin}
use Rattle.std.specs.List.Sorted.{IsNonDecreasingBy}
use Rattle.pearl_names.specs.declared.length.Step.{Step}
use Rattle.pearl_names.proofs.Steps.{is_at, still_rising, still_tells}
use Rattle.pearl_names.proofs.length.add_step.Goals as goal

pub returns-clause-rising : goal.returns-clause-rising
returns-clause-rising c =
    let old = c.args.steps.now.items in
    let slice = c.as_slice.result.now in
    let same = c.as_slice.ensures.value in
    let step = c.args.step in
    let k = c.partition_point-count.result in
    let parted = IsPartitionedBy-leb (λ (s : Step). s.place) slice step.place (subst (IsNonDecreasingBy (λ (s : Step). s.place)) (sym same) c.requires) in
    let point = IsPartitionPoint-from_clause (λ (s : Step). leb s.place step.place) slice _ c.partition_point-count.ensures.partitioned parted (λ a r q k. search rules) in
    let before = subst (λ l. AllWithin (λ (s : Step). is_at step.place s ≡ true) l 0 k) same point.0 in
    let behind = subst (λ l. AllWithin (λ (s : Step). is_at step.place s ≡ false) l k (length l)) same point.1 in
    let within = subst (λ (l : List Step). k ≤ length l) same c.partition_point-count.ensures.bound in
    let is = c.in_ok-push.ensures.items ∙ ap (λ t. t ++ step ∷ []) c.truncate.ensures.items in
    still_rising old k step c.requires within before behind _ is

pub returns-clause-tells : goal.returns-clause-tells
returns-clause-tells c =
    let old = c.args.steps.now.items in
    let slice = c.as_slice.result.now in
    let same = c.as_slice.ensures.value in
    let step = c.args.step in
    let k = c.partition_point-count.result in
    let parted = IsPartitionedBy-leb (λ (s : Step). s.place) slice step.place (subst (IsNonDecreasingBy (λ (s : Step). s.place)) (sym same) c.requires) in
    let point = IsPartitionPoint-from_clause (λ (s : Step). leb s.place step.place) slice _ c.partition_point-count.ensures.partitioned parted (λ a r q k. search rules) in
    let before = subst (λ l. AllWithin (λ (s : Step). is_at step.place s ≡ true) l 0 k) same point.0 in
    let behind = subst (λ l. AllWithin (λ (s : Step). is_at step.place s ≡ false) l k (length l)) same point.1 in
    let within = subst (λ (l : List Step). k ≤ length l) same c.partition_point-count.ensures.bound in
    let is = c.in_ok-push.ensures.items ∙ ap (λ t. t ++ step ∷ []) c.truncate.ensures.items in
    still_tells old k step c.requires within before behind _ is
