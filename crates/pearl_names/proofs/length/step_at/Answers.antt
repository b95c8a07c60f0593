use Rattle.std.proofs.Common.{leb, sym, ap, ◌∙◌, arith, rules}
use Rattle.std.proofs.lemmas.List.Sorted.{IsPartitionPoint-from_clause, IsPartitionedBy-leb}
use Rattle.pearl_names.specs.declared.length.Step.{Step}
use Rattle.pearl_names.proofs.Steps.{picked, picked_at, picked_last}
use Rattle.pearl_names.proofs.length.step_at.Goals as goal

pub returns-then-count-eq0 : goal.returns-then-count-eq0
returns-then-count-eq0 c =
    let steps = c.args.steps.now in
    let parted = IsPartitionedBy-leb (λ (s : Step). s.place) steps c.args.place c.requires in
    let point = IsPartitionPoint-from_clause (λ (s : Step). leb s.place c.args.place) steps _ c.partition_point-count.ensures.partitioned parted (λ a r q k. search rules) in
    sym (picked_at steps c.partition_point-count.result c.args.len c.args.place point.0 point.1 c.partition_point-count.ensures.bound
    ∙ ap (picked c.args.len steps) c.if-count-eq0.true)

pub returns-else-count-eq0 : goal.returns-else-count-eq0
returns-else-count-eq0 c =
    let steps = c.args.steps.now in
    let parted = IsPartitionedBy-leb (λ (s : Step). s.place) steps c.args.place c.requires in
    let point = IsPartitionPoint-from_clause (λ (s : Step). leb s.place c.args.place) steps _ c.partition_point-count.ensures.partitioned parted (λ a r q k. search rules) in
    picked_last steps c.partition_point-count.result c.args.len (omega (arith, c.if-count-eq0.false))
    ∙ sym (picked_at steps c.partition_point-count.result c.args.len c.args.place point.0 point.1 c.partition_point-count.ensures.bound)
