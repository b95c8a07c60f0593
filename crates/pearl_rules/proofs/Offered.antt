-- What other crates may cite of this crate's proofs.

-- a series fires at the moments that are whole periods after its first one, up to its last one
pub use Rattle.pearl_rules.proofs.Firings.{fires_after, after_fires, fires_as_said}
-- what lists hold, and what stands at a place that is written
pub use Rattle.pearl_rules.proofs.Places.{here, there, no_member, each_at, set-same, set-other, there_at}
-- which task is picked: the rule of `pick`, task by task, is the rule in the subject's words
pub use Rattle.pearl_rules.proofs.PickLaws.{eligible_within, picked, pick-same, states-same, pick-offers, states-offers, turned-is}
-- what starts, plans that serve, interrupts and milliseconds keep: all that each of their small steps keeps
pub use Rattle.pearl_rules.proofs.Serving.{Stays, Starts, Closed, ClosedAtEnds, IsFree, Brings, mark-kept}
pub use Rattle.pearl_rules.proofs.Serving.{millisecond-kept, interrupted-kept, activated-kept, continues-kept}
pub use Rattle.pearl_rules.proofs.Serving.{resuming-kept, arrived-kept, effect-free}
-- what GET gets is of its targets' kinds: digits of so many bits each, times of day, what an item leaves for those behind it
pub use Rattle.pearl_rules.proofs.ScanLaws.{bit_digits, pow_pow, bits_number-below, thousandths-below, clock_below}
pub use Rattle.pearl_rules.proofs.ScanLaws.{rest_suits, reads_values}
-- what actions, milliseconds and whatever comes in keep: tasks, what was told, and the kinds of all values
pub use Rattle.pearl_rules.proofs.EffectLaws.{AnyPriority, AnyPlan, any_continuation, any_activation, any_kept, any_brings}
pub use Rattle.pearl_rules.proofs.EffectLaws.{effect-told, arrived-told, effect-length, millisecond-length, arrived-length, opening-kinds}
pub use Rattle.pearl_rules.proofs.EffectLaws.{effect-kinds, millisecond-kinds, arrived-kinds, effect-answers}
-- what was told before changes nothing
pub use Rattle.pearl_rules.proofs.ToldLaws.{millisecond-told_before, arrived-told_before, effect-told_before}
pub use Rattle.pearl_rules.proofs.ToldLaws.{turned-told_before}
-- which tasks an action ends, and which stay active; a millisecond and whatever comes in end none
pub use Rattle.pearl_rules.proofs.EndsLaws.{millisecond-lasts, arrived-lasts, effect-ends}
-- how a task stands behind its end, what is told then, and what it keeps
pub use Rattle.pearl_rules.proofs.Behind.{changed-other, changed-here, changed-none, behind, ended-here, ended-kept}
pub use Rattle.pearl_rules.proofs.Behind.{ended-other, ended-rest, one_more, no_room}
-- how an action changes one task, and which actions end the task that acts
pub use Rattle.pearl_rules.proofs.TaskLaws.{start_starts}
-- semaphores: when an action on counts can be done, and which counts it changes
pub use Rattle.pearl_rules.proofs.CountLaws.{effect-counts, millisecond-counts, arrived-counts}
-- the priorities of tasks: the declared ones stay, and all are from 1 to 255; and each plan is a lawful one
pub use Rattle.pearl_rules.proofs.UrgencyLaws.{effect-urgencies, millisecond-urgencies, arrived-urgencies}
pub use Rattle.pearl_rules.proofs.UrgencyLaws.{opening-urgencies, effect-plans, millisecond-plans, arrived-plans}
-- what is kept for each task, on the two sides of a run: the lists stand side by side, place by place
pub use Rattle.pearl_rules.proofs.KeptLaws.{emptied, stays_empty, dropped_inside, dropped_outside, begins_afresh}
-- the machine goes the way of the source: step by step the same core, the same entries, and each task at the same place
pub use Rattle.pearl_rules.proofs.Simulation.{step_source}
-- what holds of one task at a time is enough for a whole run
pub use Rattle.pearl_rules.proofs.Faithful.{faithful, ends_soon, has_kinds, stands_at}
-- the end of a run, and runs over a journal's first entries
pub use Rattle.pearl_rules.proofs.EndLaws.{ends_alike, one_end, first_end}
-- every run comes to an end, and what was told stays told
pub use Rattle.pearl_rules.proofs.RunLaws.{step-entries, source_ends, last_tells}
