-- Cells, plans, tasks and states are read as they are spelled.
use Rattle.std.proofs.Common.{◌≡◌, ℕ, zero, suc, ◌-◌, ◌^◌, ◌<◌, true, false, List, [], ◌∷◌, None, Some, refl, ap, ◌∙◌, arith}
use Rattle.pearl_fields.specs.Codec.{Codec, nothing, number, pair}
use Rattle.pearl_fields.proofs.Offered.{IsTold, IsArm, byte_told, number_told, nothing_told, shaped_told, pair_told, tagged_told, counted_told, made_arm}
use Rattle.pearl_object.proofs.Offered.{flag_told, bounds_told, kind_told, literal_told}
use Rattle.pearl_object.specs.Kinds.{kind}
use Rattle.pearl_object.specs.Literals.{literal}
use Rattle.pearl_object.specs.Operands.{bounds, flag}
use Rattle.pearl_saved.specs.declared.saved.Target.TheVariants.{Slot, Own}
use Rattle.pearl_saved.specs.declared.saved.SavedCell.TheVariants.{Value, Variable, Array}
use Rattle.pearl_saved.specs.declared.saved.FrameRecord.{FrameRecord}
use Rattle.pearl_records.specs.declared.record.EndRecord.TheVariants.{Never, Until, During}
use Rattle.pearl_snap.specs.declared.states.Free.{Free}
use Rattle.pearl_snap.specs.declared.states.CellRoom.{CellRoom}
use Rattle.pearl_snap.specs.declared.states.SavedTask.{SavedTask}
use Rattle.pearl_snap.specs.Lists.{free, each_in, any_byte, next_or_zero, before, maybe_number}
use Rattle.pearl_snap.specs.Cells.{target_tag, target_slot, target_own, target_arms, target, reference, array, cell_tag, cell_value, cell_variable, cell_array, cell_arms, cell}
use Rattle.pearl_snap.specs.Plans.{end_tag, end_time, end_arms, end, series_fields, made_series, series, maybe_tag, or_else, maybe_arms, maybe, no_series, maybe_series, plan_fields, made_plan, plan, no_plan, continuation, started, no_start, activation}
use Rattle.pearl_snap.specs.Tasks.{frame_fields, made_frame, frame, all_cells, after_frame, frames, task_tag, dormant_fields, made_dormant, active_fields, made_active, acting, task_arms, task}
use Rattle.pearl_snap.specs.States.{tasks_of, rows_of, stacks_of, slots, counts, switches, typed, values, terminals, inputs, Fields, saved_fields, made_saved, saved}

infixr 10 ◌&◌
abbrev ◌&◌ : {A B : Type 0} → A → B → A × B
a & b = (a, b)

-- an arm of one value
single : {X : Type 0} (tag : X → ℕ) (t : ℕ) (x : X) → tag x ≡ t → IsArm tag t (nothing x)
single tag t x is = record { told = nothing_told x; tagged = λ y h. ap tag h ∙ is }

each_told : {X : Type 0} (low high : ℕ) (c : Codec X) → IsTold c → IsTold (each_in low high c)
each_told low high c l = counted_told low high c.bytes (λ (s : Free). c) (λ s x. s) free (λ s. l) (λ s x. refl)

any_byte_told : IsTold any_byte
any_byte_told = byte_told _

again : (n : ℕ) → n < 2 ^ 64 → next_or_zero (before n) ≡ n
again zero h = refl
again (suc n) h = omega (arith, h)

maybe_number_told : IsTold maybe_number
unfolding maybe_number
maybe_number_told = shaped_told next_or_zero before number number_told again

-- ---- cells

target_told : IsTold target
unfolding target
target_told =
    tagged_told 0 target_tag target_arms
    (made_arm target_tag 0 target_slot Slot number number_told (λ a. refl) (λ a. refl)
    & made_arm target_tag 1 target_own (λ p. Own p.0 p.1) (pair number (λ frame. number)) (pair_told number (λ frame. number) number_told (λ frame. number_told)) (λ a. refl) (λ a. refl)
    & tt)

reference_told : IsTold reference
unfolding reference
reference_told =
    shaped_told (λ r. (r.kind, r.target)) (λ p. record { kind = p.0; target = p.1 }) (pair (kind None) (λ of. target))
    (pair_told (kind None) (λ of. target) (kind_told None) (λ of. target_told)) (λ a h. refl)

array_told : IsTold array
unfolding array
array_told =
    shaped_told (λ a. (a.first, a.bounds)) (λ p. record { first = p.0; bounds = p.1 }) _
    (pair_told reference _ reference_told (λ first. each_told 0 (2 ^ 64 - 1) bounds bounds_told)) (λ a h. refl)

cell_told : IsTold cell
unfolding cell
cell_told =
    tagged_told 0 cell_tag cell_arms
    (made_arm cell_tag 0 cell_value Value (literal None) (literal_told None) (λ a. refl) (λ a. refl)
    & made_arm cell_tag 1 cell_variable Variable reference reference_told (λ a. refl) (λ a. refl)
    & made_arm cell_tag 2 cell_array Array array array_told (λ a. refl) (λ a. refl)
    & tt)

-- ---- plans

end_told : IsTold end
unfolding end
end_told =
    tagged_told 0 end_tag end_arms
    (single end_tag 0 Never refl
    & made_arm end_tag 1 end_time Until number number_told (λ a. refl) (λ a. refl)
    & made_arm end_tag 2 end_time During number number_told (λ a. refl) (λ a. refl)
    & tt)

series_told : IsTold series
unfolding series
series_told =
    shaped_told series_fields made_series _
    (pair_told number _ number_told (λ first. pair_told number _ number_told (λ period. maybe_number_told))) (λ a h. refl)

maybe_told : {X : Type 0} (x : X) (c : Codec X) → IsTold c → IsTold (maybe x c)
maybe_told x c t =
    tagged_told 0 maybe_tag (maybe_arms x c) (single maybe_tag 0 None refl & made_arm maybe_tag 1 (or_else x) Some c t (λ a. refl) (λ a. refl) & tt)

maybe_series_told : IsTold maybe_series
unfolding maybe_series
maybe_series_told = maybe_told no_series series series_told

plan_told : IsTold plan
unfolding plan
plan_told =
    shaped_told plan_fields made_plan _
    (pair_told maybe_number _ maybe_number_told (λ when. pair_told number _ number_told (λ after. pair_told number _ number_told (λ period.
    pair_told end _ end_told (λ at. maybe_series_told))))) (λ a h. refl)

continuation_told : IsTold continuation
unfolding continuation
continuation_told = maybe_told no_plan plan plan_told

started_told : IsTold started
unfolding started
started_told =
    shaped_told (λ a. (a.plan, a.priority)) (λ p. record { plan = p.0; priority = p.1 }) _
    (pair_told plan _ plan_told (λ p. any_byte_told)) (λ a h. refl)

activation_told : IsTold activation
unfolding activation
activation_told = maybe_told no_start started started_told

-- ---- tasks

frame_told : (room : CellRoom) → IsTold (frame room)
unfolding frame
frame_told room =
    shaped_told frame_fields made_frame _
    (pair_told number _ number_told (λ routine. pair_told number _ number_told (λ place.
    pair_told (each_in 0 room.left cell) _ (each_told 0 room.left cell cell_told) (λ cells. each_told 0 _ cell cell_told)))) (λ a h. refl)

same_frame : (room : CellRoom) (f : FrameRecord) → (frame room).bytes f ≡ (frame all_cells).bytes f
unfolding frame
same_frame room f = refl

frames_told : IsTold frames
frames_told = counted_told 0 201 (frame all_cells).bytes frame after_frame all_cells frame_told same_frame

acting_told : IsTold acting
unfolding acting
acting_told =
    pair_told any_byte _ any_byte_told (λ priority. pair_told (each_in 0 3 any_byte) _ (each_told 0 3 any_byte any_byte_told) (λ kept.
    pair_told continuation _ continuation_told (λ on. pair_told activation _ activation_told (λ starts. frames_told))))

task_told : IsTold task
unfolding task
task_told =
    tagged_told 0 task_tag task_arms
    (made_arm task_tag 0 dormant_fields made_dormant (pair continuation (λ on. activation)) (pair_told continuation (λ on. activation) continuation_told (λ on. activation_told)) (λ a. refl) (λ a. refl)
    & made_arm task_tag 1 active_fields (made_active false) acting acting_told (λ a. refl) (λ a. refl)
    & made_arm task_tag 2 active_fields (made_active true) acting acting_told (λ a. refl) (λ a. refl)
    & tt)

-- ---- states

pub tasks_again : (xs : List SavedTask) → tasks_of (rows_of xs) (stacks_of xs) ≡ xs
tasks_again [] = refl
tasks_again (x ∷ xs) = ap (λ ys. x ∷ ys) (tasks_again xs)

fields_again : (a : Fields) → saved_fields (made_saved a) ≡ a
fields_again a =
    ap (λ ts. (a.0, (a.1.0, (a.1.1.0, (a.1.1.1.0, (a.1.1.1.1.0, (a.1.1.1.1.1.0, (a.1.1.1.1.1.1.0, (a.1.1.1.1.1.1.1.0, ts)))))))))
    (tasks_again a.1.1.1.1.1.1.1.1)

pub saved_told : IsTold saved
unfolding saved
saved_told =
    shaped_told saved_fields made_saved _
    (pair_told number _ number_told (λ moment. pair_told number _ number_told (λ clock. pair_told maybe_number _ maybe_number_told (λ last.
    pair_told slots _ (each_told 0 65536 (literal None) (literal_told None)) (λ held. pair_told counts _ (each_told 0 1000 number number_told) (λ free.
    pair_told switches _ (each_told 0 99 flag flag_told) (λ on. pair_told terminals _ (each_told 0 99 typed (each_told 0 4096 any_byte any_byte_told)) (λ bytes.
    pair_told inputs _ (each_told 0 99 values (each_told 0 256 (literal None) (literal_told None))) (λ waiting. each_told 0 200 task task_told)))))))))
    (λ a h. fields_again a)
