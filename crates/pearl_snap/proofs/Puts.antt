-- Appending a task, and tasks one by one.
use Rattle.std.proofs.Common.{◌≡◌, ℕ, zero, suc, ◌+◌, ◌≤◌, ◌<◌, Bool, true, false, List, [], ◌∷◌, ◌++◌, length, take, get_or, refl, sym, ap, ◌∙◌, append_assoc, arith}
use Rattle.std.proofs.lemmas.List.{append-nil, take_all}
use Rattle.std.specs.Prelude.{min}
use Rattle.pearl_fields.specs.Codec.{number_bytes, all_bytes}
use Rattle.pearl_records.specs.declared.record.Standing.TheVariants.{Active}
use Rattle.pearl_records.specs.declared.record.TaskRecord.{TaskRecord}
use Rattle.pearl_saved.specs.declared.saved.FrameRecord.{FrameRecord}
use Rattle.pearl_snap.specs.Tasks.{active_tag, acting, task}
use Rattle.pearl_snap.specs.States.{tasks_of, tasks}

-- an active task has its byte, and then its parts
pub active_bytes : (row : TaskRecord) (frames : List FrameRecord) (priority : ℕ) (suspended : Bool) (kept : List ℕ) → row.standing ≡ Active priority suspended kept
    → task.bytes (record { row = row; frames = frames }) ≡ active_tag suspended ∷ acting.bytes (priority, (kept, (row.continuation, (row.activation, frames))))
unfolding task
active_bytes row frames priority true kept is = rw is refl
active_bytes row frames priority false kept is = rw is refl

tasks_length : (rows : List TaskRecord) (stacks : List (List FrameRecord)) → length (tasks_of rows stacks) ≡ min (length rows) (length stacks)
tasks_length [] stacks = omega arith
tasks_length (row ∷ rows) [] = omega arith
tasks_length (row ∷ rows) (frames ∷ stacks) = let shorter = tasks_length rows stacks in omega (arith, shorter)

all_push : {X : Type 0} (spelled : X → List ℕ) (xs : List X) (x : X) → all_bytes spelled (xs ++ x ∷ []) ≡ all_bytes spelled xs ++ spelled x
all_push spelled [] x = append-nil (spelled x)
all_push spelled (y ∷ ys) x = ap (λ bs. spelled y ++ bs) (all_push spelled ys x) ∙ sym (append_assoc (spelled y) (all_bytes spelled ys) (spelled x))

one_more : (rows : List TaskRecord) (stacks : List (List FrameRecord)) (i : ℕ) (r : TaskRecord) (f : List FrameRecord) → i < length rows → i < length stacks → r ≡ get_or rows i r → f ≡ get_or stacks i f
    → take (suc i) (tasks_of rows stacks) ≡ take i (tasks_of rows stacks) ++ record { row = r; frames = f } ∷ []
one_more [] stacks i r f a b p q = absurd (omega (arith, a))
one_more (row ∷ rows) [] i r f a b p q = absurd (omega (arith, b))
one_more (row ∷ rows) (frames ∷ stacks) zero r f a b p q = rw (p, q) refl
one_more (row ∷ rows) (frames ∷ stacks) (suc i) r f a b p q = ap (λ ts. record { row = row; frames = frames } ∷ ts) (one_more rows stacks i r f (omega (arith, a)) (omega (arith, b)) p q)

-- one task more is put
pub put_on : (rows : List TaskRecord) (stacks : List (List FrameRecord)) (front : List ℕ) (i : ℕ) (r : TaskRecord) (f : List FrameRecord) (old new : List ℕ) → i < length rows → i < length stacks → r ≡ get_or rows i r → f ≡ get_or stacks i f
    → old ≡ front ++ all_bytes task.bytes (take i (tasks_of rows stacks)) → new ≡ old ++ task.bytes (record { row = r; frames = f }) → new ≡ front ++ all_bytes task.bytes (take (i + 1) (tasks_of rows stacks))
put_on rows stacks front i r f old new a b p q so_far put =
    let more : take (i + 1) (tasks_of rows stacks) ≡ take i (tasks_of rows stacks) ++ record { row = r; frames = f } ∷ [] = let one : i + 1 ≡ suc i = omega arith in rw one (one_more rows stacks i r f a b p q) in
    rw (more, all_push task.bytes (take i (tasks_of rows stacks)) (record { row = r; frames = f })) (put ∙ ap (λ bs. bs ++ task.bytes (record { row = r; frames = f })) so_far ∙ append_assoc front (all_bytes task.bytes (take i (tasks_of rows stacks))) (task.bytes (record { row = r; frames = f })))

-- all tasks are put that have a stack
pub all_put : (rows : List TaskRecord) (stacks : List (List FrameRecord)) (old new : List ℕ) (count i : ℕ) → count ≡ min (length rows) (length stacks) → count ≤ i
    → new ≡ (old ++ number_bytes count) ++ all_bytes task.bytes (take i (tasks_of rows stacks)) → new ≡ old ++ tasks.bytes (tasks_of rows stacks)
all_put rows stacks old new count i few le so_far =
    let size : length (tasks_of rows stacks) ≡ count = tasks_length rows stacks ∙ sym few in
    so_far ∙ ap (λ ts. (old ++ number_bytes count) ++ all_bytes task.bytes ts) (take_all i (tasks_of rows stacks) (omega (arith, size, le)))
    ∙ ap (λ n. (old ++ number_bytes n) ++ all_bytes task.bytes (tasks_of rows stacks)) (sym size)
    ∙ append_assoc old (number_bytes (length (tasks_of rows stacks))) (all_bytes task.bytes (tasks_of rows stacks))
