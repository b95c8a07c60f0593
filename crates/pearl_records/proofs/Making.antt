-- Rows that are made of records, one after the other.
use Rattle.std.proofs.Common.{◌≡◌, ℕ, zero, suc, ◌≤◌, List, [], ◌∷◌, ◌++◌, length, map, drop, refl, sym, ap, ◌∙◌, arith}
use Rattle.pearl_rules.specs.declared.row.TaskRow.{TaskRow}
use Rattle.pearl_rules.specs.declared.setup.TaskEntry.{TaskEntry}
use Rattle.pearl_records.specs.declared.record.TaskRecord.{TaskRecord}
use Rattle.pearl_records.specs.Records.{rows_made}

abbrev pub declared : List TaskEntry → List ℕ
declared entries = map (λ entry. entry.priority) entries

-- the rows so far, and those that are missing
abbrev pub IsMade : List TaskEntry → List TaskRecord → ℕ → List TaskRow → Type 0
IsMade entries tasks i rows = rows ++ rows_made (declared (drop i entries)) (drop i tasks) ≡ rows_made (declared entries) tasks

append-nil : {X : Type 0} (xs : List X) → xs ++ [] ≡ xs
append-nil [] = refl
append-nil (x ∷ xs) = ap (λ ys. x ∷ ys) (append-nil xs)

none_left : {X : Type 0} (xs : List X) (n : ℕ) → length xs ≤ n → drop n xs ≡ []
none_left [] zero e = refl
none_left [] (suc n) e = refl
none_left (x ∷ xs) zero e = absurd (omega (arith, e))
none_left (x ∷ xs) (suc n) e = none_left xs n (omega (arith, e))

pub made-all : (entries : List TaskEntry) (tasks : List TaskRecord) (i : ℕ) (rows : List TaskRow) → length entries ≤ i →
    IsMade entries tasks i rows → rows ≡ rows_made (declared entries) tasks
made-all entries tasks i rows all made =
    sym (append-nil rows)
    ∙ sym (ap (λ es. rows ++ rows_made (declared es) (drop i tasks)) (none_left entries i all))
    ∙ made

pub made-size : (entries : List TaskEntry) (tasks : List TaskRecord) → length tasks ≡ length entries →
    length (rows_made (declared entries) tasks) ≡ length entries
made-size [] tasks e = refl
made-size (entry ∷ entries) [] e = absurd (omega (arith, e))
made-size (entry ∷ entries) (task ∷ tasks) e =
    let same : length tasks ≡ length entries = omega (arith, e) in ap suc (made-size entries tasks same)
