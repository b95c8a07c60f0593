-- The lines of the workload, one after the other, and how many bytes they have.
use Rattle.std.proofs.Common.{◌≡◌, ◌≤◌, ◌<◌, ◌+◌, ◌*◌, ◌^◌, ℕ, zero, suc, List, [], ◌++◌, length, codes, refl, ap, sym, ◌∙◌, add-one, append_assoc, arith, length-append, lit<, lit≤}
use Rattle.std.proofs.lemmas.Fmt.{length-decimal-le}
use Rattle.std.specs.Fmt.{decimal}
use Rattle.pearl_bench.specs.Texts.{for_each, source_of, start_line, task_head, task_line}

-- one piece behind another
pub behind : (old mid new a b : List ℕ) → mid ≡ old ++ a → new ≡ mid ++ b → new ≡ old ++ (a ++ b)
behind old mid new a b was is = is ∙ ap (λ x. x ++ b) was ∙ append_assoc old a b

-- one more line
pub for_each-more : (line : ℕ → List ℕ) (n : ℕ) → for_each line (n + 1) ≡ for_each line n ++ line (n + 1)
for_each-more line n = ap (for_each line) (add-one n)

-- behind what stood before
pub more : (line : ℕ → List ℕ) (n : ℕ) (old before new : List ℕ) → before ≡ old ++ for_each line n → new ≡ before ++ line (n + 1) →
    new ≡ old ++ for_each line (n + 1)
more line n old before new was is =
    behind old before new (for_each line n) (line (n + 1)) was is ∙ ap (λ x. old ++ x) (sym (for_each-more line n))

-- the source, piece by piece
pub built : (n : ℕ) (old head begin starts end tasks whole : List ℕ) → old ≡ [] →
    head ≡ old ++ codes "MODULE(bench); PROBLEM;\nDCL total FIXED(63);\nDCL lock SEMA PRESET(1);\n" → begin ≡ head ++ codes "start: TASK PRIO 1 MAIN;\n" →
    starts ≡ begin ++ for_each start_line n → end ≡ starts ++ codes "END;\n" → tasks ≡ end ++ for_each task_line n → whole ≡ tasks ++ codes "MODEND;\n" →
    whole ≡ source_of n
built n old head begin starts end tasks whole none a b c d e f =
    f ∙ ap (λ x. x ++ codes "MODEND;\n") (e ∙ ap (λ x. x ++ for_each task_line n) (d ∙ ap (λ x. x ++ codes "END;\n")
    (c ∙ ap (λ x. x ++ for_each start_line n) (b ∙ ap (λ x. x ++ codes "start: TASK PRIO 1 MAIN;\n")
    (a ∙ ap (λ x. x ++ codes "MODULE(bench); PROBLEM;\nDCL total FIXED(63);\nDCL lock SEMA PRESET(1);\n") none)))))

-- HOW MANY BYTES

three : (a b c : List ℕ) → length (a ++ b ++ c) ≡ length a + length b + length c
three a b c = simp length-append refl

five : (a b c d e : List ℕ) → length (a ++ b ++ c ++ d ++ e) ≡ length a + length b + length c + length d + length e
five a b c d e = simp length-append refl

six : (a b c d e f : List ℕ) → length (a ++ b ++ c ++ d ++ e ++ f) ≡ length a + length b + length c + length d + length e + length f
six a b c d e f = simp length-append refl

digits-short : (n : ℕ) → n ≤ 101 → length (decimal n) ≤ 3
digits-short n few = length-decimal-le 3 n (lit< tt) (omega (arith, few)) (omega (arith, few))

start-short : (i : ℕ) → i ≤ 100 → length (start_line i) ≤ 128
start-short i few =
    let fit : length (decimal i) ≤ 3 = digits-short i (omega (arith, few)) in
    let one : length (codes "ALL ") ≡ 4 = refl in
    let two : length (codes " SEC ACTIVATE t") ≡ 15 = refl in
    let end : length (codes ";\n") ≡ 2 = refl in
    omega (arith, five (codes "ALL ") (decimal i) (codes " SEC ACTIVATE t") (decimal i) (codes ";\n"), fit, one, two, end)

task-short : (i : ℕ) → i ≤ 100 → length (task_line i) ≤ 128
task-short i few =
    let fit : length (decimal i) ≤ 3 = digits-short i (omega (arith, few)) in
    let next : length (decimal (i + 1)) ≤ 3 = digits-short (i + 1) (omega (arith, few)) in
    let one : length (codes "t") ≡ 1 = refl in
    let two : length (codes ": TASK PRIO ") ≡ 12 = refl in
    let end : length (codes "; FOR k TO 10 REPEAT REQUEST lock; total := total + k; RELEASE lock; END; END;\n") ≤ 90 = lit≤ tt in
    omega (
      arith,
      five (codes "t") (decimal i) (codes ": TASK PRIO ") (decimal (i + 1))
          (codes "; FOR k TO 10 REPEAT REQUEST lock; total := total + k; RELEASE lock; END; END;\n"),
      fit,
      next,
      one,
      two,
      end,
    )

for_each-short : (line : ℕ → List ℕ) → ((i : ℕ) → i ≤ 100 → length (line i) ≤ 128) → (n : ℕ) → n ≤ 100 → length (for_each line n) ≤ n * 128
for_each-short line short zero few = omega arith
for_each-short line short (suc n) few =
    let rest : length (for_each line n) ≤ n * 128 = for_each-short line short n (omega (arith, few)) in
    let last : length (line (n + 1)) ≤ 128 = short (n + 1) (omega (arith, few)) in
    omega (arith, length-append (for_each line n) (line (n + 1)), rest, last)

-- the source is short
pub source-short : (n : ℕ) → n ≤ 100 → length (source_of n) ≤ 2 ^ 20
source-short n few =
    let starts : length (for_each start_line n) ≤ n * 128 = for_each-short start_line start-short n few in
    let tasks : length (for_each task_line n) ≤ n * 128 = for_each-short task_line task-short n few in
    let head : length (codes "MODULE(bench); PROBLEM;\nDCL total FIXED(63);\nDCL lock SEMA PRESET(1);\n") ≤ 128 = lit≤ tt in
    let begin : length (codes "start: TASK PRIO 1 MAIN;\n") ≤ 128 = lit≤ tt in
    let end : length (codes "END;\n") ≤ 128 = lit≤ tt in
    let last : length (codes "MODEND;\n") ≤ 128 = lit≤ tt in
    omega (
      arith,
      six (codes "MODULE(bench); PROBLEM;\nDCL total FIXED(63);\nDCL lock SEMA PRESET(1);\n") (codes "start: TASK PRIO 1 MAIN;\n")
          (for_each start_line n) (codes "END;\n") (for_each task_line n) (codes "MODEND;\n"),
      starts,
      tasks,
      head,
      begin,
      end,
      last,
      few,
    )
