-- Which source and which journal make the workload of a number.
use Rattle.std.specs.Prelude.{ℕ, zero, suc, ◌+◌, List, [], ◌++◌, codes}
use Rattle.std.specs.Fmt.{decimal}

-- the task i is started each i seconds
abbrev pub start_line : ℕ → List ℕ
start_line i = codes "ALL " ++ decimal i ++ codes " SEC ACTIVATE t" ++ decimal i ++ codes ";\n"

-- it is less urgent than those before it
abbrev pub task_head : ℕ → List ℕ
task_head i = codes "t" ++ decimal i ++ codes ": TASK PRIO " ++ decimal (i + 1)

-- and adds the numbers up to 10 to a sum, which one task at a time may do
abbrev pub task_line : ℕ → List ℕ
task_line i = task_head i ++ codes "; FOR k TO 10 REPEAT REQUEST lock; total := total + k; RELEASE lock; END; END;\n"

-- such a line for each number from 1 to n
abbrev pub for_each : (ℕ → List ℕ) → ℕ → List ℕ
for_each line zero = []
for_each line (suc n) = for_each line n ++ line (n + 1)

abbrev pub source_of : ℕ → List ℕ
source_of n =
    codes "MODULE(bench); PROBLEM;\nDCL total FIXED(63);\nDCL lock SEMA PRESET(1);\n"
    ++ codes "start: TASK PRIO 1 MAIN;\n"
    ++ for_each start_line n
    ++ codes "END;\n"
    ++ for_each task_line n
    ++ codes "MODEND;\n"

-- a minute, with up to 100 actions in each of its milliseconds
abbrev pub journal_of : List ℕ
journal_of = codes "pass 60000 100"
