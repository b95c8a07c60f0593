-- Names of a module have numbers below the counts of what they name.
use Rattle.std.specs.Prelude.{◌≡◌, ℕ, zero, suc, ◌+◌, ◌<◌, Bool, List, [], ◌∷◌, ◌++◌, length, map, take, drop, Option, Some, slice_get}
use Rattle.std.specs.List.{flat_map}
use Rattle.std.proofs.Common.{refl, ap, ◌∙◌, sym, subst, arith}
use Rattle.std.proofs.lemmas.Option.{none-some}
use Rattle.std.proofs.lemmas.List.{take_all}
use Rattle.std.proofs.lemmas.List.Sums.{sum_by-cons}
use Rattle.pearl_tree.specs.Names.{name_text}
use Rattle.pearl_tree.specs.ShownLiterals.{ShownConst}
use Rattle.pearl_tree.specs.ShownModules.{ShownTree}
use Rattle.pearl_names.specs.declared.scope.SortedName.{SortedName}
use Rattle.pearl_names.specs.Known.{Known, known_of}
use Rattle.pearl_names.specs.FirstNames.{repeated}
use Rattle.pearl_names.specs.Scopes.{Entry, decls_entries}
use Rattle.pearl_names.specs.Sorts.{sorted_name, sorted_names, names_of_scopes}
use Rattle.pearl_names.specs.Tables.{Form, Sense, Variable, Semaphore, Task, sense_of, senses_of, table_of, leaves_in}
use Rattle.pearl_system.specs.declared.device.SpecifiedDevice.{SpecifiedDevice}
use Rattle.pearl_check.specs.Sizes.{task_count, semaphore_count}
use Rattle.pearl_resolve.specs.Laying.{leaves_of_sense, filled_leaves}
use Rattle.pearl_resolve.specs.Numbers.{first, nothing_before, module_number}
use Rattle.pearl_resolve.specs.Numbers as numbering
use Rattle.pearl_resolve.specs.Expressions.{Numbered}
use Rattle.pearl_resolve.specs.Resolve.{resolve}
use Rattle.pearl_sound.specs.ModuleNames.{IsModuleName, HasNamesOnce}
use Rattle.pearl_sound.proofs.Counting.{counted, both_counted, all_semaphores, all_tasks}
use Rattle.pearl_sound.proofs.ModuleEntries.{entry_sense, gone, entry_number, has_gone}
use Rattle.pearl_sound.proofs.ModuleLeaves.{AreFilled, all_filled, filled_lie, filled_length}
use Rattle.pearl_sound.proofs.SoundParts.{some_one}
use Rattle.pearl_sound.proofs.Stretched.{Lies, taken}

-- an element of a mapped list
pub record Parted {X Y : Type 0} (f : X → Y) (xs : List X) (i : ℕ) (y : Y) : Type 0 where
  pub before : List X
  pub x : X
  pub after : List X
  pub is : xs ≡ before ++ x ∷ after
  pub count : length before ≡ i
  pub same : f x ≡ y

pub parted : {X Y : Type 0} (f : X → Y) (xs : List X) (i : ℕ) (y : Y) → slice_get (map f xs) i ≡ Some y → Parted f xs i y
parted f [] i y is = absurd (none-some y is)
parted f (x ∷ xs) zero y is = record { before = []; x = x; after = xs; is = refl; count = refl; same = some_one is }
parted f (x ∷ xs) (suc i) y is =
    let more = parted f xs i y is in
    record { before = x ∷ more.before; x = more.x; after = more.after; is = ap (λ ys. x ∷ ys) more.is; count = ap suc more.count; same = more.same }

-- a name of the module among its entries
pub record Entered (tree : ShownTree) (devices : List SpecifiedDevice) (procedures : List ℕ) (name : SortedName) (sense : Sense) (number : ℕ) : Type 0 where
  pub before : List Entry
  pub entry : Entry
  pub after : List Entry
  pub is : decls_entries 0 tree.declarations ≡ before ++ entry ∷ after
  pub named : sorted_name entry ≡ name
  pub means : sense_of (known_of tree) 0 entry.meaning ≡ sense
  pub numbered : module_number devices procedures (gone nothing_before (senses_of (known_of tree) 0 before)) name sense ≡ number

pub entered_at : (tree : ShownTree) (devices : List SpecifiedDevice) (procedures : List ℕ) (name : SortedName) (sense : Sense) (number : ℕ) →
    IsModuleName tree devices procedures name sense number → Entered tree devices procedures name sense number
unfolding names_of_scopes sorted_names
entered_at tree devices procedures name sense number is =
    let all = decls_entries 0 tree.declarations in
    let known = known_of tree in
    let part = parted sorted_name all is.index name is.named in
    let means : sense_of known 0 part.x.meaning ≡ sense =
    some_one (sym (entry_sense known 0 all part.before part.x part.after part.is) ∙ ap (λ n. slice_get (senses_of known 0 all) n) part.count ∙ is.means) in
    let from = gone nothing_before (senses_of known 0 part.before) in
    record {
      before = part.before;
      entry = part.x;
      after = part.after;
      is = part.is;
      named = part.same;
      means = means;
      numbered = ap (λ n. module_number devices procedures from n sense) (sym part.same) ∙
          ap (λ s. module_number devices procedures from (sorted_name part.x) s) (sym means) ∙
          some_one (sym (entry_number devices procedures known nothing_before part.before part.x part.after) ∙
          ap (λ es. slice_get (numbering.module_numbers devices procedures nothing_before (sorted_names es) (senses_of known 0 es)) (length part.before)) (sym part.is) ∙
          ap (λ n. slice_get (numbering.module_numbers devices procedures nothing_before (sorted_names all) (senses_of known 0 all)) n) part.count ∙ is.numbered);
    }

-- fewer stand before one than there are
below_count : (known : Known) (count : Sense → ℕ) (before : List Entry) (entry : Entry) (after : List Entry) →
    count (sense_of known 0 entry.meaning) ≡ 1 → counted known count before < counted known count (before ++ entry ∷ after)
below_count known count before entry after is =
    let both = both_counted known count before (entry ∷ after) in
    let sum = sum_by-cons count (sense_of known 0 entry.meaning) (senses_of known 0 after) in
    omega (arith, is, both, sum)

module _ (tree : ShownTree) (devices : List SpecifiedDevice) (procedures : List ℕ) where
  abbrev numbered : Numbered
  numbered = record { table = table_of tree; numbers = numbering.numbers_of (table_of tree) devices procedures tree }

  pub semaphore_there : (name : SortedName) (number : ℕ) → IsModuleName tree devices procedures name Semaphore number →
      number < length (resolve (table_of tree) devices procedures tree).semaphores
  semaphore_there name number is =
      let at = entered_at tree devices procedures name Semaphore number is in
      let known = known_of tree in
      let below = below_count known semaphore_count at.before at.entry at.after (ap semaphore_count at.means) in
      let whole = ap (λ entries. counted known semaphore_count entries) at.is in
      let all = all_semaphores known 0 tree.declarations in
      let gone_by = (has_gone nothing_before (senses_of known 0 at.before)).semaphores in
      let here = at.numbered in
      omega (arith, below, whole, all, gone_by, here)

  pub task_there : (name : SortedName) (number : ℕ) → IsModuleName tree devices procedures name Task number →
      number < length (resolve (table_of tree) devices procedures tree).tasks
  task_there name number is =
      let at = entered_at tree devices procedures name Task number is in
      let known = known_of tree in
      let below = below_count known task_count at.before at.entry at.after (ap task_count at.means) in
      let whole = ap (λ entries. counted known task_count entries) at.is in
      let all = all_tasks known numbered first 0 tree.declarations in
      let gone_by = (has_gone nothing_before (senses_of known 0 at.before)).tasks in
      let here = at.numbered in
      omega (arith, below, whole, all, gone_by, here)

  once_in_scope : HasNamesOnce tree → repeated (sorted_names (decls_entries 0 tree.declarations)) ≡ []
  unfolding names_of_scopes
  once_in_scope once = once

  -- from a variable's number on the program has its leaves
  pub leaves_lie : HasNamesOnce tree → (name : SortedName) (sense : Sense) (number : ℕ) → IsModuleName tree devices procedures name sense number →
      ((from : numbering.Before) → module_number devices procedures from name sense ≡ from.leaves) →
      (constants : List ShownConst) × Lies (resolve (table_of tree) devices procedures tree).leaves
      (filled_leaves (name_text name.name) constants (leaves_of_sense sense)) number
  leaves_lie once name sense number is variable =
      let at = entered_at tree devices procedures name sense number is in
      let known = known_of tree in
      let filled = all_filled tree numbered.numbers (once_in_scope once) in
      let lies = filled_lie known at.before at.entry at.after (resolve (table_of tree) devices procedures tree).leaves
      (subst (λ entries. AreFilled known entries (resolve (table_of tree) devices procedures tree).leaves) at.is filled) in
      let from = gone nothing_before (senses_of known 0 at.before) in
      let gone_by = (has_gone nothing_before (senses_of known 0 at.before)).leaves in
      let here = sym (variable from) ∙ at.numbered in
      let place : length (flat_map leaves_of_sense (senses_of known 0 at.before)) ≡ number = omega (arith, gone_by, here) in (
        lies.0,
        subst (λ n. Lies (resolve (table_of tree) devices procedures tree).leaves (filled_leaves (name_text name.name) lies.0 (leaves_of_sense sense)) n) place
            (subst (λ s. Lies (resolve (table_of tree) devices procedures tree).leaves (filled_leaves (name_text name.name) lies.0 (leaves_of_sense s))
            (length (flat_map leaves_of_sense (senses_of known 0 at.before)))) at.means
            (subst (λ (n : SortedName). Lies (resolve (table_of tree) devices procedures tree).leaves
            (filled_leaves (name_text n.name) lies.0 (leaves_of_sense (sense_of known 0 at.entry.meaning)))
            (length (flat_map leaves_of_sense (senses_of known 0 at.before)))) at.named lies.1)),
      )

  pub variable_leaves_there : HasNamesOnce tree → (name : SortedName) (form : Option Form) (inv : Bool) (number : ℕ) →
      IsModuleName tree devices procedures name (Variable form inv) number → (constants : List ShownConst) ×
      (take (length (leaves_in form)) (drop number (resolve (table_of tree) devices procedures tree).leaves) ≡
      filled_leaves (name_text name.name) constants (leaves_in form))
  variable_leaves_there once name form inv number is =
      let lies = leaves_lie once name (Variable form inv) number is (λ from. refl) in
      let filled = filled_leaves (name_text name.name) lies.0 (leaves_in form) in
      let count = filled_length (name_text name.name) lies.0 (leaves_in form) in
      let here : number ≡ number + 0 = omega arith in (
        lies.0,
        ap (λ n. take (length (leaves_in form)) (drop n (resolve (table_of tree) devices procedures tree).leaves)) here ∙
            taken lies.1 (length (leaves_in form)) 0 (omega (arith, count)) ∙ take_all (length (leaves_in form)) filled (omega (arith, count)),
      )
