-- How many tasks, procedures and semaphores the names of a module are, and how many its program has.
use Rattle.std.specs.Prelude.{◌≡◌, ℕ, suc, ◌+◌, ◌*◌, Bool, List, [], ◌∷◌, ◌++◌, length, Option}
use Rattle.std.specs.List.{flat_map, sum_by}
use Rattle.std.proofs.Common.{refl, ap, ◌∙◌, arith}
use Rattle.std.proofs.lemmas.List.{length-append}
use Rattle.std.proofs.lemmas.List.Sums.{sum_by-append, sum_by-cons}
use Rattle.pearl_value.specs.declared.kind.Kind.{Kind}
use Rattle.pearl_value.specs.declared.device.Direction.{Direction}
use Rattle.pearl_tree.specs.declared.name.Name.{Name}
use Rattle.pearl_tree.specs.declared.name.Number.{Number}
use Rattle.pearl_tree.specs.declared.declaration.Class.TheVariants as class
use Rattle.pearl_tree.specs.Names.{names_of}
use Rattle.pearl_tree.specs.ShownDeclarations.{ShownDeclared, OfItem, OfSema, ShownSpec, OfInterrupt, OfDation}
use Rattle.pearl_tree.specs.ShownModules.{ShownDecl, OfLength, OfType, OfDeclare, OfSpecify, OfTask, OfProc}
use Rattle.pearl_names.specs.Known.{Known}
use Rattle.pearl_names.specs.Scopes.{Meaning, Entry, entries_as, declared_entries, spec_entries, decl_entries, decls_entries, types_in}
use Rattle.pearl_names.specs.Scopes as scopes
use Rattle.pearl_names.specs.Tables.{Form, Sense, Variable, NewType, Semaphore, Interrupt, AlphicDation, BasicDation, sense_of, senses_of}
use Rattle.pearl_check.specs.Sizes.{task_count, procedure_count, semaphore_count}
use Rattle.pearl_resolve.specs.Numbers.{At, after_decl}
use Rattle.pearl_resolve.specs.Expressions.{Numbered}
use Rattle.pearl_resolve.specs.Resolve.{presets, declared_presets, decl_presets, decl_tasks, tasks_in, decl_procedures, procedures_in}
use Rattle.pearl_sound.proofs.ModuleEntries.{senses_append}

-- what some entries add to a size
abbrev pub counted : Known → (Sense → ℕ) → List Entry → ℕ
counted known count entries = sum_by count (senses_of known 0 entries)

-- what adds nothing: specified names and TYPEs
pub record AddsNothing (count : Sense → ℕ) : Type 0 where
  pub interrupt : count Interrupt ≡ 0
  pub alphic : (direction : Direction) → count (AlphicDation direction) ≡ 0
  pub basic : (direction : Direction) (kind : Option Kind) → count (BasicDation direction kind) ≡ 0
  pub new_type : count NewType ≡ 0

presets_length : (list : List Name) (numbers : List Number) → length (presets list numbers) ≡ length list
presets_length [] numbers = refl
presets_length (name ∷ list) [] = ap suc (presets_length list [])
presets_length (name ∷ list) (number ∷ numbers) = ap suc (presets_length list numbers)

module _ (known : Known) (count : Sense → ℕ) where
  abbrev all : List Entry → ℕ
  all entries = counted known count entries

  pub both_counted : (one two : List Entry) → all (one ++ two) ≡ all one + all two
  both_counted one two = ap (λ senses. sum_by count senses) (senses_append known 0 one two) ∙ sum_by-append count (senses_of known 0 one) (senses_of known 0 two)

  pub same_counted : (meaning : Meaning) (list : List Name) (n : ℕ) → count (sense_of known 0 meaning) ≡ n →
      all (entries_as meaning list) ≡ length list * n
  same_counted meaning [] n is = omega arith
  same_counted meaning (name ∷ list) n is =
      let more = same_counted meaning list n is in
      let sum = sum_by-cons count (sense_of known 0 meaning) (senses_of known 0 (entries_as meaning list)) in
      omega (arith, is, more, sum)

  pub none_counted : (meaning : Meaning) (list : List Name) → count (sense_of known 0 meaning) ≡ 0 → all (entries_as meaning list) ≡ 0
  none_counted meaning list is = let same = same_counted meaning list 0 is in omega (arith, same)

  pub one_counted : (meaning : Meaning) (name : Name) → count (sense_of known 0 meaning) ≡ 1 → all (entries_as meaning (name ∷ [])) ≡ 1
  one_counted meaning name is = let same = same_counted meaning (name ∷ []) 1 is in omega (arith, same)

  module _ (nothing : AddsNothing count) where
    spec_counted : (spec : ShownSpec) → all (spec_entries spec) ≡ 0
    spec_counted (OfInterrupt list place) = none_counted scopes.Interrupt (names_of list) nothing.interrupt
    spec_counted (OfDation list direction (class.Alphic at) control place) =
        none_counted (scopes.Dation direction (class.Alphic at)) (names_of list) (nothing.alphic direction)
    spec_counted (OfDation list direction (class.Basic part at) control place) =
        none_counted (scopes.Dation direction (class.Basic part at)) (names_of list) (nothing.basic direction _)

    pub specs_counted : (specs : List ShownSpec) → all (flat_map spec_entries specs) ≡ 0
    specs_counted [] = refl
    specs_counted (spec ∷ rest) =
        let a = spec_counted spec in let b = specs_counted rest in let c = both_counted (spec_entries spec) (flat_map spec_entries rest) in
        omega (arith, a, b, c)

    -- where variables add nothing
    module _ (variable : (form : Option Form) (inv : Bool) → count (Variable form inv) ≡ 0) where
      none_declared : count Semaphore ≡ 0 → (types : ℕ) (parts : List ShownDeclared) → all (flat_map (declared_entries types) parts) ≡ 0
      none_declared is types [] = refl
      none_declared is types (OfItem item ∷ rest) =
          let own = none_counted (scopes.Variable item types) (names_of item.names) (variable _ _) in
          let more = none_declared is types rest in
          let both = both_counted (entries_as (scopes.Variable item types) (names_of item.names)) (flat_map (declared_entries types) rest) in
          omega (arith, own, more, both)
      none_declared is types (OfSema sema ∷ rest) =
          let own = none_counted scopes.Semaphore (names_of sema.names) is in
          let more = none_declared is types rest in
          let both = both_counted (entries_as scopes.Semaphore (names_of sema.names)) (flat_map (declared_entries types) rest) in
          omega (arith, own, more, both)

      semaphores_declared : count Semaphore ≡ 1 → (types : ℕ) (parts : List ShownDeclared) →
          all (flat_map (declared_entries types) parts) ≡ length (flat_map declared_presets parts)
      semaphores_declared is types [] = refl
      semaphores_declared is types (OfItem item ∷ rest) =
          let own = none_counted (scopes.Variable item types) (names_of item.names) (variable _ _) in
          let more = semaphores_declared is types rest in
          let both = both_counted (entries_as (scopes.Variable item types) (names_of item.names)) (flat_map (declared_entries types) rest) in
          omega (arith, own, more, both)
      semaphores_declared is types (OfSema sema ∷ rest) =
          let own = same_counted scopes.Semaphore (names_of sema.names) 1 is in
          let more = semaphores_declared is types rest in
          let both = both_counted (entries_as scopes.Semaphore (names_of sema.names)) (flat_map (declared_entries types) rest) in
          let set = presets_length (names_of sema.names) sema.preset in
          let sum = length-append (presets (names_of sema.names) sema.preset) (flat_map declared_presets rest) in
          omega (arith, own, more, both, set, sum)

-- semaphores
semaphores_nothing : AddsNothing semaphore_count
semaphores_nothing = record { interrupt = refl; alphic = λ direction. refl; basic = λ direction kind. refl; new_type = refl }

tasks_nothing : AddsNothing task_count
tasks_nothing = record { interrupt = refl; alphic = λ direction. refl; basic = λ direction kind. refl; new_type = refl }

procedures_nothing : AddsNothing procedure_count
procedures_nothing = record { interrupt = refl; alphic = λ direction. refl; basic = λ direction kind. refl; new_type = refl }

module _ (known : Known) where
  decl_semaphores : (types : ℕ) (decl : ShownDecl) → counted known semaphore_count (decl_entries types decl) ≡ length (decl_presets decl)
  decl_semaphores types (OfLength sort number place) = refl
  decl_semaphores types (OfType name part place) = none_counted known semaphore_count (scopes.NewType types) (name ∷ []) refl
  decl_semaphores types (OfDeclare parts place) =
      semaphores_declared known semaphore_count semaphores_nothing (λ form inv. refl) refl types parts
  decl_semaphores types (OfSpecify specs place) = specs_counted known semaphore_count semaphores_nothing specs
  decl_semaphores types (OfTask name head body place) = none_counted known semaphore_count scopes.Task (name ∷ []) refl
  decl_semaphores types (OfProc name params returns body place) =
      none_counted known semaphore_count (scopes.Procedure params returns) (name ∷ []) refl

  pub all_semaphores : (types : ℕ) (decls : List ShownDecl) →
      counted known semaphore_count (decls_entries types decls) ≡ length (flat_map decl_presets decls)
  all_semaphores types [] = refl
  all_semaphores types (decl ∷ rest) =
      let own = decl_semaphores types decl in
      let more = all_semaphores (types + types_in decl) rest in
      let both = both_counted known semaphore_count (decl_entries types decl) (decls_entries (types + types_in decl) rest) in
      let sum = length-append (decl_presets decl) (flat_map decl_presets rest) in
      omega (arith, own, more, both, sum)

  task_counted : (numbered : Numbered) (at : At) (types : ℕ) (decl : ShownDecl) →
      counted known task_count (decl_entries types decl) ≡ length (decl_tasks numbered at decl)
  task_counted numbered at types (OfLength sort number place) = refl
  task_counted numbered at types (OfType name part place) = none_counted known task_count (scopes.NewType types) (name ∷ []) refl
  task_counted numbered at types (OfDeclare parts place) = none_declared known task_count tasks_nothing (λ form inv. refl) refl types parts
  task_counted numbered at types (OfSpecify specs place) = specs_counted known task_count tasks_nothing specs
  task_counted numbered at types (OfTask name head body place) = one_counted known task_count scopes.Task name refl
  task_counted numbered at types (OfProc name params returns body place) =
      none_counted known task_count (scopes.Procedure params returns) (name ∷ []) refl

  pub all_tasks : (numbered : Numbered) (at : At) (types : ℕ) (decls : List ShownDecl) →
      counted known task_count (decls_entries types decls) ≡ length (tasks_in numbered at decls)
  all_tasks numbered at types [] = refl
  all_tasks numbered at types (decl ∷ rest) =
      let past = after_decl numbered.table at decl in
      let own = task_counted numbered at types decl in
      let more = all_tasks numbered past (types + types_in decl) rest in
      let both = both_counted known task_count (decl_entries types decl) (decls_entries (types + types_in decl) rest) in
      let sum = length-append (decl_tasks numbered at decl) (tasks_in numbered past rest) in
      omega (arith, own, more, both, sum)

  procedure_counted : (numbered : Numbered) (at : At) (types : ℕ) (decl : ShownDecl) →
      counted known procedure_count (decl_entries types decl) ≡ length (decl_procedures numbered at decl)
  procedure_counted numbered at types (OfLength sort number place) = refl
  procedure_counted numbered at types (OfType name part place) = none_counted known procedure_count (scopes.NewType types) (name ∷ []) refl
  procedure_counted numbered at types (OfDeclare parts place) =
      none_declared known procedure_count procedures_nothing (λ form inv. refl) refl types parts
  procedure_counted numbered at types (OfSpecify specs place) = specs_counted known procedure_count procedures_nothing specs
  procedure_counted numbered at types (OfTask name head body place) = none_counted known procedure_count scopes.Task (name ∷ []) refl
  procedure_counted numbered at types (OfProc name params returns body place) =
      one_counted known procedure_count (scopes.Procedure params returns) name refl

  pub all_procedures : (numbered : Numbered) (at : At) (types : ℕ) (decls : List ShownDecl) →
      counted known procedure_count (decls_entries types decls) ≡ length (procedures_in numbered at decls)
  all_procedures numbered at types [] = refl
  all_procedures numbered at types (decl ∷ rest) =
      let past = after_decl numbered.table at decl in
      let own = procedure_counted numbered at types decl in
      let more = all_procedures numbered past (types + types_in decl) rest in
      let both = both_counted known procedure_count (decl_entries types decl) (decls_entries (types + types_in decl) rest) in
      let sum = length-append (decl_procedures numbered at decl) (procedures_in numbered past rest) in
      omega (arith, own, more, both, sum)
