-- REQUEST and RELEASE that break no rule become sound statements.
use Rattle.std.specs.Prelude.{◌≡◌, ℕ, zero, suc, ◌<◌, ◌≤◌, nat_eq, Bool, true, false, ◌||◌, if◌then◌else◌, List, [], ◌∷◌, ◌++◌, length, map, filter, Option, Some, None, slice_get}
use Rattle.std.specs.List.{AllByRecursion, IsDistinct, flat_map}
use Rattle.std.specs.Str.{bytes_eq}
use Rattle.std.proofs.Common.{refl, ap, ◌∙◌, sym, subst, arith, true≢false}
use Rattle.std.proofs.lemmas.Bool.{eqb-true}
use Rattle.std.proofs.lemmas.Option.{none-some}
use Rattle.std.proofs.lemmas.Slice.Eq.{bytes_eq-Decides}
use Rattle.pearl_tree.specs.declared.rule.TheConstants as rule
use Rattle.pearl_tree.specs.declared.fault.RuleFault.{RuleFault}
use Rattle.pearl_tree.specs.declared.name.Name.{Name}
use Rattle.pearl_tree.specs.declared.statement.SemaWord.{SemaWord}
use Rattle.pearl_tree.specs.declared.statement.SemaWord.TheVariants.{Request, Release}
use Rattle.pearl_tree.specs.Names.{name_text, is_among, repeats}
use Rattle.pearl_names.specs.declared.scope.View.TheVariants.{Within}
use Rattle.pearl_names.specs.Tables.{Sense, Semaphore}
use Rattle.pearl_tree.specs.ShownStatements.{OfOnSemas}
use Rattle.pearl_scope.specs.Placed.{Placed}
use Rattle.pearl_check.specs.declared.asked.NameRole.TheVariants as name_role
use Rattle.pearl_check.specs.Asked.{Named, stmt_asked, asked_at}
use Rattle.pearl_check.specs.Roles.{is_role, role_of, asked_faults}
use Rattle.pearl_check.specs.Routines.{RoutineSort}
use Rattle.pearl_check.specs.Rules.{own_faults, statement_faults}
use Rattle.pearl_check.specs.Statements.{fault_at_name, s31}
use Rattle.pearl_check.specs.Views.{seen, is_semaphore}
use Rattle.pearl_program.specs.Typing.{Around}
use Rattle.pearl_program.specs.SoundStatements.{AreSemaphores, AreStmts}
use Rattle.pearl_resolve.specs.Numbers.{At}
use Rattle.pearl_resolve.specs.Expressions.{Numbered, number_of}
use Rattle.pearl_resolve.specs.Statements.{on_semaphores, alone, resolve_stmt}
use Rattle.pearl_sound.specs.KnownParts.{IsKnown}
use Rattle.pearl_sound.specs.SoundNames.{LeadNames, HasSemaphoresApart}
use Rattle.pearl_sound.proofs.ModuleEntries.{no_fault, neither}
use Rattle.pearl_sound.proofs.SimpleStatements.{left_none, right_none, AreKept, all_kept, named_role}

among_left : (before more : List Name) (text : List ℕ) → is_among (before ++ more) text ≡ false → is_among before text ≡ false
among_left [] more text free = refl
among_left (name ∷ before) more text free =
    let parts = neither (bytes_eq (name_text name) text) (is_among (before ++ more) text) free in
    ap (λ b. b || is_among before text) parts.0 ∙ among_left before more text parts.1

among_right : (before more : List Name) (text : List ℕ) → is_among (before ++ more) text ≡ false → is_among more text ≡ false
among_right [] more text free = free
among_right (name ∷ before) more text free =
    among_right before more text (neither (bytes_eq (name_text name) text) (is_among (before ++ more) text) free).1

no_more : {X : Type 0} (xs : List X) (n : ℕ) → slice_get xs n ≡ None → length xs ≤ n
no_more [] n is = omega arith
no_more (x ∷ xs) zero is = absurd (none-some x (sym is))
no_more (x ∷ xs) (suc n) is = let more = no_more xs n is in omega (arith, more)

no_name : (name : Option Name) → fault_at_name name rule.S31 ≡ [] → name ≡ None
no_name None none = refl
no_name (Some name) none = let more = ap (λ (faults : List RuleFault). length faults) none in absurd (omega (arith, more))

semaphore_sense : (of : Sense) → is_role name_role.Semaphore (role_of of) ≡ true → of ≡ Semaphore
semaphore_sense Semaphore is = refl
semaphore_sense of is = absurd (true≢false (sym is))

module _ (numbered : Numbered) (scope : ℕ) (around : Around) (lead : LeadNames numbered (Within scope) around) (apart : HasSemaphoresApart numbered (Within scope)) where
  abbrev number : Name → ℕ
  number name = number_of numbered (Within scope) name

  abbrev IsSemaphoreName : Name → Type 0
  IsSemaphoreName name = seen numbered.table (Within scope) name ≡ Some Semaphore

  semaphores_named : (names : List Name) → AreKept numbered.table (map (Named name_role.Semaphore scope) names) → AllByRecursion IsSemaphoreName names
  semaphores_named [] kept = tt
  semaphores_named (name ∷ names) kept =
      let first = kept.0 in (
        first.known.1 ∙ ap Some (semaphore_sense first.known.0 (named_role numbered scope around lead name_role.Semaphore name first)),
        semaphores_named names kept.1,
      )

  all_there : (names : List Name) → AllByRecursion IsSemaphoreName names → AllByRecursion (λ semaphore. semaphore < around.semaphores) (map number names)
  all_there [] named = tt
  all_there (name ∷ names) named = (lead.values.semaphores name named.0, all_there names named.1)

  all_left : (names : List Name) → AllByRecursion IsSemaphoreName names → filter (λ name. is_semaphore (seen numbered.table (Within scope) name)) names ≡ names
  all_left [] named = refl
  all_left (name ∷ names) named =
      ap (λ found. if is_semaphore found then name ∷ filter (λ name. is_semaphore (seen numbered.table (Within scope) name)) names
      else filter (λ name. is_semaphore (seen numbered.table (Within scope) name)) names) named.0 ∙ ap (λ rest. name ∷ rest) (all_left names named.1)

  other_number : (one two : Name) → IsSemaphoreName one → IsSemaphoreName two → bytes_eq (name_text one) (name_text two) ≡ false →
      nat_eq (number one) (number two) ≡ false
  other_number one two first second differ = by (nat_eq (number one) (number two)) refl
    where
      by : (test : Bool) → nat_eq (number one) (number two) ≡ test → test ≡ false
      by true is =
          absurd (true≢false (sym ((bytes_eq-Decides (name_text one) (name_text two)).1 (apart one two first second (eqb-true (number one) (number two) is))) ∙ differ))
      by false is = refl

  -- names behind some of which one is this
  others_apart : (one : Name) (before : List Name) → ((text : List ℕ) → is_among before text ≡ false → bytes_eq (name_text one) text ≡ false) →
      IsSemaphoreName one → (names : List Name) → AllByRecursion IsSemaphoreName names → repeats rule.S31 before names ≡ [] →
      AllByRecursion (λ other. nat_eq (number one) other ≡ false) (map number names)
  others_apart one before excludes is [] named none = tt
  others_apart one before excludes is (name ∷ names) named none =
      let parts = no_fault (is_among before (name_text name)) name.place rule.S31 (repeats rule.S31 (before ++ name ∷ []) names) none in (
        other_number one name is named.0 (excludes (name_text name) parts.0),
        others_apart one (before ++ name ∷ []) (λ text free. excludes text (among_left before (name ∷ []) text free)) is names named.1 parts.1,
      )

  all_apart : (before names : List Name) → AllByRecursion IsSemaphoreName names → repeats rule.S31 before names ≡ [] → IsDistinct nat_eq (map number names)
  unfolding IsDistinct
  all_apart before [] named none = tt
  all_apart before (name ∷ names) named none =
      let parts = no_fault (is_among before (name_text name)) name.place rule.S31 (repeats rule.S31 (before ++ name ∷ []) names) none in (
        others_apart name (before ++ name ∷ [])
            (λ text free. (neither (bytes_eq (name_text name) text) false (among_right before (name ∷ []) text free)).0) named.0 names named.1 parts.1,
        all_apart (before ++ name ∷ []) names named.1 parts.1,
      )

  so_long : (names : List Name) → length (map number names) ≡ length names
  so_long [] = refl
  so_long (name ∷ names) = ap suc (so_long names)

  semaphores_sound : (names : List Name) → 0 < length names → AreKept numbered.table (map (Named name_role.Semaphore scope) names) →
      repeats rule.S31 [] (filter (λ name. is_semaphore (seen numbered.table (Within scope) name)) names) ++ fault_at_name (slice_get names 16) rule.S31 ≡ [] →
      AreSemaphores around (map number names)
  semaphores_sound names some kept none =
      let twice = repeats rule.S31 [] (filter (λ name. is_semaphore (seen numbered.table (Within scope) name)) names) in
      let many = fault_at_name (slice_get names 16) rule.S31 in
      let named = semaphores_named names kept in
      let long = so_long names in
      record {
        some = omega (arith, some, long);
        few = let more = no_more names 16 (no_name (slice_get names 16) (right_none twice many none)) in omega (arith, more, long);
        distinct = all_apart [] names named (subst (λ names. repeats rule.S31 [] names ≡ []) (all_left names named) (left_none twice many none));
        there = all_there names named;
      }

  pub lists_sound : (word : SemaWord) (names : List Name) → 0 < length names → AreKept numbered.table (map (Named name_role.Semaphore scope) names) →
      repeats rule.S31 [] (filter (λ name. is_semaphore (seen numbered.table (Within scope) name)) names) ++ fault_at_name (slice_get names 16) rule.S31 ≡ [] →
      AreStmts around (alone (on_semaphores word (map number names)))
  lists_sound Request names some kept none = (semaphores_sound names some kept none, tt)
  lists_sound Release names some kept none = (semaphores_sound names some kept none, tt)

pub semaphore_statement_sound : (numbered : Numbered) (sort : RoutineSort) (place : Placed) (at : At) (around : Around) →
    LeadNames numbered (Within place.spot.scope) around → HasSemaphoresApart numbered (Within place.spot.scope) →
    (word : SemaWord) (names : List Name) (from : ℕ) → place.statement ≡ OfOnSemas word names from → 0 < length names →
    AllByRecursion (IsKnown numbered.table) (asked_at place) → statement_faults numbered.table sort place ≡ [] →
    AreStmts around (resolve_stmt numbered place.spot.scope at place.statement)
semaphore_statement_sound numbered sort place at around lead apart word names from is some known none =
    let table = numbered.table in
    let scope = place.spot.scope in
    let s = OfOnSemas word names from in
    let asked = flat_map (asked_faults table) (stmt_asked scope place.next s) in
    let own = own_faults table sort (record { spot = place.spot; next = place.next; statement = s }) in
    let faults = subst (λ s. flat_map (asked_faults table) (stmt_asked scope place.next s) ++
    own_faults table sort (record { spot = place.spot; next = place.next; statement = s }) ≡ []) is none in
    let kept = all_kept table (stmt_asked scope place.next s) (subst (λ s. AllByRecursion (IsKnown table) (stmt_asked scope place.next s)) is known)
    (left_none asked own faults) in
    subst (λ s. AreStmts around (resolve_stmt numbered scope at s)) (sym is)
    (lists_sound numbered scope around lead apart word names some kept (left_none (s31 table scope s) [] (right_none asked own faults)))
