-- Two semaphores of a module have two numbers.
use Rattle.std.specs.Prelude.{◌≡◌, ℕ, zero, suc, nat_lt, Bool, true, false, if◌then◌else◌, List, [], ◌∷◌, Option, Some, None, option_map, unwrap_or, slice_get}
use Rattle.std.specs.Option.{option_and_then}
use Rattle.std.specs.Str.{bytes_eq}
use Rattle.std.proofs.Common.{refl, ap, ◌∙◌, sym, subst, arith}
use Rattle.std.proofs.lemmas.Bool.{ltb-true, ltb-false}
use Rattle.std.proofs.lemmas.Option.{none-some}
use Rattle.std.proofs.lemmas.Slice.Eq.{bytes_eq-Decides}
use Rattle.pearl_tree.specs.declared.name.Name.{Name}
use Rattle.pearl_tree.specs.Names.{name_text}
use Rattle.pearl_tree.specs.ShownModules.{ShownTree}
use Rattle.pearl_names.specs.declared.meaning.Found.{Found}
use Rattle.pearl_names.specs.declared.scope.SortedName.{SortedName}
use Rattle.pearl_names.specs.declared.scope.View.TheVariants.{Within}
use Rattle.pearl_names.specs.FirstNames.{first_index}
use Rattle.pearl_names.specs.Found.{names_in, found_from}
use Rattle.pearl_names.specs.Known.{Known}
use Rattle.pearl_names.specs.Scopes.{Meaning}
use Rattle.pearl_names.specs.Scopes as scopes
use Rattle.pearl_names.specs.Tables.{Sense, Semaphore, sense_of, sense_at, table_of}
use Rattle.pearl_check.specs.Views.{is_semaphore}
use Rattle.pearl_system.specs.declared.device.SpecifiedDevice.{SpecifiedDevice}
use Rattle.pearl_resolve.specs.Numbers.{Before, behind, module_numbers, nothing_before, senses_at}
use Rattle.pearl_resolve.specs.Expressions.{Numbered, Meant, meant_at, number_at, number_of}
use Rattle.pearl_resolve.specs.Resolve.{numbered_of}
use Rattle.pearl_sound.specs.SoundNames.{HasSemaphoresApart}
use Rattle.pearl_sound.proofs.Apart.{numbers_apart}
use Rattle.pearl_sound.proofs.InnerScopes.{found_text, IsInner, IsOfModule, scope_of_module}
use Rattle.pearl_sound.proofs.SoundParts.{some_one}

-- the name that is found has the text
record HasText (names : List SortedName) (text : List ℕ) (j : ℕ) : Type 0 where
  pub entry : SortedName
  pub there : slice_get names j ≡ Some entry
  pub same : name_text entry.name ≡ text

later_text : (first : SortedName) (rest : List SortedName) (text : List ℕ) (j : ℕ) → ((k : ℕ) → first_index rest text ≡ Some k → HasText rest text k) →
    (found : Option ℕ) → first_index rest text ≡ found → option_map suc found ≡ Some j → HasText (first ∷ rest) text j
later_text first rest text j more None at is = absurd (none-some j is)
later_text first rest text j more (Some k) at is =
    let own = more k at in
    subst (λ n. HasText (first ∷ rest) text n) (some_one is) (record { entry = own.entry; there = own.there; same = own.same })

one_text : (first : SortedName) (rest : List SortedName) (text : List ℕ) (j : ℕ) → ((k : ℕ) → first_index rest text ≡ Some k → HasText rest text k) →
    (test : Bool) → bytes_eq text (name_text first.name) ≡ test → (if test then Some 0 else option_map suc (first_index rest text)) ≡ Some j →
    HasText (first ∷ rest) text j
one_text first rest text j more true same is =
    subst (λ n. HasText (first ∷ rest) text n) (some_one is)
    (record { entry = first; there = refl; same = sym ((bytes_eq-Decides text (name_text first.name)).0 same) })
one_text first rest text j more false same is = later_text first rest text j more (first_index rest text) refl is

first_text : (names : List SortedName) (text : List ℕ) (j : ℕ) → first_index names text ≡ Some j → HasText names text j
first_text [] text j is = absurd (none-some j is)
first_text (first ∷ rest) text j is =
    one_text first rest text j (λ k at. first_text rest text k at) (bytes_eq text (name_text first.name)) refl is

-- in the module's own scope
semaphores_of_module : IsOfModule is_semaphore
semaphores_of_module = record { nothing = refl; inner = no_semaphore }
  where
    no_semaphore : (known : Known) (n : ℕ) (meaning : Meaning) (name : Name) → IsInner (record { name = name; meaning = meaning }) →
        is_semaphore (Some (sense_of known n meaning)) ≡ false
    no_semaphore known n (scopes.Variable item types) name inner = refl
    no_semaphore known n (scopes.Control loop) name inner = refl
    no_semaphore known n (scopes.Parameter part ident) name inner = refl
    no_semaphore known n meaning name inner = absurd inner

number_in_row : (devices : List SpecifiedDevice) (numbers : List ℕ) (before : Before) (entries : List SortedName) (senses : List Sense) (j : ℕ) (entry : SortedName) (sense : Sense) →
    slice_get entries j ≡ Some entry → slice_get senses j ≡ Some sense →
    slice_get (module_numbers devices numbers before entries senses) j ≡
    Some (unwrap_or (slice_get (module_numbers devices numbers before entries senses) j) 0)
number_in_row devices numbers before [] senses j entry sense is has = absurd (none-some entry is)
number_in_row devices numbers before (first ∷ entries) [] j entry sense is has = absurd (none-some sense has)
number_in_row devices numbers before (first ∷ entries) (head ∷ senses) zero entry sense is has = refl
number_in_row devices numbers before (first ∷ entries) (head ∷ senses) (suc j) entry sense is has =
    number_in_row devices numbers (behind before head) entries senses j entry sense is has

among_senses : (senses : Option (List Sense)) (j : ℕ) (sense : Sense) → option_and_then (λ senses. slice_get senses j) senses ≡ Some sense →
    slice_get (unwrap_or senses []) j ≡ Some sense
among_senses None j sense is = absurd (none-some sense is)
among_senses (Some senses) j sense is = is

module _ (tree : ShownTree) (devices : List SpecifiedDevice) (procedures : List ℕ) where
  abbrev numbered : Numbered
  numbered = numbered_of (table_of tree) devices procedures tree

  -- a semaphore's name, where it stands and which number it has
  record IsAt (text : List ℕ) (j number : ℕ) : Type 0 where
    pub text_is : HasText (names_in (slice_get numbered.table.names 0)) text j
    pub sense : slice_get (senses_at numbered.table 0) j ≡ Some Semaphore
    pub number_is : slice_get (module_numbers devices procedures nothing_before (names_in (slice_get numbered.table.names 0)) (senses_at numbered.table 0)) j ≡ Some number

  found_at : (scope : ℕ) (name : Name) (found : Option Found) → found_from numbered.table.names (Within scope) (name_text name) ≡ found →
      option_and_then (sense_at numbered.table.senses) found ≡ Some Semaphore →
      (j : ℕ) × IsAt (name_text name) j (unwrap_or (option_map (λ (thing : Meant). thing.number) (option_and_then (meant_at numbered) found)) 0)
  found_at scope name None at is = absurd (none-some Semaphore is)
  found_at scope name (Some found) at is =
      let outer = scope_of_module is_semaphore semaphores_of_module tree found (ap is_semaphore is) in
      let index = subst (λ n. first_index (names_in (slice_get numbered.table.names n)) (name_text name) ≡ Some found.entry) outer
      (found_text numbered.table.names (suc scope) (name_text name) (Some scope) found at) in
      let text = first_text (names_in (slice_get numbered.table.names 0)) (name_text name) found.entry index in
      let sense = among_senses (slice_get numbered.table.senses 0) found.entry Semaphore
      (subst (λ n. option_and_then (λ senses. slice_get senses found.entry) (slice_get numbered.table.senses n) ≡ Some Semaphore) outer is) in
      let number = number_in_row devices procedures nothing_before (names_in (slice_get numbered.table.names 0)) (senses_at numbered.table 0) found.entry
      text.entry Semaphore text.there sense in (
        found.entry,
        record {
          text_is = text;
          sense = sense;
          number_is = number ∙ ap Some
              (ap (λ n. unwrap_or (slice_get (unwrap_or (slice_get numbered.numbers n) []) found.entry) 0) (sym outer) ∙
              ap (λ here. unwrap_or (option_map (λ (thing : Meant). thing.number)
              (option_map (λ sense. record { sense = sense; scope = found.scope; number = number_at numbered.numbers found }) here)) 0) (sym is));
        },
      )

  -- no number before another is the same
  not_before : (i j number : ℕ) (one two : List ℕ) → IsAt one i number → IsAt two j number → nat_lt i j ≡ false
  not_before i j number one two first second = by (nat_lt i j) refl
    where
      by : (test : Bool) → nat_lt i j ≡ test → test ≡ false
      by true is =
          let less = numbers_apart devices procedures nothing_before (names_in (slice_get numbered.table.names 0)) (senses_at numbered.table 0) i j number number
          Semaphore Semaphore (ltb-true i j is) first.sense first.number_is second.sense second.number_is in
          absurd (omega (arith, less))
      by false is = refl

  same_text : (i j number : ℕ) (one two : List ℕ) → IsAt one i number → IsAt two j number → one ≡ two
  same_text i j number one two first second =
      let low = ltb-false i j (not_before i j number one two first second) in
      let high = ltb-false j i (not_before j i number two one second first) in
      let same : i ≡ j = omega (arith, low, high) in
      let entry = some_one (sym first.text_is.there ∙ ap (λ n. slice_get (names_in (slice_get numbered.table.names 0)) n) same ∙ second.text_is.there) in
      sym first.text_is.same ∙ ap (λ (entry : SortedName). name_text entry.name) entry ∙ second.text_is.same

  pub semaphores_apart : (scope : ℕ) → HasSemaphoresApart numbered (Within scope)
  semaphores_apart scope one two first second same =
      let a = found_at scope one (found_from numbered.table.names (Within scope) (name_text one)) refl first in
      let b = found_at scope two (found_from numbered.table.names (Within scope) (name_text two)) refl second in
      same_text a.0 b.0 (number_of numbered (Within scope) two) (name_text one) (name_text two)
      (subst (λ n. IsAt (name_text one) a.0 n) same a.1) b.1
