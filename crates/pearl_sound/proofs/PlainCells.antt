-- The cells of a routine: those of its parameters, and behind them cells for values alone.
use Rattle.std.specs.Prelude.{◌≡◌, ℕ, zero, suc, ◌+◌, ◌≤◌, ℤ, Bool, true, false, List, [], ◌∷◌, ◌++◌, length, map, take, drop, replicate, Option, Some, None, option_map, unwrap_or, slice_get}
use Rattle.std.specs.Option.{option_and_then}
use Rattle.std.specs.List.{AllByRecursion, flat_map, sum_by}
use Rattle.std.proofs.Common.{refl, ap, ◌∙◌, sym, subst, arith}
use Rattle.std.proofs.lemmas.List.{length-append, append_assoc}
use Rattle.std.proofs.lemmas.List.Concat.{flat_map-append}
use Rattle.std.proofs.lemmas.List.Sums.{sum_by-cons}
use Rattle.pearl_value.specs.declared.kind.Kind.{Kind}
use Rattle.pearl_value.specs.declared.kind.Kind.TheVariants.{Fixed}
use Rattle.pearl_value.specs.declared.kind.CellKind.{CellKind}
use Rattle.pearl_value.specs.declared.kind.CellKind.TheVariants.{Plain}
use Rattle.pearl_value.specs.Kinds.{IsKind}
use Rattle.pearl_tree.specs.declared.name.Name.{Name}
use Rattle.pearl_tree.specs.declared.typing.Basic.{Basic}
use Rattle.pearl_tree.specs.declared.typing.Sort.TheVariants as sorts
use Rattle.pearl_tree.specs.Names.{name_text, names_of}
use Rattle.pearl_tree.specs.ShownExpressions.{ShownRef, ShownSelectors, NoSelectors, MoreSelectors, OfSubscripts, OfComponent}
use Rattle.pearl_tree.specs.ShownDeclarations.{ShownItem, ShownParam}
use Rattle.pearl_tree.specs.ShownStatements as shown
use Rattle.pearl_tree.specs.ShownStatements.{ShownBodyDecl, ShownStmt, ShownStmts}
use Rattle.pearl_tree.specs.ShownModules.{ShownBody, ShownTree}
use Rattle.pearl_names.specs.declared.meaning.Found.{Found}
use Rattle.pearl_names.specs.declared.scope.View.{View}
use Rattle.pearl_names.specs.declared.scope.View.TheVariants.{Within}
use Rattle.pearl_names.specs.Found.{found_from}
use Rattle.pearl_names.specs.Forms.{Component, component}
use Rattle.pearl_names.specs.Known.{Known, known_of}
use Rattle.pearl_names.specs.Layout.{Leaf, leaves_of, leaves_of_fields, elements, leaf_slots, slots_of}
use Rattle.pearl_names.specs.Lengths.{length_at, kind_of_basic}
use Rattle.pearl_names.specs.Scopes.{Entry, Scope, scopes_of, as_stmts, entries_as, item_entries, body_decl_entries, body_entries, param_entries, control_entries, routine_scopes, all_scopes}
use Rattle.pearl_names.specs.Scopes as scopes
use Rattle.pearl_names.specs.Shapes.{Shape, OfKind, OfFields, Fields, NoField, MoreField}
use Rattle.pearl_names.specs.Tables.{Sense, Variable, Control, OwnParameter, sense_at, senses_of, table_of, leaves_in}
use Rattle.pearl_program.specs.Sound.{IsCellKind, IsPlain}
use Rattle.pearl_program.specs.SoundStatements.{IsIf}
use Rattle.pearl_resolve.specs.Laying.{cells_of_sense}
use Rattle.pearl_resolve.specs.Numbers.{At, counts, loop_cells, entered, senses_at, in_body}
use Rattle.pearl_resolve.specs.Cells.{param_cell, sense_cells, scope_cells, counter_cells, get_cells, cells_in_all, routine_cells}
use Rattle.pearl_resolve.specs.Expressions.{Numbered, meant, meant_at, number_at, walk_of, walk_from, Walk, to_field, field_of, kind_of_shape, along, step, target_kind}
use Rattle.pearl_resolve.specs.Resolve.{names_in_param}
use Rattle.pearl_sound.specs.SoundForms.{HasBounds, FieldsHaveBounds, HasSoundForm, IsKindIf, IsSoundSense}
use Rattle.pearl_sound.proofs.ByNumber.{all_at}
use Rattle.pearl_sound.proofs.Going.{scope_length, goes}
use Rattle.pearl_sound.proofs.Leading.{thing_of}
use Rattle.pearl_sound.proofs.Literals.{all_set}
use Rattle.pearl_sound.proofs.ModuleEntries.{senses_append}
use Rattle.pearl_sound.proofs.Reaching.{component_has}
use Rattle.pearl_sound.proofs.ScopesThere.{head_there, left_lies, right_lies, scope_senses}
use Rattle.pearl_sound.proofs.SimpleStatements.{split_all}
use Rattle.pearl_sound.proofs.SoundForms.{all_append, at_kind, senses_sound}
use Rattle.pearl_sound.proofs.Stretched.{Lies}
use Rattle.pearl_sound.proofs.Walk.{Passage, One, Each, Branches, Otherwise, PartsKeep, walk, Pieces, in_turn, pieces, summed, counted}

fixed_kind : IsKind (Fixed 31)
fixed_kind = (omega arith, omega arith)

pub or_fixed : (kind : Option Kind) → IsKindIf kind → IsKind (unwrap_or kind (Fixed 31))
or_fixed None is = fixed_kind
or_fixed (Some kind) is = is

-- kinds of leaves
abbrev HasLeafKind : Leaf → Type 0
HasLeafKind leaf = IsKind leaf.kind

mutual
  shape_kinds : (path : List (List ℕ)) (bounds : List (ℤ × ℤ)) (shape : Shape) → HasBounds shape → AllByRecursion HasLeafKind (leaves_of path bounds shape)
  shape_kinds path bounds (OfKind kind) has = (has, tt)
  shape_kinds path bounds (OfFields fields) has = fields_kinds path bounds fields has

  fields_kinds : (path : List (List ℕ)) (bounds : List (ℤ × ℤ)) (fields : Fields) → FieldsHaveBounds fields →
      AllByRecursion HasLeafKind (leaves_of_fields path bounds fields)
  fields_kinds path bounds NoField has = tt
  fields_kinds path bounds (MoreField name own shape rest) has =
      all_append HasLeafKind (leaves_of (path ++ name ∷ []) (bounds ++ own) shape) (leaves_of_fields path bounds rest)
      (shape_kinds (path ++ name ∷ []) (bounds ++ own) shape has.1) (fields_kinds path bounds rest has.2)

some_plain : (n : ℕ) (kind : Kind) → IsKind kind → AllByRecursion IsPlain (replicate n (Plain kind))
some_plain zero kind is = tt
some_plain (suc n) kind is = (is, some_plain n kind is)

repeated_kind : (n : ℕ) (kind : Kind) → IsKind kind → AllByRecursion IsKind (replicate n kind)
repeated_kind zero kind is = tt
repeated_kind (suc n) kind is = (is, repeated_kind n kind is)

kinds_plain : (kinds : List Kind) → AllByRecursion IsKind kinds → AllByRecursion IsPlain (map Plain kinds)
kinds_plain [] are = tt
kinds_plain (kind ∷ rest) are = (are.0, kinds_plain rest are.1)

slots_kinds : (leaves : List Leaf) → AllByRecursion HasLeafKind leaves → AllByRecursion IsKind (slots_of leaves)
slots_kinds [] are = tt
slots_kinds (leaf ∷ rest) are =
    all_append IsKind (leaf_slots leaf) (slots_of rest) (repeated_kind (elements leaf.bounds) leaf.kind are.0) (slots_kinds rest are.1)

form_plain : (form : _) → HasSoundForm form → AllByRecursion IsPlain (map Plain (slots_of (leaves_in form)))
form_plain None sound = tt
form_plain (Some form) sound =
    let leaves = leaves_of [] form.bounds form.shape in
    kinds_plain (slots_of leaves) (slots_kinds leaves (shape_kinds [] form.bounds form.shape sound.shape))

-- a name that is no parameter
abbrev IsInner : Sense → Type 0
IsInner (OwnParameter parameter) = ⊥
IsInner sense = Unit {0}

sense_plain : (sense : Sense) → IsInner sense → IsSoundSense sense → AllByRecursion IsPlain (sense_cells sense)
sense_plain (Variable form inv) inner sound = form_plain form sound
sense_plain (OwnParameter parameter) inner sound = absurd inner
sense_plain sense inner sound = tt

senses_plain : (senses : List Sense) → AllByRecursion IsInner senses → AllByRecursion IsSoundSense senses →
    AllByRecursion IsPlain (flat_map sense_cells senses)
senses_plain [] inner sound = tt
senses_plain (sense ∷ rest) inner sound =
    all_append IsPlain (sense_cells sense) (flat_map sense_cells rest) (sense_plain sense inner.0 sound.0) (senses_plain rest inner.1 sound.1)

-- what a body and a loop declare is no parameter
module _ (known : Known) (n : ℕ) where
  abbrev AreInner : List Entry → Type 0
  AreInner entries = AllByRecursion IsInner (senses_of known n entries)

  both_inner : (one two : List Entry) → AreInner one → AreInner two → AreInner (one ++ two)
  both_inner one two first second =
      subst (λ senses. AllByRecursion IsInner senses) (sym (senses_append known n one two))
      (all_append IsInner (senses_of known n one) (senses_of known n two) first second)

  names_inner : (item : ShownItem) (types : ℕ) (names : List Name) → AreInner (entries_as (scopes.Variable item types) names)
  names_inner item types [] = tt
  names_inner item types (name ∷ names) = (tt, names_inner item types names)

  items_inner : (types : ℕ) (items : List ShownItem) → AreInner (flat_map (item_entries types) items)
  items_inner types [] = tt
  items_inner types (item ∷ rest) =
      both_inner (item_entries types item) (flat_map (item_entries types) rest) (names_inner item types (names_of item.names)) (items_inner types rest)

  body_inner : (types : ℕ) (declarations : List ShownBodyDecl) → AreInner (body_entries types declarations)
  body_inner types [] = tt
  body_inner types (declaration ∷ rest) =
      both_inner (body_decl_entries types declaration) (body_entries types rest) (items_inner types declaration.items) (body_inner types rest)

  loop_inner : (types place : ℕ) (control : Option Name) (declarations : List ShownBodyDecl) →
      AreInner (control_entries place control ++ body_entries types declarations)
  loop_inner types place None declarations = body_inner types declarations
  loop_inner types place (Some name) declarations = (tt, body_inner types declarations)

counters_plain : (counting : Bool) (len : ℕ) → IsKind (Fixed len) → AllByRecursion IsPlain (counter_cells counting len)
counters_plain true len is = some_plain 3 (Fixed len) is
counters_plain false len is = tt

-- where a reference leads
thing_shape : (sense : Sense) (scope number : ℕ) → IsSoundSense sense → HasBounds (walk_of (thing_of sense scope number)).shape
thing_shape (Variable (Some form) inv) scope number sound = sound.shape
thing_shape (Control kind) scope number sound = sound
thing_shape (OwnParameter parameter) scope number sound = or_fixed parameter.kind sound
thing_shape sense scope number sound = fixed_kind

component_shape : (walk : Walk) (fields : Fields) (text : List ℕ) (field : Option Component) → component 0 0 fields text ≡ field →
    FieldsHaveBounds fields → HasBounds walk.shape → HasBounds (to_field walk field).shape
component_shape walk fields text None is has own = own
component_shape walk fields text (Some field) is has own = (component_has 0 0 fields text field has is).1

field_shape : (walk : Walk) (shape : Shape) (name : Name) → HasBounds shape → HasBounds walk.shape → HasBounds (to_field walk (field_of shape name)).shape
field_shape walk (OfKind kind) name has own = own
field_shape walk (OfFields fields) name has own =
    component_shape walk fields (name_text name) (component 0 0 fields (name_text name)) refl has own

shape_kind : (shape : Shape) → HasBounds shape → IsKind (kind_of_shape shape)
shape_kind (OfKind kind) has = has
shape_kind (OfFields fields) has = fixed_kind

along_shape : (numbered : Numbered) (view : View) (walk : Walk) (selectors : ShownSelectors) → HasBounds walk.shape →
    HasBounds (along numbered view walk selectors).shape
along_shape numbered view walk NoSelectors has = has
along_shape numbered view walk (MoreSelectors (OfSubscripts exprs place) rest) has =
    along_shape numbered view (step numbered view walk (OfSubscripts exprs place)) rest has
along_shape numbered view walk (MoreSelectors (OfComponent name place) rest) has =
    along_shape numbered view (to_field walk (field_of walk.shape name)) rest (field_shape walk walk.shape name has has)

-- the first of two lists, and what is behind it
pub taken_front : {X : Type 0} (xs ys : List X) (n : ℕ) → length xs ≡ n → take n (xs ++ ys) ≡ xs
taken_front [] ys zero is = refl
taken_front [] ys (suc n) is = absurd (omega (arith, is))
taken_front (x ∷ xs) ys zero is = absurd (omega (arith, is))
taken_front (x ∷ xs) ys (suc n) is = ap (λ more. x ∷ more) (taken_front xs ys n (omega (arith, is)))

pub dropped_front : {X : Type 0} (xs ys : List X) (n : ℕ) → length xs ≡ n → drop n (xs ++ ys) ≡ ys
dropped_front [] ys zero is = refl
dropped_front [] ys (suc n) is = absurd (omega (arith, is))
dropped_front (x ∷ xs) ys zero is = absurd (omega (arith, is))
dropped_front (x ∷ xs) ys (suc n) is = dropped_front xs ys n (omega (arith, is))

-- parameters
param_kind : (ident : Bool) (kind : Kind) → IsKind kind → IsCellKind (param_cell ident kind)
param_kind true kind is = is
param_kind false kind is = is

named_kinds : (known : Known) (n : ℕ) (basic : Basic) (ident : Bool) (names : List Name) →
    AllByRecursion IsSoundSense (senses_of known n (entries_as (scopes.Parameter basic ident) names)) →
    AllByRecursion IsCellKind (flat_map sense_cells (senses_of known n (entries_as (scopes.Parameter basic ident) names)))
named_kinds known n basic ident [] sound = tt
named_kinds known n basic ident (name ∷ names) sound =
    let kind = kind_of_basic known.lengths basic in
    (param_kind ident (unwrap_or kind (Fixed 31)) (or_fixed kind sound.0), named_kinds known n basic ident names sound.1)

named_count : (known : Known) (n : ℕ) (basic : Basic) (ident : Bool) (names : List Name) →
    length (flat_map sense_cells (senses_of known n (entries_as (scopes.Parameter basic ident) names))) ≡ length names
named_count known n basic ident [] = refl
named_count known n basic ident (name ∷ names) = ap suc (named_count known n basic ident names)

abbrev cells_in_entries : Known → ℕ → List Entry → List CellKind
cells_in_entries known n entries = flat_map sense_cells (senses_of known n entries)

entries_split : (known : Known) (n : ℕ) (one two : List Entry) →
    cells_in_entries known n (one ++ two) ≡ cells_in_entries known n one ++ cells_in_entries known n two
entries_split known n one two =
    ap (λ senses. flat_map sense_cells senses) (senses_append known n one two) ∙
    flat_map-append sense_cells (senses_of known n one) (senses_of known n two)

split_sound : (known : Known) (n : ℕ) (one two : List Entry) → AllByRecursion IsSoundSense (senses_of known n (one ++ two)) →
    AllByRecursion IsSoundSense (senses_of known n one) × AllByRecursion IsSoundSense (senses_of known n two)
split_sound known n one two sound =
    split_all IsSoundSense (senses_of known n one) (senses_of known n two)
    (subst (λ senses. AllByRecursion IsSoundSense senses) (senses_append known n one two) sound)

params_kinds : (known : Known) (n : ℕ) (params : List ShownParam) → AllByRecursion IsSoundSense (senses_of known n (flat_map param_entries params)) →
    AllByRecursion IsCellKind (cells_in_entries known n (flat_map param_entries params))
params_kinds known n [] sound = tt
params_kinds known n (param ∷ rest) sound =
    let one = param_entries param in
    let two = flat_map param_entries rest in
    let parts = split_sound known n one two sound in
    subst (λ cells. AllByRecursion IsCellKind cells) (sym (entries_split known n one two))
    (all_append IsCellKind (cells_in_entries known n one) (cells_in_entries known n two)
    (named_kinds known n param.basic param.ident (names_of param.names) parts.0) (params_kinds known n rest parts.1))

params_count : (known : Known) (n : ℕ) (params : List ShownParam) →
    length (cells_in_entries known n (flat_map param_entries params)) ≡ sum_by names_in_param params
params_count known n [] = refl
params_count known n (param ∷ rest) =
    let one = param_entries param in
    let two = flat_map param_entries rest in
    let split = ap (λ (cells : List CellKind). length cells) (entries_split known n one two) in
    let both = length-append (cells_in_entries known n one) (cells_in_entries known n two) in
    let first = named_count known n param.basic param.ident (names_of param.names) in
    let more = params_count known n rest in
    let sum = sum_by-cons names_in_param param rest in
    omega (arith, split, both, first, more, sum)

module _ (tree : ShownTree) (numbers : List (List ℕ)) where
  abbrev of : Numbered
  of = record { table = table_of tree; numbers = numbers }

  abbrev known : Known
  known = known_of tree

  sound_in : (found : Option (List Sense)) → AllByRecursion IsSoundSense (unwrap_or found []) → (entry : ℕ) →
      IsIf IsSoundSense (option_and_then (λ names. slice_get names entry) found)
  sound_in None sound entry = tt
  sound_in (Some senses) sound entry = by (slice_get senses entry) refl
    where
      by : (found : Option Sense) → slice_get senses entry ≡ found → IsIf IsSoundSense found
      by None is = tt
      by (Some sense) is = all_at IsSoundSense senses entry sense sound is

  sense_shape : (found : Found) (sense : Option Sense) → IsIf IsSoundSense sense →
      HasBounds (walk_from (option_map (λ sense. thing_of sense found.scope (number_at numbers found)) sense)).shape
  sense_shape found None sound = fixed_kind
  sense_shape found (Some sense) sound = thing_shape sense found.scope (number_at numbers found) sound

  found_shape : (found : Option Found) → HasBounds (walk_from (option_and_then (meant_at of) found)).shape
  found_shape None = fixed_kind
  found_shape (Some found) =
      sense_shape found (sense_at of.table.senses found) (sound_in (slice_get of.table.senses found.scope) (senses_sound tree found.scope) found.entry)

  pub target_is_kind : (view : View) (target : ShownRef) → IsKind (target_kind of view target)
  target_is_kind view target =
      let walk = along of view (walk_from (meant of view target.name)) target.selectors in
      shape_kind walk.shape (along_shape of view (walk_from (meant of view target.name)) target.selectors
      (found_shape (found_from of.table.names view (name_text target.name))))

  targets_plain : (scope : ℕ) (targets : List ShownRef) →
      AllByRecursion IsPlain (map (λ target. Plain (target_kind of (Within scope) target)) targets)
  targets_plain scope [] = tt
  targets_plain scope (target ∷ rest) = (target_is_kind (Within scope) target, targets_plain scope rest)

  gets_plain : (scope : ℕ) (targets : List ShownRef) → AllByRecursion IsPlain (get_cells of scope targets)
  gets_plain scope targets =
      all_append IsPlain (map (λ target. Plain (target_kind of (Within scope) target)) targets) (replicate (length targets) (Plain (Fixed 31)))
      (targets_plain scope targets) (some_plain (length targets) (Fixed 31) fixed_kind)

  -- a scope without parameters
  inner_plain : (n : ℕ) (scope : Scope) → slice_get (scopes_of tree) n ≡ Some scope → AllByRecursion IsInner (senses_of known n scope.entries) →
      AllByRecursion IsPlain (scope_cells of.table n)
  inner_plain n scope there inner =
      senses_plain (senses_at of.table n) (subst (λ senses. AllByRecursion IsInner senses) (sym (scope_senses tree n scope there)) inner)
      (senses_sound tree n)

  abbrev Written : ℕ → List Scope → Type 0
  Written at list = Lies (scopes_of tree) list at

  abbrev ArePlain : Pieces → Type 0
  ArePlain piece = (types scope : ℕ) (at : At) → Written at.next (piece.list types scope at.next) → AllByRecursion IsPlain (piece.cells scope at)

  both_plain : (one two : Passage) → ArePlain (pieces of one) → ArePlain (pieces of two) → ArePlain (in_turn (pieces of one) (pieces of two))
  both_plain one two first second types scope at written =
      let a = pieces of one in
      let b = pieces of two in
      let middle = a.after at in
      let past = (goes of one scope at).next in
      let count = counted of one types scope at.next in
      all_append IsPlain (a.cells scope at) (b.cells scope middle)
      (first types scope at (left_lies (a.list types scope at.next) (b.list types scope (at.next + a.scopes)) written))
      (second types scope middle (subst (λ n. Written middle.next (b.list types scope n)) (sym past)
      (right_lies (a.list types scope at.next) (b.list types scope (at.next + a.scopes)) middle.next (omega (arith, past, count)) written)))

  stmt_plain : (s : ShownStmt) → PartsKeep (λ passage. ArePlain (pieces of passage)) s → ArePlain (pieces of (One s))
  stmt_plain (shown.OfIf condition statements otherwise place) parts = both_plain (Each statements) (Otherwise otherwise) parts.0 parts.1
  stmt_plain (shown.OfCase selector alternatives otherwise place) parts = both_plain (Branches alternatives) (Otherwise otherwise) parts.0 parts.1
  stmt_plain (shown.OfRepeat control begin step end condition declarations statements body_place place) parts = λ types scope at written.
      let inner = entered of.table (loop_cells control begin step end) at in
      let own : Scope = record { outer = Some scope; entries = control_entries place control ++ body_entries types declarations } in
      let list = all_scopes types at.next (at.next + 1) statements in
      let len = length_at of.table.lengths sorts.Fixed place in
      let counter = counter_cells (counts control begin step end) len in
      let names = scope_cells of.table at.next in
      let more = cells_in_all of at.next inner statements in
      all_append IsPlain counter (names ++ more)
      (counters_plain (counts control begin step end) len (at_kind of.table.lengths (all_set tree.declarations) sorts.Fixed place))
      (all_append IsPlain names more
      (inner_plain at.next own (head_there own list written) (loop_inner known at.next types place control declarations))
      (parts types at.next inner (right_lies (own ∷ []) list (at.next + 1) refl written)))
  stmt_plain (shown.OfBegin declarations statements body_place place) parts = λ types scope at written.
      let inner = entered of.table 0 at in
      let own : Scope = record { outer = Some scope; entries = body_entries types declarations } in
      let list = all_scopes types at.next (at.next + 1) statements in
      all_append IsPlain (scope_cells of.table at.next) (cells_in_all of at.next inner statements)
      (inner_plain at.next own (head_there own list written) (body_inner known at.next types declarations))
      (parts types at.next inner (right_lies (own ∷ []) list (at.next + 1) refl written))
  stmt_plain (shown.OfGet targets dation formats place) parts = λ types scope at written. gets_plain scope targets
  stmt_plain statement parts = λ types scope at written. tt

  all_plain : (types scope : ℕ) (at : At) (statements : ShownStmts) → Written at.next (all_scopes types scope at.next statements) →
      AllByRecursion IsPlain (cells_in_all of scope at statements)
  all_plain types scope at statements written =
      walk (λ passage. ArePlain (pieces of passage)) (summed of ArePlain (λ types scope at written. tt) both_plain stmt_plain)
      (Each statements) types scope at written

  -- the cells of a routine with these parameters
  pub record HasSoundCells (at : At) (params : List ShownParam) (body : ShownBody) : Type 0 where
    pub first : AllByRecursion IsCellKind (take (sum_by names_in_param params) (routine_cells of at body))
    pub others : AllByRecursion IsPlain (drop (sum_by names_in_param params) (routine_cells of at body))
    pub few : sum_by names_in_param params ≤ length (routine_cells of at body)
    pub own : sum_by names_in_param params ≤ sum_by cells_of_sense (senses_at of.table at.next)

  pub routine_sound_cells : (types : ℕ) (at : At) (params : List ShownParam) (body : ShownBody) →
      Written at.next (routine_scopes types at.next params body) → HasSoundCells at params body
  routine_sound_cells types at params body written =
      let n = at.next in
      let fronts = flat_map param_entries params in
      let backs = body_entries types body.declarations in
      let own : Scope = record { outer = Some 0; entries = fronts ++ backs } in
      let list = all_scopes types n (n + 1) (as_stmts body.statements) in
      let there = head_there own list written in
      let front = cells_in_entries known n fronts in
      let back = cells_in_entries known n backs in
      let inner = in_body of.table at in
      let more = cells_in_all of n inner (as_stmts body.statements) in
      let senses = scope_senses tree n own there in
      let sound = split_sound known n fronts backs (subst (λ senses. AllByRecursion IsSoundSense senses) senses (senses_sound tree n)) in
      let scope = ap (λ senses. flat_map sense_cells senses) senses ∙ entries_split known n fronts backs in
      let whole : routine_cells of at body ≡ front ++ (back ++ more) = ap (λ cells. cells ++ more) scope ∙ append_assoc front back more in
      let count = params_count known n params in
      let all = ap (λ (cells : List CellKind). length cells) whole in
      let sizes = length-append front (back ++ more) in
      let owns = scope_length of.table n in
      let owned = ap (λ (cells : List CellKind). length cells) scope in
      let parts = length-append front back in
      record {
        first = subst (λ cells. AllByRecursion IsCellKind cells)
            (sym (ap (λ cells. take (sum_by names_in_param params) cells) whole ∙ taken_front front (back ++ more) (sum_by names_in_param params) count))
            (params_kinds known n params sound.0);
        others = subst (λ cells. AllByRecursion IsPlain cells)
            (sym (ap (λ cells. drop (sum_by names_in_param params) cells) whole ∙ dropped_front front (back ++ more) (sum_by names_in_param params) count))
            (all_append IsPlain back more (senses_plain (senses_of known n backs) (body_inner known n types body.declarations) sound.1)
            (all_plain types n inner (as_stmts body.statements) (right_lies (own ∷ []) list (n + 1) refl written)));
        few = omega (arith, all, sizes, count);
        own = omega (arith, owns, owned, parts, count);
      }
