-- From each view in a routine names lead to what is there, where the module's names do.
use Rattle.std.specs.Prelude.{◌≡◌, ℕ, zero, suc, ◌+◌, ◌<◌, nat_eq, Bool, true, false, ◌||◌, if◌then◌else◌, List, [], ◌∷◌, ◌++◌, length, take, drop, Option, Some, None, option_map, unwrap_or, slice_get}
use Rattle.std.specs.Option.{option_and_then}
use Rattle.std.specs.List.{AllByRecursion, list_any, flat_map}
use Rattle.std.proofs.Common.{refl, ap, ◌∙◌, sym, subst, arith}
use Rattle.std.proofs.lemmas.Bool.{eq-eqb}
use Rattle.std.proofs.lemmas.Option.{none-some}
use Rattle.pearl_value.specs.declared.kind.Kind.{Kind}
use Rattle.pearl_value.specs.declared.kind.Kind.TheVariants.{Fixed}
use Rattle.pearl_value.specs.declared.kind.CellKind.{CellKind}
use Rattle.pearl_value.specs.declared.kind.CellKind.TheVariants.{Plain}
use Rattle.pearl_tree.specs.declared.name.Name.{Name}
use Rattle.pearl_tree.specs.declared.typing.Sort.TheVariants as sort
use Rattle.pearl_tree.specs.Names.{name_text, names_of}
use Rattle.pearl_tree.specs.ShownExpressions.{ShownExpr}
use Rattle.pearl_tree.specs.ShownDeclarations.{ShownItem}
use Rattle.pearl_tree.specs.ShownStatements as shown
use Rattle.pearl_tree.specs.ShownStatements.{ShownBodyDecl, ShownStmt, ShownStmts}
use Rattle.pearl_tree.specs.ShownModules.{ShownTree}
use Rattle.pearl_names.specs.declared.meaning.Found.{Found}
use Rattle.pearl_names.specs.declared.scope.View.TheVariants.{Within, WhileOf}
use Rattle.pearl_names.specs.Found.{found_in, found_through, is_control, names_in, outer_of}
use Rattle.pearl_names.specs.FirstNames.{first_index}
use Rattle.pearl_names.specs.Known.{Known, known_of}
use Rattle.pearl_names.specs.Lengths.{length_at}
use Rattle.pearl_names.specs.Scopes.{Entry, Scope, scopes_of, entries_as, item_entries, body_decl_entries, body_entries, control_entries, all_scopes}
use Rattle.pearl_names.specs.Scopes as scopes
use Rattle.pearl_names.specs.Tables.{Sense, Table, senses_of, table_of}
use Rattle.pearl_program.specs.declared.expression.Target.TheVariants.{Own}
use Rattle.pearl_program.specs.PlainExpressions as plain
use Rattle.pearl_program.specs.PlainExpressions.{OfVariable}
use Rattle.pearl_program.specs.PlainStatements.{PlainCounter}
use Rattle.pearl_program.specs.Typing.{Around, AreOpen, IsControl}
use Rattle.pearl_program.specs.SoundStatements.{IsIf, within}
use Rattle.pearl_resolve.specs.Laying.{cells_of_sense}
use Rattle.pearl_resolve.specs.Numbers.{At, counts, loop_cells, entered, scope_numbers, own_numbers, senses_at, numbers_in_all}
use Rattle.pearl_resolve.specs.Cells.{counter_cells}
use Rattle.pearl_resolve.specs.Expressions.{Numbered, meant_at, number_at}
use Rattle.pearl_resolve.specs.Statements.{counter_in}
use Rattle.pearl_sound.specs.Laws.{IsNoControl}
use Rattle.pearl_sound.specs.Sights.{Sight, sights_in_all}
use Rattle.pearl_sound.specs.SoundForms.{IsSoundSense}
use Rattle.pearl_sound.specs.SoundNames.{LeadNames}
use Rattle.pearl_sound.specs.Stretches.{Stretch, OfLoop, loop_stretch, scope_stretch, stretches_in_all, cells_of, hidden_of, rows_of, AreInARow}
use Rattle.pearl_sound.proofs.ByNumber.{all_at}
use Rattle.pearl_sound.proofs.Going.{goes}
use Rattle.pearl_sound.proofs.Leading.{Leads, thing_of, lead_all}
use Rattle.pearl_sound.proofs.LocalNames.{leads_within, IsLocal, HasCells, local_leads, number_there, control_number}
use Rattle.pearl_sound.proofs.ModuleEntries.{senses_append}
use Rattle.pearl_sound.proofs.ScopesThere.{head_there, left_lies, right_lies, scope_senses, scope_named, senses_there}
use Rattle.pearl_sound.proofs.SoundForms.{all_append, senses_sound}
use Rattle.pearl_sound.proofs.SoundParts.{some_one}
use Rattle.pearl_sound.proofs.Stretched.{Lies, taken, place as stretch_place, cells_lie, name_lies, name_fits}
use Rattle.pearl_sound.proofs.Walk.{Passage, One, Each, Branches, Otherwise, PartsKeep, walk, Pieces, in_turn, pieces, summed, counted}

get_behind : {X : Type 0} (xs ys : List X) (k : ℕ) → slice_get (xs ++ ys) (length xs + k) ≡ slice_get ys k
get_behind [] ys k = let same : 0 + k ≡ k = omega arith in ap (λ n. slice_get ys n) same
get_behind (x ∷ xs) ys k =
    let same : suc (length xs) + k ≡ suc (length xs + k) = omega arith in
    ap (λ n. slice_get (x ∷ xs ++ ys) n) same ∙ get_behind xs ys k

get_front : {X : Type 0} (xs ys : List X) (k : ℕ) (x : X) → slice_get xs k ≡ Some x → slice_get (xs ++ ys) k ≡ Some x
get_front [] ys k x is = absurd (none-some x is)
get_front (first ∷ xs) ys zero x is = is
get_front (first ∷ xs) ys (suc k) x is = get_front xs ys k x is

pub lies_get : {X : Type 0} {whole part : List X} {at : ℕ} → Lies whole part at → (k : ℕ) (x : X) → slice_get part k ≡ Some x →
    slice_get whole (at + k) ≡ Some x
lies_get {whole = whole} {part = part} lies k x is =
    ap (λ n. slice_get whole (n + k)) (sym lies.begins) ∙ ap (λ xs. slice_get xs (length lies.before + k)) lies.is ∙
    get_behind lies.before (part ++ lies.behind) k ∙ get_front part lies.behind k x is

-- the names that a body declares are variables
items_local : (known : Known) (n types : ℕ) (control : Option Kind) (item : ShownItem) (names : List Name) →
    AllByRecursion (IsLocal control) (senses_of known n (entries_as (scopes.Variable item types) names))
items_local known n types control item [] = tt
items_local known n types control item (name ∷ names) = (tt, items_local known n types control item names)

pub both_local : (known : Known) (n : ℕ) (control : Option Kind) (one two : List Entry) → AllByRecursion (IsLocal control) (senses_of known n one) →
    AllByRecursion (IsLocal control) (senses_of known n two) → AllByRecursion (IsLocal control) (senses_of known n (one ++ two))
both_local known n control one two first second =
    subst (λ senses. AllByRecursion (IsLocal control) senses) (sym (senses_append known n one two))
    (all_append (IsLocal control) (senses_of known n one) (senses_of known n two) first second)

part_local : (known : Known) (n types : ℕ) (control : Option Kind) (items : List ShownItem) →
    AllByRecursion (IsLocal control) (senses_of known n (flat_map (item_entries types) items))
part_local known n types control [] = tt
part_local known n types control (item ∷ rest) =
    both_local known n control (item_entries types item) (flat_map (item_entries types) rest)
    (items_local known n types control item (names_of item.names)) (part_local known n types control rest)

pub body_local : (known : Known) (n types : ℕ) (control : Option Kind) (declarations : List ShownBodyDecl) →
    AllByRecursion (IsLocal control) (senses_of known n (body_entries types declarations))
body_local known n types control [] = tt
body_local known n types control (declaration ∷ rest) =
    both_local known n control (body_decl_entries types declaration) (body_entries types rest)
    (part_local known n types control declaration.items) (body_local known n types control rest)

-- the kind of a loop's control variable
abbrev control_kind : ℕ → Option Name → Option Kind
control_kind len None = None
control_kind len (Some name) = Some (Fixed len)

loop_local : (known : Known) (n types place : ℕ) (control : Option Name) (declarations : List ShownBodyDecl) →
    AllByRecursion (IsLocal (control_kind (length_at known.lengths sort.Fixed place) control))
    (senses_of known n (control_entries place control ++ body_entries types declarations))
loop_local known n types place None declarations = body_local known n types None declarations
loop_local known n types place (Some name) declarations =
    (refl, body_local known n types (Some (Fixed (length_at known.lengths sort.Fixed place))) declarations)

if_mapped : {X : Type 0} (P Q : X → Type 0) (found : Option X) → ((x : X) → P x → Q x) → IsIf P found → IsIf Q found
if_mapped P Q None more is = tt
if_mapped P Q (Some x) more is = more x is

module _ (tree : ShownTree) (numbers : List (List ℕ)) where
  abbrev table : Table
  table = table_of tree

  abbrev numbered : Numbered
  numbered = record { table = table; numbers = numbers }

  -- each name that a scope declares leads to what is there
  abbrev pub ScopeLeads : Around → ℕ → Type 0
  ScopeLeads around n = (j : ℕ) → IsIf (Leads around) (meant_at numbered (record { scope = n; entry = j }))

  -- so does each that is seen from a scope
  abbrev pub Seen : Around → ℕ → Type 0
  Seen around n = (steps : ℕ) (text : List ℕ) →
      IsIf (Leads around) (option_and_then (meant_at numbered) (found_through steps table.names text (Some n)))

  found_leads : (around : Around) (n : ℕ) (found : Option ℕ) (outer : Option Found) → ScopeLeads around n →
      IsIf (Leads around) (option_and_then (meant_at numbered) outer) →
      IsIf (Leads around) (option_and_then (meant_at numbered) (found_in n found outer))
  found_leads around n None outer own more = more
  found_leads around n (Some j) outer own more = own j

  -- from a scope, whose own names lead, where those lead that are seen around it
  pub seen_in : (around : Around) (n scope : ℕ) → outer_of (slice_get table.names n) ≡ Some scope → ScopeLeads around n → Seen around scope →
      Seen around n
  seen_in around n scope outer own seen zero text = tt
  seen_in around n scope outer own seen (suc steps) text =
      found_leads around n (first_index (names_in (slice_get table.names n)) text)
      (found_through steps table.names text (outer_of (slice_get table.names n))) own
      (subst (λ o. IsIf (Leads around) (option_and_then (meant_at numbered) (found_through steps table.names text o))) (sym outer) (seen steps text))

  no_way : (steps : ℕ) (text : List ℕ) → found_through steps table.names text None ≡ None
  no_way zero text = refl
  no_way (suc steps) text = refl

  pub seen_in_module : (around : Around) → outer_of (slice_get table.names 0) ≡ None → ScopeLeads around 0 → Seen around 0
  seen_in_module around outer own zero text = tt
  seen_in_module around outer own (suc steps) text =
      found_leads around 0 (first_index (names_in (slice_get table.names 0)) text)
      (found_through steps table.names text (outer_of (slice_get table.names 0))) own
      (subst (λ found. IsIf (Leads around) (option_and_then (meant_at numbered) found))
      (sym (ap (λ o. found_through steps table.names text o) outer ∙ no_way steps text)) tt)

  seen_within : (around : Around) (counter : Option PlainCounter) (n : ℕ) → Seen around n → Seen (within around counter) n
  seen_within around counter n seen steps text =
      if_mapped (Leads around) (Leads (within around counter)) (option_and_then (meant_at numbered) (found_through steps table.names text (Some n)))
      (λ thing leads. leads_within around counter thing leads) (seen steps text)

  pub view_within : (around : Around) (n : ℕ) → Seen around n → LeadNames numbered (Within n) around
  view_within around n seen = lead_all numbered (Within n) around (λ name. seen (suc n) (name_text name))

  view_while : (around : Around) (n scope : ℕ) → outer_of (slice_get table.names n) ≡ Some scope → ScopeLeads around n → Seen around scope →
      LeadNames numbered (WhileOf n) around
  view_while around n scope outer own seen =
      lead_all numbered (WhileOf n) around (λ name. by name (is_control (names_in (slice_get table.names n)) (name_text name)))
    where
      by : (name : Name) (test : Bool) → IsIf (Leads around) (option_and_then (meant_at numbered)
          (if test then Some (record { scope = n; entry = 0 }) else found_through n table.names (name_text name) (outer_of (slice_get table.names n))))
      by name true = own 0
      by name false =
          subst (λ o. IsIf (Leads around) (option_and_then (meant_at numbered) (found_through n table.names (name_text name) o))) (sym outer)
          (seen n (name_text name))

-- in a routine whose cells have these stretches
module _ (tree : ShownTree) (numbers : List (List ℕ)) (start : ℕ) (all : List Stretch) (end to : ℕ)
    (row : AreInARow (table_of tree) start 0 all end to) (inside : Lies numbers (rows_of (table_of tree) all) start) where
  abbrev of : Numbered
  of = record { table = table_of tree; numbers = numbers }

  pub record Surrounds (around : Around) : Type 0 where
    pub cells : around.cells ≡ cells_of all
    pub hidden : around.hidden ≡ hidden_of all

  pub has_cells : (around : Around) → Surrounds around → (k : ℕ) (names : List ℕ) → slice_get (rows_of of.table all) k ≡ Some names →
      (j number : ℕ) (sense : Sense) → slice_get names j ≡ Some number → slice_get (senses_at of.table (start + k)) j ≡ Some sense →
      IsNoControl sense → HasCells around number sense
  has_cells around surrounds k names there j number sense at is own =
      let lies = name_lies of.table start all end to row k names there j number sense at is own in
      let fits = name_fits of.table start all end to row k names there j number sense at is own in
      let count = ap (λ (cells : List CellKind). length cells) surrounds.cells in
      record {
        lies = ap (λ cells. take (cells_of_sense sense) (drop number cells)) surrounds.cells ∙ lies.0;
        free = subst (λ hidden. AreOpen hidden number (cells_of_sense sense)) (sym surrounds.hidden) lies.1;
        fits = omega (arith, fits, count);
      }

  pub scope_leads : (around : Around) → Surrounds around → (n k : ℕ) → start + k ≡ n → 0 < n → (scope : Scope) → slice_get (scopes_of tree) n ≡ Some scope →
      (cell from : ℕ) → slice_get (rows_of of.table all) k ≡ Some (own_numbers cell from (senses_at of.table n)) → (control : Option Kind) →
      AllByRecursion (IsLocal control) (senses_of (known_of tree) n scope.entries) →
      ((kind : Kind) → control ≡ Some kind → IsControl around (OfVariable (Own cell) [] plain.NoExprs) kind) → ScopeLeads tree numbers around n
  scope_leads around surrounds n k here inner scope there cell from numbered control local loop j =
      subst (λ found. IsIf (Leads around) (option_map (λ sense. thing_of sense n (number_at numbers (record { scope = n; entry = j }))) found))
      (sym (ap (option_and_then (λ names. slice_get names j)) (senses_there tree n scope there)))
      (by (slice_get (senses_of (known_of tree) n scope.entries) j) refl)
    where
      by : (found : Option Sense) → slice_get (senses_of (known_of tree) n scope.entries) j ≡ found →
          IsIf (Leads around) (option_map (λ sense. thing_of sense n (number_at numbers (record { scope = n; entry = j }))) found)
      by None is = tt
      by (Some sense) is =
          let same = scope_senses tree n scope there in
          let means : slice_get (senses_at of.table n) j ≡ Some sense = ap (λ names. slice_get names j) same ∙ is in
          let has = number_there cell from (senses_at of.table n) j sense means in
          let whole = lies_get inside k (own_numbers cell from (senses_at of.table n)) numbered in
          let number_is : has.number ≡ number_at numbers (record { scope = n; entry = j }) =
          sym (ap (λ m. unwrap_or (slice_get (unwrap_or (slice_get numbers m) []) j) 0) (sym here) ∙
          ap (λ found. unwrap_or (slice_get (unwrap_or found []) j) 0) whole ∙ ap (λ found. unwrap_or found 0) has.there) in
          subst (λ number. Leads around (thing_of sense n number)) number_is
          (local_leads around control sense n has.number inner (all_at (IsLocal control) (senses_of (known_of tree) n scope.entries) j sense local is)
          (all_at IsSoundSense (senses_at of.table n) j sense (senses_sound tree n) means)
          (λ kind given is. subst (λ c. IsControl around (OfVariable (Own c) [] plain.NoExprs) kind)
          (control_number cell from (senses_at of.table n) j has.number kind (means ∙ ap Some is) has.there) (loop kind given))
          (λ own. has_cells around surrounds k (own_numbers cell from (senses_at of.table n)) numbered j has.number sense has.there
          (ap (λ m. slice_get (senses_at of.table m) j) here ∙ means) own))

  -- the stretches, rows and scopes of a text stand among all
  pub record Standing (at : At) (stretches : List Stretch) (rows : List (List ℕ)) (list : List Scope) : Type 0 where
    pub place : ℕ
    pub stretched : Lies all stretches place
    pub k : ℕ
    pub here : start + k ≡ at.next
    pub lies : Lies (rows_of of.table all) rows k
    pub scoped : Lies (scopes_of tree) list at.next

  abbrev pub StandsAt : (types scope : ℕ) → At → Pieces → Type 0
  StandsAt types scope at piece = Standing at (piece.stretches scope at) (piece.numbers at) (piece.list types scope at.next)

  -- of two passages the first, and the second behind it
  pub first_stands : (one two : Passage) (types scope : ℕ) (at : At) → StandsAt types scope at (in_turn (pieces of one) (pieces of two)) →
      StandsAt types scope at (pieces of one)
  first_stands one two types scope at standing =
      let a = pieces of one in
      let b = pieces of two in
      record {
        place = standing.place;
        stretched = left_lies (a.stretches scope at) (b.stretches scope (a.after at)) standing.stretched;
        k = standing.k;
        here = standing.here;
        lies = left_lies (a.numbers at) (b.numbers (a.after at)) standing.lies;
        scoped = left_lies (a.list types scope at.next) (b.list types scope (at.next + a.scopes)) standing.scoped;
      }

  pub second_stands : (one two : Passage) (types scope : ℕ) (at : At) → StandsAt types scope at (in_turn (pieces of one) (pieces of two)) →
      StandsAt types scope ((pieces of one).after at) (pieces of two)
  second_stands one two types scope at standing =
      let a = pieces of one in
      let b = pieces of two in
      let middle = a.after at in
      let each = (goes of one scope at).each in
      let next = (goes of one scope at).next in
      let count = counted of one types scope at.next in
      let here = standing.here in
      record {
        place = standing.place + length (a.stretches scope at);
        stretched = right_lies (a.stretches scope at) (b.stretches scope middle) (standing.place + length (a.stretches scope at)) refl standing.stretched;
        k = standing.k + a.scopes;
        here = omega (arith, here, next);
        lies = right_lies (a.numbers at) (b.numbers middle) (standing.k + a.scopes) (omega (arith, each)) standing.lies;
        scoped = subst (λ n. Lies (scopes_of tree) (b.list types scope n) middle.next) (sym next)
            (right_lies (a.list types scope at.next) (b.list types scope (at.next + a.scopes)) middle.next (omega (arith, next, count)) standing.scoped);
      }

  -- the statements of a scope, behind the stretch of its loop
  pub inner_stands : (types : ℕ) (at : At) (hidden : ℕ) (loop : List Stretch) (own : Scope) (statements : ShownStmts) →
      Standing at (loop ++ (scope_stretch of.table hidden at ∷ stretches_in_all of at.next (entered of.table hidden at) statements))
      (scope_numbers of.table hidden at ∷ numbers_in_all of.table (entered of.table hidden at) statements)
      (own ∷ all_scopes types at.next (at.next + 1) statements) →
      StandsAt types at.next (entered of.table hidden at) (pieces of (Each statements))
  inner_stands types at hidden loop own statements standing =
      let stretch = scope_stretch of.table hidden at in
      let inner = stretches_in_all of at.next (entered of.table hidden at) statements in
      let rows = numbers_in_all of.table (entered of.table hidden at) statements in
      let place = standing.place + length loop in
      let here = standing.here in
      record {
        place = place + 1;
        stretched = right_lies (stretch ∷ []) inner (place + 1) refl (right_lies loop (stretch ∷ inner) place refl standing.stretched);
        k = standing.k + 1;
        here = omega (arith, here);
        lies = right_lies (scope_numbers of.table hidden at ∷ []) rows (standing.k + 1) refl standing.lies;
        scoped = right_lies (own ∷ []) (all_scopes types at.next (at.next + 1) statements) (at.next + 1) refl standing.scoped;
      }

  -- the control variable of a loop
  loop_control : (around : Around) → Surrounds around → (scope : ℕ) (at : At) (control : Option Name) (begin step last : Option ShownExpr) (len : ℕ)
      (rest : List Stretch) (index : ℕ) → Lies all (loop_stretch (counts control begin step last) at.cell len ++ rest) index →
      (kind : Kind) → control_kind len control ≡ Some kind →
      IsControl (within around (counter_in of scope at control begin step last)) (OfVariable (Own at.cell) [] plain.NoExprs) kind
  loop_control around surrounds scope at None begin step last len rest index lies kind is = absurd (none-some kind is)
  loop_control around surrounds scope at (Some name) begin step last len rest index lies kind is =
      let stretch : Stretch = record { owner = OfLoop len; first = at.cell; cells = counter_cells true len } in
      let placed = stretch_place of.table start 0 all end to row index stretch (head_there stretch rest lies) in
      let cells = taken (cells_lie of.table start all end to stretch placed) 1 0 (omega arith) in
      let here : at.cell ≡ at.cell + 0 = omega arith in (
        ap (λ test. test || list_any (nat_eq at.cell) around.controls) (eq-eqb at.cell at.cell refl),
        ap (λ cells. take 1 (drop at.cell cells)) surrounds.cells ∙ ap (λ n. take 1 (drop n (cells_of all))) here ∙ cells ∙
            ap (λ k. Plain k ∷ []) (some_one is),
      )

  abbrev IsSighted : Sight → Type 0
  IsSighted sight = LeadNames of sight.view sight.around

  abbrev AreSighted : List Sight → Type 0
  AreSighted sights = AllByRecursion IsSighted sights

  outer_is : (n scope : ℕ) (entries : List Entry) → slice_get (scopes_of tree) n ≡ Some (record { outer = Some scope; entries = entries }) →
      outer_of (slice_get of.table.names n) ≡ Some scope
  outer_is n scope entries there = ap outer_of (scope_named tree n (record { outer = Some scope; entries = entries }) there)

  past_zero : (at : At) → 0 < start → (k : ℕ) → start + k ≡ at.next → 0 < at.next
  past_zero at some k here = omega (arith, some, here)

  module _ (some : 0 < start) where
    abbrev Sees : Pieces → Type 0
    Sees piece = (types : ℕ) (around : Around) → Surrounds around → (scope : ℕ) (at : At) → StandsAt types scope at piece →
        Seen tree numbers around scope → AreSighted (piece.sights around scope at)

    both_see : (one two : Passage) → Sees (pieces of one) → Sees (pieces of two) → Sees (in_turn (pieces of one) (pieces of two))
    both_see one two first second types around surrounds scope at standing seen =
        let middle = (pieces of one).after at in
        all_append IsSighted ((pieces of one).sights around scope at) ((pieces of two).sights around scope middle)
        (first types around surrounds scope at (first_stands one two types scope at standing) seen)
        (second types around surrounds scope middle (second_stands one two types scope at standing) seen)

    stmt_sees : (s : ShownStmt) → PartsKeep (λ passage. Sees (pieces of passage)) s → Sees (pieces of (One s))
    stmt_sees (shown.OfIf condition statements otherwise place) parts = both_see (Each statements) (Otherwise otherwise) parts.0 parts.1
    stmt_sees (shown.OfCase selector alternatives otherwise place) parts = both_see (Branches alternatives) (Otherwise otherwise) parts.0 parts.1
    stmt_sees (shown.OfRepeat control begin step last condition declarations statements body_place place) parts =
        λ types around surrounds scope at standing seen.
        let counter = counter_in of scope at control begin step last in
        let hidden = loop_cells control begin step last in
        let len = length_at of.table.lengths sort.Fixed place in
        let inner = entered of.table hidden at in
        let entries = control_entries place control ++ body_entries types declarations in
        let own : Scope = record { outer = Some scope; entries = entries } in
        let rest = scope_stretch of.table hidden at ∷ stretches_in_all of at.next inner statements in
        let loop = loop_stretch (counts control begin step last) at.cell len in
        let there = head_there own (all_scopes types at.next (at.next + 1) statements) standing.scoped in
        let outer = outer_is at.next scope entries there in
        let around_in = within around counter in
        let surrounds_in : Surrounds around_in = record { cells = surrounds.cells; hidden = surrounds.hidden } in
        let seen_out = seen_within tree numbers around counter scope seen in
        let leads = scope_leads around_in surrounds_in at.next standing.k standing.here (past_zero at some standing.k standing.here) own there at.cell (at.cell + hidden)
        (head_there (scope_numbers of.table hidden at) (numbers_in_all of.table inner statements) standing.lies) (control_kind len control)
        (loop_local (known_of tree) at.next types place control declarations)
        (loop_control around surrounds scope at control begin step last len rest standing.place standing.stretched) in
        let seen_here = seen_in tree numbers around_in at.next scope outer leads seen_out in (
          view_while tree numbers around_in at.next scope outer leads seen_out,
          (
            view_within tree numbers around_in at.next seen_here,
            parts types around_in surrounds_in at.next inner (inner_stands types at hidden loop own statements standing) seen_here,
          ),
        )
    stmt_sees (shown.OfBegin declarations statements body_place place) parts = λ types around surrounds scope at standing seen.
        let inner = entered of.table 0 at in
        let own : Scope = record { outer = Some scope; entries = body_entries types declarations } in
        let there = head_there own (all_scopes types at.next (at.next + 1) statements) standing.scoped in
        let leads = scope_leads around surrounds at.next standing.k standing.here (past_zero at some standing.k standing.here) own there at.cell (at.cell + 0)
        (head_there (scope_numbers of.table 0 at) (numbers_in_all of.table inner statements) standing.lies) None
        (body_local (known_of tree) at.next types None declarations) (λ kind is. absurd (none-some kind is)) in
        let seen_here = seen_in tree numbers around at.next scope (outer_is at.next scope own.entries there) leads seen in (
          view_within tree numbers around at.next seen_here,
          parts types around surrounds at.next inner (inner_stands types at 0 [] own statements standing) seen_here,
        )
    stmt_sees statement parts = λ types around surrounds scope at standing seen. tt

    pub all_sighted : (types : ℕ) (around : Around) → Surrounds around → (scope : ℕ) (at : At) (statements : ShownStmts) →
        StandsAt types scope at (pieces of (Each statements)) → Seen tree numbers around scope → AreSighted (sights_in_all of around scope at statements)
    all_sighted types around surrounds scope at statements standing seen =
        walk (λ passage. Sees (pieces of passage)) (summed of Sees (λ types around surrounds scope at standing seen. tt) both_see stmt_sees)
        (Each statements) types around surrounds scope at standing seen
