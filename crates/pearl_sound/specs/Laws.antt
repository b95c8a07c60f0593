-- What holds of scopes, cells, hidden cells and formats, of names and components, and of what expressions and targets become.
use Rattle.std.specs.Prelude.{◌≡◌, ℕ, ℤ, ◌+◌, ◌-◌, ◌*◌, ◌≤◌, ◌<◌, nat_eq, Bool, false, true, IsTrue, List, [], ◌∷◌, ◌++◌, length, map, take, drop, Option, Some, unwrap_or, slice_get}
use Rattle.std.specs.List.{AllByRecursion, IsDistinct, flat_map, list_any, sum_by}
use Rattle.std.specs.Str.{bytes_eq}
use Rattle.pearl_check.specs.Sizes.{procedure_count}
use Rattle.pearl_value.specs.declared.kind.Kind.{Kind}
use Rattle.pearl_value.specs.declared.kind.CellKind.{CellKind}
use Rattle.pearl_format.specs.declared.item.Item.{Item}
use Rattle.pearl_tree.specs.ShownExpressions.{ShownExpr, ShownExprs, ShownRef}
use Rattle.pearl_tree.specs.declared.statement.SemaWord.{SemaWord}
use Rattle.pearl_tree.specs.declared.format.Fmt.{Fmt}
use Rattle.pearl_tree.specs.ShownStatements.{ShownStmts, OfOnSemas, OfPut, OfGet}
use Rattle.pearl_tree.specs.declared.literal.Literal.{Literal}
use Rattle.pearl_tree.specs.Lawful.{IsLawfulLiteral, IsLawful}
use Rattle.pearl_tree.specs.ShownLiterals.{ShownConst, shown_literal}
use Rattle.pearl_tree.specs.ShownModules.{ShownBody, ShownDecl, ShownTree, shown_tree}
use Rattle.pearl_tree.specs.Modules.{Spells}
use Rattle.pearl_tree.specs.declared.token.Token.{Token}
use Rattle.pearl_tree.specs.declared.tree.Tree.{Tree}
use Rattle.pearl_names.specs.Lengths.{lengths_set}
use Rattle.pearl_names.specs.Shapes.{Fields}
use Rattle.pearl_names.specs.Layout.{Leaf, leaves_of, leaves_of_fields, elements}
use Rattle.pearl_names.specs.Forms.{Component, component}
use Rattle.pearl_names.specs.Known.{known_of}
use Rattle.pearl_names.specs.Scopes.{scopes_in_all}
use Rattle.pearl_names.specs.declared.scope.View.{View}
use Rattle.pearl_names.specs.declared.scope.View.TheVariants.{Within}
use Rattle.pearl_check_expr.specs.Judged.{judged, judged_variable, called}
use Rattle.pearl_check_expr.specs.Senses.{Callee, callee_of}
use Rattle.pearl_names.specs.declared.scope.SortedName.{SortedName}
use Rattle.pearl_names.specs.Tables.{Form, Parameter, Sense, Variable, Control, Semaphore, Interrupt, AlphicDation, BasicDation, Task, Procedure, Table, sense_from, table_of, leaves_in}
use Rattle.pearl_tree.specs.declared.name.Name.{Name}
use Rattle.pearl_tree.specs.Names.{name_text}
use Rattle.pearl_program.specs.HiddenCells.{hidden_in_all}
use Rattle.pearl_program.specs.Sound.{signature_of, IsProcedure, IsTask}
use Rattle.pearl_format.specs.Items.{FitsFormat}
use Rattle.pearl_program.specs.SoundStatements.{IsCall, AreStmts}
use Rattle.pearl_program.specs.Typing.{Around, AreOpen, HasKind, IsVariable}
use Rattle.pearl_calls.specs.Callers.{Caller}
use Rattle.pearl_calls.specs.Numberings.{IsNumbering}
use Rattle.pearl_calls.specs.Numbers.{AreNumbers}
use Rattle.pearl_scope.specs.declared.places.Spot.{Spot}
use Rattle.pearl_scope.specs.Parts.{expr_parts}
use Rattle.pearl_scope.specs.Placed.{Placed, parts_at}
use Rattle.pearl_check.specs.Asked.{Asked, asked_at}
use Rattle.pearl_check.specs.Formats.{format_faults}
use Rattle.pearl_check.specs.Routines.{RoutineSort, Routine, routines_of, statements_of}
use Rattle.pearl_check.specs.Roles.{asked_faults}
use Rattle.pearl_check.specs.Rules.{all_broken, statement_faults}
use Rattle.pearl_system.specs.declared.device.SpecifiedDevice.{SpecifiedDevice}
use Rattle.pearl_system.specs.Devices.{device_key, IsDevice}
use Rattle.pearl_system.specs.Rising.{Lists}
use Rattle.pearl_system.specs.Rules.{broken}
use Rattle.pearl_scope.specs.Rules.{faults_in}
use Rattle.pearl_scope.specs.Rules as names
use Rattle.pearl_resolve.specs.Numbers as numbering
use Rattle.pearl_resolve.specs.Numbers.{At, Before, senses_at, routine_start, scope_numbers, module_numbers, own_numbers, after_all, after_body, numbers_in_all, body_numbers}
use Rattle.pearl_resolve.specs.Laying.{filled_leaves, slots, cells_of_sense}
use Rattle.pearl_resolve.specs.Expressions.{Numbered, number_of, resolve_expr, resolve_arguments, resolve_variable, target_kind}
use Rattle.pearl_sound.specs.SoundNames.{IsLiteral, HasLiterals, HaveLiterals, SelectorsHaveLiterals, is_control, IsCallee, LeadValues, LeadNames, HasSemaphoresApart}
use Rattle.pearl_sound.specs.ModuleNames.{IsModuleName, HasNamesOnce, AreProcedureNumbers, DevicesAreThere}
use Rattle.pearl_sound.specs.KnownNames.{IsThereIn, IsComplete, IsNamed, HasNames, SelectorsHaveNames}
use Rattle.pearl_sound.specs.KnownParts.{IsKnown, HasItsNames, AskedLiterals, IsSimple, NamesSemaphores, Returns}
use Rattle.pearl_resolve.specs.Statements.{resolve_stmt, resolve_all}
use Rattle.pearl_sound.specs.Ready.{AllStand, RoutineRenewsRight}
use Rattle.pearl_sound.specs.Sights.{Sight, sights_of}
use Rattle.pearl_sound.specs.SoundForms.{IsSoundSense}
use Rattle.pearl_sound.specs.Stretches.{Stretch, routine_stretches, IsDivided}
use Rattle.pearl_resolve.specs.Cells.{sense_cells, get_cells, cells_in_all, routine_cells}
use Rattle.pearl_resolve.specs.Resolve.{item_of, formats_in_all, resolve_routine, procedures_in, numbered_of, resolve}

-- from here to there the text has these scopes, each with the numbers of its names, these cells and these formats
pub record GoesPast (from to : At) (scopes : ℕ) (numbers : List (List ℕ)) (cells : List CellKind) (formats : List (List Item)) : Type 0 where
  pub each : length numbers ≡ scopes
  pub next : to.next ≡ from.next + scopes
  pub cell : to.cell ≡ from.cell + length cells
  pub format : to.format ≡ from.format + length formats

-- statements go past the scopes, cells and formats that they have
abbrev pub StatementsGoPast : Type 0
StatementsGoPast = (numbered : Numbered) (scope : ℕ) (at : At) (statements : ShownStmts) →
    GoesPast at (after_all numbered.table at statements) (scopes_in_all statements)
    (numbers_in_all numbered.table at statements) (cells_in_all numbered scope at statements) (formats_in_all statements)

-- a routine has as many cells as its text goes past
abbrev pub RoutinesHaveCells : Type 0
RoutinesHaveCells = (numbered : Numbered) (at : At) (body : ShownBody) →
    (after_body numbered.table at body).cell ≡ length (routine_cells numbered at body)

-- a target in which no rule is broken has the kind that is asked of it
abbrev pub TargetsHaveTheirKind : Type 0
TargetsHaveTheirKind = (numbered : Numbered) (view : View) (reference : ShownRef) (kind : Kind) →
    (judged_variable numbered.table view reference).kind ≡ Some kind → target_kind numbered view reference ≡ kind

-- where names lead to what is there, what an expression becomes has the kind with which the expression is judged, and so
-- has what a target becomes, whose name is that of no control variable
abbrev pub ExpressionsAreSound : Type 0
ExpressionsAreSound = (numbered : Numbered) (view : View) (around : Around) → LeadValues numbered view around →
    ((e : ShownExpr) → HasLiterals numbered.table.lengths e → (kind : Kind) →
    (judged numbered.table view e).kind ≡ Some kind → HasKind around (resolve_expr numbered view e) kind) ×
    ((reference : ShownRef) → SelectorsHaveLiterals numbered.table.lengths reference.selectors →
    is_control (sense_from numbered.table view (name_text reference.name)) ≡ false → (kind : Kind) →
    (judged_variable numbered.table view reference).kind ≡ Some kind → IsVariable around (resolve_variable numbered view reference) kind)

-- a lawful literal is a value of the kind that it has
abbrev pub LiteralsAreValues : Type 0
LiteralsAreValues = (declarations : List ShownDecl) (part : Literal) → IsLawfulLiteral part →
    IsLiteral (lengths_set declarations) (shown_literal part)

-- what a call hands over, whose arguments are as many as the parameters and suit them, suits in the program
abbrev pub CallsAreSound : Type 0
CallsAreSound = (numbered : Numbered) (view : View) (around : Around) → LeadValues numbered view around →
    (name : Name) (callee : Callee) (exprs : ShownExprs) → HaveLiterals numbered.table.lengths exprs →
    callee_of (sense_from numbered.table view (name_text name)) ≡ Some callee →
    (called numbered.table view name callee exprs).well ≡ true →
    IsCall around (number_of numbered view name) (resolve_arguments numbered view callee.parameters exprs)

abbrev pub IsNoControl : Sense → Type 0
IsNoControl (Control kind) = ⊥
IsNoControl sense = Unit {0}

-- of the cells of a scope, which begin with this number, those of a name lie from its number on, all of them among these;
-- a control variable's lie before them
abbrev pub NamesHaveTheirCells : Type 0
NamesHaveTheirCells = (control from : ℕ) (senses : List Sense) (i number : ℕ) (sense : Sense) →
    slice_get senses i ≡ Some sense → IsNoControl sense → slice_get (own_numbers control from senses) i ≡ Some number →
    (from ≤ number) × (number + cells_of_sense sense ≤ from + sum_by cells_of_sense senses) ×
    (take (cells_of_sense sense) (drop (number - from) (flat_map sense_cells senses)) ≡ sense_cells sense)

-- the cells of two names of a scope are others, those of the later name behind those of the earlier
abbrev pub NamesShareNoCells : Type 0
NamesShareNoCells = (control from : ℕ) (senses : List Sense) (i j first second : ℕ) (one two : Sense) → i < j →
    slice_get senses i ≡ Some one → IsNoControl one → slice_get (own_numbers control from senses) i ≡ Some first →
    slice_get senses j ≡ Some two → IsNoControl two → slice_get (own_numbers control from senses) j ≡ Some second →
    (from ≤ first) × (first + cells_of_sense one ≤ second)

-- two names of the module with these numbers, the second declared behind the first, don't name the same: leaves,
-- semaphores, tasks, and of the numbers that procedures are given those at their two places, before which p and q
-- procedures are declared
abbrev pub AreApart : (numbers : List ℕ) (p q : ℕ) → Sense → Sense → (first second : ℕ) → Type 0
AreApart numbers p q (Variable form inv) (Variable other also) first second = first + length (leaves_in form) ≤ second
AreApart numbers p q Semaphore Semaphore first second = first < second
AreApart numbers p q Task Task first second = first < second
AreApart numbers p q (Procedure parameters result) (Procedure others other) first second =
    (p < q) × (first ≡ unwrap_or (slice_get numbers p) 0) × (second ≡ unwrap_or (slice_get numbers q) 0)
AreApart numbers p q one two first second = Unit {0}

-- how many procedures are declared before the name at this place
abbrev pub procedures_before : Before → List Sense → ℕ → ℕ
procedures_before before senses i = before.procedures + sum_by procedure_count (take i senses)

abbrev pub NamesNameOthers : Type 0
NamesNameOthers = (devices : List SpecifiedDevice) (numbers : List ℕ) (before : Before) (entries : List SortedName) (senses : List Sense)
    (i j first second : ℕ) (one two : Sense) → i < j →
    slice_get senses i ≡ Some one → slice_get (module_numbers devices numbers before entries senses) i ≡ Some first →
    slice_get senses j ≡ Some two → slice_get (module_numbers devices numbers before entries senses) j ≡ Some second →
    AreApart numbers (procedures_before before senses i) (procedures_before before senses j) one two first second

abbrev pub IsOfDevice : Sense → Type 0
IsOfDevice Interrupt = Unit {0}
IsOfDevice (AlphicDation direction) = Unit {0}
IsOfDevice (BasicDation direction kind) = Unit {0}
IsOfDevice sense = ⊥

abbrev pub has_text : List ℕ → SpecifiedDevice → Bool
has_text text device = bytes_eq text device.text.items

-- the number of an interrupt's or a dation's name is that of a device which is specified under it, where one is
abbrev pub NamesHaveTheirDevices : Type 0
NamesHaveTheirDevices = (devices : List SpecifiedDevice) (numbers : List ℕ) (before : Before) (entries : List SortedName) (senses : List Sense)
    (i number : ℕ) (entry : SortedName) (sense : Sense) →
    slice_get entries i ≡ Some entry → slice_get senses i ≡ Some sense → IsOfDevice sense →
    slice_get (module_numbers devices numbers before entries senses) i ≡ Some number →
    IsTrue (list_any (has_text (name_text entry.name)) devices) →
    (device : SpecifiedDevice) × (slice_get devices number ≡ Some device) × (device.text.items ≡ name_text entry.name)

-- where a variable with these fields lies, the leaves of its component of this name lie behind so many of the variable's
-- as the component says, and their slots behind so many, for each element of the variable
pub record LiesIn (path : List (List ℕ)) (bounds : List (ℤ × ℤ)) (fields : Fields) (name : List ℕ) (field : Component) : Type 0 where
  pub before : List Leaf
  pub behind : List Leaf
  pub is : leaves_of_fields path bounds fields ≡ before ++ (leaves_of (path ++ name ∷ []) (bounds ++ field.bounds) field.shape ++ behind)
  pub leaf : field.leaf ≡ length before
  pub slot : elements bounds * field.slot ≡ slots before

abbrev pub ComponentsLieInTheirVariables : Type 0
ComponentsLieInTheirVariables = (path : List (List ℕ)) (bounds : List (ℤ × ℤ)) (fields : Fields) (text : List ℕ) (field : Component) →
    component 0 0 fields text ≡ Some field → LiesIn path bounds fields text field

-- the hidden cells of a routine are all different, and stand behind those of the names that it declares for itself, which
-- its parameters are among
abbrev pub HiddenCellsAreApart : Type 0
HiddenCellsAreApart = (numbered : Numbered) (at : At) (body : ShownBody) →
    IsDistinct nat_eq (hidden_in_all (resolve_routine numbered at body).body) ×
    AllByRecursion (λ cell. sum_by cells_of_sense (senses_at numbered.table at.next) ≤ cell)
    (hidden_in_all (resolve_routine numbered at body).body)

-- the names that a routine declares for itself lie in no hidden cell
abbrev pub OwnNamesAreNotHidden : Type 0
OwnNamesAreNotHidden = (numbered : Numbered) (at : At) (body : ShownBody) (i number : ℕ) (sense : Sense) →
    slice_get (senses_at numbered.table at.next) i ≡ Some sense → IsNoControl sense →
    slice_get (scope_numbers numbered.table 0 (routine_start at)) i ≡ Some number →
    AreOpen (hidden_in_all (resolve_routine numbered at body).body) number (cells_of_sense sense)

-- the cells, the hidden cells and the numbers of a routine are those of its stretches, which stand one behind the other
abbrev pub RoutinesAreDivided : Type 0
RoutinesAreDivided = (numbered : Numbered) (at : At) (body : ShownBody) →
    IsDivided numbered.table (routine_start at) (after_body numbered.table at body) (routine_stretches numbered at body)
    (routine_cells numbered at body) (hidden_in_all (resolve_routine numbered at body).body) (body_numbers numbered.table at body)

-- in a routine's cells those of a loop, of a GET and of a scope lie from the first of their stretch on
abbrev pub StretchesHaveTheirCells : Type 0
StretchesHaveTheirCells = (numbered : Numbered) (at : At) (body : ShownBody) (i : ℕ) (stretch : Stretch) →
    slice_get (routine_stretches numbered at body) i ≡ Some stretch →
    take (length stretch.cells) (drop stretch.first (routine_cells numbered at body)) ≡ stretch.cells

-- a name of a routine's scope, the k-th that begins in it, has this number and stands for this; it is no control variable
pub record IsNameIn (numbered : Numbered) (at : At) (body : ShownBody) (k number : ℕ) (sense : Sense) : Type 0 where
  pub row : List ℕ
  pub index : ℕ
  pub scope : slice_get (body_numbers numbered.table at body) k ≡ Some row
  pub there : slice_get row index ≡ Some number
  pub means : slice_get (senses_at numbered.table (at.next + k)) index ≡ Some sense
  pub own : IsNoControl sense

-- from the number of a name of any scope on the routine's cells have just its kinds, and none of them is hidden
abbrev pub InnerNamesHaveTheirCells : Type 0
InnerNamesHaveTheirCells = (numbered : Numbered) (at : At) (body : ShownBody) (k number : ℕ) (sense : Sense) →
    IsNameIn numbered at body k number sense →
    (take (cells_of_sense sense) (drop number (routine_cells numbered at body)) ≡ sense_cells sense) ×
    AreOpen (hidden_in_all (resolve_routine numbered at body).body) number (cells_of_sense sense)

-- names of different scopes of a routine share no cells
abbrev pub ScopesShareNoCells : Type 0
ScopesShareNoCells = (numbered : Numbered) (at : At) (body : ShownBody) (k l first second : ℕ) (one two : Sense) → k < l →
    IsNameIn numbered at body k first one → IsNameIn numbered at body l second two → first + cells_of_sense one ≤ second

-- all kinds have lengths in their ranges; where a variable has a form, so are all its bounds, and it has leaves of few
-- dimensions and elements
abbrev pub SensesAreSound : Type 0
SensesAreSound = (tree : ShownTree) (scope : ℕ) → AllByRecursion IsSoundSense (senses_at (table_of tree) scope)

-- where no name of the module is declared twice, from a variable's number on the program has just its leaves, under its name
abbrev pub ModuleNamesHaveTheirLeaves : Type 0
ModuleNamesHaveTheirLeaves = (tree : ShownTree) (devices : List SpecifiedDevice) (procedures : List ℕ) → HasNamesOnce tree →
    (name : SortedName) (form : Option Form) (inv : Bool) (number : ℕ) →
    IsModuleName tree devices procedures name (Variable form inv) number → (constants : List ShownConst) ×
    (take (length (leaves_in form)) (drop number (resolve (table_of tree) devices procedures tree).leaves) ≡
    filled_leaves (name_text name.name) constants (leaves_in form))

-- a semaphore's number is that of a semaphore of the program, and a task's that of a task
abbrev pub ModuleNumbersAreThere : Type 0
ModuleNumbersAreThere = (tree : ShownTree) (devices : List SpecifiedDevice) (procedures : List ℕ) →
    ((name : SortedName) (number : ℕ) → IsModuleName tree devices procedures name Semaphore number →
    number < length (resolve (table_of tree) devices procedures tree).semaphores) ×
    ((name : SortedName) (number : ℕ) → IsModuleName tree devices procedures name Task number →
    number < length (resolve (table_of tree) devices procedures tree).tasks)

-- where procedures have numbers of their own below their count, at a procedure's number stands one with its parameters and
-- its result
abbrev pub ModuleProceduresAreThere : Type 0
ModuleProceduresAreThere = (tree : ShownTree) (devices : List SpecifiedDevice) (procedures : List ℕ) →
    AreProcedureNumbers tree devices procedures → (around : Around) →
    around.procedures ≡ map signature_of (resolve (table_of tree) devices procedures tree).procedures →
    (name : SortedName) (parameters : List Parameter) (result : Option (Option Kind)) (number : ℕ) →
    IsModuleName tree devices procedures name (Procedure parameters result) number → IsCallee around number parameters result

-- where no name of the module is declared twice, and none of the rules on devices is broken, at the number of an interrupt's
-- or a dation's name stands a device of the sort that the name says
abbrev pub ModuleDevicesAreThere : Type 0
ModuleDevicesAreThere = (tree : ShownTree) (devices : List SpecifiedDevice) (procedures : List ℕ) → broken tree ≡ [] →
    HasNamesOnce tree → Lists device_key (IsDevice tree) devices → DevicesAreThere tree devices procedures

-- where no name of the module is declared twice, procedures have numbers of their own below their count, and devices are of
-- the sorts that their names say, names lead to what is there from each view of the module
abbrev pub NamesLead : Type 0
NamesLead = (tree : ShownTree) (devices : List SpecifiedDevice) (procedures : List ℕ) → HasNamesOnce tree →
    AreProcedureNumbers tree devices procedures → DevicesAreThere tree devices procedures →
    AllByRecursion (λ (sight : Sight). LeadNames (numbered_of (table_of tree) devices procedures tree) sight.view sight.around)
    (sights_of tree devices procedures)

-- where a module breaks no static rule, and its procedures have numbers of their own below their count, names lead to what is
-- there from each of its views
abbrev pub NamesLeadInModules : Type 0
NamesLeadInModules = (tree : ShownTree) (devices : List SpecifiedDevice) (procedures : List ℕ) → all_broken tree ≡ [] →
    Lists device_key (IsDevice tree) devices → AreProcedureNumbers tree devices procedures →
    AllByRecursion (λ (sight : Sight). LeadNames (numbered_of (table_of tree) devices procedures tree) sight.view sight.around)
    (sights_of tree devices procedures)

-- where names lead to what is there, a statement that has none within it, and names neither semaphores nor a format, becomes
-- a sound one, if what it asks for is known and no rule is broken
abbrev pub SimpleStatementsAreSound : Type 0
SimpleStatementsAreSound = (numbered : Numbered) (sort : RoutineSort) (place : Placed) (at : At) (around : Around) →
    LeadNames numbered (Within place.spot.scope) around → at.next ≡ place.next → IsSimple place.statement →
    Returns numbered.table.lengths sort around.returns → place.spot.in_loop ≡ around.in_loop →
    AllByRecursion (IsKnown numbered.table) (asked_at place) → statement_faults numbered.table sort place ≡ [] →
    AreStmts around (resolve_stmt numbered place.spot.scope at place.statement)

-- where all names and literals are known and no rule is broken, an expression has a kind, and so has a target
abbrev pub KindsAreKnown : Type 0
KindsAreKnown = (table : Table) (view : View) →
    ((e : ShownExpr) → HasNames table view e → (judged table view e).faults ≡ [] → IsThereIn (judged table view e).kind) ×
    ((reference : ShownRef) → IsNamed table view reference.name → SelectorsHaveNames table view reference.selectors →
    (judged_variable table view reference).faults ≡ [] → IsThereIn (judged_variable table view reference).kind)

-- the numbers that procedures get by the rule are numbers of their own below the count, where there are as many
abbrev pub RuleGivesNumbers : Type 0
RuleGivesNumbers = (tree : ShownTree) (devices : List SpecifiedDevice) (callers : List Caller) (order numbers : List ℕ) →
    IsNumbering callers order → AreNumbers order numbers →
    length numbers ≡ length (procedures_in (numbered_of (table_of tree) devices numbers tree) numbering.first tree.declarations) →
    AreProcedureNumbers tree devices numbers

-- where no rule on names and types is broken, the form or kinds of each name are there
abbrev pub SensesAreComplete : Type 0
SensesAreComplete = (tree : ShownTree) → names.broken tree ≡ [] → (scope : ℕ) →
    AllByRecursion IsComplete (senses_at (table_of tree) scope)

-- where no rule on names and types is broken in a module, and so none in an expression, its names and literals are known, and
-- so are those of what a statement asks for
abbrev pub NamesAreKnown : Type 0
NamesAreKnown = (tree : ShownTree) → names.broken tree ≡ [] →
    ((view : View) (e : ShownExpr) → faults_in (known_of tree) (expr_parts view e) ≡ [] → HasNames (table_of tree) view e) ×
    ((types : ℕ) (place : Placed) → faults_in (known_of tree) (parts_at types place) ≡ [] →
    AllByRecursion (HasItsNames (table_of tree)) (asked_at place))

-- what is asked for is known where its names are, its literals are values, and no rule is broken
abbrev pub AskedIsKnown : Type 0
AskedIsKnown = (table : Table) (asked : Asked) → HasItsNames table asked → AskedLiterals table.lengths asked →
    asked_faults table asked ≡ [] → IsKnown table asked

-- two semaphores of a module have two numbers, from wherever their names are seen
abbrev pub SemaphoresAreApart : Type 0
SemaphoresAreApart = (tree : ShownTree) (devices : List SpecifiedDevice) (procedures : List ℕ) (scope : ℕ) →
    HasSemaphoresApart (numbered_of (table_of tree) devices procedures tree) (Within scope)

-- where names lead to what is there, and two semaphores have two numbers, REQUEST and RELEASE become sound, if what they ask
-- for is known and no rule is broken, and they name a semaphore
abbrev pub SemaphoreStatementsAreSound : Type 0
SemaphoreStatementsAreSound = (numbered : Numbered) (sort : RoutineSort) (place : Placed) (at : At) (around : Around) →
    LeadNames numbered (Within place.spot.scope) around → HasSemaphoresApart numbered (Within place.spot.scope) →
    (word : SemaWord) (names : List Name) (from : ℕ) → place.statement ≡ OfOnSemas word names from → 0 < length names →
    AllByRecursion (IsKnown numbered.table) (asked_at place) → statement_faults numbered.table sort place ≡ [] →
    AreStmts around (resolve_stmt numbered place.spot.scope at place.statement)

-- a format in which S33 isn't broken, where its values have these kinds, fits them
abbrev pub FormatsFit : Type 0
FormatsFit = (from : ℕ) (items : List Fmt) (kinds : List Kind) → format_faults from items (map Some kinds) ≡ [] →
    FitsFormat (map item_of items) kinds

-- where names lead to what is there, PUT becomes sound, if its format is there, what it asks for is known and no rule is broken
abbrev pub PutsAreSound : Type 0
PutsAreSound = (numbered : Numbered) (sort : RoutineSort) (place : Placed) (at : At) (around : Around) →
    LeadNames numbered (Within place.spot.scope) around →
    (values : List ShownExpr) (dation : Name) (formats : List Fmt) (from : ℕ) → place.statement ≡ OfPut values dation formats from →
    slice_get around.formats at.format ≡ Some (map item_of formats) →
    AllByRecursion (IsKnown numbered.table) (asked_at place) → statement_faults numbered.table sort place ≡ [] →
    AreStmts around (resolve_stmt numbered place.spot.scope at place.statement)

-- and so does GET, whose cells are there besides
abbrev pub GetsAreSound : Type 0
GetsAreSound = (numbered : Numbered) (sort : RoutineSort) (place : Placed) (at : At) (around : Around) →
    LeadNames numbered (Within place.spot.scope) around →
    (targets : List ShownRef) (dation : Name) (formats : List Fmt) (from : ℕ) → place.statement ≡ OfGet targets dation formats from →
    slice_get around.formats at.format ≡ Some (map item_of formats) →
    take (length (get_cells numbered place.spot.scope targets)) (drop at.cell around.cells) ≡
    get_cells numbered place.spot.scope targets →
    AllByRecursion (IsKnown numbered.table) (asked_at place) → statement_faults numbered.table sort place ≡ [] →
    AreStmts around (resolve_stmt numbered place.spot.scope at place.statement)

-- statements that have all that they need, with all statements within them, become sound ones
abbrev pub StatementsAreSound : Type 0
StatementsAreSound = (numbered : Numbered) (sort : RoutineSort) (around : Around) (spot : Spot) (at : At) (statements : ShownStmts) →
    AllStand numbered sort around spot at statements → AreStmts around (resolve_all numbered spot.scope at statements)

-- where a module breaks no static rule, none is broken in any statement of its tasks and procedures, and all names and literals
-- of what the statement asks for are known
abbrev pub StatementsAreKept : Type 0
StatementsAreKept = (tree : ShownTree) → all_broken tree ≡ [] →
    AllByRecursion (λ (routine : Routine).
    AllByRecursion (λ place. statement_faults (table_of tree) routine.sort place ≡ []) (statements_of routine) ×
    AllByRecursion (λ place. AllByRecursion (HasItsNames (table_of tree)) (asked_at place)) (statements_of routine)) (routines_of tree)

-- in a lawful tree the literals of all that its statements ask for are values
abbrev pub StatementsHaveLiterals : Type 0
StatementsHaveLiterals = (tree : Tree) → IsLawful tree →
    AllByRecursion (λ (routine : Routine).
    AllByRecursion (λ place. AllByRecursion (AskedLiterals (table_of (shown_tree tree)).lengths) (asked_at place)) (statements_of routine))
    (routines_of (shown_tree tree))

-- in a tree that spells tokens each REQUEST and RELEASE names a semaphore
abbrev pub SemaphoresAreNamed : Type 0
SemaphoresAreNamed = (tree : Tree) (tokens : List Token) → Spells tree tokens → NamesSemaphores (shown_tree tree)

-- the procedures and tasks of a module that breaks no static rule are sound in its program, where each REQUEST and RELEASE names
-- a semaphore, procedures have numbers of their own below their count, and what goes into variables of tasks and procedures as
-- first values suits them
abbrev pub RoutinesAreSound : Type 0
RoutinesAreSound = (tree : Tree) → NamesSemaphores (shown_tree tree) → IsLawful tree → all_broken (shown_tree tree) ≡ [] →
    (devices : List SpecifiedDevice) (procedures : List ℕ) → Lists device_key (IsDevice (shown_tree tree)) devices →
    AreProcedureNumbers (shown_tree tree) devices procedures →
    AllByRecursion (RoutineRenewsRight (numbered_of (table_of (shown_tree tree)) devices procedures (shown_tree tree)))
    (routines_of (shown_tree tree)) →
    AllByRecursion (IsProcedure (resolve (table_of (shown_tree tree)) devices procedures (shown_tree tree)))
    (resolve (table_of (shown_tree tree)) devices procedures (shown_tree tree)).procedures ×
    AllByRecursion (IsTask (resolve (table_of (shown_tree tree)) devices procedures (shown_tree tree)))
    (resolve (table_of (shown_tree tree)) devices procedures (shown_tree tree)).tasks
