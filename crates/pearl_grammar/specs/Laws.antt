-- What holds of productions: the tokens that a rule spells are those that spell the part which holds these places and
-- parts.
use Rattle.std.specs.Prelude.{ℕ, ◌↔◌, List}
use Rattle.pearl_tree.specs.declared.name.Name.{Name}
use Rattle.pearl_tree.specs.declared.name.Number.{Number}
use Rattle.pearl_tree.specs.declared.parts.Parts.{Parts}
use Rattle.pearl_tree.specs.declared.typing.Sort.{Sort}
use Rattle.pearl_tree.specs.declared.typing.Typing.{Typing}
use Rattle.pearl_tree.specs.declared.declaration.Declared.{Declared}
use Rattle.pearl_tree.specs.declared.declaration.Spec.{Spec}
use Rattle.pearl_tree.specs.declared.tree.Decl.TheVariants as decl
use Rattle.pearl_tree.specs.Modules.{SpellsDecl}
use Rattle.pearl_grammar.specs.Declarations as declaration
use Rattle.pearl_tree.specs.declared.token.Token.{Token}
use Rattle.pearl_tree.specs.Standing.{Spelling}
use Rattle.pearl_tree.specs.declared.statement.Stmt.{Stmt, Empty, Exit, Assign, Call, Return, Activate, Continue, Resume, OnTask}
use Rattle.pearl_tree.specs.declared.statement.Stmt.{OnSemas, OnInterrupt, Put, Get, Send, Take}
use Rattle.pearl_tree.specs.Statements.{SpellsStmt}
use Rattle.pearl_grammar.specs.Rules.{Rule, Held, Spells}
use Rattle.pearl_grammar.specs.Statements as rule

abbrev pub IsSaid : {X : Type 0} → (List Token → Spelling X) → (rule : Rule) → (X → Held rule) → Type 0
IsSaid {X} spells rule parts = (tokens : List Token) (from : ℕ) (x : X) (to : ℕ) →
    spells tokens from x to ↔ Spells rule tokens from (parts x) to

-- ---- declarations

abbrev pub LengthsAreSaid : Type 0
LengthsAreSaid = (sort : Sort) (number : Number) (place : ℕ) (tokens : List Token) (from to : ℕ) →
    SpellsDecl tokens from (decl.Length sort number place) to ↔
    Spells declaration.length_rule tokens from (place, (sort, (number, tt))) to

abbrev pub TypesAreSaid : Type 0
TypesAreSaid = (name : Name) (typing : Typing) (place : ℕ) (tokens : List Token) (from to : ℕ) →
    SpellsDecl tokens from (decl.Type name typing place) to ↔
    Spells declaration.type_rule tokens from (place, (name, (typing, tt))) to

abbrev pub VariablesAreSaid : Type 0
VariablesAreSaid = (declared : Parts Declared) (place : ℕ) (tokens : List Token) (from to : ℕ) →
    SpellsDecl tokens from (decl.Declare declared place) to ↔
    Spells declaration.declare_rule tokens from (place, (declared.items.items, tt)) to

abbrev pub SpecificationsAreSaid : Type 0
SpecificationsAreSaid = (specs : Parts Spec) (place : ℕ) (tokens : List Token) (from to : ℕ) →
    SpellsDecl tokens from (decl.Specify specs place) to ↔
    Spells declaration.specify_rule tokens from (place, (specs.items.items, tt)) to

-- ---- statements that hold no others, however many of those that do stand around them

-- statements of one kind
abbrev pub AreSaid : {X : Type 0} → (X → Stmt) → (rule : Rule) → (X → Held rule) → Type 0
AreSaid kind rule parts = (depth : ℕ) → IsSaid (λ tokens from x to. SpellsStmt tokens depth from (kind x) to) rule parts

abbrev pub Empties : Type 0
Empties = AreSaid Empty rule.empty_rule rule.empty_parts

abbrev pub Exits : Type 0
Exits = AreSaid Exit rule.exit_rule rule.exit_parts

abbrev pub Assigns : Type 0
Assigns = AreSaid Assign rule.assign_rule (λ part. rule.assign_parts part.value)

abbrev pub Calls : Type 0
Calls = AreSaid Call rule.call_rule (λ part. rule.call_parts part.value)

abbrev pub Returns : Type 0
Returns = AreSaid Return rule.return_rule (λ part. rule.return_parts part.value)

abbrev pub Activates : Type 0
Activates = AreSaid Activate rule.activate_rule (λ part. rule.activate_parts part.value)

abbrev pub Continues : Type 0
Continues = AreSaid Continue rule.continue_rule (λ part. rule.continue_parts part.value)

abbrev pub Resumes : Type 0
Resumes = AreSaid Resume rule.resume_rule (λ part. rule.resume_parts part.value)

abbrev pub TasksAreActedOn : Type 0
TasksAreActedOn = AreSaid OnTask rule.on_task_rule (λ part. rule.on_task_parts part.value)

abbrev pub SemasAreActedOn : Type 0
SemasAreActedOn = AreSaid OnSemas rule.on_semas_rule (λ part. rule.on_semas_parts part.value)

abbrev pub InterruptsAreActedOn : Type 0
InterruptsAreActedOn = AreSaid OnInterrupt rule.on_interrupt_rule (λ part. rule.on_interrupt_parts part.value)

abbrev pub Puts : Type 0
Puts = AreSaid Put rule.put_rule (λ part. rule.put_parts part.value)

abbrev pub Gets : Type 0
Gets = AreSaid Get rule.get_rule (λ part. rule.get_parts part.value)

abbrev pub Sends : Type 0
Sends = AreSaid Send rule.send_rule (λ part. rule.send_parts part.value)

abbrev pub Takes : Type 0
Takes = AreSaid Take rule.take_rule (λ part. rule.take_parts part.value)
