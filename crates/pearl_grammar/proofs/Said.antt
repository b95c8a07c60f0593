-- The tokens that each production spells are those that its definition says.
use Rattle.std.proofs.Common.{rules, ◌≡◌, ℕ, ◌+◌, List, refl, subst, arith}
use Rattle.pearl_tree.specs.declared.name.Name.{Name}
use Rattle.pearl_tree.specs.declared.format.Fmt.{Fmt}
use Rattle.pearl_tree.specs.declared.token.Token.{Token}
use Rattle.pearl_tree.specs.declared.symbol.TheConstants as s
use Rattle.pearl_tree.specs.declared.word_code.TheConstants as w
use Rattle.pearl_tree.specs.Standing.{SpellsBracketedNumber}
use Rattle.pearl_tree.specs.Expressions.{SpellsConst}
use Rattle.pearl_tree.specs.Types.{SpellsNames, SpellsInt, SpellsUpper, SpellsBound, SpellsBounds, SpellsBasic, SpellsField}
use Rattle.pearl_tree.specs.Declarations.{SpellsDevice, SpellsPrio, SpellsItem, SpellsSema, SpellsDeclared, SpellsClass}
use Rattle.pearl_tree.specs.Declarations.{SpellsControl, SpellsSpec, SpellsParam}
use Rattle.pearl_tree.specs.Modules.{SpellsReturns}
use Rattle.pearl_tree.specs.Standing.{HasWord, HasSymbol, IsName, SpellsName, SpellsList}
use Rattle.pearl_tree.specs.Formats.{SpellsFmt}
use Rattle.pearl_grammar.specs.Rules.{Spells}
use Rattle.pearl_tree.specs.Statements.{SpellsAfter, SpellsValue, SpellsPeriodEnd, SpellsPeriod, SpellsStart, SpellsOnce}
use Rattle.pearl_tree.specs.Statements.{SpellsFor, SpellsBodyDecl}
use Rattle.pearl_grammar.specs.Laws.{IsSaid, LengthsAreSaid, TypesAreSaid, VariablesAreSaid, SpecificationsAreSaid, Empties}
use Rattle.pearl_grammar.specs.Laws.{Exits, Assigns, Calls, Returns, Activates, Continues, Resumes, TasksAreActedOn}
use Rattle.pearl_grammar.specs.Laws.{SemasAreActedOn, InterruptsAreActedOn, Puts, Gets, Sends, Takes}
use Rattle.pearl_grammar.specs.Declarations as rule
use Rattle.pearl_grammar.specs.Statements as statement

pub names_said : IsSaid SpellsNames rule.names_rule rule.names_parts
names_said = search rules

pub bracketed_number_said : IsSaid SpellsBracketedNumber rule.bracketed_number_rule rule.bracketed_number_parts
bracketed_number_said = search rules

pub constant_said : IsSaid SpellsConst rule.constant_rule rule.constant_parts
constant_said = search rules

pub int_said : IsSaid SpellsInt rule.int_rule rule.int_parts
int_said = search rules

pub upper_said : IsSaid SpellsUpper rule.upper_rule rule.upper_parts
upper_said = search rules

pub bound_said : IsSaid SpellsBound rule.bound_rule rule.bound_parts
bound_said = search rules

pub bounds_said : IsSaid SpellsBounds rule.bounds_rule rule.bounds_parts
bounds_said = search rules

pub basic_said : IsSaid SpellsBasic rule.basic_rule rule.basic_parts
basic_said = search rules

pub field_said : (depth : ℕ) → IsSaid (λ tokens. SpellsField tokens depth) (rule.field_rule depth) (rule.field_parts depth)
field_said = search rules

pub item_said : IsSaid SpellsItem rule.item_rule rule.item_parts
item_said = search rules

pub sema_said : IsSaid SpellsSema rule.sema_rule rule.sema_parts
sema_said = search rules

pub declared_said : IsSaid SpellsDeclared rule.declared_rule rule.declared_parts
declared_said = search rules

pub class_said : IsSaid SpellsClass rule.class_rule rule.class_parts
class_said = search rules

pub control_said : IsSaid SpellsControl rule.control_rule rule.control_parts
control_said = search rules

pub spec_said : IsSaid SpellsSpec rule.spec_rule rule.spec_parts
spec_said = search rules

pub device_said : IsSaid SpellsDevice rule.device_rule rule.device_parts
device_said = search rules

pub param_said : IsSaid SpellsParam rule.param_rule rule.param_parts
param_said = search rules

pub prio_said : IsSaid SpellsPrio rule.prio_rule rule.prio_parts
prio_said = search rules

pub returns_said : IsSaid SpellsReturns rule.returns_rule rule.returns_parts
returns_said = search rules

pub length_said : LengthsAreSaid
length_said = search rules

pub type_said : TypesAreSaid
type_said = search rules

pub declare_said : VariablesAreSaid
declare_said = search rules

pub specify_said : SpecificationsAreSaid
specify_said = search rules

pub after_said : (word : ℕ) → IsSaid (λ tokens. SpellsAfter tokens word) (statement.after_rule word) (statement.after_parts word)
after_said = search rules

pub value_said : IsSaid SpellsValue statement.value_rule statement.value_parts
value_said = search rules

pub period_end_said : IsSaid SpellsPeriodEnd statement.period_end_rule statement.period_end_parts
period_end_said = search rules

pub period_said : IsSaid SpellsPeriod statement.period_rule statement.period_parts
period_said = search rules

pub start_said : IsSaid SpellsStart statement.start_rule statement.start_parts
start_said = search rules

pub once_said : IsSaid SpellsOnce statement.once_rule statement.once_parts
once_said = search rules

pub empty_said : Empties
empty_said = search rules

pub exit_said : Exits
exit_said = search rules

pub assign_said : Assigns
assign_said = search rules

pub call_said : Calls
call_said = search rules

pub return_said : Returns
return_said = search rules

pub activate_said : Activates
activate_said = search rules

pub continue_said : Continues
continue_said = search rules

pub resume_said : Resumes
resume_said = search rules

pub on_task_said : TasksAreActedOn
on_task_said = search rules

pub on_interrupt_said : InterruptsAreActedOn
on_interrupt_said = search rules

-- what stands behind TO and FROM
module _ (tokens : List Token) (a : ℕ) (name : Name) (formats : List Fmt) (to : ℕ) where
  abbrev Transferred : Type 0
  Transferred =
      (b : ℕ) × IsName tokens (a + 1) name × HasWord tokens (a + 2) w.BY ×
      SpellsList tokens (SpellsFmt tokens) (a + 3) formats b × HasSymbol tokens b s.SEMICOLON × (to ≡ b + 1)

  transfer_parts : Transferred → Spells statement.transfer_rule tokens (a + 1) (name, (formats, tt)) to
  transfer_parts h =
      let behind : a + 3 ≡ a + 2 + 1 = omega arith in (
        a + 2,
        (h.1, omega arith),
        (h.2, (h.0, subst (λ k. SpellsList tokens (SpellsFmt tokens) k formats h.0) behind h.3, (h.4, h.5))),
      )

  transferred : Spells statement.transfer_rule tokens (a + 1) (name, (formats, tt)) to → Transferred
  transferred h =
      let word : h.0 ≡ a + 2 = omega (arith, h.1.1) in
      let behind : h.0 + 1 ≡ a + 3 = omega (arith, h.1.1) in
      let last = h.2.1 in (
        last.0,
        h.1.0,
        subst (λ k. HasWord tokens k w.BY) word h.2.0,
        subst (λ k. SpellsList tokens (SpellsFmt tokens) k formats last.0) behind last.1,
        last.2.0,
        last.2.1,
      )

pub put_said : Puts
put_said depth tokens from x to = (
  λ h. (
    h.2,
    (
      h.3,
      (
        h.0,
        h.4,
        (
          h.5,
          transfer_parts tokens h.0 x.value.dation x.value.formats.items.items to
              (h.1, h.6, h.7, h.8, h.9, h.10),
        ),
      ),
    ),
  ),
  λ h.
      let list = h.1.1 in
      let last = transferred tokens list.0 x.value.dation x.value.formats.items.items to list.2.1 in
      (list.0, last.0, h.0, h.1.0, list.1, list.2.0, last.1, last.2, last.3, last.4, last.5),
)

pub get_said : Gets
get_said depth tokens from x to = (
  λ h. (
    h.2,
    (
      h.3,
      (
        h.0,
        h.4,
        (
          h.5,
          transfer_parts tokens h.0 x.value.dation x.value.formats.items.items to
              (h.1, h.6, h.7, h.8, h.9, h.10),
        ),
      ),
    ),
  ),
  λ h.
      let list = h.1.1 in
      let last = transferred tokens list.0 x.value.dation x.value.formats.items.items to list.2.1 in
      (list.0, last.0, h.0, h.1.0, list.1, list.2.0, last.1, last.2, last.3, last.4, last.5),
)

pub send_said : Sends
send_said = search rules

pub take_said : Takes
take_said = search rules

pub semas_said : SemasAreActedOn
semas_said depth tokens from x to = (
  λ h. (h.1, (from + 1, (h.2, refl), (h.0, h.3, (h.4, h.5)))),
  λ h. (
    h.1.2.0,
    h.0,
    h.1.1.0,
    subst (λ k. SpellsList tokens (SpellsName tokens) k x.value.names.items.items h.1.2.0) h.1.1.1 h.1.2.1,
    h.1.2.2.0,
    h.1.2.2.1,
  ),
)

-- ---- parts of statements that hold others

pub for_said : IsSaid SpellsFor statement.for_rule statement.for_parts
for_said = search rules

pub body_declaration_said : IsSaid SpellsBodyDecl statement.body_declaration_rule statement.body_declaration_parts
body_declaration_said = search rules
