-- References come to the shapes with which they are judged.
use Rattle.std.specs.Prelude.{◌≡◌, ℕ, zero, suc, ◌==◌, ◌&&◌, length, Bool, true, false, if◌then◌else◌, [], Option, Some, None, option_map, unwrap_or}
use Rattle.std.specs.Option.{option_and_then}
use Rattle.std.proofs.Common.{refl, ap, ◌∙◌, sym, subst}
use Rattle.std.proofs.lemmas.Option.{none-some}
use Rattle.pearl_value.specs.declared.kind.Kind.{Kind}
use Rattle.pearl_tree.specs.declared.name.Name.{Name}
use Rattle.pearl_tree.specs.declared.rule.TheConstants as rule
use Rattle.pearl_tree.specs.Names.{name_text}
use Rattle.pearl_tree.specs.ShownExpressions.{ShownSelectors, NoSelectors, MoreSelectors, ShownSelector, OfSubscripts, OfComponent, ShownRef}
use Rattle.pearl_names.specs.declared.scope.View.{View}
use Rattle.pearl_names.specs.declared.meaning.Found.{Found}
use Rattle.pearl_names.specs.Found.{found_from}
use Rattle.pearl_names.specs.Shapes.{Shape, OfKind, OfFields}
use Rattle.pearl_names.specs.Forms.{Component, component}
use Rattle.pearl_names.specs.Tables.{Form, Sense, Variable, Control, OwnParameter, sense_at, sense_from}
use Rattle.pearl_check_expr.specs.Standings as judged
use Rattle.pearl_check_expr.specs.Standings.{Standing, Broken, Open, Walked, standing_of, start_at, variable_start, element_standing, value_of, walked_on, stopped}
use Rattle.pearl_check_expr.specs.Judged as judging
use Rattle.pearl_check_expr.specs.Judged.{walked_ref, judged_variable}
use Rattle.pearl_resolve.specs.Expressions.{Numbered, number_at, meant_at, meant, Walk, walk_of, walk_from, to_field, field_of, kind_of_shape, along, step, walked, target_kind}

-- a walk stands where a reference is judged to stand
abbrev Stands : Standing → Walk → Type 0
Stands Broken walk = Unit {0}
Stands (Open dimensions shape) walk = walk.shape ≡ shape

with_form : (scope number : ℕ) (form : Option Form) (inv : Bool) →
    Stands (judged.form_standing form) (walk_of (record { sense = Variable form inv; scope = scope; number = number }))
with_form scope number None inv = tt
with_form scope number (Some form) inv = refl

with_kind : (scope number : ℕ) (kind : Option Kind) (ident : Bool) →
    Stands (judged.kind_standing kind) (walk_of (record { sense = OwnParameter (record { kind = kind; ident = ident }); scope = scope; number = number }))
with_kind scope number None ident = tt
with_kind scope number (Some kind) ident = refl

sense_stands : (name : Name) (scope number : ℕ) (sense : Sense) →
    Stands (start_at name (standing_of sense)).standing (walk_of (record { sense = sense; scope = scope; number = number }))
sense_stands name scope number (Variable form inv) = with_form scope number form inv
sense_stands name scope number (Control kind) = refl
sense_stands name scope number (OwnParameter parameter) = with_kind scope number parameter.kind parameter.ident
sense_stands name scope number sense = tt

if_sense : (name : Name) (scope number : ℕ) (sense : Option Sense) →
    Stands (variable_start name sense).standing
    (walk_from (option_map (λ s. record { sense = s; scope = scope; number = number }) sense))
if_sense name scope number None = tt
if_sense name scope number (Some sense) = sense_stands name scope number sense

if_found : (numbered : Numbered) (name : Name) (found : Option Found) →
    Stands (variable_start name (option_and_then (sense_at numbered.table.senses) found)).standing
    (walk_from (option_and_then (meant_at numbered) found))
if_found numbered name None = tt
if_found numbered name (Some found) =
    if_sense name found.scope (number_at numbered.numbers found) (sense_at numbered.table.senses found)

starts : (numbered : Numbered) (view : View) (name : Name) →
    Stands (variable_start name (sense_from numbered.table view (name_text name))).standing (walk_from (meant numbered view name))
starts numbered view name = if_found numbered name (found_from numbered.table.names view (name_text name))

element_stands : (place rule : ℕ) (test known : Bool) (shape : Shape) (walk : Walk) → walk.shape ≡ shape →
    Stands (if test then walked_on (element_standing known shape) [] else stopped place rule).standing walk
element_stands place rule false known shape walk same = tt
element_stands place rule true false shape walk same = tt
element_stands place rule true true shape walk same = same

field_stands : (name : Name) (walk : Walk) (field : Option Component) →
    Stands (judged.to_field name field).standing (to_field walk field)
field_stands name walk None = tt
field_stands name walk (Some field) = refl

component_stands : (name : Name) (walk : Walk) (shape : Shape) → walk.shape ≡ shape →
    Stands (judged.field_of shape name).standing (to_field walk (field_of walk.shape name))
component_stands name walk (OfKind kind) same = tt
component_stands name walk (OfFields fields) same =
    subst (λ shape. Stands (judged.to_field name (component 0 0 fields (name_text name))).standing (to_field walk (field_of shape name)))
    (sym same) (field_stands name walk (component 0 0 fields (name_text name)))

step_stands : (numbered : Numbered) (view : View) (name : Name) (standing : Standing) (walk : Walk) (selector : ShownSelector) →
    Stands standing walk → Stands (judging.step numbered.table view name standing selector).standing (step numbered view walk selector)
step_stands numbered view name Broken walk (OfSubscripts exprs place) stands = tt
step_stands numbered view name (Open dimensions shape) walk (OfSubscripts exprs place) stands =
    let parts = judging.judged_all numbered.table view exprs in
    element_stands name.place rule.S17 (length parts == dimensions && judged.all_fixed parts) (judged.all_known parts) shape
    (step numbered view walk (OfSubscripts exprs place)) stands
step_stands numbered view name Broken walk (OfComponent field place) stands = tt
step_stands numbered view name (Open zero shape) walk (OfComponent field place) stands = component_stands field walk shape stands
step_stands numbered view name (Open (suc n) shape) walk (OfComponent field place) stands = tt

along_stands : (numbered : Numbered) (view : View) (name : Name) (before : Walked) (walk : Walk) (selectors : ShownSelectors) →
    Stands before.standing walk → Stands (judging.along numbered.table view name before selectors).standing (along numbered view walk selectors)
along_stands numbered view name before walk NoSelectors stands = stands
along_stands numbered view name before walk (MoreSelectors selector rest) stands =
    along_stands numbered view name (judged.behind before.faults (judging.step numbered.table view name before.standing selector))
    (step numbered view walk selector) rest (step_stands numbered view name before.standing walk selector stands)

pub ref_stands : (numbered : Numbered) (view : View) (reference : ShownRef) →
    Stands (walked_ref numbered.table view reference).standing (walked numbered view reference)
ref_stands numbered view reference =
    along_stands numbered view reference.name (variable_start reference.name (sense_from numbered.table view (name_text reference.name)))
    (walk_from (meant numbered view reference.name)) reference.selectors (starts numbered view reference.name)

value_kinds : (name : Name) (standing : Standing) (walk : Walk) (kind : Kind) → Stands standing walk →
    (value_of name standing).kind ≡ Some kind → kind_of_shape walk.shape ≡ kind
value_kinds name (Open zero (OfKind of)) walk kind stands is = ap kind_of_shape stands ∙ ap (λ found. unwrap_or found of) is
value_kinds name other walk kind stands is = absurd (none-some kind is)

pub target_kinds : (numbered : Numbered) (view : View) (reference : ShownRef) (kind : Kind) →
    (judged_variable numbered.table view reference).kind ≡ Some kind → target_kind numbered view reference ≡ kind
target_kinds numbered view reference kind is =
    value_kinds reference.name (walked_ref numbered.table view reference).standing (walked numbered view reference) kind
    (ref_stands numbered view reference) is
