-- The names of a routine's scopes lead to what is there.
use Rattle.std.specs.Prelude.{◌≡◌, ℕ, zero, suc, ◌+◌, ◌≤◌, ◌<◌, nat_eq, Bool, true, false, ◌||◌, List, [], ◌∷◌, ◌++◌, length, map, take, drop, Option, Some, None, unwrap_or, slice_get}
use Rattle.std.specs.List.{list_any}
use Rattle.std.proofs.Common.{refl, ap, ◌∙◌, sym, subst, arith}
use Rattle.std.proofs.lemmas.List.{length-take-le, take-append-drop}
use Rattle.std.proofs.lemmas.Option.{none-some}
use Rattle.pearl_value.specs.declared.kind.Kind.{Kind}
use Rattle.pearl_value.specs.declared.kind.Kind.TheVariants.{Fixed}
use Rattle.pearl_value.specs.declared.kind.CellKind.{CellKind}
use Rattle.pearl_value.specs.declared.kind.CellKind.TheVariants.{Plain, RefTo}
use Rattle.pearl_tree.specs.declared.name.Name.{Name}
use Rattle.pearl_names.specs.Shapes.{Shape, OfKind, OfFields}
use Rattle.pearl_names.specs.Layout.{leaves_of, slots_of}
use Rattle.pearl_names.specs.Tables.{Form, Sense, Variable, Control, OwnParameter, NewType, BasicDation, Procedure}
use Rattle.pearl_program.specs.declared.expression.Target.{Target}
use Rattle.pearl_program.specs.declared.expression.Target.TheVariants as target
use Rattle.pearl_program.specs.declared.expression.Bound.{Bound}
use Rattle.pearl_program.specs.PlainExpressions as plain
use Rattle.pearl_program.specs.PlainExpressions.{OfVariable}
use Rattle.pearl_program.specs.PlainStatements.{PlainCounter}
use Rattle.pearl_program.specs.Typing.{Around, AreOpen, IsControl}
use Rattle.pearl_program.specs.SoundStatements.{within, with_control}
use Rattle.pearl_resolve.specs.Laying.{cells_of_sense}
use Rattle.pearl_resolve.specs.Numbers.{own_number, own_numbers}
use Rattle.pearl_resolve.specs.Cells.{sense_cells}
use Rattle.pearl_resolve.specs.Expressions.{Meant, Walk, target_in, own_or_param, begun, walk_of, to_field, field_of}
use Rattle.pearl_sound.specs.Laws.{IsNoControl}
use Rattle.pearl_sound.specs.SoundForms.{HasSoundForm, IsSoundSense}
use Rattle.pearl_sound.specs.SoundNames.{Points, IsEnd, Follows, Reaches}
use Rattle.pearl_sound.proofs.Leading.{Leads, thing_of, reaches}
use Rattle.pearl_sound.proofs.Reaching.{reach}
use Rattle.pearl_sound.proofs.SoundParts.{some_one}
use Rattle.pearl_sound.proofs.Stretched.{Lies}

-- what lies where it is taken from
pub lies_from : {X : Type 0} (xs part : List X) (n m : ℕ) → take n (drop m xs) ≡ part → m + n ≤ length xs → Lies xs part m
lies_from xs part n m is fits = record {
  before = take m xs;
  behind = drop n (drop m xs);
  is = sym (take-append-drop m xs) ∙ ap (λ rest. take m xs ++ rest) (sym (take-append-drop n (drop m xs))) ∙
      ap (λ first. take m xs ++ (first ++ drop n (drop m xs))) is;
  begins = length-take-le m xs (omega (arith, fits));
}

one_taken : (cells : List CellKind) (n : ℕ) (kind : CellKind) → take 1 (drop n cells) ≡ kind ∷ [] → slice_get cells n ≡ Some kind
one_taken [] zero kind is = let none = ap length is in absurd (omega (arith, none))
one_taken [] (suc n) kind is = let none = ap length is in absurd (omega (arith, none))
one_taken (cell ∷ rest) zero kind is = ap (λ cells. slice_get cells 0) is
one_taken (cell ∷ rest) (suc n) kind is = one_taken rest n kind is

-- in a loop within, names lead where they led around it
or_true : (a b : Bool) → b ≡ true → (a || b) ≡ true
or_true true b is = refl
or_true false b is = is

control_within : (counter : Option PlainCounter) (controls : List ℕ) (cell : ℕ) → list_any (nat_eq cell) controls ≡ true →
    list_any (nat_eq cell) (with_control counter controls) ≡ true
control_within None controls cell is = is
control_within (Some counter) controls cell is = or_true (nat_eq cell counter.cell) (list_any (nat_eq cell) controls) is

points_within : (around : Around) (counter : Option PlainCounter) (control : Bool) (to : Target) (bounds : List Bound) (kind : Kind) →
    Points around control to bounds kind → Points (within around counter) control to bounds kind
points_within around counter false (target.Leaf number) bounds kind points = points
points_within around counter false (target.Own cell) bounds kind points = points
points_within around counter false (target.Param cell) bounds kind points = points
points_within around counter true (target.Own cell) [] kind points = (control_within counter around.controls cell points.0, points.1)
points_within around counter true (target.Own cell) (bound ∷ bounds) kind points = absurd points
points_within around counter true (target.Leaf number) bounds kind points = absurd points
points_within around counter true (target.Param cell) bounds kind points = absurd points

end_within : (around : Around) (counter : Option PlainCounter) (control : Bool) (shape : Shape) (to : Target) (bounds : List Bound) →
    IsEnd around control shape to bounds → IsEnd (within around counter) control shape to bounds
end_within around counter control (OfKind kind) to bounds end = (end.0, points_within around counter control to bounds kind end.1)
end_within around counter control (OfFields fields) to bounds end = tt

follows_within : (around : Around) (counter : Option PlainCounter) (control : Bool) (path : List Name) (walk : Walk) →
    Follows around control walk path → Follows (within around counter) control walk path
follows_within around counter control [] walk there =
    record { sound = there.sound; end = end_within around counter control walk.shape walk.target walk.bounds there.end }
follows_within around counter control (name ∷ path) walk follows =
    follows_within around counter control path (to_field walk (field_of walk.shape name)) follows

leads_sense : (around : Around) (counter : Option PlainCounter) (sense : Sense) (scope number : ℕ) → Leads around (thing_of sense scope number) →
    Leads (within around counter) (thing_of sense scope number)
leads_sense around counter (Variable None inv) scope number leads = tt
leads_sense around counter (Variable (Some form) inv) scope number leads =
    λ path. follows_within around counter false path (walk_of (thing_of (Variable (Some form) inv) scope number)) (leads path)
leads_sense around counter (Control kind) scope number leads =
    λ path. follows_within around counter true path (walk_of (thing_of (Control kind) scope number)) (leads path)
leads_sense around counter (OwnParameter parameter) scope number leads =
    λ path. follows_within around counter false path (walk_of (thing_of (OwnParameter parameter) scope number)) (leads path)
leads_sense around counter NewType scope number leads = tt
leads_sense around counter (BasicDation direction None) scope number leads = tt
leads_sense around counter (Procedure parameters result) scope number leads =
    record { signature = leads.signature; there = leads.there; params = leads.params; gives = leads.gives }
leads_sense around counter sense scope number leads = leads

pub leads_within : (around : Around) (counter : Option PlainCounter) (thing : Meant) → Leads around thing → Leads (within around counter) thing
leads_within around counter thing leads = leads_sense around counter thing.sense thing.scope thing.number leads

-- a name of a routine's own, where its loop's control variable is of this kind
abbrev pub IsLocal : (control : Option Kind) → Sense → Type 0
IsLocal control (Variable form inv) = Unit {0}
IsLocal control (Control kind) = control ≡ Some kind
IsLocal control (OwnParameter parameter) = Unit {0}
IsLocal control sense = ⊥

-- what lies at a name's number
pub record HasCells (around : Around) (number : ℕ) (sense : Sense) : Type 0 where
  pub lies : take (cells_of_sense sense) (drop number around.cells) ≡ sense_cells sense
  pub free : AreOpen around.hidden number (cells_of_sense sense)
  pub fits : number + cells_of_sense sense ≤ length around.cells

target_own : (scope number : ℕ) → 0 < scope → target.Own number ≡ target_in scope number
target_own zero number inner = absurd (omega (arith, inner))
target_own (suc scope) number inner = refl

variable_leads : (around : Around) (scope number : ℕ) (form : Form) (inv : Bool) → 0 < scope → HasSoundForm (Some form) →
    HasCells around number (Variable (Some form) inv) → Reaches around false (begun (target_in scope number) form.bounds form.shape)
variable_leads around scope number form inv inner sound has =
    subst (λ to. Reaches around false (begun to form.bounds form.shape)) (target_own scope number inner)
    (λ path. reach around plain.NoExprs path (target.Own number) [] form.bounds form.shape
    (lies_from around.cells (map Plain (slots_of (leaves_of [] form.bounds form.shape))) (cells_of_sense (Variable (Some form) inv)) number has.lies has.fits, has.free)
    sound.bounds sound.shape sound.leaves)

parameter_leads : (around : Around) (number : ℕ) (ident : Bool) (known : Option Kind) →
    HasCells around number (OwnParameter (record { kind = known; ident = ident })) →
    Reaches around false (begun (own_or_param ident number) [] (OfKind (unwrap_or known (Fixed 31))))
parameter_leads around number true known has =
    reaches around false (target.Param number) [] (unwrap_or known (Fixed 31))
    (record { sound = tt; end = (omega arith, (refl, one_taken around.cells number (RefTo (unwrap_or known (Fixed 31))) has.lies)) })
parameter_leads around number false known has =
    reaches around false (target.Own number) [] (unwrap_or known (Fixed 31))
    (record { sound = tt; end = (omega arith, (has.lies, has.free)) })

-- a name that isn't the control variable has its cells; the control variable is that of a loop around
pub local_leads : (around : Around) (control : Option Kind) (sense : Sense) (scope number : ℕ) → 0 < scope → IsLocal control sense → IsSoundSense sense →
    ((kind : Kind) → control ≡ Some kind → sense ≡ Control kind → IsControl around (OfVariable (target.Own number) [] plain.NoExprs) kind) →
    (IsNoControl sense → HasCells around number sense) → Leads around (thing_of sense scope number)
local_leads around control (Variable None inv) scope number inner local sound loop has = tt
local_leads around control (Variable (Some form) inv) scope number inner local sound loop has =
    variable_leads around scope number form inv inner sound (has tt)
local_leads around control (Control kind) scope number inner local sound loop has =
    reaches around true (target.Own number) [] kind (record { sound = tt; end = (omega arith, loop kind local refl) })
local_leads around control (OwnParameter parameter) scope number inner local sound loop has =
    parameter_leads around number parameter.ident parameter.kind (has tt)
local_leads around control sense scope number inner local sound loop has = absurd local

-- each name of a row has a number, and a control variable has its loop's
pub record HasNumber (row : List ℕ) (i : ℕ) : Type 0 where
  pub number : ℕ
  pub there : slice_get row i ≡ Some number

pub number_there : (control from : ℕ) (senses : List Sense) (i : ℕ) (sense : Sense) → slice_get senses i ≡ Some sense →
    HasNumber (own_numbers control from senses) i
number_there control from [] i sense is = absurd (none-some sense is)
number_there control from (first ∷ rest) zero sense is = record { number = own_number control from first; there = refl }
number_there control from (first ∷ rest) (suc i) sense is =
    let more = number_there control (from + cells_of_sense first) rest i sense is in record { number = more.number; there = more.there }

pub control_number : (control from : ℕ) (senses : List Sense) (i number : ℕ) (kind : Kind) → slice_get senses i ≡ Some (Control kind) →
    slice_get (own_numbers control from senses) i ≡ Some number → control ≡ number
control_number control from [] i number kind is has = absurd (none-some (Control kind) is)
control_number control from (first ∷ rest) zero number kind is has =
    ap (own_number control from) (sym (some_one is)) ∙ some_one has
control_number control from (first ∷ rest) (suc i) number kind is has = control_number control (from + cells_of_sense first) rest i number kind is has
