-- References come to what is there, with a subscript for each bound on the way.
use Rattle.std.specs.Prelude.{◌≡◌, ℕ, ℤ, zero, suc, ◌+◌, ◌≤◌, Bool, true, false, if◌then◌else◌, List, [], ◌∷◌, ◌++◌, length, map, take, drop, Option, Some, None, option_map}
use Rattle.std.specs.Option.{option_and_then}
use Rattle.std.proofs.Common.{refl, ap, ◌∙◌, sym, subst, arith}
use Rattle.std.proofs.lemmas.List.{length-append, length-map, length-drop, length-take-le, take-append-le}
use Rattle.pearl_value.specs.declared.kind.Kind.{Kind}
use Rattle.pearl_tree.specs.declared.name.Name.{Name}
use Rattle.pearl_tree.specs.Names.{name_text}
use Rattle.pearl_names.specs.declared.scope.View.{View}
use Rattle.pearl_names.specs.declared.meaning.Found.{Found}
use Rattle.pearl_names.specs.Counts.{cut}
use Rattle.pearl_names.specs.Found.{found_from}
use Rattle.pearl_names.specs.Shapes.{Shape, OfKind, OfFields}
use Rattle.pearl_names.specs.Forms.{Component, component}
use Rattle.pearl_names.specs.Tables.{Form, Sense, Variable, Control, OwnParameter, sense_at, sense_from}
use Rattle.pearl_check_expr.specs.Standings as judged
use Rattle.pearl_check_expr.specs.Standings.{Standing, Broken, Open, standing_of, start_at, variable_start, element_standing, walked_on, stopped}
use Rattle.pearl_program.specs.declared.expression.Target.{Target}
use Rattle.pearl_program.specs.declared.expression.Target.TheVariants.{Leaf, Own, Param}
use Rattle.pearl_program.specs.declared.expression.Bound.{Bound}
use Rattle.pearl_program.specs.PlainExpressions.{PlainVariable, OfVariable, PlainExprs, NoExprs, MoreExprs}
use Rattle.pearl_program.specs.Typing.{Around, IsParam, IsControl, IsVariable, AreSubscripts}
use Rattle.pearl_resolve.specs.Expressions.{Numbered, number_at, meant_at, meant, Walk, bound_of, own_or_param, target_in, begun, walk_of, walk_from, to_field, field_of, count, joined_exprs, variable_of}
use Rattle.pearl_sound.specs.SoundNames.{Points, IsEnd, Follows, Reaches, is_control, LeadValues}
use Rattle.pearl_sound.proofs.Subscripting.{cut_small, cut_most, sound_before, AreAllFixed, count_joined, fixed_given, joined_given, sound_behind}

pub record StandsSound (around : Around) (control : Bool) (dimensions : ℕ) (shape : Shape) (walk : Walk) : Type 0 where
  pub same : walk.shape ≡ shape
  pub reaches : Reaches around control walk
  pub fits : dimensions + count walk.subscripts ≤ length walk.bounds
  pub left : length walk.bounds ≤ 3 → dimensions + count walk.subscripts ≡ length walk.bounds
  pub given : AreSubscripts around (take (count walk.subscripts) walk.bounds) walk.subscripts

abbrev pub IsSoundAt : Around → Bool → Standing → Walk → Type 0
IsSoundAt around control Broken walk = Unit {0}
IsSoundAt around control (Open dimensions shape) walk = StandsSound around control dimensions shape walk

-- a variable by its name
begun_sound : (around : Around) (control : Bool) (target : Target) (bounds : List (ℤ × ℤ)) (shape : Shape) →
    Reaches around control (begun target bounds shape) → StandsSound around control (cut (length bounds)) shape (begun target bounds shape)
begun_sound around control target bounds shape reaches = record {
  same = refl;
  reaches = reaches;
  fits = let a = cut_most (length bounds) in let b = length-map bounds bound_of in omega (arith, a, b);
  left = λ few. let b = length-map bounds bound_of in let c = cut_small (length bounds) (omega (arith, few, b)) in omega (arith, b, c);
  given = tt;
}

one_sound : (around : Around) (control : Bool) (target : Target) (kind : Kind) →
    Reaches around control (begun target [] (OfKind kind)) → StandsSound around control 0 (OfKind kind) (begun target [] (OfKind kind))
one_sound around control target kind reaches = record { same = refl; reaches = reaches; fits = omega arith; left = λ few. refl; given = tt }

form_sound : (around : Around) (control : Bool) (scope number : ℕ) (form : Option Form) (inv : Bool) →
    ((d : ℕ) (s : Shape) → judged.form_standing form ≡ Open d s →
    Reaches around control (walk_of (record { sense = Variable form inv; scope = scope; number = number }))) →
    IsSoundAt around control (judged.form_standing form) (walk_of (record { sense = Variable form inv; scope = scope; number = number }))
form_sound around control scope number None inv reach = tt
form_sound around control scope number (Some form) inv reach =
    begun_sound around control (target_in scope number) form.bounds form.shape (reach (cut (length form.bounds)) form.shape refl)

kind_sound : (around : Around) (control : Bool) (scope number : ℕ) (kind : Option Kind) (ident : Bool) →
    ((d : ℕ) (s : Shape) → judged.kind_standing kind ≡ Open d s → Reaches around control (walk_of
    (record { sense = OwnParameter (record { kind = kind; ident = ident }); scope = scope; number = number }))) →
    IsSoundAt around control (judged.kind_standing kind)
    (walk_of (record { sense = OwnParameter (record { kind = kind; ident = ident }); scope = scope; number = number }))
kind_sound around control scope number None ident reach = tt
kind_sound around control scope number (Some kind) ident reach =
    one_sound around control (own_or_param ident number) kind (reach 0 (OfKind kind) refl)

sense_sound : (around : Around) (control : Bool) (name : Name) (scope number : ℕ) (sense : Sense) →
    ((d : ℕ) (s : Shape) → (start_at name (standing_of sense)).standing ≡ Open d s →
    Reaches around control (walk_of (record { sense = sense; scope = scope; number = number }))) →
    IsSoundAt around control (start_at name (standing_of sense)).standing (walk_of (record { sense = sense; scope = scope; number = number }))
sense_sound around control name scope number (Variable form inv) reach = form_sound around control scope number form inv reach
sense_sound around control name scope number (Control kind) reach = one_sound around control (Own number) kind (reach 0 (OfKind kind) refl)
sense_sound around control name scope number (OwnParameter parameter) reach =
    kind_sound around control scope number parameter.kind parameter.ident reach
sense_sound around control name scope number sense reach = tt

if_sense : (around : Around) (control : Bool) (name : Name) (scope number : ℕ) (sense : Option Sense) →
    ((d : ℕ) (s : Shape) → (variable_start name sense).standing ≡ Open d s →
    Reaches around control (walk_from (option_map (λ s. record { sense = s; scope = scope; number = number }) sense))) →
    IsSoundAt around control (variable_start name sense).standing
    (walk_from (option_map (λ s. record { sense = s; scope = scope; number = number }) sense))
if_sense around control name scope number None reach = tt
if_sense around control name scope number (Some sense) reach = sense_sound around control name scope number sense reach

if_found : (around : Around) (control : Bool) (numbered : Numbered) (name : Name) (found : Option Found) →
    ((d : ℕ) (s : Shape) → (variable_start name (option_and_then (sense_at numbered.table.senses) found)).standing ≡ Open d s →
    Reaches around control (walk_from (option_and_then (meant_at numbered) found))) →
    IsSoundAt around control (variable_start name (option_and_then (sense_at numbered.table.senses) found)).standing
    (walk_from (option_and_then (meant_at numbered) found))
if_found around control numbered name None reach = tt
if_found around control numbered name (Some found) reach =
    if_sense around control name found.scope (number_at numbered.numbers found) (sense_at numbered.table.senses found) reach

pub starts_sound : (numbered : Numbered) (view : View) (around : Around) → LeadValues numbered view around → (name : Name) →
    IsSoundAt around (is_control (sense_from numbered.table view (name_text name)))
    (variable_start name (sense_from numbered.table view (name_text name))).standing (walk_from (meant numbered view name))
starts_sound numbered view around lead name =
    if_found around (is_control (sense_from numbered.table view (name_text name))) numbered name
    (found_from numbered.table.names view (name_text name)) (lead.variables name)

-- a component
to_field_sound : (around : Around) (control : Bool) (name : Name) (shape : Shape) (walk : Walk) (field : Option Component) →
    field_of walk.shape name ≡ field → StandsSound around control 0 shape walk →
    IsSoundAt around control (judged.to_field name field).standing (to_field walk field)
to_field_sound around control name shape walk None is stands = tt
to_field_sound around control name shape walk (Some field) is stands =
    let reaches : Reaches around control (to_field walk (Some field)) =
    λ path. subst (λ f. Follows around control (to_field walk f) path) is (stands.reaches (name ∷ path)) in
    let a = length-append walk.bounds (map bound_of field.bounds) in
    let b = length-map field.bounds bound_of in
    let c = stands.fits in
    record {
      same = refl;
      reaches = reaches;
      fits = let d = cut_most (length field.bounds) in omega (arith, a, b, c, d);
      left = λ few. let d = cut_small (length field.bounds) (omega (arith, few, a, b)) in let e = stands.left (omega (arith, few, a)) in
          omega (arith, a, b, d, e);
      given = subst (λ bounds. AreSubscripts around bounds walk.subscripts)
          (sym (take-append-le (count walk.subscripts) walk.bounds (map bound_of field.bounds) (omega (arith, c)))) stands.given;
    }

pub component_sound : (around : Around) (control : Bool) (name : Name) (walk : Walk) (shape : Shape) → StandsSound around control 0 shape walk →
    IsSoundAt around control (judged.field_of shape name).standing (to_field walk (field_of walk.shape name))
component_sound around control name walk (OfKind kind) stands = tt
component_sound around control name walk (OfFields fields) stands =
    subst (λ field. IsSoundAt around control (judged.to_field name (component 0 0 fields (name_text name))).standing (to_field walk field))
    (sym (ap (λ shape. field_of shape name) stands.same))
    (to_field_sound around control name (OfFields fields) walk (component 0 0 fields (name_text name))
    (ap (λ shape. field_of shape name) stands.same) stands)

-- subscripts lead to no other place
field_behind : (walk : Walk) (subscripts : PlainExprs) (field : Option Component) →
    record (to_field walk field) { subscripts = subscripts } ≡ to_field (record walk { subscripts = subscripts }) field
field_behind walk subscripts None = refl
field_behind walk subscripts (Some field) = refl

follows_behind : (around : Around) (control : Bool) (path : List Name) (walk : Walk) (subscripts : PlainExprs) →
    Follows around control walk path → Follows around control (record walk { subscripts = subscripts }) path
follows_behind around control [] walk subscripts there = record { sound = there.sound; end = there.end }
follows_behind around control (name ∷ path) walk subscripts follows =
    subst (λ w. Follows around control w path) (field_behind walk subscripts (field_of walk.shape name))
    (follows_behind around control path (to_field walk (field_of walk.shape name)) subscripts follows)

take_whole : (n : ℕ) (bounds : List Bound) → n ≡ length bounds → take n bounds ≡ bounds
take_whole n bounds is = ap (λ m. take m bounds) is ∙ whole bounds
  where
    whole : (xs : List Bound) → take (length xs) xs ≡ xs
    whole [] = refl
    whole (x ∷ xs) = ap (λ rest. x ∷ rest) (whole xs)

take_more : (n m : ℕ) (bounds : List Bound) → take (n + m) bounds ≡ take n bounds ++ take m (drop n bounds)
take_more zero m bounds = let same : 0 + m ≡ m = omega arith in ap (λ k. take k bounds) same
take_more (suc n) m [] = let same : suc n + m ≡ suc (n + m) = omega arith in ap (λ k. take k no_bounds_at_all) same ∙ sym (none m)
  where
    no_bounds_at_all : List Bound
    no_bounds_at_all = []

    none : (m : ℕ) → take m no_bounds_at_all ≡ []
    none zero = refl
    none (suc m) = refl
take_more (suc n) m (bound ∷ rest) =
    let same : suc n + m ≡ suc (n + m) = omega arith in
    ap (λ k. take k (bound ∷ rest)) same ∙ ap (λ more. bound ∷ more) (take_more n m rest)

pub subscripts_sound : (around : Around) (control : Bool) (dimensions : ℕ) (shape : Shape) (walk : Walk) (exprs : PlainExprs) →
    StandsSound around control dimensions shape walk → count exprs ≡ dimensions → AreAllFixed around exprs →
    StandsSound around control 0 shape (record walk { subscripts = joined_exprs walk.subscripts exprs })
subscripts_sound around control dimensions shape walk exprs stands counted fixed =
    let all = count_joined walk.subscripts exprs in
    let fits = stands.fits in
    let open_bounds = drop (count walk.subscripts) walk.bounds in
    let some = length-drop (count walk.subscripts) walk.bounds in
    record {
      same = stands.same;
      reaches = λ path. follows_behind around control path walk (joined_exprs walk.subscripts exprs) (stands.reaches path);
      fits = omega (arith, all, counted, fits);
      left = λ few. let left = stands.left few in omega (arith, all, counted, left);
      given = subst (λ bounds. AreSubscripts around bounds (joined_exprs walk.subscripts exprs))
          (sym (ap (λ n. take n walk.bounds) all ∙ take_more (count walk.subscripts) (count exprs) walk.bounds))
          (joined_given around (take (count walk.subscripts) walk.bounds) (take (count exprs) open_bounds) walk.subscripts exprs
          stands.given
          (fixed_given around (take (count exprs) open_bounds) exprs
          (sym (length-take-le (count exprs) open_bounds (omega (arith, some, counted, fits))))
          (sound_before (count exprs) open_bounds (sound_behind (count walk.subscripts) walk.bounds (stands.reaches []).sound)) fixed));
    }

pub element_sound : (around : Around) (control : Bool) (place rule : ℕ) (test known : Bool) (shape : Shape) (walk : Walk) →
    (test ≡ true → known ≡ true → StandsSound around control 0 shape walk) →
    IsSoundAt around control (if test then walked_on (element_standing known shape) [] else stopped place rule).standing walk
element_sound around control place rule false known shape walk stands = tt
element_sound around control place rule true false shape walk stands = tt
element_sound around control place rule true true shape walk stands = stands refl refl

-- the variable at the end of a reference
few_dropped : (bounds : List Bound) → length bounds ≤ 3 → drop 3 bounds ≡ []
few_dropped (a ∷ b ∷ c ∷ d ∷ rest) few = absurd (omega (arith, few))
few_dropped other few = refl

abbrev pub Reads : Around → (control : Bool) → PlainVariable → Kind → Type 0
Reads around false variable kind = IsVariable around variable kind
Reads around true variable kind = IsControl around variable kind

no_bounds : (bound : Bound) (bounds : List Bound) → (bound ∷ bounds) ≡ [] → ⊥
no_bounds bound bounds is = let same = ap (λ (xs : List Bound). length xs) is in omega (arith, same)

element_is : (around : Around) (control : Bool) (target : Target) (bounds : List Bound) (subscripts : PlainExprs) (kind : Kind) →
    Points around control target bounds kind → drop 3 bounds ≡ [] → AreSubscripts around bounds subscripts →
    Reads around control (OfVariable target bounds subscripts) kind
element_is around false (Leaf number) bounds subscripts kind points few given = (points, few, given)
element_is around false (Own cell) bounds subscripts kind points few given = (points, few, given)
element_is around false (Param cell) [] NoExprs kind points few given =
    subst (λ at. IsParam at [] NoExprs kind) (sym points.1) refl
element_is around false (Param cell) [] (MoreExprs e rest) kind points few given = absurd given
element_is around false (Param cell) (bound ∷ bounds) subscripts kind points few given = absurd (no_bounds bound bounds points.0)
element_is around true (Own cell) [] NoExprs kind points few given = points
element_is around true (Own cell) [] (MoreExprs e rest) kind points few given = absurd given
element_is around true (Own cell) (bound ∷ bounds) subscripts kind points few given = absurd points
element_is around true (Leaf number) bounds subscripts kind points few given = absurd points
element_is around true (Param cell) bounds subscripts kind points few given = absurd points

pub variable_sound : (around : Around) (control : Bool) (walk : Walk) (kind : Kind) →
    StandsSound around control 0 (OfKind kind) walk → Reads around control (variable_of walk) kind
variable_sound around control walk kind stands =
    let end = subst (λ shape. IsEnd around control shape walk.target walk.bounds) stands.same (stands.reaches []).end in
    let left = stands.left end.0 in
    element_is around control walk.target walk.bounds walk.subscripts kind end.1 (few_dropped walk.bounds end.0)
    (subst (λ bounds. AreSubscripts around bounds walk.subscripts)
    (take_whole (count walk.subscripts) walk.bounds (omega (arith, left))) stands.given)
