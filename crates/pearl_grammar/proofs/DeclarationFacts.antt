-- The productions of names, bounds, types and declarations: the facts of their parts, and what follows of each.
use Rattle.std.proofs.Common.{◌≡◌, ℕ, ◌+◌, ◌<◌, ◌^◌, inl, inr, Bool, true, false, [], ◌∷◌, length, Some}
use Rattle.std.proofs.Common.{refl, ◌∙◌, codes, arith}
use Rattle.pearl_tree.specs.declared.token.What.TheVariants as what
use Rattle.pearl_tree.specs.declared.name.Names.{Names}
use Rattle.pearl_tree.specs.declared.name.Names.TheVariants as several
use Rattle.pearl_tree.specs.declared.typing.Sort.{Sort}
use Rattle.pearl_tree.specs.declared.typing.Sort.TheVariants.{Fixed, Bit, Char}
use Rattle.pearl_tree.specs.declared.typing.Basic.{Basic}
use Rattle.pearl_tree.specs.declared.typing.Basic.TheVariants as basic_tree
use Rattle.pearl_tree.specs.declared.declaration.Class.{Class}
use Rattle.pearl_tree.specs.declared.declaration.Class.TheVariants as class_tree
use Rattle.pearl_tree.specs.declared.declaration.DeviceWord.TheVariants as device_tree
use Rattle.pearl_tree.specs.declared.declaration.Spec.{Spec}
use Rattle.pearl_tree.specs.declared.declaration.Spec.TheVariants as spec_tree
use Rattle.pearl_tree.specs.declared.parts.Parts.{Parts}
use Rattle.pearl_tree.specs.declared.typing.Bound.{Bound}
use Rattle.pearl_value.specs.declared.device.Direction.{Direction}
use Rattle.pearl_value.specs.declared.device.Direction.TheVariants as direction_tree
use Rattle.pearl_tree.specs.Standing.{SpellsName, SpellsBracketedNumber}
use Rattle.pearl_tree.specs.Expressions.{SpellsConst}
use Rattle.pearl_tree.specs.Types.{SpellsNames, SpellsInt, SpellsUpper, SpellsBound, SpellsBounds, SpellsBasic, sort_word}
use Rattle.pearl_tree.specs.Declarations.{SpellsClass, SpellsControl, SpellsSpec, SpellsDevice, SpellsParam, SpellsPrio}
use Rattle.pearl_tree.specs.Declarations.{direction_word}
use Rattle.pearl_tree.specs.Modules.{SpellsReturns}
use Rattle.pearl_tree.specs.declared.word_code.TheConstants as w
use Rattle.pearl_parse_expr.proofs.Offered as local
use Rattle.pearl_parse_expr.proofs.Offered.{Kept, parts_of, after_of}
use Rattle.pearl_grammar.specs.Rules.{Choice, First, Second, Held, Spells, SpellsOneWord}
use Rattle.pearl_grammar.specs.Declarations as rule
use Rattle.pearl_grammar.proofs.Joins.{bracketed_long, maybe_bracketed_long}
use Rattle.pearl_grammar.proofs.Rests.{Ends, Makes, ends_fill, fills_as}
use Rattle.pearl_grammar.proofs.Tokens.{AWord, AnId, Among, Leads}
use Rattle.pearl_grammar.proofs.RuleFacts.{Left, Leaf, Facts, IsFirm}
use Rattle.pearl_grammar.proofs.Leaves as leaf
use Rattle.pearl_grammar.proofs.Said as said
use Rattle.pearl_grammar.proofs.Productions as production

-- ---- names, numbers in brackets and constants

abbrev pub names_facts : Facts rule.names_rule
names_facts = ((leaf.id, tt), (leaf.id, tt))

pub names_firm : IsFirm rule.names_rule names_facts
names_firm = (tt, (omega arith, tt))

abbrev pub names : Leaf SpellsNames
names = production.leaf SpellsNames rule.names_rule rule.names_parts said.names_said names_facts names_firm 1
    (fills_as 1 (λ others at to. (x : _) × SpellsName others at x to) leaf.id.fills
    (λ others at to. (x : Names) × SpellsNames others at x to) (λ others k to h. (several.One h.0, h.1)))

abbrev pub bracketed_number_facts : Facts rule.bracketed_number_rule
bracketed_number_facts = (omega arith, (leaf.number, (omega arith, tt)))

abbrev pub bracketed_number : Leaf SpellsBracketedNumber
bracketed_number = production.whole_leaf SpellsBracketedNumber rule.bracketed_number_rule rule.bracketed_number_parts
    said.bracketed_number_said bracketed_number_facts tt (λ h. h.0) (λ h. refl)

pub bracketed_number_start : production.Start 16 SpellsBracketedNumber rule.bracketed_number_rule bracketed_number_facts
bracketed_number_start = production.whole_starts SpellsBracketedNumber rule.bracketed_number_rule rule.bracketed_number_parts said.bracketed_number_said bracketed_number_facts tt
    (λ h. h.0) (λ h. refl) 16 (omega arith)

abbrev pub constant_facts : Facts rule.constant_rule
constant_facts = (leaf.plus_or_minus, (leaf.a_literal, tt))

pub constant_firm : IsFirm rule.constant_rule constant_facts
constant_firm = (omega arith, tt)

abbrev pub constant : Leaf SpellsConst
constant = production.whole_leaf SpellsConst rule.constant_rule rule.constant_parts said.constant_said constant_facts
    constant_firm (λ h. record { place = h.0; sign = h.1.0; literal = h.1.1.0 }) (λ h. refl)

pub constant_start : production.Start 16 SpellsConst rule.constant_rule constant_facts
constant_start = production.whole_starts SpellsConst rule.constant_rule rule.constant_parts said.constant_said constant_facts constant_firm
    (λ h. record { place = h.0; sign = h.1.0; literal = h.1.1.0 }) (λ h. refl) 16 (omega arith)

-- ---- bounds and types

abbrev pub int_facts : Facts rule.int_rule
int_facts = (tt, (leaf.number, tt))

pub int_firm : IsFirm rule.int_rule int_facts
int_firm = (omega arith, tt)

abbrev pub int : Leaf SpellsInt
int = production.whole_leaf SpellsInt rule.int_rule rule.int_parts said.int_said int_facts int_firm
    (λ h. record { place = h.0; minus = h.1.0; number = h.1.1.0 }) (λ h. refl)

pub int_start : production.Start 16 SpellsInt rule.int_rule int_facts
int_start = production.whole_starts SpellsInt rule.int_rule rule.int_parts said.int_said int_facts int_firm
    (λ h. record { place = h.0; minus = h.1.0; number = h.1.1.0 }) (λ h. refl) 16 (omega arith)

abbrev pub upper_facts : Facts rule.upper_rule
upper_facts = (omega arith, (int, tt))

abbrev pub upper : Leaf SpellsUpper
upper = production.whole_leaf SpellsUpper rule.upper_rule rule.upper_parts said.upper_said upper_facts tt
    (λ h. h.0) (λ h. refl)

pub upper_start : production.Start 16 SpellsUpper rule.upper_rule upper_facts
upper_start = production.whole_starts SpellsUpper rule.upper_rule rule.upper_parts said.upper_said upper_facts tt
    (λ h. h.0) (λ h. refl) 16 (omega arith)

abbrev pub bound_facts : Facts rule.bound_rule
bound_facts = (int, (upper, tt))

pub bound_firm : IsFirm rule.bound_rule bound_facts
bound_firm = (omega arith, tt)

abbrev pub bound : Leaf SpellsBound
bound = production.whole_leaf SpellsBound rule.bound_rule rule.bound_parts said.bound_said bound_facts bound_firm
    (λ h. record { place = h.0; first = h.1.0; second = h.1.1.0 }) (λ h. refl)

pub bound_start : production.Start 16 SpellsBound rule.bound_rule bound_facts
bound_start = production.whole_starts SpellsBound rule.bound_rule rule.bound_parts said.bound_said bound_facts bound_firm
    (λ h. record { place = h.0; first = h.1.0; second = h.1.1.0 }) (λ h. refl) 16 (omega arith)

abbrev pub bounds : Leaf SpellsBounds
bounds = production.leaf SpellsBounds rule.bounds_rule rule.bounds_parts said.bounds_said (bound, tt) tt 0
    (fills_as 0 Ends ends_fill (λ others at to. (x : _) × SpellsBounds others at x to)
    (λ others k to h. (parts_of [] (omega arith), h)))

pub sorts : (x : Sort) → Among (AWord w.FIXED ∷ AWord w.BIT ∷ AWord w.CHAR ∷ []) (Some (what.Word (sort_word x)))
sorts Fixed = inl refl
sorts Bit = inr (inl refl)
sorts Char = inr (inr (inl refl))

abbrev pub sort : Leaf (SpellsOneWord sort_word)
sort = leaf.one_word sort_word Fixed (omega arith) (AWord w.FIXED ∷ AWord w.BIT ∷ AWord w.CHAR ∷ []) sorts

abbrev pub basic_facts : Facts rule.basic_rule
basic_facts = ((sort, (bracketed_number, tt)), ((omega arith, tt), (omega arith, tt)))

pub basic_firm : IsFirm rule.basic_rule basic_facts
basic_firm = ((omega arith, tt), ((omega arith, tt), (omega arith, tt)))

pub basic_of : Held rule.basic_rule → Basic
basic_of (First h) = basic_tree.Sized h.1.0 h.1.1.0 h.0
basic_of (Second (First h)) = basic_tree.Clock h.0
basic_of (Second (Second h)) = basic_tree.Duration h.0

pub basic_same : (h : Held rule.basic_rule) → rule.basic_parts (basic_of h) ≡ h
unfolding basic_of
basic_same (First h) = refl
basic_same (Second (First h)) = refl
basic_same (Second (Second h)) = refl

abbrev pub basic : Leaf SpellsBasic
basic = production.whole_leaf SpellsBasic rule.basic_rule rule.basic_parts said.basic_said basic_facts basic_firm basic_of
    basic_same

pub basic_start : production.Start 16 SpellsBasic rule.basic_rule basic_facts
basic_start = production.whole_starts SpellsBasic rule.basic_rule rule.basic_parts said.basic_said basic_facts basic_firm
    basic_of basic_same 16 (omega arith)

-- ---- which lists may be put into a tree

pub names_made : Makes SpellsNames (Left rule.names_rule)
names_made others from to small h = by h.0 h.1
  where
    by : (held : Held rule.names_rule) → Spells rule.names_rule others from held to → (x : Names) × SpellsNames others from x to
    by (First x) g = (several.One x.0, (said.names_said others from (several.One x.0) to).1 g)
    by (Second x) g =
        let few : length x.1.0 < 2 ^ 63 = omega (
          arith,
          bracketed_long others (SpellsName others) (after_of 1 SpellsName leaf.name_keeps others) from x.1.0 g.1.0 g.1.1,
          g.1.2,
          small,
        ) in
        let names = several.Several (parts_of x.1.0 few) x.0 in
        (names, (said.names_said others from names to).1 g)

pub names_start : production.Start 9 SpellsNames rule.names_rule names_facts
names_start = production.starts SpellsNames rule.names_rule rule.names_parts said.names_said names_facts names_firm 9
    (omega arith) names_made

pub bounds_made : Makes SpellsBounds (Left rule.bounds_rule)
bounds_made others from to small h =
    let few : length h.0.0 < 2 ^ 63 = omega (
      arith,
      maybe_bracketed_long others (SpellsBound others) (after_of 1 SpellsBound bound.kept others) from h.0.0 h.1.0 h.1.1,
      h.1.2,
      small,
    ) in
    let bounds : Parts Bound = parts_of h.0.0 few in
    (bounds, (said.bounds_said others from bounds to).1 h.1)

pub bounds_start : production.Start 9 SpellsBounds rule.bounds_rule (bound, tt)
bounds_start = production.starts SpellsBounds rule.bounds_rule rule.bounds_parts said.bounds_said (bound, tt) tt 9
    (omega arith) bounds_made

-- ---- specifications and devices

abbrev pub class_facts : Facts rule.class_rule
class_facts = ((omega arith, tt), (omega arith, (basic, tt)))

pub class_firm : IsFirm rule.class_rule class_facts
class_firm = ((omega arith, tt), (omega arith, tt))

pub class_of : Held rule.class_rule → Class
class_of (First h) = class_tree.Alphic h.0
class_of (Second h) = class_tree.Basic h.1.0 h.0

pub class_same : (h : Held rule.class_rule) → rule.class_parts (class_of h) ≡ h
unfolding class_of
class_same (First h) = refl
class_same (Second h) = refl

abbrev pub class : Leaf SpellsClass
class = production.whole_leaf SpellsClass rule.class_rule rule.class_parts said.class_said class_facts class_firm class_of
    class_same

pub class_start : production.Start 16 SpellsClass rule.class_rule class_facts
class_start = production.whole_starts SpellsClass rule.class_rule rule.class_parts said.class_said class_facts class_firm
    class_of class_same 16 (omega arith)

pub control_keeps : Kept 0 SpellsControl
control_keeps tokens others k alike from false to h near = (omega (arith, h), h)
control_keeps tokens others k alike from true to h near =
    let below : from + 3 < k = omega (arith, h.4) in (
      omega (arith, h.4),
      (
        local.what tokens others k alike from (omega arith) ∙ h.0,
        local.what tokens others k alike (from + 1) (omega arith) ∙ h.1,
        local.what tokens others k alike (from + 2) (omega arith) ∙ h.2,
        local.what tokens others k alike (from + 3) below ∙ h.3,
        h.4,
      ),
    )

pub control_leads : Leads SpellsControl (AnId ∷ [])
control_leads others from false to h = inl h
control_leads others from true to h = inr (inl (record { text = record { items = codes "CONTROL" }; place = 0 }, h.0))

abbrev pub control : Leaf SpellsControl
control = record {
  least = 0;
  kept = control_keeps;
  fill = 0;
  fills = fills_as 0 Ends ends_fill (λ others at to. (x : Bool) × SpellsControl others at x to) (λ others k to h. (false, h));
  firsts = AnId ∷ [];
  leads = control_leads;
}

pub directions : (x : Direction) → Among (AWord w.IN ∷ AWord w.OUT ∷ AWord w.INOUT ∷ [])
    (Some (what.Word (direction_word x)))
directions direction_tree.In = inl refl
directions direction_tree.Out = inr (inl refl)
directions direction_tree.InOut = inr (inr (inl refl))

abbrev pub direction : Leaf (SpellsOneWord direction_word)
direction = leaf.one_word direction_word direction_tree.In (omega arith) (AWord w.IN ∷ AWord w.OUT ∷ AWord w.INOUT ∷ []) directions

abbrev pub spec_facts : Facts rule.spec_rule
spec_facts = (names, ((omega arith, tt), (omega arith, (direction, (class, (control, tt))))))

pub spec_firm : IsFirm rule.spec_rule spec_facts
spec_firm = (omega arith, (tt, tt))

pub spec_by : ℕ → Names → Choice (Unit {0}) (Direction × (Class × (Bool × Unit {0}))) → Spec
spec_by place named (First x) = spec_tree.Interrupt named place
spec_by place named (Second x) = spec_tree.Dation named x.0 x.1.0 x.1.1.0 place

pub same_spec : (place : ℕ) (named : Names) (x : Choice (Unit {0}) (Direction × (Class × (Bool × Unit {0})))) →
    rule.spec_parts (spec_by place named x) ≡ (place, (named, x))
unfolding spec_by
same_spec place named (First x) = refl
same_spec place named (Second x) = refl

abbrev pub spec : Leaf SpellsSpec
spec = production.whole_leaf SpellsSpec rule.spec_rule rule.spec_parts said.spec_said spec_facts spec_firm
    (λ h. spec_by h.0 h.1.0 h.1.1) (λ h. same_spec h.0 h.1.0 h.1.1)

pub spec_start : production.Start 16 SpellsSpec rule.spec_rule spec_facts
spec_start = production.whole_starts SpellsSpec rule.spec_rule rule.spec_parts said.spec_said spec_facts spec_firm
    (λ h. spec_by h.0 h.1.0 h.1.1) (λ h. same_spec h.0 h.1.0 h.1.1) 16 (omega arith)

pub device_word_keeps : Kept 1 rule.SpellsDeviceWord
device_word_keeps tokens others k alike from (device_tree.Id x) to h near =
    (omega (arith, h.1), (local.name tokens others k alike from x (omega (arith, h.1)) h.0, h.1))
device_word_keeps tokens others k alike from (device_tree.Interrupt at) to h near =
    let below : from < k = omega (arith, h.1) in (
      omega (arith, h.1),
      ((local.place tokens others k alike from below ∙ h.0.0, local.what tokens others k alike from below ∙ h.0.1), h.1),
    )

pub device_word_leads : Leads rule.SpellsDeviceWord (AnId ∷ AWord w.INTERRUPT ∷ [])
device_word_leads others from (device_tree.Id x) to h = inr (inl (x, h.0.0))
device_word_leads others from (device_tree.Interrupt at) to h = inr (inr (inl h.0.1))

abbrev pub device_word : Leaf rule.SpellsDeviceWord
device_word = record {
  least = 1;
  kept = device_word_keeps;
  fill = 1;
  fills = fills_as 1 (λ others at to. (x : _) × SpellsName others at x to) leaf.id.fills
      (λ others at to. (x : _) × rule.SpellsDeviceWord others at x to) (λ others k to h. (device_tree.Id h.0, h.1));
  firsts = AnId ∷ AWord w.INTERRUPT ∷ [];
  leads = device_word_leads;
}

abbrev pub close_facts : Facts rule.close
close_facts = (omega arith, tt)

abbrev pub device_facts : Facts rule.device_rule
device_facts = (leaf.id, (omega arith, (device_word, (bracketed_number, close_facts))))

pub device_firm : IsFirm rule.device_rule device_facts
device_firm = (omega arith, tt)

abbrev pub device : Leaf SpellsDevice
device = production.whole_leaf SpellsDevice rule.device_rule rule.device_parts said.device_said device_facts device_firm
    (λ h. record { place = h.0; name = h.1.0; word = h.1.1.0; number = h.1.1.1.0 }) (λ h. refl)

pub device_start : production.Start 16 SpellsDevice rule.device_rule device_facts
device_start = production.whole_starts SpellsDevice rule.device_rule rule.device_parts said.device_said device_facts
    device_firm (λ h. record { place = h.0; name = h.1.0; word = h.1.1.0; number = h.1.1.1.0 }) (λ h. refl) 16 (omega arith)

-- ---- heads

abbrev pub param_facts : Facts rule.param_rule
param_facts = (names, (basic, (tt, tt)))

pub param_firm : IsFirm rule.param_rule param_facts
param_firm = (omega arith, tt)

abbrev pub param : Leaf SpellsParam
param = production.whole_leaf SpellsParam rule.param_rule rule.param_parts said.param_said param_facts param_firm
    (λ h. record { place = h.0; names = h.1.0; basic = h.1.1.0; ident = h.1.1.1.0 }) (λ h. refl)

pub param_start : production.Start 16 SpellsParam rule.param_rule param_facts
param_start = production.whole_starts SpellsParam rule.param_rule rule.param_parts said.param_said param_facts param_firm
    (λ h. record { place = h.0; names = h.1.0; basic = h.1.1.0; ident = h.1.1.1.0 }) (λ h. refl) 16 (omega arith)

abbrev pub prio_facts : Facts rule.prio_rule
prio_facts = (omega arith, (leaf.number, tt))

pub prio_firm : IsFirm rule.prio_rule prio_facts
prio_firm = (omega arith, tt)

abbrev pub prio : Leaf SpellsPrio
prio = production.whole_leaf SpellsPrio rule.prio_rule rule.prio_parts said.prio_said prio_facts prio_firm
    (λ h. record { place = h.0; number = h.1.0 }) (λ h. refl)

pub prio_start : production.Start 16 SpellsPrio rule.prio_rule prio_facts
prio_start = production.whole_starts SpellsPrio rule.prio_rule rule.prio_parts said.prio_said prio_facts prio_firm
    (λ h. record { place = h.0; number = h.1.0 }) (λ h. refl) 16 (omega arith)

abbrev pub returns_facts : Facts rule.returns_rule
returns_facts = (omega arith, (omega arith, (basic, (omega arith, tt))))

abbrev pub returns : Leaf SpellsReturns
returns = production.whole_leaf SpellsReturns rule.returns_rule rule.returns_parts said.returns_said returns_facts tt
    (λ h. h.0) (λ h. refl)

pub returns_start : production.Start 16 SpellsReturns rule.returns_rule returns_facts
returns_start = production.whole_starts SpellsReturns rule.returns_rule rule.returns_parts said.returns_said returns_facts tt
    (λ h. h.0) (λ h. refl) 16 (omega arith)
