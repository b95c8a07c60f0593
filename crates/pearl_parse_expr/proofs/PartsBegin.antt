-- Lists in brackets may stand anywhere: one token makes a part of most of them, two make one that begins with names.
use Rattle.std.proofs.Common.{◌≡◌, ℕ, ◌+◌, ◌≤◌, false, List, [], ◌∷◌, length, Some, None, inl, refl, arith}
use Rattle.pearl_tree.specs.declared.name.Number.{Number}
use Rattle.pearl_tree.specs.declared.name.Names.TheVariants.{One}
use Rattle.pearl_tree.specs.declared.literal.Literal.TheVariants as literal
use Rattle.pearl_tree.specs.declared.expression.Expr as tree
use Rattle.pearl_tree.specs.declared.expression.Primary as primary
use Rattle.pearl_tree.specs.declared.format.Fmt.TheVariants.{Free}
use Rattle.pearl_tree.specs.declared.format.FreeCode.TheVariants.{A}
use Rattle.pearl_tree.specs.declared.typing.Basic.TheVariants as basic
use Rattle.pearl_tree.specs.declared.typing.Typing as typing
use Rattle.pearl_tree.specs.declared.declaration.Item.{Item}
use Rattle.pearl_tree.specs.declared.declaration.Declared.TheVariants as declared
use Rattle.pearl_tree.specs.declared.declaration.Spec.TheVariants as spec
use Rattle.pearl_tree.specs.declared.token.What.TheVariants as what
use Rattle.pearl_tree.specs.declared.token.Token.{Token}
use Rattle.pearl_tree.specs.Tokens.{IsLawfulWhat}
use Rattle.pearl_tree.specs.Standing.{Spelling, what_at, place_at, SpellsName, SpellsNumber, SpellsBracketed}
use Rattle.pearl_tree.specs.Expressions.{SpellsConst, SpellsWhole, SpellsOwnRef}
use Rattle.pearl_tree.specs.Types.{SpellsBound}
use Rattle.pearl_tree.specs.Formats.{SpellsFmt}
use Rattle.pearl_tree.specs.Declarations.{SpellsItem, SpellsDeclared, SpellsSpec, SpellsParam}
use Rattle.pearl_tree.specs.declared.symbol.TheConstants as s
use Rattle.pearl_tree.specs.declared.word_code.TheConstants as w
use Rattle.pearl_parse_expr.specs.Least.{ReachesIn}
use Rattle.pearl_parse_expr.proofs.Ids.{x_name, x_token, x_lawful, letter_token, letter_lawful}
use Rattle.pearl_parse_expr.proofs.Reaching.{begun, completed_in, one_lawful, none_lawful, token_of, what_stands}
use Rattle.pearl_parse_expr.proofs.Reaching.{place_stands}
use Rattle.pearl_parse_expr.proofs.Trees.{parts_of}

abbrev one : Token
one = token_of (what.Number 1)

abbrev one_number : Number
one_number = record { value = 1; place = 0 }

abbrev left : Token
left = token_of (what.Symbol s.LEFT_ROUND)

abbrev right : Token
right = token_of (what.Symbol s.RIGHT_ROUND)

abbrev word : ℕ → Token
word code = token_of (what.Word code)

-- this token stands there
abbrev Stands : List Token → ℕ → Token → Type 0
Stands others k t = (what_at others k ≡ Some t.what) × (place_at others k ≡ Some t.place)

-- a list in brackets begins anywhere
abbrev Begins : {X : Type 0} → (List Token → Spelling X) → Type 0
Begins spells = (tokens : List Token) (from : ℕ) → from ≤ length tokens →
    ReachesIn 9 (λ tokens. SpellsBracketed tokens (spells tokens)) tokens from from

module _ {X : Type 0} (spells : List Token → Spelling X) (x : X) where
  of_one : (t : Token) → IsLawfulWhat t.what →
      ((others : List Token) (k : ℕ) → Stands others k t → spells others k x (k + 1)) → Begins spells
  of_one t known makes tokens from within =
      let what_is = what_stands tokens from (left ∷ t ∷ right ∷ []) within in
      completed_in (λ tokens. SpellsBracketed tokens (spells tokens)) tokens 9 from from (left ∷ t ∷ right ∷ [])
      (x ∷ []) within (omega arith)
      (one_lawful left (t ∷ right ∷ []) (omega arith) (one_lawful t (right ∷ []) known
      (one_lawful right [] (omega arith) none_lawful)))
      (λ alike. (
        from + 2,
        what_is 0 from (omega arith),
        (
          from + 1 + 1,
          makes (begun tokens from (left ∷ t ∷ right ∷ [])) (from + 1) (
            what_is 1 (from + 1) refl,
            place_stands tokens from (left ∷ t ∷ right ∷ []) within 1 (from + 1) refl,
          ),
          omega arith,
        ),
        what_is 2 (from + 2) refl,
        omega arith,
      ))

  of_two : (t u : Token) → IsLawfulWhat t.what → IsLawfulWhat u.what →
      ((others : List Token) (k : ℕ) → Stands others k t → Stands others (k + 1) u → spells others k x (k + 2)) →
      Begins spells
  of_two t u known last makes tokens from within =
      let what_is = what_stands tokens from (left ∷ t ∷ u ∷ right ∷ []) within in
      let place_is = place_stands tokens from (left ∷ t ∷ u ∷ right ∷ []) within in
      completed_in (λ tokens. SpellsBracketed tokens (spells tokens)) tokens 9 from from (left ∷ t ∷ u ∷ right ∷ [])
      (x ∷ []) within (omega arith)
      (one_lawful left (t ∷ u ∷ right ∷ []) (omega arith) (one_lawful t (u ∷ right ∷ []) known
      (one_lawful u (right ∷ []) last (one_lawful right [] (omega arith) none_lawful))))
      (λ alike. (
        from + 3,
        what_is 0 from (omega arith),
        (
          from + 1 + 2,
          makes (begun tokens from (left ∷ t ∷ u ∷ right ∷ [])) (from + 1) (
            what_is 1 (from + 1) refl,
            place_is 1 (from + 1) refl,
          )
              (what_is 2 (from + 1 + 1) (omega arith), place_is 2 (from + 1 + 1) (omega arith)),
          omega arith,
        ),
        what_is 3 (from + 3) refl,
        omega arith,
      ))

x_known : IsLawfulWhat x_token.what
x_known = x_lawful 0 (omega arith)

pub names_begin : Begins SpellsName
names_begin = of_one SpellsName x_name x_token x_known (λ others k stands. (stands, refl))

pub numbers_begin : Begins SpellsNumber
numbers_begin = of_one SpellsNumber one_number one (omega arith) (λ others k stands. (stands, refl))

pub bounds_begin : Begins SpellsBound
bounds_begin =
    of_one SpellsBound (record {
      first = record { minus = false; number = one_number; place = 0 };
      second = None;
      place = 0;
    }) one (omega arith)
    (λ others k stands. (k + 1, stands.1, (k, stands.1, refl, stands, refl), refl))

pub consts_begin : Begins SpellsConst
consts_begin =
    of_one SpellsConst (record { sign = None; literal = literal.Number one_number; place = 0 }) one (omega arith)
    (λ others k stands. (k, stands.1, refl, (stands, refl)))

pub fmts_begin : Begins SpellsFmt
fmts_begin =
    of_one SpellsFmt (Free A None 0) (letter_token 65) (letter_lawful 65 (inl (omega arith, omega arith)))
    (λ others k stands. (stands.1, stands.0, refl))

pub exprs_begin : Begins SpellsWhole
exprs_begin =
    of_one SpellsWhole (tree.Operand (record {
      monadics = parts_of [] (omega arith);
      primary = primary.Now 0;
      place = 0;
    })) (word w.NOW) (omega arith)
    (λ others k stands. ((k, stands.1, omega arith, refl, (stands.1, stands.0, refl)), omega arith))

pub refs_begin : Begins SpellsOwnRef
refs_begin =
    of_one SpellsOwnRef (record { name = x_name; selectors = parts_of [] (omega arith); place = 0 }) x_token x_known
    (λ others k stands. (stands.1, stands, refl))

pub params_begin : Begins SpellsParam
params_begin =
    of_two SpellsParam (record { names = One x_name; basic = basic.Clock 0; ident = false; place = 0 }) x_token
    (word w.CLOCK) x_known (omega arith)
    (λ others k name clock. (k + 1, k + 2, name.1, (name, refl), (clock.1, clock.0, omega arith), refl))

abbrev a_clock : Item
a_clock = record {
  names = One x_name;
  bounds = parts_of [] (omega arith);
  inv = false;
  typing = typing.Basic (basic.Clock 0);
  init = parts_of [] (omega arith);
  place = 0;
}

clock_stands : (others : List Token) (k : ℕ) → Stands others k x_token → Stands others (k + 1) (word w.CLOCK) →
    SpellsItem others k a_clock (k + 2)
clock_stands others k name clock = (
  k + 1,
  k + 1,
  k + 1,
  k + 2,
  name.1,
  (name, refl),
  refl,
  refl,
  (clock.1, clock.0, omega arith),
  refl,
)

pub items_begin : Begins SpellsItem
items_begin = of_two SpellsItem a_clock x_token (word w.CLOCK) x_known (omega arith) clock_stands

pub declared_begin : Begins SpellsDeclared
declared_begin = of_two SpellsDeclared (declared.Item a_clock) x_token (word w.CLOCK) x_known (omega arith) clock_stands

pub specs_begin : Begins SpellsSpec
specs_begin =
    of_two SpellsSpec (spec.Interrupt (One x_name) 0) x_token (word w.INTERRUPT) x_known (omega arith)
    (λ others k name interrupt. (k + 1, name.1, (name, refl), interrupt.0, omega arith))
