-- What other tokens can spell that begin with [ number ] ( LWB | UPB ), and with monadic operators.
use Rattle.std.proofs.Common.{◌≡◌, ℕ, zero, suc, ◌+◌, ◌<◌, ◌≤◌, true, List, [], ◌∷◌, length, Option, Some}
use Rattle.std.proofs.Common.{None, ◌⊎◌, inl, inr, refl, sym, ap, subst, ◌∙◌, arith, true≢false, eqb-true, ◌==◌}
use Rattle.std.proofs.Common.{Bool, false, ◌||◌, if◌then◌else◌}
use Rattle.std.specs.Option.{is_some, option_and_then}
use Rattle.pearl_tree.specs.declared.name.Number.{Number}
use Rattle.pearl_value.specs.declared.operator.Monad.{Monad}
use Rattle.pearl_value.specs.declared.operator.Monad.TheVariants as monad
use Rattle.pearl_tree.specs.declared.expression.Monadic.{Monadic}
use Rattle.pearl_tree.specs.declared.expression.Side.{Side}
use Rattle.pearl_tree.specs.declared.expression.Side.TheVariants.{Lower, Upper}
use Rattle.pearl_tree.specs.declared.expression.Primary.{Primary}
use Rattle.pearl_tree.specs.declared.expression.Primary as primary
use Rattle.pearl_tree.specs.declared.expression.Selector.{Selector}
use Rattle.pearl_tree.specs.declared.token.What.{What}
use Rattle.pearl_tree.specs.declared.token.What.TheVariants as what
use Rattle.pearl_tree.specs.declared.token.Token.{Token}
use Rattle.pearl_tree.specs.Standing.{what_at, HasWord, SpellsEach, SpellsMaybe, SpellsNumber}
use Rattle.pearl_tree.specs.Expressions.{SpellsPrimary, SpellsMonadic, side_word, monad_what}
use Rattle.pearl_tree.specs.declared.word_code.TheConstants as w
use Rattle.pearl_tree.specs.declared.symbol.TheConstants as s
use Rattle.pearl_tree.specs.Stops.{BeginAlike}
use Rattle.pearl_parse_expr.specs.Stops.{IsLongest, Stuck, EndsEarly, is_number, is_side, is_literal, is_name}
use Rattle.pearl_parse_expr.specs.Stops.{is_symbol, is_word, monad_of, extends_monadics, extends_operand, SpellsNamed}
use Rattle.pearl_parse_expr.specs.Stops.{SpellsMonadics, SpellsSigned}
use Rattle.pearl_parse_expr.proofs.Primaries.{clash, or_absurd, side_head, Head, first_token, only_limit}
use Rattle.pearl_parse_expr.proofs.Primaries.{only_counted_limit}
use Rattle.pearl_parse_expr.proofs.Reaching.{order}

pub side_extends : (token : Option What) (side : Side) → token ≡ Some (what.Word (side_word side)) →
    extends_operand token ≡ true
side_extends token Lower h = ap extends_operand h
side_extends token Upper h = ap extends_operand h

abbrev IsSome : {X : Type 0} → Option X → Type 0
IsSome None = ⊥
IsSome (Some x) = Unit {0}

counted : (others : List Token) (depth from word to : ℕ) (side : Side) → word ≡ from + 1 →
    what_at others (from + 1) ≡ Some (what.Word (side_word side)) →
    (to ≡ from + 1) ⊎ ((list : List Selector) × SpellsNamed others depth (from + 1 + 1) list to) →
    (Unit {0} × (to ≡ from + 1) × (extends_operand (what_at others to) ≡ true)) ⊎
    ((list : List Selector) × SpellsNamed others depth (word + 1) list to)
counted others depth from word to side after at (inl end) =
    inl (
      tt,
      end,
      subst (λ k. extends_operand (what_at others k) ≡ true) (sym end)
          (side_extends (what_at others (from + 1)) side at),
    )
counted others depth from word to side after at (inr read) =
    inr (read.0, subst (λ k. SpellsNamed others depth (k + 1) read.0 to) (sym after) read.1)

-- what begins so is a limit, or the number alone
pub limit_others : (tokens others : List Token) (depth from word stop : ℕ) (dimension : Option Number) (side : Side) →
    SpellsMaybe (SpellsNumber tokens) from dimension word → HasWord tokens word (side_word side) →
    BeginAlike tokens others stop → word ≤ stop →
    (x : Primary) (to : ℕ) → SpellsPrimary others depth from x to →
    ((IsSome dimension) × (to ≡ from + 1) × (extends_operand (what_at others to) ≡ true)) ⊎
    ((list : List Selector) × SpellsNamed others depth (word + 1) list to)
limit_others tokens others depth from word stop None side number stands agree near x to h =
    let at : what_at others from ≡ Some (what.Word (side_word side)) =
    subst (λ k. what_at others k ≡ Some (what.Word (side_word side))) number (sym (agree word near) ∙ stands) in
    let read = only_limit others depth from (side_head (what_at others from) side at) x to h in
    inr (read.0, subst (λ k. SpellsNamed others depth (k + 1) read.0 to) (sym number) read.1)
limit_others tokens others depth from word stop (Some dimension) side number stands agree near x to h =
    let at : what_at others (from + 1) ≡ Some (what.Word (side_word side)) =
    subst (λ k. what_at others k ≡ Some (what.Word (side_word side))) number.1 (sym (agree word near) ∙ stands) in
    let here : is_number (what_at others from) ≡ true =
    ap is_number (sym (agree from (omega (arith, number.1))) ∙ number.0.0) in
    counted others depth from word to side number.1 at
    (only_counted_limit others depth from here (side_head (what_at others (from + 1)) side at) x to h)

-- how far into the tokens the monadic operators go
monad_stands : (token : Option What) (operator : Monad) → token ≡ Some (monad_what operator) → extends_monadics token ≡
    true
monad_stands token monad.Plus h = ap extends_monadics h
monad_stands token monad.Minus h = ap extends_monadics h
monad_stands token monad.Abs h = ap extends_monadics h
monad_stands token monad.Sign h = ap extends_monadics h
monad_stands token monad.Not h = ap extends_monadics h

pub each_ends : (tokens : List Token) (from : ℕ) (list : List Monadic) (to : ℕ) →
    SpellsEach (SpellsMonadic tokens) from list to → to ≡ from + length list
each_ends tokens from [] to h = omega (arith, h)
each_ends tokens from (x ∷ xs) to h = omega (arith, each_ends tokens h.0 xs to h.2, h.1.2)

each_stands : (tokens : List Token) (from : ℕ) (list : List Monadic) (to i : ℕ) →
    SpellsEach (SpellsMonadic tokens) from list to →
    i < length list → extends_monadics (what_at tokens (from + i)) ≡ true
each_stands tokens from [] to i h below = absurd (omega arith)
each_stands tokens from (x ∷ xs) to zero h below =
    let same : from ≡ from + zero = omega arith in
    subst (λ k. extends_monadics (what_at tokens k) ≡ true) same (monad_stands (what_at tokens from) x.operator h.1.0)
each_stands tokens from (x ∷ xs) to (suc i) h below =
    let same : h.0 + i ≡ from + suc i = omega (arith, h.1.2) in
    subst (λ k. extends_monadics (what_at tokens k) ≡ true) same (each_stands tokens h.0 xs to i h.2 (omega arith))

-- where no operator stands, none goes on
no_sign : (plus minus : Bool) → (if plus then Some monad.Plus else (if minus then Some monad.Minus else None)) ≡ None →
    plus || minus ≡ false
no_sign true minus h = absurd (true≢false (ap is_some h))
no_sign false true h = absurd (true≢false (ap is_some h))
no_sign false false h = refl

no_word : (abs sign not : Bool) →
    (if abs then Some monad.Abs else (if sign then Some monad.Sign else (if not then Some monad.Not else None))) ≡ None
    →
    abs || (sign || not) ≡ false
no_word true sign not h = absurd (true≢false (ap is_some h))
no_word false true not h = absurd (true≢false (ap is_some h))
no_word false false true h = absurd (true≢false (ap is_some h))
no_word false false false h = refl

none_extends : (token : Option What) → option_and_then monad_of token ≡ None → extends_monadics token ≡ false
none_extends (Some (what.Word code)) h = no_word (code == w.ABS) (code == w.SIGN) (code == w.NOT) h
none_extends (Some (what.Id text)) h = refl
none_extends (Some (what.Number value)) h = refl
none_extends (Some (what.Decimal whole thousandths)) h = refl
none_extends (Some (what.Clock milliseconds)) h = refl
none_extends (Some (what.Bits len value)) h = refl
none_extends (Some (what.Text text)) h = refl
none_extends (Some (what.Symbol symbol)) h = no_sign (symbol == s.PLUS) (symbol == s.MINUS) h
none_extends None h = refl

literal_is_no_monad : (token : Option What) → is_literal token ≡ true → extends_monadics token ≡ true → ⊥
literal_is_no_monad (Some (what.Word code)) h sign = true≢false (sym h)
literal_is_no_monad (Some (what.Id text)) h sign = true≢false (sym sign)
literal_is_no_monad (Some (what.Number value)) h sign = true≢false (sym sign)
literal_is_no_monad (Some (what.Decimal whole thousandths)) h sign = true≢false (sym sign)
literal_is_no_monad (Some (what.Clock milliseconds)) h sign = true≢false (sym sign)
literal_is_no_monad (Some (what.Bits len value)) h sign = true≢false (sym sign)
literal_is_no_monad (Some (what.Text text)) h sign = true≢false (sym sign)
literal_is_no_monad (Some (what.Symbol symbol)) h sign = true≢false (sym h)
literal_is_no_monad None h sign = true≢false (sym sign)

name_is_no_monad : (token : Option What) → is_name token ≡ true → extends_monadics token ≡ true → ⊥
name_is_no_monad (Some (what.Word code)) h sign = true≢false (sym h)
name_is_no_monad (Some (what.Id text)) h sign = true≢false (sym sign)
name_is_no_monad (Some (what.Number value)) h sign = true≢false (sym sign)
name_is_no_monad (Some (what.Decimal whole thousandths)) h sign = true≢false (sym sign)
name_is_no_monad (Some (what.Clock milliseconds)) h sign = true≢false (sym sign)
name_is_no_monad (Some (what.Bits len value)) h sign = true≢false (sym sign)
name_is_no_monad (Some (what.Text text)) h sign = true≢false (sym sign)
name_is_no_monad (Some (what.Symbol symbol)) h sign = true≢false (sym h)
name_is_no_monad None h sign = true≢false (sym sign)

number_is_no_monad : (token : Option What) → is_number token ≡ true → extends_monadics token ≡ true → ⊥
number_is_no_monad (Some (what.Word code)) h sign = true≢false (sym h)
number_is_no_monad (Some (what.Id text)) h sign = true≢false (sym sign)
number_is_no_monad (Some (what.Number value)) h sign = true≢false (sym sign)
number_is_no_monad (Some (what.Decimal whole thousandths)) h sign = true≢false (sym sign)
number_is_no_monad (Some (what.Clock milliseconds)) h sign = true≢false (sym sign)
number_is_no_monad (Some (what.Bits len value)) h sign = true≢false (sym sign)
number_is_no_monad (Some (what.Text text)) h sign = true≢false (sym sign)
number_is_no_monad (Some (what.Symbol symbol)) h sign = true≢false (sym h)
number_is_no_monad None h sign = true≢false (sym sign)

bracket_is_no_monad : (token : Option What) → is_symbol s.LEFT_ROUND token ≡ true → extends_monadics token ≡ true → ⊥
bracket_is_no_monad (Some (what.Word code)) h sign = true≢false (sym h)
bracket_is_no_monad (Some (what.Id text)) h sign = true≢false (sym sign)
bracket_is_no_monad (Some (what.Number value)) h sign = true≢false (sym sign)
bracket_is_no_monad (Some (what.Decimal whole thousandths)) h sign = true≢false (sym sign)
bracket_is_no_monad (Some (what.Clock milliseconds)) h sign = true≢false (sym sign)
bracket_is_no_monad (Some (what.Bits len value)) h sign = true≢false (sym sign)
bracket_is_no_monad (Some (what.Text text)) h sign = true≢false (sym sign)
bracket_is_no_monad (Some (what.Symbol symbol)) h sign =
    clash _ sign (ap (λ k. extends_monadics (Some (what.Symbol k))) (eqb-true symbol s.LEFT_ROUND h))
bracket_is_no_monad None h sign = true≢false (sym sign)

now_is_no_monad : (token : Option What) → is_word w.NOW token ≡ true → extends_monadics token ≡ true → ⊥
now_is_no_monad (Some (what.Word code)) h sign =
    clash _ sign (ap (λ k. extends_monadics (Some (what.Word k))) (eqb-true code w.NOW h))
now_is_no_monad (Some (what.Id text)) h sign = true≢false (sym sign)
now_is_no_monad (Some (what.Number value)) h sign = true≢false (sym sign)
now_is_no_monad (Some (what.Decimal whole thousandths)) h sign = true≢false (sym sign)
now_is_no_monad (Some (what.Clock milliseconds)) h sign = true≢false (sym sign)
now_is_no_monad (Some (what.Bits len value)) h sign = true≢false (sym sign)
now_is_no_monad (Some (what.Text text)) h sign = true≢false (sym sign)
now_is_no_monad (Some (what.Symbol symbol)) h sign = true≢false (sym h)
now_is_no_monad None h sign = true≢false (sym sign)

try_is_no_monad : (token : Option What) → is_word w.TRY token ≡ true → extends_monadics token ≡ true → ⊥
try_is_no_monad (Some (what.Word code)) h sign =
    clash _ sign (ap (λ k. extends_monadics (Some (what.Word k))) (eqb-true code w.TRY h))
try_is_no_monad (Some (what.Id text)) h sign = true≢false (sym sign)
try_is_no_monad (Some (what.Number value)) h sign = true≢false (sym sign)
try_is_no_monad (Some (what.Decimal whole thousandths)) h sign = true≢false (sym sign)
try_is_no_monad (Some (what.Clock milliseconds)) h sign = true≢false (sym sign)
try_is_no_monad (Some (what.Bits len value)) h sign = true≢false (sym sign)
try_is_no_monad (Some (what.Text text)) h sign = true≢false (sym sign)
try_is_no_monad (Some (what.Symbol symbol)) h sign = true≢false (sym h)
try_is_no_monad None h sign = true≢false (sym sign)

side_is_no_monad : (token : Option What) → is_side token ≡ true → extends_monadics token ≡ true → ⊥
side_is_no_monad (Some (what.Word code)) h sign =
    or_absurd (code == w.LWB) (code == w.UPB)
    (λ lower. clash _ sign (ap (λ k. extends_monadics (Some (what.Word k))) (eqb-true code w.LWB lower)))
    (λ upper. clash _ sign (ap (λ k. extends_monadics (Some (what.Word k))) (eqb-true code w.UPB upper))) h
side_is_no_monad (Some (what.Id text)) h sign = true≢false (sym sign)
side_is_no_monad (Some (what.Number value)) h sign = true≢false (sym sign)
side_is_no_monad (Some (what.Decimal whole thousandths)) h sign = true≢false (sym sign)
side_is_no_monad (Some (what.Clock milliseconds)) h sign = true≢false (sym sign)
side_is_no_monad (Some (what.Bits len value)) h sign = true≢false (sym sign)
side_is_no_monad (Some (what.Text text)) h sign = true≢false (sym sign)
side_is_no_monad (Some (what.Symbol symbol)) h sign = true≢false (sym h)
side_is_no_monad None h sign = true≢false (sym sign)

head_is_no_monad : (x : Primary) (token : Option What) → Head x token → extends_monadics token ≡ true → ⊥
head_is_no_monad (primary.Literal part) token h sign = literal_is_no_monad token h sign
head_is_no_monad (primary.Ref' name _ list place) token h sign = name_is_no_monad token h sign
head_is_no_monad (primary.Group' _ inner place) token h sign = bracket_is_no_monad token h sign
head_is_no_monad (primary.Now place) token h sign = now_is_no_monad token h sign
head_is_no_monad (primary.Try name place) token h sign = try_is_no_monad token h sign
head_is_no_monad (primary.Limit' None side _ name _ list ref_place place) token h sign = side_is_no_monad token h sign
head_is_no_monad (primary.Limit' (Some number) side _ name _ list ref_place place) token h sign =
    number_is_no_monad token h sign

same_size : (a b : ℕ) → (a < b → ⊥) → (b < a → ⊥) → a ≡ b
same_size a b above below = omega (arith, above, below)

-- operators were read up to `end`, and none stands there, or no more are allowed
module _ (tokens others : List Token) (from end : ℕ) (list : List Monadic)
    (each : SpellsEach (SpellsMonadic tokens) from list end)
    (all : (length list ≡ 8) ⊎ (option_and_then monad_of (what_at tokens end) ≡ None))
    (agree : BeginAlike tokens others end) (theirs : List Monadic) (to : ℕ) (h : SpellsMonadics others from theirs to)
  where
    list_ends : end ≡ from + length list
    list_ends = each_ends tokens from list end each

    theirs_end : to ≡ from + length theirs
    theirs_end = each_ends others from theirs to h.1

    fewer : length theirs < length list → EndsEarly extends_monadics others end to
    fewer below = (
      omega (arith, list_ends, theirs_end),
      subst (λ k. extends_monadics (what_at others k) ≡ true) (sym theirs_end)
          (ap extends_monadics (sym (agree (from + length theirs) (omega (arith, list_ends)))) ∙
          each_stands tokens from list end (length theirs) each below),
    )

    no_more : length list < length theirs → ⊥
    no_more above = by all
      where
        stands : extends_monadics (what_at tokens end) ≡ true
        stands = ap extends_monadics (agree end (omega arith)) ∙
            subst (λ k. extends_monadics (what_at others k) ≡ true) (sym list_ends)
            (each_stands others from theirs to (length list) h.1 above)

        by : (length list ≡ 8) ⊎ (option_and_then monad_of (what_at tokens end) ≡ None) → ⊥
        by (inl full) = omega (arith, h.0)
        by (inr none) = true≢false (sym stands ∙ none_extends (what_at tokens end) none)

    pub monadics_longest : (to ≡ end) ⊎ EndsEarly extends_monadics others end to
    monadics_longest = by (order (length theirs) (length list))
      where
        by : (length theirs < length list) ⊎ (length list ≤ length theirs) →
            (to ≡ end) ⊎ EndsEarly extends_monadics others end to
        by (inl below) = inr (fewer below)
        by (inr near) =
            let same = same_size (length theirs) (length list) (λ below. omega arith) no_more in
            inl (omega (arith, same, list_ends, theirs_end))

-- the operators before a primary end where the longest ones do
pub same_monadics : (others : List Token) (depth from end : ℕ) →
    ((list : List Monadic) (to : ℕ) → SpellsMonadics others from list to →
    (to ≡ end) ⊎ EndsEarly extends_monadics others end to) →
    (x : Primary) (to : ℕ) → SpellsSigned others depth from x to → SpellsPrimary others depth end x to
same_monadics others depth from end longest x to h = by (longest h.1 h.0 h.2)
  where
    by : (h.0 ≡ end) ⊎ EndsEarly extends_monadics others end h.0 → SpellsPrimary others depth end x to
    by (inl same) = subst (λ k. SpellsPrimary others depth k x to) same h.3
    by (inr early) = absurd (head_is_no_monad x (what_at others h.0) (first_token others depth h.0 x to h.3) early.1)

number_alone : (others : List Token) (depth from word to : ℕ) (dimension : Option Number) →
    ((list : List Selector) → SpellsNamed others depth (word + 1) list to → ⊥) →
    (IsSome dimension × (to ≡ from + 1) × (extends_operand (what_at others to) ≡ true)) ⊎ ((list : List Selector) ×
    SpellsNamed others depth (word + 1) list to) →
    (to ≡ from + 1) ⊎ EndsEarly extends_operand others (from + 1) to
number_alone others depth from word to dimension stuck (inl number) = inl number.1
number_alone others depth from word to dimension stuck (inr read) = absurd (stuck read.0 read.1)

number_missing : (others : List Token) (depth from word to : ℕ) (dimension : Option Number) → dimension ≡ None →
    ((list : List Selector) → SpellsNamed others depth (word + 1) list to → ⊥) →
    (IsSome dimension × (to ≡ from + 1) × (extends_operand (what_at others to) ≡ true)) ⊎ ((list : List Selector) ×
    SpellsNamed others depth (word + 1) list to) → ⊥
number_missing others depth from word to dimension none stuck (inl number) = subst IsSome none number.0
number_missing others depth from word to dimension none stuck (inr read) = stuck read.0 read.1

pub number_before : (tokens : List Token) (from word : ℕ) (dimension : Option Number) →
    SpellsMaybe (SpellsNumber tokens) from dimension word → from ≤ word
number_before tokens from word None number = omega (arith, number)
number_before tokens from word (Some dimension) number = omega (arith, number.1)

array_read : (others : List Token) (depth from word end to : ℕ) (dimension : Option Number) → from + 1 < end →
    ((list : List Selector) → SpellsNamed others depth (word + 1) list to →
    (to ≡ end) ⊎ EndsEarly extends_operand others end to) →
    (IsSome dimension × (to ≡ from + 1) × (extends_operand (what_at others to) ≡ true)) ⊎ ((list : List Selector) ×
    SpellsNamed others depth (word + 1) list to) →
    (to ≡ end) ⊎ EndsEarly extends_operand others end to
array_read others depth from word end to dimension near longest (inl number) = inr (omega (arith, number.1), number.2)
array_read others depth from word end to dimension near longest (inr read) = longest read.0 read.1

-- no array follows
pub without_array : (tokens others : List Token) (depth from word stop : ℕ) (dimension : Option Number) (side : Side) →
    SpellsMaybe (SpellsNumber tokens) from dimension word → HasWord tokens word (side_word side) → word + 1 ≤ stop →
    Stuck (λ tokens. SpellsNamed tokens depth) tokens (word + 1) stop → BeginAlike tokens others stop →
    (x : Primary) (to : ℕ) → SpellsPrimary others depth from x to →
    (to ≡ from + 1) ⊎ EndsEarly extends_operand others (from + 1) to
without_array tokens others depth from word stop dimension side number stands near stuck agree x to h =
    number_alone others depth from word to dimension (λ list h. stuck others agree list to h)
    (limit_others tokens others depth from word stop dimension side number stands agree (omega arith) x to h)

pub without_number : (tokens others : List Token) (depth from word stop : ℕ) (dimension : Option Number) (side : Side) →
    SpellsMaybe (SpellsNumber tokens) from dimension word → HasWord tokens word (side_word side) → word + 1 ≤ stop →
    Stuck (λ tokens. SpellsNamed tokens depth) tokens (word + 1) stop →
    BeginAlike tokens others stop → dimension ≡ None →
    (x : Primary) (to : ℕ) → SpellsPrimary others depth from x to → ⊥
without_number tokens others depth from word stop dimension side number stands near stuck agree none x to h =
    number_missing others depth from word to dimension none (λ list h. stuck others agree list to h)
    (limit_others tokens others depth from word stop dimension side number stands agree (omega arith) x to h)

-- an array follows
pub with_array : (tokens others : List Token) (depth from word end stop : ℕ) (dimension : Option Number) (side : Side) →
    SpellsMaybe (SpellsNumber tokens) from dimension word → HasWord tokens word (side_word side) →
    word + 1 < end → end ≤ stop →
    IsLongest (λ tokens. SpellsNamed tokens depth) extends_operand tokens (word + 1) end stop →
    BeginAlike tokens others stop →
    (x : Primary) (to : ℕ) → SpellsPrimary others depth from x to → (to ≡ end) ⊎ EndsEarly extends_operand others end to
with_array tokens others depth from word end stop dimension side number stands ahead near longest agree x to h =
    array_read others depth from word end to dimension (omega (arith, number_before tokens from word dimension number))
    (λ list h. longest others agree list to h)
    (limit_others tokens others depth from word stop dimension side number stands agree (omega arith) x to h)
