-- Constants of INIT, and the slots that they are put into.
use Rattle.std.specs.Prelude.{ℕ, ℤ, pos, neg_ℤ, Bool, true, false, ◌||◌, not, nat_le, List, [], ◌∷◌, ◌++◌, length, take, drop, Option, Some, None}
use Rattle.std.specs.List.{list_all}
use Rattle.pearl_value.specs.declared.kind.Kind.{Kind}
use Rattle.pearl_value.specs.declared.kind.Kind.TheVariants as kind
use Rattle.pearl_value.specs.Conversions.{fits_fixed}
use Rattle.pearl_tree.specs.declared.fault.RuleFault.{RuleFault}
use Rattle.pearl_tree.specs.declared.rule.TheConstants as rule
use Rattle.pearl_tree.specs.declared.literal.Sign.{Sign}
use Rattle.pearl_tree.specs.declared.literal.Sign.TheVariants.{Minus}
use Rattle.pearl_tree.specs.ShownLiterals.{ShownLiteral, OfNumber, OfBits, OfText, OfClock, OfDuration, ShownConst}
use Rattle.pearl_names.specs.Durations.{is_too_long}
use Rattle.pearl_tree.specs.Faults.{fault_if}

-- a sign may stand before FIXED and DURATION
abbrev pub has_wrong_sign : ShownConst → Bool
has_wrong_sign constant = is_wrong constant.sign constant.literal
  where
    is_wrong : Option Sign → ShownLiteral → Bool
    is_wrong None part = false
    is_wrong (Some sign) (OfNumber number) = false
    is_wrong (Some sign) (OfDuration duration) = false
    is_wrong (Some sign) part = true

abbrev pub signed : Option Sign → ℕ → ℤ
signed (Some Minus) n = neg_ℤ (pos n)
signed sign n = pos n

-- whether a constant suits a kind, and its value fits it. A duration that is too long has no kind, and so is not asked.
abbrev pub fits_kind : ShownConst → Kind → Bool
fits_kind constant to = fits constant.literal to
  where
    fits : ShownLiteral → Kind → Bool
    fits (OfNumber number) (kind.Fixed len) = fits_fixed len (signed constant.sign number.value)
    fits (OfBits len value place) (kind.Bits to) = nat_le len to
    fits (OfText text place) (kind.Chars to) = nat_le (length text) to
    fits (OfClock milliseconds place) kind.Clock = true
    fits (OfDuration duration) kind.Span = true
    fits (OfDuration duration) to = is_too_long duration
    fits part to = false

-- the slots that a constant is put into, of those that are left: the first, and all where no constant comes behind it
abbrev pub slots_taken : List ShownConst → List Kind → List Kind
slots_taken [] slots = slots
slots_taken (next ∷ rest) slots = take 1 slots

abbrev pub is_empty : List Kind → Bool
is_empty [] = true
is_empty (slot ∷ slots) = false

-- a constant has no slot, or doesn't suit or fit one that it is put into
abbrev pub misses : ShownConst → List Kind → Bool
misses constant slots = is_empty slots || not (list_all (fits_kind constant) slots)

-- at each constant that misses, where these slots are left for them
abbrev pub missing_slots : List Kind → List ShownConst → List RuleFault
missing_slots slots [] = []
missing_slots slots (constant ∷ rest) =
    fault_if (misses constant (slots_taken rest slots)) constant.place rule.S7 ++ missing_slots (drop 1 slots) rest

abbrev pub wrong_signs : List ShownConst → List RuleFault
wrong_signs [] = []
wrong_signs (constant ∷ rest) = fault_if (has_wrong_sign constant) constant.place rule.S7 ++ wrong_signs rest
