-- How the operands of instructions are spelled: bounds, causes of traps, and when something is to happen.
use Rattle.std.specs.Prelude.{ℕ, nat_lt, ◌-◌, ◌^◌, Bool, true, false, List, [], ◌∷◌, Option, Some, None, ℤ, pos, negsuc}
use Rattle.pearl_value.specs.declared.trap.Trap.{Trap}
use Rattle.pearl_value.specs.declared.trap.Trap.TheVariants.{Overflow, ZeroDivide, Index, Range, Format, SemaLimit}
use Rattle.pearl_instructions.specs.declared.instr.Bounds.{Bounds}
use Rattle.pearl_instructions.specs.declared.schedule.OnceForm.{OnceForm}
use Rattle.pearl_instructions.specs.declared.schedule.OnceForm.TheVariants as once_form
use Rattle.pearl_instructions.specs.declared.schedule.StartForm.{StartForm}
use Rattle.pearl_instructions.specs.declared.schedule.StartForm.TheVariants.{Free, At, After, When, WhenAfter}
use Rattle.pearl_instructions.specs.declared.schedule.RepeatForm.{RepeatForm}
use Rattle.pearl_instructions.specs.declared.schedule.RepeatForm.TheVariants.{Once, All, Until, During}
use Rattle.pearl_fields.specs.Codec.{Codec, nothing, never, shaped, spelled_if, pair, tagged, number, signed_in}

abbrev pub least_bound : ℤ
least_bound = negsuc (2 ^ 31 - 1)

abbrev pub greatest_bound : ℤ
greatest_bound = pos (2 ^ 31 - 1)

abbrev pub has_32_bits : ℤ → Bool
has_32_bits (pos n) = nat_lt n (2 ^ 31)
has_32_bits (negsuc n) = nat_lt n (2 ^ 31)

-- a bound has 32 bits; what has more has no bytes
unfoldable pub bound : Codec ℤ
bound = spelled_if has_32_bits (signed_in least_bound greatest_bound)

unfoldable pub bounds : Codec Bounds
bounds = shaped (λ b. (b.low, b.high)) (λ p. record { low = p.0; high = p.1 }) (pair bound (λ low. bound))

abbrev pub flag_tag : Bool → ℕ
flag_tag false = 0
flag_tag true = 1

abbrev pub flag_arms : List (Codec Bool)
flag_arms = nothing false ∷ nothing true ∷ []

unfoldable pub flag : Codec Bool
flag = tagged 0 flag_tag flag_arms

abbrev pub trap_tag : Trap → ℕ
trap_tag Overflow = 1
trap_tag ZeroDivide = 2
trap_tag Index = 3
trap_tag Range = 4
trap_tag Format = 5
trap_tag SemaLimit = 6

abbrev pub trap_arms : List (Codec Trap)
trap_arms =
    never
    ∷ nothing Overflow
    ∷ nothing ZeroDivide
    ∷ nothing Index
    ∷ nothing Range
    ∷ nothing Format
    ∷ nothing SemaLimit
    ∷ []

unfoldable pub trap : Codec Trap
trap = tagged 1 trap_tag trap_arms

abbrev pub once_tag : OnceForm → ℕ
once_tag once_form.At = 1
once_tag once_form.After = 2
once_tag (once_form.When d) = 3

abbrev pub once_device : OnceForm → ℕ
once_device (once_form.When d) = d
once_device _ = 0

abbrev pub once_arms : List (Codec OnceForm)
once_arms =
    never ∷ nothing once_form.At ∷ nothing once_form.After ∷ shaped once_device once_form.When number ∷ []

-- of Resume
unfoldable pub once : Codec OnceForm
once = tagged 1 once_tag once_arms

abbrev pub maybe_tag : Option OnceForm → ℕ
maybe_tag None = 0
maybe_tag (Some form) = once_tag form

abbrev pub maybe_device : Option OnceForm → ℕ
maybe_device None = 0
maybe_device (Some form) = once_device form

abbrev pub maybe_arms : List (Codec (Option OnceForm))
maybe_arms =
    nothing None
    ∷ nothing (Some once_form.At)
    ∷ nothing (Some once_form.After)
    ∷ shaped maybe_device (λ d. Some (once_form.When d)) number
    ∷ []

-- of Continue
unfoldable pub maybe_once : Codec (Option OnceForm)
maybe_once = tagged 0 maybe_tag maybe_arms

abbrev pub start_tag : StartForm → ℕ
start_tag Free = 0
start_tag At = 1
start_tag After = 2
start_tag (When d) = 3
start_tag (WhenAfter d) = 4

abbrev pub start_device : StartForm → ℕ
start_device (When d) = d
start_device (WhenAfter d) = d
start_device _ = 0

abbrev pub start_arms : List (Codec StartForm)
start_arms =
    nothing Free
    ∷ nothing At
    ∷ nothing After
    ∷ shaped start_device When number
    ∷ shaped start_device WhenAfter number
    ∷ []

-- of Activate
unfoldable pub start : Codec StartForm
start = tagged 0 start_tag start_arms

abbrev pub repeat_tag : RepeatForm → ℕ
repeat_tag Once = 0
repeat_tag All = 1
repeat_tag Until = 2
repeat_tag During = 3

abbrev pub repeat_arms : List (Codec RepeatForm)
repeat_arms = nothing Once ∷ nothing All ∷ nothing Until ∷ nothing During ∷ []

unfoldable pub repetition : Codec RepeatForm
repetition = tagged 0 repeat_tag repeat_arms
