-- The operands of instructions are read as they are spelled.
use Rattle.std.proofs.Common.{◌≡◌, true, false, Some, None, ℤ, pos, negsuc, refl, rules, arith}
use Rattle.pearl_value.specs.declared.trap.Trap.TheVariants as traps
use Rattle.pearl_instructions.specs.declared.schedule.OnceForm.TheVariants as once_form
use Rattle.pearl_instructions.specs.declared.schedule.StartForm.TheVariants as start_form
use Rattle.pearl_instructions.specs.declared.schedule.RepeatForm.TheVariants as repeat_form
use Rattle.pearl_fields.specs.Codec.{number, signed_in, within_signed}
use Rattle.pearl_fields.proofs.Offered.{IsTold, spelled_told, shaped_told, pair_told, tagged_told, made_arm, number_told, signed_in_told}
use Rattle.pearl_object.specs.Operands.{least_bound, greatest_bound, has_32_bits, bound, bounds, flag_tag, flag_arms, flag, trap_tag, trap_arms, trap, once_tag, once_device, once_arms, once, maybe_tag, maybe_device, maybe_arms, maybe_once, start_tag, start_device, start_arms, start, repeat_tag, repeat_arms, repetition}
use Rattle.pearl_object.proofs.Parts.{◌&◌, single, empty}

-- a number within the bounds has 32 bits
bound_has : (n : ℤ) → within_signed least_bound greatest_bound n ≡ true → has_32_bits n ≡ true
bound_has (pos n) h = grind arith
bound_has (negsuc n) h = grind arith

pub bound_told : IsTold bound
unfolding bound
bound_told = spelled_told has_32_bits (signed_in least_bound greatest_bound) (signed_in_told least_bound greatest_bound) (λ x h. bound_has x h.1)

pub bounds_told : IsTold bounds
unfolding bounds
bounds_told = search (shaped_told, pair_told, bound_told, rules)

pub flag_told : IsTold flag
unfolding flag
flag_told = tagged_told 0 flag_tag flag_arms (single flag_tag 0 false refl & single flag_tag 1 true refl & tt)

pub trap_told : IsTold trap
unfolding trap
trap_told =
    tagged_told 1 trap_tag trap_arms
    (empty trap_tag 0
    & single trap_tag 1 traps.Overflow refl
    & single trap_tag 2 traps.ZeroDivide refl
    & single trap_tag 3 traps.Index refl
    & single trap_tag 4 traps.Range refl
    & single trap_tag 5 traps.Format refl
    & single trap_tag 6 traps.SemaLimit refl
    & tt)

pub once_told : IsTold once
unfolding once
once_told =
    tagged_told 1 once_tag once_arms
    (empty once_tag 0
    & single once_tag 1 once_form.At refl
    & single once_tag 2 once_form.After refl
    & made_arm once_tag 3 once_device once_form.When number number_told (λ a. refl) (λ a. refl)
    & tt)

pub maybe_told : IsTold maybe_once
unfolding maybe_once
maybe_told =
    tagged_told 0 maybe_tag maybe_arms
    (single maybe_tag 0 None refl
    & single maybe_tag 1 (Some once_form.At) refl
    & single maybe_tag 2 (Some once_form.After) refl
    & made_arm maybe_tag 3 maybe_device (λ d. Some (once_form.When d)) number number_told (λ a. refl) (λ a. refl)
    & tt)

pub start_told : IsTold start
unfolding start
start_told =
    tagged_told 0 start_tag start_arms
    (single start_tag 0 start_form.Free refl
    & single start_tag 1 start_form.At refl
    & single start_tag 2 start_form.After refl
    & made_arm start_tag 3 start_device start_form.When number number_told (λ a. refl) (λ a. refl)
    & made_arm start_tag 4 start_device start_form.WhenAfter number number_told (λ a. refl) (λ a. refl)
    & tt)

pub repeat_told : IsTold repetition
unfolding repetition
repeat_told =
    tagged_told 0 repeat_tag repeat_arms
    (single repeat_tag 0 repeat_form.Once refl
    & single repeat_tag 1 repeat_form.All refl
    & single repeat_tag 2 repeat_form.Until refl
    & single repeat_tag 3 repeat_form.During refl
    & tt)
