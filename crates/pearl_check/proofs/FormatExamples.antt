-- Items of formats at their edges: S33.
use Rattle.std.specs.Prelude.{◌≡◌, ℕ, Bool, true, false, List, [], ◌∷◌, map, replicate, Some, None}
use Rattle.std.proofs.Common.{refl}
use Rattle.pearl_value.specs.declared.kind.Kind.{Kind}
use Rattle.pearl_value.specs.declared.kind.Kind.TheVariants as kind
use Rattle.pearl_tree.specs.declared.fault.RuleFault.{RuleFault}
use Rattle.pearl_tree.specs.declared.format.FreeCode.{FreeCode}
use Rattle.pearl_tree.specs.declared.format.FreeCode.TheVariants.{A, B, B1, B2, B3, B4, X, Skip}
use Rattle.pearl_tree.specs.declared.format.WideCode.{WideCode}
use Rattle.pearl_tree.specs.declared.format.WideCode.TheVariants.{F, T, D}
use Rattle.pearl_tree.specs.declared.format.Fmt.{Fmt}
use Rattle.pearl_tree.specs.declared.format.Fmt.TheVariants.{Free, Wide}
use Rattle.pearl_check.proofs.EachSort.{number, fault, told}
use Rattle.pearl_check.specs.Formats.{is_free_for, is_wide_for, sum_of_widths, format_faults}

-- an item without a width, and one with this width
abbrev free : FreeCode → Fmt
free code = Free code None 1

abbrev free_of : FreeCode → ℕ → Fmt
free_of code width = Free code (Some (number width 3)) 1

abbrev wide : WideCode → ℕ → Fmt
wide code width = Wide code (number width 3) 1

-- what an item without a width counts for, before a value of this kind
abbrev counted : Kind → FreeCode → ℕ
counted kind code = sum_of_widths (free code ∷ []) (Some kind ∷ [])

-- seven bits are 7, 7, 4, 3 and 2 digits, eight are 8, 8, 4, 3 and 2, and nine are 9, 9, 5, 3 and 3
seven_bits : map (counted (kind.Bits 7)) (B ∷ B1 ∷ B2 ∷ B3 ∷ B4 ∷ []) ≡ 7 ∷ 7 ∷ 4 ∷ 3 ∷ 2 ∷ []
seven_bits = refl

eight_bits : map (counted (kind.Bits 8)) (B ∷ B1 ∷ B2 ∷ B3 ∷ B4 ∷ []) ≡ 8 ∷ 8 ∷ 4 ∷ 3 ∷ 2 ∷ []
eight_bits = refl

nine_bits : map (counted (kind.Bits 9)) (B ∷ B1 ∷ B2 ∷ B3 ∷ B4 ∷ []) ≡ 9 ∷ 9 ∷ 5 ∷ 3 ∷ 3 ∷ []
nine_bits = refl

texts : map (counted (kind.Chars 9)) (A ∷ X ∷ Skip ∷ []) ≡ 9 ∷ 1 ∷ 1 ∷ []
texts = refl

-- a value without a kind
unknown : sum_of_widths (free A ∷ free B ∷ free B4 ∷ []) (None ∷ None ∷ None ∷ []) ≡ 0
unknown = refl

-- X stands for no value: 10 + 1 + 7
blank_between : sum_of_widths (free A ∷ free X ∷ free B ∷ []) (Some (kind.Chars 10) ∷ Some (kind.Bits 7) ∷ []) ≡ 18
blank_between = refl

-- FIXED, BIT, CHAR, CLOCK and DURATION
abbrev kinds : List Kind
kinds = kind.Fixed 7 ∷ kind.Bits 7 ∷ kind.Chars 7 ∷ kind.Clock ∷ kind.Span ∷ []

for_text : map (is_free_for A) kinds ≡ false ∷ false ∷ true ∷ false ∷ false ∷ []
for_text = refl

for_bits : map (λ code. map (is_free_for code) kinds) (B ∷ B1 ∷ B2 ∷ B3 ∷ B4 ∷ []) ≡ replicate 5 (false ∷ true ∷ false ∷ false ∷ false ∷ [])
for_bits = refl

for_fixed : map (is_wide_for F) kinds ≡ true ∷ false ∷ false ∷ false ∷ false ∷ []
for_fixed = refl

for_clock : map (is_wide_for T) kinds ≡ false ∷ false ∷ false ∷ true ∷ false ∷ []
for_clock = refl

for_duration : map (is_wide_for D) kinds ≡ false ∷ false ∷ false ∷ false ∷ true ∷ []
for_duration = refl

-- one item for one value
abbrev alone : Fmt → Kind → List RuleFault
alone item kind = format_faults 0 (item ∷ []) (Some kind ∷ [])

-- the two in the middle
abbrev within : List Bool
within = false ∷ true ∷ true ∷ false ∷ []

-- F(0), F(1), F(255) and F(256)
widths : map (λ width. alone (wide F width) (kind.Fixed 7)) (0 ∷ 1 ∷ 255 ∷ 256 ∷ []) ≡ told (fault 1 33) within
widths = refl

-- the same of D and A
duration_widths : map (λ width. alone (wide D width) kind.Span) (0 ∷ 1 ∷ 255 ∷ 256 ∷ []) ≡ told (fault 1 33) within
duration_widths = refl

text_widths : map (λ width. alone (free_of A width) (kind.Chars 7)) (0 ∷ 1 ∷ 255 ∷ 256 ∷ []) ≡ told (fault 1 33) within
text_widths = refl

-- T(7), T(8), T(255) and T(256)
clock_widths : map (λ width. alone (wide T width) kind.Clock) (7 ∷ 8 ∷ 255 ∷ 256 ∷ []) ≡ told (fault 1 33) within
clock_widths = refl

-- so many items F(1), for as many values
abbrev numbers : ℕ → List RuleFault
numbers n = format_faults 0 (replicate n (wide F 1)) (replicate n (Some (kind.Fixed 7)))

items_enough : numbers 64 ≡ []
items_enough = refl

items_beyond : numbers 65 ≡ fault 0 33 ∷ []
items_beyond = refl

-- two items for one value, for two and for three
abbrev two_for : ℕ → List RuleFault
two_for n = format_faults 0 (replicate 2 (wide F 1)) (replicate n (Some (kind.Fixed 7)))

unequal : map two_for (1 ∷ 2 ∷ 3 ∷ []) ≡ told (fault 0 33) (false ∷ true ∷ false ∷ [])
unequal = refl
