-- Kinds and literals are read as they are spelled.
use Rattle.std.proofs.Common.{◌≡◌, ℕ, Bool, Option, None, refl, sym, rules, ap, ◌∙◌, arith}
use Rattle.std.specs.Prelude.{◌||◌, nat_le}
use Rattle.pearl_value.specs.declared.kind.Kind.{Kind}
use Rattle.pearl_value.specs.declared.kind.Kind.TheVariants.{Fixed, Bits, Chars, Clock, Span}
use Rattle.pearl_value.specs.declared.kind.CellKind.TheVariants.{Plain, RefTo}
use Rattle.pearl_value.specs.declared.cell.Cell.{Cell}
use Rattle.pearl_fields.specs.Codec.{Codec, nothing, never, shaped, guarded, arm_at, within, byte_in}
use Rattle.pearl_fields.proofs.Offered.{IsTold, byte_told, guarded_told, nothing_told, shaped_told, rolled_told, keyed_told, never_told, IsArm, AreArms, arm_of, made_arm, number_in_told, signed_in_told, counted_told}
use Rattle.pearl_object.specs.declared.states.Alone.{Alone}
use Rattle.pearl_object.specs.Lists.{alone, each_in}
use Rattle.pearl_object.specs.Kinds.{suits, kind_tag, kind_len, bare, len_in, kind_arms, kind, cell_kind_tag, kind_in_cell, cell_kind_arms, cell_kind, most_cell_tag}
use Rattle.pearl_object.specs.Literals.{literal_kind, value_of, literal}

infixr 10 ◌&◌
abbrev pub ◌&◌ : {A B : Type 0} → A → B → A × B
a & b = (a, b)

-- an arm of one value
pub single : {X : Type 0} (tag : X → ℕ) (t : ℕ) (x : X) → tag x ≡ t → IsArm tag t (nothing x)
single tag t x is = record { told = nothing_told x; tagged = λ y h. ap tag h ∙ is }

-- an arm that nothing is
pub empty : {X : Type 0} (tag : X → ℕ) (t : ℕ) → IsArm tag t never
empty tag t = record { told = never_told; tagged = λ x h. absurd h }

pub each_told : {X : Type 0} (low high : ℕ) (c : Codec X) → IsTold c → IsTold (each_in low high c)
each_told low high c l = counted_told low high c.bytes (λ (s : Alone). c) (λ s x. s) alone (λ s. l) (λ s x. refl)

-- ---- kinds

len_arm : (wanted : Option Kind) (t most : ℕ) (of : ℕ → Kind) → ((n : ℕ) → kind_len (of n) ≡ n) → ((n : ℕ) → kind_tag (of n) ≡ t) → IsArm kind_tag t (len_in wanted most of)
len_arm wanted t most of back is = record {
  told = guarded_told (suits wanted) (shaped kind_len of (byte_in 1 most)) (shaped_told kind_len of (byte_in 1 most) (byte_told (within 1 most)) (λ a h. back a)) (λ x h. omega arith);
  tagged = λ x h. ap kind_tag (sym h.0.1) ∙ is (kind_len x);
}

pub kind_told : (wanted : Option Kind) → IsTold (kind wanted)
unfolding kind
kind_told wanted =
    keyed_told kind_tag (guarded (λ t. nat_le t 2 || suits wanted (bare t)) (byte_in 0 4)) (arm_at (kind_arms wanted)) (guarded_told (λ t. nat_le t 2 || suits wanted (bare t)) (byte_in 0 4) (byte_told (within 0 4)) (λ x h. omega arith))
    (λ t. (arm_of kind_tag 0 (kind_arms wanted) are t).told) (λ t x h. (arm_of kind_tag 0 (kind_arms wanted) are t).tagged x h ∙ omega arith)
  where
    are : AreArms kind_tag 0 (kind_arms wanted)
    are =
        len_arm wanted 0 63 Fixed (λ n. refl) (λ n. refl)
        & len_arm wanted 1 64 Bits (λ n. refl) (λ n. refl)
        & len_arm wanted 2 255 Chars (λ n. refl) (λ n. refl)
        & single kind_tag 3 Clock refl
        & single kind_tag 4 Span refl
        & tt

pub cell_kind_told : (free : Bool) → IsTold (cell_kind free)
unfolding cell_kind
cell_kind_told free =
    keyed_told cell_kind_tag (byte_in 0 (most_cell_tag free)) (arm_at cell_kind_arms) (byte_told (within 0 (most_cell_tag free)))
    (λ t. (arm_of cell_kind_tag 0 cell_kind_arms are t).told) (λ t x h. (arm_of cell_kind_tag 0 cell_kind_arms are t).tagged x h ∙ omega arith)
  where
    are : AreArms cell_kind_tag 0 cell_kind_arms
    are =
        made_arm cell_kind_tag 0 (λ k. kind_len (kind_in_cell k)) (λ len. Plain (Fixed len)) (byte_in 1 63) (byte_told (within 1 63)) (λ a. refl) (λ a. refl)
        & made_arm cell_kind_tag 1 (λ k. kind_len (kind_in_cell k)) (λ len. Plain (Bits len)) (byte_in 1 64) (byte_told (within 1 64)) (λ a. refl) (λ a. refl)
        & made_arm cell_kind_tag 2 (λ k. kind_len (kind_in_cell k)) (λ len. Plain (Chars len)) (byte_in 1 255) (byte_told (within 1 255)) (λ a. refl) (λ a. refl)
        & single cell_kind_tag 3 (Plain Clock) refl
        & single cell_kind_tag 4 (Plain Span) refl
        & made_arm cell_kind_tag 5 kind_in_cell RefTo (kind None) (kind_told None) (λ a. refl) (λ a. refl)
        & tt

-- ---- literals

value_told : (k : Kind) → IsTold (value_of k)
unfolding value_of
value_told (Fixed len) = search (shaped_told, signed_in_told, rules)
value_told (Bits len) = search (shaped_told, number_in_told, rules)
value_told (Chars len) = search (shaped_told, rolled_told, byte_told, rules)
value_told Clock = search (shaped_told, number_in_told, rules)
value_told Span = search (shaped_told, signed_in_told, rules)

value_kind : (k : Kind) (x : Cell) → (value_of k).fits x → literal_kind x ≡ k
unfolding value_of
value_kind (Fixed len) x h = ap literal_kind (sym h.1)
value_kind (Bits len) x h = ap literal_kind (sym h.1)
value_kind (Chars len) x h = ap literal_kind (sym h.1) ∙ ap Chars h.0.0
value_kind Clock x h = ap literal_kind (sym h.1)
value_kind Span x h = ap literal_kind (sym h.1)

pub literal_told : (wanted : Option Kind) → IsTold (literal wanted)
unfolding literal
literal_told wanted = keyed_told literal_kind (kind wanted) value_of (kind_told wanted) value_told value_kind
