-- How kinds and texts are spelled, by cases.
use Rattle.std.proofs.Common.{◌≡◌, ℕ, ◌^◌, ◌≤◌, true, List, [], ◌∷◌, None, refl, ap}
use Rattle.std.proofs.Math.Pow.{pow_mono}
use Rattle.pearl_value.specs.declared.kind.Kind.{Kind}
use Rattle.pearl_value.specs.declared.kind.Kind.TheVariants as kinds
use Rattle.pearl_value.specs.declared.kind.CellKind.TheVariants.{Plain}
use Rattle.pearl_fields.specs.Codec.{all_bytes}
use Rattle.pearl_object.specs.Kinds.{kind, cell_kind}

pub all_ones : (bytes : List ℕ) → all_bytes (λ (b : ℕ). b ∷ []) bytes ≡ bytes
all_ones [] = refl
all_ones (b ∷ bytes) = ap (λ bs. b ∷ bs) (all_ones bytes)

pub pow_in_range : (bits : ℕ) → bits ≤ 64 → 2 ^ bits ≤ 2 ^ 64
pow_in_range bits few = pow_mono few

pub plain_bytes : (k : Kind) → (cell_kind true).bytes (Plain k) ≡ (kind None).bytes k
unfolding cell_kind kind
plain_bytes (kinds.Fixed len) = refl
plain_bytes (kinds.Bits len) = refl
plain_bytes (kinds.Chars len) = refl
plain_bytes kinds.Clock = refl
plain_bytes kinds.Span = refl
