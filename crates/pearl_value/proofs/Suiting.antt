-- Which kinds suit which, told twice.
use Rattle.std.proofs.Common.{◌≡◌, ◌↔◌, true, false, refl, sym, true≢false}
use Rattle.std.proofs.lemmas.Bool.{leb-true, le-leb}
use Rattle.pearl_value.specs.declared.kind.Kind.{Kind}
use Rattle.pearl_value.specs.declared.kind.Kind.TheVariants.{Fixed, Bits, Chars, Clock, Span}
use Rattle.pearl_value.specs.Conversions.{SuitsKind, suits_kind}

both : (true ≡ true) ↔ Unit {0}
both = ((λ e. tt), λ h. refl)

neither : (false ≡ true) ↔ ⊥
neither = ((λ e. true≢false (sym e)), λ h. absurd h)

pub suits_both : (from to : Kind) → (suits_kind from to ≡ true) ↔ SuitsKind from to
suits_both (Fixed len) (Fixed other) = both
suits_both (Bits len) (Bits other) = (leb-true len other, le-leb len other)
suits_both (Chars len) (Chars other) = (leb-true len other, le-leb len other)
suits_both Clock Clock = both
suits_both Span Span = both
suits_both from to = neither
