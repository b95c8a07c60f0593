-- When two values are the same.
use Rattle.std.proofs.Common.{◌≡◌, true, refl, ap, ap₂}
use Rattle.std.proofs.lemmas.Bool.Decides.{Decides-and, Decides-eqb, Decides-int_eq}
use Rattle.std.proofs.lemmas.Bool.{false≢true}
use Rattle.std.proofs.lemmas.Slice.Eq.{bytes_eq-Decides}
use Rattle.pearl_value.specs.declared.cell.Cell.{Cell}
use Rattle.pearl_value.specs.declared.cell.Cell.TheVariants.{Fixed, Bits, Chars, Clock, Span, Ref}
use Rattle.pearl_value.specs.WellFormed.{IsValue}
use Rattle.pearl_watch.specs.Changes.{is_same}

pub same_refl : (x : Cell) → is_same x x ≡ true
same_refl (Fixed len x) = (Decides-and _ _ (Decides-eqb len len) (Decides-int_eq x x)).1 (refl, refl)
same_refl (Bits len x) = (Decides-and _ _ (Decides-eqb len len) (Decides-eqb x x)).1 (refl, refl)
same_refl (Chars x) = (bytes_eq-Decides x.items x.items).1 refl
same_refl (Clock x) = (Decides-eqb x x).1 refl
same_refl (Span x) = (Decides-int_eq x x).1 refl
same_refl (Ref of at) = refl

pub same_is : (x y : Cell) → IsValue y → is_same x y ≡ true → x ≡ y
same_is (Fixed len x) (Fixed length y) value e =
    let both = (Decides-and _ _ (Decides-eqb len length) (Decides-int_eq x y)).0 e in ap₂ Fixed both.0 both.1
same_is (Bits len x) (Bits length y) value e =
    let both = (Decides-and _ _ (Decides-eqb len length) (Decides-eqb x y)).0 e in ap₂ Bits both.0 both.1
same_is (Chars x) (Chars y) value e = ap (λ items. Chars (record { items = items })) ((bytes_eq-Decides x.items y.items).0 e)
same_is (Clock x) (Clock y) value e = ap Clock ((Decides-eqb x y).0 e)
same_is (Span x) (Span y) value e = ap Span ((Decides-int_eq x y).0 e)
same_is (Ref of at) (Ref kind place) value e = absurd value
same_is x y value e = absurd (false≢true e)
