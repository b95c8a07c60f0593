-- Constants fit the kinds of which their values become one.
use Rattle.std.proofs.Common.{◌≡◌, ℕ, Bool, true, false, cond, not, length, Option, Result, Ok, Err, refl, ap}
use Rattle.std.specs.Prelude.{◌↔◌}
use Rattle.std.proofs.lemmas.Bool.{leb-true, le-leb}
use Rattle.pearl_value.specs.declared.cell.Cell.{Cell}
use Rattle.pearl_value.specs.declared.cell.Cell.TheVariants as cell
use Rattle.pearl_value.specs.declared.kind.Kind.{Kind}
use Rattle.pearl_value.specs.declared.kind.Kind.TheVariants as kind
use Rattle.pearl_value.specs.declared.trap.Trap.{Trap}
use Rattle.pearl_value.specs.declared.trap.Trap.TheVariants.{Overflow}
use Rattle.pearl_value.specs.Conversions.{fits_fixed}
use Rattle.pearl_tree.specs.declared.literal.Sign.{Sign}
use Rattle.pearl_tree.specs.ShownLiterals.{ShownLiteral, OfNumber, OfBits, OfText, OfClock, OfDuration, ShownConst}
use Rattle.pearl_scope.specs.Constants.{fits_kind, signed}
use Rattle.pearl_scope.specs.Laws.{has_value, value_of, Becomes, FitsWherePut}

abbrev chosen : Bool → Cell → Result Cell Trap
chosen b x = cond b (Ok x) (Err Overflow)

no_trap : (b : Bool) (x put : Cell) → chosen b x ≡ Ok put → b ≡ true
no_trap true x put is = refl
no_trap false x put is = absurd (cc)

not_both : (b : Bool) → not b ≡ true → b ≡ true → ⊥
not_both true refused passes = cc
not_both false refused passes = cc

abbrev FitsPut : (len : ℕ) → Option Sign → ShownLiteral → ℕ → Kind → Type 0
FitsPut len sign literal place to =
    let constant : ShownConst = record { sign = sign; literal = literal; place = place } in
    (fits_kind constant to ≡ true) ↔ ((put : Cell) × Becomes (value_of len constant) to put)

pub fits_where_put : FitsWherePut
fits_where_put constant len to has = by constant.literal to has
  where
    by : (literal : ShownLiteral) (to : Kind) → has_value literal ≡ true → FitsPut len constant.sign literal constant.place to
    by (OfNumber number) (kind.Fixed room) has = (
      λ fits. let put : Cell = cell.Fixed room (signed constant.sign number.value) in
          (put, record { suits = tt; is = ap (λ b. chosen b put) fits }),
      λ found. no_trap (fits_fixed room (signed constant.sign number.value)) (cell.Fixed room (signed constant.sign number.value)) found.0 found.1.is,
    )
    by (OfBits bits value at) (kind.Bits room) has =
        (λ fits. (_, record { suits = leb-true bits room fits; is = refl }), λ found. le-leb bits room found.1.suits)
    by (OfText text at) (kind.Chars room) has =
        (λ fits. (_, record { suits = leb-true (length text) room fits; is = refl }), λ found. le-leb (length text) room found.1.suits)
    by (OfClock milliseconds at) kind.Clock has = (λ fits. (_, record { suits = tt; is = refl }), λ found. refl)
    by (OfDuration duration) kind.Span has = (λ fits. (_, record { suits = tt; is = refl }), λ found. refl)
    by (OfDuration duration) to has = (λ fits. absurd (not_both _ has fits), λ found. absurd found.1.suits)
    by literal to has = (λ fits. absurd (cc), λ found. absurd found.1.suits)
