-- Which kinds are among slots that stand one after the other, and among slots of so many elements.
use Rattle.std.proofs.Common.{◌≡◌, ℕ, zero, suc, ◌≤◌, min, Bool, true, false, ◌||◌, List, [], ◌∷◌, ◌++◌, replicate, Option, Some, None, is_some, refl, sym, ap, ◌∙◌, true≢false, arith}
use Rattle.pearl_value.specs.declared.kind.Kind.{Kind}
use Rattle.pearl_value.specs.declared.kind.Kind.TheVariants as kind
use Rattle.pearl_names.specs.declared.kinds.Kinds.{Kinds}
use Rattle.pearl_names.specs.Kinds.{least, no_kinds, one_kind, joined_kinds, kinds_among, has_kind}

least-assoc : (a b c : Option ℕ) → least (least a b) c ≡ least a (least b c)
least-assoc None b c = refl
least-assoc (Some a) None c = refl
least-assoc (Some a) (Some b) None = refl
least-assoc (Some a) (Some b) (Some c) = let e : min (min a b) c ≡ min a (min b c) = omega arith in ap Some e

or-assoc : (a b c : Bool) → ((a || b) || c) ≡ (a || (b || c))
or-assoc true b c = refl
or-assoc false b c = refl

pub joined-assoc : (a b c : Kinds) → joined_kinds (joined_kinds a b) c ≡ joined_kinds a (joined_kinds b c)
joined-assoc a b c = λ i. record {
  fixed = least-assoc a.fixed b.fixed c.fixed i;
  bits = least-assoc a.bits b.bits c.bits i;
  chars = least-assoc a.chars b.chars c.chars i;
  clock = or-assoc a.clock b.clock c.clock i;
  span = or-assoc a.span b.span c.span i;
}

least-none : (a : Option ℕ) → least a None ≡ a
least-none None = refl
least-none (Some a) = refl

or-false : (a : Bool) → (a || false) ≡ a
or-false true = refl
or-false false = refl

pub joined-none : (a : Kinds) → joined_kinds a no_kinds ≡ a
joined-none a = λ i. record {
  fixed = least-none a.fixed i;
  bits = least-none a.bits i;
  chars = least-none a.chars i;
  clock = or-false a.clock i;
  span = or-false a.span i;
}

pub kinds-append : (a b : List Kind) → kinds_among (a ++ b) ≡ joined_kinds (kinds_among a) (kinds_among b)
kinds-append [] b = refl
kinds-append (x ∷ a) b = ap (joined_kinds (one_kind x)) (kinds-append a b) ∙ sym (joined-assoc (one_kind x) (kinds_among a) (kinds_among b))

least-same : (a : ℕ) (b : Option ℕ) → least (Some a) (least (Some a) b) ≡ least (Some a) b
least-same a None = let e : min a a ≡ a = omega arith in ap Some e
least-same a (Some b) = let e : min a (min a b) ≡ min a b = omega arith in ap Some e

-- a kind that is there already
pub joined-same : (x : Kind) (a : Kinds) → joined_kinds (one_kind x) (joined_kinds (one_kind x) a) ≡ joined_kinds (one_kind x) a
joined-same (kind.Fixed len) a = λ i. record { fixed = least-same len a.fixed i; bits = a.bits; chars = a.chars; clock = a.clock; span = a.span }
joined-same (kind.Bits len) a = λ i. record { fixed = a.fixed; bits = least-same len a.bits i; chars = a.chars; clock = a.clock; span = a.span }
joined-same (kind.Chars len) a = λ i. record { fixed = a.fixed; bits = a.bits; chars = least-same len a.chars i; clock = a.clock; span = a.span }
joined-same kind.Clock a = refl
joined-same kind.Span a = refl

pub kinds-replicate : (n : ℕ) (x : Kind) → kinds_among (replicate (suc n) x) ≡ one_kind x
kinds-replicate zero x = joined-none (one_kind x)
kinds-replicate (suc n) x = ap (joined_kinds (one_kind x)) (kinds-replicate n x) ∙ ap (joined_kinds (one_kind x)) (sym (joined-none (one_kind x))) ∙ joined-same x no_kinds ∙ joined-none (one_kind x)

pub kinds-run : (n : ℕ) (x : Kind) → 1 ≤ n → kinds_among (replicate n x) ≡ one_kind x
kinds-run zero x h = absurd (omega (arith, h))
kinds-run (suc n) x h = kinds-replicate n x

-- where no kind is among some slots, there is none
least_some : (n : ℕ) (a : Option ℕ) → is_some (least (Some n) a) ≡ true
least_some n None = refl
least_some n (Some a) = refl

or_true : (a : Bool) → (a || true) ≡ true
or_true true = refl
or_true false = refl

some_kind : (x : Kind) (k : Kinds) → has_kind (joined_kinds (one_kind x) k) ≡ true
some_kind (kind.Fixed len) k = ap (λ b. b || is_some k.bits || is_some k.chars || k.clock || k.span) (least_some len k.fixed)
some_kind (kind.Bits len) k =
    ap (λ b. is_some k.fixed || b || is_some k.chars || k.clock || k.span) (least_some len k.bits)
    ∙ ap (λ b. b || is_some k.chars || k.clock || k.span) (or_true (is_some k.fixed))
some_kind (kind.Chars len) k =
    ap (λ b. is_some k.fixed || is_some k.bits || b || k.clock || k.span) (least_some len k.chars)
    ∙ ap (λ b. b || k.clock || k.span) (or_true (is_some k.fixed || is_some k.bits))
some_kind kind.Clock k = ap (λ b. b || k.span) (or_true (is_some k.fixed || is_some k.bits || is_some k.chars))
some_kind kind.Span k = or_true (is_some k.fixed || is_some k.bits || is_some k.chars || k.clock)

pub no_kind_none : (slots : List Kind) → has_kind (kinds_among slots) ≡ false → slots ≡ []
no_kind_none [] h = refl
no_kind_none (x ∷ rest) h = absurd (true≢false (sym (some_kind x (kinds_among rest)) ∙ h))
