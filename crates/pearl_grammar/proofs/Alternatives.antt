-- A whole that is one of several kinds: a reader of one kind has come as far in the whole, once whatever begins alike is of
-- that kind, or none of the other kind does.
use Rattle.std.proofs.Common.{◌≡◌, ℕ, ◌≤◌, ◌⊎◌, inl, inr, Bool, List, Option, subst, arith}
use Rattle.pearl_tree.specs.declared.token.What.{What}
use Rattle.pearl_tree.specs.declared.token.Token.{Token}
use Rattle.pearl_tree.specs.Standing.{Spelling}
use Rattle.pearl_tree.specs.Stops.{BeginAlike}
use Rattle.pearl_parse_expr.specs.declared.reading.Halt.TheVariants.{Refused}
use Rattle.pearl_parse_expr.specs.Stops.{EndsEarly}
use Rattle.pearl_parse_expr.specs.Least.{ReachesIn}
use Rattle.pearl_parse_expr.proofs.Offered.{shorter}
use Rattle.pearl_grammar.specs.Rules.{Rule}
use Rattle.pearl_grammar.proofs.States.{State, elsewhere}
use Rattle.pearl_grammar.proofs.RuleFacts.{Left, Facts}
use Rattle.pearl_grammar.proofs.Walk.{Walk, Lacks}

-- those of one kind
abbrev pub OfKind : {X Y : Type 0} → (List Token → Spelling Y) → (X → Y) → List Token → Spelling X
OfKind whole kind tokens from x to = whole tokens from (kind x) to

reached : {X Y : Type 0} {room : ℕ} {whole : List Token → Spelling Y} {tokens : List Token} {from stop : ℕ} (kind : X → Y) →
    ReachesIn room (OfKind whole kind) tokens from stop → ReachesIn room whole tokens from stop
reached kind r = record {
  others = r.others;
  alike = r.alike;
  long = r.long;
  short = r.short;
  lawful = r.lawful;
  part = kind r.part;
  spelled = r.spelled;
}

module _ {X Y : Type 0} {room : ℕ} {whole : List Token → Spelling Y} {tokens : List Token} {from : ℕ} (kind : X → Y)
    {rule : Rule} {facts : Facts rule} {early : Option What → Bool} {at stop : ℕ}
    (a : Walk room (OfKind whole kind) tokens from 0 rule facts early at stop) where
  level : State room whole tokens from 0 (Left rule) at stop
  level = record {
    own = a.level.own;
    told = by a.level.told;
    is = a.level.is;
    comes = λ others alike to small h. let made = a.level.comes others alike to small h in (kind made.0, made.1);
    near = a.level.near;
    inside = a.level.inside;
    reach = a.level.reach;
    few = a.level.few;
    small = a.level.small;
  }
    where
      by : (a.level.own ≤ at) ⊎ ReachesIn room (OfKind whole kind) tokens from a.level.own →
          (a.level.own ≤ at) ⊎ ReachesIn room whole tokens from a.level.own
      by (inl e) = inl e
      by (inr r) = inr (reached kind r)

  -- whatever begins alike is of this kind
  pub of_one_kind : ((others : List Token) → BeginAlike tokens others stop → (y : Y) (to : ℕ) → whole others from y to →
      (x : X) × whole others from (kind x) to) → Walk room whole tokens from 0 rule facts early at stop
  of_one_kind only = record {
    goes = λ others agree y to h. let one = only others agree y to h in a.goes others agree one.0 to one.1;
    level = level;
    firm = a.firm;
    near = a.near;
    inside = a.inside;
  }

  -- none of the other kind does, up to a later token
  pub no_other_kind : {Z : Type 0} (other : Z → Y) {new : ℕ} → Lacks room (OfKind whole other) tokens from 0 (Refused new) →
      stop ≤ new → ((others : List Token) → BeginAlike tokens others new → (y : Y) (to : ℕ) → whole others from y to →
      ((x : X) × whole others from (kind x) to) ⊎ ((z : Z) × whole others from (other z) to)) →
      Walk room whole tokens from 0 rule facts early at new
  no_other_kind {Z} other {new} none later each = record {
    goes = λ others agree y to h. by others agree to (each others agree y to h);
    level = let same : none.least.0 ≡ new = omega (arith, none.least.4) in
        elsewhere room whole tokens from 0 (Left rule) at stop new level
        (subst (λ k. ReachesIn room whole tokens from k) same (reached other none.least.3)) (omega (arith, none.refused.3))
        (omega arith);
    firm = a.firm;
    near = omega (arith, a.near, later);
    inside = omega (arith, none.refused.3);
  }
    where
      by : (others : List Token) → BeginAlike tokens others new → (to : ℕ) →
          ((x : X) × whole others from (kind x) to) ⊎ ((z : Z) × whole others from (other z) to) →
          Left rule others at to ⊎ EndsEarly early others at to
      by others agree to (inl x) = a.goes others (shorter tokens others stop new later agree) x.0 to x.1
      by others agree to (inr z) = absurd (none.refused.0 others agree z.0 to z.1)
