use Rattle.std.proofs.Common.{inl, inr, refl, sym, ap, ◌∙◌}
use Rattle.pearl_names.specs.Leaps.{joined_leaps}
use Rattle.pearl_names.proofs.types.far_leap.Goals as goal

pub returns-in-None : goal.returns-in-None
returns-in-None c = inl refl

pub returns-in-None-begun_at : goal.returns-in-None-begun_at
returns-in-None-begun_at c = inl refl

pub returns-then-near-next : goal.returns-then-near-next
returns-then-near-next c = inl refl

pub returns : goal.returns
returns c = inr (record {
  two = record {
    near = c.in-Some.near;
    next = c.in-Some-begun_at.next;
    near_is = sym c.begun_at.ensures ∙ c.in-Some.is;
    next_is = sym c.begun_at-2.ensures ∙ c.in-Some-begun_at.is;
  };
  is = c.joined_leaps-2.ensures ∙ ap (joined_leaps c.args.one) c.joined_leaps.ensures;
})
