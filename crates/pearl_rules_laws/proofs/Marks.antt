-- Which marks a journal's lines make.
use Rattle.std.proofs.Common.{◌≡◌, ℕ, suc, ◌+◌, List, [], ◌∷◌, Option, Some, None, refl, sym, ap, ap₂, ◌∙◌, arith}
use Rattle.pearl_rules.specs.declared.entry.Entry.{Entry}
use Rattle.pearl_rules.specs.declared.entry.Entry.TheVariants.{Run, Turn, State}
use Rattle.pearl_rules.specs.Pick.{pick}
use Rattle.pearl_rules.specs.Runs.{Acts, Turns, Tells, next_mark, Supplier, Source, source_offers, source_next}

module _ (offer : Supplier) (s : Source) where
  pub run_acts : (n t : ℕ) (rest : List Entry) → s.entries ≡ Run (n + 1) ∷ rest →
      pick s.core (source_offers offer s) ≡ Some t →
      source_next offer s ≡ Some (record { mark = Acts t; rest = Run n ∷ rest })
  run_acts n t rest here chosen =
      let more : n + 1 ≡ suc n = omega arith in
      ap₂ next_mark chosen (here ∙ ap (λ k. Run k ∷ rest) more)

  pub run_done : (rest : List Entry) → s.entries ≡ Run 0 ∷ rest →
      source_next offer s ≡ source_next offer (record s { entries = rest })
  run_done rest here =
      ap (λ es. next_mark (pick s.core (source_offers offer s)) es) here ∙ by_pick (pick s.core (source_offers offer s))
    where
      by_pick : (chosen : Option ℕ) → next_mark chosen (Run 0 ∷ rest) ≡ next_mark chosen rest
      by_pick None = refl
      by_pick (Some t) = refl

  pub run_idle : (n : ℕ) (rest : List Entry) → s.entries ≡ Run n ∷ rest → pick s.core (source_offers offer s) ≡ None →
      source_next offer s ≡ source_next offer (record s { entries = rest })
  run_idle n rest here nobody = ap₂ next_mark nobody here ∙ ap (λ chosen. next_mark chosen rest) (sym nobody)

  pub turn_marks : (t : ℕ) (rest : List Entry) → s.entries ≡ Turn t ∷ rest →
      source_next offer s ≡ Some (record { mark = Turns t; rest = rest })
  turn_marks t rest here = ap (λ es. next_mark (pick s.core (source_offers offer s)) es) here

  pub state_marks : (rest : List Entry) → s.entries ≡ State ∷ rest →
      source_next offer s ≡ Some (record { mark = Tells; rest = rest })
  state_marks rest here = ap (λ es. next_mark (pick s.core (source_offers offer s)) es) here

  pub end_marks : s.entries ≡ [] → source_next offer s ≡ None
  end_marks none = ap (λ es. next_mark (pick s.core (source_offers offer s)) es) none
