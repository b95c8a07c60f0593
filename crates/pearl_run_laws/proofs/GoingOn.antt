-- A run that has ended goes on over further entries as the run over all of them.
use Rattle.std.proofs.Common.{◌≡◌, ℕ, zero, suc, ◌+◌, List, [], ◌++◌, Option, Some, None, refl, sym, ap, subst, ◌∙◌}
use Rattle.std.proofs.Common.{append-nil}
use Rattle.pearl_rules.specs.declared.entry.Entry.{Entry}
use Rattle.pearl_rules.specs.Core.{Core, Report, told_before}
use Rattle.pearl_rules.specs.Pick.{pick}
use Rattle.pearl_rules.specs.Runs.{Coming, next_mark, Engine, Machine, machine_offers, machine_next, machine_mark}
use Rattle.pearl_rules.specs.Runs.{machine_step_by, machine_step, machine_after, unsettled}
use Rattle.pearl_rules.specs.Laws.{machine_with_more}
use Rattle.pearl_run_laws.specs.GoingOn.{over, gone_on}
use Rattle.pearl_run_laws.specs.Laws.{RunsGoOn}
use Rattle.pearl_run_laws.proofs.Steps.{step_by, step_mark, after_after}
use Rattle.pearl_run_laws.proofs.Coming.{ComeAlike, ComesBefore, next_before, come_same}
use Rattle.pearl_run_laws.proofs.Alike.{earlier, same_pick, BothMake, Moves, Stays, mark_both, Before, AreAlike}
use Rattle.pearl_run_laws.proofs.Alike.{after_alike, stand_alike}

module _ {S : Type 0} (engine : Engine S) (more : List Entry) where
  -- some step of the whole run leads to this state with more to come
  abbrev IsOnTheWay : (whole part : Machine S) → Type 0
  IsOnTheWay whole part = (j : ℕ) × (machine_after engine whole j ≡ machine_with_more part more)

  -- one more step of both
  stepped_on : (whole part after : Machine S) → IsOnTheWay whole part →
      machine_step engine (machine_with_more part more) ≡ machine_with_more after more →
      IsOnTheWay whole after
  stepped_on whole part after way is = (suc way.0, ap (λ x. machine_step engine x) way.1 ∙ is)

  marked_on : (part : Machine S) (coming : Coming) (after later : Machine S) →
      BothMake [] part (part.entries ++ more) coming.rest (coming.rest ++ more) after later →
      later ≡ machine_with_more after more
  marked_on part coming after later (Moves is left) =
      is ∙ ap (λ es. let m : Machine S = record after { entries = es ++ more } in m) (sym left)
  marked_on part coming after later (Stays is same) = is ∙ ap (λ m. machine_with_more m more) (sym same)

  step_on : (whole part : Machine S) → IsOnTheWay whole part → IsOnTheWay whole (machine_step engine part)
  step_on whole part way = by_unsettled (unsettled part) refl
    where
      by_next : unsettled part ≡ None → (x : Option Coming) → machine_next part ≡ x →
          ComesBefore (pick part.core (machine_offers part)) more x (machine_next (machine_with_more part more)) →
          IsOnTheWay whole (machine_step engine part)
      by_next settled None none comes = rw (step_mark engine part None settled none) way
      by_next settled (Some coming) next comes =
          rw (step_mark engine part (Some coming) settled next)
          (stepped_on whole part (machine_mark engine part coming.mark coming.rest) way
          (step_mark engine (machine_with_more part more)
          (Some (record { mark = coming.mark; rest = coming.rest ++ more })) settled comes
          ∙ marked_on part coming _ _
          (mark_both engine [] part (part.entries ++ more) coming.rest (coming.rest ++ more) coming.mark)))

      by_unsettled : (x : Option (ℕ × S)) → unsettled part ≡ x → IsOnTheWay whole (machine_step engine part)
      by_unsettled None settled =
          by_next settled (machine_next part) refl
          (next_before (pick part.core (machine_offers part)) part.entries more)
      by_unsettled (Some x) is =
          rw (step_by engine part (Some x) is)
          (stepped_on whole part (machine_step_by engine part (Some x)) way
          (step_by engine (machine_with_more part more) (Some x) is))

  -- each state over the first entries comes on the way over all
  on_the_way : (m : Machine S) (es : List Entry) (n : ℕ) →
      IsOnTheWay (over m (es ++ more)) (machine_after engine (over m es) n)
  on_the_way m es zero = (0, refl)
  on_the_way m es (suc n) = step_on (over m (es ++ more)) (machine_after engine (over m es) n) (on_the_way m es n)

  -- where no mark comes any more, more entries are alike to those left with more behind them
  ended_alike : (last : Machine S) → unsettled last ≡ None → machine_next last ≡ None →
      AreAlike last.core.told (gone_on last more) (machine_with_more last more)
  ended_alike last settled none = record {
    entries = last.entries ++ more;
    is = ap telling (sym (append-nil last.core.told));
    alike = Before settled come;
  }
    where
      picked : Option ℕ
      picked = pick last.core (machine_offers last)

      untold : Core
      untold = record last.core { told = [] }

      telling : List (ℕ × Report) → Machine S
      telling told =
          record { core = record last.core { told = told }; running = last.running; entries = last.entries ++ more }

      left : next_mark picked (last.entries ++ more) ≡ next_mark picked more
      left =
          subst (λ x. ComesBefore picked more x (next_mark picked (last.entries ++ more))) none
          (next_before picked last.entries more)

      same : pick (told_before last.core.told untold) (machine_offers last) ≡ picked
      same = ap (λ told. pick (record last.core { told = told }) (machine_offers last)) (append-nil last.core.told)

      here : machine_next (gone_on last more) ≡ next_mark picked more
      here = ap (λ p. next_mark p more) (sym (same_pick last.core.told untold (machine_offers last)) ∙ same)

      there : machine_next (earlier last.core.told (gone_on last more) (last.entries ++ more)) ≡ next_mark picked more
      there = ap (λ p. next_mark p (last.entries ++ more)) same ∙ left

      come : ComeAlike (machine_next (gone_on last more))
          (machine_next (earlier last.core.told (gone_on last more) (last.entries ++ more)))
      come =
          subst (λ x. ComeAlike (machine_next (gone_on last more)) x) (here ∙ sym there)
          (come_same (machine_next (gone_on last more)))

pub runs_go_on : {S : Type 0} → RunsGoOn S
runs_go_on engine m es more n ends k =
    let last = machine_after engine (over m es) n in
    let way = on_the_way engine more m es n in
    let alike =
    after_alike last.core.told engine (gone_on last more) _
    (ended_alike engine more last ends.settled ends.no_mark) k in (
      way.0 + k,
      stand_alike last.core.told _ _
          (subst (λ x. AreAlike last.core.told (machine_after engine (gone_on last more) k) x)
          (sym (after_after engine (over m (es ++ more)) way.0 k ∙ ap (λ x. machine_after engine x k) way.1)) alike),
    )
