-- Behind a number of hours stand minutes or none, and then seconds or none.
use Rattle.std.proofs.Common.{◌≡◌, ◌+◌, ◌≤◌, Some, None, refl, true, ap, subst, sym, ◌∙◌, arith, rules}
use Rattle.pearl_tree.specs.declared.token.What.TheVariants as what
use Rattle.pearl_tree.specs.declared.word_code.TheConstants as w
use Rattle.pearl_tree.specs.Standing.{what_at}
use Rattle.pearl_tree.specs.Stops.{BeginAlike}
use Rattle.pearl_parse_expr.specs.Stops.{is_number}
use Rattle.pearl_parse_expr.proofs.Literals.{after_minutes}
use Rattle.pearl_tree.specs.Expressions.{SpellsSeconds, SpellsDuration}
use Rattle.pearl_parse_expr.proofs.Reaching.{goes_as}
use Rattle.pearl_parse_expr.proofs.Durations.{from_hours_reaches}
use Rattle.pearl_parse_expr.proofs.literal.from_hours.Goals as goal

pub returns-in-Some : goal.returns-in-Some
returns-in-Some c =
    let tokens = c.args.tokens.now in
    let from = c.args.from in
    let seconds = c.seconds_at in
    let far : from + 4 ≤ seconds.result.stop = omega (arith, seconds.ensures.reads.bounds) in
    let ends : from + 4 ≤ seconds.result.end = omega (arith, seconds.ensures.reads.bounds) in
    record {
      spells = search rules;
      longest = λ others agree x to h.
          let agreed : BeginAlike tokens others seconds.result.stop = subst (λ stop. BeginAlike tokens others stop)
          c.hours_of.ensures.stop agree in
          let hours_word : what_at others (from + 1) ≡ Some (what.Word w.HRS) =
          sym (agreed (from + 1) (omega arith)) ∙ c.requires.word in
          let number : is_number (what_at others (from + 2)) ≡ true =
          ap is_number (sym (agreed (from + 2) (omega arith)) ∙ c.in-Some.ensures.some.0.0) in
          let minutes_word : what_at others (from + 3) ≡ Some (what.Word w.MIN) =
          sym (agreed (from + 3) (omega arith)) ∙
          subst (λ k. what_at tokens k ≡ Some (what.Word w.MIN)) (omega arith) c.in-Some.ensures.some.1 in
          rw c.hours_of.ensures.end
          (after_minutes others from seconds.result.end ends hours_word number minutes_word
          (λ x to h. seconds.ensures.reads.longest others agreed x to h) x to h);
      ahead = search rules;
      refused = tt;
      least =
          rw (c.hours_of.ensures.end, c.hours_of.ensures.stop)
          (goes_as SpellsSeconds SpellsDuration tokens from (from + 4) seconds.result.end seconds.result.stop
          (λ r. from_hours_reaches tokens from (from + 4) seconds.result.stop c.args.hours (Some c.in-Some.minutes)
          c.requires.number c.requires.word
          (c.in-Some.ensures.some.0, c.in-Some.ensures.some.1, omega arith) (omega arith) far r)
          seconds.ensures.reads.least);
    }

pub returns-in-None : goal.returns-in-None
returns-in-None c =
    let tokens = c.args.tokens.now in
    let from = c.args.from in
    let seconds = c.seconds_at-in-None in
    let far : from + 2 ≤ seconds.result.stop = omega (arith, seconds.ensures.reads.bounds) in
    record {
      spells = search rules;
      longest = search rules;
      ahead = search rules;
      refused = tt;
      least =
          rw (c.hours_of-in-None.ensures.end, c.hours_of-in-None.ensures.stop)
          (goes_as SpellsSeconds SpellsDuration tokens from (from + 2) seconds.result.end seconds.result.stop
          (λ r. from_hours_reaches tokens from (from + 2) seconds.result.stop c.args.hours None
          c.requires.number c.requires.word
          refl (omega arith) far r)
          seconds.ensures.reads.least);
    }
