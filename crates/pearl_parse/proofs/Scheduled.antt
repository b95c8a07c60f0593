-- Statements that may begin with a time: one rule over all three of them, by their first words. Each of these statements
-- is spelled by it, and what it spells makes one.
use Rattle.std.proofs.Common.{◌≡◌, ℕ, ◌+◌, Bool, true, false, List, Option, Some, None, T, eqb, refl, ap, subst, arith}
use Rattle.pearl_tree.specs.declared.statement.PeriodEnd.{PeriodEnd}
use Rattle.pearl_tree.specs.declared.statement.PeriodEnd.TheVariants.{Until, During}
use Rattle.pearl_tree.specs.declared.statement.Period.{Period}
use Rattle.pearl_tree.specs.declared.statement.Start.{Start}
use Rattle.pearl_tree.specs.declared.statement.Start.TheVariants as start
use Rattle.pearl_tree.specs.declared.statement.Once.{Once}
use Rattle.pearl_tree.specs.declared.statement.Once.TheVariants as once
use Rattle.pearl_tree.specs.declared.statement.Stmt.{Stmt, Activate, Continue, Resume}
use Rattle.pearl_tree.specs.declared.token.What.TheVariants as what
use Rattle.pearl_tree.specs.declared.token.Token.{Token}
use Rattle.pearl_tree.specs.Tokens.{IsLawfulWhat}
use Rattle.pearl_tree.specs.Standing.{what_at, IsAt, HasWord, SpellsMaybe}
use Rattle.pearl_tree.specs.Statements.{SpellsAfter, SpellsPeriodEnd, SpellsPeriod, SpellsStart, SpellsOnce, SpellsStmt}
use Rattle.pearl_tree.specs.declared.word_code.TheConstants as w
use Rattle.pearl_parse_expr.specs.Stops.{extends_expression, is_word}
use Rattle.pearl_parse_expr.proofs.Offered.{boxed, placed}
use Rattle.pearl_grammar.specs.Rules.{First, Second, Maybe, Rule, Then, Or, Spells, word}
use Rattle.pearl_grammar.specs.Declarations.{id, close}
use Rattle.pearl_grammar.specs.Statements as rule
use Rattle.pearl_grammar.specs.Statements.{activation_rule, begun_rule, station}
use Rattle.pearl_grammar.proofs.Offered as fact
use Rattle.pearl_grammar.proofs.Offered.{Left, Facts, Makes, activate_facts, continue_facts, resume_facts, activate_said}
use Rattle.pearl_grammar.proofs.Offered.{continue_said, resume_said}
use Rattle.pearl_parse.specs.Schedules.{begins_end, time_word, SpellsOptionalEnd, SpellsLongPeriod, SpellsOptionalPeriod}
use Rattle.pearl_parse.specs.Schedules.{SpellsActivated, SpellsBeginning}
use Rattle.pearl_parse.specs.declared.tasking.Activation.{Activation}
use Rattle.pearl_parse.specs.declared.tasking.Begun.{Begun}
use Rattle.pearl_parse.proofs.ByFirst.{group}

-- ---- the rule

-- behind a time
abbrev pub on_time : Rule → Rule
on_time begin = Or (word w.CONTINUE station) (Or (word w.RESUME close) begin)

abbrev pub time_rule : Bool → Rule
time_rule later = Then (rule.after (time_word later)) (on_time begun_rule)

-- [ AFTER expr ] [ all ] ACTIVATE id [ PRIO expr ] ";"
abbrev pub late_rule : Rule
late_rule = Then (Maybe (rule.after w.AFTER)) begun_rule

abbrev pub when_rule : Rule
when_rule = word w.WHEN (Then id (on_time late_rule))

abbrev pub periodic_rule : Rule
periodic_rule = Then rule.period activation_rule

abbrev pub scheduled_rule : Rule
scheduled_rule = Or (time_rule false) (Or (time_rule true) (Or when_rule (Or periodic_rule
    (Or activation_rule (word w.CONTINUE station)))))

abbrev pub activation_facts : Facts activation_rule
activation_facts = activate_facts.1

abbrev pub begun_facts : Facts begun_rule
begun_facts = (fact.period, activation_facts)

abbrev pub on_time_facts : (begin : Rule) → Facts begin → Facts (on_time begin)
on_time_facts begin facts = (continue_facts.1, (resume_facts.1, facts))

pub time_known : (later : Bool) → IsLawfulWhat (what.Word (time_word later))
time_known true = omega arith
time_known false = omega arith

abbrev pub time_facts : (later : Bool) → Facts (time_rule later)
time_facts later = (fact.after (time_word later) (time_known later), on_time_facts begun_rule begun_facts)

abbrev pub late_facts : Facts late_rule
late_facts = (fact.after w.AFTER (omega arith), begun_facts)

abbrev pub when_facts : Facts when_rule
when_facts = (omega arith, (fact.id, on_time_facts late_rule late_facts))

abbrev pub periodic_facts : Facts periodic_rule
periodic_facts = (fact.period, activation_facts)

abbrev pub scheduled_facts : Facts scheduled_rule
scheduled_facts = (time_facts false, (time_facts true, (when_facts, (periodic_facts, (activation_facts, continue_facts.1)))))

-- ---- what spells one of the statements

module _ (others : List Token) (from to : ℕ) where
  started : (x : Option Start) (m : ℕ) → SpellsMaybe (SpellsStart others) from x m → Left activation_rule others m to →
      Left scheduled_rule others from to
  started None m h (y, g) =
      (Second (Second (Second (Second (First y)))), subst (λ k. Spells activation_rule others k y to) h g)
  started (Some (start.At x u place)) m h (y, g) = (First (x, Second (Second (u, y))), (h.0, h.2, (m, h.3, g)))
  started (Some (start.After x u place)) m h (y, g) =
      (Second (First (x, Second (Second (u, y)))), (h.0, h.2, (m, h.3, g)))
  started (Some (start.When name x u place)) m h (y, g) =
      let two : from + 2 ≡ from + 1 + 1 = omega arith in
      let late = subst (λ k. SpellsMaybe (SpellsAfter others w.AFTER) k x h.0) two h.4 in (
        Second (Second (First (name, Second (Second (x, (u, y)))))),
        (h.2, (from + 1 + 1, (h.3, refl), (h.0, late, (m, h.5, g)))),
      )
  started (Some (start.All u)) m h (y, g) = (Second (Second (Second (First (u, y)))), (m, h, g))

  once_stands : (a : Once) (m : ℕ) → SpellsOnce others from a m →
      ((begin : Rule) → Left (on_time begin) others m to) → Left scheduled_rule others from to
  once_stands (once.At x place) m h go = let rest = go begun_rule in (First (x, rest.0), (m, h.1, rest.1))
  once_stands (once.After x place) m h go =
      let rest = go begun_rule in (Second (First (x, rest.0)), (m, h.1, rest.1))
  once_stands (once.When name place) m h go =
      let rest = go late_rule in
      let two : m ≡ from + 1 + 1 = omega (arith, h.3) in
      (Second (Second (First (name, rest.0))), (h.1, (m, (h.2, two), rest.1)))

  continued : (x : Option Once) (m : ℕ) → SpellsMaybe (SpellsOnce others) from x m →
      Left (word w.CONTINUE station) others m to → Left scheduled_rule others from to
  continued None m h (y, g) =
      (Second (Second (Second (Second (Second y)))), subst (λ k. Spells (word w.CONTINUE station) others k y to) h g)
  continued (Some a) m h (y, g) = once_stands a m h (λ begin. (First y, g))

pub scheduled : (others : List Token) (depth from : ℕ) (a : Stmt) (to : ℕ) → T (eqb (group a) 9) →
    SpellsStmt others depth from a to → Left scheduled_rule others from to
scheduled others depth from (Activate part) to e h =
    let g = (activate_said depth others from part to).0 h in
    started others from to part.value.start g.1.0 g.1.1 ((part.value.task, (part.value.priority, tt)), g.1.2)
scheduled others depth from (Continue part) to e h =
    let g = (continue_said depth others from part to).0 h in
    continued others from to part.value.once g.1.0 g.1.1 ((part.value.task, tt), g.1.2)
scheduled others depth from (Resume part) to e h =
    let g = (resume_said depth others from part to).0 h in
    once_stands others from to part.value.once g.1.0 g.1.1 (λ begin. (Second (First tt), g.1.2))
scheduled others depth from a to e h = absurd e

-- ---- what is made

module _ (depth : ℕ) (others : List Token) (from to : ℕ) where
  abbrev Made : Type 0
  Made = (a : Stmt) × SpellsStmt others depth from a to

  activated : (x : Option Start) (m place : ℕ) → IsAt others from place → SpellsMaybe (SpellsStart others) from x m →
      Left activation_rule others m to → Made
  activated x m place at h (y, g) =
      let part = boxed (record { start = x; task = y.0; priority = y.1.0; place = place }) in
      (Activate part, (activate_said depth others from part to).1 (at, (m, h, g)))

  gone_on : (x : Option Once) (m place : ℕ) → IsAt others from place → SpellsMaybe (SpellsOnce others) from x m →
      Left (word w.CONTINUE station) others m to → Made
  gone_on x m place at h (y, g) =
      let part = boxed (record { once = x; task = y.0; place = place }) in
      (Continue part, (continue_said depth others from part to).1 (at, (m, h, g)))

  on_time_made : (begin : Rule) (a : Once) (m place : ℕ) → IsAt others from place → SpellsOnce others from a m →
      (Left begin others m to → Made) → Left (on_time begin) others m to → Made
  on_time_made begin a m place at h go (First y, g) = gone_on (Some a) m place at h (y, g)
  on_time_made begin a m place at h go (Second (First y), g) =
      let part = boxed (record { once = a; place = place }) in
      (Resume part, (resume_said depth others from part to).1 (at, (m, h, g)))
  on_time_made begin a m place at h go (Second (Second y), g) = go (y, g)

  by_rule : Left scheduled_rule others from to → Made
  by_rule (First (x, y), h) =
      let at = placed others from (what.Word w.AT) h.1.0 in
      on_time_made begun_rule (once.At x at.0) h.0 at.0 at.1 (at.1, h.1)
      (λ g. activated (Some (start.At x g.0.0 at.0)) g.1.0 at.0 at.1 (h.0, at.1, h.1, g.1.1) (g.0.1, g.1.2)) (y, h.2)
  by_rule (Second (First (x, y)), h) =
      let at = placed others from (what.Word w.AFTER) h.1.0 in
      on_time_made begun_rule (once.After x at.0) h.0 at.0 at.1 (at.1, h.1)
      (λ g. activated (Some (start.After x g.0.0 at.0)) g.1.0 at.0 at.1 (h.0, at.1, h.1, g.1.1) (g.0.1, g.1.2)) (y, h.2)
  by_rule (Second (Second (First (name, y))), h) =
      let at = placed others from (what.Word w.WHEN) h.0 in
      let behind = h.1 in
      let two : behind.0 ≡ from + 2 = omega (arith, behind.1.1) in
      on_time_made late_rule (once.When name at.0) behind.0 at.0 at.1 (at.1, h.0, behind.1.0, two)
      (λ g.
      let begun = g.1.2 in
      let late = subst (λ k. SpellsMaybe (SpellsAfter others w.AFTER) k g.0.0 g.1.0) two g.1.1 in
      activated (Some (start.When name g.0.0 g.0.1.0 at.0)) begun.0 at.0 at.1
      (g.1.0, at.1, h.0, behind.1.0, late, begun.1) (g.0.1.1, begun.2)) (y, behind.2)
  by_rule (Second (Second (Second (First (u, y)))), h) =
      activated (Some (start.All u)) h.0 u.place h.1.1 h.1 (y, h.2)
  by_rule (Second (Second (Second (Second (First y)))), h) =
      let at = placed others from (what.Word w.ACTIVATE) h.0 in activated None from at.0 at.1 refl (y, h)
  by_rule (Second (Second (Second (Second (Second y)))), h) =
      let at = placed others from (what.Word w.CONTINUE) h.0 in gone_on None from at.0 at.1 refl (y, h)

pub scheduled_made : (depth : ℕ) → Makes (λ tokens. SpellsStmt tokens depth) (Left scheduled_rule)
scheduled_made depth others from to small h = by_rule depth others from to h

-- ---- periods, as what stands behind them tells

module _ (others : List Token) where
  optional_end : (m : ℕ) (x : Option PeriodEnd) (to : ℕ) → SpellsMaybe (SpellsPeriodEnd others) m x to →
      HasWord others to w.ACTIVATE →
      (extends_expression (what_at others m) ≡ false) × SpellsOptionalEnd others m x to
  optional_end m None to h i =
      let here = subst (λ k. HasWord others k w.ACTIVATE) h i in
      (ap extends_expression here, (h, ap begins_end here))
  optional_end m (Some (Until x p)) to h i = (ap extends_expression h.1.0, h)
  optional_end m (Some (During x p)) to h i = (ap extends_expression h.1.0, h)

  pub long_period : (x : Period) (m k to : ℕ) → SpellsPeriod others m x k → Left activation_rule others k to →
      (y : Period) × SpellsLongPeriod others m y k
  long_period x m k to h g = let last = optional_end h.0 x.end k h.3 g.1.0 in (x, (h.0, h.1, h.2, last.0, last.1))

  pub optional_period : (x : Option Period) (m k to : ℕ) → SpellsMaybe (SpellsPeriod others) m x k →
      Left activation_rule others k to → (y : Option Period) × SpellsOptionalPeriod others m y k
  optional_period None m k to h g =
      (None, (h, ap (is_word w.ALL) (subst (λ k. HasWord others k w.ACTIVATE) h g.1.0)))
  optional_period (Some x) m k to h g = let long = long_period x m k to h g in (Some long.0, long.1)

-- ---- what was read, as the rule has it

module _ (tokens : List Token) (from : ℕ) where
  pub activated_parts : (x : Activation) (to : ℕ) → SpellsActivated tokens from x to →
      Spells activation_rule tokens from (x.task, (x.priority, tt)) to
  activated_parts x to h =
      let two : from + 2 ≡ from + 1 + 1 = omega arith in
      let priority = subst (λ k. SpellsMaybe (SpellsAfter tokens w.PRIO) k x.priority h.0) two h.3 in
      (h.1, (from + 1 + 1, (h.2, refl), (h.0, priority, (h.4, h.5))))

pub begun_parts : (tokens : List Token) (from : ℕ) (x : Begun) (to : ℕ) → SpellsBeginning tokens from x to →
    Spells begun_rule tokens from (x.period, (x.activation.task, (x.activation.priority, tt))) to
begun_parts tokens from x to h = (h.0, h.1, activated_parts tokens h.0 x.activation to h.2)
