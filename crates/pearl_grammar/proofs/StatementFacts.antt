-- The productions of statements that hold no others: the facts of their parts, and what follows.
use Rattle.std.proofs.Common.{◌≡◌, ℕ, zero, suc, ◌+◌, ◌<◌, ◌≤◌, ◌^◌, inl, inr, List, [], ◌∷◌, length, Some, None, refl, ap}
use Rattle.std.proofs.Common.{◌∙◌, arith}
use Rattle.std.specs.Option.{option_map}
use Rattle.pearl_tree.specs.Tokens.{IsLawfulWhat}
use Rattle.pearl_tree.specs.declared.token.What.{What}
use Rattle.pearl_tree.specs.declared.token.What.TheVariants as what
use Rattle.pearl_tree.specs.declared.token.Token.{Token}
use Rattle.pearl_tree.specs.declared.limit.TheConstants as limit
use Rattle.pearl_tree.specs.declared.symbol.TheConstants as s
use Rattle.pearl_tree.specs.declared.word_code.TheConstants as w
use Rattle.pearl_tree.specs.declared.expression.Expr.{Expr, Operand', Dyadic'}
use Rattle.pearl_tree.specs.declared.expression.Expr as tree
use Rattle.pearl_tree.specs.declared.expression.Primary as primary
use Rattle.pearl_tree.specs.declared.statement.TaskWord.{TaskWord}
use Rattle.pearl_tree.specs.declared.statement.TaskWord.TheVariants.{Suspend, Terminate, Prevent}
use Rattle.pearl_tree.specs.declared.statement.SemaWord.{SemaWord}
use Rattle.pearl_tree.specs.declared.statement.SemaWord.TheVariants.{Request, Release}
use Rattle.pearl_tree.specs.declared.statement.InterruptWord.{InterruptWord}
use Rattle.pearl_tree.specs.declared.statement.InterruptWord.TheVariants.{Enable, Disable, Trigger}
use Rattle.pearl_tree.specs.declared.statement.BodyDecl.{BodyDecl}
use Rattle.pearl_tree.specs.declared.statement.PeriodEnd.{PeriodEnd}
use Rattle.pearl_tree.specs.declared.statement.PeriodEnd.TheVariants.{Until, During}
use Rattle.pearl_tree.specs.declared.statement.Start.{Start}
use Rattle.pearl_tree.specs.declared.statement.Start.TheVariants as start_tree
use Rattle.pearl_tree.specs.declared.statement.Once.{Once}
use Rattle.pearl_tree.specs.declared.statement.Once.TheVariants as once_tree
use Rattle.pearl_tree.specs.declared.statement.Stmt.{Stmt, Empty, Exit, Assign, Call, Return, Activate, Continue, Resume, OnTask}
use Rattle.pearl_tree.specs.declared.statement.Stmt.{OnSemas, OnInterrupt, Put, Get, Send, Take}
use Rattle.pearl_tree.specs.declared.format.FreeCode.TheVariants.{A}
use Rattle.pearl_tree.specs.declared.format.Fmt.TheVariants.{Free, Wide}
use Rattle.pearl_tree.specs.Standing.{Spelling, what_at, IsAt, SpellsBracketedNumber}
use Rattle.pearl_tree.specs.Formats.{free_text, wide_text, SpellsFmt}
use Rattle.pearl_tree.specs.Declarations.{SpellsItem}
use Rattle.pearl_tree.specs.Expressions.{SpellsWhole, SpellsOwnRef, SpellsTerms}
use Rattle.pearl_tree.specs.Statements.{task_word, sema_word, interrupt_word, SpellsAfter, SpellsValue, SpellsPeriodEnd}
use Rattle.pearl_tree.specs.Statements.{SpellsPeriod, SpellsStart, SpellsOnce, SpellsMaybeList, SpellsFor, SpellsBodyDecl}
use Rattle.pearl_tree.specs.Statements.{SpellsStmt}
use Rattle.pearl_tree.specs.Stops.{BeginAlike}
use Rattle.pearl_parse_expr.proofs.Offered as local
use Rattle.pearl_parse_expr.proofs.Offered.{Kept, parts_of, boxed, token_of, after_of, list_long, letter_token, letter_lawful}
use Rattle.pearl_grammar.specs.Rules.{First, Second, Rule, Held, Spells, SpellsOneWord}
use Rattle.pearl_grammar.specs.Laws.{AreSaid}
use Rattle.pearl_grammar.specs.Reached.{never}
use Rattle.pearl_grammar.specs.Statements as rule
use Rattle.pearl_grammar.proofs.Joins.{maybe_keeps, maybe_list_long, maybe_bracketed_long}
use Rattle.pearl_grammar.proofs.Rests.{Ends, Makes, ends_fill, fills_token}
use Rattle.pearl_grammar.proofs.Tokens.{AWord, ASymbol, AnId, AnyToken, Among, Leads}
use Rattle.pearl_grammar.proofs.RuleFacts.{Left, Leaf, Facts, IsFirm, least_of}
use Rattle.pearl_grammar.proofs.Walk.{Walk}
use Rattle.pearl_grammar.proofs.Alternatives.{OfKind, of_one_kind}
use Rattle.pearl_grammar.proofs.Leaves as leaf
use Rattle.pearl_grammar.proofs.DeclarationFacts.{close_facts, bracketed_number}
use Rattle.pearl_grammar.proofs.TypeFacts.{item}
use Rattle.pearl_grammar.proofs.Said as said
use Rattle.pearl_grammar.proofs.Productions as production

-- ---- expressions

stands : (others : List Token) (from place : ℕ) → IsAt others from place → (here : What) × (what_at others from ≡ Some here)
stands [] from place h = cc
stands (x ∷ xs) zero place h = (x.what, refl)
stands (x ∷ xs) (suc k) place h = stands xs k place h

terms_stand : (others : List Token) (depth from : ℕ) (x : Expr) (to : ℕ) → SpellsTerms others depth from x to →
    (here : What) × (what_at others from ≡ Some here)
terms_stand others depth from (Operand' monadics part place) to h = stands others from place h.1
terms_stand others depth from (Dyadic' _ left dyadic _ right place) to h = stands others from place h.1

pub expr_leads : Leads SpellsWhole (AnyToken ∷ [])
expr_leads others from x to h = inr (inl (terms_stand others limit.BRACKETS_MAX from x to h.0))

-- NOW, where one is missing
abbrev pub expression : Leaf SpellsWhole
expression = record {
  least = 1;
  kept = leaf.expr_keeps limit.BRACKETS_MAX;
  fill = 1;
  fills = fills_token 0 Ends ends_fill (token_of (what.Word w.NOW)) (λ others at to. (x : _) × SpellsWhole others at x to)
      (omega arith)
      (λ others k to here h.
      let word = ap (option_map (λ token. token.what)) here in
      let at = ap (option_map (λ token. token.place)) here in (
        tree.Operand (record { monadics = parts_of [] (omega arith); primary = primary.Now 0; place = 0 }),
        ((k, at, omega arith, refl, (at, word, h)), omega arith),
      ));
  firsts = AnyToken ∷ [];
  leads = expr_leads;
}

-- ---- values and times

module _ (code : ℕ) (known : IsLawfulWhat (what.Word code)) where
  abbrev pub after_facts : Facts (rule.after_rule code)
  after_facts = (known, (expression, tt))

  abbrev pub after : Leaf (λ tokens. SpellsAfter tokens code)
  after = production.whole_leaf (λ tokens. SpellsAfter tokens code) (rule.after_rule code) (rule.after_parts code)
      (said.after_said code) after_facts tt (λ h. h.0) (λ h. refl)

abbrev pub value_facts : Facts rule.value_rule
value_facts = (omega arith, (expression, (omega arith, tt)))

abbrev pub value : Leaf SpellsValue
value = production.whole_leaf SpellsValue rule.value_rule rule.value_parts said.value_said value_facts tt (λ h. h.0)
    (λ h. refl)

pub value_start : production.Start 16 SpellsValue rule.value_rule value_facts
value_start = production.whole_starts SpellsValue rule.value_rule rule.value_parts said.value_said value_facts tt
    (λ h. h.0) (λ h. refl) 16 (omega arith)

abbrev pub period_end_facts : Facts rule.period_end_rule
period_end_facts = ((after w.UNTIL (omega arith), tt), (after w.DURING (omega arith), tt))

pub period_end_firm : IsFirm rule.period_end_rule period_end_facts
period_end_firm = ((omega arith, tt), (omega arith, tt))

pub period_end_of : Held rule.period_end_rule → PeriodEnd
period_end_of (First h) = Until h.1.0 h.0
period_end_of (Second h) = During h.1.0 h.0

pub period_end_same : (h : Held rule.period_end_rule) → rule.period_end_parts (period_end_of h) ≡ h
unfolding period_end_of
period_end_same (First h) = refl
period_end_same (Second h) = refl

abbrev pub period_end : Leaf SpellsPeriodEnd
period_end = production.whole_leaf SpellsPeriodEnd rule.period_end_rule rule.period_end_parts said.period_end_said
    period_end_facts period_end_firm period_end_of period_end_same

abbrev pub period_facts : Facts rule.period_rule
period_facts = (after w.ALL (omega arith), (period_end, tt))

pub period_firm : IsFirm rule.period_rule period_facts
period_firm = (omega arith, tt)

abbrev pub period : Leaf SpellsPeriod
period = production.whole_leaf SpellsPeriod rule.period_rule rule.period_parts said.period_said period_facts period_firm
    (λ h. record { place = h.0; duration = h.1.0; end = h.1.1.0 }) (λ h. refl)

abbrev pub start_facts : Facts rule.start_rule
start_facts = (
  (after w.AT (omega arith), (period, tt)),
  (
    (after w.AFTER (omega arith), (period, tt)),
    ((omega arith, (leaf.id, (after w.AFTER (omega arith), (period, tt)))), (period, tt)),
  ),
)

pub start_firm : IsFirm rule.start_rule start_facts
start_firm = ((omega arith, tt), ((omega arith, tt), ((omega arith, tt), tt)))

pub start_of : Held rule.start_rule → Start
start_of (First h) = start_tree.At h.1.0 h.1.1.0 h.0
start_of (Second (First h)) = start_tree.After h.1.0 h.1.1.0 h.0
start_of (Second (Second (First h))) = start_tree.When h.1.0 h.1.1.0 h.1.1.1.0 h.0
start_of (Second (Second (Second h))) = start_tree.All h.0

pub start_same : (h : Held rule.start_rule) → rule.start_parts (start_of h) ≡ h
unfolding start_of
start_same (First h) = refl
start_same (Second (First h)) = refl
start_same (Second (Second (First h))) = refl
start_same (Second (Second (Second h))) = refl

abbrev pub start : Leaf SpellsStart
start = production.whole_leaf SpellsStart rule.start_rule rule.start_parts said.start_said start_facts start_firm start_of
    start_same

abbrev pub once_facts : Facts rule.once_rule
once_facts = (
  (after w.AT (omega arith), tt),
  ((after w.AFTER (omega arith), tt), (omega arith, (leaf.id, tt))),
)

pub once_firm : IsFirm rule.once_rule once_facts
once_firm = ((omega arith, tt), ((omega arith, tt), (omega arith, tt)))

pub once_of : Held rule.once_rule → Once
once_of (First h) = once_tree.At h.1.0 h.0
once_of (Second (First h)) = once_tree.After h.1.0 h.0
once_of (Second (Second h)) = once_tree.When h.1.0 h.0

pub once_same : (h : Held rule.once_rule) → rule.once_parts (once_of h) ≡ h
unfolding once_of
once_same (First h) = refl
once_same (Second (First h)) = refl
once_same (Second (Second h)) = refl

abbrev pub once : Leaf SpellsOnce
once = production.whole_leaf SpellsOnce rule.once_rule rule.once_parts said.once_said once_facts once_firm once_of once_same

-- ---- `:=` or `=`

pub becomes_keeps : Kept 1 rule.SpellsBecomes
becomes_keeps tokens others k alike from x to (inl h, same) near =
    (omega (arith, same), (inl (local.what tokens others k alike from (omega (arith, same)) ∙ h), same))
becomes_keeps tokens others k alike from x to (inr h, same) near =
    (omega (arith, same), (inr (local.what tokens others k alike from (omega (arith, same)) ∙ h), same))

pub becomes_leads : Leads rule.SpellsBecomes (ASymbol s.BECOMES ∷ ASymbol s.EQUALS_SIGN ∷ [])
becomes_leads others from x to (inl h, same) = inr (inl h)
becomes_leads others from x to (inr h, same) = inr (inr (inl h))

abbrev pub becomes : Leaf rule.SpellsBecomes
becomes = record {
  least = 1;
  kept = becomes_keeps;
  fill = 1;
  fills = fills_token 0 Ends ends_fill (token_of (what.Symbol s.BECOMES))
      (λ others at to. (x : _) × rule.SpellsBecomes others at x to) (omega arith)
      (λ others k to here h. (tt, (inl (ap (option_map (λ token. token.what)) here), h)));
  firsts = ASymbol s.BECOMES ∷ ASymbol s.EQUALS_SIGN ∷ [];
  leads = becomes_leads;
}

-- ---- items of formats

pub fmt_keeps : Kept 1 SpellsFmt
fmt_keeps tokens others k alike from (Free code width at) to h near =
    let rest = maybe_keeps tokens others k alike 3 SpellsBracketedNumber (bracketed_number.kept tokens others k alike)
    (from + 1) width to h.2 near in
    let below : from < k = omega (arith, rest.0) in (
      omega (arith, rest.0),
      (local.place tokens others k alike from below ∙ h.0, local.what tokens others k alike from below ∙ h.1, rest.1),
    )
fmt_keeps tokens others k alike from (Wide code width at) to h near =
    let rest = bracketed_number.kept tokens others k alike (from + 1) width to h.2 near in
    let below : from < k = omega (arith, rest.0) in (
      omega (arith, rest.0),
      (local.place tokens others k alike from below ∙ h.0, local.what tokens others k alike from below ∙ h.1, rest.1),
    )

pub fmt_leads : Leads SpellsFmt (AnId ∷ [])
fmt_leads others from (Free code width at) to h = inr (inl (record { text = record { items = free_text code }; place = at }, h.1))
fmt_leads others from (Wide code width at) to h = inr (inl (record { text = record { items = wide_text code }; place = at }, h.1))

-- A, where one is missing
abbrev pub fmt : Leaf SpellsFmt
fmt = record {
  least = 1;
  kept = fmt_keeps;
  fill = 1;
  fills = fills_token 0 Ends ends_fill (letter_token 65) (λ others at to. (x : _) × SpellsFmt others at x to)
      (letter_lawful 65 (inl (omega arith, omega arith)))
      (λ others k to here h. (
        Free A None 0,
        (ap (option_map (λ token. token.place)) here, ap (option_map (λ token. token.what)) here, h),
      ));
  firsts = AnId ∷ [];
  leads = fmt_leads;
}

-- ---- words

pub of_tasks : (x : TaskWord) → Among (AWord w.SUSPEND ∷ AWord w.TERMINATE ∷ AWord w.PREVENT ∷ [])
    (Some (what.Word (task_word x)))
of_tasks Suspend = inl refl
of_tasks Terminate = inr (inl refl)
of_tasks Prevent = inr (inr (inl refl))

abbrev pub task : Leaf (SpellsOneWord task_word)
task = leaf.one_word task_word Suspend (omega arith) (AWord w.SUSPEND ∷ AWord w.TERMINATE ∷ AWord w.PREVENT ∷ []) of_tasks

pub of_semas : (x : SemaWord) → Among (AWord w.REQUEST ∷ AWord w.RELEASE ∷ []) (Some (what.Word (sema_word x)))
of_semas Request = inl refl
of_semas Release = inr (inl refl)

abbrev pub semas : Leaf (SpellsOneWord sema_word)
semas = leaf.one_word sema_word Request (omega arith) (AWord w.REQUEST ∷ AWord w.RELEASE ∷ []) of_semas

pub of_interrupts : (x : InterruptWord) → Among (AWord w.ENABLE ∷ AWord w.DISABLE ∷ AWord w.TRIGGER ∷ [])
    (Some (what.Word (interrupt_word x)))
of_interrupts Enable = inl refl
of_interrupts Disable = inr (inl refl)
of_interrupts Trigger = inr (inr (inl refl))

abbrev pub interrupt : Leaf (SpellsOneWord interrupt_word)
interrupt = leaf.one_word interrupt_word Enable (omega arith) (AWord w.ENABLE ∷ AWord w.DISABLE ∷ AWord w.TRIGGER ∷ [])
    of_interrupts

-- ---- statements

-- a reader of statements of one kind begins
abbrev pub Starts : {X : Type 0} → (X → Stmt) → (rule : Rule) → Facts rule → Type 0
Starts kind rule facts = (depth : ℕ) → production.Start 24 (OfKind (λ tokens. SpellsStmt tokens depth) kind) rule facts

-- where each statement that begins as the tokens do is of one kind, a reader of statements begins so
abbrev pub Begins : {X : Type 0} → (X → Stmt) → (rule : Rule) → Facts rule → Type 0
Begins {X} kind rule facts =
    (depth : ℕ) (tokens : List Token) (from : ℕ) → from ≤ length tokens → length tokens < 2 ^ 55 →
    ((others : List Token) → BeginAlike tokens others from → (a : Stmt) (to : ℕ) → SpellsStmt others depth from a to →
    (x : X) × SpellsStmt others depth from (kind x) to) →
    Walk 24 (λ tokens. SpellsStmt tokens depth) tokens from 0 rule facts never from from

module _ {X : Type 0} (kind : X → Stmt) (rule : Rule) (parts : X → Held rule) (are_said : AreSaid kind rule parts)
    (facts : Facts rule) (firm : IsFirm rule facts) where
  pub kind_keeps : 1 ≤ least_of rule facts → (depth : ℕ) → Kept 1 (λ tokens from x to. SpellsStmt tokens depth from (kind x) to)
  kind_keeps solid depth tokens others k alike from x to h near =
      let kept = production.said_keeps (λ tokens from x to. SpellsStmt tokens depth from (kind x) to) rule parts
      (are_said depth) facts firm tokens others k alike from x to h near in
      (omega (arith, kept.0, solid), kept.1)

  pub kind_starts : ((depth : ℕ) → Makes (OfKind (λ tokens. SpellsStmt tokens depth) kind) (Left rule)) →
      Starts kind rule facts
  kind_starts makes depth = production.starts (OfKind (λ tokens. SpellsStmt tokens depth) kind) rule parts (are_said depth)
      facts firm 24 (omega arith) (makes depth)

  -- where any places and parts make one
  pub whole_kind_starts : (tree : Held rule → X) → ((h : Held rule) → parts (tree h) ≡ h) → Starts kind rule facts
  whole_kind_starts tree same depth = production.whole_starts (OfKind (λ tokens. SpellsStmt tokens depth) kind) rule parts
      (are_said depth) facts firm tree same 24 (omega arith)

  pub kind_begins : ((depth : ℕ) → Makes (OfKind (λ tokens. SpellsStmt tokens depth) kind) (Left rule)) →
      Begins kind rule facts
  kind_begins makes depth tokens from within few only = of_one_kind kind (kind_starts makes depth tokens from within few) only

  pub whole_kind_begins : (tree : Held rule → X) → ((h : Held rule) → parts (tree h) ≡ h) → Begins kind rule facts
  whole_kind_begins tree same depth tokens from within few only =
      of_one_kind kind (whole_kind_starts tree same depth tokens from within few) only

abbrev pub station_facts : Facts rule.station
station_facts = (leaf.id, close_facts)

abbrev pub empty_facts : Facts rule.empty_rule
empty_facts = close_facts

pub empty_keeps : (depth : ℕ) → Kept 1 (λ tokens from x to. SpellsStmt tokens depth from (Empty x) to)
empty_keeps = kind_keeps Empty rule.empty_rule rule.empty_parts said.empty_said empty_facts (omega arith, tt) (omega arith)

pub empty_begins : Begins Empty rule.empty_rule empty_facts
empty_begins = whole_kind_begins Empty rule.empty_rule rule.empty_parts said.empty_said empty_facts (omega arith, tt)
    (λ h. h.0) (λ h. refl)

abbrev pub exit_facts : Facts rule.exit_rule
exit_facts = (omega arith, close_facts)

pub exit_keeps : (depth : ℕ) → Kept 1 (λ tokens from x to. SpellsStmt tokens depth from (Exit x) to)
exit_keeps = kind_keeps Exit rule.exit_rule rule.exit_parts said.exit_said exit_facts (omega arith, tt) (omega arith)

pub exit_begins : Begins Exit rule.exit_rule exit_facts
exit_begins = whole_kind_begins Exit rule.exit_rule rule.exit_parts said.exit_said exit_facts (omega arith, tt) (λ h. h.0)
    (λ h. refl)

abbrev pub assign_facts : Facts rule.assign_rule
assign_facts = (leaf.own_reference, (becomes, (expression, close_facts)))

pub assign_keeps : (depth : ℕ) → Kept 1 (λ tokens from x to. SpellsStmt tokens depth from (Assign x) to)
assign_keeps = kind_keeps Assign rule.assign_rule (λ x. rule.assign_parts x.value) said.assign_said assign_facts
    (omega arith, tt) (omega arith)

pub assign_starts : Starts Assign rule.assign_rule assign_facts
assign_starts = whole_kind_starts Assign rule.assign_rule (λ x. rule.assign_parts x.value) said.assign_said assign_facts
    (omega arith, tt) (λ h. boxed (record { target = h.1.0; value = h.1.1.1.0; place = h.0 })) (λ h. refl)

abbrev pub call_facts : Facts rule.call_rule
call_facts = (tt, (leaf.id, (expression, close_facts)))

pub call_keeps : (depth : ℕ) → Kept 1 (λ tokens from x to. SpellsStmt tokens depth from (Call x) to)
call_keeps = kind_keeps Call rule.call_rule (λ x. rule.call_parts x.value) said.call_said call_facts (omega arith, tt)
    (omega arith)

pub call_starts : Starts Call rule.call_rule call_facts
call_starts = kind_starts Call rule.call_rule (λ x. rule.call_parts x.value) said.call_said call_facts (omega arith, tt)
    (λ depth others from to small h.
    let arguments = h.1.1.2.2 in
    let few : length h.0.1.1.1.0 < 2 ^ 63 = omega (
      arith,
      maybe_bracketed_long others _ (after_of 1 _ (leaf.expr_keeps limit.BRACKETS_MAX) others) h.1.1.2.0 h.0.1.1.1.0
          arguments.0 arguments.1,
      arguments.2.1,
      small,
    ) in
    let part = boxed (record { call = h.0.1.0; name = h.0.1.1.0; arguments = parts_of h.0.1.1.1.0 few; place = h.0.0 }) in
    (part, (said.call_said depth others from part to).1 h.1))

abbrev pub return_facts : Facts rule.return_rule
return_facts = (omega arith, (value, close_facts))

pub return_keeps : (depth : ℕ) → Kept 1 (λ tokens from x to. SpellsStmt tokens depth from (Return x) to)
return_keeps = kind_keeps Return rule.return_rule (λ x. rule.return_parts x.value) said.return_said return_facts
    (omega arith, tt) (omega arith)

pub return_begins : Begins Return rule.return_rule return_facts
return_begins = whole_kind_begins Return rule.return_rule (λ x. rule.return_parts x.value) said.return_said return_facts
    (omega arith, tt) (λ h. boxed (record { value = h.1.0; place = h.0 })) (λ h. refl)

abbrev pub activate_facts : Facts rule.activate_rule
activate_facts = (start, (omega arith, (leaf.id, (after w.PRIO (omega arith), close_facts))))

pub activate_keeps : (depth : ℕ) → Kept 1 (λ tokens from x to. SpellsStmt tokens depth from (Activate x) to)
activate_keeps = kind_keeps Activate rule.activate_rule (λ x. rule.activate_parts x.value) said.activate_said activate_facts
    (omega arith, tt) (omega arith)

abbrev pub continue_facts : Facts rule.continue_rule
continue_facts = (once, (omega arith, station_facts))

pub continue_keeps : (depth : ℕ) → Kept 1 (λ tokens from x to. SpellsStmt tokens depth from (Continue x) to)
continue_keeps = kind_keeps Continue rule.continue_rule (λ x. rule.continue_parts x.value) said.continue_said continue_facts
    (omega arith, tt) (omega arith)

abbrev pub resume_facts : Facts rule.resume_rule
resume_facts = (once, (omega arith, close_facts))

pub resume_keeps : (depth : ℕ) → Kept 1 (λ tokens from x to. SpellsStmt tokens depth from (Resume x) to)
resume_keeps = kind_keeps Resume rule.resume_rule (λ x. rule.resume_parts x.value) said.resume_said resume_facts
    (omega arith, tt) (omega arith)

abbrev pub on_task_facts : Facts rule.on_task_rule
on_task_facts = (task, (leaf.id, close_facts))

pub on_task_keeps : (depth : ℕ) → Kept 1 (λ tokens from x to. SpellsStmt tokens depth from (OnTask x) to)
on_task_keeps = kind_keeps OnTask rule.on_task_rule (λ x. rule.on_task_parts x.value) said.on_task_said on_task_facts
    (omega arith, tt) (omega arith)

pub on_task_begins : Begins OnTask rule.on_task_rule on_task_facts
on_task_begins = whole_kind_begins OnTask rule.on_task_rule (λ x. rule.on_task_parts x.value) said.on_task_said on_task_facts
    (omega arith, tt) (λ h. boxed (record { word = h.1.0; task = h.1.1.0; place = h.0 })) (λ h. refl)

abbrev pub on_semas_facts : Facts rule.on_semas_rule
on_semas_facts = (semas, (leaf.id, close_facts))

pub on_semas_keeps : (depth : ℕ) → Kept 1 (λ tokens from x to. SpellsStmt tokens depth from (OnSemas x) to)
on_semas_keeps = kind_keeps OnSemas rule.on_semas_rule (λ x. rule.on_semas_parts x.value) said.semas_said on_semas_facts
    (omega arith, tt) (omega arith)

pub on_semas_begins : Begins OnSemas rule.on_semas_rule on_semas_facts
on_semas_begins = kind_begins OnSemas rule.on_semas_rule (λ x. rule.on_semas_parts x.value) said.semas_said on_semas_facts
    (omega arith, tt)
    (λ depth others from to small h.
    let names = h.1.1.2 in
    let few : length h.0.1.1.0 < 2 ^ 63 = omega (
      arith,
      list_long others _ (after_of 1 _ leaf.name_keeps others) h.1.1.0 h.0.1.1.0 names.0 names.1,
      names.2.1,
      small,
    ) in
    let part = boxed (record { word = h.0.1.0; names = parts_of h.0.1.1.0 few; place = h.0.0 }) in
    (part, (said.semas_said depth others from part to).1 h.1))

abbrev pub on_interrupt_facts : Facts rule.on_interrupt_rule
on_interrupt_facts = (interrupt, station_facts)

pub on_interrupt_keeps : (depth : ℕ) → Kept 1 (λ tokens from x to. SpellsStmt tokens depth from (OnInterrupt x) to)
on_interrupt_keeps = kind_keeps OnInterrupt rule.on_interrupt_rule (λ x. rule.on_interrupt_parts x.value) said.on_interrupt_said
    on_interrupt_facts (omega arith, tt) (omega arith)

pub on_interrupt_begins : Begins OnInterrupt rule.on_interrupt_rule on_interrupt_facts
on_interrupt_begins = whole_kind_begins OnInterrupt rule.on_interrupt_rule (λ x. rule.on_interrupt_parts x.value)
    said.on_interrupt_said on_interrupt_facts (omega arith, tt)
    (λ h. boxed (record { word = h.1.0; name = h.1.1.0; place = h.0 })) (λ h. refl)

abbrev pub transfer_facts : Facts rule.transfer_rule
transfer_facts = (leaf.id, (omega arith, (fmt, close_facts)))

-- a list that may be missing, and one of formats behind it, have room in a tree
few_transfers : {X : Type 0} (spells : List Token → Spelling X) → Kept 1 spells → (others : List Token) (from : ℕ)
    (xs : List X) (m : ℕ) → SpellsMaybeList others (spells others) from xs m → (x : Held rule.transfer_rule) (to : ℕ) →
    Spells rule.transfer_rule others (m + 1) x to → to < 2 ^ 63 → (length xs < 2 ^ 63) × (length x.1.0 < 2 ^ 63)
few_transfers spells kept others from xs m h x to g small =
    let formats = list_long others (SpellsFmt others) (after_of 1 SpellsFmt fmt_keeps others) (g.0 + 1) x.1.0 g.2.1.0 g.2.1.1 in (
      omega (
        arith,
        maybe_list_long others (spells others) (after_of 1 spells kept others) from xs m h,
        g.1.1,
        formats,
        g.2.1.2.1,
        small,
      ),
      omega (arith, formats, g.2.1.2.1, small),
    )

abbrev pub put_facts : Facts rule.put_rule
put_facts = (omega arith, (expression, (omega arith, transfer_facts)))

pub put_keeps : (depth : ℕ) → Kept 1 (λ tokens from x to. SpellsStmt tokens depth from (Put x) to)
put_keeps = kind_keeps Put rule.put_rule (λ x. rule.put_parts x.value) said.put_said put_facts (omega arith, tt)
    (omega arith)

pub put_begins : Begins Put rule.put_rule put_facts
put_begins = kind_begins Put rule.put_rule (λ x. rule.put_parts x.value) said.put_said put_facts (omega arith, tt)
    (λ depth others from to small h.
    let list = h.1.1.1 in
    let few = few_transfers SpellsWhole (leaf.expr_keeps limit.BRACKETS_MAX) others (from + 1) h.0.1.0 list.0 list.1 h.0.1.1
    to list.2.1 small in
    let part = boxed (record {
      values = parts_of h.0.1.0 few.0;
      dation = h.0.1.1.0;
      formats = parts_of h.0.1.1.1.0 few.1;
      place = h.0.0;
    }) in
    (part, (said.put_said depth others from part to).1 h.1))

abbrev pub get_facts : Facts rule.get_rule
get_facts = (omega arith, (leaf.own_reference, (omega arith, transfer_facts)))

pub get_keeps : (depth : ℕ) → Kept 1 (λ tokens from x to. SpellsStmt tokens depth from (Get x) to)
get_keeps = kind_keeps Get rule.get_rule (λ x. rule.get_parts x.value) said.get_said get_facts (omega arith, tt)
    (omega arith)

pub get_begins : Begins Get rule.get_rule get_facts
get_begins = kind_begins Get rule.get_rule (λ x. rule.get_parts x.value) said.get_said get_facts (omega arith, tt)
    (λ depth others from to small h.
    let list = h.1.1.1 in
    let few = few_transfers SpellsOwnRef leaf.own_ref_keeps others (from + 1) h.0.1.0 list.0 list.1 h.0.1.1 to list.2.1
    small in
    let part = boxed (record {
      targets = parts_of h.0.1.0 few.0;
      dation = h.0.1.1.0;
      formats = parts_of h.0.1.1.1.0 few.1;
      place = h.0.0;
    }) in
    (part, (said.get_said depth others from part to).1 h.1))

abbrev pub send_facts : Facts rule.send_rule
send_facts = (omega arith, (expression, (omega arith, station_facts)))

pub send_keeps : (depth : ℕ) → Kept 1 (λ tokens from x to. SpellsStmt tokens depth from (Send x) to)
send_keeps = kind_keeps Send rule.send_rule (λ x. rule.send_parts x.value) said.send_said send_facts (omega arith, tt)
    (omega arith)

pub send_begins : Begins Send rule.send_rule send_facts
send_begins = whole_kind_begins Send rule.send_rule (λ x. rule.send_parts x.value) said.send_said send_facts (omega arith, tt)
    (λ h. boxed (record { value = h.1.0; dation = h.1.1.0; place = h.0 })) (λ h. refl)

abbrev pub take_facts : Facts rule.take_rule
take_facts = (omega arith, (leaf.own_reference, (omega arith, station_facts)))

pub take_keeps : (depth : ℕ) → Kept 1 (λ tokens from x to. SpellsStmt tokens depth from (Take x) to)
take_keeps = kind_keeps Take rule.take_rule (λ x. rule.take_parts x.value) said.take_said take_facts (omega arith, tt)
    (omega arith)

pub take_begins : Begins Take rule.take_rule take_facts
take_begins = whole_kind_begins Take rule.take_rule (λ x. rule.take_parts x.value) said.take_said take_facts (omega arith, tt)
    (λ h. boxed (record { target = h.1.0; dation = h.1.1.0; place = h.0 })) (λ h. refl)

-- ---- parts of statements that hold others

abbrev pub for_facts : Facts rule.for_rule
for_facts = (omega arith, (leaf.id, tt))

abbrev pub for_name : Leaf SpellsFor
for_name = production.whole_leaf SpellsFor rule.for_rule rule.for_parts said.for_said for_facts tt (λ h. h.0) (λ h. refl)

abbrev pub body_declaration_facts : Facts rule.body_declaration_rule
body_declaration_facts = (omega arith, (item, close_facts))

pub body_declaration_start : production.Start 24 SpellsBodyDecl rule.body_declaration_rule body_declaration_facts
body_declaration_start = production.starts SpellsBodyDecl rule.body_declaration_rule rule.body_declaration_parts
    said.body_declaration_said body_declaration_facts (omega arith, tt) 24 (omega arith)
    (λ others from to small h.
    let items = h.1.1.1 in
    let few : length h.0.1.0 < 2 ^ 63 = omega (
      arith,
      list_long others (SpellsItem others)
          (λ at x end g. omega (arith, after_of 2 SpellsItem item.kept others at x end g)) (from + 1) h.0.1.0 items.0
          items.1,
      items.2.1,
      small,
    ) in
    let part : BodyDecl = record { items = parts_of h.0.1.0 few; place = h.0.0 } in
    (part, (said.body_declaration_said others from part to).1 h.1))
