-- Where the readers of statements that hold no others begin: behind the first word.
use Rattle.std.proofs.Common.{◌≡◌, ℕ, ◌+◌, ◌<◌, ◌^◌, List, length, Some, Vec, Ok, T, eqb, ap, refl, sym, ◌∙◌, arith}
use Rattle.pearl_tree.specs.declared.expression.Expr.{Expr}
use Rattle.pearl_tree.specs.declared.expression.Ref.{Ref}
use Rattle.pearl_tree.specs.declared.statement.TaskWord.{TaskWord}
use Rattle.pearl_tree.specs.declared.statement.TaskWord.TheVariants.{Suspend, Terminate, Prevent}
use Rattle.pearl_tree.specs.declared.statement.SemaWord.{SemaWord}
use Rattle.pearl_tree.specs.declared.statement.SemaWord.TheVariants.{Request, Release}
use Rattle.pearl_tree.specs.declared.statement.InterruptWord.{InterruptWord}
use Rattle.pearl_tree.specs.declared.statement.InterruptWord.TheVariants.{Enable, Disable, Trigger}
use Rattle.pearl_tree.specs.declared.statement.Stmt.{Stmt, Empty, Exit, Return, OnTask, OnSemas, OnInterrupt, Put, Get, Send, Take}
use Rattle.pearl_tree.specs.declared.token.What.TheVariants as what
use Rattle.pearl_tree.specs.declared.token.Token.{Token}
use Rattle.pearl_tree.specs.Standing.{HasWord, HasSymbol}
use Rattle.pearl_tree.specs.Stops.{BeginAlike}
use Rattle.pearl_tree.specs.Statements.{SpellsStmt, SpellsValue, task_word, sema_word, interrupt_word}
use Rattle.pearl_tree.specs.declared.symbol.TheConstants as s
use Rattle.pearl_tree.specs.declared.word_code.TheConstants as w
use Rattle.pearl_tree.proofs.Offered.{group_of, no_expr_at}
use Rattle.pearl_grammar.specs.Rules.{One, Maybe, Listed, MaybeListed, Rule, End, Then, word}
use Rattle.pearl_grammar.specs.Declarations.{id, close}
use Rattle.pearl_grammar.specs.Reached.{never}
use Rattle.pearl_grammar.specs.Statements as rule
use Rattle.pearl_grammar.proofs.Offered.{Facts, Walk, mark_read, token_read, one_read, empty_begins, exit_facts, exit_begins}
use Rattle.pearl_grammar.proofs.Offered.{return_facts}
use Rattle.pearl_grammar.proofs.Offered.{return_begins, on_task_facts, on_task_begins, on_semas_facts, on_semas_begins}
use Rattle.pearl_grammar.proofs.Offered.{on_interrupt_facts, on_interrupt_begins, send_facts, send_begins, take_facts}
use Rattle.pearl_grammar.proofs.Offered.{take_begins, put_facts, put_begins, get_facts, get_begins}
use Rattle.pearl_tree.specs.Expressions.{SpellsWhole, SpellsOwnRef}
use Rattle.pearl_parse_expr.specs.declared.reading.Reading.{Reading}
use Rattle.pearl_parse_expr.specs.Stops.{extends_expression, extends_operand, is_name}
use Rattle.pearl_parse_expr.specs.Reads.{Reads}
use Rattle.pearl_grammar.proofs.Offered.{part_read, took_longest}
use Rattle.pearl_parse.specs.Reads.{ReadsBehind, ReadsUnless}
use Rattle.pearl_parse_expr.proofs.Offered.{clash}
use Rattle.pearl_parse.proofs.Along.{took_as}
use Rattle.pearl_parse.proofs.Unless.{took_unless}
use Rattle.pearl_parse.proofs.ByFirst.{group, of_kind}

-- each statement of this kind, as first tokens tell kinds, is made so
abbrev pub AllOf : {X : Type 0} → (X → Stmt) → ℕ → Type 0
AllOf {X} kind n = (others : List Token) (depth from : ℕ) (a : Stmt) (to : ℕ) → T (eqb (group a) n) →
    SpellsStmt others depth from a to → (x : X) × SpellsStmt others depth from (kind x) to

pub empties : AllOf Empty 0
empties others depth from (Empty part) to e h = (part, h)
empties others depth from a to e h = absurd e

pub exits : AllOf Exit 6
exits others depth from (Exit part) to e h = (part, h)
exits others depth from a to e h = absurd e

pub returns : AllOf Return 8
returns others depth from (Return part) to e h = (part, h)
returns others depth from a to e h = absurd e

pub on_tasks : AllOf OnTask 10
on_tasks others depth from (OnTask part) to e h = (part, h)
on_tasks others depth from a to e h = absurd e

pub on_semas : AllOf OnSemas 11
on_semas others depth from (OnSemas part) to e h = (part, h)
on_semas others depth from a to e h = absurd e

pub on_interrupts : AllOf OnInterrupt 12
on_interrupts others depth from (OnInterrupt part) to e h = (part, h)
on_interrupts others depth from a to e h = absurd e

pub puts : AllOf Put 13
puts others depth from (Put part) to e h = (part, h)
puts others depth from a to e h = absurd e

pub gets : AllOf Get 14
gets others depth from (Get part) to e h = (part, h)
gets others depth from a to e h = absurd e

pub sends : AllOf Send 15
sends others depth from (Send part) to e h = (part, h)
sends others depth from a to e h = absurd e

pub takes : AllOf Take 16
takes others depth from (Take part) to e h = (part, h)
takes others depth from a to e h = absurd e

-- no expression begins with TO
no_value : (tokens : List Token) (from : ℕ) (x : Expr) (to : ℕ) → HasWord tokens from w.TO →
    SpellsWhole tokens from x to → ⊥
no_value tokens from x to here h =
    no_expr_at tokens from w.TO here refl (λ e. absurd (omega (arith, e))) (λ e. absurd (omega (arith, e)))
    (λ e. absurd (omega (arith, e)))
    (λ e. absurd (omega (arith, e))) x to h

kind_of_task : (word : TaskWord) → group_of (what.Word (task_word word)) ≡ Some 10
kind_of_task Suspend = refl
kind_of_task Terminate = refl
kind_of_task Prevent = refl

kind_of_semas : (word : SemaWord) → group_of (what.Word (sema_word word)) ≡ Some 11
kind_of_semas Request = refl
kind_of_semas Release = refl

kind_of_interrupt : (word : InterruptWord) → group_of (what.Word (interrupt_word word)) ≡ Some 12
kind_of_interrupt Enable = refl
kind_of_interrupt Disable = refl
kind_of_interrupt Trigger = refl

module _ (tokens : List Token) (depth from : ℕ) (inside : from < length tokens) (few : length tokens < 2 ^ 55) where
  abbrev pub At : (rule : Rule) → Facts rule → ℕ → ℕ → Type 0
  At rule facts = Walk 24 (λ tokens. SpellsStmt tokens depth) tokens from 0 rule facts never

  -- the statements that begin with this word
  begun : {X : Type 0} (kind : X → Stmt) (n code : ℕ) → AllOf kind n → group_of (what.Word code) ≡ Some n →
      HasWord tokens from code → (others : List Token) → BeginAlike tokens others from → (a : Stmt) (to : ℕ) →
      SpellsStmt others depth from a to → (x : X) × SpellsStmt others depth from (kind x) to
  begun kind n code all known here others agree a to h =
      all others depth from a to (of_kind others depth from n (what.Word code) (sym (agree from (omega arith)) ∙ here)
      known a to h) h

  pub empty_begun : HasSymbol tokens from s.SEMICOLON → At End tt (from + 1) from
  empty_begun here =
      token_read (mark_read (empty_begins depth tokens from (omega arith) few (λ others agree a to h.
      empties others depth from a to (of_kind others depth from 0 (what.Symbol s.SEMICOLON)
      (sym (agree from (omega arith)) ∙ here) refl a to h) h))) refl here inside

  pub exit_begun : HasWord tokens from w.EXIT → At close exit_facts.1 (from + 1) from
  exit_begun here =
      token_read (mark_read (exit_begins depth tokens from (omega arith) few (begun Exit 6 w.EXIT exits refl here)))
      refl here inside

  pub return_begun : HasWord tokens from w.RETURN →
      At (Then (Maybe (One Expr SpellsValue)) close) return_facts.1 (from + 1) from
  return_begun here =
      token_read (mark_read (return_begins depth tokens from (omega arith) few (begun Return 8 w.RETURN returns refl
      here))) refl here inside

  pub task_begun : (word : TaskWord) → HasWord tokens from (task_word word) →
      At (Then (Maybe id) close) on_task_facts.1 (from + 1) from
  task_begun word here =
      one_read {y = word} (mark_read (on_task_begins depth tokens from (omega arith) few
      (begun OnTask 10 (task_word word) on_tasks (kind_of_task word) here))) (λ others k x to h. h.1) refl (here, refl)
      inside

  pub semas_begun : (word : SemaWord) → HasWord tokens from (sema_word word) →
      At (Then (Listed id) close) on_semas_facts.1 (from + 1) from
  semas_begun word here =
      one_read {y = word} (mark_read (on_semas_begins depth tokens from (omega arith) few
      (begun OnSemas 11 (sema_word word) on_semas (kind_of_semas word) here))) (λ others k x to h. h.1) refl
      (here, refl) inside

  pub interrupt_begun : (word : InterruptWord) → HasWord tokens from (interrupt_word word) →
      At rule.station on_interrupt_facts.1 (from + 1) from
  interrupt_begun word here =
      one_read {y = word} (mark_read (on_interrupt_begins depth tokens from (omega arith) few
      (begun OnInterrupt 12 (interrupt_word word) on_interrupts (kind_of_interrupt word) here))) (λ others k x to h.
      h.1) refl (here, refl) inside

  pub put_begun : HasWord tokens from w.PUT →
      At (Then (MaybeListed rule.expression) (word w.TO rule.transfer_rule)) put_facts.1 (from + 1) from
  put_begun here =
      token_read (mark_read (put_begins depth tokens from (omega arith) few (begun Put 13 w.PUT puts refl here)))
      refl here inside

  pub get_begun : HasWord tokens from w.GET →
      At (Then (MaybeListed rule.reference) (word w.FROM rule.transfer_rule)) get_facts.1 (from + 1) from
  get_begun here =
      token_read (mark_read (get_begins depth tokens from (omega arith) few (begun Get 14 w.GET gets refl here)))
      refl here inside

  pub send_begun : HasWord tokens from w.SEND →
      At (Then rule.expression (word w.TO rule.station)) send_facts.1 (from + 1) from
  send_begun here =
      token_read (mark_read (send_begins depth tokens from (omega arith) few (begun Send 15 w.SEND sends refl here)))
      refl here inside

  pub take_begun : HasWord tokens from w.TAKE →
      At (Then rule.reference (word w.FROM rule.station)) take_facts.1 (from + 1) from
  take_begun here =
      token_read (mark_read (take_begins depth tokens from (omega arith) few (begun Take 16 w.TAKE takes refl here)))
      refl here inside

  -- SEND expr
  pub past_sent : HasWord tokens from w.SEND → {x : Reading Expr} →
      ReadsBehind 16 SpellsWhole SpellsWhole SpellsWhole extends_expression tokens (from + 1) (from + 1 + 1) from
      (Ok x) → At (word w.TO rule.station) send_facts.1.1 x.end x.stop
  past_sent here read =
      part_read (send_begun here) (took_as (omega arith) read) (refl, tt) (omega arith) (omega arith) (omega arith)

  -- TAKE ref
  pub past_taken : HasWord tokens from w.TAKE → {x : Reading Ref} →
      Reads 16 SpellsOwnRef extends_operand tokens (from + 1) (Ok x) →
      At (word w.FROM rule.station) take_facts.1.1 x.end x.stop
  past_taken here {x} read =
      part_read (take_begun here) (took_longest {new = x.stop} read (omega (arith, read.ahead)) (omega arith))
      (refl, tt)
      (omega arith) (omega arith) (omega arith)

  -- PUT [ expr { "," expr } ]
  pub past_put : HasWord tokens from w.PUT → {A : Type 0} {x : Reading (Vec Expr A)} →
      ReadsUnless w.TO SpellsWhole extends_expression tokens (from + 1) (Ok x) →
      At (word w.TO rule.transfer_rule) put_facts.1.1 x.end x.stop
  past_put here {A} {x} read =
      part_read (put_begun here) (took_unless {new = x.stop} (λ others at x to here h. no_value others at x to here h) read
      (omega (arith, read.bounds)) (omega arith)) (refl, tt) (omega arith) (omega arith) (omega arith)

  -- GET [ ref { "," ref } ]
  pub past_got : HasWord tokens from w.GET → {A : Type 0} {x : Reading (Vec Ref A)} →
      ReadsUnless w.FROM SpellsOwnRef extends_operand tokens (from + 1) (Ok x) →
      At (word w.FROM rule.transfer_rule) get_facts.1.1 x.end x.stop
  past_got here {A} {x} read =
      part_read (get_begun here) (took_unless {new = x.stop} (λ others at x to here h. clash _ (ap is_name h.1.0)
      (ap is_name here)) read (omega (arith, read.bounds)) (omega arith)) (refl, tt) (omega arith) (omega arith)
      (omega arith)
