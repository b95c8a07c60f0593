-- Declarations by their first tokens.
use Rattle.std.proofs.Common.{◌≡◌, ℕ, ◌+◌, ◌≤◌, true, false, List, Option, refl, sym, ap, ◌∙◌, arith}
use Rattle.pearl_tree.specs.declared.tree.Decl.{Decl}
use Rattle.pearl_tree.specs.declared.tree.Decl.TheVariants as decl
use Rattle.pearl_tree.specs.declared.token.What.{What}
use Rattle.pearl_tree.specs.declared.token.Token.{Token}
use Rattle.pearl_tree.specs.Standing.{what_at, HasWord, HasSymbol}
use Rattle.pearl_tree.specs.Modules.{SpellsDecl}
use Rattle.pearl_tree.specs.declared.symbol.TheConstants as s
use Rattle.pearl_tree.specs.declared.word_code.TheConstants as w
use Rattle.pearl_parse_expr.specs.Stops.{IsLongest, Stuck, is_name, is_word}
use Rattle.pearl_parse_decl.specs.Readings.{by_bracket}
use Rattle.pearl_parse_expr.proofs.Offered.{clash}
use Rattle.pearl_parse.specs.Modules.{begins_declaration, declaration_begins}
use Rattle.pearl_grammar.proofs.Offered.{Rest}
use Rattle.pearl_parse.proofs.Steps.{Goes, past}
use Rattle.pearl_parse.proofs.BlockRests.{Params, Returned, block_rest, task_rest, returns_rest, proc_rest}
use Rattle.pearl_parse.proofs.BlockRests.{returns_stop, params_stop, longest_later}

pub no_first : (token : Option What) → is_name token ≡ false → is_word w.LENGTH token ≡ false →
    is_word w.TYPE token ≡ false → is_word w.DCL token ≡ false →
    is_word w.SPC token ≡ false → begins_declaration token ≡ false
no_first token name sizes types declares specifies = rw (name, sizes, types, declares, specifies) refl

-- where no declaration begins
pub no_declaration : (tokens : List Token) (from : ℕ) → begins_declaration (what_at tokens from) ≡ false →
    Stuck SpellsDecl tokens from from
no_declaration tokens from other = λ others agree x to h.
    clash _ (declaration_begins others from x to h) (ap begins_declaration (sym (agree from (omega arith))) ∙ other)

-- ":"
abbrev pub unit_rest : Rest
unit_rest others at to = HasSymbol others at s.COLON

module _ (others : List Token) (from : ℕ) where
  as_unit : is_name (what_at others from) ≡ true → (x : Decl) (to : ℕ) → SpellsDecl others from x to →
      unit_rest others (from + 1) to
  as_unit name (decl.Length sort number p) to h = absurd (clash _ name (ap is_name h.1))
  as_unit name (decl.Type id typing p) to h = absurd (clash _ name (ap is_name h.2))
  as_unit name (decl.Declare parts p) to h = absurd (clash _ name (ap is_name h.2))
  as_unit name (decl.Specify parts p) to h = absurd (clash _ name (ap is_name h.2))
  as_unit name (decl.Task id head body p) to h = h.3
  as_unit name (decl.Proc id params returns body p) to h = h.4

  as_task : is_name (what_at others from) ≡ true → HasWord others (from + 2) w.TASK → (x : Decl) (to : ℕ) →
      SpellsDecl others from x to → task_rest others (from + 3) to
  as_task name word (decl.Length sort number p) to h = absurd (clash _ name (ap is_name h.1))
  as_task name word (decl.Type id typing p) to h = absurd (clash _ name (ap is_name h.2))
  as_task name word (decl.Declare parts p) to h = absurd (clash _ name (ap is_name h.2))
  as_task name word (decl.Specify parts p) to h = absurd (clash _ name (ap is_name h.2))
  as_task name word (decl.Task id head body p) to h = (head, h.0, h.5, (body, to, h.6, refl))
  as_task name word (decl.Proc id params returns body p) to h = absurd
      (clash _ (ap (is_word w.TASK) word) (ap (is_word w.TASK) h.5))

  as_proc : is_name (what_at others from) ≡ true → is_word w.TASK (what_at others (from + 2)) ≡ false →
      (x : Decl) (to : ℕ) → SpellsDecl others from x to →
      HasWord others (from + 2) w.PROC × proc_rest others (from + 3) to
  as_proc name word (decl.Length sort number p) to h = absurd (clash _ name (ap is_name h.1))
  as_proc name word (decl.Type id typing p) to h = absurd (clash _ name (ap is_name h.2))
  as_proc name word (decl.Declare parts p) to h = absurd (clash _ name (ap is_name h.2))
  as_proc name word (decl.Specify parts p) to h = absurd (clash _ name (ap is_name h.2))
  as_proc name word (decl.Task id head body p) to h = absurd (clash _ (ap (is_word w.TASK) h.4) word)
  as_proc name word (decl.Proc id params returns body p) to h =
      (h.5, (params.items.items, h.0, h.6, (returns, h.1, h.7, (body, to, h.8, refl))))

-- PROC, where TASK does not stand
abbrev pub word_rest : Rest
word_rest others at to = is_word w.PROC (what_at others at) ≡ true

module _ (tokens : List Token) (from : ℕ) (name : is_name (what_at tokens from) ≡ true) where
  pub unit_goes : Goes SpellsDecl tokens from unit_rest (from + 1) from
  unit_goes = λ others agree x to h. as_unit others from (ap is_name (sym (agree from (omega arith))) ∙ name) x to h

  pub task_goes : HasWord tokens (from + 2) w.TASK → Goes SpellsDecl tokens from task_rest (from + 3) (from + 2)
  task_goes word = λ others agree x to h.
      as_task others from (ap is_name (sym (agree from (omega arith))) ∙ name)
      (sym (agree (from + 2) (omega arith)) ∙ word) x to h

  pub word_goes : is_word w.TASK (what_at tokens (from + 2)) ≡ false →
      Goes SpellsDecl tokens from word_rest (from + 2) (from + 2)
  word_goes other = λ others agree x to h.
      ap (is_word w.PROC) (as_proc others from (ap is_name (sym (agree from (omega arith))) ∙ name)
      (ap (is_word w.TASK) (sym (agree (from + 2) (omega arith))) ∙ other) x to h).0

  pub proc_goes : HasWord tokens (from + 2) w.PROC → Goes SpellsDecl tokens from proc_rest (from + 3) (from + 2)
  proc_goes word = λ others agree x to h.
      (as_proc others from (ap is_name (sym (agree from (omega arith))) ∙ name)
      (ap (is_word w.TASK) (sym (agree (from + 2) (omega arith)) ∙ word)) x to h).1

  -- the body of a procedure
  pub block_goes : HasWord tokens (from + 2) w.PROC → (a first b second new : ℕ) → from + 2 ≤ first → first ≤ new →
      second ≤ new →
      IsLongest Params by_bracket tokens (from + 3) a first → IsLongest Returned (is_word w.RETURNS) tokens a b second →
      Goes SpellsDecl tokens from block_rest b new
  block_goes word a first b second new near below reach params returns =
      let go = past SpellsDecl tokens from Params by_bracket returns_rest (from + 3) (from + 2) a first (proc_goes word)
      near params params_stop in
      past SpellsDecl tokens from Returned (is_word w.RETURNS) block_rest a first b new go below
      (longest_later Returned (is_word w.RETURNS) tokens a b second new reach returns) returns_stop
