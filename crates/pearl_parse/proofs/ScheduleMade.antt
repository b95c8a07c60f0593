-- An expression behind a word, and a period made of its parts.
use Rattle.std.proofs.Common.{ℕ, List, sym, subst}
use Rattle.pearl_tree.specs.declared.expression.Expr.{Expr}
use Rattle.pearl_tree.specs.declared.token.What.TheVariants as what
use Rattle.pearl_tree.specs.declared.token.Token.{Token}
use Rattle.pearl_tree.specs.Standing.{Spelling}
use Rattle.pearl_tree.specs.Statements.{SpellsAfter, SpellsPeriodEnd, SpellsPeriod}
use Rattle.pearl_tree.specs.declared.word_code.TheConstants as w
use Rattle.pearl_parse_expr.proofs.Offered.{placed}
use Rattle.pearl_grammar.proofs.Offered.{Ends, Next, Makes}
use Rattle.pearl_parse.proofs.Comes.{Maybe}

-- word expr
abbrev pub After : ℕ → List Token → Spelling Expr
After word tokens = SpellsAfter tokens word

pub period_made : Makes SpellsPeriod (Next (After w.ALL) (Next (Maybe SpellsPeriodEnd) Ends))
period_made others from to small h =
    let at = placed others from (what.Word w.ALL) h.2.0 in
    let last = h.3 in (
      record { duration = h.0; end = last.0; place = at.0 },
      (h.1, at.1, h.2, subst (λ k. Maybe SpellsPeriodEnd others h.1 last.0 k) (sym last.3) last.2),
    )
