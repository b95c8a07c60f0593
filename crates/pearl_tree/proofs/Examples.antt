-- Small trees and the tokens that they spell.
use Rattle.std.proofs.Common.{◌≡◌, ℕ, List, [], ◌∷◌, None, false, refl, sym, ap, ◌∙◌, subst, arith, ◌≤◌, ◌<◌, length, Box, Global}
use Rattle.pearl_tree.specs.declared.parts.Parts.{Parts}
use Rattle.pearl_tree.specs.declared.token.Token.{Token}
use Rattle.pearl_tree.specs.declared.token.What.{What}
use Rattle.pearl_tree.specs.declared.token.What.TheVariants as what
use Rattle.pearl_tree.specs.declared.literal.Literal.TheVariants as literal
use Rattle.pearl_value.specs.declared.operator.Dyad.TheVariants as dyad
use Rattle.pearl_tree.specs.declared.expression.Monadic.{Monadic}
use Rattle.pearl_tree.specs.declared.expression.Expr.{Expr, Operand', Dyadic'}
use Rattle.pearl_tree.specs.declared.expression.Primary as primary
use Rattle.pearl_tree.specs.Expressions.{SpellsWhole, SpellsMonadic}
use Rattle.pearl_tree.specs.Standing.{SpellsEach}
use Rattle.pearl_tree.specs.declared.statement.Stmt.{Stmt, If, Exit}
use Rattle.pearl_tree.specs.declared.statement.If as if_
use Rattle.pearl_tree.specs.declared.statement.If.{out-If, roll-If, out-roll-If}
use Rattle.pearl_tree.specs.declared.tree.Decl.{Decl}
use Rattle.pearl_tree.specs.Statements.{SpellsStmt}
use Rattle.pearl_tree.specs.Modules.{Spells}
use Rattle.pearl_tree.proofs.StatementLists.{spells_if}
use Rattle.pearl_tree.specs.declared.symbol.TheConstants as s
use Rattle.pearl_tree.specs.declared.word_code.TheConstants as w

abbrev token : ℕ → What → Token
token place what = record { place = place; what = what }

-- 1 + 2 * 3
abbrev sum_of_product : List Token
sum_of_product =
    token 0 (what.Number 1) ∷ token 2 (what.Symbol s.PLUS) ∷ token 4 (what.Number 2) ∷ token 6 (what.Symbol s.TIMES) ∷
    token 8 (what.Number 3) ∷ []

-- 1 * 2 + 3
abbrev product_and_sum : List Token
product_and_sum =
    token 0 (what.Number 1) ∷ token 2 (what.Symbol s.TIMES) ∷ token 4 (what.Number 2) ∷ token 6 (what.Symbol s.PLUS) ∷
    token 8 (what.Number 3) ∷ []

module _ (none : Parts Monadic) (empty : none.items.items ≡ []) where
  abbrev literal_at : ℕ → ℕ → Expr
  literal_at value place =
      Operand' none (primary.Literal (literal.Number (record { value = value; place = place }))) place

  short : length none.items.items ≤ 8
  short = rw empty (omega arith)

  each : (k : ℕ) → SpellsEach (SpellsMonadic sum_of_product) k none.items.items k
  each k = rw empty refl

  -- the product stands on the right of the sum
  sums_product : (p q r t : _) →
      SpellsWhole sum_of_product 0
      (Dyadic' p (literal_at 1 0) (record { operator = dyad.Add; place = 2 }) q
      (Dyadic' r (literal_at 2 4) (record { operator = dyad.Mul; place = 6 }) t (literal_at 3 8) 4) 0) 5
  sums_product p q r t = (
    (
      1,
      refl,
      (0, refl, short, each 0, ((refl, refl), refl)),
      refl,
      refl,
      (
        3,
        refl,
        (2, refl, short, each 2, ((refl, refl), refl)),
        refl,
        refl,
        (4, refl, short, each 4, ((refl, refl), refl)),
        omega arith,
        omega arith,
      ),
      omega arith,
      omega arith,
    ),
    omega arith,
  )

  -- the sum doesn't stand on the right of the product
  no_products_sum : (p q r t : _) →
      SpellsWhole product_and_sum 0
      (Dyadic' p (literal_at 1 0) (record { operator = dyad.Mul; place = 2 }) q
      (Dyadic' r (literal_at 2 4) (record { operator = dyad.Add; place = 6 }) t (literal_at 3 8) 4) 0) 5 → ⊥
  no_products_sum p q r t spelled = let wrong : 3 < 2 = spelled.0.7 in absurd (omega arith)

-- IF 1 THEN EXIT; FIN;
abbrev if_exit : List Token
if_exit =
    token 0 (what.Word w.IF) ∷ token 3 (what.Number 1) ∷ token 5 (what.Word w.THEN) ∷ token 10 (what.Word w.EXIT) ∷
    token 14 (what.Symbol s.SEMICOLON) ∷ token 16 (what.Word w.FIN) ∷ token 19 (what.Symbol s.SEMICOLON) ∷ []

-- the statements within are seen as the list that the field shows
ifs_statement : (none : Parts Monadic) (empty : none.items.items ≡ []) → (statements : Parts Stmt) →
    statements.items.items ≡ Exit 10 ∷ [] → (box : Box if_.If Global) →
    box.value ≡ roll-If (record { condition = literal_at none empty 1 3; statements = statements; otherwise = None; place = 0 }) →
    SpellsStmt if_exit 1 0 (If box) 7
ifs_statement none empty statements one box is =
    let shown = ap out-If is ∙ out-roll-If (record { condition = literal_at none empty 1 3; statements = statements; otherwise = None; place = 0 }) in
    subst (λ X. X) (sym (spells_if if_exit 1 0 box 7)) (rw shown (
      2,
      5,
      5,
      refl,
      omega arith,
      (refl, ((1, refl, rw empty (omega arith), rw empty refl, ((refl, refl), refl)), omega arith)),
      refl,
      rw one (5, (refl, refl, refl, refl), refl),
      refl,
      refl,
      refl,
      refl,
    ))

-- MODULE; PROBLEM; MODEND
abbrev least_module : List Token
least_module =
    token 0 (what.Word w.MODULE) ∷ token 6 (what.Symbol s.SEMICOLON) ∷ token 8 (what.Word w.PROBLEM) ∷
    token 15 (what.Symbol s.SEMICOLON) ∷ token 17 (what.Word w.MODEND) ∷ []

modules_least : (none : Parts Decl) → none.items.items ≡ [] →
    Spells (record { name = None; system = None; declarations = none; modend = 17; semicolon = false; place = 0 }) least_module
modules_least none empty =
    record { spells = (1, 2, 4, refl, refl, refl, refl, refl, refl, refl, rw empty refl, refl, refl, refl) }
