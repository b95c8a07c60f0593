-- What is declared is a variable or a semaphore, by what follows its names.
use Rattle.std.proofs.Common.{◌≡◌, ℕ, ◌≤◌, ◌⊎◌, inl, inr, Bool, true, false, List, length, Option, Ok, Err, refl, sym, ap, subst, ◌∙◌, arith}
use Rattle.pearl_tree.specs.declared.name.Names.{Names}
use Rattle.pearl_tree.specs.declared.declaration.Item.{Item}
use Rattle.pearl_tree.specs.declared.declaration.Sema.{Sema}
use Rattle.pearl_tree.specs.declared.declaration.Declared.{Declared}
use Rattle.pearl_tree.specs.declared.declaration.Declared.TheVariants as declared
use Rattle.pearl_tree.specs.declared.token.What.{What}
use Rattle.pearl_tree.specs.declared.token.Token.{Token}
use Rattle.pearl_tree.specs.declared.word_code.TheConstants as w
use Rattle.pearl_tree.specs.declared.typing.Typing.{Typing}
use Rattle.pearl_tree.specs.Standing.{Spelling, SpellsFlag, what_at}
use Rattle.pearl_tree.specs.Types.{SpellsNames, SpellsWholeTyping}
use Rattle.pearl_tree.specs.Declarations.{SpellsItem, SpellsSema, SpellsDeclared}
use Rattle.pearl_tree.specs.Stops.{BeginAlike}
use Rattle.pearl_parse_expr.specs.declared.reading.Halt.{Halt}
use Rattle.pearl_parse_expr.specs.declared.reading.Reading.{Reading}
use Rattle.pearl_parse_expr.specs.Least.{Reaches, GoesToHalt}
use Rattle.pearl_parse_expr.specs.Reads.{Reads, ReadsOnly}
use Rattle.pearl_parse_expr.specs.Stops.{EndsEarly, IsHalted, is_word}
use Rattle.pearl_parse_expr.proofs.Offered.{after_of, clash, goes_as, halts_as, or_first, or_second, reaches_as, shorter}
use Rattle.pearl_grammar.specs.Rules.{Flag, MaybeHeaded, Rule, End, Then}
use Rattle.pearl_grammar.specs.Declarations as rule
use Rattle.pearl_grammar.proofs.Offered.{Among, answers, Left, item_said, bounds, whole_typing}
use Rattle.pearl_parse_decl.specs.Readings.{IsPast, extends_item, extends_sema, extends_declared}
use Rattle.pearl_parse_decl.proofs.Behind.{none_read, halted_past, ends_as}

-- an item behind its names
abbrev item_rest : Rule
item_rest = Then rule.bounds (Then (Flag w.INV) (Then rule.whole_type (Then (MaybeHeaded w.INIT rule.constant) End)))

module _ (others : List Token) where
  typing_no_sema : (at : ℕ) (x : Typing) (to : ℕ) → SpellsWholeTyping others at x to →
      is_word w.SEMA (what_at others at) ≡ false
  typing_no_sema at x to h = by (whole_typing.leads others at x to h)
    where
      by : (to ≡ at) ⊎ Among whole_typing.firsts (what_at others at) → is_word w.SEMA (what_at others at) ≡ false
      by (inl same) = absurd (omega (arith, same, after_of 1 SpellsWholeTyping whole_typing.kept others at x to h))
      by (inr some) = answers false (is_word w.SEMA) whole_typing.firsts (what_at others at)
          ((λ name. refl), (refl, (refl, (refl, (refl, (refl, (refl, tt))))))) some

  inv_no_sema : (at : ℕ) (inv : Bool) (m : ℕ) → SpellsFlag others w.INV at inv m → is_word w.SEMA (what_at others m) ≡ false →
      is_word w.SEMA (what_at others at) ≡ false
  inv_no_sema at false m h none = subst (λ k. is_word w.SEMA (what_at others k) ≡ false) h none
  inv_no_sema at true m h none = ap (is_word w.SEMA) h.0

  -- it doesn't begin with SEMA
  no_sema : (at to : ℕ) → Left item_rest others at to → is_word w.SEMA (what_at others at) ≡ false
  no_sema at to h = by (bounds.leads others at h.0.0 h.1.0 h.1.1)
    where
      by : (h.1.0 ≡ at) ⊎ Among bounds.firsts (what_at others at) → is_word w.SEMA (what_at others at) ≡ false
      by (inr some) = answers false (is_word w.SEMA) bounds.firsts (what_at others at) (refl, tt) some
      by (inl same) = subst (λ k. is_word w.SEMA (what_at others k) ≡ false) same
          (inv_no_sema h.1.0 h.0.1.0 h.1.2.0 h.1.2.1
          (typing_no_sema h.1.2.0 h.0.1.1.0 h.1.2.2.0 h.1.2.2.1))

  behind_names : (from : ℕ) (item : Item) (to : ℕ) → SpellsItem others from item to →
      (a : ℕ) × SpellsNames others from item.names a × Left item_rest others a to
  behind_names from item to h =
      let g = (item_said others from item to).0 h in
      (g.1.0, g.1.1, ((item.bounds, (item.inv, (item.typing, (item.init.items.items, tt)))), g.1.2))

  only_sema : (from end : ℕ) → is_word w.SEMA (what_at others end) ≡ true →
      ((x : Names) (to : ℕ) → SpellsNames others from x to → to ≡ end) →
      (x : Declared) (to : ℕ) → SpellsDeclared others from x to → (x : Sema) × (k : ℕ) × SpellsSema others from x k × (k ≡ to)
  only_sema from end sema only (declared.Item item) to h =
      let rest = behind_names from item to h in
      absurd (clash _ sema (subst (λ k. is_word w.SEMA (what_at others k) ≡ false) (only item.names rest.0 rest.1)
      (no_sema rest.0 to rest.2)))
  only_sema from end sema only (declared.Sema part) to h = (part, to, h, refl)

  only_item : (from end : ℕ) → is_word w.SEMA (what_at others end) ≡ false →
      ((x : Names) (to : ℕ) → SpellsNames others from x to → to ≡ end) →
      (x : Declared) (to : ℕ) → SpellsDeclared others from x to → (x : Item) × (k : ℕ) × SpellsItem others from x k × (k ≡ to)
  only_item from end none only (declared.Item part) to h = (part, to, h, refl)
  only_item from end none only (declared.Sema sema) to h =
      absurd
      (clash _ (ap (is_word w.SEMA) h.3)
      (subst (λ k. is_word w.SEMA (what_at others k) ≡ false) (sym (only sema.names h.0 h.2)) none))

-- where no names stand, and so no variable begins
pub declared_halts : (tokens : List Token) (from : ℕ) (halt : Halt) → IsHalted SpellsItem tokens from halt →
    GoesToHalt SpellsItem tokens from halt → GoesToHalt SpellsDeclared tokens from halt
declared_halts tokens from halt none least =
    halts_as SpellsItem SpellsDeclared tokens from from halt
    (λ stop near within r. reaches_as SpellsItem SpellsDeclared tokens from from stop (omega arith)
    (λ others alike long short x h. (declared.Item x, h)) r) none least

-- what is declared is of one kind, by what follows its names
pub record IsKind {X : Type 0} (spells : List Token → Spelling X) (extends : Option What → Bool) (wrap : X → Declared)
    (tokens : List Token) (from stop : ℕ) : Type 0 where
  pub more : (token : Option What) → extends token ≡ true → extends_declared token ≡ true
  pub wrapped : (others : List Token) (x : X) (to : ℕ) → spells others from x to →
      SpellsDeclared others from (wrap x) to
  pub only : (others : List Token) → BeginAlike tokens others stop → (x : Declared) (to : ℕ) →
      SpellsDeclared others from x to → (x : X) × (k : ℕ) × spells others from x k × (k ≡ to)

module _ {X : Type 0} {spells : List Token → Spelling X} {extends : Option What → Bool} {wrap : X → Declared}
    {tokens : List Token} {from stop : ℕ} (kind : IsKind spells extends wrap tokens from stop) where
  reaches_so : (k : ℕ) → Reaches spells tokens from k → Reaches SpellsDeclared tokens from k
  reaches_so k r = reaches_as spells SpellsDeclared tokens from from k (omega arith)
      (λ others alike long short x h. (wrap x, kind.wrapped others x (length others) h)) r

  pub kind_read : (part : Reading X) → stop ≤ part.stop → Reads 16 spells extends tokens from (Ok part) →
      Reads 16 SpellsDeclared extends_declared tokens from
      (Ok (record { part = wrap part.part; end = part.end; stop = part.stop }))
  kind_read part far read = record {
    spells = kind.wrapped tokens part.part part.end read.spells;
    longest = λ others agree x to h.
        let found = kind.only others (shorter tokens others stop part.stop far agree) x to h in
        ends_as extends extends_declared others part.end to kind.more
        (subst (λ k. (k ≡ part.end) ⊎ EndsEarly extends others part.end k) found.3
        (read.longest others agree found.0 found.1 found.2));
    ahead = read.ahead;
    refused = tt;
    least = goes_as spells SpellsDeclared tokens from from part.end part.stop (reaches_so part.stop) read.least;
  }

  pub kind_unread : (halt : Halt) → IsPast stop halt → Reads 16 spells extends tokens from (Err halt) →
      Reads 16 SpellsDeclared extends_declared tokens from (Err halt)
  kind_unread halt past none =
      none_read
      (halted_past spells SpellsDeclared tokens from stop halt past
      (λ others agree x to h. let found = kind.only others agree x to h in (found.0, found.1, found.2)) none.refused)
      (halts_as spells SpellsDeclared tokens from from halt (λ k near within r. reaches_so k r)
      none.refused none.least)

-- the names that were read, and whether SEMA stands behind them
module _ (tokens : List Token) (from : ℕ) (names : Reading Names) (named : ReadsOnly 9 SpellsNames tokens from (Ok names)) where
  pub sema_kind : is_word w.SEMA (what_at tokens names.end) ≡ true →
      IsKind SpellsSema extends_sema (λ x. declared.Sema x) tokens from names.stop
  sema_kind stands = record {
    more = λ token h. or_second (extends_item token) (extends_sema token) h;
    wrapped = λ others x to h. h;
    only = λ others agree. only_sema others from names.end
        (ap (is_word w.SEMA) (sym (agree names.end (omega (arith, named.ahead)))) ∙ stands)
        (λ x to h. named.only others agree x to h);
  }

  pub item_kind : is_word w.SEMA (what_at tokens names.end) ≡ false →
      IsKind SpellsItem extends_item (λ x. declared.Item x) tokens from names.stop
  item_kind none = record {
    more = λ token h. or_first (extends_item token) (extends_sema token) h;
    wrapped = λ others x to h. h;
    only = λ others agree. only_item others from names.end
        (ap (is_word w.SEMA) (sym (agree names.end (omega (arith, named.ahead)))) ∙ none)
        (λ x to h. named.only others agree x to h);
  }
