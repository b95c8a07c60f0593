-- A list that may be missing in front of a word, with which none of its parts begins: what its reader says of it, and that
-- as a step takes it.
use Rattle.std.proofs.Common.{◌≡◌, ℕ, ◌+◌, ◌*◌, ◌≤◌, ◌⊎◌, inl, inr, max, Bool, true, false, not, ◌||◌, List, [], ◌∷◌, length}
use Rattle.std.proofs.Common.{Option, Vec, Result, Ok, Err, refl, sym, ap, subst, ◌∙◌, arith}
use Rattle.pearl_tree.specs.declared.token.What.{What}
use Rattle.pearl_tree.specs.declared.token.Token.{Token}
use Rattle.pearl_tree.specs.Standing.{Spelling, what_at, HasWord, SpellsList}
use Rattle.pearl_tree.specs.Statements.{SpellsMaybeList}
use Rattle.pearl_tree.specs.Stops.{BeginAlike}
use Rattle.pearl_parse_expr.specs.declared.reading.Halt.{Halt}
use Rattle.pearl_parse_expr.specs.declared.reading.Halt.TheVariants.{Refused, NoMemory}
use Rattle.pearl_parse_expr.specs.declared.reading.Reading.{Reading}
use Rattle.pearl_parse_expr.specs.Readings.{IsList}
use Rattle.pearl_parse_expr.specs.Stops.{EndsEarly, IsHalted, StopsWithin, is_word, by_comma}
use Rattle.pearl_parse_expr.specs.Least.{ReachesIn, GoesIn, HaltsIn}
use Rattle.pearl_parse_expr.specs.Reads.{ReadsList}
use Rattle.pearl_parse_expr.proofs.Offered.{shorter, clash, or_first, or_second, goes_as, listed}
use Rattle.pearl_grammar.specs.Rules.{One, MaybeListed, Rule, Then}
use Rattle.pearl_grammar.specs.Reached.{IsStopped, HaltsBehind, never}
use Rattle.pearl_grammar.proofs.Offered.{Leaf, Facts, Left, AllAnswer, least_of, fill_of, firsts_of, Walk, Took, Lacks}
use Rattle.pearl_grammar.proofs.Offered.{answers, rule_begins, part_missing_as}
use Rattle.pearl_parse.specs.Reads.{ReadsUnless}

-- what a list may go on with that is missing, or could end before it
abbrev pub unless : ℕ → (Option What → Bool) → Option What → Bool
unless word extends token = by_comma extends token || not (is_word word token)

-- a list that isn't missing
pub maybe_list : {X : Type 0} (spells : Spelling X) (others : List Token) (from : ℕ) (xs : List X) (to : ℕ) →
    SpellsList others spells from xs to → SpellsMaybeList others spells from xs to
maybe_list spells others from [] to h = absurd h
maybe_list spells others from (x ∷ xs) to h = h

reached : {X : Type 0} {spells : List Token → Spelling X} {tokens : List Token} {at : ℕ} (stop : ℕ) →
    ReachesIn 16 (λ tokens. SpellsList tokens (spells tokens)) tokens at stop →
    ReachesIn 16 (λ tokens. SpellsMaybeList tokens (spells tokens)) tokens at stop
reached {spells = spells} {at = at} stop r = record {
  others = r.others;
  alike = r.alike;
  long = r.long;
  short = r.short;
  lawful = r.lawful;
  part = r.part;
  spelled = maybe_list (spells r.others) r.others at r.part (length r.others) r.spelled;
}

module _ {X : Type 0} {spells : List Token → Spelling X} {extends : Option What → Bool} {word : ℕ} {tokens : List Token}
    {at : ℕ} where
  -- the word stands there
  pub none_there : {A : Type 0} {list : Reading (Vec X A)} → at ≤ length tokens → HasWord tokens at word →
      is_word word (what_at tokens at) ≡ true → IsList [] at at list → ReadsUnless word spells extends tokens at (Ok list)
  none_there {A} {list} within here is made = record {
    spells = listed (λ ys to last. SpellsMaybeList tokens (spells tokens) at ys to) made refl;
    bounds = listed (λ ys to last. StopsWithin tokens at at to last) made (omega arith, omega arith, omega arith, within);
    none = λ e. (here, listed (λ ys to last. (to ≡ at) × (last ≡ at)) made (refl, refl));
    some = λ e. absurd (clash _ is e);
  }

  -- it doesn't
  pub list_there : {A : Type 0} (result : Result (Reading (Vec X A)) Halt) → is_word word (what_at tokens at) ≡ false →
      ReadsList 16 (λ tokens. SpellsList tokens (spells tokens)) (by_comma extends) tokens at result →
      ReadsUnless word spells extends tokens at result
  list_there (Ok list) other read = record {
    spells = maybe_list (spells tokens) tokens at list.part.items list.end read.spells;
    bounds = omega (arith, read.ahead);
    none = λ e. absurd (clash _ e other);
    some = λ e. read;
  }
  list_there (Err halt) other read = record {
    spells = tt;
    bounds = tt;
    none = λ e. absurd (clash _ e other);
    some = λ e. read;
  }

  pub took_unless : {A : Type 0} {x : Reading (Vec X A)} {low new : ℕ} →
      ((others : List Token) (k : ℕ) (y : X) (to : ℕ) → HasWord others k word → spells others k y to → ⊥) →
      ReadsUnless word spells extends tokens at (Ok x) → new ≡ max x.stop low → low ≤ length tokens →
      Took 16 (λ tokens. SpellsMaybeList tokens (spells tokens)) (unless word extends) tokens at low x.part.items x.end new
  took_unless {A} {x} {low} {new} apart read is within = record {
    spelled = read.spells;
    longest = λ others agree ys to h. by others agree ys to h (is_word word (what_at tokens at)) refl;
    bounds = omega (arith, read.bounds, is, within);
    least = (x.stop, omega (arith, read.bounds), goes (is_word word (what_at tokens at)) refl, is);
  }
    where
      goes : (b : Bool) → is_word word (what_at tokens at) ≡ b →
          GoesIn 16 (λ tokens. SpellsMaybeList tokens (spells tokens)) tokens at x.end x.stop
      goes true here = let none = read.none here in record { goes = inl (none.1.1 ∙ sym none.1.0) }
      goes false other = goes_as (λ tokens. SpellsList tokens (spells tokens))
          (λ tokens. SpellsMaybeList tokens (spells tokens)) tokens at at x.end x.stop (reached {spells = spells} x.stop)
          (read.some other).least

      by : (others : List Token) → BeginAlike tokens others new → (ys : List X) (to : ℕ) →
          SpellsMaybeList others (spells others) at ys to → (b : Bool) → is_word word (what_at tokens at) ≡ b →
          (to ≡ x.end) ⊎ EndsEarly (unless word extends) others x.end to
      by others agree [] to h true here = inl (h ∙ sym (read.none here).1.0)
      by others agree (y ∷ ys) to h true here =
          absurd (apart others at y h.0 (sym (agree at (omega (arith, is, read.bounds))) ∙ (read.none here).0) h.1)
      by others agree [] to h false other = inr (
        omega (arith, h, (read.some other).ahead),
        or_second (by_comma extends (what_at others to)) (not (is_word word (what_at others to)))
            (subst (λ k. not (is_word word (what_at others k)) ≡ true) (sym h)
            (ap not (ap (is_word word) (sym (agree at (omega (arith, is, read.bounds)))) ∙ other))),
      )
      by others agree (y ∷ ys) to h false other = told ((read.some other).longest others
          (shorter tokens others x.stop new (omega (arith, is)) agree) (y ∷ ys) to h)
        where
          told : (to ≡ x.end) ⊎ EndsEarly (by_comma extends) others x.end to →
              (to ≡ x.end) ⊎ EndsEarly (unless word extends) others x.end to
          told (inl e) = inl e
          told (inr e) =
              inr (e.0, or_first (by_comma extends (what_at others to)) (not (is_word word (what_at others to))) e.1)

  -- what is left begins with the word, and no list is read
  pub lacks_list : {Y : Type 0} {room : ℕ} {whole : List Token → Spelling Y} {from low : ℕ} {leaf : Leaf spells} {rest : Rule}
      {facts : Facts rest} {stop : ℕ} {A : Type 0} (halt : Halt) →
      Walk room whole tokens from low (Then (MaybeListed (One X spells)) rest) (leaf, facts) never at stop →
      ReadsUnless {A = A} word spells extends tokens at (Err halt) → stop ≤ at → AllAnswer true (is_word word) (firsts_of rest facts) →
      1 ≤ least_of rest facts → 16 + fill_of rest facts + 8 * from ≤ room + 8 * at → fill_of rest facts ≤ room →
      Lacks room whole tokens from low halt
  lacks_list {Y} {room} {whole} {from} {low} {leaf} {rest} {facts} {stop} {A} halt a read below all solid fits few =
      by (is_word word (what_at tokens at)) refl
    where
      -- a list, or the word
      other : List Token → Spelling (List X)
      other others k ys to = SpellsList others (spells others) k ys to ⊎ (is_word word (what_at others k) ≡ true)

      told : (others : List Token) (ys : List X) (m to : ℕ) → SpellsMaybeList others (spells others) at ys m →
          Left rest others m to → (zs : List X) × (k : ℕ) × other others at zs k
      told others (y ∷ ys) m to h g = (y ∷ ys, m, inl h)
      told others [] m to h g = (
        [],
        m,
        inr (ap (λ k. is_word word (what_at others k)) (sym h) ∙
            answers true (is_word word) (firsts_of rest facts) (what_at others m) all
            (rule_begins rest facts a.firm solid others m g.0 to g.1)),
      )

      stopped : (e : Halt) → is_word word (what_at tokens at) ≡ false →
          IsHalted (λ tokens. SpellsList tokens (spells tokens)) tokens at e → IsStopped other tokens at stop e
      stopped NoMemory none h = tt
      stopped (Refused k) none h = (λ others agree ys to g. neither others agree ys to g, h.1, omega (arith, h.1), h.2)
        where
          neither : (others : List Token) → BeginAlike tokens others k → (ys : List X) (to : ℕ) → other others at ys to → ⊥
          neither others agree ys to (inl g) = h.0 others agree ys to g
          neither others agree ys to (inr g) = clash _ g (ap (is_word word) (sym (agree at h.1)) ∙ none)

      halts : (e : Halt) → IsHalted (λ tokens. SpellsList tokens (spells tokens)) tokens at e →
          HaltsIn 16 (λ tokens. SpellsList tokens (spells tokens)) tokens at e →
          HaltsBehind 16 (λ tokens. SpellsMaybeList tokens (spells tokens)) tokens at stop e
      halts NoMemory h r = tt
      halts (Refused k) h r = (k, h.1, h.2, reached {spells = spells} k r, omega (arith, h.1))

      by : (b : Bool) → is_word word (what_at tokens at) ≡ b → Lacks room whole tokens from low halt
      by true here = absurd (read.none here).1
      by false none =
          let some = read.some none in
          part_missing_as other 16 a told (stopped halt none some.refused) (halts halt some.refused some.least) fits few
