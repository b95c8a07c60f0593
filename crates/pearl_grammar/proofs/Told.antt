-- What the contracts of readers say of a part, as it is taken into a rule; and what is known at the end of a rule, as the
-- contracts of readers say it.
use Rattle.std.proofs.Common.{◌≡◌, ℕ, ◌+◌, ◌<◌, ◌≤◌, ◌⊎◌, inl, inr, max, Bool, true, false, List, length, Option, Vec}
use Rattle.std.proofs.Common.{Some, Ok, Err, refl, sym, subst, ap, ◌∙◌, arith}
use Rattle.pearl_tree.specs.declared.token.What.{What}
use Rattle.pearl_tree.specs.declared.token.Token.{Token}
use Rattle.pearl_tree.specs.Standing.{Spelling, what_at, HasSymbol, SpellsFlag, SpellsSymbolFlag}
use Rattle.pearl_tree.specs.declared.token.What.TheVariants as what
use Rattle.pearl_parse_expr.specs.declared.reading.Halt.{Halt}
use Rattle.pearl_parse_expr.specs.declared.reading.Halt.TheVariants.{Refused, NoMemory}
use Rattle.pearl_parse_expr.specs.declared.reading.Reading.{Reading}
use Rattle.pearl_parse_expr.specs.Stops.{IsLongest, IsHalted, EndsEarly, is_symbol, is_word}
use Rattle.pearl_parse_expr.specs.Least.{GoesIn, HaltsIn}
use Rattle.pearl_parse_expr.specs.Reads.{ReadsOnlyAs, ReadsAs, ReadsMaybe, Reads, ReadsOnly, ReadsList, ReadsOnlyList}
use Rattle.pearl_parse_expr.specs.Reads.{ReadsMaybeList}
use Rattle.pearl_parse_expr.proofs.Offered.{clash, shorter}
use Rattle.pearl_grammar.specs.Rules.{End}
use Rattle.pearl_grammar.specs.Reached.{GoesBehind, IsStopped, behind, never}
use Rattle.pearl_grammar.proofs.Rests.{Ends}
use Rattle.pearl_grammar.proofs.States as states
use Rattle.pearl_grammar.proofs.RuleFacts.{Left}
use Rattle.pearl_grammar.proofs.Walk.{Walk, Took, Lacks, state_as}

-- ---- parts that were read, behind what was stopped at `low`

took : {Y : Type 0} {inner : ℕ} {spells : List Token → Spelling Y} {extends : Option What → Bool} {tokens : List Token}
    {at low : ℕ} {y : Y} {end : ℕ} (stop new : ℕ) → spells tokens at y end → IsLongest spells extends tokens at end stop →
    (at ≤ end) × (end ≤ stop) × (stop ≤ length tokens) → GoesIn inner spells tokens at end stop → new ≡ max stop low →
    low ≤ length tokens → Took inner spells extends tokens at low y end new
took {tokens = tokens} stop new spelled longest bounds least is within = record {
  spelled = spelled;
  longest = λ others agree y to h. longest others (shorter tokens others stop new (omega (arith, is)) agree) y to h;
  bounds = omega (arith, bounds, is, within);
  least = (stop, omega (arith, bounds), least, is);
}

module _ {Y : Type 0} {inner : ℕ} {spells : List Token → Spelling Y} {tokens : List Token} {at low new : ℕ}
    {x : Reading Y} where
  pub took_only : ReadsOnly inner spells tokens at (Ok x) → new ≡ max x.stop low → low ≤ length tokens →
      Took inner spells never tokens at low x.part x.end new
  took_only read is within = took {extends = never} x.stop new read.spells
      (λ others agree y to h. inl (read.only others agree y to h)) (omega (arith, read.ahead)) read.least is within

  pub took_longest : {extends : Option What → Bool} → Reads inner spells extends tokens at (Ok x) →
      new ≡ max x.stop low → low ≤ length tokens → Took inner spells extends tokens at low x.part x.end new
  took_longest {extends} read is within = took {extends = extends} x.stop new read.spells read.longest
      (omega (arith, read.ahead)) read.least is within

  pub took_maybe : {extends : Option What → Bool} → ReadsMaybe inner spells spells spells extends tokens at (Ok x) →
      new ≡ max x.stop low → low ≤ length tokens → Took inner spells extends tokens at low x.part x.end new
  took_maybe {extends} read is within = took {extends = extends} x.stop new read.spells read.longest
      (omega (arith, read.bounds)) read.least is within

  -- it was stopped where it ends
  pub took_once : {extends : Option What → Bool} {room : ℕ} → ReadsMaybe room spells spells spells extends tokens at (Ok x) →
      x.stop ≡ x.end → new ≡ max x.stop low → low ≤ length tokens → Took inner spells extends tokens at low x.part x.end new
  took_once {extends} {room} read once is within = took {extends = extends} x.stop new read.spells read.longest
      (omega (arith, read.bounds)) (record { goes = inl once }) is within

pub took_only_list : {Y A : Type 0} {inner : ℕ} {spells : List Token → Spelling (List Y)} {tokens : List Token}
    {at low new : ℕ} {x : Reading (Vec Y A)} → ReadsOnlyList inner spells tokens at (Ok x) → new ≡ max x.stop low →
    low ≤ length tokens → Took inner spells never tokens at low x.part.items x.end new
took_only_list {x = x} read is within = took {extends = never} x.stop _ read.spells
    (λ others agree y to h. inl (read.only others agree y to h)) (omega (arith, read.ahead)) read.least is within

module _ {Y A : Type 0} {inner : ℕ} {spells : List Token → Spelling (List Y)} {extends : Option What → Bool}
    {tokens : List Token} {at low new : ℕ} {x : Reading (Vec Y A)} where
  pub took_list : ReadsList inner spells extends tokens at (Ok x) → new ≡ max x.stop low → low ≤ length tokens →
      Took inner spells extends tokens at low x.part.items x.end new
  took_list read is within = took {extends = extends} x.stop new read.spells read.longest (omega (arith, read.ahead))
      read.least is within

  pub took_maybe_list : ReadsMaybeList inner spells extends tokens at (Ok x) → new ≡ max x.stop low →
      low ≤ length tokens → Took inner spells extends tokens at low x.part.items x.end new
  took_maybe_list read is within = took {extends = extends} x.stop new read.spells read.longest
      (omega (arith, read.bounds)) read.least is within

-- a symbol that may be missing, and stands there
pub took_symbol : {inner : ℕ} {symbol : ℕ} {tokens : List Token} {at low new : ℕ} → HasSymbol tokens at symbol →
    at < length tokens → is_symbol symbol (Some (what.Symbol symbol)) ≡ true → new ≡ max (at + 1) low → low ≤ length tokens →
    Took inner (λ tokens. SpellsSymbolFlag tokens symbol) (is_symbol symbol) tokens at low true (at + 1) new
took_symbol {inner} {symbol} {tokens} {at} {low} {new} here there itself is within =
    took {extends = is_symbol symbol} (at + 1) new (here, refl)
    (λ others agree y to h. by others (sym (agree at (omega arith)) ∙ here) y to h) (omega (arith, there))
    (record { goes = inl refl }) is within
  where
    by : (others : List Token) → HasSymbol others at symbol → (y : Bool) (to : ℕ) → SpellsSymbolFlag others symbol at y to →
        (to ≡ at + 1) ⊎ EndsEarly (is_symbol symbol) others (at + 1) to
    by others stands true to h = inl h.1
    by others stands false to h = inr
        (omega (arith, h), subst (λ k. is_symbol symbol (what_at others k) ≡ true) (sym h) (ap (is_symbol symbol) stands ∙ itself))

-- a word that may be missing: it stands there, or doesn't
pub took_flag : {inner word : ℕ} {tokens : List Token} {at low end new : ℕ} (stands : Bool) →
    is_word word (what_at tokens at) ≡ stands → SpellsFlag tokens word at stands end → at ≤ end → end ≤ length tokens →
    is_word word (Some (what.Word word)) ≡ true → new ≡ max end low → low ≤ length tokens →
    Took inner (λ tokens. SpellsFlag tokens word) (is_word word) tokens at low stands end new
took_flag {inner} {word} {tokens} {at} {low} {end} {new} stands here spelled ahead inside itself is within =
    took {extends = is_word word} end new spelled (λ others agree y to h.
    by others stands spelled (ap (is_word word) (sym (agree at ahead)) ∙ here) y to h) (omega (arith, ahead, inside))
    (record { goes = inl refl }) is within
  where
    by : (others : List Token) (stands : Bool) → SpellsFlag tokens word at stands end →
        is_word word (what_at others at) ≡ stands → (y : Bool) (to : ℕ) → SpellsFlag others word at y to →
        (to ≡ end) ⊎ EndsEarly (is_word word) others end to
    by others false told there false to h = inl (h ∙ sym told)
    by others false told there true to h = absurd (clash _ (ap (is_word word) h.0 ∙ itself) there)
    by others true told there false to h = inr
        (omega (arith, h, told.1), subst (λ k. is_word word (what_at others k) ≡ true) (sym h) there)
    by others true told there true to h = inl (h.1 ∙ sym told.1)

-- ---- parts that were not read

module _ {Y : Type 0} {inner : ℕ} {spells : List Token → Spelling Y} {tokens : List Token} {at low : ℕ} where
  pub lacks : (halt result : Halt) → IsHalted spells tokens at halt → HaltsIn inner spells tokens at halt →
      result ≡ behind halt low → low ≤ length tokens → Lacks inner spells tokens at low result
  lacks NoMemory result refused least is within =
      subst (λ e. Lacks inner spells tokens at low e) (sym is) (record { refused = tt; least = tt })
  lacks (Refused k) result refused least is within =
      subst (λ e. Lacks inner spells tokens at low e) (sym is) (record {
        refused = (
          λ others agree y to g. refused.0 others (shorter tokens others k (max k low) (omega arith) agree) y to g,
          omega (arith, refused.1),
          omega arith,
          omega (arith, refused.2, within),
        );
        least = (k, refused.1, refused.2, least, refl);
      })

  -- where what stands before it was told another token, and neither is behind the first of its own
  pub lacks_past : (before : ℕ) (halt result : Halt) → IsHalted spells tokens at halt → HaltsIn inner spells tokens at halt →
      result ≡ behind halt before → max before at ≡ max low at → low ≤ length tokens →
      Lacks inner spells tokens at low result
  lacks_past before NoMemory result refused least is before_it within = lacks NoMemory result refused least is within
  lacks_past before (Refused k) result refused least is before_it within =
      let same : max k before ≡ max k low = omega (arith, before_it, refused.1) in
      lacks (Refused k) result refused least (is ∙ ap Refused same) within

  -- nothing before it was stopped behind it
  pub lacks_first : (halt : Halt) → IsHalted spells tokens at halt → HaltsIn inner spells tokens at halt → low ≤ at →
      Lacks inner spells tokens at low halt
  lacks_first NoMemory refused least below = record { refused = tt; least = tt }
  lacks_first (Refused k) refused least below = record {
    refused = (refused.0, refused.1, omega (arith, refused.1), refused.2);
    least = (k, refused.1, refused.2, least, omega (arith, refused.1));
  }

-- ---- the end of a rule

halted : {X : Type 0} (whole : List Token → Spelling X) (tokens : List Token) (from : ℕ) (halt : Halt) →
    IsStopped whole tokens from 0 halt → IsHalted whole tokens from halt
halted whole tokens from NoMemory h = tt
halted whole tokens from (Refused k) h = (h.0, h.1, h.3)

module _ {X : Type 0} {room : ℕ} {whole : List Token → Spelling X} {tokens : List Token} {from : ℕ} where
  done : {early : Option What → Bool} {low : ℕ} (at stop new : ℕ) → Walk room whole tokens from low End tt early at stop →
      new ≡ max stop at → GoesBehind room whole tokens from low at new
  done {early} {low} at stop new a is = states.done room whole tokens from low at stop new
      (state_as room whole tokens from low (Left End) Ends at at stop stop a.level (omega arith) a.level.inside (inl refl)
      (λ others alike end h. (tt, h))) is

  longest_of : {early : Option What → Bool} {low : ℕ} (extends : Option What → Bool) (at stop new : ℕ) →
      Walk room whole tokens from low End tt early at stop → new ≡ max stop at →
      ((token : Option What) → early token ≡ true → extends token ≡ true) → IsLongest whole extends tokens from at new
  longest_of {early} {low} extends at stop new a is more = λ others agree x to h.
      by others to (a.goes others (shorter tokens others stop new (omega (arith, is)) agree) x to h)
    where
      by : (others : List Token) (to : ℕ) → Left End others at to ⊎ EndsEarly early others at to →
          (to ≡ at) ⊎ EndsEarly extends others at to
      by others to (inl g) = inl g.1
      by others to (inr e) = inr (e.0, more (what_at others to) e.1)

module _ {X Y : Type 0} {room : ℕ} {whole : List Token → Spelling X} {told : List Token → Spelling Y}
    {tokens : List Token} {from : ℕ} where
  -- a part that has one end
  pub only : (y : Y) {at stop new : ℕ} → Walk room whole tokens from 0 End tt never at stop → new ≡ max stop at →
      from < at → told tokens from y at →
      ReadsOnlyAs room told whole tokens from (Ok (record { part = y; end = at; stop = new }))
  only y {at} {stop} {new} a is ahead spelled = record {
    spells = spelled;
    only = λ others agree x to h.
        by others to (a.goes others (shorter tokens others stop new (omega (arith, is)) agree) x to h);
    ahead = omega (arith, ahead, is, a.inside, a.level.inside);
    refused = tt;
    least = states.goes_in_told room whole tokens from 0 (omega arith) at new (omega (arith, a.level.near))
        (done at stop new a is);
  }
    where
      by : (others : List Token) (to : ℕ) → Left End others at to ⊎ EndsEarly never others at to → to ≡ at
      by others to (inl g) = g.1
      by others to (inr e) = absurd (clash _ e.1 refl)

  -- a part that a token of `extends` may go on with
  pub longest : {early extends : Option What → Bool} (y : Y) {at stop new : ℕ} →
      Walk room whole tokens from 0 End tt early at stop → new ≡ max stop at →
      ((token : Option What) → early token ≡ true → extends token ≡ true) → from < at → told tokens from y at →
      ReadsAs room told whole extends tokens from (Ok (record { part = y; end = at; stop = new }))
  longest {early} {extends} y {at} {stop} {new} a is more ahead spelled = record {
    spells = spelled;
    longest = longest_of extends at stop new a is more;
    ahead = omega (arith, ahead, is, a.inside, a.level.inside);
    refused = tt;
    least = states.goes_in_told room whole tokens from 0 (omega arith) at new (omega (arith, a.level.near))
        (done at stop new a is);
  }

  -- a part that may be empty
  pub maybe : {early extends : Option What → Bool} (y : Y) {at stop new : ℕ} →
      Walk room whole tokens from 0 End tt early at stop → new ≡ max stop at →
      ((token : Option What) → early token ≡ true → extends token ≡ true) → told tokens from y at →
      ReadsMaybe room told whole whole extends tokens from (Ok (record { part = y; end = at; stop = new }))
  maybe {early} {extends} y {at} {stop} {new} a is more spelled = record {
    spells = spelled;
    longest = longest_of extends at stop new a is more;
    bounds = omega (arith, a.level.near, is, a.near, a.inside, a.level.inside);
    refused = tt;
    least = states.goes_in_told room whole tokens from 0 (omega arith) at new (omega (arith, a.level.near))
        (done at stop new a is);
  }

  -- ---- nothing is read

  pub none_only : (halt : Halt) → Lacks room whole tokens from 0 halt →
      ReadsOnlyAs room told whole tokens from (Err halt)
  none_only halt t = record {
    spells = tt;
    only = tt;
    ahead = tt;
    refused = halted whole tokens from halt t.refused;
    least = states.halts_in room whole tokens from 0 (omega arith) halt t.least;
  }

  pub none_longest : {extends : Option What → Bool} (halt : Halt) → Lacks room whole tokens from 0 halt →
      ReadsAs room told whole extends tokens from (Err halt)
  none_longest halt t = record {
    spells = tt;
    longest = tt;
    ahead = tt;
    refused = halted whole tokens from halt t.refused;
    least = states.halts_in room whole tokens from 0 (omega arith) halt t.least;
  }
