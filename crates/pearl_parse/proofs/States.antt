-- How far a reader has come behind words, symbols and names, and where parts make wholes of another kind.
use Rattle.std.proofs.Common.{◌≡◌, ℕ, ◌+◌, ◌*◌, ◌<◌, ◌≤◌, ◌⊎◌, inl, inr, max, Bool, List, length, Option, Some}
use Rattle.std.proofs.Common.{Result, Ok, Err, refl, sym, subst, ◌∙◌, arith}
use Rattle.std.specs.Result.{IsErr, IsErrAnd}
use Rattle.pearl_tree.specs.declared.name.Name.{Name}
use Rattle.pearl_tree.specs.declared.token.Token.{Token}
use Rattle.pearl_tree.specs.declared.token.What.{What}
use Rattle.pearl_tree.specs.Standing.{Spelling, HasWord, HasSymbol, IsName, SpellsName}
use Rattle.pearl_tree.specs.Expressions.{SpellsWhole}
use Rattle.pearl_tree.specs.Statements.{SpellsAfter}
use Rattle.pearl_parse_expr.specs.declared.reading.Halt.{Halt}
use Rattle.pearl_parse_expr.specs.declared.reading.Halt.TheVariants.{Refused, NoMemory}
use Rattle.pearl_parse_expr.specs.Stops.{IsHalted}
use Rattle.pearl_parse_expr.specs.Least.{ReachesIn, GoesIn, HaltsIn}
use Rattle.pearl_parse_expr.proofs.Offered.{stuck_of, reached_halt, IsLocal}
use Rattle.pearl_parse_expr.proofs.Offered as local
use Rattle.pearl_parse.specs.Stops.{IsMissing}
use Rattle.pearl_grammar.specs.Reached.{GoesBehind, HaltsBehind}
use Rattle.pearl_grammar.proofs.Offered as states
use Rattle.pearl_grammar.proofs.Offered.{Rest, Next, Fills, State, moved, halt_part, past_part}
use Rattle.pearl_parse.proofs.Comes.{BehindWord, BehindSymbol, Maybe, come_word}
use Rattle.pearl_parse.proofs.Comes.{come_symbol, come_name}

module _ {X : Type 0} (room : ℕ) (whole : List Token → Spelling X) (tokens : List Token) (from low : ℕ) where
  abbrev pub At : Rest → ℕ → ℕ → Type 0
  At = State room whole tokens from low

  pub past_word : (word : ℕ) (rest : Rest) (at stop next : ℕ) → next ≡ at + 1 → At (BehindWord word rest) at stop →
      HasWord tokens at word → at < length tokens → At rest next stop
  past_word word rest at stop next is a here within =
      subst (λ k. At rest k stop) (sym is)
      (moved room whole tokens from low (BehindWord word rest) rest at stop (at + 1) a (omega arith) (omega arith)
      (come_word whole tokens from word rest at here a.comes))

  pub past_symbol : (symbol : ℕ) (rest : Rest) (at stop next : ℕ) → next ≡ at + 1 →
      At (BehindSymbol symbol rest) at stop → HasSymbol tokens at symbol → at < length tokens → At rest next stop
  past_symbol symbol rest at stop next is a here within =
      subst (λ k. At rest k stop) (sym is)
      (moved room whole tokens from low (BehindSymbol symbol rest) rest at stop (at + 1) a (omega arith) (omega arith)
      (come_symbol whole tokens from symbol rest at here a.comes))

  pub past_name : (name : Name) (rest : Rest) (at stop next : ℕ) → next ≡ at + 1 → At (Next SpellsName rest) at stop →
      IsName tokens at name → at < length tokens → At rest next stop
  past_name name rest at stop next is a here within =
      subst (λ k. At rest k stop) (sym is)
      (moved room whole tokens from low (Next SpellsName rest) rest at stop (at + 1) a (omega arith) (omega arith)
      (come_name whole tokens from name rest at here a.comes))

  module _ (n : ℕ) (rest : Rest) (fills : Fills n rest) (few : n ≤ room) where
    -- a token that is not there
    pub halt_token : (wanted : Option What → Bool) (at stop : ℕ) (halt : Halt) → At rest at stop →
        IsMissing tokens wanted at stop halt → HaltsBehind room whole tokens from low halt
    halt_token wanted at stop NoMemory a h = absurd h
    halt_token wanted at stop (Refused k) a h =
        states.halt_token room whole tokens from low n rest fills few at stop k a h.1

  module _ {Y : Type 0} (n inner : ℕ) (spells : List Token → Spelling Y) (rest : Rest) (is_local : IsLocal spells)
      (fills : Fills n rest) (few : n ≤ room)
      (at stop : ℕ) (fits : inner + n + 8 * from ≤ room + 8 * at) (a : At (Next spells rest) at stop) where
    -- a part that is not there, where it is not told what stands before it
    pub halt_first : {Z : Type 0} (any : List Token → Spelling Z) (halt : Halt) → stop ≤ at →
        IsHalted any tokens at halt → HaltsIn inner spells tokens at halt → HaltsBehind room whole tokens from low halt
    halt_first any NoMemory below h r = tt
    halt_first any (Refused k) below h r =
        halt_part room whole tokens from low n inner spells rest is_local fills few at stop fits a (Refused k)
        (k, h.1, h.2, r, omega (arith, h.1, below))

    -- behind a part that was read, where it is not told what stands before it
    pub past_first : (y : Y) (end new : ℕ) → spells tokens at y end → at ≤ end → new ≤ length tokens → stop ≤ at →
        end ≤ new → GoesIn inner spells tokens at end new → At rest end new
    past_first y end new h ahead within below near g =
        past_part room whole tokens from low n inner spells rest is_local fills few at stop fits a y end new h ahead
        within (new, near, g, omega arith)

-- ---- a part that makes a whole of some other kind

module _ {X Y : Type 0} (inner room : ℕ) (spells : List Token → Spelling X) (whole : List Token → Spelling Y)
    (tokens : List Token) (from at : ℕ) (near : from ≤ at)
    (step : (stop : ℕ) → at ≤ stop → ReachesIn inner spells tokens at stop →
    ReachesIn room whole tokens from stop) where
  pub goes_as : (end stop : ℕ) → at ≤ stop → GoesIn inner spells tokens at end stop →
      GoesIn room whole tokens from end stop
  goes_as end stop ahead g = record { goes = by g.goes }
    where
      by : (stop ≡ end) ⊎ ReachesIn inner spells tokens at stop → (stop ≡ end) ⊎ ReachesIn room whole tokens from stop
      by (inl e) = inl e
      by (inr r) = inr (step stop ahead r)

  pub halts_as : (halt : Halt) → IsHalted spells tokens at halt → HaltsIn inner spells tokens at halt →
      HaltsIn room whole tokens from halt
  halts_as NoMemory h r = tt
  halts_as (Refused k) h r = step k h.1 r

  pub told_as : (low end stop : ℕ) → at ≤ end → GoesBehind inner spells tokens at low end stop →
      GoesBehind room whole tokens from low end stop
  told_as low end stop ahead t = (t.0, t.1, goes_as end t.0 (omega (arith, t.1)) t.2, t.3)

  pub halts_behind_as : (low : ℕ) (halt : Halt) → HaltsBehind inner spells tokens at low halt →
      HaltsBehind room whole tokens from low halt
  halts_behind_as low NoMemory h = tt
  halts_behind_as low (Refused k) h = (h.0, omega (arith, h.1), h.2, step h.0 h.1 h.3, h.4)

-- a part that may be missing, where it is not
pub some_reaches : {X : Type 0} (room : ℕ) (spells : List Token → Spelling X) (tokens : List Token) (from stop : ℕ) →
    from ≤ stop → ReachesIn room spells tokens from stop →
    ReachesIn room (Maybe spells) tokens from stop
some_reaches room spells tokens from stop near r =
    record {
      others = r.others;
      alike = r.alike;
      long = r.long;
      short = r.short;
      lawful = r.lawful;
      part = Some r.part;
      spelled = r.spelled;
    }

-- a word, and an expression behind it
pub after_reaches : (tokens : List Token) (word from : ℕ) → HasWord tokens from word → (stop : ℕ) → from + 1 ≤ stop →
    ReachesIn 16 SpellsWhole tokens (from + 1) stop →
    ReachesIn 8 (λ tokens. SpellsAfter tokens word) tokens from stop
after_reaches tokens word from here stop near r =
    let short : length r.others + 8 * from ≤ 9 * stop + 8 = omega (arith, r.short) in
    record {
      others = r.others;
      alike = r.alike;
      long = r.long;
      short = short;
      lawful = r.lawful;
      part = r.part;
      spelled = (local.what tokens r.others stop r.alike from (omega arith) ∙ here, r.spelled);
    }

-- nothing was read
pub told_none : {X : Type 0} (room : ℕ) (spells : List Token → Spelling X) (tokens : List Token) (from low stop : ℕ) →
    stop ≡ max from low → GoesBehind room spells tokens from low from stop
told_none room spells tokens from low stop is = (from, omega arith, record { goes = inl refl }, is)

-- ---- a part that was read for itself, or was not, where it is told no earlier than at `low`

module _ {X : Type 0} (spells : List Token → Spelling X) (tokens : List Token) (from : ℕ) where
  pub read_behind : (end stop low new : ℕ) → end ≤ stop → GoesIn 16 spells tokens from end stop → new ≡ max stop low →
      GoesBehind 16 spells tokens from low end new
  read_behind end stop low new near g is = (stop, near, g, is)

  pub halted_behind : (halt : Halt) (stop low new : ℕ) → halt ≡ Refused stop → IsHalted spells tokens from halt →
      HaltsIn 16 spells tokens from halt → new ≡ max stop low →
      HaltsBehind 16 spells tokens from low (Refused new)
  halted_behind halt stop low new same h r is =
      let stuck = stuck_of spells tokens from stop halt same h in
      (stop, stuck.1, stuck.2, reached_halt spells tokens from stop halt same r, is)

-- what `?` hands on
pub handed_on : {X E : Type 0} (P : Result X E → Type 0) (Q : E → Type 0) (told : E) (result : Result X E) →
    IsErr result × IsErrAnd result Q → ((e : E) → Q e → e ≡ told) → P (Err told) → P result
handed_on P Q told (Ok x) h step p = absurd h.1
handed_on P Q told (Err e) h step p = subst (λ e. P (Err e)) (sym (step e h.1)) p
