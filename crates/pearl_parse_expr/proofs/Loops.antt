-- Monadic operators, selectors, and operands with operators between them, as far as they are read: what the loops keep,
-- and what it comes to.
use Rattle.std.proofs.Common.{◌≡◌, ℕ, ◌+◌, ◌<◌, ◌≤◌, ◌⊎◌, max, List, [], ◌∷◌, ◌++◌, length, None, Ok, Err, Vec}
use Rattle.std.proofs.Common.{inl, inr, refl, sym, subst, arith, length-append}
use Rattle.std.specs.Option.{option_and_then}
use Rattle.pearl_tree.specs.declared.expression.Dyadic.{Dyadic}
use Rattle.pearl_tree.specs.declared.expression.Expr.{Expr}
use Rattle.pearl_tree.specs.declared.expression.Expr as tree
use Rattle.pearl_tree.specs.declared.expression.Monadic.{Monadic}
use Rattle.pearl_tree.specs.declared.expression.Operand.{Operand}
use Rattle.pearl_tree.specs.declared.expression.Selector.{Selector}
use Rattle.pearl_tree.specs.declared.token.Token.{Token}
use Rattle.pearl_tree.specs.Standing.{what_at, IsAt}
use Rattle.pearl_tree.specs.Expressions.{SpellsTerms, SpellsExpr, SpellsMonadic, SpellsSelector, HasDyad, dyad_of}
use Rattle.pearl_tree.specs.Expressions.{dyad_count}
use Rattle.pearl_parse_expr.specs.declared.reading.Halt.{Halt}
use Rattle.pearl_parse_expr.specs.declared.reading.Halt.TheVariants.{Refused, NoMemory}
use Rattle.pearl_parse_expr.specs.declared.reading.Reading.{Reading}
use Rattle.pearl_parse_expr.specs.Stops.{IsLongest, IsAhead, StopsWithin, extends_operand}
use Rattle.pearl_parse_expr.specs.Stops.{extends_expression, SpellsOperand, SpellsSigned}
use Rattle.pearl_parse_expr.specs.Stops.{SpellsSelectorsList, SpellsMonadics, monad_of, extends_monadics}
use Rattle.pearl_parse_expr.specs.Least.{Reaches}
use Rattle.pearl_parse_expr.specs.Readings.{ended}
use Rattle.pearl_parse_expr.specs.Reads.{Reads, ReadsAs, ReadsMaybeList, ReadsOnly}
use Rattle.pearl_parse_expr.proofs.Chains.{ChainGoes, chain_begins, chain_goes_on, chain_ends, chain_is_stuck}
use Rattle.pearl_parse_expr.proofs.Chains.{chain_is_full, no_chain_halted}
use Rattle.pearl_parse_expr.proofs.Joining.{selector_keeps, selector_reach, signed_reach}
use Rattle.pearl_parse_expr.proofs.Joining.{selectors_begin, chain_reaches, chain_goes_further}
use Rattle.pearl_parse_expr.proofs.Limits.{each_ends, monadics_longest}
use Rattle.pearl_parse_expr.proofs.ListReach.{each_goes_on}
use Rattle.pearl_parse_expr.proofs.Lists.{each_one_more}
use Rattle.pearl_parse_expr.proofs.Parts.{shorter, SelectorsGo, selectors_next, selectors_end}
use Rattle.pearl_parse_expr.proofs.Primaries.{selector_extends}
use Rattle.pearl_parse_expr.proofs.Reaching.{goes, halts_as, reaches_max}

-- ---- monadic operators

-- these operators were read up to `end`
pub record MonadicsRead (tokens : List Token) (from : ℕ) (list : List Monadic) (end stop : ℕ) : Type 0 where
  pub spells : SpellsMonadics tokens from list end
  pub once : stop ≡ end
  pub within : end ≤ length tokens

module _ (tokens : List Token) (from : ℕ) where
  pub monadics_none : from ≤ length tokens → MonadicsRead tokens from [] from from
  monadics_none within = record { spells = (omega arith, refl); once = refl; within = within }

  pub monadics_more : (xs : List Monadic) (end stop : ℕ) (x : Monadic) → MonadicsRead tokens from xs end stop →
      length xs < 8 → end < length tokens → SpellsMonadic tokens end x (end + 1) →
      MonadicsRead tokens from (xs ++ x ∷ []) (end + 1) (max stop (end + 1))
  monadics_more xs end stop x kept few within h = record {
    spells = (
      omega (arith, length-append xs (x ∷ [])),
      each_one_more (SpellsMonadic tokens) xs from end (end + 1) x kept.spells.1 h,
    );
    once = omega (arith, kept.once);
    within = omega arith;
  }

  -- none follows, or no more are allowed
  pub monadics_read : {A : Type 0} (list : Reading (Vec Monadic A)) →
      MonadicsRead tokens from list.part.items list.end list.stop →
      (length list.part.items ≡ 8) ⊎ (option_and_then monad_of (what_at tokens list.end) ≡ None) →
      ReadsMaybeList 16 SpellsMonadics extends_monadics tokens from (Ok list)
  monadics_read list kept all =
      let after : from ≤ list.end = omega (arith, each_ends tokens from list.part.items list.end kept.spells.1) in
      record {
        spells = kept.spells;
        longest = λ others agree theirs to h.
            monadics_longest tokens others from list.end list.part.items kept.spells.1 all
            (shorter tokens others list.end list.stop (omega (arith, kept.once)) agree) theirs to h;
        bounds = (
          after,
          omega (arith, kept.once),
          omega (arith, kept.once),
          omega (arith, kept.once, kept.within),
        );
        refused = tt;
        least = record { goes = inl kept.once };
      }

-- ---- selectors

-- these selectors were read up to `end`, and some go on as far as `stop`
pub record SelectorsRead (tokens : List Token) (depth from : ℕ) (list : List Selector) (end stop : ℕ) : Type 0 where
  pub spells : SpellsSelectorsList tokens depth from list end
  pub goes : SelectorsGo tokens depth from end stop
  pub bounds : StopsWithin tokens from from end stop
  pub reach : Reaches (λ tokens. SpellsSelectorsList tokens depth) tokens from stop

module _ (tokens : List Token) (depth from : ℕ) where
  pub selectors_none : from ≤ length tokens → SelectorsRead tokens depth from [] from from
  selectors_none within = record {
    spells = refl;
    goes = λ others agree xs to h. inr (xs, h);
    bounds = (omega arith, omega arith, omega arith, within);
    reach = selectors_begin tokens depth from within;
  }

  module _ (xs : List Selector) (end stop : ℕ) (kept : SelectorsRead tokens depth from xs end stop) where
    pub selectors_more : (next : Reading Selector) →
        ReadsOnly 16 (λ tokens. SpellsSelector tokens depth) tokens end (Ok next) →
        SelectorsRead tokens depth from (xs ++ next.part ∷ []) next.end (max stop next.stop)
    selectors_more next read =
        let ahead : end < next.end = omega (arith, read.ahead) in
        record {
          spells = each_one_more (SpellsSelector tokens depth) xs from end next.end next.part kept.spells read.spells;
          goes = selectors_next tokens depth from end stop next.end next.stop (max stop next.stop) kept.goes
              kept.bounds.1 ahead (omega arith) (omega arith)
              (selector_extends tokens depth end next.part next.end read.spells) read.only;
          bounds = (
            omega (arith, kept.bounds, ahead),
            omega (arith, read.ahead),
            omega (arith, kept.bounds),
            omega (arith, kept.bounds, read.ahead),
          );
          reach = reaches_max (λ tokens. SpellsSelectorsList tokens depth) tokens from stop next.stop
              (max stop next.stop) refl kept.reach
              (each_goes_on 1 16 (λ tokens. SpellsSelector tokens depth) (selector_keeps depth) tokens from next.stop xs
              end kept.spells (omega (arith, read.ahead)) (selector_reach tokens depth end next read));
        }

  -- none follows
  pub selectors_ended : {A : Type 0} (list : Reading (Vec Selector A)) →
      SelectorsRead tokens depth from list.part.items list.end list.stop → (halt : Halt) →
      ReadsOnly 16 (λ tokens. SpellsSelector tokens depth) tokens list.end (Err halt) →
      ReadsMaybeList 16 (λ tokens. SpellsSelectorsList tokens depth) extends_operand tokens from (ended list halt)
  selectors_ended list kept NoMemory read = record { spells = tt; longest = tt; bounds = tt; refused = tt; least = tt }
  selectors_ended list kept (Refused at) read =
      let lists = λ (tokens : List Token). SpellsSelectorsList tokens depth in
      let stop = max list.stop at in
      record {
        spells = kept.spells;
        longest = selectors_end tokens depth from list.end list.stop at stop kept.goes (omega arith) (omega arith)
            read.refused.0;
        bounds = (
          kept.bounds.0,
          omega (arith, kept.bounds),
          omega (arith, kept.bounds),
          omega (arith, kept.bounds, read.refused.2),
        );
        refused = tt;
        least = goes lists tokens from list.end stop
            (reaches_max lists tokens from list.stop at stop refl kept.reach
            (each_goes_on 1 16 (λ tokens. SpellsSelector tokens depth) (selector_keeps depth) tokens from at
            list.part.items list.end kept.spells read.refused.1 read.least));
      }

-- ---- operands with operators between them

-- an expression with this many operators was read up to `end`, and some goes on as far as `stop`
pub record ChainRead (tokens : List Token) (depth from : ℕ) (part : Expr) (count end stop : ℕ) : Type 0 where
  pub spells : SpellsTerms tokens depth from part end
  pub counted : dyad_count part ≡ count
  pub goes : ChainGoes tokens depth from end stop count
  pub ahead : IsAhead tokens from end stop
  pub few : count ≤ 100
  pub reach : Reaches (λ tokens. SpellsExpr tokens depth) tokens from stop

module _ (tokens : List Token) (depth from : ℕ) where
  pub chain_one : (first : Reading Operand) →
      ReadsAs 16 (λ tokens. SpellsOperand tokens depth) (λ tokens. SpellsSigned tokens depth)
      extends_operand tokens from
      (Ok first) → ChainRead tokens depth from (tree.Operand first.part) 0 first.end first.stop
  chain_one first read = record {
    spells = read.spells;
    counted = refl;
    goes = chain_begins tokens depth from first.end first.stop read.longest;
    ahead = read.ahead;
    few = omega arith;
    reach = chain_reaches tokens depth from first.stop (signed_reach tokens depth from first read);
  }

  pub chain_unread : (halt : Halt) →
      ReadsAs 16 (λ tokens. SpellsOperand tokens depth) (λ tokens. SpellsSigned tokens depth)
      extends_operand tokens from
      (Err halt) → Reads 16 (λ tokens. SpellsExpr tokens depth) extends_expression tokens from (Err halt)
  chain_unread halt read = record {
    spells = tt;
    longest = tt;
    ahead = tt;
    refused = no_chain_halted tokens depth from halt read.refused;
    least = halts_as (λ tokens. SpellsSigned tokens depth) (λ tokens. SpellsExpr tokens depth) tokens from from halt
        (λ stop near within r. chain_reaches tokens depth from stop r) read.refused read.least;
  }

  module _ (reading : Reading Expr) (count : ℕ)
      (kept : ChainRead tokens depth from reading.part count reading.end reading.stop) where
    chain_read_to : (new : ℕ) → reading.end ≤ new → new ≤ length tokens →
        IsLongest (λ tokens. SpellsExpr tokens depth) extends_expression tokens from reading.end new →
        Reaches (λ tokens. SpellsExpr tokens depth) tokens from new →
        Reads 16 (λ tokens. SpellsExpr tokens depth) extends_expression tokens from
        (Ok (record { part = reading.part; end = reading.end; stop = new }))
    chain_read_to new near within longest reach = record {
      spells = (kept.spells, omega (arith, kept.counted, kept.few));
      longest = longest;
      ahead = (kept.ahead.0, near, within);
      refused = tt;
      least = goes (λ tokens. SpellsExpr tokens depth) tokens from reading.end new reach;
    }

    -- no operator follows
    pub chain_read : option_and_then dyad_of (what_at tokens reading.end) ≡ None →
        Reads 16 (λ tokens. SpellsExpr tokens depth) extends_expression tokens from (Ok reading)
    chain_read none =
        chain_read_to reading.stop kept.ahead.1 kept.ahead.2
        (chain_ends tokens depth from reading.end reading.stop count kept.goes kept.ahead.1 none) kept.reach

    -- no more operators are allowed
    pub chain_read_full : 100 ≤ count →
        Reads 16 (λ tokens. SpellsExpr tokens depth) extends_expression tokens from (Ok reading)
    chain_read_full full =
        chain_read_to reading.stop kept.ahead.1 kept.ahead.2
        (chain_is_full tokens depth from reading.end reading.stop count kept.goes full) kept.reach

    -- an operator follows
    module _ (dyadic : Dyadic) (few : count < 100) (has : HasDyad tokens reading.end dyadic.operator)
        (at : IsAt tokens reading.end dyadic.place) where
      further : (stop : ℕ) → reading.end < stop →
          Reaches (λ tokens. SpellsSigned tokens depth) tokens (reading.end + 1) stop →
          Reaches (λ tokens. SpellsExpr tokens depth) tokens from stop
      further stop near r =
          chain_goes_further tokens depth from reading.end stop reading.part dyadic kept.spells
          (omega (arith, kept.counted, few)) has at (omega (arith, kept.ahead)) near r

      reaches : (stop : ℕ) → reading.end < stop →
          Reaches (λ tokens. SpellsSigned tokens depth) tokens (reading.end + 1) stop →
          Reaches (λ tokens. SpellsExpr tokens depth) tokens from (max reading.stop stop)
      reaches stop near r =
          reaches_max (λ tokens. SpellsExpr tokens depth) tokens from reading.stop stop (max reading.stop stop) refl
          kept.reach (further stop near r)

      -- and an operand
      pub chain_more : (next : Reading Operand) (joined : Expr) (new : ℕ) → new ≡ max reading.stop next.stop →
          SpellsTerms tokens depth from joined next.end → dyad_count joined ≡ dyad_count reading.part + 1 →
          ReadsAs 16 (λ tokens. SpellsOperand tokens depth) (λ tokens. SpellsSigned tokens depth) extends_operand tokens
          (reading.end + 1) (Ok next) → ChainRead tokens depth from joined (count + 1) next.end new
      chain_more next joined new last spelled counted read =
          let ahead : reading.end < next.end = omega (arith, read.ahead) in
          record {
            spells = spelled;
            counted = omega (arith, counted, kept.counted);
            goes = chain_goes_on tokens depth from reading.end reading.stop next.end next.stop new count
                dyadic.operator kept.goes kept.ahead.1 ahead (omega (arith, last)) (omega (arith, last)) has
                read.longest;
            ahead = (
              omega (arith, kept.ahead, ahead),
              omega (arith, read.ahead, last),
              omega (arith, kept.ahead, read.ahead, last),
            );
            few = omega (arith, few);
            reach = subst (λ k. Reaches (λ tokens. SpellsExpr tokens depth) tokens from k) (sym last)
                (reaches next.stop (omega (arith, read.ahead)) (signed_reach tokens depth (reading.end + 1) next read));
          }

      -- and no operand
      pub chain_ended : (halt : Halt) →
          ReadsAs 16 (λ tokens. SpellsOperand tokens depth) (λ tokens. SpellsSigned tokens depth) extends_operand tokens
          (reading.end + 1) (Err halt) →
          Reads 16 (λ tokens. SpellsExpr tokens depth) extends_expression tokens from (ended reading halt)
      chain_ended NoMemory read = record { spells = tt; longest = tt; ahead = tt; refused = tt; least = tt }
      chain_ended (Refused missing) read =
          chain_read_to (max reading.stop missing) (omega (arith, kept.ahead))
          (omega (arith, kept.ahead, read.refused.2))
          (chain_is_stuck tokens depth from reading.end reading.stop missing (max reading.stop missing) count kept.goes
          (omega arith) (omega arith) read.refused.0)
          (reaches missing (omega (arith, read.refused.1)) read.least)
