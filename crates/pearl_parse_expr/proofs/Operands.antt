-- References, primaries that are made of them, and operands: what is known of each from the part that it ends with.
use Rattle.std.proofs.Common.{◌≡◌, ℕ, ◌+◌, ◌<◌, ◌≤◌, ◌^◌, true, List, length, Option, Some, None, Vec, Ok, Err}
use Rattle.std.proofs.Common.{inr, refl, sym, ap, subst, ◌∙◌, arith}
use Rattle.pearl_tree.specs.declared.name.Number.{Number}
use Rattle.pearl_tree.specs.declared.literal.Literal.TheVariants as literal
use Rattle.pearl_tree.specs.declared.expression.Monadic.{Monadic}
use Rattle.pearl_tree.specs.declared.expression.Operand.{Operand}
use Rattle.pearl_tree.specs.declared.expression.Primary.{Primary}
use Rattle.pearl_tree.specs.declared.expression.Primary as primary
use Rattle.pearl_tree.specs.declared.expression.Ref.{Ref}
use Rattle.pearl_tree.specs.declared.expression.Selector.{Selector}
use Rattle.pearl_tree.specs.declared.expression.Side.{Side}
use Rattle.pearl_tree.specs.declared.token.Token.{Token}
use Rattle.pearl_tree.specs.Standing.{what_at, HasWord, SpellsMaybe, SpellsNumber}
use Rattle.pearl_tree.specs.Expressions.{SpellsPrimary, SpellsRef, side_word}
use Rattle.pearl_tree.proofs.Offered.{spells_ref}
use Rattle.pearl_parse_expr.specs.declared.reading.Halt.{Halt}
use Rattle.pearl_parse_expr.specs.declared.reading.Halt.TheVariants.{Refused}
use Rattle.pearl_parse_expr.specs.declared.reading.Reading.{Reading}
use Rattle.pearl_parse_expr.specs.Stops.{Stuck, extends_operand, is_name, extends_monadics, SpellsNamed}
use Rattle.pearl_parse_expr.specs.Stops.{SpellsMonadics, SpellsOperand, SpellsSigned}
use Rattle.pearl_parse_expr.specs.Least.{Reaches}
use Rattle.pearl_parse_expr.specs.Reads.{Reads, ReadsAs, ReadsMaybeList}
use Rattle.pearl_parse_expr.proofs.Halts.{stuck_of}
use Rattle.pearl_parse_expr.proofs.Joining.{ref_reaches, limit_reaches, operand_reaches}
use Rattle.pearl_parse_expr.proofs.Limits.{same_monadics, with_array, without_array, without_number, number_before}
use Rattle.pearl_parse_expr.proofs.Parts.{shorter}
use Rattle.pearl_parse_expr.proofs.Primaries.{only_named}
use Rattle.pearl_parse_expr.proofs.Reaching.{goes_as, reached_halt}
use Rattle.pearl_parse_expr.proofs.Readings.{Ends, Begins, Carries, longest_read, unread, read_to}

module _ (tokens : List Token) (depth from : ℕ) where
  -- ---- a primary that is a reference

  module _ (few : length tokens < 2 ^ 55) (name : is_name (what_at tokens from) ≡ true) where
    ref_ends : Ends (λ tokens. SpellsNamed tokens depth) (λ tokens. SpellsPrimary tokens depth) tokens from from
    ref_ends others stop near agree x to h =
        only_named others depth from (ap is_name (sym (agree from near)) ∙ name) x to h

    ref_begins : Begins (λ tokens. SpellsNamed tokens depth) (λ tokens. SpellsPrimary tokens depth) tokens from from
    ref_begins others stop near agree x to h =
        let read = ref_ends others stop near agree x to h in (read.0, to, read.1)

    ref_carries : Carries (λ tokens. SpellsNamed tokens depth) (λ tokens. SpellsPrimary tokens depth) tokens from from
        16 16
    ref_carries stop near within r = ref_reaches tokens depth from stop few within r

    pub ref_unread : (halt : Halt) →
        ReadsAs 16 (λ tokens. SpellsRef tokens depth) (λ tokens. SpellsNamed tokens depth) extends_operand tokens from
        (Err halt) → Reads 16 (λ tokens. SpellsPrimary tokens depth) extends_operand tokens from (Err halt)
    ref_unread halt read =
        longest_read _
        (unread (λ tokens. SpellsNamed tokens depth) (λ tokens. SpellsPrimary tokens depth) tokens from from halt
        (omega arith) ref_begins ref_carries read.refused read.least)

    pub ref_read : (reading : Reading Ref) →
        ReadsAs 16 (λ tokens. SpellsRef tokens depth) (λ tokens. SpellsNamed tokens depth) extends_operand tokens from
        (Ok reading) →
        Reads 16 (λ tokens. SpellsPrimary tokens depth) extends_operand tokens from
        (Ok (record { part = primary.Ref reading.part; end = reading.end; stop = reading.stop }))
    ref_read reading read =
        read_to (λ tokens. SpellsNamed tokens depth) (λ tokens. SpellsPrimary tokens depth) tokens from from
        (record { part = primary.Ref reading.part; end = reading.end; stop = reading.stop }) (omega arith) ref_ends
        ref_carries (subst (λ X. X) (sym (spells_ref tokens depth from reading.part reading.end)) read.spells)
        read.longest read.ahead read.least

  -- ---- an operand, whose operators were read

  module _ {A : Type 0} (monadics : Reading (Vec Monadic A))
      (signs : ReadsMaybeList 16 SpellsMonadics extends_monadics tokens from (Ok monadics))
      (once : monadics.stop ≡ monadics.end) where
    operand_ends : Ends (λ tokens. SpellsPrimary tokens depth) (λ tokens. SpellsSigned tokens depth) tokens from
        monadics.end
    operand_ends others stop near agree x to h = (
      x,
      same_monadics others depth from monadics.end
          (λ list m g. signs.longest others
          (shorter tokens others monadics.stop stop (omega (arith, once, near)) agree) list m g) x to h,
    )

    operand_begins : Begins (λ tokens. SpellsPrimary tokens depth) (λ tokens. SpellsSigned tokens depth) tokens from
        monadics.end
    operand_begins others stop near agree x to h =
        let read = operand_ends others stop near agree x to h in (read.0, to, read.1)

    operand_carries : Carries (λ tokens. SpellsPrimary tokens depth) (λ tokens. SpellsSigned tokens depth)
        tokens from monadics.end 16 16
    operand_carries stop near within r =
        operand_reaches tokens depth from monadics.end stop monadics.part.items signs.spells.1 signs.spells.0
        signs.bounds.0 near r

    pub operand_unread : (halt : Halt) →
        Reads 16 (λ tokens. SpellsPrimary tokens depth) extends_operand tokens monadics.end (Err halt) →
        ReadsAs 16 (λ tokens. SpellsOperand tokens depth) (λ tokens. SpellsSigned tokens depth) extends_operand tokens
        from (Err halt)
    operand_unread halt read =
        longest_read _
        (unread (λ tokens. SpellsPrimary tokens depth) (λ tokens. SpellsSigned tokens depth) tokens from monadics.end
        halt signs.bounds.0 operand_begins operand_carries read.refused read.least)

    pub operand_read : (reading : Reading Primary) (operand : Operand) →
        Reads 16 (λ tokens. SpellsPrimary tokens depth) extends_operand tokens monadics.end (Ok reading) →
        SpellsOperand tokens depth from operand reading.end →
        ReadsAs 16 (λ tokens. SpellsOperand tokens depth) (λ tokens. SpellsSigned tokens depth) extends_operand tokens
        from (Ok (record { part = operand; end = reading.end; stop = reading.stop }))
    operand_read reading operand read spells =
        read_to (λ tokens. SpellsPrimary tokens depth) (λ tokens. SpellsSigned tokens depth) tokens from monadics.end
        (record { part = operand; end = reading.end; stop = reading.stop }) signs.bounds.0 operand_ends operand_carries
        spells read.longest read.ahead read.least

  -- ---- a question for a bound of an array, from what stands behind LWB or UPB

  module _ (word : ℕ) (dimension : Option Number) (side : Side)
      (number : SpellsMaybe (SpellsNumber tokens) from dimension word)
      (stands : HasWord tokens word (side_word side)) (few : length tokens < 2 ^ 55) where
    limit_carries : Carries (λ tokens. SpellsNamed tokens depth) (λ tokens. SpellsPrimary tokens depth)
        tokens from (word + 1) 16 16
    limit_carries stop near within r =
        limit_reaches tokens depth from word stop dimension side number stands (omega arith) few within r

    pub limit_read : (reading : Reading Ref) (part : Primary) →
        ReadsAs 16 (λ tokens. SpellsRef tokens depth) (λ tokens. SpellsNamed tokens depth) extends_operand tokens
        (word + 1) (Ok reading) → SpellsPrimary tokens depth from part reading.end →
        Reads 16 (λ tokens. SpellsPrimary tokens depth) extends_operand tokens from
        (Ok (record { part = part; end = reading.end; stop = reading.stop }))
    limit_read reading part read spells =
        let before = number_before tokens from word dimension number in
        record {
          spells = spells;
          longest = λ others agree x to h.
              with_array tokens others depth from word reading.end reading.stop dimension side
              number stands read.ahead.0
              read.ahead.1 read.longest agree x to h;
          ahead = (omega (arith, before, read.ahead), read.ahead.1, read.ahead.2);
          refused = tt;
          least = goes_as (λ tokens. SpellsNamed tokens depth) (λ tokens. SpellsPrimary tokens depth) tokens from
              (word + 1)
              reading.end reading.stop (λ r. limit_carries reading.stop (omega (arith, read.ahead)) read.ahead.2 r)
              read.least;
        }

    -- no array is read: the number alone, if there is one
    module _ (halt : Halt) (stop : ℕ) (refused : halt ≡ Refused stop)
        (read : ReadsAs {X = List Selector} {Y = Ref} 16 (λ tokens. SpellsRef tokens depth)
        (λ tokens. SpellsNamed tokens depth)
        extends_operand tokens (word + 1) (Err halt)) where
      missing : Stuck (λ tokens. SpellsNamed tokens depth) tokens (word + 1) stop ×
          (word + 1 ≤ stop) × (stop ≤ length tokens)
      missing = stuck_of (λ tokens. SpellsNamed tokens depth) tokens (word + 1) stop halt refused read.refused

      reaches : Reaches (λ tokens. SpellsPrimary tokens depth) tokens from stop
      reaches =
          limit_carries stop missing.1 missing.2
          (reached_halt (λ tokens. SpellsNamed tokens depth) tokens (word + 1) stop halt refused read.least)

      pub number_read : (x : Number) → dimension ≡ Some x →
          Reads 16 (λ tokens. SpellsPrimary tokens depth) extends_operand tokens from
          (Ok (record { part = primary.Literal (literal.Number x); end = from + 1; stop = stop }))
      number_read x is =
          let counted = subst (λ dimension. SpellsMaybe (SpellsNumber tokens) from dimension word) is number in
          record {
            spells = (counted.0, refl);
            longest = λ others agree y to h.
                without_array tokens others depth from word stop dimension side number stands
                missing.1 missing.0 agree y to h;
            ahead = (omega arith, omega (arith, counted.1, missing.1), missing.2);
            refused = tt;
            least = record { goes = inr reaches };
          }

      pub number_missing : dimension ≡ None →
          Reads 16 (λ tokens. SpellsPrimary tokens depth) extends_operand tokens from (Err (Refused stop))
      number_missing none = record {
        spells = tt;
        longest = tt;
        ahead = tt;
        refused = (
          λ others agree y to h.
              without_number tokens others depth from word stop dimension side number stands missing.1
              missing.0 agree none y to h,
          omega (arith, number_before tokens from word dimension number, missing.1),
          missing.2,
        );
        least = reaches;
      }
