-- Parts that stand one after the other, as they are read: the list that a loop keeps, one part more, and its end.
use Rattle.std.proofs.Common.{◌≡◌, ℕ, ◌+◌, ◌≤◌, max, Bool, true, List, [], ◌∷◌, ◌++◌, Vec, length, Option, Result}
use Rattle.std.proofs.Common.{Ok, Err, inr, refl, subst, arith}
use Rattle.pearl_tree.specs.declared.statement.Branch.{Branch}
use Rattle.pearl_tree.specs.declared.token.What.{What}
use Rattle.pearl_tree.specs.declared.token.Token.{Token}
use Rattle.pearl_tree.specs.Standing.{Spelling, what_at, HasWord, SpellsEach}
use Rattle.pearl_tree.specs.Statements.{SpellsBranch}
use Rattle.pearl_tree.specs.declared.word_code.TheConstants as w
use Rattle.pearl_parse_expr.specs.declared.reading.Halt.{Halt}
use Rattle.pearl_parse_expr.specs.declared.reading.Halt.TheVariants.{Refused, NoMemory}
use Rattle.pearl_parse_expr.specs.declared.reading.Reading.{Reading}
use Rattle.pearl_parse_expr.specs.Stops.{StopsWithin}
use Rattle.pearl_parse_expr.specs.Reads.{ReadsOnly, ReadsMaybe}
use Rattle.pearl_parse_expr.specs.Readings.{ended}
use Rattle.pearl_parse_expr.proofs.Offered.{each_one_more}
use Rattle.pearl_parse_decl.proofs.Offered.{Kept}
use Rattle.pearl_parse.specs.Stops.{begins_statement}
use Rattle.pearl_parse.specs.Bodies.{SpellsHeaded}
use Rattle.pearl_grammar.specs.Reached.{GoesBehind}
use Rattle.pearl_parse.specs.Reads.{ReadsBehind, ReadsListBehind}
use Rattle.pearl_parse.proofs.Repetitions.{EachGoes, each_next, each_ends}
use Rattle.pearl_parse.proofs.RepeatedLeast.{none_least, next_least, end_least}
use Rattle.pearl_parse.proofs.Choices.{ChoicesGo, choices_begin, choices_next}
use Rattle.pearl_parse.proofs.NestedLeast.{branch_kept}
use Rattle.pearl_grammar.proofs.Offered.{goes_in_told, halts_in}

-- { part }, read up to number `end` behind what was stopped at `low`
pub record EachRead {X : Type 0} (part : List Token → Spelling X) (begins : Option What → Bool) (tokens : List Token)
    (from low : ℕ) (xs : List X) (end stop : ℕ) : Type 0 where
  pub spells : SpellsEach (part tokens) from xs end
  pub goes : EachGoes part begins tokens from end stop
  pub bounds : StopsWithin tokens from low end stop
  pub least : GoesBehind 24 (λ tokens. SpellsEach (part tokens)) tokens from low end stop

module _ {X : Type 0} (part : List Token → Spelling X) (begins : Option What → Bool) (tokens : List Token)
    (from low : ℕ) where
  abbrev Each : List Token → Spelling (List X)
  Each tokens = SpellsEach (part tokens)

  pub each_none : from ≤ low → low ≤ length tokens → EachRead part begins tokens from low [] from low
  each_none near within = record {
    spells = refl;
    goes = λ others agree xs to h. inr (xs, h);
    bounds = (omega arith, near, omega arith, within);
    least = none_least part tokens from low low (omega (arith, near));
  }

  pub each_more : Kept 1 part →
      ((tokens : List Token) (from : ℕ) (x : X) (to : ℕ) → part tokens from x to →
      begins (what_at tokens from) ≡ true) → (xs : List X) (end stop : ℕ) →
      EachRead part begins tokens from low xs end stop → (next : Reading X) → ReadsOnly 24 part tokens end (Ok next) →
      EachRead part begins tokens from low (xs ++ next.part ∷ []) next.end (max stop next.stop)
  each_more kept first xs end stop before next read = record {
    spells = each_one_more (part tokens) xs from end next.end next.part before.spells read.spells;
    goes = each_next part begins tokens from end stop next.end next.stop (max stop next.stop) before.goes
        (omega (arith, before.bounds)) (omega (arith, read.ahead)) (omega arith) (omega arith)
        (first tokens end next.part next.end read.spells) read.only;
    bounds = (
      omega (arith, before.bounds, read.ahead),
      omega (arith, read.ahead),
      omega (arith, before.bounds),
      omega (arith, before.bounds, read.ahead),
    );
    least = next_least part tokens from low 1 kept xs end stop before.spells before.least next.end next.stop
        (max stop next.stop) (omega (arith, read.ahead)) (omega (arith, read.ahead)) read.least refl;
  }

  pub each_ended : {A : Type 0} → Kept 1 part → (list : Reading (Vec X A)) →
      EachRead part begins tokens from low list.part.items list.end list.stop → (halt : Halt) →
      ReadsOnly 24 part tokens list.end (Err halt) →
      ReadsListBehind 24 Each Each begins tokens from from low (ended list halt)
  each_ended {A} kept list before NoMemory read =
      record { spells = tt; longest = tt; bounds = tt; refused = tt; least = tt }
  each_ended {A} kept list before (Refused at) read = record {
    spells = before.spells;
    longest = each_ends part begins tokens from list.end list.stop at (max list.stop at) before.goes (omega arith)
        (omega arith) read.refused.0;
    bounds = (
      before.bounds.0,
      omega (arith, before.bounds),
      omega (arith, before.bounds),
      omega (arith, before.bounds, read.refused.2),
    );
    refused = tt;
    least = end_least part tokens from low 1 kept list.part.items list.end list.stop before.spells before.least
        (Refused at) at (max list.stop at) refl read.least read.refused.1 refl;
  }

  -- where nothing stands before them
  pub each_maybe : {A : Type 0} (result : Result (Reading (Vec X A)) Halt) → low ≡ from →
      ReadsListBehind 24 Each Each begins tokens from from low result →
      ReadsMaybe 24 (λ tokens from list to. Each tokens from list.items to) Each Each begins tokens from result
  each_maybe {A} (Ok list) is read = record {
    spells = read.spells;
    longest = read.longest;
    bounds = (read.bounds.0, read.bounds.1, omega (arith, read.bounds), read.bounds.3);
    refused = tt;
    least = goes_in_told 24 Each tokens from low (omega (arith, is)) list.end list.stop read.bounds.0 read.least;
  }
  each_maybe {A} (Err NoMemory) is read =
      record { spells = tt; longest = tt; bounds = tt; refused = tt; least = tt }
  each_maybe {A} (Err (Refused at)) is read = record {
    spells = tt;
    longest = tt;
    bounds = tt;
    refused = (read.refused.0, read.refused.1, read.refused.3);
    least = halts_in 24 Each tokens from low (omega (arith, is)) (Refused at) read.least;
  }

-- { ALT { stmt } }, the same
pub record ChoicesRead (tokens : List Token) (depth from low : ℕ) (xs : List Branch) (end stop : ℕ) : Type 0 where
  pub spells : SpellsEach (SpellsBranch tokens depth w.ALT) from xs end
  pub goes : ChoicesGo tokens depth from end stop
  pub bounds : StopsWithin tokens from low end stop
  pub least : GoesBehind 24 (λ tokens. SpellsEach (SpellsBranch tokens depth w.ALT)) tokens from low end stop

module _ (tokens : List Token) (depth from low : ℕ) where
  abbrev BranchOf : List Token → Spelling Branch
  BranchOf tokens = SpellsBranch tokens depth w.ALT

  pub choices_none : from ≤ low → low ≤ length tokens → ChoicesRead tokens depth from low [] from low
  choices_none near within = record {
    spells = refl;
    goes = choices_begin tokens depth from low;
    bounds = (omega arith, near, omega arith, within);
    least = none_least BranchOf tokens from low low (omega (arith, near));
  }

  pub choices_more : (xs : List Branch) (end stop : ℕ) → ChoicesRead tokens depth from low xs end stop →
      HasWord tokens end w.ALT → (next : Reading Branch) →
      ReadsBehind 24 BranchOf (SpellsHeaded depth w.ALT) BranchOf begins_statement tokens end (end + 1) stop (Ok next) →
      ChoicesRead tokens depth from low (xs ++ next.part ∷ []) next.end (max stop next.stop)
  choices_more xs end stop before here next read =
      let same : next.stop ≡ max stop next.stop = omega (arith, read.bounds) in
      subst (λ stop. ChoicesRead tokens depth from low (xs ++ next.part ∷ []) next.end stop) same
      (record {
        spells = each_one_more (BranchOf tokens) xs from end next.end next.part before.spells read.spells;
        goes = choices_next tokens depth from end stop next.end next.stop before.goes (omega (arith, before.bounds))
            (omega (arith, read.bounds)) read.bounds.2 here read.longest;
        bounds = (
          omega (arith, before.bounds, read.bounds),
          read.bounds.1,
          omega (arith, before.bounds, read.bounds),
          read.bounds.3,
        );
        least = next_least BranchOf tokens from low 1 (branch_kept depth w.ALT) xs end stop before.spells before.least
            next.end read.least.0 next.stop (omega (arith, read.bounds)) read.least.1 read.least.2
            (omega (arith, read.least.3));
      })
