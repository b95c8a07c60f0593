-- How the carrying out of a journal ends, from what was read of it.
use Rattle.std.proofs.Common.{◌≡◌, ◌≤◌, ◌<◌, ◌+◌, ℕ, List, [], ◌∷◌, ◌++◌, Option, Some, Result, Err, length, take, true, refl, ap, sym, ◌∙◌, subst, arith, length-append}
use Rattle.std.specs.Prelude.{OnOk, IfErr}
use Rattle.std.proofs.lemmas.List.{length-take, take_all}
use Rattle.pearl_io.specs.Outside.{Files, IsPiece, content}
use Rattle.pearl_io.proofs.Offered.{read_on as read_more}
use Rattle.pearl_rules.specs.declared.setup.Setup.{Setup}
use Rattle.pearl_script.specs.declared.refusal.Refusal.TheVariants.{Read, TooLong}
use Rattle.pearl_journal.specs.Entries.{All}
use Rattle.pearl_journal.specs.Lines.{ended_lines}
use Rattle.pearl_journal.specs.Pieces.{HasNoWhole, Kept, read_on, reading_at}
use Rattle.pearl_top.specs.declared.failure.Failure.{Failure}
use Rattle.pearl_top.specs.declared.failure.Failure.TheVariants as failure
use Rattle.pearl_top.specs.declared.limits.TheConstants.{JOURNAL_LIMIT}
use Rattle.pearl_top.specs.Going.{Going, GoesInTurn}
use Rattle.pearl_top.specs.Reading.{MayHave}
use Rattle.pearl_top.specs.Replay.{Carried, CarriesOut, IsFailure, IsUnread, LinesDone, Progress}
use Rattle.pearl_top.proofs.DueLaws.{ended_done, ends_at, fails_at, handled-long}
use Rattle.pearl_top.proofs.LineLaws.{carried-then, fails-then}
use Rattle.pearl_top.proofs.Explained.{explained, may_have, explains_fault, explains_long, explains_whole}

-- the bytes read so far and those of one more piece are the first ones of the file
pub front_more : (held later : Option Files) (name bytes into rest piece : List ℕ) (place count some : ℕ) → later ≡ held → length bytes ≡ place →
    ((files : Files) → held ≡ Some files → bytes ≡ take (length bytes) (content files name)) →
    ((files : Files) → later ≡ Some files → IsPiece (content files name) place count into) → some ≤ count → piece ≡ take some (into ++ rest) →
    (files : Files) → held ≡ Some files → bytes ++ piece ≡ take (length (bytes ++ piece)) (content files name)
front_more held later name bytes into rest piece place count some same far front pieces less is files tells =
    (read_more (content files name) bytes into rest (bytes ++ piece) place count some (sym far) (front files tells) (pieces files (same ∙ tells)) less
    (ap (λ x. bytes ++ x) is)).0

-- how long it is
pub piece_size : (into rest : List ℕ) (some : ℕ) → some ≤ length into → length (take some (into ++ rest)) ≡ some
piece_size into rest some less = omega (arith, length-take some (into ++ rest), length-append into rest)

-- WHAT WAS CARRIED OUT

module _ {X : Type 0} (g : Going X) (turn : GoesInTurn g) (begin : Kept) (unread : IsUnread begin) where
  -- all of the file was read
  pub ends_whole : (r : Result (Unit {0}) Failure) (held later : Option Files) (name into : List ℕ) (place count : ℕ) (kept last after : Kept) (seen there now : X)
      (old between new : Option (List ℕ)) (rose failed wider : Type 0) → (failed → wider) → place ≤ JOURNAL_LIMIT → later ≡ held →
      ((files : Files) → later ≡ Some files → IsPiece (content files name) place count into) → count ≡ 0 → Progress g held name place begin kept seen there old between →
      ((setup : Setup) (now : ℕ) → read_on setup last now [] ≡ read_on setup kept now []) → after.is_finished ≡ true → OnOk r (HasNoWhole after) →
      OnOk r (Carried g last there [] after now between new) → IfErr r (λ why. IsFailure g why last there [] now between new failed) →
      (file : List ℕ) × MayHave held name file × CarriesOut g r (reading_at begin (g.moment seen)) file rose wider seen now old new
  ends_whole r held later name into place count kept last after seen there now old between new rose failed wider widen within same pieces none progress ends finished h done fails =
      let bytes : List ℕ = progress.bytes in
      let all : (files : Files) → held ≡ Some files → bytes ≡ content files name = λ files tells.
      let end : length (content files name) ≤ place = (pieces files (same ∙ tells)).end none in
      progress.front files tells ∙ take_all (length bytes) (content files name) (omega (arith, end, progress.far)) in (
        explained held name bytes,
        may_have held name bytes,
        subst (λ file. CarriesOut g r (reading_at begin (g.moment seen)) file rose wider seen now old new) (explains_whole held name bytes all)
            (ends_at g turn begin unread r kept last after seen there now bytes old between new rose failed wider widen (omega (arith, progress.far, within)) progress.carried ends finished h
            done fails),
      )

  -- reading failed
  pub ends_fault : (held : Option Files) (name : List ℕ) (place : ℕ) (kept : Kept) (seen now : X) (old new : Option (List ℕ)) (rose failed : Type 0) → rose →
      place ≤ JOURNAL_LIMIT → HasNoWhole kept → Progress g held name place begin kept seen now old new →
      (file : List ℕ) × MayHave held name file × CarriesOut g (Err (failure.Refused Read)) (reading_at begin (g.moment seen)) file rose failed seen now old new
  ends_fault held name place kept seen now old new rose failed cause within h progress =
      let bytes : List ℕ = progress.bytes in
      let file : List ℕ = explained held name bytes in (
        file,
        may_have held name bytes,
        (
          cause,
          length bytes,
          omega (arith, progress.far, within),
          subst (λ front. LinesDone g (reading_at begin (g.moment seen)) (ended_lines front) All seen now old new) (explains_fault held name bytes progress.front)
              (ended_done g turn begin unread kept seen now bytes old new h progress.carried),
        ),
      )

  -- it was carried out
  pub progress_more : (held later : Option Files) (name into rest piece : List ℕ) (place count some : ℕ) (kept after : Kept) (seen there now : X)
      (old between new : Option (List ℕ)) → later ≡ held → ((files : Files) → later ≡ Some files → IsPiece (content files name) place count into) → some ≤ count →
      piece ≡ take some (into ++ rest) → length piece ≡ count → Progress g held name place begin kept seen there old between → Carried g kept there piece after now between new →
      Progress g held name (place + count) begin after seen now old new
  progress_more held later name into rest piece place count some kept after seen there now old between new same pieces less is long progress carried = record {
    bytes = progress.bytes ++ piece;
    far = omega (arith, length-append progress.bytes piece, progress.far, long);
    front = front_more held later name progress.bytes into rest piece place count some same progress.far progress.front pieces less is;
    carried = carried-then g turn begin kept after seen there now progress.bytes piece old between new progress.carried carried;
  }

  -- some of it failed
  pub ends_failed : (held later : Option Files) (name into rest piece : List ℕ) (place count some : ℕ) (kept : Kept) (seen there now : X)
      (old between new : Option (List ℕ)) (why : Failure) (rose failed wider : Type 0) → (failed → wider) → later ≡ held →
      ((files : Files) → later ≡ Some files → IsPiece (content files name) place count into) → some ≤ count → place + some ≤ JOURNAL_LIMIT →
      piece ≡ take some (into ++ rest) → Progress g held name place begin kept seen there old between → IsFailure g why kept there piece now between new failed →
      (file : List ℕ) × MayHave held name file × CarriesOut g (Err why) (reading_at begin (g.moment seen)) file rose wider seen now old new
  ends_failed held later name into rest piece place count some kept seen there now old between new why rose failed wider widen same pieces less within is progress fails =
      let bytes : List ℕ = progress.bytes ++ piece in
      let front : (files : Files) → held ≡ Some files → bytes ≡ take (length bytes) (content files name) =
      front_more held later name progress.bytes into rest piece place count some same progress.far progress.front pieces less is in (
        explained held name bytes,
        may_have held name bytes,
        fails_at g turn begin unread seen now (explained held name bytes) bytes old new why rose failed wider widen (explains_fault held name bytes front)
            (omega (arith, length-append progress.bytes piece, progress.far, ap length is, length-take some (into ++ rest)))
            (fails-then g turn begin kept seen there now progress.bytes piece old between new why failed failed (λ f. f) progress.carried fails),
      )

  -- with it the file is too long
  pub ends_long : (held later : Option Files) (name into rest piece : List ℕ) (place count some : ℕ) (kept after : Kept) (seen there now : X)
      (old between new : Option (List ℕ)) (rose failed : Type 0) → later ≡ held →
      ((files : Files) → later ≡ Some files → IsPiece (content files name) place count into) → some < count → place + some ≡ JOURNAL_LIMIT →
      piece ≡ take some (into ++ rest) → length piece ≡ some → HasNoWhole after → Progress g held name place begin kept seen there old between →
      Carried g kept there piece after now between new →
      (file : List ℕ) × MayHave held name file × CarriesOut g (Err (failure.Refused (TooLong (JOURNAL_LIMIT + 1)))) (reading_at begin (g.moment seen)) file rose failed seen now old new
  ends_long held later name into rest piece place count some kept after seen there now old between new rose failed same pieces less full is size h progress carried =
      let bytes : List ℕ = progress.bytes ++ piece in
      let file : List ℕ = explained held name (bytes ++ 0 ∷ []) in
      let limit : length bytes ≡ JOURNAL_LIMIT = omega (arith, length-append progress.bytes piece, progress.far, size, full) in
      let long : (JOURNAL_LIMIT < length file) × (bytes ≡ take JOURNAL_LIMIT file) = explains_long held name bytes JOURNAL_LIMIT limit (λ files tells. (
        omega (arith, (pieces files (same ∙ tells)).within, full),
        subst (λ n. bytes ≡ take n (content files name)) limit
            (front_more held later name progress.bytes into rest piece place count some same progress.far progress.front pieces (omega arith) is files tells),
      )) in (
        file,
        may_have held name (bytes ++ 0 ∷ []),
        (
          refl,
          long.0,
          subst (λ lines. LinesDone g (reading_at begin (g.moment seen)) lines All seen now old new) (ap ended_lines long.1 ∙ sym (handled-long file long.0))
              (ended_done g turn begin unread after seen now bytes old new h (carried-then g turn begin kept after seen there now progress.bytes piece old between new progress.carried carried)),
        ),
      )
