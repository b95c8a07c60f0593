-- Pieces of files one after another, and what a sink has taken after two pieces.
use Rattle.std.proofs.Common.{◌≡◌, ℕ, ◌+◌, ◌≤◌, List, ◌++◌, length, take, drop, Option, Some, None, ap, ◌∙◌, sym, arith, append_assoc}
use Rattle.std.proofs.lemmas.List.{take-append-le, take-take, length-take, length-take-le, length-drop, length-append}
use Rattle.std.proofs.Math.Seq.{take-add, take-append-add}
use Rattle.pearl_io.specs.Outside.{IsPiece, Takes, TakesFront}

-- the next piece of a file, or its front, goes on where the bytes so far end
pub read_on : (file bytes into rest new : List ℕ) (at count some : ℕ) → at ≡ length bytes →
    bytes ≡ take (length bytes) file → IsPiece file at count into → some ≤ count →
    new ≡ bytes ++ take some (into ++ rest) →
    (new ≡ take (length new) file) × (length new ≡ length bytes + some)
read_on file bytes into rest new at count some place front piece less is =
    let fits : count ≤ length into =
    omega (arith, ap length piece.same, length-take count into, length-take count (drop at file), length-drop at file, piece.within) in
    let cut : take some (into ++ rest) ≡ take some into = take-append-le some into rest (omega arith) in
    let first : take some (take count into) ≡ take some into = take-take some count into less in
    let second : take some (take count (drop at file)) ≡ take some (drop at file) = take-take some count (drop at file) less in
    let both : take some into ≡ take some (drop at file) = sym first ∙ (ap (take some) piece.same ∙ second) in
    let there : take some (drop at file) ≡ take some (drop (length bytes) file) = ap (λ n. take some (drop n file)) place in
    let head : bytes ++ take some (drop (length bytes) file) ≡ take (length bytes) file ++ take some (drop (length bytes) file) =
    ap (λ b. b ++ take some (drop (length bytes) file)) front in
    let whole : new ≡ take (length bytes + some) file =
    is ∙ (ap (λ t. bytes ++ t) (cut ∙ (both ∙ there)) ∙ (head ∙ sym (take-add (length bytes) some file))) in
    let long : length new ≡ length bytes + some =
    omega (arith, ap length is, length-append bytes (take some (into ++ rest)), ap length cut, length-take-le some into (omega arith)) in
    (rw long whole, long)

-- two pieces taken one after the other are their joined bytes taken
pub takes_more : (old mid new : Option (List ℕ)) (first second : List ℕ) →
    Takes old mid first → Takes mid new second → Takes old new (first ++ second)
takes_more None mid new first second before after = rw before at after
takes_more (Some bytes) mid new first second before after =
    (rw before at after) ∙ ap Some (append_assoc bytes first second)

-- a whole piece and then a front of a second are a front of their joined bytes
pub takes_front_more : (old mid new : Option (List ℕ)) (first second : List ℕ) →
    Takes old mid first → TakesFront mid new second → TakesFront old new (first ++ second)
takes_front_more old mid new first second before after = (
  length first + after.0,
  omega (arith, after.1, length-append first second),
  rw take-append-add (takes_more old mid new first (take after.0 second) before after.2),
)
