-- N2 over an object's leaves is N2 over its tables.
use Rattle.std.proofs.Common.{◌≡◌, ℕ, zero, suc, ◌+◌, ◌-◌, ◌≤◌, List, [], ◌∷◌, ◌++◌, length, refl, sym, ap, subst, ◌∙◌, arith}
use Rattle.std.specs.Prelude.{◌↔◌, map, replicate}
use Rattle.std.proofs.lemmas.List.{length-map, length-append, length-replicate, map-append}
use Rattle.std.specs.List.{AllByRecursion, AllZip, flat_map}
use Rattle.pearl_value.specs.declared.kind.Kind.{Kind}
use Rattle.pearl_value.specs.declared.cell.Cell.{Cell}
use Rattle.pearl_value.specs.Blanks.{blank_of, last_or}
use Rattle.pearl_value.specs.Cells.{kind_of}
use Rattle.pearl_value.specs.WellFormed.{IsValueOf}
use Rattle.pearl_value.proofs.Offered.{blank_gives}
use Rattle.pearl_rules.specs.Slots.{IsLike}
use Rattle.pearl_instructions.specs.declared.object.Leaf.{Leaf}
use Rattle.pearl_instructions.specs.declared.object.Parts.{Parts as Object}
use Rattle.pearl_instructions.specs.Lawful.{IsLeaf, IsObject}
use Rattle.pearl_instructions.specs.Setups.{entry_of, first_cells, setup_of}
use Rattle.pearl_records.specs.declared.record.CoreRecord.{CoreRecord}
use Rattle.pearl_records.specs.States as states
use Rattle.pearl_snap.specs.Parts.{slot_kinds, HasParts}

-- values of one kind have this kind, each
kinds_are : (kind : Kind) (xs : List Cell) → AllByRecursion (IsValueOf kind) xs → map kind_of xs ≡ replicate (length xs) kind
kinds_are kind [] h = refl
kinds_are kind (x ∷ xs) h = ap (λ k. k ∷ map kind_of xs) h.0.same_kind ∙ ap (λ ks. kind ∷ ks) (kinds_are kind xs h.1)

last_kind : (kind : Kind) (x : Cell) (xs : List Cell) → IsValueOf kind x → AllByRecursion (IsValueOf kind) xs → kind_of (last_or x xs) ≡ kind
last_kind kind x [] is all = is.same_kind
last_kind kind x (y ∷ rest) is all = last_kind kind y rest all.0 all.1

so_many : (n : ℕ) (x : Cell) → map kind_of (replicate n x) ≡ replicate n (kind_of x)
so_many zero x = refl
so_many (suc n) x = ap (λ ks. kind_of x ∷ ks) (so_many n x)

joined : (m n : ℕ) (kind : Kind) → replicate m kind ++ replicate n kind ≡ replicate (m + n) kind
joined zero n kind = ap (λ k. replicate k kind) (omega arith)
joined (suc m) n kind = let e : suc (m + n) ≡ suc m + n = omega arith in ap (λ ks. kind ∷ ks) (joined m n kind) ∙ ap (λ k. replicate k kind) e

leaf_kinds : (leaf : Leaf) → IsLeaf leaf → map kind_of (first_cells leaf) ≡ replicate leaf.slots leaf.kind
leaf_kinds leaf is =
    let constants = leaf.constants in
    let n = leaf.slots - length constants in
    let last = last_or (blank_of leaf.kind) constants in
    let few = is.few in
    let all : length constants + n ≡ leaf.slots = omega (arith, few) in
    map-append kind_of constants (replicate n last)
    ∙ ap (λ ks. ks ++ map kind_of (replicate n last)) (kinds_are leaf.kind constants is.constants)
    ∙ ap (λ ks. replicate (length constants) leaf.kind ++ ks) (so_many n last ∙ ap (replicate n) (last_kind leaf.kind (blank_of leaf.kind) constants (blank_gives leaf.kind is.kind) is.constants))
    ∙ joined (length constants) n leaf.kind
    ∙ ap (λ k. replicate k leaf.kind) all

-- the first values of all slots have the kinds of their leaves
kinds_alike : (leaves : List Leaf) → AllByRecursion IsLeaf leaves → map kind_of (flat_map first_cells leaves) ≡ flat_map (λ leaf. replicate leaf.slots leaf.kind) leaves
kinds_alike [] h = refl
kinds_alike (leaf ∷ leaves) h =
    map-append kind_of (first_cells leaf) (flat_map first_cells leaves)
    ∙ ap (λ ks. ks ++ map kind_of (flat_map first_cells leaves)) (leaf_kinds leaf h.0)
    ∙ ap (λ ks. replicate leaf.slots leaf.kind ++ ks) (kinds_alike leaves h.1)

zip_alike : (firsts : List Cell) (xs : List Cell) → AllZip IsValueOf (map kind_of firsts) xs ↔ AllZip IsLike firsts xs
zip_alike [] [] = (λ h. h, λ h. h)
zip_alike [] (x ∷ xs) = (λ h. absurd h, λ h. absurd h)
zip_alike (y ∷ firsts) [] = (λ h. absurd h, λ h. absurd h)
zip_alike (y ∷ firsts) (x ∷ xs) = let more = zip_alike firsts xs in (λ h. (h.0, more.0 h.1), λ h. (h.0, more.1 h.1))

pub parts_alike : (o : Object) (core : CoreRecord) → IsObject o → states.HasParts (setup_of o) core ↔ HasParts o core
parts_alike o core lawful =
    let kinds = kinds_alike o.leaves lawful.leaves in
    let zips = zip_alike (flat_map first_cells o.leaves) core.slots in
    let tasks : length (map entry_of o.tasks) ≡ length o.tasks = length-map o.tasks entry_of in (
      λ h. record {
        slots = subst (λ ks. AllZip IsValueOf ks core.slots) kinds (zips.1 h.slots);
        as_many_counts = h.as_many_counts;
        counts = h.counts;
        switches = h.switches;
        as_many_terminals = h.as_many_terminals;
        terminals = h.terminals;
        inputs = h.inputs;
        tasks = h.tasks ∙ tasks;
      },
      λ h. record {
        slots = zips.0 (subst (λ ks. AllZip IsValueOf ks core.slots) (sym kinds) h.slots);
        as_many_counts = h.as_many_counts;
        counts = h.counts;
        switches = h.switches;
        as_many_terminals = h.as_many_terminals;
        terminals = h.terminals;
        inputs = h.inputs;
        tasks = h.tasks ∙ sym tasks;
      },
    )
