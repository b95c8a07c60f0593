-- What the variables of an item are.
use Rattle.std.proofs.Common.{◌≡◌, ℕ, ◌<◌, ◌+◌, ℤ, Bool, true, false, cond, List, [], ◌∷◌, ◌++◌, map, length, take, drop, get_or, Option, Some, None, option_map, refl, sym, ap, subst, ◌∙◌, append_assoc, append-nil, zero, suc, is_some}
use Rattle.std.proofs.lemmas.List.{map-append}
use Rattle.std.proofs.lemmas.Option.{none-some, same_Some}
use Rattle.std.specs.List.{list_all}
use Rattle.std.specs.Option.{option_and_then}
use Rattle.pearl_tree.specs.declared.typing.Bound.{Bound}
use Rattle.pearl_names.specs.declared.layout.Laid.{Laid}
use Rattle.pearl_names.specs.declared.sense.Bounds.{Bounds}
use Rattle.pearl_names.specs.declared.types.Counts.{Counts}
use Rattle.pearl_names.specs.declared.types.Sizes.{Sizes}
use Rattle.pearl_names.specs.declared.types.StructForm.{StructForm}
use Rattle.pearl_names.specs.declared.types.TypeRef.{TypeRef}
use Rattle.pearl_names.specs.Counts.{counts, has_sound_leaves}
use Rattle.pearl_names.specs.Forms.{StandsFor, Matches}
use Rattle.pearl_names.specs.Forming.{AllMatch, IsLaid, sizes_of}
use Rattle.pearl_names.specs.Forms.{pair_of}
use Rattle.pearl_names.specs.Layout.{leaves_of, leaves_within, is_sound_leaf}
use Rattle.pearl_names.specs.Shapes.{Shape, sound_bound, sound_bounds}
use Rattle.pearl_names.specs.Tables.{Form, sound_form}
use Rattle.pearl_names.proofs.Counting.{sound_counts}
use Rattle.pearl_names.proofs.Lists.{one_taken, cut_at}

-- the TYPEs that stand before
pub all_match_take : (forms : List StructForm) (named : List (Option TypeRef)) (shapes : List (Option Shape)) (n : ℕ) → AllMatch forms named shapes →
    AllMatch forms (take n named) (take n shapes)
all_match_take forms named shapes zero h = tt
all_match_take forms [] [] (suc n) h = tt
all_match_take forms (part ∷ named) (shape ∷ shapes) (suc n) h = (h.0, all_match_take forms named shapes n h.1)
all_match_take forms [] (shape ∷ shapes) (suc n) h = absurd h
all_match_take forms (part ∷ named) [] (suc n) h = absurd h

-- the bounds are sound, and there is a type
pub laid_some : (forms : List StructForm) (sizes : Sizes) (bounds : List (ℤ × ℤ)) (part : TypeRef) (shape : Option Shape) → sizes ≡ sizes_of bounds →
    Matches forms (Some part) shape → IsLaid forms (Some (record { sizes = sizes; part = part })) (Some bounds) shape
laid_some forms sizes bounds part (Some shape) same m = (same, m)
laid_some forms sizes bounds part None same m = absurd m

-- there is none
pub laid_none : (forms : List StructForm) (bounds : List (ℤ × ℤ)) (shape : Option Shape) → Matches forms None shape → IsLaid forms None (Some bounds) shape
laid_none forms bounds None m = tt
laid_none forms bounds (Some shape) m = absurd m

-- the bounds are not sound
pub unsized : (forms : List StructForm) (bounds : Option (List (ℤ × ℤ))) (shape : Option Shape) → None ≡ option_map sizes_of bounds → IsLaid forms None bounds shape
unsized forms None shape h = tt
unsized forms (Some bounds) shape h = absurd (none-some (sizes_of bounds) h)

-- they are
pub sized : (forms : List StructForm) (bounds : Option (List (ℤ × ℤ))) (shape : Option Shape) (sizes : Sizes) (laid : Option Laid) → Some sizes ≡ option_map sizes_of bounds →
    ((own : List (ℤ × ℤ)) → sizes ≡ sizes_of own → IsLaid forms laid (Some own) shape) → IsLaid forms laid bounds shape
sized forms None shape sizes laid h step = absurd (none-some sizes (sym h))
sized forms (Some bounds) shape sizes laid h step = step bounds (same_Some sizes (sizes_of bounds) h)

pub some_counted : (forms : List StructForm) (laid : Laid) (counted : Counts) (bounds : Option (List (ℤ × ℤ))) (shape : Option Shape) → IsLaid forms (Some laid) bounds shape →
    ((own : List (ℤ × ℤ)) (s : Shape) → laid.sizes ≡ sizes_of own → StandsFor forms laid.part s → counted ≡ counts (leaves_of [] own s)) →
    Some counted ≡ option_map counts (leaves_within bounds shape)
some_counted forms laid counted (Some bounds) (Some s) h each = ap Some (each bounds s h.0 h.1)
some_counted forms laid counted None shape h each = absurd h
some_counted forms laid counted (Some bounds) None h each = absurd h

pub none_counted : (forms : List StructForm) (bounds : Option (List (ℤ × ℤ))) (shape : Option Shape) → IsLaid forms None bounds shape → None ≡ option_map counts (leaves_within bounds shape)
none_counted forms None shape h = refl
none_counted forms (Some bounds) None h = refl
none_counted forms (Some bounds) (Some s) h = absurd h

abbrev shape_in : Option Form → Option Shape
shape_in form = option_map (λ form. form.shape) form

module _ (forms : List StructForm) (laid : Laid) (counted : Counts) (each : (own : List (ℤ × ℤ)) (s : Shape) → laid.sizes ≡ sizes_of own → StandsFor forms laid.part s → counted ≡ counts (leaves_of [] own s)) where
  sound : (bounds : List (ℤ × ℤ)) (s : Shape) (b : Bool) → IsLaid forms (Some laid) (Some bounds) (Some s) → has_sound_leaves counted ≡ b → list_all is_sound_leaf (leaves_of [] bounds s) ≡ b
  sound bounds s b h is = sym (sound_counts (leaves_of [] bounds s)) ∙ ap has_sound_leaves (sym (each bounds s h.0 h.1)) ∙ is

  pub some_sound : (bounds : Option (List (ℤ × ℤ))) (shape : Option Shape) → IsLaid forms (Some laid) bounds shape → has_sound_leaves counted ≡ true →
      Matches forms (Some laid.part) (shape_in (sound_form bounds shape))
  some_sound (Some bounds) (Some s) h is =
      subst (λ b. Matches forms (Some laid.part) (shape_in (cond b (Some (record { bounds = bounds; shape = s })) None))) (sym (sound bounds s true h is)) h.1
  some_sound None shape h is = absurd h
  some_sound (Some bounds) None h is = absurd h

  pub some_unsound : (bounds : Option (List (ℤ × ℤ))) (shape : Option Shape) → IsLaid forms (Some laid) bounds shape → has_sound_leaves counted ≡ false →
      Matches forms None (shape_in (sound_form bounds shape))
  some_unsound (Some bounds) (Some s) h is =
      subst (λ b. Matches forms None (shape_in (cond b (Some (record { bounds = bounds; shape = s })) None))) (sym (sound bounds s false h is)) tt
  some_unsound None shape h is = absurd h
  some_unsound (Some bounds) None h is = absurd h

pub none_sound : (forms : List StructForm) (bounds : Option (List (ℤ × ℤ))) (shape : Option Shape) → IsLaid forms None bounds shape → Matches forms None (shape_in (sound_form bounds shape))
none_sound forms None shape h = tt
none_sound forms (Some bounds) None h = tt
none_sound forms (Some bounds) (Some s) h = absurd h

pub some_if : {X Y : Type 0} (f : X → Y) (b : Bool) (x : X) → is_some (option_map f (cond b (Some x) None)) ≡ b
some_if f true x = refl
some_if f false x = refl

-- what a loop over bounds has found: all so far are sound
pub record BoundsSo (found : List Bounds) (bounds : List Bound) : Type 0 where
  pub sound_so : (rest : List Bound) → sound_bounds (bounds ++ rest) ≡ option_map (λ more. map pair_of found ++ more) (sound_bounds rest)

pub bounds_none : (found : List Bounds) → found ≡ [] → BoundsSo found []
bounds_none found none = record { sound_so = λ rest. same (sound_bounds rest) ∙ ap (λ l. option_map (λ more. map pair_of l ++ more) (sound_bounds rest)) (sym none) }
  where
    same : (o : Option (List (ℤ × ℤ))) → o ≡ option_map (λ more. more) o
    same None = refl
    same (Some x) = refl

pub bounds_more : (found new : List Bounds) (xs : List Bound) (i : ℕ) (x : Bound) (own : Bounds) → i < length xs → x ≡ get_or xs i x → BoundsSo found (take i xs) →
    Some (pair_of own) ≡ sound_bound x → new ≡ found ++ own ∷ [] → BoundsSo new (take (i + 1) xs)
bounds_more found new xs i x own inside is so h pushed =
    subst (BoundsSo new) (sym (one_taken xs i x inside is))
    (record {
      sound_so = λ rest.
          ap sound_bounds (append_assoc (take i xs) (x ∷ []) rest) ∙ so.sound_so (x ∷ rest)
          ∙ ap (λ o. option_map (λ more. map pair_of found ++ more) (option_and_then (λ pair. option_map (λ pairs. pair ∷ pairs) (sound_bounds rest)) o)) (sym h)
          ∙ joined (sound_bounds rest);
    })
  where
    joined : (o : Option (List (ℤ × ℤ))) → option_map (λ more. map pair_of found ++ more) (option_map (λ pairs. pair_of own ∷ pairs) o) ≡ option_map (λ more. map pair_of new ++ more) o
    joined None = refl
    joined (Some more) =
        ap Some (sym (append_assoc (map pair_of found) (pair_of own ∷ []) more)
        ∙ ap (λ l. l ++ more) (sym (ap (map pair_of) pushed ∙ map-append pair_of found (own ∷ []))))

pub bounds_not : (found : List Bounds) (xs : List Bound) (i : ℕ) (x : Bound) → i < length xs → x ≡ get_or xs i x → BoundsSo found (take i xs) →
    None ≡ sound_bound x → None ≡ sound_bounds xs
bounds_not found xs i x inside is so h =
    subst (λ l. None ≡ sound_bounds l) (cut_at xs i x inside is)
    (sym (so.sound_so (x ∷ drop (i + 1) xs)
    ∙ ap (λ o. option_map (λ more. map pair_of found ++ more) (option_and_then (λ pair. option_map (λ pairs. pair ∷ pairs) (sound_bounds (drop (i + 1) xs))) o)) (sym h)))

pub bounds_all : (found : List Bounds) (xs : List Bound) (i : ℕ) → BoundsSo found (take i xs) → take i xs ≡ xs → Some (map pair_of found) ≡ sound_bounds xs
bounds_all found xs i so whole =
    subst (λ l. Some (map pair_of found) ≡ sound_bounds l) (append-nil (take i xs) ∙ whole) (ap Some (sym (append-nil (map pair_of found))) ∙ sym (so.sound_so []))
