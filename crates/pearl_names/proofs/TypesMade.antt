-- The TYPEs of a module, one after the other.
use Rattle.std.proofs.Common.{◌≡◌, ℕ, ◌+◌, ◌<◌, List, [], ◌∷◌, ◌++◌, map, length, take, get_or, Option, refl, sym, ap, subst, ◌∙◌, append-nil}
use Rattle.std.proofs.lemmas.List.{map-append}
use Rattle.pearl_tree.specs.declared.tree.Decl.{Decl}
use Rattle.pearl_tree.specs.ShownModules.{ShownDecl, shown_decl}
use Rattle.pearl_names.specs.ScopeNames.{ScopeNames}
use Rattle.pearl_names.specs.declared.length.DefaultLength.{DefaultLength}
use Rattle.pearl_names.specs.Shapes.{Shape, decl_shapes, shapes_after}
use Rattle.pearl_names.specs.declared.types.TypeRef.{TypeRef}
use Rattle.pearl_names.specs.declared.types.StructForm.{StructForm}
use Rattle.pearl_names.specs.Forms.{Matches}
use Rattle.pearl_names.specs.Forming.{AllMatch, Grows, around_of}
use Rattle.pearl_names.proofs.FieldsMade.{all_match_more}
use Rattle.pearl_names.proofs.Lists.{one_taken}

all_match_push : (forms : List StructForm) (named : List (Option TypeRef)) (shapes : List (Option Shape)) (part : Option TypeRef) (shape : Option Shape) →
    AllMatch forms named shapes → Matches forms part shape → AllMatch forms (named ++ part ∷ []) (shapes ++ shape ∷ [])
all_match_push forms [] [] part shape h m = (m, tt)
all_match_push forms (p ∷ named) (s ∷ shapes) part shape h m = (h.0, all_match_push forms named shapes part shape h.1 m)
all_match_push forms [] (s ∷ shapes) part shape h m = absurd h
all_match_push forms (p ∷ named) [] part shape h m = absurd h

pub one_type : (old new : List StructForm) (named : List (Option TypeRef)) (shapes : List (Option Shape)) (part : Option TypeRef) (shape : Option Shape) → Grows old new →
    AllMatch old named shapes → Matches new part shape → AllMatch new (named ++ part ∷ []) (shapes ++ shape ∷ [])
one_type old new named shapes part shape grows h m = all_match_push new named shapes part shape (all_match_more old new named shapes grows h) m

pub no_type : (forms : List StructForm) (named : List (Option TypeRef)) (shapes : List (Option Shape)) → AllMatch forms named shapes → AllMatch forms named (shapes ++ [])
no_type forms named shapes h = subst (AllMatch forms named) (sym (append-nil shapes)) h

after_more : (scopes : List ScopeNames) (lengths : List DefaultLength) (shapes : List (Option Shape)) (xs : List ShownDecl) (x : ShownDecl) →
    shapes_after scopes lengths shapes (xs ++ x ∷ []) ≡
    shapes_after scopes lengths shapes xs ++ decl_shapes (around_of scopes lengths 0 (shapes_after scopes lengths shapes xs)) x
after_more scopes lengths shapes [] x = refl
after_more scopes lengths shapes (y ∷ ys) x = after_more scopes lengths (shapes ++ decl_shapes (around_of scopes lengths 0 shapes) y) ys x

pub types_more : (scopes : List ScopeNames) (lengths : List DefaultLength) (oldf newf : List StructForm) (oldn newn : List (Option TypeRef)) (xs : List Decl) (i : ℕ) (x : Decl) →
    i < length xs → x ≡ get_or xs i x → AllMatch oldf oldn (shapes_after scopes lengths [] (map shown_decl (take i xs))) →
    ((shapes : List (Option Shape)) → AllMatch oldf oldn shapes → AllMatch newf newn (shapes ++ decl_shapes (around_of scopes lengths 0 shapes) (shown_decl x))) →
    AllMatch newf newn (shapes_after scopes lengths [] (map shown_decl (take (i + 1) xs)))
types_more scopes lengths oldf newf oldn newn xs i x inside is so step =
    subst (AllMatch newf newn) (sym (ap (shapes_after scopes lengths []) (ap (map shown_decl) (one_taken xs i x inside is) ∙ map-append shown_decl (take i xs) (x ∷ []))
    ∙ after_more scopes lengths [] (map shown_decl (take i xs)) (shown_decl x)))
    (step (shapes_after scopes lengths [] (map shown_decl (take i xs))) so)
