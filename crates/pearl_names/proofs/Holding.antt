-- What a table in memory holds, as it is made.
use Rattle.std.proofs.Common.{◌≡◌, ℕ, ◌+◌, ◌<◌, ℤ, Bool, true, false, cond, List, [], ◌∷◌, ◌++◌, map, length, take, get_or, Option, Some, None, option_map, refl, sym, ap, subst, ◌∙◌, append_assoc, length-append, arith}
use Rattle.std.proofs.lemmas.List.{map-append}
use Rattle.std.proofs.lemmas.Option.{same_Some, none-some}
use Rattle.std.specs.List.{list_all}
use Rattle.pearl_tree.specs.declared.name.Name.{Name}
use Rattle.pearl_names.specs.declared.forms.Types.{Types}
use Rattle.pearl_names.specs.declared.group.Group.{Group}
use Rattle.pearl_names.specs.declared.group.ScopeGroups.{ScopeGroups}
use Rattle.pearl_names.specs.declared.length.DefaultLength.{DefaultLength}
use Rattle.pearl_names.specs.declared.sense.Form.{Form as HeldForm}
use Rattle.pearl_names.specs.declared.sense.ScopeSenses.{ScopeSenses}
use Rattle.pearl_names.specs.declared.sense.Sense.{Sense as HeldSense}
use Rattle.pearl_names.specs.declared.sense.Sense.TheVariants as held
use Rattle.pearl_names.specs.declared.types.StructForm.{StructForm}
use Rattle.pearl_names.specs.declared.types.TypeRef.{TypeRef}
use Rattle.pearl_names.specs.Forming.{AllMatch, Grows}
use Rattle.pearl_names.specs.Forms.{pair_of, Matches}
use Rattle.pearl_names.specs.Groups.{shown_meaning, group_entries, entries_in, shown_scope, scopes_in_list}
use Rattle.pearl_names.specs.Holding.{HoldsForm, HoldsSense, HoldsAll, HoldsSenses, HasPart}
use Rattle.pearl_names.specs.Known.{Known, known_from}
use Rattle.pearl_names.specs.Layout.{leaves_of, is_sound_leaf}
use Rattle.pearl_names.specs.ScopeNames.{ScopeNames}
use Rattle.pearl_names.specs.Scopes.{Meaning, Entry, Scope, entries_as}
use Rattle.pearl_names.specs.Shapes.{Shape}
use Rattle.pearl_names.specs.Tables.{Form, Sense, Variable, Control, OwnParameter, NewType, Semaphore, Interrupt, AlphicDation, BasicDation, Task, Procedure, sound_form, sense_of, senses_of, senses_in}
use Rattle.pearl_names.proofs.Collecting.{entries_in-nil, entries_in-append, entries_in-one, scopes_in_list-nil, scopes_in_list-append, scopes_in_list-one, length-scopes_in_list}
use Rattle.pearl_names.proofs.FieldsMade.{all_match_more, grows_more, grows_none}
use Rattle.pearl_names.proofs.Lists.{one_taken}
use Rattle.pearl_names.proofs.Standing.{stands_more}

abbrev pub shape_in : Option Form → Option Shape
shape_in form = option_map (λ f. f.shape) form

-- bounds and a type
pub form_held : (forms : List StructForm) (form : HeldForm) (own : Option (List (ℤ × ℤ))) (shape : Option Shape) →
    Some (map pair_of form.bounds.items) ≡ own → Matches forms (Some form.part) (shape_in (sound_form own shape)) →
    HoldsForm forms (Some form) (sound_form own shape)
form_held forms form None shape e m = absurd m
form_held forms form (Some bounds) None e m = absurd m
form_held forms form (Some bounds) (Some s) e m = by (list_all is_sound_leaf (leaves_of [] bounds s)) m
  where
    by : (sound : Bool) → Matches forms (Some form.part) (shape_in (cond sound (Some (record { bounds = bounds; shape = s })) None)) →
        HoldsForm forms (Some form) (cond sound (Some (record { bounds = bounds; shape = s })) None)
    by true m = (same_Some _ _ e, m)
    by false m = absurd m

-- a type without bounds isn't there
pub no_bounds : (forms : List StructForm) (part : TypeRef) (own : Option (List (ℤ × ℤ))) (shape : Option Shape) → None ≡ own →
    Matches forms (Some part) (shape_in (sound_form own shape)) → HoldsForm forms None (sound_form own shape)
no_bounds forms part None shape e m = absurd m
no_bounds forms part (Some bounds) shape e m = absurd (none-some bounds e)

pub no_part : (forms : List StructForm) (form : Option Form) → Matches forms None (shape_in form) → HoldsForm forms None form
no_part forms None m = m
no_part forms (Some form) m = absurd m

-- what is held stays so where more forms come
form_more : (forms more : List StructForm) (form : Option HeldForm) (of : Option Form) → HoldsForm forms form of → HoldsForm (forms ++ more) form of
form_more forms more None None h = h
form_more forms more (Some form) (Some of) h = (h.0, stands_more forms more form.part of.shape h.1)
form_more forms more None (Some of) h = absurd h
form_more forms more (Some form) None h = absurd h

sense_more : (forms more : List StructForm) (sense : HeldSense) (of : Sense) → HoldsSense forms sense of → HoldsSense (forms ++ more) sense of
sense_more forms more (held.Variable form inv) (Variable of fixed) h = (form_more forms more form of h.0, h.1)
sense_more forms more (held.Control kind) (Control of) h = h
sense_more forms more (held.Parameter parameter) (OwnParameter of) h = h
sense_more forms more held.NewType NewType h = h
sense_more forms more held.Semaphore Semaphore h = h
sense_more forms more held.Interrupt Interrupt h = h
sense_more forms more (held.AlphicDation direction) (AlphicDation of) h = h
sense_more forms more (held.BasicDation direction kind) (BasicDation of to) h = h
sense_more forms more held.Task Task h = h
sense_more forms more (held.Procedure signature) (Procedure parameters result) h = h
sense_more forms more sense of h = absurd h

all_more : (forms more : List StructForm) (senses : List HeldSense) (of : List Sense) → HoldsAll forms senses of → HoldsAll (forms ++ more) senses of
all_more forms more [] [] h = h
all_more forms more (sense ∷ senses) (of ∷ others) h = (sense_more forms more sense of h.0, all_more forms more senses others h.1)
all_more forms more [] (of ∷ others) h = absurd h
all_more forms more (sense ∷ senses) [] h = absurd h

senses_more : (forms more : List StructForm) (scopes : List ScopeSenses) (of : List (List Sense)) → HoldsSenses forms scopes of → HoldsSenses (forms ++ more) scopes of
senses_more forms more [] [] h = h
senses_more forms more (scope ∷ scopes) (of ∷ others) h = (all_more forms more scope.senses.items of h.0, senses_more forms more scopes others h.1)
senses_more forms more [] (of ∷ others) h = absurd h
senses_more forms more (scope ∷ scopes) [] h = absurd h

all_grow : (old new : List StructForm) (senses : List HeldSense) (of : List Sense) → Grows old new → HoldsAll old senses of → HoldsAll new senses of
all_grow old new senses of grows h = subst (λ l. HoldsAll l senses of) (sym grows.is) (all_more old grows.more senses of h)

senses_grow : (old new : List StructForm) (scopes : List ScopeSenses) (of : List (List Sense)) → Grows old new → HoldsSenses old scopes of → HoldsSenses new scopes of
senses_grow old new scopes of grows h = subst (λ l. HoldsSenses l scopes of) (sym grows.is) (senses_more old grows.more scopes of h)

-- one more is held
all_push : (forms : List StructForm) (senses : List HeldSense) (of : List Sense) (sense : HeldSense) (one : Sense) → HoldsAll forms senses of →
    HoldsSense forms sense one → HoldsAll forms (senses ++ sense ∷ []) (of ++ one ∷ [])
all_push forms [] [] sense one h s = (s, tt)
all_push forms (x ∷ senses) (y ∷ of) sense one h s = (h.0, all_push forms senses of sense one h.1 s)
all_push forms [] (y ∷ of) sense one h s = absurd h
all_push forms (x ∷ senses) [] sense one h s = absurd h

senses_push : (forms : List StructForm) (scopes : List ScopeSenses) (of : List (List Sense)) (scope : ScopeSenses) (one : List Sense) → HoldsSenses forms scopes of →
    HoldsAll forms scope.senses.items one → HoldsSenses forms (scopes ++ scope ∷ []) (of ++ one ∷ [])
senses_push forms [] [] scope one h s = (s, tt)
senses_push forms (x ∷ scopes) (y ∷ of) scope one h s = (h.0, senses_push forms scopes of scope one h.1 s)
senses_push forms [] (y ∷ of) scope one h s = absurd h
senses_push forms (x ∷ scopes) [] scope one h s = absurd h

-- the names of a group
module _ (known : Known) (scope : ℕ) where
  senses_of-append : (a b : List Entry) → senses_of known scope (a ++ b) ≡ senses_of known scope a ++ senses_of known scope b
  senses_of-append a b = map-append _ a b

  senses_push_name : (old : List Sense) (meaning : Meaning) (names : List Name) (name : Name) →
      (old ++ senses_of known scope (entries_as meaning names)) ++ sense_of known scope meaning ∷ [] ≡
      old ++ senses_of known scope (entries_as meaning (names ++ name ∷ []))
  senses_push_name old meaning names name =
      append_assoc old (senses_of known scope (entries_as meaning names)) (sense_of known scope meaning ∷ [])
      ∙ ap (λ t. old ++ t) (sym (ap (senses_of known scope) (map-append _ names (name ∷ []))
      ∙ senses_of-append (entries_as meaning names) (record { name = name; meaning = meaning } ∷ [])))

  pub name_held : (forms : List StructForm) (old : List Sense) (meaning : Meaning) (xs ys : List HeldSense) (names : List Name) (i : ℕ) (name : Name) (sense : HeldSense) →
      i < length names → name ≡ get_or names i name → HoldsAll forms xs (old ++ senses_of known scope (entries_as meaning (take i names))) →
      HoldsSense forms sense (sense_of known scope meaning) → ys ≡ xs ++ sense ∷ [] →
      HoldsAll forms ys (old ++ senses_of known scope (entries_as meaning (take (i + 1) names)))
  name_held forms old meaning xs ys names i name sense inside is h s pushed =
      subst (λ l. HoldsAll forms l (old ++ senses_of known scope (entries_as meaning (take (i + 1) names)))) (sym pushed)
      (subst (λ l. HoldsAll forms (xs ++ sense ∷ []) (old ++ senses_of known scope (entries_as meaning l))) (sym (one_taken names i name inside is))
      (subst (HoldsAll forms (xs ++ sense ∷ [])) (senses_push_name old meaning (take i names) name)
      (all_push forms xs _ sense (sense_of known scope meaning) h s)))

-- the names of a scope, group by group
module _ (names : List ScopeNames) (lengths : List DefaultLength) (scope : ℕ) (old : Types) where
  pub record HeldSo (now : Types) (senses : List HeldSense) (groups : List Group) : Type 0 where
    pub grows : Grows old.forms.items now.forms.items
    pub named : now.named.items ≡ old.named.items
    pub held : (shapes : List (Option Shape)) → AllMatch old.forms.items old.named.items shapes →
        HoldsAll now.forms.items senses (senses_of (known_from names lengths shapes) scope (entries_in groups))

  pub held_none : (senses : List HeldSense) → senses ≡ [] → HeldSo old senses []
  held_none senses none = record {
    grows = grows_none _;
    named = refl;
    held = λ shapes all. subst (λ l. HoldsAll old.forms.items senses (senses_of (known_from names lengths shapes) scope l)) (sym entries_in-nil)
        (subst (λ l. HoldsAll old.forms.items l []) (sym none) tt);
  }

  pub held_more : (now new : Types) (xs ys : List HeldSense) (groups : List Group) (i : ℕ) (group : Group) (part : Option TypeRef) →
      i < length groups → group ≡ get_or groups i group → HeldSo now xs (take i groups) →
      Grows now.forms.items new.forms.items → new.named.items ≡ now.named.items →
      ((shapes : List (Option Shape)) → AllMatch now.forms.items now.named.items shapes →
      HasPart new.forms.items part (known_from names lengths shapes) scope (shown_meaning group.meaning)) →
      ((forms : List StructForm) (own : List ScopeNames) (shapes : List (Option Shape)) (number : ℕ) (before : List Sense) →
      HasPart forms part (known_from own lengths shapes) number (shown_meaning group.meaning) → HoldsAll forms xs before →
      HoldsAll forms ys (before ++ senses_of (known_from own lengths shapes) number (group_entries group))) →
      HeldSo new ys (take (i + 1) groups)
  held_more now new xs ys groups i group part inside is so grows named parts added =
      subst (HeldSo new ys) (sym (one_taken groups i group inside is))
      (record {
        grows = grows_more _ _ _ so.grows grows;
        named = named ∙ so.named;
        held = λ shapes all.
            let known = known_from names lengths shapes in
            let here = subst (λ n. AllMatch now.forms.items n shapes) (sym so.named) (all_match_more old.forms.items now.forms.items old.named.items shapes so.grows all) in
            let before = senses_of known scope (entries_in (take i groups)) in
            let listed : before ++ senses_of known scope (group_entries group) ≡ senses_of known scope (entries_in (take i groups ++ group ∷ [])) =
            sym (ap (senses_of known scope) (entries_in-append (take i groups) (group ∷ []) ∙ ap (λ t. entries_in (take i groups) ++ t) (entries_in-one group))
            ∙ senses_of-append known scope (entries_in (take i groups)) (group_entries group)) in
            subst (HoldsAll new.forms.items ys) listed
            (added new.forms.items names shapes scope before (parts shapes here) (all_grow now.forms.items new.forms.items xs before grows (so.held shapes all)));
      })

-- scope by scope
senses_in-more : (known : Known) (number : ℕ) (scopes : List Scope) (scope : Scope) →
    senses_in known number (scopes ++ scope ∷ []) ≡ senses_in known number scopes ++ senses_of known (number + length scopes) scope.entries ∷ []
senses_in-more known number [] scope = ap (λ n. senses_of known n scope.entries ∷ []) (let e : number ≡ number + 0 = omega arith in e)
senses_in-more known number (first ∷ scopes) scope =
    let e : number + 1 + length scopes ≡ number + length (first ∷ scopes) = omega arith in
    ap (λ t. senses_of known number first.entries ∷ t) (senses_in-more known (number + 1) scopes scope
    ∙ ap (λ n. senses_in known (number + 1) scopes ++ senses_of known n scope.entries ∷ []) e)

module _ (names : List ScopeNames) (lengths : List DefaultLength) (old : Types) where
  pub record ScopesHeld (now : Types) (number : ℕ) (senses : List ScopeSenses) (scopes : List ScopeGroups) : Type 0 where
    pub grows : Grows old.forms.items now.forms.items
    pub named : now.named.items ≡ old.named.items
    pub counted : number ≡ length scopes
    pub held : (shapes : List (Option Shape)) → AllMatch old.forms.items old.named.items shapes →
        HoldsSenses now.forms.items senses (senses_in (known_from names lengths shapes) 0 (scopes_in_list scopes))

  pub scopes_none : (senses : List ScopeSenses) → senses ≡ [] → ScopesHeld old 0 senses []
  scopes_none senses none = record {
    grows = grows_none _;
    named = refl;
    counted = refl;
    held = λ shapes all. subst (λ l. HoldsSenses old.forms.items senses (senses_in (known_from names lengths shapes) 0 l)) (sym scopes_in_list-nil)
        (subst (λ l. HoldsSenses old.forms.items l []) (sym none) tt);
  }

  pub scopes_more : (now new : Types) (number after : ℕ) (xs ys : List ScopeSenses) (scopes : List ScopeGroups) (i : ℕ) (scope : ScopeGroups) (senses : ScopeSenses) →
      i < length scopes → scope ≡ get_or scopes i scope → ScopesHeld now number xs (take i scopes) →
      Grows now.forms.items new.forms.items → new.named.items ≡ now.named.items →
      ((shapes : List (Option Shape)) → AllMatch now.forms.items now.named.items shapes →
      HoldsAll new.forms.items senses.senses.items (senses_of (known_from names lengths shapes) number (entries_in scope.groups.items))) →
      ys ≡ xs ++ senses ∷ [] → after ≡ number + 1 → ScopesHeld new after ys (take (i + 1) scopes)
  scopes_more now new number after xs ys scopes i scope senses inside is so grows named one pushed next =
      subst (ScopesHeld new after ys) (sym (one_taken scopes i scope inside is))
      (record {
        grows = grows_more _ _ _ so.grows grows;
        named = named ∙ so.named;
        counted =
            let a : _ = so.counted in
            let b : length (take i scopes ++ scope ∷ []) ≡ length (take i scopes) + 1 = length-append (take i scopes) (scope ∷ []) in
            omega (arith, next, a, b);
        held = λ shapes all.
            let known = known_from names lengths shapes in
            let here = subst (λ n. AllMatch now.forms.items n shapes) (sym so.named) (all_match_more old.forms.items now.forms.items old.named.items shapes so.grows all) in
            let before = senses_in known 0 (scopes_in_list (take i scopes)) in
            let at : number ≡ 0 + length (scopes_in_list (take i scopes)) =
            let a : _ = so.counted in let b : _ = length-scopes_in_list (take i scopes) in omega (arith, a, b) in
            let listed : before ++ senses_of known number (entries_in scope.groups.items) ∷ [] ≡ senses_in known 0 (scopes_in_list (take i scopes ++ scope ∷ [])) =
            ap (λ n. before ++ senses_of known n (entries_in scope.groups.items) ∷ []) at
            ∙ sym (ap (senses_in known 0) (scopes_in_list-append (take i scopes) (scope ∷ []) ∙ ap (λ t. scopes_in_list (take i scopes) ++ t) (scopes_in_list-one scope))
            ∙ senses_in-more known 0 (scopes_in_list (take i scopes)) (shown_scope scope)) in
            subst (λ l. HoldsSenses new.forms.items l (senses_in known 0 (scopes_in_list (take i scopes ++ scope ∷ [])))) (sym pushed)
            (subst (HoldsSenses new.forms.items (xs ++ senses ∷ [])) listed
            (senses_push new.forms.items xs before senses _ (senses_grow now.forms.items new.forms.items xs before grows (so.held shapes all)) (one shapes here)));
      })
