-- Walks over the leaves of a variable: into a field, down to the first leaf, and on to the next.
use Rattle.std.proofs.Common.{◌≡◌, ℕ, zero, suc, ◌+◌, ◌*◌, ℤ, Bool, true, false, true≢false, List, [], ◌∷◌, ◌++◌, reverse, length, take, drop, slice_get, Option, Some, None, refl, sym, ap, subst, ◌∙◌, append_assoc, append-nil, arith}
use Rattle.std.proofs.Math.Seq.{take-append_seam}
use Rattle.std.proofs.lemmas.Grind.{flat_map-append}
use Rattle.std.proofs.lemmas.List.{reverse-append, take-append-drop}
use Rattle.std.proofs.lemmas.Option.{same_Some, none-some}
use Rattle.std.specs.List.{flat_map}
use Rattle.arrayvec.specs.ArrayVec.{ArrayVec}
use Rattle.pearl_value.specs.declared.kind.Kind.{Kind}
use Rattle.pearl_names.specs.declared.types.Elements.{Elements}
use Rattle.pearl_names.specs.declared.types.FieldForm.{FieldForm}
use Rattle.pearl_names.specs.declared.types.StructForm.{StructForm}
use Rattle.pearl_names.specs.declared.types.TypeRef.{TypeRef}
use Rattle.pearl_names.specs.declared.types.TypeRef.TheVariants.{Basic, Struct}
use Rattle.pearl_names.specs.Counts.{cut}
use Rattle.pearl_names.specs.Forms.{leaf_count, slot_count, StandsFor, FieldsStand}
use Rattle.pearl_names.specs.Layout.{Leaf, leaves_of, leaves_of_fields, elements}
use Rattle.pearl_names.specs.Runs.{drop_fields}
use Rattle.pearl_names.specs.Shapes.{Shape, OfKind, OfFields, Fields, NoField, MoreField}
use Rattle.pearl_names.specs.Chains.{end_of}
use Rattle.pearl_names.proofs.Offered.{elements-append, ends_in, stands_more, fields_all, no_field}
use Rattle.pearl_resolve_tables.specs.declared.walk.Frame.{Frame}
use Rattle.pearl_resolve_tables.specs.declared.walk.Found.{Found}
use Rattle.pearl_resolve_tables.specs.Laying.{path_name}
use Rattle.pearl_resolve_tables.specs.Walks.{HasLeaves, ComesTo, HasLeft, Begins, LeftWithin, AllLeft, GoesOn}

-- the field at an index, with its name
record FieldAt (forms : List StructForm) (entry : ArrayVec ℕ × FieldForm) (fields : Fields) (i : ℕ) : Type 0 where
  pub bounds : List (ℤ × ℤ)
  pub shape : Shape
  pub is : drop_fields i fields ≡ MoreField entry.0.items bounds shape (drop_fields (suc i) fields)
  pub stands : StandsFor forms entry.1.part shape
  pub count : entry.1.elements ≡ cut (elements bounds)

field_at : (forms : List StructForm) (leaves slots : ℕ) (entries : List (ArrayVec ℕ × FieldForm)) (fields : Fields) (i : ℕ) (entry : ArrayVec ℕ × FieldForm) →
    FieldsStand forms leaves slots entries fields → slice_get entries i ≡ Some entry → FieldAt forms entry fields i
unfolding StandsFor
field_at forms leaves slots [] NoField i entry h e = absurd (none-some entry e)
field_at forms leaves slots (x ∷ entries) (MoreField name bounds shape rest) zero entry h e =
    let same : x ≡ entry = same_Some x entry e in
    subst (λ y. FieldAt forms y (MoreField name bounds shape rest) 0) same
    (record { bounds = bounds; shape = shape; is = ap (λ n. MoreField n bounds shape rest) (sym h.0.named); stands = h.1; count = h.0.count })
field_at forms leaves slots (x ∷ entries) (MoreField name bounds shape rest) (suc i) entry h e =
    let r = field_at forms (leaves + leaf_count shape) (slots + slot_count bounds shape) entries rest i entry h.2 e in
    record { bounds = r.bounds; shape = r.shape; is = r.is; stands = r.stands; count = r.count }
field_at forms leaves slots [] (MoreField name bounds shape rest) i entry h e = absurd h
field_at forms leaves slots (x ∷ entries) NoField i entry h e = absurd h

fields_stand : (forms : List StructForm) (number : ℕ) (form : StructForm) (fields : Fields) → slice_get forms number ≡ Some form → StandsFor forms (Struct number) (OfFields fields) →
    FieldsStand (take number forms) 0 0 form.fields.entries fields
unfolding StandsFor
fields_stand forms number form fields at h =
    let same : form ≡ h.0 = same_Some form h.0 (sym at ∙ h.1) in
    subst (λ f. FieldsStand (take number forms) 0 0 f.fields.entries fields) (sym same) h.2

-- the same among all forms
fields_of : (forms : List StructForm) (number : ℕ) (form : StructForm) (fields : Fields) → slice_get forms number ≡ Some form → StandsFor forms (Struct number) (OfFields fields) →
    FieldsStand forms 0 0 form.fields.entries fields
fields_of forms number form fields at h = fields_all forms number 0 0 form.fields.entries fields (fields_stand forms number form fields at h)

-- the shape of a STRUCT
record OfStruct (forms : List StructForm) (number : ℕ) (shape : Shape) : Type 0 where
  pub fields : Fields
  pub is : shape ≡ OfFields fields

struct_fields : (forms : List StructForm) (number : ℕ) (shape : Shape) → StandsFor forms (Struct number) shape → OfStruct forms number shape
unfolding StandsFor
struct_fields forms number (OfKind kind) h = absurd h
struct_fields forms number (OfFields fields) h = record { fields = fields; is = refl }

-- the name of a field
path_more : (base : List ℕ) (path : List (List ℕ)) (key : List ℕ) → path_name base (path ++ key ∷ []) ≡ path_name base path ++ 46 ∷ key
path_more base path key =
    let joined = λ (field : List ℕ). 46 ∷ field in
    ap (λ l. base ++ l) (flat_map-append joined path (key ∷ []) ∙ ap (λ l. flat_map joined path ++ l) (append-nil (46 ∷ key)))
    ∙ sym (append_assoc base (flat_map joined path) (46 ∷ key))

-- the innermost of the STRUCTs that a walk is within, and what is left
record Innermost (forms : List StructForm) (asked : Bool) (base : List ℕ) (outer : List Frame) (frame : Frame) (text : List ℕ) (leaves : List Leaf) : Type 0 where
  pub path : List (List ℕ)
  pub own : List Leaf
  pub rest : List Leaf
  pub begins : asked ≡ true → Begins base frame.bytes path text
  pub has : HasLeft forms frame path own
  pub left : AllLeft forms asked base outer (path_name base path) rest
  pub is : leaves ≡ own ++ rest

reverse_push : (outer : List Frame) (frame : Frame) → reverse (outer ++ frame ∷ []) ≡ frame ∷ reverse outer
reverse_push outer frame = reverse-append outer (frame ∷ [])

innermost : (forms : List StructForm) (asked : Bool) (base : List ℕ) (outer : List Frame) (frame : Frame) (text : List ℕ) (leaves : List Leaf) →
    AllLeft forms asked base (outer ++ frame ∷ []) text leaves → Innermost forms asked base outer frame text leaves
innermost forms asked base outer frame text leaves h =
    by (subst (λ l. LeftWithin forms asked base l text leaves) (reverse_push outer frame) h)
  where
    by : LeftWithin forms asked base (frame ∷ reverse outer) text leaves → Innermost forms asked base outer frame text leaves
    by h = record { path = h.0; own = h.1; rest = h.2; begins = h.3; has = h.4; left = h.5; is = h.6 }

left_push : (forms : List StructForm) (asked : Bool) (base : List ℕ) (outer : List Frame) (frame : Frame) (path : List (List ℕ)) (text : List ℕ) (own rest : List Leaf) →
    (asked ≡ true → Begins base frame.bytes path text) → HasLeft forms frame path own → AllLeft forms asked base outer (path_name base path) rest →
    AllLeft forms asked base (outer ++ frame ∷ []) text (own ++ rest)
left_push forms asked base outer frame path text own rest begins has left =
    subst (λ l. LeftWithin forms asked base l text (own ++ rest)) (sym (reverse_push outer frame)) (path, own, rest, begins, has, left, refl)

-- a text that begins with another one
pub record Longer (text new : List ℕ) : Type 0 where
  pub more : List ℕ
  pub is : new ≡ text ++ more

left_longer : (forms : List StructForm) (asked : Bool) (base : List ℕ) (frames : List Frame) (text new : List ℕ) (leaves : List Leaf) →
    (asked ≡ true → Longer text new) → LeftWithin forms asked base frames text leaves → LeftWithin forms asked base frames new leaves
left_longer forms asked base [] text new leaves longer h = h
left_longer forms asked base (frame ∷ outer) text new leaves longer h = (
  h.0,
  h.1,
  h.2,
  λ on.
      let begins = h.3 on in
      let l = longer on in
      record { behind = begins.behind ++ l.more; is = l.is ∙ ap (λ t. t ++ l.more) begins.is ∙ append_assoc (path_name base h.0) begins.behind l.more; long = begins.long },
  h.4,
  h.5,
  h.6,
)

-- inside a field
pub record Entered (forms inner : List StructForm) (asked : Bool) (base : List ℕ) (part : TypeRef) (count : ℕ) (frames : List Frame) (text : List ℕ) (leaves : List Leaf) : Type 0 where
  pub path : List (List ℕ)
  pub own : List Leaf
  pub rest : List Leaf
  pub named : asked ≡ true → text ≡ path_name base path
  pub found : HasLeaves inner part count path own
  pub left : AllLeft forms asked base frames text rest
  pub is : leaves ≡ own ++ rest

-- what is known of the way into a field
pub record Enters (asked : Bool) (frame : Frame) (entry : ArrayVec ℕ × FieldForm) (text new : List ℕ) (inner : ℕ) : Type 0 where
  pub name : asked ≡ true → new ≡ take frame.bytes text ++ 46 ∷ entry.0.items
  pub count : (n : ℕ) → entry.1.elements ≡ cut n → inner ≡ frame.count * n

abbrev past : Frame → Frame
past frame = record frame { next = frame.next + 1 }

entered : (forms inner : List StructForm) (asked : Bool) (base : List ℕ) (outer : List Frame) (frame : Frame) (entry : ArrayVec ℕ × FieldForm) (text new : List ℕ) (leaves : List Leaf) (count : ℕ) →
    (h : Innermost forms asked base outer frame text leaves) → FieldAt inner entry h.has.fields frame.next → Enters asked frame entry text new count →
    Entered forms inner asked base entry.1.part count (outer ++ past frame ∷ []) new leaves
entered forms inner asked base outer frame entry text new leaves count h at enters =
    let key = entry.0.items in
    let path = h.path ++ key ∷ [] in
    let fields = h.has.fields in
    let bounds = h.has.bounds in
    let next : frame.next + 1 ≡ suc frame.next = omega arith in
    let begun : asked ≡ true → take frame.bytes text ≡ path_name base h.path =
    (λ on. (λ i. take ((h.begins on).long i) ((h.begins on).is i)) ∙ take-append_seam (path_name base h.path) (h.begins on).behind) in
    let here : asked ≡ true → new ≡ path_name base h.path ++ 46 ∷ key = (λ on. enters.name on ∙ ap (λ l. l ++ 46 ∷ key) (begun on)) in
    let own = leaves_of path (bounds ++ at.bounds) at.shape in
    let behind = leaves_of_fields h.path bounds (drop_fields (frame.next + 1) fields) in
    let all : leaves_of_fields h.path bounds (drop_fields frame.next fields) ≡ own ++ behind =
    ap (leaves_of_fields h.path bounds) at.is ∙ ap (λ n. own ++ leaves_of_fields h.path bounds (drop_fields n fields)) (sym next) in
    record {
      path = path;
      own = own;
      rest = behind ++ h.rest;
      named = λ on. here on ∙ sym (path_more base h.path key);
      found = record {
        shape = at.shape;
        bounds = bounds ++ at.bounds;
        stands = at.stands;
        counted = enters.count (elements at.bounds) at.count ∙ ap (λ n. n * elements at.bounds) h.has.counted ∙ sym (elements-append bounds at.bounds);
        is = refl;
      };
      left = left_push forms asked base outer (past frame) h.path new behind h.rest
          (λ on. record { behind = 46 ∷ key; is = here on; long = (h.begins on).long })
          (record { fields = fields; bounds = bounds; stands = h.has.stands; counted = h.has.counted; is = refl }) h.left;
      is = h.is ∙ ap (λ l. l ++ h.rest) (h.has.is ∙ all) ∙ append_assoc own behind h.rest;
    }

-- a walk down: the type that it has come to stands among the earlier forms
pub record Descends (forms earlier : List StructForm) (asked : Bool) (base : List ℕ) (part : TypeRef) (count : ℕ) (frames : List Frame) (text : List ℕ) (leaves : List Leaf) : Type 0 where
  pub later : List StructForm
  pub prefix : forms ≡ earlier ++ later
  pub entered : Entered forms earlier asked base part count frames text leaves

pub descends_first : (forms : List StructForm) (asked : Bool) (base : List ℕ) (part : TypeRef) (count : ℕ) (path : List (List ℕ)) (frames : List Frame) (text : List ℕ) (own left : List Leaf) →
    (asked ≡ true → text ≡ path_name base path) → HasLeaves forms part count path own → AllLeft forms asked base frames text left → Descends forms forms asked base part count frames text (own ++ left)
descends_first forms asked base part count path frames text own left named found rest = record {
  later = [];
  prefix = sym (append-nil forms);
  entered = record { path = path; own = own; rest = left; named = named; found = found; left = rest; is = refl };
}

-- what it has come to comes to more
pub descends_end : (forms earlier : List StructForm) (asked : Bool) (base : List ℕ) (part : TypeRef) (count : ℕ) (end : Elements) (frames : List Frame) (text : List ℕ) (leaves : List Leaf) →
    Descends forms earlier asked base part count frames text leaves →
    ((path : List (List ℕ)) (own : List Leaf) → HasLeaves earlier part count path own → ComesTo earlier asked end path own) →
    Descends forms earlier asked base end.part end.count frames text leaves
descends_end forms earlier asked base part count end frames text leaves down comes =
    let e = down.entered in
    let to = comes e.path e.own e.found in
    record {
      later = down.later;
      prefix = down.prefix;
      entered = record {
        path = to.behind;
        own = e.own;
        rest = e.rest;
        named = λ on. e.named on ∙ ap (path_name base) (sym (to.same on));
        found = to.has;
        left = e.left;
        is = e.is;
      };
    }

-- with its names a type comes to itself
pub comes_to_itself : (forms : List StructForm) (asked : Bool) (part : TypeRef) (count : ℕ) (path : List (List ℕ)) (leaves : List Leaf) →
    HasLeaves forms part count path leaves → ComesTo forms asked (record { part = part; count = count }) path leaves
comes_to_itself forms asked part count path leaves has = record { behind = path; same = λ on. refl; has = has }

-- and without them to the end of STRUCTs with one field
pub comes_to_end : (forms : List StructForm) (part : TypeRef) (end : Elements) (count each all : ℕ) (path : List (List ℕ)) (leaves : List Leaf) → end ≡ end_of forms part →
    ((n : ℕ) → end.count ≡ cut n → each ≡ n) → all ≡ count * each → HasLeaves forms part count path leaves →
    ComesTo forms false (record { part = end.part; count = all }) path leaves
comes_to_end forms part end count each all path leaves is whole product has =
    let ends = ends_in forms part has.shape has.stands in record {
      behind = path ++ ends.path;
      same = λ on. absurd (true≢false (sym on));
      has = record {
        shape = ends.last;
        bounds = has.bounds ++ ends.bounds;
        stands = subst (λ e. StandsFor forms e.part ends.last) (sym is) ends.stands;
        counted = product ∙ (λ i. has.counted i * whole (elements ends.bounds) (ap (λ e. e.count) is ∙ ends.count) i) ∙ sym (elements-append has.bounds ends.bounds);
        is = has.is ∙ ends.leaves path has.bounds;
      };
    }

-- to a leaf
pub descends_last : (forms earlier : List StructForm) (asked : Bool) (base : List ℕ) (kind : Kind) (count : ℕ) (frames : List Frame) (text : List ℕ) (leaves : List Leaf) →
    Descends forms earlier asked base (Basic kind) count frames text leaves → GoesOn forms asked base (Some (record { kind = kind; count = count })) frames text leaves
unfolding StandsFor
descends_last forms earlier asked base kind count frames text leaves down = by e.found.shape e.found.stands e.found.is
  where
    e : Entered forms earlier asked base (Basic kind) count frames text leaves
    e = down.entered

    by : (shape : Shape) → StandsFor earlier (Basic kind) shape → e.own ≡ leaves_of e.path e.found.bounds shape →
        GoesOn forms asked base (Some (record { kind = kind; count = count })) frames text leaves
    by (OfKind to) stands is = (
      record { path = e.path; bounds = e.found.bounds; kind = to },
      e.rest,
      record { name = e.named; kind = stands; count = e.found.counted },
      e.left,
      e.is ∙ ap (λ l. l ++ e.rest) is,
    )
    by (OfFields fields) stands is = absurd stands

-- into the first field
pub descends_more : (forms earlier : List StructForm) (asked : Bool) (base : List ℕ) (number count bytes inner : ℕ) (frames : List Frame) (text new : List ℕ) (leaves : List Leaf) (form : StructForm) (entry : ArrayVec ℕ × FieldForm) →
    Descends forms earlier asked base (Struct number) count frames text leaves → slice_get earlier number ≡ Some form → slice_get form.fields.entries 0 ≡ Some entry →
    bytes ≡ length text → Enters asked (record { number = number; next = 0; count = count; bytes = bytes }) entry text new inner →
    Descends forms (take number earlier) asked base entry.1.part inner (frames ++ record { number = number; next = 1; count = count; bytes = bytes } ∷ []) new leaves
descends_more forms earlier asked base number count bytes inner frames text new leaves form entry down at first long enters =
    let e = down.entered in
    let s = struct_fields earlier number e.found.shape e.found.stands in
    let stands : StandsFor earlier (Struct number) (OfFields s.fields) = subst (StandsFor earlier (Struct number)) s.is e.found.stands in
    let frame : Frame = record { number = number; next = 0; count = count; bytes = bytes } in
    let h : Innermost forms asked base frames frame text leaves = record {
      path = e.path;
      own = e.own;
      rest = e.rest;
      begins = λ on. record { behind = []; is = e.named on ∙ sym (append-nil (path_name base e.path)); long = long ∙ ap length (e.named on) };
      has = record {
        fields = s.fields;
        bounds = e.found.bounds;
        stands = subst (λ l. StandsFor l (Struct number) (OfFields s.fields)) (sym down.prefix) (stands_more earlier down.later (Struct number) (OfFields s.fields) stands);
        counted = e.found.counted;
        is = e.found.is ∙ ap (leaves_of e.path e.found.bounds) s.is;
      };
      left = left_longer forms asked base (reverse frames) text (path_name base e.path) e.rest
          (λ on. record { more = []; is = sym (e.named on) ∙ sym (append-nil text) }) e.left;
      is = e.is;
    } in
    let field = field_at (take number earlier) 0 0 form.fields.entries s.fields 0 entry (fields_stand earlier number form s.fields at stands) first in
    record {
      later = drop number earlier ++ down.later;
      prefix = down.prefix ∙ ap (λ l. l ++ down.later) (sym (take-append-drop number earlier)) ∙ append_assoc (take number earlier) (drop number earlier) down.later;
      entered = entered forms (take number earlier) asked base frames frame entry text new leaves inner h field enters;
    }

-- a STRUCT that has a field left
pub frame_next : (forms : List StructForm) (asked : Bool) (base : List ℕ) (frames : List Frame) (frame : Frame) (text new : List ℕ) (leaves : List Leaf) (form : StructForm) (entry : ArrayVec ℕ × FieldForm) (count : ℕ) →
    AllLeft forms asked base (frames ++ frame ∷ []) text leaves → slice_get forms frame.number ≡ Some form → slice_get form.fields.entries frame.next ≡ Some entry →
    Enters asked frame entry text new count → Entered forms forms asked base entry.1.part count (frames ++ past frame ∷ []) new leaves
frame_next forms asked base frames frame text new leaves form entry count left at is enters =
    let h = innermost forms asked base frames frame text leaves left in
    let field = field_at forms 0 0 form.fields.entries h.has.fields frame.next entry (fields_of forms frame.number form h.has.fields at h.has.stands) is in
    entered forms forms asked base frames frame entry text new leaves count h field enters

pub onward_goes : (forms : List StructForm) (asked : Bool) (base : List ℕ) (part : TypeRef) (count : ℕ) (frames after : List Frame) (text new : List ℕ) (leaves : List Leaf) (next : Option Found) →
    Entered forms forms asked base part count frames text leaves →
    ((path : List (List ℕ)) (own left : List Leaf) → (asked ≡ true → text ≡ path_name base path) → HasLeaves forms part count path own → AllLeft forms asked base frames text left →
    GoesOn forms asked base next after new (own ++ left)) → GoesOn forms asked base next after new leaves
onward_goes forms asked base part count frames after text new leaves next e goes =
    subst (GoesOn forms asked base next after new) (sym e.is) (goes e.path e.own e.rest e.named e.found e.left)

-- one that has none
pub frame_done : (forms : List StructForm) (asked : Bool) (base : List ℕ) (frames : List Frame) (frame : Frame) (text : List ℕ) (leaves : List Leaf) (form : StructForm) →
    AllLeft forms asked base (frames ++ frame ∷ []) text leaves → slice_get forms frame.number ≡ Some form → slice_get form.fields.entries frame.next ≡ None →
    AllLeft forms asked base frames text leaves
frame_done forms asked base frames frame text leaves form left at is =
    let h = innermost forms asked base frames frame text leaves left in
    let none = no_field forms 0 0 form.fields.entries h.has.fields frame.next (fields_of forms frame.number form h.has.fields at h.has.stands) is in
    let empty : h.own ≡ [] = h.has.is ∙ ap (leaves_of_fields h.path h.has.bounds) none in
    let rest = left_longer forms asked base (reverse frames) (path_name base h.path) text h.rest (λ on. record { more = (h.begins on).behind; is = (h.begins on).is }) h.left in
    subst (AllLeft forms asked base frames text) (sym (h.is ∙ ap (λ l. l ++ h.rest) empty)) rest
