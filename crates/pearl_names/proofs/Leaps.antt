-- Leaps: what so many steps into first fields lead to, and that the leaps that are kept are such steps.
use Rattle.std.proofs.Common.{◌≡◌, ℕ, zero, suc, ◌+◌, ◌*◌, ◌<◌, ◌≤◌, ⊎_elim, ℤ, true, nat_lt, List, [], ◌∷◌, ◌++◌, length, take, drop, min, slice_get, Option, Some, None, option_map, refl, sym, ap, subst, ◌∙◌, append_assoc, append-nil, true≢false, arith}
use Rattle.std.proofs.Math.Nat.{mul_assoc}
use Rattle.std.proofs.lemmas.Nat.{mul-le}
use Rattle.std.proofs.lemmas.List.{take-append-drop, length-take}
use Rattle.std.proofs.lemmas.Option.{same_Some, none-some, slice_get_within}
use Rattle.std.specs.Option.{option_and_then}
use Rattle.arrayvec.specs.ArrayVec.{ArrayVec}
use Rattle.pearl_names.specs.declared.kinds.Kinds.{Kinds}
use Rattle.pearl_names.specs.declared.types.Begun.{Begun}
use Rattle.pearl_names.specs.declared.types.FieldForm.{FieldForm}
use Rattle.pearl_names.specs.declared.types.Leap.{Leap}
use Rattle.pearl_names.specs.declared.types.StructForm.{StructForm}
use Rattle.pearl_names.specs.declared.types.TypeRef.{TypeRef}
use Rattle.pearl_names.specs.declared.types.TypeRef.TheVariants.{Basic, Struct}
use Rattle.pearl_names.specs.Counts.{cut}
use Rattle.pearl_names.specs.Forms.{leaf_count, StandsFor, FieldsStand}
use Rattle.pearl_names.specs.Kinds.{joined_kinds, kinds_among}
use Rattle.pearl_names.specs.Layout.{elements}
use Rattle.pearl_names.specs.Leaps.{first_shape, first_times, first_behind, inner_shape, times, behind_slots, leap_at, begun_with, begun, one_step, joined_leaps, TwoLeaps, two_steps, IsFar, IsLeap, LeapStands}
use Rattle.pearl_names.specs.Runs.{shape_slots, field_slots, AreFew, drop_fields}
use Rattle.pearl_names.specs.Shapes.{Shape, OfKind, OfFields, Fields, NoField, MoreField}
use Rattle.pearl_names.proofs.Counting.{cut_mul}
use Rattle.pearl_names.proofs.KindSets.{kinds-append}
use Rattle.pearl_names.proofs.ShapeSlots.{elements_some, same_kinds_in}
use Rattle.pearl_names.proofs.Standing.{slice_get_more, stands_more}

times_one : (n : ℕ) → n ≡ n * 1
times_one n = omega arith

pub some_both : (n m : ℕ) → 1 ≤ n → 1 ≤ m → 1 ≤ n * m
some_both n m h k = mul-le 1 1 n m h k

-- one step
same_once : (many : ℕ) (shape : Shape) → shape_slots many shape ≡ shape_slots (many * 1) shape ++ []
same_once many shape = ap (λ n. shape_slots n shape) (times_one many) ∙ sym (append-nil (shape_slots (many * 1) shape))

step_apart : (many : ℕ) (shape : Shape) → shape_slots many shape ≡ shape_slots (many * first_times shape) (first_shape shape) ++ first_behind many shape
step_apart many (OfKind kind) = same_once many (OfKind kind)
step_apart many (OfFields NoField) = same_once many (OfFields NoField)
step_apart many (OfFields (MoreField name bounds shape rest)) = refl

step_few : (many : ℕ) (shape : Shape) → AreFew many shape → AreFew (many * first_times shape) (first_shape shape)
step_few many (OfKind kind) h = subst (λ n. AreFew n (OfKind kind)) (times_one many) h
step_few many (OfFields NoField) h = h
step_few many (OfFields (MoreField name bounds shape rest)) h = h.0

step_some : (shape : Shape) → 1 ≤ first_times shape
step_some (OfKind kind) = omega arith
step_some (OfFields NoField) = omega arith
step_some (OfFields (MoreField name bounds shape rest)) = elements_some bounds

step_kinds : (n m : ℕ) (shape : Shape) → 1 ≤ n → 1 ≤ m → kinds_among (first_behind n shape) ≡ kinds_among (first_behind m shape)
step_kinds n m (OfKind kind) h k = refl
step_kinds n m (OfFields NoField) h k = refl
step_kinds n m (OfFields (MoreField name bounds shape rest)) h k = same_kinds_in n m rest h k

-- so many steps: the slots are those of what they lead to, and those behind
pub slots_apart : (n many : ℕ) (shape : Shape) → shape_slots many shape ≡ shape_slots (many * times n shape) (inner_shape n shape) ++ behind_slots n many shape
slots_apart zero many shape = same_once many shape
slots_apart (suc n) many shape =
    let one = many * first_times shape in
    let inner = inner_shape n (first_shape shape) in
    let behind = behind_slots n one (first_shape shape) ++ first_behind many shape in
    step_apart many shape
    ∙ ap (λ l. l ++ first_behind many shape) (slots_apart n one (first_shape shape))
    ∙ append_assoc (shape_slots (one * times n (first_shape shape)) inner) (behind_slots n one (first_shape shape)) (first_behind many shape)
    ∙ ap (λ m. shape_slots m inner ++ behind) (mul_assoc many (first_times shape) (times n (first_shape shape)))

pub few_inner : (n many : ℕ) (shape : Shape) → AreFew many shape → AreFew (many * times n shape) (inner_shape n shape)
few_inner zero many shape h = subst (λ m. AreFew m shape) (times_one many) h
few_inner (suc n) many shape h =
    subst (λ m. AreFew m (inner_shape n (first_shape shape))) (mul_assoc many (first_times shape) (times n (first_shape shape)))
    (few_inner n (many * first_times shape) (first_shape shape) (step_few many shape h))

pub some_times : (n : ℕ) (shape : Shape) → 1 ≤ times n shape
some_times zero shape = omega arith
some_times (suc n) shape = some_both (first_times shape) (times n (first_shape shape)) (step_some shape) (some_times n (first_shape shape))

pub same_behind : (k n m : ℕ) (shape : Shape) → 1 ≤ n → 1 ≤ m → kinds_among (behind_slots k n shape) ≡ kinds_among (behind_slots k m shape)
same_behind zero n m shape h l = refl
same_behind (suc k) n m shape h l =
    let times = first_times shape in
    let some = step_some shape in
    kinds-append (behind_slots k (n * times) (first_shape shape)) (first_behind n shape)
    ∙ (λ i. joined_kinds (same_behind k (n * times) (m * times) (first_shape shape) (some_both n times h some) (some_both m times l some) i) (step_kinds n m shape h l i))
    ∙ sym (kinds-append (behind_slots k (m * times) (first_shape shape)) (first_behind m shape))

-- and so many more
none_more : (b : ℕ) → zero + b ≡ b
none_more b = omega arith

one_more : (a b : ℕ) → suc a + b ≡ suc (a + b)
one_more a b = omega arith

inner_more : (a b : ℕ) (shape : Shape) → inner_shape (a + b) shape ≡ inner_shape b (inner_shape a shape)
inner_more zero b shape = ap (λ n. inner_shape n shape) (none_more b)
inner_more (suc a) b shape = ap (λ n. inner_shape n shape) (one_more a b) ∙ inner_more a b (first_shape shape)

times_more : (a b : ℕ) (shape : Shape) → times (a + b) shape ≡ times a shape * times b (inner_shape a shape)
times_more zero b shape = ap (λ n. times n shape) (none_more b) ∙ one_times (times b shape)
  where
    one_times : (n : ℕ) → n ≡ 1 * n
    one_times n = omega arith
times_more (suc a) b shape =
    let one = first_times shape in
    ap (λ n. times n shape) (one_more a b) ∙ ap (λ n. one * n) (times_more a b (first_shape shape))
    ∙ sym (mul_assoc one (times a (first_shape shape)) (times b (inner_shape a (first_shape shape))))

pub behind_more : (a b many : ℕ) (shape : Shape) →
    behind_slots (a + b) many shape ≡ behind_slots b (many * times a shape) (inner_shape a shape) ++ behind_slots a many shape
behind_more zero b many shape =
    ap (λ n. behind_slots n many shape) (none_more b) ∙ ap (λ n. behind_slots b n shape) (times_one many) ∙ sym (append-nil (behind_slots b (many * 1) shape))
behind_more (suc a) b many shape =
    let one = many * first_times shape in
    let inner = inner_shape a (first_shape shape) in
    let behind = behind_slots a one (first_shape shape) ++ first_behind many shape in
    ap (λ n. behind_slots n many shape) (one_more a b)
    ∙ ap (λ l. l ++ first_behind many shape) (behind_more a b one (first_shape shape))
    ∙ append_assoc (behind_slots b (one * times a (first_shape shape)) inner) (behind_slots a one (first_shape shape)) (first_behind many shape)
    ∙ ap (λ m. behind_slots b m inner ++ behind) (mul_assoc many (first_times shape) (times a (first_shape shape)))

-- a leap leads so many steps on from a type of this shape
pub record LeapsTo (forms : List StructForm) (leap : Leap) (shape : Shape) : Type 0 where
  pub stands : StandsFor forms leap.to.part (inner_shape leap.steps shape)
  pub count : leap.to.count ≡ cut (times leap.steps shape)
  pub behind : leap.behind ≡ kinds_among (behind_slots leap.steps 1 shape)
  pub leaf : 1 ≤ leaf_count (inner_shape leap.steps shape)

leaps_once : (forms : List StructForm) (field : FieldForm) (name : List ℕ) (bounds : List (ℤ × ℤ)) (shape : Shape) (rest : Fields) →
    field.elements ≡ cut (elements bounds) → StandsFor forms field.part shape → 1 ≤ leaf_count shape →
    LeapsTo forms (one_step field (kinds_among (field_slots 1 rest))) (OfFields (MoreField name bounds shape rest))
leaps_once forms field name bounds shape rest counted stands leaf = record {
  stands = stands;
  count = counted ∙ ap cut (times_one (elements bounds));
  behind = refl;
  leaf = leaf;
}

leaps_on : (forms : List StructForm) (a b : Leap) (shape : Shape) → LeapsTo forms a shape → LeapsTo forms b (inner_shape a.steps shape) → LeapsTo forms (joined_leaps a b) shape
leaps_on forms a b shape near next =
    let inner = inner_shape a.steps shape in
    let each = times a.steps shape in
    let some : 1 ≤ 1 * each = some_both 1 each (omega arith) (some_times a.steps shape) in
    record {
      stands = subst (StandsFor forms b.to.part) (sym (inner_more a.steps b.steps shape)) next.stands;
      count = (λ i. cut (near.count i * next.count i)) ∙ sym (cut_mul each (times b.steps inner)) ∙ ap cut (sym (times_more a.steps b.steps shape));
      behind =
          (λ i. joined_kinds (next.behind i) (near.behind i))
          ∙ ap (λ k. joined_kinds k (kinds_among (behind_slots a.steps 1 shape))) (same_behind b.steps 1 (1 * each) inner (omega arith) some)
          ∙ sym (kinds-append (behind_slots b.steps (1 * each) inner) (behind_slots a.steps 1 shape))
          ∙ ap kinds_among (sym (behind_more a.steps b.steps 1 shape));
      leaf = subst (λ s. 1 ≤ leaf_count s) (sym (inner_more a.steps b.steps shape)) next.leaf;
    }

-- what is told of the first forms holds of all
leaps_all : (forms : List StructForm) (number : ℕ) (leap : Leap) (shape : Shape) → LeapsTo (take number forms) leap shape → LeapsTo forms leap shape
leaps_all forms number leap shape so = record {
  stands = subst (λ l. StandsFor l leap.to.part (inner_shape leap.steps shape)) (take-append-drop number forms)
      (stands_more (take number forms) (drop number forms) leap.to.part (inner_shape leap.steps shape) so.stands);
  count = so.count;
  behind = so.behind;
  leaf = so.leaf;
}

form_of_all : (forms : List StructForm) (n number : ℕ) (form : StructForm) → slice_get (take n forms) number ≡ Some form → slice_get forms number ≡ Some form
form_of_all forms n number form at =
    subst (λ l. slice_get l number ≡ Some form) (take-append-drop n forms) (slice_get_more (take n forms) (drop n forms) number form at)

-- the form of which a leap is kept
record KeptWith (forms : List StructForm) (number : ℕ) (leap : Leap) : Type 0 where
  pub form : StructForm
  pub at : slice_get forms number ≡ Some form
  pub is : form.leap ≡ Some leap

kept_with : (forms : List StructForm) (number : ℕ) (leap : Leap) → leap_at forms number ≡ Some leap → KeptWith forms number leap
kept_with forms number leap is = by (slice_get forms number) refl is
  where
    by : (found : Option StructForm) → slice_get forms number ≡ found → option_and_then (λ (form : StructForm). form.leap) found ≡ Some leap → KeptWith forms number leap
    by None at so = absurd (none-some leap so)
    by (Some form) at so = record { form = form; at = at; is = so }

leap_of_all : (forms : List StructForm) (n number : ℕ) (leap : Leap) → leap_at (take n forms) number ≡ Some leap → leap_at forms number ≡ Some leap
leap_of_all forms n number leap is =
    let kept = kept_with (take n forms) number leap is in
    ap (option_and_then (λ (form : StructForm). form.leap)) (form_of_all forms n number kept.form kept.at) ∙ kept.is

-- the STRUCT from which a leap is known to begin
pub record BeginsAt (forms : List StructForm) (part : TypeRef) (found : Begun) : Type 0 where
  pub part_is : part ≡ Struct found.number
  pub leap_is : leap_at forms found.number ≡ Some found.leap

pub begins_at : (forms : List StructForm) (part : TypeRef) (found : Begun) → begun forms part ≡ Some found → BeginsAt forms part found
begins_at forms (Basic kind) found is = absurd (none-some found is)
begins_at forms (Struct number) found is = by (leap_at forms number) refl is
  where
    by : (kept : Option Leap) → leap_at forms number ≡ kept → option_map (begun_with number) kept ≡ Some found → BeginsAt forms (Struct number) found
    by None at so = absurd (none-some found so)
    by (Some leap) at so =
        let same : begun_with number leap ≡ found = same_Some (begun_with number leap) found so in
        subst (BeginsAt forms (Struct number)) same (record { part_is = refl; leap_is = at })

begun_of_all : (forms : List StructForm) (n : ℕ) (part : TypeRef) (found : Begun) → begun (take n forms) part ≡ Some found → begun forms part ≡ Some found
begun_of_all forms n part found is =
    let at = begins_at (take n forms) part found is in
    ap (begun forms) at.part_is
    ∙ ap (option_map (begun_with found.number)) (leap_of_all forms n found.number found.leap at.leap_is)

-- what is found of a type, where the leaps of all forms are known
begun_leaps : (forms : List StructForm) (part : TypeRef) (shape : Shape) (found : Begun) →
    ((number : ℕ) (fields : Fields) (leap : Leap) → leap_at forms number ≡ Some leap → StandsFor forms (Struct number) (OfFields fields) → LeapsTo forms leap (OfFields fields)) →
    begun forms part ≡ Some found → StandsFor forms part shape → LeapsTo forms found.leap shape
unfolding StandsFor
begun_leaps forms part (OfFields fields) found all is h =
    let at = begins_at forms part found is in
    all found.number fields found.leap at.leap_is (subst (λ p. StandsFor forms p (OfFields fields)) at.part_is h)
begun_leaps forms part (OfKind kind) found all is h =
    let at = begins_at forms part found is in
    absurd (subst (λ p. StandsFor forms p (OfKind kind)) at.part_is h)

-- the leap of some fields, where those of the forms before them are known
fields_leap : (forms : List StructForm) (entries : List (ArrayVec ℕ × FieldForm)) (fields : Fields) (leap : Leap) →
    ((number : ℕ) (fields : Fields) (leap : Leap) → leap_at forms number ≡ Some leap → StandsFor forms (Struct number) (OfFields fields) → LeapsTo forms leap (OfFields fields)) →
    FieldsStand forms 0 0 entries fields → LeapStands forms (Some leap) entries fields → LeapsTo forms leap (OfFields fields)
unfolding StandsFor
fields_leap forms (entry ∷ entries) (MoreField name bounds shape rest) leap all h so =
    let one = one_step entry.1 (kinds_among (field_slots 1 rest)) in
    let whole = OfFields (MoreField name bounds shape rest) in
    let first : LeapsTo forms one whole = leaps_once forms entry.1 name bounds shape rest h.0.count h.1 so.1 in
    ⊎_elim
    (λ (is : leap ≡ one). subst (λ l. LeapsTo forms l whole) (sym is) first)
    (λ (far : IsFar forms one leap).
    let near = far.two.near.leap in
    let next = far.two.next.leap in
    let near_so : LeapsTo forms near shape = begun_leaps forms entry.1.part shape far.two.near all far.two.near_is h.1 in
    let next_so : LeapsTo forms next (inner_shape near.steps shape) =
    begun_leaps forms near.to.part (inner_shape near.steps shape) far.two.next all far.two.next_is near_so.stands in
    subst (λ l. LeapsTo forms l whole) (sym far.is) (leaps_on forms one (joined_leaps near next) whole first (leaps_on forms near next shape near_so next_so)))
    so.0
fields_leap forms [] NoField leap all h so = absurd so
fields_leap forms [] (MoreField name bounds shape rest) leap all h so = absurd h
fields_leap forms (entry ∷ entries) NoField leap all h so = absurd h

-- the fields of a form, and the leap that is kept with it
pub leap_of_form : (forms : List StructForm) (number : ℕ) (form : StructForm) (fields : Fields) → slice_get forms number ≡ Some form → StandsFor forms (Struct number) (OfFields fields) →
    LeapStands (take number forms) form.leap form.fields.entries fields
unfolding StandsFor
leap_of_form forms number form fields at h =
    let same : form ≡ h.0 = same_Some form h.0 (sym at ∙ h.1) in
    subst (λ f. LeapStands (take number forms) f.leap f.fields.entries fields) (sym same) h.7

pub fields_below : (forms : List StructForm) (number : ℕ) (form : StructForm) (fields : Fields) → slice_get forms number ≡ Some form → StandsFor forms (Struct number) (OfFields fields) →
    FieldsStand (take number forms) 0 0 form.fields.entries fields
unfolding StandsFor
fields_below forms number form fields at h =
    let same : form ≡ h.0 = same_Some form h.0 (sym at ∙ h.1) in
    subst (λ f. FieldsStand (take number forms) 0 0 f.fields.entries fields) (sym same) h.2

all_leap : (n : ℕ) (forms : List StructForm) → length forms ≤ n → (number : ℕ) (fields : Fields) (leap : Leap) → leap_at forms number ≡ Some leap →
    StandsFor forms (Struct number) (OfFields fields) → LeapsTo forms leap (OfFields fields)
all_leap zero forms few number fields leap is h =
    let kept = kept_with forms number leap is in
    let inside : number < length forms = slice_get_within forms number kept.form kept.at in
    absurd (omega (arith, few, inside))
all_leap (suc n) forms few number fields leap is h =
    let kept = kept_with forms number leap is in
    let inside : number < length forms = slice_get_within forms number kept.form kept.at in
    let long : length (take number forms) ≡ min number (length forms) = length-take number forms in
    let fewer : length (take number forms) ≤ n = omega (arith, few, inside, long) in
    leaps_all forms number leap (OfFields fields)
    (fields_leap (take number forms) kept.form.fields.entries fields leap (λ m own other is_so stands. all_leap n (take number forms) fewer m own other is_so stands)
    (fields_below forms number kept.form fields kept.at h)
    (subst (λ l. LeapStands (take number forms) l kept.form.fields.entries fields) kept.is (leap_of_form forms number kept.form fields kept.at h)))

pub leap_kept : (forms : List StructForm) (number : ℕ) (fields : Fields) (leap : Leap) → leap_at forms number ≡ Some leap →
    StandsFor forms (Struct number) (OfFields fields) → LeapsTo forms leap (OfFields fields)
leap_kept forms number fields leap is h = all_leap (length forms) forms (omega arith) number fields leap is h

pub leap_begun : (forms : List StructForm) (part : TypeRef) (shape : Shape) (found : Begun) → begun forms part ≡ Some found → StandsFor forms part shape → LeapsTo forms found.leap shape
leap_begun forms part shape found is h = begun_leaps forms part shape found (leap_kept forms) is h

pub leap_stands : (forms : List StructForm) (entries : List (ArrayVec ℕ × FieldForm)) (fields : Fields) (leap : Leap) → FieldsStand forms 0 0 entries fields →
    LeapStands forms (Some leap) entries fields → LeapsTo forms leap (OfFields fields)
leap_stands forms entries fields leap h so = fields_leap forms entries fields leap (leap_kept forms) h so

-- two leaps among the first forms are such among all
pub record Further (forms : List StructForm) (part : TypeRef) (steps : ℕ) : Type 0 where
  pub two : TwoLeaps forms part
  pub steps_are : steps ≡ suc (two_steps two)

pub far_steps : (forms : List StructForm) (n : ℕ) (one leap : Leap) → one.steps ≡ 1 → IsFar (take n forms) one leap → Further forms one.to.part leap.steps
far_steps forms n one leap first far =
    let two : TwoLeaps forms one.to.part = record {
      near = far.two.near;
      next = far.two.next;
      near_is = begun_of_all forms n one.to.part far.two.near far.two.near_is;
      next_is = begun_of_all forms n far.two.near.leap.to.part far.two.next far.two.next_is;
    } in
    let sum = far.two.near.leap.steps + far.two.next.leap.steps in
    let e : leap.steps ≡ one.steps + sum = ap (λ (l : Leap). l.steps) far.is in
    record { two = two; steps_are = e ∙ after_one one.steps sum first }
  where
    after_one : (n m : ℕ) → n ≡ 1 → n + m ≡ suc m
    after_one n m h = omega (arith, h)

-- the leap of a form that has all its fields
pub leap_made : (forms : List StructForm) (entries : List (ArrayVec ℕ × FieldForm)) (fields : Fields) (entry : ArrayVec ℕ × FieldForm) (behind : Kinds) (leap : Leap) →
    slice_get entries 0 ≡ Some entry → FieldsStand forms 0 0 entries fields → behind ≡ kinds_among (field_slots 1 (drop_fields 1 fields)) → IsLeap forms (one_step entry.1 behind) leap →
    ((shape : Shape) → StandsFor forms entry.1.part shape → true ≡ nat_lt 0 (leaf_count shape)) → LeapStands forms (Some leap) entries fields
unfolding StandsFor
leap_made forms [] fields entry behind leap at h is so leafy = absurd (none-some entry at)
leap_made forms (x ∷ entries) NoField entry behind leap at h is so leafy = absurd h
leap_made forms (x ∷ entries) (MoreField name bounds shape rest) entry behind leap at h is so leafy =
    let same : x ≡ entry = same_Some x entry at in
    let stands : StandsFor forms entry.1.part shape = subst (λ e. StandsFor forms e.1.part shape) same h.1 in (
      subst (λ e. IsLeap forms (one_step e.1 (kinds_among (field_slots 1 rest))) leap) (sym same) (subst (λ k. IsLeap forms (one_step entry.1 k) leap) is so),
      some_leaf (leaf_count shape) (leafy shape stands),
    )
  where
    some_leaf : (n : ℕ) → true ≡ nat_lt 0 n → 1 ≤ n
    some_leaf zero h = absurd (true≢false h)
    some_leaf (suc n) h = omega arith
