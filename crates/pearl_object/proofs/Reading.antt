-- What the reading of all of some bytes tells: the object, or the first bad field.
use Rattle.std.proofs.Common.{◌≡◌, ℕ, zero, suc, cond, eqb, inl, inr, ◌-◌, ◌^◌, ◌<◌, List, [], ◌∷◌, ◌++◌, length, take, get_or, Result, Ok, Err, sym, ap, subst, ◌∙◌, arith, length-append}
use Rattle.std.proofs.lemmas.List.{append-nil}
use Rattle.pearl_instructions.specs.declared.object.Parts.{Parts}
use Rattle.pearl_instructions.specs.Lawful.{IsObject}
use Rattle.pearl_fields.specs.declared.fault.ReadFault.{ReadFault}
use Rattle.pearl_fields.specs.declared.fault.ReadFault.TheVariants as fault
use Rattle.pearl_fields.specs.Codec.{IsBytes, whole_read}
use Rattle.pearl_fields.proofs.Offered.{whole_takes, whole_again, none_begins, one_value, local, bind_err, guard_err, ok_is, bytes_before, whole_before}
use Rattle.pearl_object.specs.Objects.{object, object_bytes, GivesWhole, IsFaultless}
use Rattle.pearl_object.proofs.Wholes.{object_told}
use Rattle.pearl_object.proofs.Spelled.{object_is}
use Rattle.pearl_object.proofs.Standing.{object_fits}

bytes_together : (xs ys : List ℕ) → IsBytes xs → IsBytes ys → (i : ℕ) → get_or (xs ++ ys) i 0 < 256
bytes_together [] ys h k i = k i
bytes_together (x ∷ xs) ys h k zero = h 0
bytes_together (x ∷ xs) ys h k (suc i) = bytes_together xs ys (λ j. h (suc j)) k i

pub object_takes : (bytes : List ℕ) (o : Parts) → IsBytes bytes → whole_read object bytes ≡ Ok o → (bytes ≡ object_bytes o) × object.fits o
object_takes bytes o fits seen = whole_takes object object_told.lawful bytes o fits seen

pub is_object : (bytes : List ℕ) (o : Parts) → IsBytes bytes → length bytes < 2 ^ 32 → whole_read object bytes ≡ Ok o → IsObject o
is_object bytes o fits short seen =
    let t = object_takes bytes o fits seen in object_is o t.1 (subst (λ bs. length bs < 2 ^ 32) t.0 short)

pub seen_of : (bytes : List ℕ) (o : Parts) → IsBytes bytes → IsObject o → bytes ≡ object_bytes o → whole_read object bytes ≡ Ok o
seen_of bytes o fits is same =
    ap (whole_read object) same ∙ whole_again object object_told.lawful o (object_fits o is (subst IsBytes same fits))

abbrev as_ok : Parts → Result Parts ℕ
as_ok o = Ok o

pub same_object : (seen : Result Parts ℕ) (o p : Parts) → seen ≡ Ok o → seen ≡ Ok p → o ≡ p
same_object seen o p a b = let e : as_ok o ≡ as_ok p = sym a ∙ b in cc

pub never_both : (seen : Result Parts ℕ) (o : Parts) (left : ℕ) → seen ≡ Ok o → seen ≡ Err left → ⊥
never_both seen o left p q = let e = sym p ∙ q in cc

-- bytes that are bad before their end begin no object
pub begins_none : (bytes : List ℕ) (left : ℕ) → IsBytes bytes → whole_read object bytes ≡ Err left → 0 < left → (o : Parts) (more : List ℕ) → IsObject o → IsBytes more → object_bytes o ≡ bytes ++ more → ⊥
begins_none bytes zero fits seen some o more is small same = absurd (omega arith)
begins_none bytes (suc left) fits seen some o more is small same =
    let spelled = object_fits o is (subst IsBytes (sym same) (bytes_together bytes more fits small)) in
    elim (bind_err (object.read bytes) (λ x. cond (eqb (length x.1) 0) (Ok x.0) (Err (length x.1))) (suc left) seen) [
      | inl e ↦ none_begins object object_told.lawful bytes more left o fits e spelled same
      | inr a ↦
          let far : object.read (bytes ++ more) ≡ Ok (a.0.0, a.0.1 ++ more) = local object object_told.lawful bytes a.0.0 a.0.1 more fits a.1 in
          let near : object.read (bytes ++ more) ≡ Ok (o, []) = ap object.read (sym same ∙ sym (append-nil (object.bytes o))) ∙ object_told.lawful.again o [] spelled in
          let none : a.0.1 ++ more ≡ [] = ap (λ p. p.1) (ok_is (a.0.0, a.0.1 ++ more) (o, []) (sym far ∙ near)) in
          let len : length a.0.1 ≡ suc left = (guard_err (eqb (length a.0.1) 0) (length a.0.1) (suc left) a.0.0 a.2).1 in
          omega (arith, len, ap length none, length-append a.0.1 more)
    ]

pub none_before : (bytes : List ℕ) (left : ℕ) → IsBytes bytes → whole_read object bytes ≡ Err left → IsFaultless (whole_read object (take (length bytes - left) bytes))
none_before bytes left fits seen = whole_before object object_told bytes left fits seen

pub whole_bad : (seen : Result Parts ℕ) (f : ReadFault) (left : ℕ) → f ≡ fault.Bad left → GivesWhole seen (Err f) → seen ≡ Err left
whole_bad seen f left is h = subst (λ g. GivesWhole seen (Err g)) is h

pub one_object : (o p : Parts) (more rest : List ℕ) → IsObject o → IsObject p → IsBytes (object_bytes o ++ more) → object_bytes o ++ more ≡ object_bytes p ++ rest → (o ≡ p) × (more ≡ rest)
one_object o p more rest is other small same =
    one_value object object_told.lawful o p more rest (object_fits o is (bytes_before (object_bytes o) more small))
    (object_fits p other (bytes_before (object_bytes p) rest (subst IsBytes same small))) same
