-- Lines that are written with one blank between their parts say these.
use Rattle.std.proofs.Common.{◌≡◌, ◌≢◌, ◌≤◌, ℕ, List, [], ◌∷◌, ◌++◌, length, refl, ap, sym, ◌∙◌, subst}
use Rattle.std.proofs.lemmas.List.{append-nil, append_assoc}
use Rattle.pearl_journal.specs.Laws.{EndsInNoReturn, IsBare, IsWord}
use Rattle.pearl_journal.proofs.Offered.{IsSolid, solid_begins}
use Rattle.pearl_journal_laws.specs.Says.{Says, SaysMore}

-- LAST BYTES

-- what is behind others, if it has a byte, ends as they do together
pub last_behind : (before text front : List ℕ) (byte : ℕ) → text ≢ [] → before ++ text ≡ front ++ byte ∷ [] →
    (rest : List ℕ) × (text ≡ rest ++ byte ∷ [])
last_behind [] text front byte some e = (front, e)
last_behind (b ∷ before) text [] byte some e =
    let none : before ++ text ≡ [] = cc in
    absurd (some (empty before none))
  where
    empty : (bytes : List ℕ) → bytes ++ text ≡ [] → text ≡ []
    empty [] e = e
    empty (b ∷ bytes) e = let no : ⊥ = cc in absurd no
last_behind (b ∷ before) text (f ∷ front) byte some e =
    let others : before ++ text ≡ front ++ byte ∷ [] = cc in
    last_behind before text front byte some others

pub ends_behind : (before text : List ℕ) → text ≢ [] → EndsInNoReturn text → EndsInNoReturn (before ++ text)
ends_behind before text some ends front e =
    let last = last_behind before text front 13 some e in
    ends last.0 last.1

bare_behind : (second text : List ℕ) → second ≢ [] → IsSolid second → IsBare text → text ≢ [] →
    IsBare (second ++ 32 ∷ text)
bare_behind second text some solid bare more =
    record {
      begins = solid_begins second (32 ∷ text) solid some;
      ends = λ front byte e.
          let last = last_behind (second ++ 32 ∷ []) text front byte more (append_assoc second (32 ∷ []) text ∙ e) in
          bare.ends last.0 byte last.1;
    }

nothing_is_bare : IsBare []
nothing_is_bare = record { begins = λ byte rest e. cc; ends = λ front byte e. absurd (no_last front byte e) }
  where
    no_last : (front : List ℕ) (byte : ℕ) → [] ≡ front ++ byte ∷ [] → ⊥
    no_last [] byte e = cc
    no_last (b ∷ front) byte e = cc

-- PARTS

pub says_word : (word : List ℕ) → IsWord word → EndsInNoReturn word → length word ≤ 1024 → Says word word []
says_word word is ends short =
    record {
      parts = record {
        front = [];
        gap = [];
        back = [];
        spelled = sym (append-nil word);
        front_is_gap = tt;
        gap_is_gap = tt;
        back_is_gap = tt;
        is_word = is;
        is_bare = nothing_is_bare;
        parted = λ e. refl;
      };
      ends = ends;
      short = short;
    }

pub says_text : (word text : List ℕ) → IsWord word → IsBare text → text ≢ [] → EndsInNoReturn text →
    length (word ++ 32 ∷ text) ≤ 1024 → Says (word ++ 32 ∷ text) word text
says_text word text is bare some ends short =
    record {
      parts = record {
        front = [];
        gap = 32 ∷ [];
        back = [];
        spelled = ap (λ t. word ++ 32 ∷ t) (sym (append-nil text));
        front_is_gap = tt;
        gap_is_gap = (refl, tt);
        back_is_gap = tt;
        is_word = is;
        is_bare = bare;
        parted = λ e. cc;
      };
      ends = subst EndsInNoReturn (append_assoc word (32 ∷ []) text) (ends_behind (word ++ 32 ∷ []) text some ends);
      short = short;
    }

pub says_three : (word second text : List ℕ) → IsWord word → second ≢ [] → IsSolid second → IsBare text → text ≢ [] →
    EndsInNoReturn text → length (word ++ 32 ∷ (second ++ 32 ∷ text)) ≤ 1024 →
    SaysMore (word ++ 32 ∷ (second ++ 32 ∷ text)) word second text
says_three word second text is some solid bare more ends short =
    let inner_ends : EndsInNoReturn (second ++ 32 ∷ text) =
    subst EndsInNoReturn (append_assoc second (32 ∷ []) text) (ends_behind (second ++ 32 ∷ []) text more ends) in
    let says = says_text word (second ++ 32 ∷ text) is (bare_behind second text some solid bare more)
    (filled second some) inner_ends short in
    record {
      parts = record { gap = 32 ∷ []; says = says.parts; is_gap = (refl, tt); parted = λ e. cc; solid = solid };
      is_bare = bare;
      ends = says.ends;
      short = short;
    }
  where
    filled : (bytes : List ℕ) → bytes ≢ [] → bytes ++ 32 ∷ text ≢ []
    filled [] some e = some refl
    filled (b ∷ bytes) some e = cc
