-- How often tasks were started and ended, and how many starts were lost, by the lines of a transcript.
use Rattle.std.specs.Prelude.{ℕ, ◌==◌, if◌then◌else◌, List, [], ◌∷◌, ◌++◌, Bool, codes, count_by}
use Rattle.std.specs.Fmt.{decimal}
use Rattle.std.specs.List.{slice_split, starts_with}

-- what stands behind a line's first blank: in front of it stands the moment
abbrev pub behind_blank : List ℕ → List ℕ
behind_blank [] = []
behind_blank (byte ∷ line) = if byte == 32 then line else behind_blank line

-- this word stands there
abbrev pub tells : (word line : List ℕ) → Bool
tells word line = starts_with (λ a b. a == b) (behind_blank line) word

-- how many lines do
abbrev pub count_of : (word transcript : List ℕ) → ℕ
count_of word transcript = count_by (tells word) (slice_split (λ byte. byte == 10) transcript)

abbrev pub summary_of : (n : ℕ) (transcript : List ℕ) → List ℕ
summary_of n transcript =
    codes "bench " ++ decimal n
    ++ codes " starts " ++ decimal (count_of (codes "start ") transcript)
    ++ codes " ends " ++ decimal (count_of (codes "end ") transcript)
    ++ codes " overruns " ++ decimal (count_of (codes "overrun ") transcript)
    ++ codes "\n"
