-- Which words a line has, and which of them are numbers and names.
use Rattle.std.specs.Prelude.{ℕ, ◌+◌, ◌-◌, ◌*◌, ◌^◌, List, [], ◌∷◌, Bool, Option, Some, None, length, take, drop, nat_lt, ◌==◌, ◌||◌, if◌then◌else◌, bytes_eq}
use Rattle.std.specs.Char.{digit_value, is_ascii_digit}
use Rattle.std.specs.List.{prefix_len, suffix_len, before_first, after_first, position}
use Rattle.std.specs.Str.{all_ascii_digits}
use Rattle.std.specs.Str.Parse.{digits_value}
use Rattle.pearl_rules.specs.declared.setup.TaskEntry.{TaskEntry}

-- WORDS

-- a blank or a tab
abbrev pub is_blank : ℕ → Bool
is_blank byte = byte == 32 || byte == 9

-- a text without the blanks at its front
abbrev pub behind_blanks : List ℕ → List ℕ
behind_blanks text = drop (prefix_len is_blank text) text

-- a text without the blanks at its end
abbrev pub before_blanks : List ℕ → List ℕ
before_blanks text = take (length text - suffix_len is_blank text) text

abbrev pub first_word : List ℕ → List ℕ
first_word text = before_first is_blank text

-- what stands behind the first word of a text and the blanks after it
abbrev pub behind_word : List ℕ → List ℕ
behind_word text = behind_blanks (after_first is_blank text)

-- NUMBERS

abbrev pub limited : ℕ → Option ℕ
limited n = if nat_lt n (2 ^ 63) then Some n else None

-- the number that digits spell in decimal, at most 2^63 - 1
abbrev pub number : List ℕ → Option ℕ
number [] = None
number (byte ∷ bytes) = if all_ascii_digits (byte ∷ bytes) then limited (digits_value 10 (byte ∷ bytes)) else None

-- a number with one more digit behind it, at most 2^63 - 1
abbrev pub followed : ℕ → ℕ → Option ℕ
followed n byte = if is_ascii_digit byte then limited (n * 10 + digit_value byte) else None

-- NAMES

-- the first of the tasks that has this name
abbrev pub task_named : List TaskEntry → List ℕ → Option ℕ
task_named tasks name = position (λ (task : TaskEntry). bytes_eq task.name.items name) tasks
