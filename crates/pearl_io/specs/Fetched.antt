-- What does the answer of fetching a whole file say of the file?
use Rattle.std.specs.Prelude.{◌≡◌, ℕ, ◌<◌, ◌≤◌, List, length, take}
use Rattle.pearl_io.specs.declared.fetch.Fetched.{Fetched}
use Rattle.pearl_io.specs.declared.fetch.Fetched.TheVariants.{Whole, TooLong, Fault, NoMemory}

-- the answer has at most `limit` bytes, and where the file is too long just as many
abbrev pub IsWithin : ℕ → Fetched → Type 0
IsWithin limit (Whole bytes) = length bytes.items ≤ limit
IsWithin limit (TooLong bytes) = length bytes.items ≡ limit
IsWithin limit (Fault bytes) = length bytes.items ≤ limit
IsWithin limit NoMemory = Unit {0}

-- the answer is the whole file, its first `limit` bytes where it has more, or what was read of it before a fault
abbrev pub IsReadOf : List ℕ → ℕ → Fetched → Type 0
IsReadOf file limit (Whole bytes) = bytes.items ≡ file
IsReadOf file limit (TooLong bytes) = (limit < length file) × (bytes.items ≡ take limit file)
IsReadOf file limit (Fault bytes) = bytes.items ≡ take (length bytes.items) file
IsReadOf file limit NoMemory = Unit {0}

-- the fact holds where the answer is a fault
abbrev pub OnFault : Fetched → Type 0 → Type 0
OnFault (Fault bytes) fact = fact
OnFault _ fact = Unit {0}
