-- Which kinds are among some slots, as far as a constant that is put into all of them needs it.
use Rattle.std.specs.Prelude.{ℕ, min, Bool, true, false, ◌||◌, List, [], ◌∷◌, Option, Some, None, is_some}
use Rattle.pearl_value.specs.declared.kind.Kind.{Kind}
use Rattle.pearl_value.specs.declared.kind.Kind.TheVariants as kind
use Rattle.pearl_names.specs.declared.kinds.Kinds.{Kinds}

abbrev pub least : Option ℕ → Option ℕ → Option ℕ
least None b = b
least (Some a) None = Some a
least (Some a) (Some b) = Some (min a b)

abbrev pub no_kinds : Kinds
no_kinds = record { fixed = None; bits = None; chars = None; clock = false; span = false }

abbrev pub one_kind : Kind → Kinds
one_kind (kind.Fixed len) = record { fixed = Some len; bits = None; chars = None; clock = false; span = false }
one_kind (kind.Bits len) = record { fixed = None; bits = Some len; chars = None; clock = false; span = false }
one_kind (kind.Chars len) = record { fixed = None; bits = None; chars = Some len; clock = false; span = false }
one_kind kind.Clock = record { fixed = None; bits = None; chars = None; clock = true; span = false }
one_kind kind.Span = record { fixed = None; bits = None; chars = None; clock = false; span = true }

abbrev pub joined_kinds : Kinds → Kinds → Kinds
joined_kinds a b = record {
  fixed = least a.fixed b.fixed;
  bits = least a.bits b.bits;
  chars = least a.chars b.chars;
  clock = a.clock || b.clock;
  span = a.span || b.span;
}

abbrev pub kinds_among : List Kind → Kinds
kinds_among [] = no_kinds
kinds_among (kind ∷ rest) = joined_kinds (one_kind kind) (kinds_among rest)

abbrev pub has_kind : Kinds → Bool
has_kind kinds = is_some kinds.fixed || is_some kinds.bits || is_some kinds.chars || kinds.clock || kinds.span
