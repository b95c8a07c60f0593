use Rattle.std.proofs.Common.{◌≡◌, map, string_bytes, take}
use Rattle.pearl_watch.proofs.watch.kept_names.Given as goal

abbrev pub invariant-loop-name : goal.invariant-loop-name
invariant-loop-name l = map (λ n. n.items) l.kept.items ≡ map string_bytes (take l.name-index l.names)
