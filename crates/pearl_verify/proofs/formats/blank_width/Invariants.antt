use Rattle.std.proofs.Common.{◌≡◌, ◌≤◌, ◌+◌, ◌*◌, drop}
use Rattle.pearl_verify.specs.Formats.{blank_width}
use Rattle.pearl_verify.proofs.formats.blank_width.Given as goal

abbrev pub invariant-loop-item : goal.invariant-loop-item
invariant-loop-item l = (blank_width l.items ≡ l.width + blank_width (drop l.item-index l.items)) × (l.width ≤ 255 * l.item-index)
