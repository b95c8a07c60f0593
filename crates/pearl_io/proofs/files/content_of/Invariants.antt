use Rattle.std.proofs.Common.{◌≡◌, drop}
use Rattle.pearl_io.specs.Outside.{content}
use Rattle.pearl_io.proofs.files.content_of.Given as goal

-- no file so far has the name
abbrev pub invariant-loop-file : goal.invariant-loop-file
invariant-loop-file l = content l.files l.name ≡ content (drop l.file-index l.files) l.name
