use Rattle.std.proofs.Common.{◌≡◌, drop}
use Rattle.std.specs.Prelude.{false}
use Rattle.mt_frame.specs.Reading.{before, unescaped}
use Rattle.mt_frame.proofs.escape.unescape.Given as goal

-- the bytes so far and those of the rest are all
abbrev pub invariant-loop-byte : goal.invariant-loop-byte
invariant-loop-byte l = before l.bytes.items (unescaped l.is_escape (drop l.byte-index l.text)) ≡ unescaped false l.text
