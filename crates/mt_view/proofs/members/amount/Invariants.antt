use Rattle.std.proofs.Common.{◌≡◌, ◌<◌, ◌^◌, drop}
use Rattle.mt_types.specs.Views.{number_from}
use Rattle.mt_view.proofs.members.amount.Given as goal

abbrev pub invariant-loop-byte : goal.invariant-loop-byte
invariant-loop-byte l = record {
  read : number_from l.number (drop l.byte-index l.bytes) ≡ number_from 0 l.bytes;
  small : l.number < 256 ^ l.byte-index;
}
