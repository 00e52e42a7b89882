use Rattle.std.proofs.Common.{◌≡◌, ◌∙◌, ◌<◌, refl, sym, ap, length, arith, rules}
use Rattle.sqlite_disk.specs.Memory.{memory_bytes}
use Rattle.mtfolder.proofs.CutLemmas.{none_left, overwritten}
use Rattle.mtfolder.proofs.copies.disk_of.Goals as goal
use Rattle.mtfolder.proofs.copies.disk_of.Goals.{then-not-is_empty+in_ok-write_at, else-not-is_empty}

-- an empty disk that all bytes are written to has them
pub returns : goal.returns
returns c =
    let bytes = c.args.bytes.now in
    let fresh = memory_bytes c.new-disk.result in
    let none : length fresh ≡ 0 = ap length c.new-disk.ensures.empty in
    elim c.if-not-is_empty.branch [
      | then-not-is_empty+in_ok-write_at w ↦
          let some : 0 < length bytes = search rules in
          ap memory_bytes w.disk-is
          ∙ overwritten 0 fresh bytes bytes (memory_bytes w.write_at.new.self) refl some (omega arith) (omega (arith, none)) (λ i lt. absurd (omega (arith, lt)))
          w.in_ok-write_at.ensures.others w.in_ok-write_at.ensures.written
      | else-not-is_empty w ↦
          let empty : length bytes ≡ 0 = search rules in
          ap memory_bytes w.disk-is ∙ c.new-disk.ensures.empty ∙ sym (none_left bytes empty)
    ]
