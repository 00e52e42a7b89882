-- Zeros over what follows the end of a log.
use Rattle.std.proofs.Common.{◌≡◌, ℕ, ◌+◌, ◌-◌, ◌<◌, List, [], ◌++◌, length, get_or, drop, replicate, refl, sym, ap, subst, ◌∙◌, arith}
use Rattle.std.proofs.lemmas.List.{append-nil, length-drop, get_or-replicate, length-replicate}
use Rattle.std.proofs.lemmas.List.Prefix.{front_from_reads}
use Rattle.sqlite_disk.specs.Disk.{Holds, Torn, Mixed, Only, Follows}
use Rattle.mt_frame.specs.declared.entry.Entry.{Entry}
use Rattle.mt_frame.specs.declared.entry.LogHeader.{LogHeader}
use Rattle.mt_frame.specs.declared.entry.Entry.TheVariants.{Header}
use Rattle.mt_frame.specs.Fits.{HasFrame}
use Rattle.mt_frame.proofs.FrameLaws.{ends_stay, ends_some}
use Rattle.mt_journal.specs.declared.position.Position.{Position}
use Rattle.mt_journal.specs.Log.{header_frame, log_spelling, IsLog}
use Rattle.mt_journal.specs.Keeping.{Keeps, AllAreLogs}
use Rattle.mt_journal.specs.Recovery.{HasReadAll}
use Rattle.mt_journal.proofs.Frames.{logs_read_one_way, frame_some}
use Rattle.mt_journal.proofs.Kept.{split_zeros}
use Rattle.mt_journal.proofs.Reading.{begun}
use Rattle.mt_journal.proofs.Writes.{holds_over, mixed_by_zeros}

tail_length : (header : LogHeader) (entries : List Entry) (at : Position) (seen : List ℕ) (n : ℕ) → HasReadAll header entries at seen → at.end + n ≡ at.room → length (drop at.end seen) ≡ n
tail_length header entries at seen n all room = omega (arith, length-drop at.end seen, all.room, room)

seen_parts : (header : LogHeader) (entries : List Entry) (at : Position) (seen : List ℕ) → HasReadAll header entries at seen → seen ≡ log_spelling header entries ++ (drop at.end seen ++ [])
seen_parts header entries at seen all = all.read.parts ∙ ap (λ (l : List ℕ). log_spelling header entries ++ l) (sym (append-nil (drop at.end seen)))

pub repaired : (header : LogHeader) (entries : List Entry) (at : Position) (seen middle new zeros : List ℕ) (may : List ℕ → Type 0) → HasReadAll header entries at seen
    → zeros ≡ replicate (length zeros) 0 → at.end + length zeros ≡ at.room → Torn at.end (length zeros) seen middle → (0 < length zeros → Holds middle at.end zeros) → new ≡ middle → Only middle may
    → Keeps at new may header entries
repaired header entries at seen middle new zeros may all are room torn holds same only =
    let log = log_spelling header entries in
    let n = length zeros in
    let tail = tail_length header entries at seen n all room in
    let some : 0 < n = omega (arith, tail, ends_some (drop at.end seen) all.ended) in
    let over = holds_over log (drop at.end seen) [] middle zeros at.end all.read.end tail (subst (λ (l : List ℕ). Torn at.end n l middle) (seen_parts header entries at seen all) torn) (holds some) in
    let middle_is : middle ≡ log ++ (replicate n 0 ++ []) = over ∙ ap (λ (l : List ℕ). log ++ (l ++ [])) are in
    record {
      says = all.read.says;
      generation = all.read.generation;
      end = all.read.end;
      newest = all.read.newest;
      zeros = n;
      rest = [];
      seen_is = same ∙ middle_is;
      some = some;
      room = room;
      synced = entries;
      since = [];
      joined = sym (append-nil entries);
      durable = all.durable ∙ all.read.newest;
      left = λ left may_left. record {
        torn = [];
        zeros = n;
        rest = [];
        parts = only left may_left ∙ middle_is;
        mixed = tt;
        some = some;
        room_is = omega (arith, room, all.read.end);
      };
    }

pub repair_crashed : (header : LogHeader) (entries : List Entry) (at : Position) (seen zeros : List ℕ) (may more : List ℕ → Type 0) → HasReadAll header entries at seen
    → zeros ≡ replicate (length zeros) 0 → at.end + length zeros ≡ at.room → Only seen may → Follows (Mixed at.end zeros) may more → AllAreLogs header entries more
repair_crashed header entries at seen zeros may more all are room only follows = λ left may_left.
    let log = log_spelling header entries in
    let n = length zeros in
    let tail = tail_length header entries at seen n all room in
    let from = follows left may_left in
    let was : from.0 ≡ log ++ (drop at.end seen ++ []) = only from.0 from.1 ∙ seen_parts header entries at seen all in
    let m = mixed_by_zeros log (drop at.end seen) left zeros at.end all.read.end tail (λ i lt. ap (λ (l : List ℕ). get_or l i 0) are ∙ get_or-replicate n i 0 0 lt) (subst (λ (l : List ℕ). Mixed at.end zeros l left) was from.2) in
    record {
      says = all.read.says;
      rest = m.0.part;
      parts = m.0.parts ∙ ap (λ (l : List ℕ). log ++ l) (append-nil m.0.part);
      ended = ends_stay (drop at.end seen) m.0.part m.1 all.ended;
    }

-- what was read is a log
pub is_log : (header : LogHeader) (entries : List Entry) (at : Position) (bytes : List ℕ) → HasReadAll header entries at bytes → IsLog header entries bytes
is_log header entries at bytes all = record { says = all.read.says; rest = drop at.end bytes; parts = all.read.parts; ended = all.ended }

-- the same entries are read
pub same_log : (header other : LogHeader) (entries others : List Entry) (at : Position) (seen bytes left : List ℕ) → IsLog header entries seen → HasReadAll other others at bytes → bytes ≡ seen → IsLog other others left
    → IsLog header entries left
same_log header other entries others at seen bytes left log all e after =
    let read = subst (λ (l : List ℕ). IsLog other others l) e (is_log other others at bytes all) in
    let same = logs_read_one_way header other entries others seen log read in
    subst (λ (l : List Entry). IsLog header l left) (sym same.1) (subst (λ (h : LogHeader). IsLog h others left) (sym same.0) after)

-- ---- a new log

pub zeros_first : (room : ℕ) (new : List ℕ) → (0 < room → Holds new 0 (replicate room 0)) → 0 < room → new ≡ replicate room 0 ++ drop (length {A = ℕ} (replicate room 0)) new
zeros_first room new holds some =
    let held = holds some in
    front_from_reads 0 new (replicate room 0) (omega (arith, held.within)) (λ i lt. ap (λ (k : ℕ). get_or new k 0) (omega arith) ∙ held.each i lt)

pub made : (header : LogHeader) (frame seen middle new rest : List ℕ) (may : List ℕ → Type 0) (room : ℕ) → frame ≡ header_frame header → HasFrame 0 0 (Header header) → length frame < room
    → seen ≡ replicate room 0 ++ rest → Torn 0 (length frame) seen middle → (0 < length frame → Holds middle 0 frame) → new ≡ middle → Only middle may
    → Keeps (begun header (length frame) room) new may header []
made header frame seen middle new rest may room frame_is has fits zeros torn holds same only =
    let n = length frame in
    let tail = replicate (room - n) 0 ++ rest in
    let seen_is : seen ≡ replicate n 0 ++ tail = zeros ∙ split_zeros n room rest (omega (arith, fits)) in
    let some : 0 < n = omega (arith, ap length frame_is, frame_some 0 0 (Header header)) in
    let over : middle ≡ frame ++ tail = holds_over [] (replicate n 0) tail middle frame 0 refl (length-replicate n 0) (subst (λ (l : List ℕ). Torn 0 n l middle) seen_is torn) (holds some) in
    let log : log_spelling header [] ≡ frame = append-nil (header_frame header) ∙ sym frame_is in
    let middle_is : middle ≡ log_spelling header [] ++ tail = over ∙ ap (λ (l : List ℕ). l ++ tail) (sym log) in
    record {
      says = record { begins = has; have = tt; numbered = tt };
      generation = refl;
      end = ap length (sym log);
      newest = refl;
      zeros = room - n;
      rest = rest;
      seen_is = same ∙ middle_is;
      some = omega (arith, fits);
      room = omega (arith, fits);
      synced = [];
      since = [];
      joined = refl;
      durable = refl;
      left = λ left may_left. record {
        torn = [];
        zeros = room - n;
        rest = rest;
        parts = only left may_left ∙ middle_is;
        mixed = tt;
        some = omega (arith, fits);
        room_is = omega (arith, fits, ap length log);
      };
    }
