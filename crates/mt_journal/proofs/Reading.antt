-- A log is read entry by entry.
use Rattle.std.proofs.Common.{◌≡◌, ℕ, ◌+◌, List, [], ◌∷◌, ◌++◌, length, drop, refl, sym, ap, ◌∙◌, append_assoc, arith, length-append, ◌^◌, true, Option, Some, None, Result, Ok, Err, ◌≤◌, ◌<◌, subst}
use Rattle.std.specs.Prelude.{IsTrue}
use Rattle.std.proofs.lemmas.List.{append-nil, append_cancel_left, drop-drop, length-drop}
use Rattle.mt_frame.specs.declared.entry.Entry.{Entry}
use Rattle.mt_frame.specs.declared.entry.Entry.TheVariants.{Header}
use Rattle.mt_frame.specs.declared.entry.LogHeader.{LogHeader}
use Rattle.mt_frame.specs.Spelling.{frame_of, frames_of}
use Rattle.mt_frame.specs.declared.fault.FrameFault.{FrameFault}
use Rattle.mt_frame.specs.Ends.{ends}
use Rattle.mt_frame.specs.Fits.{HasFrame}
use Rattle.mt_journal.specs.declared.position.Position.{Position}
use Rattle.mt_journal.specs.Log.{last_number, AreNumbered, HaveFrames, header_frame, log_spelling, IsLog}
use Rattle.mt_journal.specs.Recovery.{HasRead}
use Rattle.mt_journal.proofs.Frames.{last_append, last_least, says_next, log_next, frame_some, frames_ahead, numbered_rest, numbered_first}

abbrev pub stepped : Position → ℕ → ℕ → Position
stepped at n newest = record { generation = at.generation; end = at.end + n; room = at.room; newest = newest; durable = at.durable }

pub read_more : (header : LogHeader) (entries : List Entry) (entry : Entry) (at : Position) (bytes : List ℕ) (n newest : ℕ) → HasRead header entries at bytes
    → HasFrame at.generation at.end entry → drop at.end bytes ≡ frame_of at.generation at.end entry ++ drop n (drop at.end bytes) → n ≡ length (frame_of at.generation at.end entry)
    → AreNumbered at.newest (entry ∷ []) → newest ≡ last_number at.newest (entry ∷ []) → HasRead header (entries ++ entry ∷ []) (stepped at n newest) bytes
read_more header entries entry at bytes n newest read has parts len numbered number =
    let f = frame_of at.generation at.end entry in
    let log = log_spelling header entries in
    let spelled = log_next header entries entry at.generation at.end read.generation read.end in
    let rest : drop n (drop at.end bytes) ≡ drop (at.end + n) bytes = drop-drop n at.end bytes in
    record {
      says = says_next header entries entry at.generation at.end at.newest read.says read.generation read.end read.newest has numbered;
      generation = read.generation;
      newest = number ∙ ap (λ (k : ℕ). last_number k (entry ∷ [])) read.newest ∙ sym (last_append header.base entries (entry ∷ []));
      end = omega (arith, ap length spelled, length-append log f, read.end, len);
      parts = read.parts ∙ ap (λ (l : List ℕ). log ++ l) (parts ∙ ap (λ (l : List ℕ). f ++ l) rest) ∙ sym (append_assoc log f (drop (at.end + n) bytes)) ∙ ap (λ (l : List ℕ). l ++ drop (at.end + n) bytes) (sym spelled);
      within = omega (arith, ap length parts, length-append f (drop n (drop at.end bytes)), length-drop at.end bytes, len, read.within, frame_some at.generation at.end entry);
    }

abbrev pub begun : LogHeader → ℕ → ℕ → Position
begun header count room = record { generation = header.generation; end = count; room = room; newest = header.base; durable = header.base }

pub header_read : (header : LogHeader) (count : ℕ) (bytes : List ℕ) → HasFrame 0 0 (Header header) → bytes ≡ frame_of 0 0 (Header header) ++ drop count bytes → count ≡ length (frame_of 0 0 (Header header))
    → HasRead header [] (begun header count (length bytes)) bytes
header_read header count bytes has parts len =
    let f = frame_of 0 0 (Header header) in
    record {
      says = record { begins = has; have = tt; numbered = tt };
      generation = refl;
      newest = refl;
      end = len ∙ ap length (sym (append-nil f));
      parts = parts ∙ ap (λ (l : List ℕ). l ++ drop count bytes) (sym (append-nil f));
      within = omega (arith, ap length parts, length-append f (drop count bytes), len);
    }

-- ---- a log is read

-- what is ahead of the entries that were read: nothing, and the log ends, or an entry that follows
pub data Ahead (at : Position) (bytes : List ℕ) (most : ℕ) : Type 0 where
  over : ends (drop at.end bytes) ≡ true → Ahead at bytes most
  next : (entry : Entry) (rest : List ℕ) → HasFrame at.generation at.end entry → drop at.end bytes ≡ frame_of at.generation at.end entry ++ rest → AreNumbered at.newest (entry ∷ [])
      → last_number at.newest (entry ∷ []) ≤ most → Ahead at bytes most

ahead_by : (header : LogHeader) (entries more others : List Entry) (at : Position) (bytes rest : List ℕ) → HasRead header entries at bytes → others ≡ entries ++ more → AreNumbered header.base others → IsTrue (ends rest)
    → drop at.end bytes ≡ frames_of header.generation at.end more ++ rest → HaveFrames header.generation at.end more → Ahead at bytes (last_number header.base others)
ahead_by header entries [] others at bytes rest read joined numbered ended parts have = over (subst (λ (l : List ℕ). IsTrue (ends l)) (sym parts) ended)
ahead_by header entries (e ∷ more) others at bytes rest read joined numbered ended parts have =
    let f = frame_of header.generation at.end e in
    let same = read.generation in
    let rest_all = frames_of header.generation (at.end + length f) more ++ rest in
    let are = numbered_rest header.base entries (e ∷ more) (subst (AreNumbered header.base) joined numbered) in
    let here = subst (λ (n : ℕ). AreNumbered n (e ∷ more)) (sym read.newest) are in
    let most : last_number header.base others ≡ last_number (last_number at.newest (e ∷ [])) more =
    ap (last_number header.base) joined ∙ last_append header.base entries (e ∷ more) ∙ ap (λ (n : ℕ). last_number n (e ∷ more)) (sym read.newest) ∙ last_append at.newest (e ∷ []) more in
    next e rest_all (subst (λ (k : ℕ). HasFrame k at.end e) (sym same) have.0)
    (parts ∙ append_assoc f (frames_of header.generation (at.end + length f) more) rest ∙ ap (λ (k : ℕ). frame_of k at.end e ++ rest_all) (sym same))
    (numbered_first at.newest e more here)
    (omega (arith, most, last_least (last_number at.newest (e ∷ [])) more))

pub ahead : (header : LogHeader) (entries others : List Entry) (at : Position) (bytes : List ℕ) → HasRead header entries at bytes → IsLog header others bytes → Ahead at bytes (last_number header.base others)
ahead header entries others at bytes read log =
    let h = header_frame header in
    let g = header.generation in
    let fs = frames_of g (length h) entries in
    let gs = frames_of g (length h) others in
    let e : fs ++ drop at.end bytes ≡ gs ++ log.rest =
    append_cancel_left h (fs ++ drop at.end bytes) (gs ++ log.rest) (sym (append_assoc h fs (drop at.end bytes)) ∙ sym read.parts ∙ log.parts ∙ append_assoc h gs log.rest) in
    let a = frames_ahead g (length h) entries others (drop at.end bytes) log.rest read.says.have log.says.have log.ended e in
    let place : length h + length fs ≡ at.end = omega (arith, read.end, length-append h fs) in
    ahead_by header entries a.more others at bytes log.rest read a.joined log.says.numbered log.ended
    (a.parts ∙ ap (λ (p : ℕ). frames_of g p a.more ++ log.rest) place) (subst (λ (p : ℕ). HaveFrames g p a.more) place a.have)

-- what `decode` reads
abbrev pub Found : Type 0
Found = Result (Option (Entry × ℕ)) FrameFault

abbrev pub none_found : Found
none_found = Ok None

abbrev pub found : Entry → ℕ → Found
found entry n = Ok (Some (entry, n))

abbrev pub faulty : FrameFault → Found
faulty fault = Err fault

none_err : (fault : FrameFault) → none_found ≡ faulty fault → ⊥
none_err fault e = cc

some_err : (entry : Entry) (n : ℕ) (fault : FrameFault) → found entry n ≡ faulty fault → ⊥
some_err entry n fault e = cc

none_some : (entry : Entry) (n : ℕ) → none_found ≡ found entry n → ⊥
none_some entry n e = cc

same_found : (x y : Entry) (m n : ℕ) → found x m ≡ found y n → x ≡ y
same_found x y m n e =
    let pair : (x, m) ≡ (y, n) = cc in
    ap (λ (z : Entry × ℕ). z.0) pair

-- if a log continues, there is no fault
pub no_fault : (at : Position) (bytes rest : List ℕ) (most : ℕ) (fault : FrameFault) → rest ≡ drop at.end bytes → Ahead at bytes most
    → (IsTrue (ends rest) → none_found ≡ faulty fault)
    → ((entry : Entry) (after : List ℕ) → HasFrame at.generation at.end entry → rest ≡ frame_of at.generation at.end entry ++ after → found entry (length (frame_of at.generation at.end entry)) ≡ faulty fault) → ⊥
no_fault at bytes rest most fault e (over ended) at_end at_frame = none_err fault (at_end (subst (λ (l : List ℕ). IsTrue (ends l)) (sym e) ended))
no_fault at bytes rest most fault e (next entry after has parts numbered few) at_end at_frame = some_err entry (length (frame_of at.generation at.end entry)) fault (at_frame entry after has (e ∙ parts))

-- and its next entry follows
pub no_order : (at : Position) (bytes rest : List ℕ) (most : ℕ) (entry : Entry) (count : ℕ) → rest ≡ drop at.end bytes → Ahead at bytes most → most < 2 ^ 64
    → (IsTrue (ends rest) → none_found ≡ found entry count)
    → ((other : Entry) (after : List ℕ) → HasFrame at.generation at.end other → rest ≡ frame_of at.generation at.end other ++ after → found other (length (frame_of at.generation at.end other)) ≡ found entry count)
    → (AreNumbered at.newest (entry ∷ []) → 2 ^ 64 ≤ last_number at.newest (entry ∷ [])) → ⊥
no_order at bytes rest most entry count e (over ended) small at_end at_frame none = none_some entry count (at_end (subst (λ (l : List ℕ). IsTrue (ends l)) (sym e) ended))
no_order at bytes rest most entry count e (next other after has parts numbered few) small at_end at_frame none =
    let same = same_found other entry (length (frame_of at.generation at.end other)) count (at_frame other after has (e ∙ parts)) in
    let large = none (subst (λ (x : Entry). AreNumbered at.newest (x ∷ [])) same numbered) in
    omega (arith, large, small, few, ap (λ (x : Entry). last_number at.newest (x ∷ [])) same)

-- ---- the header of a log

-- what `decode` promises of a frame that is there
abbrev pub Promises : List ℕ → Found → Type 0
Promises bytes read = (entry : Entry) (after : List ℕ) → HasFrame 0 0 entry → bytes ≡ frame_of 0 0 entry ++ after → found entry (length (frame_of 0 0 entry)) ≡ read

-- the frame of a header is at the front
module _ (header : LogHeader) (rest bytes : List ℕ) (has : HasFrame 0 0 (Header header)) (parts : bytes ≡ header_frame header ++ rest) where
  header_at : (read : Found) → Promises bytes read → found (Header header) (length (frame_of 0 0 (Header header))) ≡ read
  header_at read promises = promises (Header header) rest has parts

  pub no_fault_at : (fault : FrameFault) → Promises bytes (faulty fault) → ⊥
  no_fault_at fault promises = some_err (Header header) (length (frame_of 0 0 (Header header))) fault (header_at (faulty fault) promises)

  pub no_end_at : Promises bytes none_found → ⊥
  no_end_at promises = none_some (Header header) (length (frame_of 0 0 (Header header))) (sym (header_at none_found promises))

  pub header_is_at : (entry : Entry) (count : ℕ) → Promises bytes (found entry count) → entry ≡ Header header
  header_is_at entry count promises = sym (same_found (Header header) entry (length (frame_of 0 0 (Header header))) count (header_at (found entry count) promises))

-- as a log has it
abbrev rest_of : (header : LogHeader) (others : List Entry) (bytes : List ℕ) → IsLog header others bytes → List ℕ
rest_of header others bytes log = frames_of header.generation (length (header_frame header)) others ++ log.rest

rest_is : (header : LogHeader) (others : List Entry) (bytes : List ℕ) (log : IsLog header others bytes) → bytes ≡ header_frame header ++ rest_of header others bytes log
rest_is header others bytes log = log.parts ∙ append_assoc (header_frame header) (frames_of header.generation (length (header_frame header)) others) log.rest

pub no_header_fault : (header : LogHeader) (others : List Entry) (bytes : List ℕ) (fault : FrameFault) → IsLog header others bytes → Promises bytes (faulty fault) → ⊥
no_header_fault header others bytes fault log promises = no_fault_at header (rest_of header others bytes log) bytes log.says.begins (rest_is header others bytes log) fault promises

pub no_end_before : (header : LogHeader) (others : List Entry) (bytes : List ℕ) → IsLog header others bytes → Promises bytes none_found → ⊥
no_end_before header others bytes log promises = no_end_at header (rest_of header others bytes log) bytes log.says.begins (rest_is header others bytes log) promises

pub header_is : (header : LogHeader) (others : List Entry) (bytes : List ℕ) (entry : Entry) (count : ℕ) → IsLog header others bytes → Promises bytes (found entry count) → entry ≡ Header header
header_is header others bytes entry count log promises = header_is_at header (rest_of header others bytes log) bytes log.says.begins (rest_is header others bytes log) entry count promises

pub same_header_of : (h k : LogHeader) (entry : Entry) → entry ≡ Header h → entry ≡ Header k → h ≡ k
same_header_of h k entry e f =
    let g : Header h ≡ Header k = sym e ∙ f in
    cc

pub header_read_as : (header : LogHeader) (entry : Entry) (count : ℕ) (bytes : List ℕ) → entry ≡ Header header → HasFrame 0 0 entry → bytes ≡ frame_of 0 0 entry ++ drop count bytes → count ≡ length (frame_of 0 0 entry)
    → HasRead header [] (begun header count (length bytes)) bytes
header_read_as header entry count bytes is has parts len =
    header_read header count bytes (subst (λ (e : Entry). HasFrame 0 0 e) is has) (parts ∙ ap (λ (e : Entry). frame_of 0 0 e ++ drop count bytes) is) (len ∙ ap (λ (e : Entry). length (frame_of 0 0 e)) is)
