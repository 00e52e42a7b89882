-- The steps of a journal keep it.
use Rattle.std.proofs.Common.{◌≡◌, ◌⊎◌, ℕ, ◌+◌, ◌-◌, ◌<◌, ◌≤◌, List, [], ◌∷◌, ◌++◌, length, take, drop, replicate, refl, sym, ap, subst, ◌∙◌, append_assoc, arith, inl, inr, length-append, Result, Ok, Err}
use Rattle.std.specs.Prelude.{OnOk}
use Rattle.std.proofs.lemmas.List.{append-nil, take-append-le, get_or-replicate, replicate-append-replicate, length-replicate}
use Rattle.std.proofs.lemmas.List.Prefix.{at_from_reads}
use Rattle.sqlite_disk.specs.Disk.{Holds, Torn, Mixed, Only, Follows}
use Rattle.mt_frame.specs.declared.entry.Entry.{Entry}
use Rattle.mt_frame.specs.declared.entry.LogHeader.{LogHeader}
use Rattle.mt_frame.specs.Spelling.{frame_of, frames_of}
use Rattle.mt_frame.specs.Fits.{HasFrame}
use Rattle.mt_frame.specs.Laws.{OldOrNew}
use Rattle.mt_journal.specs.declared.position.Position.{Position}
use Rattle.mt_journal.specs.Log.{last_number, AreNumbered, log_spelling, MaySay, IsLog}
use Rattle.mt_journal.specs.Keeping.{IsTorn, Keeps, KeepsFronts, HasZeros, AllAreLogs, AllSurvive}
use Rattle.mt_journal.proofs.Frames.{frames_append, log_append, says_next, last_append, last_least}
use Rattle.mt_journal.proofs.Torn.{ends_at_zeros, survives}
use Rattle.mt_journal.proofs.Writes.{same_front, holds_over, mixed_zeros}

old_append : (a b c d : List ℕ) → OldOrNew a c → OldOrNew b d → OldOrNew (a ++ b) (c ++ d)
old_append [] b [] d mixed more = more
old_append [] b (x ∷ c) d mixed more = absurd mixed
old_append (w ∷ a) b [] d mixed more = absurd mixed
old_append (w ∷ a) b (x ∷ c) d mixed more = (mixed.0, old_append a b c d mixed.1 more)

same_length : (ws cs : List ℕ) → OldOrNew ws cs → length cs ≡ length ws
same_length [] [] mixed = refl
same_length [] (c ∷ cs) mixed = absurd mixed
same_length (w ∷ ws) [] mixed = absurd mixed
same_length (w ∷ ws) (c ∷ cs) mixed = omega (arith, same_length ws cs mixed.1)

pub split_zeros : (n z : ℕ) (rest : List ℕ) → n ≤ z → replicate z 0 ++ rest ≡ replicate n 0 ++ (replicate (z - n) 0 ++ rest)
split_zeros n z rest few =
    let k : n + (z - n) ≡ z = omega (arith, few) in
    ap (λ (j : ℕ). replicate j 0 ++ rest) (sym k) ∙ ap (λ (l : List ℕ). l ++ rest) (sym (replicate-append-replicate n (z - n) 0)) ∙ append_assoc (replicate n 0) (replicate (z - n) 0) rest

-- one more frame, written over zeros
pub torn_more : (header : LogHeader) (synced since : List Entry) (room at : ℕ) (d left frame : List ℕ) (entry : Entry) → IsTorn header synced since room d
    → at ≡ length (log_spelling header (synced ++ since)) → frame ≡ frame_of header.generation at entry → at + length frame < room → Mixed at frame d left
    → IsTorn header synced (since ++ entry ∷ []) room left
torn_more header synced since room at d left frame entry torn at_is frame_is fits mixed =
    let g = header.generation in
    let log = log_spelling header synced in
    let p = length log in
    let written = frames_of g p since in
    let n = length frame in
    let same = same_length written torn.torn torn.mixed in
    let place : at ≡ p + length written = at_is ∙ ap length (log_append header synced since) ∙ length-append log written in
    let before = log ++ torn.torn in
    let before_len : at ≡ length before = omega (arith, place, same, length-append log torn.torn) in
    let few : n ≤ torn.zeros = omega (arith, fits, torn.room_is, place, same) in
    let tail = replicate (torn.zeros - n) 0 ++ torn.rest in
    let d_is : d ≡ before ++ (replicate n 0 ++ tail) =
    torn.parts ∙ ap (λ (l : List ℕ). log ++ (torn.torn ++ l)) (split_zeros n torn.zeros torn.rest few) ∙ sym (append_assoc log torn.torn (replicate n 0 ++ tail)) in
    let m = mixed_zeros before (replicate n 0) tail left frame at before_len (length-replicate n 0) (λ i lt. get_or-replicate n i 0 0 lt) (subst (λ (l : List ℕ). Mixed at frame l left) d_is mixed) in
    let over = m.0 in
    let frames : frames_of g p (since ++ entry ∷ []) ≡ written ++ frame =
    frames_append g p since (entry ∷ []) ∙ ap (λ (l : List ℕ). written ++ l) (append-nil (frame_of g (p + length written) entry) ∙ ap (λ (k : ℕ). frame_of g k entry) (sym place) ∙ sym frame_is) in
    record {
      torn = torn.torn ++ over.part;
      zeros = torn.zeros - n;
      rest = torn.rest;
      parts = over.parts ∙ append_assoc log torn.torn (over.part ++ tail) ∙ ap (λ (l : List ℕ). log ++ l) (sym (append_assoc torn.torn over.part tail));
      mixed = subst (λ (l : List ℕ). OldOrNew l (torn.torn ++ over.part)) (sym frames) (old_append written frame torn.torn over.part torn.mixed m.1);
      some = omega (arith, fits, torn.room_is, place, same);
      room_is = omega (arith, torn.room_is, length-append torn.torn over.part, over.len, few);
    }

-- the next position
abbrev pub moved : Position → ℕ → ℕ → Position
moved at n count = record { generation = at.generation; end = at.end + n; room = at.room; newest = at.newest + count; durable = at.durable }

pub frame_kept : (at : Position) (seen new : List ℕ) (may more : List ℕ → Type 0) (header : LogHeader) (entries : List Entry) (entry : Entry) (frame : List ℕ) (count : ℕ)
    → Keeps at seen may header entries → MaySay header (entries ++ entry ∷ []) → frame ≡ frame_of header.generation at.end entry → last_number at.newest (entry ∷ []) ≡ at.newest + count
    → at.end + length frame < at.room → Torn at.end (length frame) seen new → Holds new at.end frame → Follows (Mixed at.end frame) may more
    → Keeps (moved at (length frame) count) new more header (entries ++ entry ∷ [])
frame_kept at seen new may more header entries entry frame count keeps says frame_is numbers fits torn holds follows =
    let g = header.generation in
    let log = log_spelling header entries in
    let n = length frame in
    let few : n ≤ keeps.zeros = omega (arith, fits, keeps.room) in
    let tail = replicate (keeps.zeros - n) 0 ++ keeps.rest in
    let seen_is : seen ≡ log ++ (replicate n 0 ++ tail) = keeps.seen_is ∙ ap (λ (l : List ℕ). log ++ l) (split_zeros n keeps.zeros keeps.rest few) in
    let new_is = holds_over log (replicate n 0) tail new frame at.end keeps.end (length-replicate n 0) (subst (λ (l : List ℕ). Torn at.end n l new) seen_is torn) holds in
    let log_is : log_spelling header (entries ++ entry ∷ []) ≡ log ++ frame =
    log_append header entries (entry ∷ []) ∙ ap (λ (l : List ℕ). log ++ l) (append-nil (frame_of g (length log) entry) ∙ ap (λ (k : ℕ). frame_of g k entry) (sym keeps.end) ∙ sym frame_is) in
    let at_is : at.end ≡ length (log_spelling header (keeps.synced ++ keeps.since)) = keeps.end ∙ ap (λ (l : List Entry). length (log_spelling header l)) keeps.joined in
    record {
      says = says;
      generation = keeps.generation;
      end = omega (arith, ap length log_is, length-append log frame, keeps.end);
      newest = sym numbers ∙ ap (λ (k : ℕ). last_number k (entry ∷ [])) keeps.newest ∙ sym (last_append header.base entries (entry ∷ []));
      zeros = keeps.zeros - n;
      rest = keeps.rest;
      seen_is = new_is ∙ sym (append_assoc log frame tail) ∙ ap (λ (l : List ℕ). l ++ tail) (sym log_is);
      some = omega (arith, fits, keeps.room);
      room = omega (arith, keeps.room, few);
      synced = keeps.synced;
      since = keeps.since ++ entry ∷ [];
      joined = ap (λ (l : List Entry). l ++ entry ∷ []) keeps.joined ∙ append_assoc keeps.synced keeps.since (entry ∷ []);
      durable = keeps.durable;
      left = λ left may_left.
          let from = follows left may_left in
          torn_more header keeps.synced keeps.since at.room at.end from.0 left frame entry (keeps.left from.0 from.1) at_is frame_is fits from.2;
    }

-- what a sync makes durable
abbrev pub synced_at : Position → Position
synced_at at = record { generation = at.generation; end = at.end; room = at.room; newest = at.newest; durable = at.newest }

pub sync_kept : (at : Position) (seen new : List ℕ) (may more : List ℕ → Type 0) (header : LogHeader) (entries : List Entry) → Keeps at seen may header entries → new ≡ seen → Only seen more
    → Keeps (synced_at at) new more header entries
sync_kept at seen new may more header entries keeps same only = record {
  says = keeps.says;
  generation = keeps.generation;
  end = keeps.end;
  newest = keeps.newest;
  zeros = keeps.zeros;
  rest = keeps.rest;
  seen_is = same ∙ keeps.seen_is;
  some = keeps.some;
  room = keeps.room;
  synced = entries;
  since = [];
  joined = sym (append-nil entries);
  durable = keeps.newest;
  left = λ left may_left. record {
    torn = [];
    zeros = keeps.zeros;
    rest = keeps.rest;
    parts = only left may_left ∙ keeps.seen_is;
    mixed = tt;
    some = keeps.some;
    room_is = omega (arith, keeps.room, keeps.end);
  };
}

-- and then a crash leaves all of it
pub all_left : (at : Position) (seen : List ℕ) (may more : List ℕ → Type 0) (header : LogHeader) (entries : List Entry) → Keeps at seen may header entries → Only seen more → AllAreLogs header entries more
all_left at seen may more header entries keeps only = λ left may_left. record {
  says = keeps.says;
  rest = replicate keeps.zeros 0 ++ keeps.rest;
  parts = only left may_left ∙ keeps.seen_is;
  ended = ends_at_zeros keeps.zeros keeps.rest keeps.some;
}

-- ---- zeros ahead

torn_after : (header : LogHeader) (synced since : List Entry) (room n : ℕ) (d left : List ℕ) → IsTorn header synced since room d → Torn room n d left → IsTorn header synced since room left
torn_after header synced since room n d left torn written =
    let log = log_spelling header synced in
    let front = log ++ (torn.torn ++ replicate torn.zeros 0) in
    let size : room ≡ length front = omega (arith, torn.room_is, length-append log (torn.torn ++ replicate torn.zeros 0), length-append torn.torn (replicate torn.zeros 0), length-replicate {A = ℕ} torn.zeros 0) in
    let regroup : (rest : List ℕ) → front ++ rest ≡ log ++ (torn.torn ++ (replicate torn.zeros 0 ++ rest)) = λ rest.
    append_assoc log (torn.torn ++ replicate torn.zeros 0) rest ∙ ap (λ (l : List ℕ). log ++ l) (append_assoc torn.torn (replicate torn.zeros 0) rest) in
    let same = same_front front torn.rest left room n (omega (arith, size)) (subst (λ (l : List ℕ). Torn room n l left) (torn.parts ∙ sym (regroup torn.rest)) written) in
    record {
      torn = torn.torn;
      zeros = torn.zeros;
      rest = drop (length front) left;
      parts = same ∙ regroup (drop (length front) left);
      mixed = torn.mixed;
      some = torn.some;
      room_is = torn.room_is;
    }

room_front : (at : Position) (seen new : List ℕ) (may : List ℕ → Type 0) (header : LogHeader) (entries : List Entry) (n : ℕ) (keeps : Keeps at seen may header entries) → Torn at.room n seen new
    → (rest : List ℕ) × (new ≡ (log_spelling header entries ++ replicate keeps.zeros 0) ++ rest) × (rest ≡ drop at.room new)
room_front at seen new may header entries n keeps torn =
    let log = log_spelling header entries in
    let front = log ++ replicate keeps.zeros 0 in
    let size : at.room ≡ length front = omega (arith, keeps.room, keeps.end, length-append log (replicate keeps.zeros 0), length-replicate {A = ℕ} keeps.zeros 0) in
    let same = same_front front keeps.rest new at.room n (omega (arith, size)) (subst (λ (l : List ℕ). Torn at.room n l new) (keeps.seen_is ∙ sym (append_assoc log (replicate keeps.zeros 0) keeps.rest)) torn) in
    (drop (length front) new, same, ap (λ (k : ℕ). drop k new) (sym size))

pub kept_after : (at : Position) (seen new : List ℕ) (may more : List ℕ → Type 0) (header : LogHeader) (entries : List Entry) (n : ℕ) → Keeps at seen may header entries
    → Torn at.room n seen new → Follows (Torn at.room n) may more → Keeps at new more header entries
kept_after at seen new may more header entries n keeps torn follows =
    let f = room_front at seen new may header entries n keeps torn in
    record {
      says = keeps.says;
      generation = keeps.generation;
      end = keeps.end;
      newest = keeps.newest;
      zeros = keeps.zeros;
      rest = f.0;
      seen_is = f.1 ∙ append_assoc (log_spelling header entries) (replicate keeps.zeros 0) f.0;
      some = keeps.some;
      room = keeps.room;
      synced = keeps.synced;
      since = keeps.since;
      joined = keeps.joined;
      durable = keeps.durable;
      left = λ left may_left.
          let from = follows left may_left in
          torn_after header keeps.synced keeps.since at.room n from.0 left (keeps.left from.0 from.1) from.2;
    }

pub zeros_after : (at : Position) (seen new : List ℕ) (may : List ℕ → Type 0) (header : LogHeader) (entries : List Entry) (n : ℕ) → Keeps at seen may header entries
    → Torn at.room n seen new → Holds new at.room (replicate n 0) → HasZeros at n new header entries
zeros_after at seen new may header entries n keeps torn holds =
    let f = room_front at seen new may header entries n keeps torn in
    let log = log_spelling header entries in
    let z = replicate keeps.zeros 0 in
    let rest = drop (at.room + length (replicate n 0)) new in
    let ahead : drop at.room new ≡ replicate n 0 ++ rest = at_from_reads 0 new (replicate n 0) at.room holds.within holds.each in
    let more : z ++ (replicate n 0 ++ rest) ≡ replicate (keeps.zeros + n) 0 ++ rest = sym (append_assoc z (replicate n 0) rest) ∙ ap (λ (l : List ℕ). l ++ rest) (replicate-append-replicate keeps.zeros n 0) in
    let parts : new ≡ log ++ (replicate (keeps.zeros + n) 0 ++ rest) = f.1 ∙ append_assoc log z f.0 ∙ ap (λ (l : List ℕ). log ++ (z ++ l)) (f.2 ∙ ahead) ∙ ap (λ (l : List ℕ). log ++ l) more in
    (keeps.zeros + n, rest, parts, omega (arith, keeps.room))

-- ---- crashes

pub crashed : (at : Position) (seen : List ℕ) (may more : List ℕ → Type 0) (header : LogHeader) (entries : List Entry) (entry : Entry) (frame : List ℕ)
    → Keeps at seen may header entries → MaySay header (entries ++ entry ∷ []) → frame ≡ frame_of header.generation at.end entry → at.end + length frame < at.room → Follows (Mixed at.end frame) may more
    → AllSurvive header (entries ++ entry ∷ []) at.durable more
crashed at seen may more header entries entry frame keeps says frame_is fits follows = λ left may_left.
    let from = follows left may_left in
    let at_is : at.end ≡ length (log_spelling header (keeps.synced ++ keeps.since)) = keeps.end ∙ ap (λ (l : List Entry). length (log_spelling header l)) keeps.joined in
    let torn = torn_more header keeps.synced keeps.since at.room at.end from.0 left frame entry (keeps.left from.0 from.1) at_is frame_is fits from.2 in
    let joined : entries ++ entry ∷ [] ≡ keeps.synced ++ (keeps.since ++ entry ∷ []) = ap (λ (l : List Entry). l ++ entry ∷ []) keeps.joined ∙ append_assoc keeps.synced keeps.since (entry ∷ []) in
    survives header keeps.synced (keeps.since ++ entry ∷ []) (entries ++ entry ∷ []) at.room at.durable left joined says keeps.durable torn

pub all_survive : (at : Position) (seen : List ℕ) (may more : List ℕ → Type 0) (header : LogHeader) (entries : List Entry) → Keeps at seen may header entries → ((left : List ℕ) → more left → may left)
    → AllSurvive header entries at.durable more
all_survive at seen may more header entries keeps fewer = λ left may_left.
    survives header keeps.synced keeps.since entries at.room at.durable left keeps.joined keeps.says keeps.durable (keeps.left left (fewer left may_left))

pub zeros_written : {E : Type 0} (r : Result (Unit {0}) E) (at : Position) (seen new : List ℕ) (may : List ℕ → Type 0) (header : LogHeader) (entries : List Entry) (zeros : List ℕ) → Keeps at seen may header entries
    → Torn at.room (length zeros) seen new → zeros ≡ replicate (length zeros) 0 → OnOk r (0 < length zeros → Holds new at.room zeros) → OnOk r (HasZeros at (length zeros) new header entries)
zeros_written (Err e) at seen new may header entries zeros keeps torn are holds = tt
zeros_written (Ok u) at seen new may header entries [] keeps torn are holds =
    let f = room_front at seen new may header entries 0 keeps torn in
    (keeps.zeros, f.0, f.1 ∙ append_assoc (log_spelling header entries) (replicate keeps.zeros 0) f.0, omega (arith, keeps.room))
zeros_written (Ok u) at seen new may header entries (z ∷ zeros) keeps torn are holds =
    let held = holds (omega arith) in
    zeros_after at seen new may header entries (length (z ∷ zeros)) keeps torn (subst (Holds new at.room) are held)

-- the position after zeros were added
abbrev pub grown_at : Position → ℕ → Position
grown_at at n = record { generation = at.generation; end = at.end; room = at.room + n; newest = at.newest; durable = at.newest }

pub grown : (at : Position) (seen new : List ℕ) (may more : List ℕ → Type 0) (header : LogHeader) (entries : List Entry) (n : ℕ) → Keeps at seen may header entries → HasZeros at n seen header entries
    → new ≡ seen → Only seen more → Keeps (grown_at at n) new more header entries
grown at seen new may more header entries n keeps has same only = record {
  says = keeps.says;
  generation = keeps.generation;
  end = keeps.end;
  newest = keeps.newest;
  zeros = has.0;
  rest = has.1;
  seen_is = same ∙ has.2;
  some = omega (arith, keeps.some, keeps.room, has.3);
  room = has.3;
  synced = entries;
  since = [];
  joined = sym (append-nil entries);
  durable = keeps.newest;
  left = λ left may_left. record {
    torn = [];
    zeros = has.0;
    rest = has.1;
    parts = only left may_left ∙ has.2;
    mixed = tt;
    some = omega (arith, keeps.some, keeps.room, has.3);
    room_is = omega (arith, has.3, keeps.end);
  };
}

-- what holds of a result that is no error
pub unless_err : {A E : Type 0} {P : Type 0} (r : Result A E) → OnOk r P → ((e : E) → r ≡ Err e → ⊥) → P
unless_err (Ok x) holds none = holds
unless_err (Err e) holds none = absurd (none e refl)

-- ---- entries and numbers

pub durable_least : (at : Position) (seen : List ℕ) (may : List ℕ → Type 0) (header : LogHeader) (entries : List Entry) → Keeps at seen may header entries → at.durable ≤ at.newest
durable_least at seen may header entries keeps =
    omega (arith, keeps.durable, keeps.newest, ap (last_number header.base) keeps.joined, last_append header.base keeps.synced keeps.since, last_least (last_number header.base keeps.synced) keeps.since)

pub survive_less : (header : LogHeader) (entries : List Entry) (durable less : ℕ) (may : List ℕ → Type 0) → less ≤ durable → AllSurvive header entries durable may → AllSurvive header entries less may
survive_less header entries durable less may le all = λ left may_left.
    let s = all left may_left in
    record { count = s.count; within = s.within; log = s.log; kept = omega (arith, le, s.kept) }

pub survive_more : (header : LogHeader) (entries more : List Entry) (durable : ℕ) (may : List ℕ → Type 0) → AllSurvive header entries durable may → AllSurvive header (entries ++ more) durable may
survive_more header entries more durable may all = λ left may_left.
    let s = all left may_left in
    let same : take s.count entries ≡ take s.count (entries ++ more) = sym (take-append-le s.count entries more s.within) in
    record {
      count = s.count;
      within = omega (arith, s.within, length-append entries more);
      log = subst (λ (l : List Entry). IsLog header l left) same s.log;
      kept = subst (λ (l : List Entry). durable ≤ last_number header.base l) same s.kept;
    }

pub says_more : (at : Position) (seen : List ℕ) (may : List ℕ → Type 0) (header : LogHeader) (entries : List Entry) (entry : Entry) → Keeps at seen may header entries
    → HasFrame at.generation at.end entry → AreNumbered at.newest (entry ∷ []) → MaySay header (entries ++ entry ∷ [])
says_more at seen may header entries entry keeps has numbered = says_next header entries entry at.generation at.end at.newest keeps.says keeps.generation keeps.end keeps.newest has numbered

-- a step that syncs or not loses nothing that is durable
pub durable_after : (at : Position) (seen : List ℕ) (may : List ℕ → Type 0) (new : Position) (header : LogHeader) (entries : List Entry) → Keeps at seen may header entries
    → (new.durable ≡ at.durable) ⊎ (new.durable ≡ at.newest) → at.durable ≤ new.durable
durable_after at seen may new header entries keeps which = elim which [
  | inl same ↦ omega (arith, same)
  | inr newer ↦ omega (arith, newer, durable_least at seen may header entries keeps)
]

-- ---- what a crash leaves before a place

pub fronts_kept : (place n : ℕ) (may more : List ℕ → Type 0) → Follows (Torn place n) may more → KeepsFronts place may more
fronts_kept place n may more follows = λ front fits begins left may_left.
    let from = follows left may_left in
    let was = begins from.0 from.1 in
    (drop (length front) left, same_front front was.0 left place n fits (subst (λ (l : List ℕ). Torn place n l left) was.1 from.2))

pub fewer_fronts : (place : ℕ) (may more : List ℕ → Type 0) → ((left : List ℕ) → more left → may left) → KeepsFronts place may more
fewer_fronts place may more fewer = λ front fits begins left may_left. begins left (fewer left may_left)

pub fronts_then : (place room : ℕ) (first second third : List ℕ → Type 0) → place ≤ room → KeepsFronts room first second → KeepsFronts place second third → KeepsFronts place first third
fronts_then place room first second third le one two = λ front fits begins. two front fits (one front (omega (arith, fits, le)) begins)
