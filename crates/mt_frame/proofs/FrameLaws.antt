-- Frames are read as they were written, and a torn one ends the log.
use Rattle.std.proofs.Common.{zero, suc, ◌<◌, ◌&&◌, ◌≡◌, ◌⊎◌, ℕ, ◌+◌, ◌≤◌, ◌||◌, Bool, true, false, cond, ltb, List, [], ◌∷◌, ◌++◌, length, take, drop, Option, Some, None, Result, Ok, Err, refl, sym, ap, subst, ◌∙◌, append_assoc, arith, inl, inr, length-append}
use Rattle.std.specs.Prelude.{IsTrue, IfOk, IfSome, IfNone, not}
use Rattle.std.specs.Int.{w64, to_be_bytes}
use Rattle.std.proofs.lemmas.Bool.{ltb-false}
use Rattle.std.proofs.lemmas.Bool.Decides.{eqb_tells}
use Rattle.std.proofs.lemmas.List.{take_at, drop_at, take-append-drop, length-take, drop-drop}
use Rattle.mt_wire.proofs.Exact.{IsBytes, IsBytes-take, IsBytes-drop}
use Rattle.mt_frame.specs.declared.limits.TheConstants.{LENGTH_BYTES, MAX_TEXT_BYTES}
use Rattle.mt_frame.specs.declared.fault.FrameFault.{FrameFault}
use Rattle.mt_frame.specs.declared.fault.FrameFault.TheVariants as faults
use Rattle.mt_frame.specs.declared.fault.DecodeError.{DecodeError}
use Rattle.mt_frame.specs.declared.entry.Entry.{Entry}
use Rattle.mt_frame.specs.Digest.{digest}
use Rattle.mt_frame.specs.Spelling.{entry_spelling, text_of, length_spelling, framed, frame_of}
use Rattle.mt_frame.specs.Fits.{HasFrame}
use Rattle.mt_frame.specs.Ends.{has_zero, is_length, announced, length_part, text_part, ends}
use Rattle.mt_frame.specs.Laws.{OldOrNew, FramesReadOneWay, FramesDoNotEnd, TornFramesEnd, EndsStay}
use Rattle.mt_frame.specs.Faults.{front, text_says, with_length, after_front, frame_at, Reads}
use Rattle.mt_frame.proofs.Escapes.{escaped_clean, escaped_longer}
use Rattle.mt_frame.proofs.Lengths.{announced_again, length_clean, is_length_again, length_back}
use Rattle.mt_frame.proofs.Bodies.{text_takes, text_again}
use Rattle.mt_frame.proofs.FrontLaws.{whole_text}

-- ---- a text that may be framed

record IsText (text : List ℕ) : Type 0 where
  some : 1 ≤ length text
  few : length text ≤ MAX_TEXT_BYTES
  clean : has_zero text ≡ false

text_is : (generation place : ℕ) (entry : Entry) → HasFrame generation place entry → IsText (text_of generation place entry)
text_is generation place entry has =
    let content = entry_spelling entry in
    let told = to_be_bytes w64 (digest generation place content) in
    record {
      some = omega (arith, escaped_longer (content ++ told), length-append content told);
      few = has.1;
      clean = escaped_clean (content ++ told);
    }

parts : (text rest : List ℕ) → framed text ++ rest ≡ length_spelling (length text) ++ (text ++ rest)
unfolding framed
parts text rest = append_assoc (length_spelling (length text)) text rest

length_part_is : (text rest : List ℕ) → length_part (framed text ++ rest) ≡ length_spelling (length text)
length_part_is text rest = ap (take LENGTH_BYTES) (parts text rest) ∙ take_at (length_spelling (length text)) (text ++ rest) LENGTH_BYTES refl

after_is : (text rest : List ℕ) → drop LENGTH_BYTES (framed text ++ rest) ≡ text ++ rest
after_is text rest = ap (drop LENGTH_BYTES) (parts text rest) ∙ drop_at (length_spelling (length text)) (text ++ rest) LENGTH_BYTES refl

announced_is : (text rest : List ℕ) → IsText text → announced (length_part (framed text ++ rest)) ≡ length text
announced_is text rest is = ap announced (length_part_is text rest) ∙ announced_again (length text) is.few

text_part_is : (text rest : List ℕ) → IsText text → text_part (framed text ++ rest) ≡ text
text_part_is text rest is =
    ap (λ (n : ℕ). take n (drop LENGTH_BYTES (framed text ++ rest))) (announced_is text rest is) ∙ ap (take (length text)) (after_is text rest) ∙ take_at text rest (length text) refl

framed_length : (text : List ℕ) → length (framed text) ≡ LENGTH_BYTES + length text
unfolding framed
framed_length text = length-append (length_spelling (length text)) text

front_again : (text rest : List ℕ) → IsText text → front (framed text ++ rest) ≡ Ok (Some (length text))
front_again text rest is =
    let bytes = framed text ++ rest in
    let z = ap has_zero (length_part_is text rest) ∙ length_clean (length text) in
    let l = ap is_length (length_part_is text rest) ∙ is_length_again (length text) is.some is.few in
    let t = ap has_zero (text_part_is text rest is) ∙ is.clean in
    let n = announced_is text rest is in
    let size = length-append (framed text) rest in
    let after_size = ap length (after_is text rest) ∙ length-append text rest in
    whole_text bytes z (omega (arith, size, framed_length text)) l t (omega (arith, n, after_size)) ∙ ap (λ (k : ℕ). Ok (Some k)) n

pub frame_again : (generation place : ℕ) (entry : Entry) (rest : List ℕ) → HasFrame generation place entry
    → frame_at generation place (frame_of generation place entry ++ rest) ≡ Ok (Some (entry, length (frame_of generation place entry)))
unfolding frame_at
frame_again generation place entry rest has =
    let text = text_of generation place entry in
    let bytes = framed text ++ rest in
    let is = text_is generation place entry has in
    let t : take (length text) (drop LENGTH_BYTES bytes) ≡ text = ap (take (length text)) (after_is text rest) ∙ take_at text rest (length text) refl in
    ap (after_front generation place bytes) (front_again text rest is)
    ∙ ap (λ (s : List ℕ). with_length (length text) (text_says generation place s)) t
    ∙ ap (with_length (length text)) (text_again generation place entry has.0)
    ∙ ap (λ (n : ℕ). Ok (Some (entry, n))) (sym (framed_length text))

-- ---- what is read was written

record IsWhole (bytes : List ℕ) (n : ℕ) : Type 0 where
  is : is_length (length_part bytes) ≡ true
  told : n ≡ announced (length_part bytes)
  long : LENGTH_BYTES ≤ length bytes
  room : n ≤ length (drop LENGTH_BYTES bytes)

front_chosen : (e short bad cut : Bool) (m n : ℕ) → cond e (Ok None) (cond short (Err faults.Cut) (cond bad (Err faults.Length) (cond cut (Err faults.Cut) (Ok (Some m))))) ≡ Ok (Some n)
    → (e ≡ false) × (short ≡ false) × (bad ≡ false) × (cut ≡ false) × (m ≡ n)
front_chosen true short bad cut m n e = absurd (cc)
front_chosen false true bad cut m n e = absurd (cc)
front_chosen false false true cut m n e = absurd (cc)
front_chosen false false false true m n e = absurd (cc)
front_chosen false false false false m n e = (refl, refl, refl, refl, cc)

not_false : (b : Bool) → not b ≡ false → b ≡ true
not_false true e = refl
not_false false e = absurd (cc)

whole_of : (bytes : List ℕ) (n : ℕ) → front bytes ≡ Ok (Some n) → IsWhole bytes n
unfolding front
whole_of bytes n e =
    let c = front_chosen (ends bytes) (ltb (length bytes) LENGTH_BYTES) (not (is_length (length_part bytes))) (ltb (length (drop LENGTH_BYTES bytes)) (announced (length_part bytes))) (announced (length_part bytes)) n e in
    let room : announced (length_part bytes) ≤ length (drop LENGTH_BYTES bytes) = ltb-false _ _ c.3 in
    record {
      is = not_false (is_length (length_part bytes)) c.2;
      told = sym c.4;
      long = ltb-false _ _ c.1;
      room = omega (arith, room, c.4);
    }

with_length_some : (n : ℕ) (read : Result Entry FrameFault) (entry : Entry) (m : ℕ) → with_length n read ≡ Ok (Some (entry, m)) → (read ≡ Ok entry) × (m ≡ LENGTH_BYTES + n)
with_length_some n (Ok found) entry m e =
    let pair : (found, LENGTH_BYTES + n) ≡ (entry, m) = cc in
    (ap (λ (x : Entry × ℕ). Ok x.0) pair, ap (λ (x : Entry × ℕ). x.1) (sym pair))
with_length_some n (Err fault) entry m e = absurd (cc)

pub record IsRead (generation place : ℕ) (bytes : List ℕ) (entry : Entry) (n : ℕ) : Type 0 where
  pub has : HasFrame generation place entry
  pub parts : bytes ≡ frame_of generation place entry ++ drop n bytes
  pub len : n ≡ length (frame_of generation place entry)

read_by : (generation place : ℕ) (bytes : List ℕ) (entry : Entry) (n : ℕ) → IsBytes bytes → (ahead : Result (Option ℕ) FrameFault) → front bytes ≡ ahead
    → after_front generation place bytes ahead ≡ Ok (Some (entry, n)) → IsRead generation place bytes entry n
unfolding framed
read_by generation place bytes entry n fits (Err fault) k e = absurd (cc)
read_by generation place bytes entry n fits (Ok None) k e = absurd (cc)
read_by generation place bytes entry n fits (Ok (Some m)) k e =
    let rest = drop LENGTH_BYTES bytes in
    let text = take m rest in
    let w = with_length_some m (text_says generation place text) entry n e in
    let t = text_takes generation place text entry (IsBytes-take m rest (IsBytes-drop LENGTH_BYTES bytes fits)) w.0 in
    let whole = whole_of bytes m k in
    let size : length text ≡ m = omega (arith, length-take m rest, whole.room) in
    let back = length_back (length_part bytes) (IsBytes-take LENGTH_BYTES bytes fits) whole.is in
    let head : length_part bytes ≡ length_spelling (length text) = back.0 ∙ ap length_spelling (sym whole.told ∙ sym size) in
    let same = framed_length text in
    let after : drop n bytes ≡ drop m rest = ap (λ (j : ℕ). drop j bytes) w.1 ∙ sym (drop-drop m LENGTH_BYTES bytes) in
    let all : bytes ≡ framed text ++ drop n bytes =
    sym (take-append-drop LENGTH_BYTES bytes) ∙ ap (λ (l : List ℕ). length_part bytes ++ l) (sym (take-append-drop m rest)) ∙ sym (append_assoc (length_part bytes) text (drop m rest))
    ∙ ap (λ (l : List ℕ). (l ++ text) ++ drop m rest) head ∙ ap (λ (l : List ℕ). framed text ++ l) (sym after) in
    record {
      has = (t.1, omega (arith, ap length t.0, size, whole.told, back.1));
      parts = all ∙ ap (λ (l : List ℕ). framed l ++ drop n bytes) t.0;
      len = omega (arith, w.1, size, same) ∙ ap (λ (l : List ℕ). length (framed l)) t.0;
    }

pub frame_takes : (generation place : ℕ) (bytes : List ℕ) (entry : Entry) (n : ℕ) → IsBytes bytes → frame_at generation place bytes ≡ Ok (Some (entry, n)) → IsRead generation place bytes entry n
unfolding frame_at
frame_takes generation place bytes entry n fits e = read_by generation place bytes entry n fits (front bytes) refl e

-- ---- the end of a log

pub front_ended : (bytes : List ℕ) → ends bytes ≡ true → front bytes ≡ Ok None
unfolding front
front_ended bytes e = rw e refl

pub frame_ended : (generation place : ℕ) (bytes : List ℕ) → ends bytes ≡ true → frame_at generation place bytes ≡ Ok None
unfolding frame_at
frame_ended generation place bytes e = ap (after_front generation place bytes) (front_ended bytes e)

ended_chosen : (e short bad cut : Bool) (m : ℕ) → cond e (Ok None) (cond short (Err faults.Cut) (cond bad (Err faults.Length) (cond cut (Err faults.Cut) (Ok (Some m))))) ≡ Ok None → e ≡ true
ended_chosen true short bad cut m e = refl
ended_chosen false true bad cut m e = absurd (cc)
ended_chosen false false true cut m e = absurd (cc)
ended_chosen false false false true m e = absurd (cc)
ended_chosen false false false false m e = absurd (cc)

front_ends : (bytes : List ℕ) → front bytes ≡ Ok None → ends bytes ≡ true
unfolding front
front_ends bytes e =
    ended_chosen (ends bytes) (ltb (length bytes) LENGTH_BYTES) (not (is_length (length_part bytes))) (ltb (length (drop LENGTH_BYTES bytes)) (announced (length_part bytes))) (announced (length_part bytes)) e

with_length_none : (n : ℕ) (read : Result Entry FrameFault) → with_length n read ≡ Ok None → ⊥
with_length_none n (Ok found) e = cc
with_length_none n (Err fault) e = cc

ends_by : (generation place : ℕ) (bytes : List ℕ) (ahead : Result (Option ℕ) FrameFault) → front bytes ≡ ahead → after_front generation place bytes ahead ≡ Ok None → ends bytes ≡ true
ends_by generation place bytes (Err fault) k e = absurd (cc)
ends_by generation place bytes (Ok None) k e = front_ends bytes k
ends_by generation place bytes (Ok (Some m)) k e = absurd (with_length_none m (text_says generation place (take m (drop LENGTH_BYTES bytes))) e)

pub frame_ends : (generation place : ℕ) (bytes : List ℕ) → frame_at generation place bytes ≡ Ok None → ends bytes ≡ true
unfolding frame_at
frame_ends generation place bytes e = ends_by generation place bytes (front bytes) refl e

-- ---- what a call returns

pub read_whole : (generation place : ℕ) (bytes : List ℕ) (r : Result (Option (Entry × ℕ)) DecodeError) → IsBytes bytes → Reads (λ x. x) r (frame_at generation place bytes)
    → IfOk r (λ read. IfSome read (λ found. HasFrame generation place found.0 × (bytes ≡ frame_of generation place found.0 ++ drop found.1 bytes) × (found.1 ≡ length (frame_of generation place found.0))))
read_whole generation place bytes (Ok (Some found)) fits h = let r = frame_takes generation place bytes found.0 found.1 fits h in (r.has, r.parts, r.len)
read_whole generation place bytes (Ok None) fits h = tt
read_whole generation place bytes (Err e) fits h = tt

pub read_only : (generation place : ℕ) (bytes : List ℕ) (r : Result (Option (Entry × ℕ)) DecodeError) → Reads (λ x. x) r (frame_at generation place bytes)
    → (entry : Entry) (rest : List ℕ) → HasFrame generation place entry → bytes ≡ frame_of generation place entry ++ rest → Reads (λ x. x) r (Ok (Some (entry, length (frame_of generation place entry))))
read_only generation place bytes r h entry rest has e =
    subst (λ (read : Result (Option (Entry × ℕ)) FrameFault). Reads (λ x. x) r read) (ap (frame_at generation place) e ∙ frame_again generation place entry rest has) h

pub read_none : (generation place : ℕ) (bytes : List ℕ) (r : Result (Option (Entry × ℕ)) DecodeError) → Reads (λ x. x) r (frame_at generation place bytes) → IfOk r (λ read. IfNone read (IsTrue (ends bytes)))
read_none generation place bytes (Ok (Some found)) h = tt
read_none generation place bytes (Ok None) h = frame_ends generation place bytes h
read_none generation place bytes (Err e) h = tt

pub read_ended : (generation place : ℕ) (bytes : List ℕ) (r : Result (Option (Entry × ℕ)) DecodeError) → Reads (λ x. x) r (frame_at generation place bytes) → IsTrue (ends bytes) → Reads (λ x. x) r (Ok None)
read_ended generation place bytes r h e = subst (λ (read : Result (Option (Entry × ℕ)) FrameFault). Reads (λ x. x) r read) (frame_ended generation place bytes e) h

-- ---- laws

found : Entry → ℕ → Result (Option (Entry × ℕ)) FrameFault
found entry n = Ok (Some (entry, n))

some_same : (x y : Entry) (m n : ℕ) → found x m ≡ found y n → (x ≡ y) × (m ≡ n)
unfolding found
some_same x y m n e =
    let pair : (x, m) ≡ (y, n) = cc in
    (ap (λ (z : Entry × ℕ). z.0) pair, ap (λ (z : Entry × ℕ). z.1) pair)

none_found : (x : Entry) (m : ℕ) → found x m ≡ Ok None → ⊥
unfolding found
none_found x m e = absurd (cc)

pub frames_read_one_way : FramesReadOneWay
unfolding found
frames_read_one_way generation place x y after_x after_y has_x has_y e =
    let s = some_same x y (length (frame_of generation place x)) (length (frame_of generation place y)) (sym (frame_again generation place x after_x has_x) ∙ ap (frame_at generation place) e ∙ frame_again generation place y after_y has_y) in
    let rest : drop (length (frame_of generation place y)) (frame_of generation place x ++ after_x) ≡ after_x = drop_at (frame_of generation place x) after_x (length (frame_of generation place y)) s.1 in
    (s.0, sym rest ∙ ap (drop (length (frame_of generation place y))) e ∙ drop_at (frame_of generation place y) after_y (length (frame_of generation place y)) refl)

pub frames_do_not_end : FramesDoNotEnd
unfolding found
frames_do_not_end generation place entry rest has e =
    none_found entry (length (frame_of generation place entry)) (sym (frame_again generation place entry rest has) ∙ frame_ended generation place (frame_of generation place entry ++ rest) e)

-- ---- torn frames

torn_zero : (ws cs : List ℕ) → OldOrNew ws cs → (cs ≡ ws) ⊎ (has_zero cs ≡ true)
torn_zero [] [] mixed = inl refl
torn_zero [] (c ∷ cs) mixed = absurd mixed
torn_zero (w ∷ ws) [] mixed = absurd mixed
torn_zero (w ∷ ws) (c ∷ cs) mixed = elim mixed.0 [
  | inr lost ↦ inr (rw lost refl)
  | inl new ↦ elim (torn_zero ws cs mixed.1) [
    | inl all ↦ inl (rw (new, all) refl)
    | inr torn ↦ inr (elim (eqb_tells c 0) [ inl none ↦ rw none.0 refl | inr some ↦ rw (some.0, torn) refl ])
  ]
]

pub record IsCut (r ws c : List ℕ) : Type 0 where
  pub first : List ℕ
  pub rest : List ℕ
  pub whole : c ≡ first ++ rest
  pub same : length first ≡ length r
  pub at_first : OldOrNew r first
  pub at_rest : OldOrNew ws rest

pub cut_mixed : (r ws c : List ℕ) → OldOrNew (r ++ ws) c → IsCut r ws c
cut_mixed [] ws c mixed = record { first = []; rest = c; whole = refl; same = refl; at_first = tt; at_rest = mixed }
cut_mixed (b ∷ r) ws [] mixed = absurd mixed
cut_mixed (b ∷ r) ws (x ∷ c) mixed =
    let cut = cut_mixed r ws c mixed.1 in
    record { first = x ∷ cut.first; rest = cut.rest; whole = ap (λ (l : List ℕ). x ∷ l) cut.whole; same = omega (arith, cut.same); at_first = (mixed.0, cut.at_first); at_rest = cut.at_rest }

same_length : (ws cs : List ℕ) → OldOrNew ws cs → length cs ≡ length ws
same_length [] [] mixed = refl
same_length [] (c ∷ cs) mixed = absurd mixed
same_length (w ∷ ws) [] mixed = absurd mixed
same_length (w ∷ ws) (c ∷ cs) mixed = omega (arith, same_length ws cs mixed.1)

ends_in_length : (bytes : List ℕ) → has_zero (length_part bytes) ≡ true → ends bytes ≡ true
unfolding ends
ends_in_length bytes z = rw z refl

or_true : (b : Bool) → (b || true) ≡ true
or_true true = refl
or_true false = refl

ends_in_text : (bytes : List ℕ) → is_length (length_part bytes) ≡ true → has_zero (text_part bytes) ≡ true → ends bytes ≡ true
unfolding ends
ends_in_text bytes l t = rw (l, t) (or_true (has_zero (length_part bytes)))

torn_text : (text left rest : List ℕ) → IsText text → OldOrNew (framed text) left → (left ≡ framed text) ⊎ (ends (left ++ rest) ≡ true)
unfolding framed
torn_text text left rest is mixed =
    let head = length_spelling (length text) in
    let cut = cut_mixed head text left mixed in
    let apart : left ++ rest ≡ cut.first ++ (cut.rest ++ rest) = ap (λ (l : List ℕ). l ++ rest) cut.whole ∙ append_assoc cut.first cut.rest rest in
    let part : length_part (left ++ rest) ≡ cut.first = ap (take LENGTH_BYTES) apart ∙ take_at cut.first (cut.rest ++ rest) LENGTH_BYTES cut.same in
    let after : drop LENGTH_BYTES (left ++ rest) ≡ cut.rest ++ rest = ap (drop LENGTH_BYTES) apart ∙ drop_at cut.first (cut.rest ++ rest) LENGTH_BYTES cut.same in
    elim (torn_zero head cut.first cut.at_first) [
      | inr torn ↦ inr (ends_in_length (left ++ rest) (ap has_zero part ∙ torn))
      | inl new ↦ elim (torn_zero text cut.rest cut.at_rest) [
        | inl all ↦ inl (cut.whole ∙ ap (λ (l : List ℕ). l ++ cut.rest) new ∙ ap (λ (l : List ℕ). head ++ l) all)
        | inr torn ↦
            let spelled : length_part (left ++ rest) ≡ head = part ∙ new in
            let l = ap is_length spelled ∙ is_length_again (length text) is.some is.few in
            let n = ap announced spelled ∙ announced_again (length text) is.few in
            let t : text_part (left ++ rest) ≡ cut.rest =
            ap (λ (k : ℕ). take k (drop LENGTH_BYTES (left ++ rest))) n ∙ ap (take (length text)) after ∙ take_at cut.rest rest (length text) (same_length text cut.rest cut.at_rest) in
            inr (ends_in_text (left ++ rest) l (ap has_zero t ∙ torn))
      ]
    ]

pub torn_frames_end : TornFramesEnd
torn_frames_end generation place entry left rest has mixed = torn_text (text_of generation place entry) left rest (text_is generation place entry has) mixed

-- ---- an end stays

zero_stays : (n : ℕ) (ws cs : List ℕ) → OldOrNew ws cs → has_zero (take n ws) ≡ true → has_zero (take n cs) ≡ true
zero_stays zero ws cs mixed z = z
zero_stays (suc n) [] [] mixed z = z
zero_stays (suc n) [] (c ∷ cs) mixed z = absurd mixed
zero_stays (suc n) (w ∷ ws) [] mixed z = absurd mixed
zero_stays (suc n) (w ∷ ws) (c ∷ cs) mixed z = elim mixed.0 [
  | inr lost ↦ rw lost refl
  | inl same ↦ elim (eqb_tells w 0) [
    | inl none ↦ rw (same, none.0) refl
    | inr some ↦
        let rest : has_zero (take n ws) ≡ true = sym (rw some.0 refl) ∙ z in
        rw (same, some.0) (zero_stays n ws cs mixed.1 rest)
  ]
]

old_take : (n : ℕ) (ws cs : List ℕ) → OldOrNew ws cs → OldOrNew (take n ws) (take n cs)
old_take zero ws cs mixed = tt
old_take (suc n) [] [] mixed = tt
old_take (suc n) [] (c ∷ cs) mixed = absurd mixed
old_take (suc n) (w ∷ ws) [] mixed = absurd mixed
old_take (suc n) (w ∷ ws) (c ∷ cs) mixed = (mixed.0, old_take n ws cs mixed.1)

old_drop : (n : ℕ) (ws cs : List ℕ) → OldOrNew ws cs → OldOrNew (drop n ws) (drop n cs)
old_drop zero ws cs mixed = mixed
old_drop (suc n) [] [] mixed = tt
old_drop (suc n) [] (c ∷ cs) mixed = absurd mixed
old_drop (suc n) (w ∷ ws) [] mixed = absurd mixed
old_drop (suc n) (w ∷ ws) (c ∷ cs) mixed = old_drop n ws cs mixed.1

ends_by_parts : (a b c : Bool) → (a || (b && c)) ≡ true → (a ≡ true) ⊎ ((b ≡ true) × (c ≡ true))
ends_by_parts true b c e = inl refl
ends_by_parts false true true e = inr (refl, refl)
ends_by_parts false true false e = absurd (cc)
ends_by_parts false false c e = absurd (cc)

ends_parts : (bytes : List ℕ) → ends bytes ≡ true → (has_zero (length_part bytes) ≡ true) ⊎ ((is_length (length_part bytes) ≡ true) × (has_zero (text_part bytes) ≡ true))
unfolding ends
ends_parts bytes e = ends_by_parts (has_zero (length_part bytes)) (is_length (length_part bytes)) (has_zero (text_part bytes)) e

pub ends_stay : EndsStay
ends_stay bytes left mixed e = elim (ends_parts bytes e) [
  | inl z ↦ ends_in_length left (zero_stays LENGTH_BYTES bytes left mixed z)
  | inr more ↦ elim (torn_zero (length_part bytes) (length_part left) (old_take LENGTH_BYTES bytes left mixed)) [
    | inr torn ↦ ends_in_length left torn
    | inl same ↦
        let l = ap is_length same ∙ more.0 in
        let rest = old_drop LENGTH_BYTES bytes left mixed in
        let t = zero_stays (announced (length_part bytes)) (drop LENGTH_BYTES bytes) (drop LENGTH_BYTES left) rest more.1 in
        let n : announced (length_part left) ≡ announced (length_part bytes) = ap announced same in
        ends_in_text left l (ap (λ (k : ℕ). has_zero (take k (drop LENGTH_BYTES left))) n ∙ t)
  ]
]

pub ends_some : (bytes : List ℕ) → ends bytes ≡ true → 0 < length bytes
unfolding ends
ends_some [] e = absurd (cc)
ends_some (b ∷ bytes) e = omega arith
