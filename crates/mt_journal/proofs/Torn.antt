-- Of a torn log the first entries are read, among them all that were synced.
use Rattle.std.proofs.Common.{◌≡◌, ℕ, zero, suc, ◌+◌, ◌<◌, ◌≤◌, true, List, [], ◌∷◌, ◌++◌, length, take, drop, replicate, refl, sym, ap, subst, ◌∙◌, append_assoc, arith, inl, inr, length-append}
use Rattle.std.specs.Prelude.{IsTrue}
use Rattle.std.proofs.lemmas.List.{take-append-drop}
use Rattle.mt_frame.specs.declared.entry.Entry.{Entry}
use Rattle.mt_frame.specs.declared.entry.LogHeader.{LogHeader}
use Rattle.mt_frame.specs.Spelling.{frame_of, frames_of}
use Rattle.mt_frame.specs.Ends.{ends}
use Rattle.mt_frame.specs.Laws.{OldOrNew}
use Rattle.mt_frame.proofs.FrameLaws.{torn_frames_end, cut_mixed}
use Rattle.mt_journal.specs.Log.{last_number, HaveFrames, header_frame, log_spelling, MaySay, IsLog}
use Rattle.mt_journal.specs.Keeping.{Survives, IsTorn}
use Rattle.mt_journal.proofs.Frames.{log_append, have_parts, last_append, last_least, take_over, says_front}

-- the log ends at a zero
pub ends_at_zero : (bytes : List ℕ) → ends (0 ∷ bytes) ≡ true
unfolding ends
ends_at_zero bytes = refl

pub ends_at_zeros : (n : ℕ) (rest : List ℕ) → 0 < n → ends (replicate n 0 ++ rest) ≡ true
ends_at_zeros zero rest some = absurd (omega (arith, some))
ends_at_zeros (suc n) rest some = ends_at_zero (replicate n 0 ++ rest)

record IsPrefix (generation place : ℕ) (since : List Entry) (bytes : List ℕ) : Type 0 where
  count : ℕ
  within : count ≤ length since
  rest : List ℕ
  parts : bytes ≡ frames_of generation place (take count since) ++ rest
  ended : IsTrue (ends rest)

since_read : (generation place : ℕ) (since : List Entry) (torn after : List ℕ) → HaveFrames generation place since → OldOrNew (frames_of generation place since) torn → ends after ≡ true
    → IsPrefix generation place since (torn ++ after)
since_read generation place [] [] after have mixed ended = record { count = 0; within = omega arith; rest = after; parts = refl; ended = ended }
since_read generation place [] (x ∷ torn) after have mixed ended = absurd mixed
since_read generation place (e ∷ since) torn after have mixed ended =
    let f = frame_of generation place e in
    let p = place + length f in
    let cut = cut_mixed f (frames_of generation p since) torn mixed in
    let apart : torn ++ after ≡ cut.first ++ (cut.rest ++ after) = ap (λ (l : List ℕ). l ++ after) cut.whole ∙ append_assoc cut.first cut.rest after in
    elim (torn_frames_end generation place e cut.first (cut.rest ++ after) have.0 cut.at_first) [
      | inl all ↦
          let more = since_read generation p since cut.rest after have.1 cut.at_rest ended in
          record {
            count = suc more.count;
            within = omega (arith, more.within);
            rest = more.rest;
            parts = apart ∙ ap (λ (l : List ℕ). l ++ (cut.rest ++ after)) all ∙ ap (λ (l : List ℕ). f ++ l) more.parts ∙ sym (append_assoc f (frames_of generation p (take more.count since)) more.rest);
            ended = more.ended;
          }
      | inr stops ↦ record { count = 0; within = omega arith; rest = torn ++ after; parts = refl; ended = subst (λ (l : List ℕ). IsTrue (ends l)) (sym apart) stops }
    ]

place_of : (header : LogHeader) (synced : List Entry) → length (header_frame header) + length (frames_of header.generation (length (header_frame header)) synced) ≡ length (log_spelling header synced)
place_of header synced = omega (arith, length-append (header_frame header) (frames_of header.generation (length (header_frame header)) synced))

pub survives : (header : LogHeader) (synced since entries : List Entry) (room durable : ℕ) (left : List ℕ) → entries ≡ synced ++ since → MaySay header entries → durable ≡ last_number header.base synced
    → IsTorn header synced since room left → Survives header entries durable left
survives header synced since entries room durable left joined says kept torn =
    let g = header.generation in
    let whole = subst (MaySay header) joined says in
    let have = subst (λ (p : ℕ). HaveFrames g p since) (place_of header synced) (have_parts g (length (header_frame header)) synced since whole.have).1 in
    let r = since_read g (length (log_spelling header synced)) since torn.torn (replicate torn.zeros 0 ++ torn.rest) have torn.mixed (ends_at_zeros torn.zeros torn.rest torn.some) in
    let front : take (length synced + r.count) entries ≡ synced ++ take r.count since = ap (take (length synced + r.count)) joined ∙ take_over synced since r.count in
    let all : synced ++ since ≡ (synced ++ take r.count since) ++ drop r.count since = ap (λ (l : List Entry). synced ++ l) (sym (take-append-drop r.count since)) ∙ sym (append_assoc synced (take r.count since) (drop r.count since)) in
    let first_says = says_front header (synced ++ take r.count since) (drop r.count since) (subst (MaySay header) all whole) in
    let spelled = log_append header synced (take r.count since) in
    let parts : left ≡ log_spelling header (synced ++ take r.count since) ++ r.rest =
    torn.parts ∙ ap (λ (l : List ℕ). log_spelling header synced ++ l) r.parts
    ∙ sym (append_assoc (log_spelling header synced) (frames_of g (length (log_spelling header synced)) (take r.count since)) r.rest)
    ∙ ap (λ (l : List ℕ). l ++ r.rest) (sym spelled) in
    let is_log : IsLog header (synced ++ take r.count since) left = record { says = first_says; rest = r.rest; parts = parts; ended = r.ended } in
    let enough : durable ≤ last_number header.base (synced ++ take r.count since) =
    omega (arith, kept, last_append header.base synced (take r.count since), last_least (last_number header.base synced) (take r.count since)) in
    record {
      count = length synced + r.count;
      within = omega (arith, ap length joined, length-append synced since, r.within);
      log = subst (λ (l : List Entry). IsLog header l left) (sym front) is_log;
      kept = subst (λ (l : List Entry). durable ≤ last_number header.base l) (sym front) enough;
    }
