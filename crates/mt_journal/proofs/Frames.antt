-- Logs as lists of frames: one after another, and read one way.
use Rattle.std.proofs.Common.{◌≡◌, ℕ, suc, ◌+◌, ◌<◌, ◌≤◌, List, [], ◌∷◌, ◌++◌, length, take, refl, sym, ap, subst, ◌∙◌, append_assoc, arith, length-append}
use Rattle.std.specs.Prelude.{IsTrue}
use Rattle.std.proofs.lemmas.List.{append-nil}
use Rattle.mt_frame.specs.declared.entry.Entry.{Entry}
use Rattle.mt_frame.specs.declared.entry.Entry.TheVariants.{Header, Commits as Group, Rows, Sealed, Closed}
use Rattle.mt_frame.specs.declared.entry.LogHeader.{LogHeader}
use Rattle.mt_frame.specs.Spelling.{frame_of, frames_of, framed}
use Rattle.mt_frame.specs.Fits.{HasFrame}
use Rattle.mt_frame.specs.Ends.{ends}
use Rattle.mt_frame.proofs.FrameLaws.{frames_read_one_way, frames_do_not_end}
use Rattle.mt_journal.specs.Log.{last_number, AreNumbered, HaveFrames, header_frame, log_spelling, MaySay}
use Rattle.mt_journal.specs.Laws.{LogsHaveTheirFronts, LogsReadOneWay}

-- ---- one list of frames after another

pub frames_append : (generation place : ℕ) (xs ys : List Entry)
    → frames_of generation place (xs ++ ys) ≡ frames_of generation place xs ++ frames_of generation (place + length (frames_of generation place xs)) ys
frames_append generation place [] ys = ap (λ (p : ℕ). frames_of generation p ys) (omega arith)
frames_append generation place (x ∷ xs) ys =
    let f = frame_of generation place x in
    let p = place + length f in
    let more = frames_append generation p xs ys in
    let same : p + length (frames_of generation p xs) ≡ place + length (f ++ frames_of generation p xs) = omega (arith, length-append f (frames_of generation p xs)) in
    ap (λ (l : List ℕ). f ++ l) (more ∙ ap (λ (q : ℕ). frames_of generation p xs ++ frames_of generation q ys) same)
    ∙ sym (append_assoc f (frames_of generation p xs) (frames_of generation (place + length (f ++ frames_of generation p xs)) ys))

pub log_append : (header : LogHeader) (xs ys : List Entry)
    → log_spelling header (xs ++ ys) ≡ log_spelling header xs ++ frames_of header.generation (length (log_spelling header xs)) ys
log_append header xs ys =
    let h = header_frame header in
    let g = header.generation in
    let fs = frames_of g (length h) xs in
    let same : length h + length fs ≡ length (h ++ fs) = omega (arith, length-append h fs) in
    ap (λ (l : List ℕ). h ++ l) (frames_append g (length h) xs ys ∙ ap (λ (q : ℕ). fs ++ frames_of g q ys) same)
    ∙ sym (append_assoc h fs (frames_of g (length (h ++ fs)) ys))

pub have_append : (generation place : ℕ) (xs ys : List Entry) → HaveFrames generation place xs → HaveFrames generation (place + length (frames_of generation place xs)) ys → HaveFrames generation place (xs ++ ys)
have_append generation place [] ys have more = subst (λ (p : ℕ). HaveFrames generation p ys) (omega arith) more
have_append generation place (x ∷ xs) ys have more =
    let f = frame_of generation place x in
    let p = place + length f in
    let same : place + length (f ++ frames_of generation p xs) ≡ p + length (frames_of generation p xs) = omega (arith, length-append f (frames_of generation p xs)) in
    (have.0, have_append generation p xs ys have.1 (subst (λ (q : ℕ). HaveFrames generation q ys) same more))

pub have_parts : (generation place : ℕ) (xs ys : List Entry) → HaveFrames generation place (xs ++ ys) → HaveFrames generation place xs × HaveFrames generation (place + length (frames_of generation place xs)) ys
have_parts generation place [] ys have = (tt, subst (λ (p : ℕ). HaveFrames generation p ys) (omega arith) have)
have_parts generation place (x ∷ xs) ys have =
    let f = frame_of generation place x in
    let p = place + length f in
    let more = have_parts generation p xs ys have.1 in
    let same : p + length (frames_of generation p xs) ≡ place + length (f ++ frames_of generation p xs) = omega (arith, length-append f (frames_of generation p xs)) in
    ((have.0, more.0), subst (λ (q : ℕ). HaveFrames generation q ys) same more.1)

-- ---- numbers

pub last_append : (n : ℕ) (xs ys : List Entry) → last_number n (xs ++ ys) ≡ last_number (last_number n xs) ys
last_append n [] ys = refl
last_append n (Header h ∷ xs) ys = last_append n xs ys
last_append n (Group c ∷ xs) ys = last_append (n + length c.records) xs ys
last_append n (Rows p ∷ xs) ys = last_append n xs ys
last_append n (Sealed m ∷ xs) ys = last_append n xs ys
last_append n (Closed m ∷ xs) ys = last_append n xs ys

pub last_least : (n : ℕ) (xs : List Entry) → n ≤ last_number n xs
last_least n [] = omega arith
last_least n (Header h ∷ xs) = last_least n xs
last_least n (Group c ∷ xs) = omega (arith, last_least (n + length c.records) xs)
last_least n (Rows p ∷ xs) = last_least n xs
last_least n (Sealed m ∷ xs) = last_least n xs
last_least n (Closed m ∷ xs) = last_least n xs

pub numbered_append : (n : ℕ) (xs ys : List Entry) → AreNumbered n xs → AreNumbered (last_number n xs) ys → AreNumbered n (xs ++ ys)
numbered_append n [] ys are more = more
numbered_append n (Header h ∷ xs) ys are more = are
numbered_append n (Group c ∷ xs) ys are more = (are.0, numbered_append (n + length c.records) xs ys are.1 more)
numbered_append n (Rows p ∷ xs) ys are more = numbered_append n xs ys are more
numbered_append n (Sealed m ∷ xs) ys are more = numbered_append n xs ys are more
numbered_append n (Closed m ∷ xs) ys are more = (are.0, numbered_append n xs ys are.1 more)

pub numbered_front : (n : ℕ) (xs ys : List Entry) → AreNumbered n (xs ++ ys) → AreNumbered n xs
numbered_front n [] ys are = tt
numbered_front n (Header h ∷ xs) ys are = are
numbered_front n (Group c ∷ xs) ys are = (are.0, numbered_front (n + length c.records) xs ys are.1)
numbered_front n (Rows p ∷ xs) ys are = numbered_front n xs ys are
numbered_front n (Sealed m ∷ xs) ys are = numbered_front n xs ys are
numbered_front n (Closed m ∷ xs) ys are = (are.0, numbered_front n xs ys are.1)

-- ---- the first entries

pub take_over : (xs ys : List Entry) (k : ℕ) → take (length xs + k) (xs ++ ys) ≡ xs ++ take k ys
take_over [] ys k = ap (λ (n : ℕ). take n ys) (omega arith)
take_over (x ∷ xs) ys k =
    let n : length (x ∷ xs) + k ≡ suc (length xs + k) = omega arith in
    ap (λ (m : ℕ). take m (x ∷ (xs ++ ys))) n ∙ ap (λ (l : List Entry). x ∷ l) (take_over xs ys k)

pub says_front : (header : LogHeader) (xs ys : List Entry) → MaySay header (xs ++ ys) → MaySay header xs
says_front header xs ys says = record {
  begins = says.begins;
  have = (have_parts header.generation (length (header_frame header)) xs ys says.have).0;
  numbered = numbered_front header.base xs ys says.numbered;
}

-- one more entry
pub says_next : (header : LogHeader) (entries : List Entry) (entry : Entry) (generation place n : ℕ) → MaySay header entries → generation ≡ header.generation → place ≡ length (log_spelling header entries)
    → n ≡ last_number header.base entries → HasFrame generation place entry → AreNumbered n (entry ∷ []) → MaySay header (entries ++ entry ∷ [])
says_next header entries entry generation place n says same end newest has numbered =
    let h = length (header_frame header) in
    let g = header.generation in
    let here : place ≡ h + length (frames_of g h entries) = end ∙ length-append (header_frame header) (frames_of g h entries) in
    let has_here : HasFrame g (h + length (frames_of g h entries)) entry = subst (λ (p : ℕ). HasFrame g p entry) here (subst (λ (k : ℕ). HasFrame k place entry) same has) in
    record {
      begins = says.begins;
      have = have_append g h entries (entry ∷ []) says.have (has_here, tt);
      numbered = numbered_append header.base entries (entry ∷ []) says.numbered (subst (λ (k : ℕ). AreNumbered k (entry ∷ [])) newest numbered);
    }

-- the frames with one more
pub log_next : (header : LogHeader) (entries : List Entry) (entry : Entry) (generation place : ℕ) → generation ≡ header.generation → place ≡ length (log_spelling header entries)
    → log_spelling header (entries ++ entry ∷ []) ≡ log_spelling header entries ++ frame_of generation place entry
log_next header entries entry generation place same end =
    let log = log_spelling header entries in
    log_append header entries (entry ∷ [])
    ∙ ap (λ (l : List ℕ). log ++ l) (append-nil (frame_of header.generation (length log) entry) ∙ ap (λ (k : ℕ). frame_of header.generation k entry) (sym end) ∙ ap (λ (k : ℕ). frame_of k place entry) (sym same))

-- ---- read one way

frames_one_way : (generation place : ℕ) (xs ys : List Entry) (a b : List ℕ) → HaveFrames generation place xs → HaveFrames generation place ys → IsTrue (ends a) → IsTrue (ends b)
    → frames_of generation place xs ++ a ≡ frames_of generation place ys ++ b → xs ≡ ys
frames_one_way generation place [] [] a b have_x have_y ends_a ends_b e = refl
frames_one_way generation place [] (y ∷ ys) a b have_x have_y ends_a ends_b e =
    let f = frame_of generation place y in
    let rest = frames_of generation (place + length f) ys ++ b in
    absurd (frames_do_not_end generation place y rest have_y.0 (subst (λ (l : List ℕ). IsTrue (ends l)) (e ∙ append_assoc f (frames_of generation (place + length f) ys) b) ends_a))
frames_one_way generation place (x ∷ xs) [] a b have_x have_y ends_a ends_b e =
    let f = frame_of generation place x in
    let rest = frames_of generation (place + length f) xs ++ a in
    absurd (frames_do_not_end generation place x rest have_x.0 (subst (λ (l : List ℕ). IsTrue (ends l)) (sym e ∙ append_assoc f (frames_of generation (place + length f) xs) a) ends_b))
frames_one_way generation place (x ∷ xs) (y ∷ ys) a b have_x have_y ends_a ends_b e =
    let f = frame_of generation place x in
    let k = frame_of generation place y in
    let apart = sym (append_assoc f (frames_of generation (place + length f) xs) a) ∙ e ∙ append_assoc k (frames_of generation (place + length k) ys) b in
    let s = frames_read_one_way generation place x y (frames_of generation (place + length f) xs ++ a) (frames_of generation (place + length k) ys ++ b) have_x.0 have_y.0 apart in
    let p : place + length k ≡ place + length f = ap (λ (z : Entry). place + length (frame_of generation place z)) (sym s.0) in
    let rest = s.1 ∙ ap (λ (q : ℕ). frames_of generation q ys ++ b) p in
    let more = frames_one_way generation (place + length f) xs ys a b have_x.1 (subst (λ (q : ℕ). HaveFrames generation q ys) p have_y.1) ends_a ends_b rest in
    ap (λ (z : Entry). z ∷ xs) s.0 ∙ ap (λ (l : List Entry). y ∷ l) more

same_header : (h k : LogHeader) → Header h ≡ Header k → h ≡ k
same_header h k e = cc

pub logs_read_one_way : LogsReadOneWay
logs_read_one_way header other entries others bytes one two =
    let h = header_frame header in
    let k = header_frame other in
    let fs = frames_of header.generation (length h) entries in
    let gs = frames_of other.generation (length k) others in
    let apart : h ++ (fs ++ one.rest) ≡ k ++ (gs ++ two.rest) = sym (append_assoc h fs one.rest) ∙ sym one.parts ∙ two.parts ∙ append_assoc k gs two.rest in
    let s = frames_read_one_way 0 0 (Header header) (Header other) (fs ++ one.rest) (gs ++ two.rest) one.says.begins two.says.begins apart in
    let same = same_header header other s.0 in
    let place : (g : LogHeader) → List ℕ = λ g. frames_of g.generation (length (header_frame g)) others ++ two.rest in
    let rest = s.1 ∙ ap place (sym same) in
    let have : HaveFrames header.generation (length h) others = subst (λ (g : LogHeader). HaveFrames g.generation (length (header_frame g)) others) (sym same) two.says.have in
    (same, frames_one_way header.generation (length h) entries others one.rest two.rest one.says.have have one.ended two.ended rest)

pub frame_some : (generation place : ℕ) (entry : Entry) → 0 < length (frame_of generation place entry)
unfolding framed
frame_some generation place entry = omega arith

-- ---- the entries of a log after those that were read

pub record IsAhead (generation place : ℕ) (front whole : List Entry) (bytes rest : List ℕ) : Type 0 where
  pub more : List Entry
  pub joined : whole ≡ front ++ more
  pub parts : bytes ≡ frames_of generation (place + length (frames_of generation place front)) more ++ rest
  pub have : HaveFrames generation (place + length (frames_of generation place front)) more

pub frames_ahead : (generation place : ℕ) (xs ys : List Entry) (a b : List ℕ) → HaveFrames generation place xs → HaveFrames generation place ys → IsTrue (ends b)
    → frames_of generation place xs ++ a ≡ frames_of generation place ys ++ b → IsAhead generation place xs ys a b
frames_ahead generation place [] ys a b have_x have_y ends_b e =
    let here : place ≡ place + length {A = ℕ} [] = omega arith in
    record {
      more = ys;
      joined = refl;
      parts = e ∙ ap (λ (p : ℕ). frames_of generation p ys ++ b) here;
      have = subst (λ (p : ℕ). HaveFrames generation p ys) here have_y;
    }
frames_ahead generation place (x ∷ xs) [] a b have_x have_y ends_b e =
    let f = frame_of generation place x in
    absurd (frames_do_not_end generation place x (frames_of generation (place + length f) xs ++ a) have_x.0 (subst (λ (l : List ℕ). IsTrue (ends l)) (sym e ∙ append_assoc f (frames_of generation (place + length f) xs) a) ends_b))
frames_ahead generation place (x ∷ xs) (y ∷ ys) a b have_x have_y ends_b e =
    let f = frame_of generation place x in
    let k = frame_of generation place y in
    let apart = sym (append_assoc f (frames_of generation (place + length f) xs) a) ∙ e ∙ append_assoc k (frames_of generation (place + length k) ys) b in
    let s = frames_read_one_way generation place x y (frames_of generation (place + length f) xs ++ a) (frames_of generation (place + length k) ys ++ b) have_x.0 have_y.0 apart in
    let p : place + length k ≡ place + length f = ap (λ (z : Entry). place + length (frame_of generation place z)) (sym s.0) in
    let rest = s.1 ∙ ap (λ (q : ℕ). frames_of generation q ys ++ b) p in
    let more = frames_ahead generation (place + length f) xs ys a b have_x.1 (subst (λ (q : ℕ). HaveFrames generation q ys) p have_y.1) ends_b rest in
    let here : place + length f + length (frames_of generation (place + length f) xs) ≡ place + length (f ++ frames_of generation (place + length f) xs) = omega (arith, length-append f (frames_of generation (place + length f) xs)) in
    record {
      more = more.more;
      joined = ap (λ (l : List Entry). y ∷ l) more.joined ∙ ap (λ (z : Entry). z ∷ (xs ++ more.more)) (sym s.0);
      parts = more.parts ∙ ap (λ (q : ℕ). frames_of generation q more.more ++ b) here;
      have = subst (λ (q : ℕ). HaveFrames generation q more.more) here more.have;
    }

pub logs_have_their_fronts : LogsHaveTheirFronts
logs_have_their_fronts header first entries bytes rest says log begins =
    let h = header_frame header in
    let fs = frames_of header.generation (length h) first in
    let gs = frames_of header.generation (length h) entries in
    let apart : h ++ (fs ++ rest) ≡ h ++ (gs ++ log.rest) = sym (append_assoc h fs rest) ∙ sym begins ∙ log.parts ∙ append_assoc h gs log.rest in
    let same = (frames_read_one_way 0 0 (Header header) (Header header) (fs ++ rest) (gs ++ log.rest) says.begins says.begins apart).1 in
    let ahead = frames_ahead header.generation (length h) first entries rest log.rest says.have log.says.have log.ended same in
    (ahead.more, ahead.joined)

pub numbered_rest : (n : ℕ) (xs ys : List Entry) → AreNumbered n (xs ++ ys) → AreNumbered (last_number n xs) ys
numbered_rest n [] ys are = are
numbered_rest n (Header h ∷ xs) ys are = absurd are
numbered_rest n (Group c ∷ xs) ys are = numbered_rest (n + length c.records) xs ys are.1
numbered_rest n (Rows p ∷ xs) ys are = numbered_rest n xs ys are
numbered_rest n (Sealed m ∷ xs) ys are = numbered_rest n xs ys are
numbered_rest n (Closed m ∷ xs) ys are = numbered_rest n xs ys are.1

pub numbered_first : (n : ℕ) (x : Entry) (ys : List Entry) → AreNumbered n (x ∷ ys) → AreNumbered n (x ∷ [])
numbered_first n (Header h) ys are = are
numbered_first n (Group c) ys are = (are.0, tt)
numbered_first n (Rows p) ys are = tt
numbered_first n (Sealed m) ys are = tt
numbered_first n (Closed m) ys are = (are.0, tt)
