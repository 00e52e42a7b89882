-- Frames: what is cut off the front is a frame, and what its body spells is what the frame spells.
use Rattle.std.proofs.Common.{◌≡◌, ◌≢◌, ℕ, ◌+◌, ◌^◌, ◌<◌, ◌≤◌, Bool, true, false, cond, eqb, ltb, ◌||◌, List, [], ◌∷◌, ◌++◌, length, get_or, take, drop, Option, Some, None, Result, Ok, Err, refl, sym, ap, subst, ◌∙◌, arith, inl, inr}
use Rattle.std.specs.Prelude.{◌⊎◌, IsSome}
use Rattle.std.specs.List.{flat_map}
use Rattle.std.specs.Int.{w32, from_be_bytes, to_be_bytes}
use Rattle.std.proofs.lemmas.Bool.{ltb-false, le-ltb, eqb-true}
use Rattle.std.proofs.lemmas.List.{take-take, take-append-drop, take-append-le, drop-append-le, take_at, get_or-drop, get_or_append_left, length-take, length-drop, length-append, append-nil, nil_from_length}
use Rattle.std.proofs.lemmas.Nat.{be_bytes_4, from_be_bytes-to_be_bytes_4}
use Rattle.mt_types.specs.declared.limits.TheConstants.{MAX_QUERIES, MAX_REQUEST_BODY}
use Rattle.mt_wire.specs.declared.fault.WireFault.{WireFault}
use Rattle.mt_wire.specs.declared.fault.WireFault.TheVariants as faults
use Rattle.mt_wire.specs.declared.version.WireVersion.{WireVersion}
use Rattle.mt_wire.specs.declared.version.WireVersion.TheVariants.{One, Two, Three}
use Rattle.mt_wire.specs.declared.frame.Frame.{Frame}
use Rattle.mt_wire.specs.Versions.{version_byte, version_of}
use Rattle.mt_wire.specs.Spelling.{counted, framed, body_of, query_spelling}
use Rattle.mt_wire.specs.Frames.{Holds, InVersion, announced, told_version, IsWhole, IsOneFrame, FaultStands, RequestsFit, request_frame}
use Rattle.mt_wire.specs.Reading.{Reader, ◌>>=◌, byte_at, times_at, kind_at}
use Rattle.mt_wire.specs.QueryReading.{query_rest}
use Rattle.mt_wire.specs.Bodies.{FaultIs, messages_at, read_as, body_at}
use Rattle.mt_wire.specs.declared.query.Query.{Query}
use Rattle.mt_wire.proofs.QueryLaws.{query_exact}
use Rattle.mt_wire.proofs.Exact.{IsBytes, IsBytes-rest, IsBytes-take, IsBytes-drop, IsExact, bind_some, times_take, times_again}

pub cut_is_frame : (bytes front rest : List ℕ) (len : ℕ) → 4 ≤ length bytes → len ≡ announced bytes → 2 ≤ len → len ≤ MAX_REQUEST_BODY → 4 + len ≤ length bytes → front ≡ take (4 + len) bytes → rest ≡ drop (4 + len) bytes
    → IsOneFrame MAX_REQUEST_BODY front × (bytes ≡ front ++ rest)
cut_is_frame bytes front rest len header told low high long front_is rest_is =
    let same : announced front ≡ len = rw front_is (ap (from_be_bytes w32) (take-take 4 (4 + len) bytes (omega arith)) ∙ sym told) in
    let size : length front ≡ 4 + len = rw front_is (omega (arith, length-take (4 + len) bytes)) in
    (record { header = omega (arith, size); fits = (omega (arith, same), omega (arith, same)); whole = omega (arith, same, size) }, rw (front_is, rest_is) (sym (take-append-drop (4 + len) bytes)))

-- ---- bodies

guard_count : {B : Type 0} (b : Bool) (x y : Option B) (z : B) → cond b None x ≡ Some z → (b ≡ false) × (x ≡ Some z)
guard_count true x y z e = absurd cc
guard_count false x y z e = (refl, e)

guard_full : {B : Type 0} (b : Bool) (x y : B) → cond b (Some x) None ≡ Some y → (b ≡ true) × (x ≡ y)
guard_full true x y e = (refl, cc)
guard_full false x y e = absurd cc

neither : (a b : Bool) → (a || b) ≡ false → (a ≡ false) × (b ≡ false)
neither true b e = absurd cc
neither false b e = (refl, e)

messages_take : {A : Type 0} {F : A → Type 0} {spell : A → List ℕ} {item : Reader A} → IsExact A F spell item
    → (bytes : List ℕ) (xs : List A) → IsBytes bytes → messages_at item bytes ≡ Some xs → (bytes ≡ counted spell xs) × Holds F xs
unfolding messages_at byte_at
messages_take exact [] xs fits e = absurd cc
messages_take {A} {F} {spell} {item} exact (n ∷ bytes) xs fits e =
    let g = guard_count (ltb n 1 || ltb MAX_QUERIES n) (times_at item n bytes >>= λ x. cond (eqb (length x.1) 0) (Some x.0) None) None xs e in
    let p = bind_some (times_at item n bytes) (λ x. cond (eqb (length x.1) 0) (Some x.0) None) xs g.1 in
    let h = guard_full (eqb (length p.0.1) 0) p.0.0 xs p.2 in
    let t = times_take exact n bytes p.0 (IsBytes-rest n bytes fits) p.1 in
    let bounds = neither (ltb n 1) (ltb MAX_QUERIES n) g.0 in
    let nothing : p.0.1 ≡ [] = nil_from_length p.0.1 (eqb-true _ _ h.0) in
    let body : bytes ≡ flat_map spell p.0.0 = t.0.parts ∙ ap (λ (r : List ℕ). flat_map spell p.0.0 ++ r) nothing ∙ append-nil (flat_map spell p.0.0) in
    let low : 1 ≤ n = ltb-false _ _ bounds.0 in
    let high : n ≤ MAX_QUERIES = ltb-false _ _ bounds.1 in
    let whole : n ∷ bytes ≡ counted spell p.0.0 = ap (λ (r : List ℕ). n ∷ r) body ∙ ap (λ (k : ℕ). k ∷ flat_map spell p.0.0) (sym t.1) in
    subst (λ (ys : List A). (n ∷ bytes ≡ counted spell ys) × Holds F ys) h.1 (whole, (omega (arith, t.1, low), omega (arith, t.1, high), t.2))

messages_again : {A : Type 0} {F : A → Type 0} {spell : A → List ℕ} {item : Reader A} → IsExact A F spell item
    → (xs : List A) → Holds F xs → messages_at item (counted spell xs) ≡ Some xs
unfolding messages_at byte_at
messages_again {A} {F} {spell} {item} exact xs h =
    let rest : times_at item (length xs) (flat_map spell xs) ≡ Some (xs, []) = ap (times_at item (length xs)) (sym (append-nil (flat_map spell xs))) ∙ times_again exact xs [] h.2 in
    rw (le-ltb (length xs) 1 h.0, le-ltb MAX_QUERIES (length xs) h.1, rest) refl

-- ---- the first byte

told_by : (one two three : Bool) (version : WireVersion) → cond one (Some One) (cond two (Some Two) (cond three (Some Three) None)) ≡ Some version
    → ((one ≡ true) × (version ≡ One)) ⊎ (((two ≡ true) × (version ≡ Two)) ⊎ ((three ≡ true) × (version ≡ Three)))
told_by true two three version e = inl (refl, cc)
told_by false true three version e = inr (inl (refl, cc))
told_by false false true version e = inr (inr (refl, cc))
told_by false false false version e = absurd cc

byte_told : (byte : ℕ) (version : WireVersion) → version_of byte ≡ Some version → byte ≡ version_byte version
byte_told byte version e =
    elim (told_by (eqb byte 1) (eqb byte 2) (eqb byte 3) version e) [
      | inl is ↦ eqb-true _ _ is.0 ∙ ap version_byte (sym is.1)
      | inr (inl is) ↦ eqb-true _ _ is.0 ∙ ap version_byte (sym is.1)
      | inr (inr is) ↦ eqb-true _ _ is.0 ∙ ap version_byte (sym is.1)
    ]

told_again : (version : WireVersion) → version_of (version_byte version) ≡ Some version
told_again One = refl
told_again Two = refl
told_again Three = refl

-- ---- what a body reads as

abbrev pub done : {A : Type 0} → A → Result A WireFault
done x = Ok x

pub same_done : {A : Type 0} (x y : A) → done x ≡ done y → x ≡ y
same_done x y e = cc

read_parts : {A : Type 0} (version : Option WireVersion) (messages : Option (List A)) (frame : Frame A) → read_as version messages ≡ Ok frame → (version ≡ Some frame.version) × (messages ≡ Some frame.messages)
read_parts None messages frame e = absurd cc
read_parts (Some version) None frame e = absurd cc
read_parts {A} (Some version) (Some messages) frame e =
    let same = same_done (framed version messages) frame e in
    (ap (λ (f : Frame A). Some f.version) same, ap (λ (f : Frame A). Some f.messages) same)

not_told : {A : Type 0} (version : Option WireVersion) (messages : Option (List A)) → read_as version messages ≡ Err faults.BadVersion → version ≡ None
not_told None messages e = refl
not_told (Some version) None e = absurd cc
not_told (Some version) (Some messages) e = absurd cc

is_told : {A : Type 0} (version : Option WireVersion) (messages : Option (List A)) → (read_as version messages ≡ Err faults.BadVersion → ⊥) → IsSome version
is_told None messages other = absurd (other refl)
is_told (Some version) messages other = refl

no_bad_length : {A : Type 0} (version : Option WireVersion) (messages : Option (List A)) → read_as version messages ≡ Err faults.BadLength → ⊥
no_bad_length None messages e = cc
no_bad_length (Some version) None e = cc
no_bad_length (Some version) (Some messages) e = cc

pub body_takes : {A : Type 0} {F : A → Type 0} {spell : A → List ℕ} {item : Reader A} → IsExact A F spell item
    → (body : List ℕ) (frame : Frame A) → IsBytes body → body_at item body ≡ Ok frame → (body ≡ body_of spell frame) × Holds F frame.messages
unfolding body_at
body_takes exact [] frame fits e = absurd cc
body_takes {A} {F} {spell} {item} exact (byte ∷ rest) frame fits e =
    let g = read_parts (version_of byte) (messages_at item rest) frame e in
    let t = messages_take exact rest frame.messages (IsBytes-rest byte rest fits) g.1 in
    (rw (byte_told byte frame.version g.0, t.0) refl, t.1)

pub version_differs : {A : Type 0} (item : Reader A) (body : List ℕ) → body_at item body ≡ Err faults.BadVersion → version_of (get_or body 0 0) ≡ None
unfolding body_at
version_differs item [] e = absurd cc
version_differs item (byte ∷ rest) e = not_told (version_of byte) (messages_at item rest) e

pub version_is_told : {A : Type 0} (item : Reader A) (body : List ℕ) → 0 < length body → (body_at item body ≡ Err faults.BadVersion → ⊥) → IsSome (version_of (get_or body 0 0))
unfolding body_at
version_is_told item [] long other = absurd (omega arith)
version_is_told item (byte ∷ rest) long other = is_told (version_of byte) (messages_at item rest) other

pub length_is_good : {A : Type 0} (item : Reader A) (body : List ℕ) → body_at item body ≡ Err faults.BadLength → ⊥
unfolding body_at
length_is_good item [] e = cc
length_is_good item (byte ∷ rest) e = no_bad_length (version_of byte) (messages_at item rest) e

pub body_again : {A : Type 0} {F : A → Type 0} {spell : A → List ℕ} {item : Reader A} → IsExact A F spell item
    → (frame : Frame A) → Holds F frame.messages → body_at item (body_of spell frame) ≡ Ok frame
unfolding body_at
body_again {A} {F} {spell} {item} exact frame h = rw (told_again frame.version, messages_again exact frame.messages h) refl

-- ---- frames

pub announced_by : (frame rest : List ℕ) → 4 ≤ length frame → announced (frame ++ rest) ≡ announced frame
announced_by frame rest h = ap (from_be_bytes w32) (take-append-le 4 frame rest h)

pub spelled_length : (body rest : List ℕ) → length body < 2 ^ 32 → announced ((to_be_bytes w32 (length body) ++ body) ++ rest) ≡ length body
spelled_length body rest h = from_be_bytes-to_be_bytes_4 (length body) h

pub frame_is_whole : (frame rest : List ℕ) → IsOneFrame MAX_REQUEST_BODY frame → IsWhole MAX_REQUEST_BODY (frame ++ rest)
frame_is_whole frame rest is =
    let told = announced_by frame rest is.header in
    let size = length-append frame rest in
    (omega (arith, size, is.header), (omega (arith, told, is.fits), omega (arith, told, is.fits)), omega (arith, told, size, is.whole))

pub version_at : (frame rest : List ℕ) → IsOneFrame MAX_REQUEST_BODY frame → get_or (frame ++ rest) 4 0 ≡ get_or (drop 4 frame) 0 0
version_at frame rest is =
    get_or_append_left frame rest 0 4 (omega (arith, is.whole, is.fits)) ∙ sym (get_or-drop {A = ℕ} 4 frame 0 0)

-- two frames at the front of the same bytes have the same body
pub same_body : (frame rest body more : List ℕ) → IsOneFrame MAX_REQUEST_BODY frame → length body < 2 ^ 32 → frame ++ rest ≡ (to_be_bytes w32 (length body) ++ body) ++ more → drop 4 frame ≡ body
same_body frame rest body more is short e =
    let told : announced frame ≡ length body = sym (announced_by frame rest is.header) ∙ ap announced e ∙ spelled_length body more short in
    let behind : drop 4 frame ++ rest ≡ body ++ more = sym (drop-append-le 4 frame rest is.header) ∙ ap (drop 4) e in
    let size : length (drop 4 frame) ≡ length body = omega (arith, length-drop 4 frame, is.whole, told) in
    sym (take_at (drop 4 frame) rest (length body) size) ∙ ap (take (length body)) behind ∙ take_at body more (length body) refl

-- a frame is the length of its body, and then the body
pub frame_of_body : (most : ℕ) (frame body : List ℕ) → IsBytes frame → IsOneFrame most frame → drop 4 frame ≡ body → frame ≡ to_be_bytes w32 (length body) ++ body
frame_of_body most frame body fits is e =
    let size : length (drop 4 frame) ≡ announced frame = omega (arith, length-drop 4 frame, is.whole) in
    let header : to_be_bytes w32 (announced frame) ≡ take 4 frame = be_bytes_4 (take 4 frame) _ (omega (arith, length-take 4 frame, is.header)) (IsBytes-take 4 frame fits) refl in
    let told : announced frame ≡ length body = sym size ∙ ap length e in
    sym (take-append-drop 4 frame) ∙ ap (λ (x : List ℕ). x ++ drop 4 frame) (sym header) ∙ ap (λ (n : ℕ). to_be_bytes w32 n ++ drop 4 frame) told ∙ ap (λ (x : List ℕ). to_be_bytes w32 (length body) ++ x) e

-- ---- what is at the front of a frame of requests

pub no_two_faults : {A : Type 0} (read : Result A WireFault) → read ≡ Err faults.BadBody → read ≡ Err faults.BadVersion → ⊥
no_two_faults read e k = cc

no_fault_read : {A : Type 0} (read : Result A WireFault) (found : A) → read ≡ Ok found → read ≡ Err faults.BadVersion → ⊥
no_fault_read read found e k = cc

requests_stand : (frame body : List ℕ) → IsBytes frame → IsOneFrame MAX_REQUEST_BODY frame → drop 4 frame ≡ body → length body ≤ MAX_REQUEST_BODY
requests_stand frame body fits is e = omega (arith, length-drop 4 frame, is.whole, is.fits, ap length e)

pub queries_found : (frame : List ℕ) (found : Frame Query) → IsBytes frame → IsOneFrame MAX_REQUEST_BODY frame → body_at (kind_at query_rest) (drop 4 frame) ≡ Ok found → InVersion found → RequestsFit found × (frame ≡ request_frame found)
queries_found frame found fits is e has =
    let t = body_takes query_exact (drop 4 frame) found (IsBytes-drop 4 frame fits) e in
    let spelled = frame_of_body MAX_REQUEST_BODY frame (body_of query_spelling found) fits is t.0 in
    ((t.1, has, requests_stand frame (body_of query_spelling found) fits is t.0), spelled)

-- what a frame of requests at the front would be read as
read_so : (frame rest : List ℕ) → IsOneFrame MAX_REQUEST_BODY frame → (other : Frame Query) (more : List ℕ) → RequestsFit other → frame ++ rest ≡ request_frame other ++ more
    → body_at (kind_at query_rest) (drop 4 frame) ≡ Ok other
read_so frame rest is other more fits spelled =
    let body = same_body frame rest (body_of query_spelling other) more is (omega (arith, fits.2)) spelled in
    ap (body_at (kind_at query_rest)) body ∙ body_again query_exact other fits.0

-- no frame of requests is there if the body spells no messages
no_queries : (frame rest : List ℕ) → IsOneFrame MAX_REQUEST_BODY frame → body_at (kind_at query_rest) (drop 4 frame) ≡ Err faults.BadBody
    → (other : Frame Query) (more : List ℕ) → RequestsFit other → frame ++ rest ≡ request_frame other ++ more → ⊥
no_queries frame rest is e other more fits spelled =
    let read = read_so frame rest is other more fits spelled in
    cc

-- nor where one of them isn't of its version
no_version : (frame rest : List ℕ) (found : Frame Query) → IsOneFrame MAX_REQUEST_BODY frame → body_at (kind_at query_rest) (drop 4 frame) ≡ Ok found → ¬ InVersion found
    → (other : Frame Query) (more : List ℕ) → RequestsFit other → frame ++ rest ≡ request_frame other ++ more → ⊥
no_version frame rest found is e lacks other more fits spelled =
    let same = same_done found other (sym e ∙ read_so frame rest is other more fits spelled) in
    lacks (subst (λ (f : Frame Query). InVersion f) (sym same) fits.1)

told_of : (frame rest : List ℕ) → IsOneFrame MAX_REQUEST_BODY frame → (body_at (kind_at query_rest) (drop 4 frame) ≡ Err faults.BadVersion → ⊥) → IsSome (told_version (frame ++ rest))
told_of frame rest is other =
    subst (λ (byte : ℕ). IsSome (version_of byte)) (sym (version_at frame rest is)) (version_is_told (kind_at query_rest) (drop 4 frame) (omega (arith, length-drop 4 frame, is.whole, is.fits)) other)

pub fault_stands : (frame rest : List ℕ) (fault : WireFault) → IsOneFrame MAX_REQUEST_BODY frame → FaultIs fault (body_at (kind_at query_rest) (drop 4 frame)) → fault ≢ faults.NoMemory → FaultStands fault (frame ++ rest)
fault_stands frame rest faults.NoMemory is h other = absurd (other refl)
fault_stands frame rest faults.BadLength is h other = absurd (length_is_good (kind_at query_rest) (drop 4 frame) h)
fault_stands frame rest faults.BadVersion is h other =
    (frame_is_whole frame rest is, ap version_of (version_at frame rest is) ∙ version_differs (kind_at query_rest) (drop 4 frame) h)
fault_stands frame rest faults.BadBody is h other = (frame_is_whole frame rest is, told_of frame rest is (λ e. no_two_faults _ h e), no_queries frame rest is h)

pub lacks_version : (frame rest : List ℕ) (found : Frame Query) → IsOneFrame MAX_REQUEST_BODY frame → body_at (kind_at query_rest) (drop 4 frame) ≡ Ok found → ¬ InVersion found → FaultStands faults.BadBody (frame ++ rest)
lacks_version frame rest found is h lacks = (frame_is_whole frame rest is, told_of frame rest is (λ e. no_fault_read _ found h e), no_version frame rest found is h lacks)
