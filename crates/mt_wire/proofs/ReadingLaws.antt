-- Messages and frames are read one way.
use Rattle.std.proofs.Common.{◌≡◌, ◌≢◌, ℕ, ◌+◌, ◌^◌, ◌<◌, ◌≤◌, List, ◌++◌, length, get_or, take, drop, Option, Some, None, Result, Ok, Err, refl, sym, ap, subst, ◌∙◌, arith, inl, inr}
use Rattle.std.specs.Prelude.{IfOk, IfErr, IfSome, IfNone, IsSome, IsSomeAnd, MatchResult}
use Rattle.std.specs.Int.{w32, to_be_bytes}
use Rattle.std.proofs.lemmas.Option.{some_pair_parts}
use Rattle.std.proofs.lemmas.List.{take_at, drop_at, length-append, get_or_append_left, take-append-le, take-append-drop}
use Rattle.mt_types.specs.declared.limits.TheConstants.{MAX_REQUEST_BODY}
use Rattle.mt_wire.specs.declared.limits.TheConstants.{MAX_REPLY_BODY}
use Rattle.mt_wire.specs.declared.query.Query.{Query}
use Rattle.mt_wire.specs.declared.fault.WireFault.{WireFault}
use Rattle.mt_wire.specs.declared.fault.WireFault.TheVariants as faults
use Rattle.mt_wire.specs.declared.version.WireVersion.{WireVersion}
use Rattle.mt_wire.specs.declared.version.WireVersion.TheVariants.{One, Two, Three}
use Rattle.mt_wire.specs.declared.frame.Frame.{Frame}
use Rattle.mt_wire.specs.Versions.{version_byte, version_of}
use Rattle.mt_wire.specs.Spelling.{query_spelling, body_of, frame_of}
use Rattle.mt_wire.specs.Frames.{Holds, RequestsFit, request_frame, announced, LengthFits, IsBegun, IsWhole, FaultStands, Kept}
use Rattle.mt_wire.specs.Reading.{Reader}
use Rattle.mt_wire.specs.Bodies.{body_at}
use Rattle.mt_wire.specs.Laws.{ReadOneWay, QueriesReadOneWay, ResponsesReadOneWay, RequestFramesReadOneWay, ReplyFramesReadOneWay, FrameStandsAlone, BegunHasNoFault, FaultStays}
use Rattle.mt_wire.proofs.Exact.{IsExact}
use Rattle.mt_wire.proofs.QueryLaws.{query_exact}
use Rattle.mt_wire.proofs.ResponseLaws.{response_exact}
use Rattle.mt_wire.proofs.FrameLaws.{body_again, spelled_length, announced_by, same_done}

read_one_way : {A : Type 0} {F : A → Type 0} {spell : A → List ℕ} {item : Reader A} → IsExact A F spell item → ReadOneWay F spell
read_one_way {A} {F} {spell} {item} exact x y a b fx fy e =
    some_pair_parts x y a b (sym (exact.again x a fx) ∙ ap item e ∙ exact.again y b fy)

pub queries_read_one_way : QueriesReadOneWay
queries_read_one_way = read_one_way query_exact

pub responses_read_one_way : ResponsesReadOneWay
responses_read_one_way = read_one_way response_exact

frames_read_one_way : {A : Type 0} {F : A → Type 0} {spell : A → List ℕ} {item : Reader A} → IsExact A F spell item → (most : ℕ) → most < 2 ^ 32
    → ReadOneWay (λ frame. Holds F frame.messages × (length (body_of spell frame) ≤ most)) (frame_of spell)
frames_read_one_way {A} {F} {spell} {item} exact most small x y a b fx fy e =
    let len_x = spelled_length (body_of spell x) a (omega (arith, fx.1)) in
    let len_y = spelled_length (body_of spell y) b (omega (arith, fy.1)) in
    let size : length (body_of spell x) ≡ length (body_of spell y) = sym len_x ∙ ap announced e ∙ len_y in
    let parts : body_of spell x ++ a ≡ body_of spell y ++ b = ap (drop 4) e in
    let bodies : body_of spell x ≡ body_of spell y =
    sym (take_at (body_of spell x) a (length (body_of spell y)) size) ∙ ap (take (length (body_of spell y))) parts ∙ take_at (body_of spell y) b (length (body_of spell y)) refl in
    let rests : a ≡ b =
    sym (drop_at (body_of spell x) a (length (body_of spell y)) size) ∙ ap (drop (length (body_of spell y))) parts ∙ drop_at (body_of spell y) b (length (body_of spell y)) refl in
    (same_done x y (sym (body_again exact x fx.0) ∙ ap (body_at item) bodies ∙ body_again exact y fy.0), rests)

pub request_frames_read_one_way : RequestFramesReadOneWay
request_frames_read_one_way x y a b fx fy e = frames_read_one_way query_exact MAX_REQUEST_BODY (omega arith) x y a b (fx.0, fx.2) (fy.0, fy.2) e

pub reply_frames_read_one_way : ReplyFramesReadOneWay
reply_frames_read_one_way = frames_read_one_way response_exact MAX_REPLY_BODY (omega arith)

-- ---- a frame stands alone

whole_size : (body rest : List ℕ) → length ((to_be_bytes w32 (length body) ++ body) ++ rest) ≡ 4 + length body + length rest
whole_size body rest = omega (arith, length-append body rest)

good_length : (frame : Frame Query) (rest : List ℕ) → RequestsFit frame → LengthFits MAX_REQUEST_BODY (announced (request_frame frame ++ rest))
good_length frame rest fits =
    let told = spelled_length (body_of query_spelling frame) rest (omega (arith, fits.2)) in
    rw told (omega arith, fits.2)

not_begun : (frame : Frame Query) (rest : List ℕ) → RequestsFit frame → ¬ IsBegun MAX_REQUEST_BODY (request_frame frame ++ rest)
not_begun frame rest fits begun =
    let told = spelled_length (body_of query_spelling frame) rest (omega (arith, fits.2)) in
    let size = whole_size (body_of query_spelling frame) rest in
    elim begun [
      | inl short ↦ omega (arith, size, short)
      | inr more ↦ omega (arith, size, told, more.1)
    ]

none_told : (version : WireVersion) → version_of (version_byte version) ≡ None → ⊥
none_told One e = cc
none_told Two e = cc
none_told Three e = cc

no_fault : (frame : Frame Query) (rest : List ℕ) → RequestsFit frame → (fault : WireFault) → ¬ FaultStands fault (request_frame frame ++ rest)
no_fault frame rest fits faults.BadLength stands = stands.1 (good_length frame rest fits)
no_fault frame rest fits faults.BadVersion stands = none_told frame.version stands.1
no_fault frame rest fits faults.BadBody stands = stands.2 frame rest fits refl
no_fault frame rest fits faults.NoMemory stands = stands

pub frame_stands_alone : FrameStandsAlone
frame_stands_alone frame rest fits = (not_begun frame rest fits, no_fault frame rest fits)

-- ---- what is spelled so is read, unless memory runs out

pub only_next : (r : Result (Option (Frame Query)) WireFault) (old new : Kept)
    → IfOk r (λ next. IfSome next (λ frame. RequestsFit frame × (old.bytes ≡ request_frame frame ++ new.bytes) × (new.fault ≡ None)))
    → IfOk r (λ next. IfNone next (IsBegun MAX_REQUEST_BODY old.bytes × (new ≡ old)))
    → IfErr r (λ fault. fault ≢ faults.NoMemory → FaultStands fault old.bytes × (new ≡ record { bytes = old.bytes; fault = Some fault }))
    → (frame : Frame Query) (rest : List ℕ) → RequestsFit frame → old.bytes ≡ request_frame frame ++ rest
    → MatchResult r (λ next. IsSomeAnd next (λ found. (found ≡ frame) × (new.bytes ≡ rest))) (λ fault. fault ≡ faults.NoMemory)
only_next (Ok (Some found)) old new whole begun fault frame rest fits e = request_frames_read_one_way found frame new.bytes rest whole.0 fits (sym whole.1 ∙ e)
only_next (Ok None) old new whole begun fault frame rest fits e = not_begun frame rest fits (subst (λ (bytes : List ℕ). IsBegun MAX_REQUEST_BODY bytes) e begun.0)
only_next (Err faults.NoMemory) old new whole begun fault frame rest fits e = refl
only_next (Err faults.BadLength) old new whole begun fault frame rest fits e = absurd (no_fault frame rest fits faults.BadLength (subst (λ (bytes : List ℕ). FaultStands faults.BadLength bytes) e (fault (λ k. cc)).0))
only_next (Err faults.BadVersion) old new whole begun fault frame rest fits e = absurd (no_fault frame rest fits faults.BadVersion (subst (λ (bytes : List ℕ). FaultStands faults.BadVersion bytes) e (fault (λ k. cc)).0))
only_next (Err faults.BadBody) old new whole begun fault frame rest fits e = absurd (no_fault frame rest fits faults.BadBody (subst (λ (bytes : List ℕ). FaultStands faults.BadBody bytes) e (fault (λ k. cc)).0))

-- ---- a fault stays

whole_stays : (bytes more : List ℕ) → IsWhole MAX_REQUEST_BODY bytes → IsWhole MAX_REQUEST_BODY (bytes ++ more)
whole_stays bytes more h =
    let told = announced_by bytes more h.0 in
    let size = length-append bytes more in
    (omega (arith, size, h.0), (omega (arith, told, h.1), omega (arith, told, h.1)), omega (arith, told, size, h.2))

version_stays : (bytes more : List ℕ) → IsWhole MAX_REQUEST_BODY bytes → get_or (bytes ++ more) 4 0 ≡ get_or bytes 4 0
version_stays bytes more h = get_or_append_left bytes more 0 4 (omega (arith, h.1, h.2))

frame_at_front : (bytes more after : List ℕ) (frame : Frame Query) → IsWhole MAX_REQUEST_BODY bytes → RequestsFit frame → bytes ++ more ≡ request_frame frame ++ after
    → bytes ≡ request_frame frame ++ drop (4 + length (body_of query_spelling frame)) bytes
frame_at_front bytes more after frame h fits e =
    let body = body_of query_spelling frame in
    let n = 4 + length body in
    let told : announced bytes ≡ length body = sym (announced_by bytes more h.0) ∙ ap announced e ∙ spelled_length body after (omega (arith, fits.2)) in
    let long : n ≤ length bytes = omega (arith, told, h.2) in
    let front : take n bytes ≡ request_frame frame = sym (take-append-le n bytes more long) ∙ ap (take n) e ∙ take_at (request_frame frame) after n (omega arith) in
    sym (take-append-drop n bytes) ∙ ap (λ (x : List ℕ). x ++ drop n bytes) front

pub fault_stays : FaultStays
fault_stays faults.NoMemory bytes more h = h
fault_stays faults.BadLength bytes more h =
    (omega (arith, length-append bytes more, h.0), λ fits. h.1 (subst (λ (n : ℕ). LengthFits MAX_REQUEST_BODY n) (announced_by bytes more h.0) fits))
fault_stays faults.BadVersion bytes more h = (whole_stays bytes more h.0, ap version_of (version_stays bytes more h.0) ∙ h.1)
fault_stays faults.BadBody bytes more h =
    (whole_stays bytes more h.0, subst (λ (byte : ℕ). IsSome (version_of byte)) (sym (version_stays bytes more h.0)) h.1, λ frame after fits e. h.2 frame (drop (4 + length (body_of query_spelling frame)) bytes) fits (frame_at_front bytes more after frame h.0 fits e))

pub whole_not_begun : (bytes : List ℕ) → IsWhole MAX_REQUEST_BODY bytes → IsBegun MAX_REQUEST_BODY bytes → ⊥
whole_not_begun bytes h begun = elim begun [ inl short ↦ omega (arith, h.0, short) | inr more ↦ omega (arith, h.2, more.1) ]

pub begun_has_no_fault : BegunHasNoFault
begun_has_no_fault faults.NoMemory bytes h begun = h
begun_has_no_fault faults.BadLength bytes h begun = elim begun [ inl short ↦ omega (arith, h.0, short) | inr more ↦ h.1 more.0 ]
begun_has_no_fault faults.BadVersion bytes h begun = whole_not_begun bytes h.0 begun
begun_has_no_fault faults.BadBody bytes h begun = whole_not_begun bytes h.0 begun
