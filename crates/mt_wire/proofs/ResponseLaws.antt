-- Reading undoes the spelling of answers.
use Rattle.std.proofs.Common.{◌≡◌, ℕ, zero, suc, ◌+◌, ◌*◌, ◌/◌, ◌%◌, ◌^◌, ◌<◌, Bool, true, false, cond, eqb, ltb, List, [], ◌∷◌, ◌++◌, Some, None, refl, sym, ap, subst, ◌∙◌, arith}
use Rattle.std.specs.Prelude.{unwrap_or}
use Rattle.std.specs.Int.{w32, w64, to_be_bytes}
use Rattle.std.proofs.lemmas.Bool.{eqb-true}
use Rattle.mt_types.specs.declared.event.TidyRule.{TidyRule}
use Rattle.mt_types.specs.TidyNumbers.{tidy_of}
use Rattle.mt_types.proofs.NumberLaws.{refusal_back, refusal_has, tidy_back, tidy_has}
use Rattle.mt_types.specs.declared.refusal.Refusal.{Refusal}
use Rattle.mt_types.specs.declared.refusal.Refusal.TheVariants as refusals
use Rattle.mt_types.specs.declared.refusal.Refusal.TheVariants.{FeedFull, Behind, OtherVersion}
use Rattle.mt_types.specs.RefusalNumbers.{refusal_number, refusal_detail, refusal_of}
use Rattle.mt_wire.specs.declared.response.Response.{Response}
use Rattle.mt_wire.specs.declared.response.Response.TheVariants.{Refused, Done, View, Dropped, FoundAll, Server as Served}
use Rattle.mt_wire.specs.declared.server.ServerRefusal.{ServerRefusal}
use Rattle.mt_wire.specs.declared.server.ServerRefusal.TheVariants.{DiskFailed, DiskFull, InMemory, NotAllowed, TooMuchAtOnce}
use Rattle.mt_wire.specs.declared.server.Role.{Role}
use Rattle.mt_wire.specs.declared.server.Role.TheVariants.{Read, Write, All}
use Rattle.mt_wire.specs.declared.server.ServerResponse.{ServerResponse}
use Rattle.mt_wire.specs.declared.server.ServerResponse.TheVariants.{Refused as OfServer, Hello, Ping, Info, Views, Waited, Stopped}
use Rattle.mt_wire.specs.ServerNumbers.{role_number, server_refusal_detail, server_refusal_number}
use Rattle.mt_wire.specs.declared.response.End.TheVariants.{Absent, Found, Committed, Rows, Tidied, Built, Counted}
use Rattle.mt_wire.specs.Spelling.{sum_spelling, refusal_spelling, rule_spelling, span_spelling, served_spelling, response_spelling}
use Rattle.mt_wire.specs.Fits.{RefusalNumbers, ServerRefusalNumbers, ServedLengths, ServedNumbers, ResponseFits}
use Rattle.mt_wire.specs.Reading.{Reader, ◌>>=◌, both, made, byte_at, number_at, kind_at}
use Rattle.mt_wire.proofs.ResponseReading.{sum_at, refusal_rest, rule_rest, ended_rest, response_rest, zero_at, turned_rest, refused_rest, role_rest, hello_at, ping_at, info_at, views_at, waited_at, stopped_at, served_rest, span_at, absent_at, found_at, committed_at, rows_at, tidied_at, built_at, view_at, found_all_at, total_at}
use Rattle.mt_wire.proofs.ServerLaws.{TakesAt, flag_exact, kind_or}
use Rattle.mt_wire.proofs.RowLaws.{row_exact, pairs_exact, pairs_parts, pairs_whole, found_exact, rows_parts, rows_whole}
use Rattle.mt_wire.proofs.ServedLists.{count_exact, counts_parts, counts_whole, listed_exact, listed_parts, listed_whole}
use Rattle.mt_wire.proofs.Exact.{IsBytes, IsBytes-rest, Takes, IsExact, bind_some, some_is, wide32, wide64, both_exact, made_takes, made_again, made_exact, kind_exact, nothing_exact, byte_exact, number_exact, counted_exact, counted16_exact}

abbrev n64 : IsExact ℕ (λ n. n < 2 ^ 64) (λ n. to_be_bytes w64 n) (number_at w64)
n64 = number_exact w64 (2 ^ 64) wide64

abbrev sum_of : ℕ × ℕ → ℕ
sum_of x = x.0 * 2 ^ 64 + x.1

abbrev halves : ℕ → ℕ × ℕ
halves n = (n / 2 ^ 64, n % 2 ^ 64)

high_of : (high low : ℕ) → low < 2 ^ 64 → (high * 2 ^ 64 + low) / 2 ^ 64 ≡ high
high_of high low h = omega arith

low_of : (high low : ℕ) → low < 2 ^ 64 → (high * 2 ^ 64 + low) % 2 ^ 64 ≡ low
low_of high low h = omega arith

halves_fit : (n : ℕ) → n < 2 ^ 128 → (n / 2 ^ 64 < 2 ^ 64) × (n % 2 ^ 64 < 2 ^ 64)
halves_fit n h = (omega arith, omega arith)

halves_back : (n : ℕ) → n / 2 ^ 64 * 2 ^ 64 + n % 2 ^ 64 ≡ n
halves_back n = omega arith

sum_fits : (high low : ℕ) → high < 2 ^ 64 → low < 2 ^ 64 → high * 2 ^ 64 + low < 2 ^ 128
sum_fits high low h l = omega arith

sum_exact : IsExact ℕ (λ sum. sum < 2 ^ 128) sum_spelling sum_at
unfolding sum_at
sum_exact = made_exact sum_of halves sum_spelling (λ sum. sum < 2 ^ 128) (both_exact n64 n64)
    (λ x h. rw (high_of x.0 x.1 h.1, low_of x.0 x.1 h.1) refl)
    (λ x h. sum_fits x.0 x.1 h.0 h.1)
    (λ y h. halves_fit y h)
    (λ y. halves_back y)
    (λ y. refl)

-- the numbers of a refusal fit exactly if its detail, or 0, does
numbers_of : (refusal : Refusal) → unwrap_or (refusal_detail refusal) 0 < 2 ^ 64 → RefusalNumbers refusal
numbers_of (FeedFull held_from) h = h
numbers_of (Behind at) h = h
numbers_of (OtherVersion found) h = h
numbers_of _ h = tt

detail_fits : (refusal : Refusal) → RefusalNumbers refusal → unwrap_or (refusal_detail refusal) 0 < 2 ^ 64
detail_fits (FeedFull held_from) h = h
detail_fits (Behind at) h = h
detail_fits (OtherVersion found) h = h
detail_fits _ h = omega arith

refusal_takes : (kind : ℕ) (bytes : List ℕ) (y : Refusal × List ℕ) → IsBytes bytes → refusal_rest kind bytes ≡ Some y → Takes (kind ∷ bytes) (refusal_spelling y.0) y.1 × RefusalNumbers y.0
unfolding refusal_rest
refusal_takes kind bytes y fits e =
    let p = bind_some (number_at w64 bytes) (λ detail. refusal_of kind detail.0 >>= λ refusal. Some (refusal, detail.1)) y e in
    let q = bind_some (refusal_of kind p.0.0) (λ refusal. Some (refusal, p.0.1)) y p.2 in
    let t = n64.takes bytes p.0 fits p.1 in
    let has = refusal_has kind p.0.0 q.0 q.1 in
    let spelled : refusal_spelling q.0 ≡ kind ∷ to_be_bytes w64 p.0.0 = rw (has.0, has.1) refl in
    let parts : kind ∷ bytes ≡ refusal_spelling q.0 ++ p.0.1 = ap (λ (w : List ℕ). kind ∷ w) t.0.parts ∙ ap (λ (w : List ℕ). w ++ p.0.1) (sym spelled) in
    let numbers = numbers_of q.0 (subst (λ (n : ℕ). n < 2 ^ 64) (sym has.1) t.1) in
    subst (λ (z : Refusal × List ℕ). Takes (kind ∷ bytes) (refusal_spelling z.0) z.1 × RefusalNumbers z.0) (some_is (q.0, p.0.1) y q.2) (record { parts = parts; rest_fits = t.0.rest_fits }, numbers)

refusal_again : (x : Refusal) (rest : List ℕ) → RefusalNumbers x → kind_at refusal_rest (refusal_spelling x ++ rest) ≡ Some (x, rest)
unfolding kind_at byte_at refusal_rest
refusal_again x rest h = rw (n64.again (unwrap_or (refusal_detail x) 0) rest (detail_fits x h), refusal_back x) refl

refusal_exact : IsExact Refusal RefusalNumbers refusal_spelling (kind_at refusal_rest)
refusal_exact = kind_exact refusal_takes refusal_again

rule_takes : (kind : ℕ) (bytes : List ℕ) (y : TidyRule × List ℕ) → IsBytes bytes → rule_rest kind bytes ≡ Some y → Takes (kind ∷ bytes) (rule_spelling y.0) y.1 × Unit {0}
unfolding rule_rest
rule_takes kind bytes y fits e =
    let q = bind_some (tidy_of kind) (λ rule. Some (rule, bytes)) y e in
    let parts : kind ∷ bytes ≡ rule_spelling q.0 ++ bytes = ap (λ (n : ℕ). n ∷ bytes) (sym (tidy_has kind q.0 q.1)) in
    subst (λ (z : TidyRule × List ℕ). Takes (kind ∷ bytes) (rule_spelling z.0) z.1 × Unit {0}) (some_is (q.0, bytes) y q.2) (record { parts = parts; rest_fits = fits }, tt)

rule_again : (x : TidyRule) (rest : List ℕ) → Unit {0} → kind_at rule_rest (rule_spelling x ++ rest) ≡ Some (x, rest)
unfolding kind_at byte_at rule_rest
rule_again x rest h = rw (tidy_back x) refl

rule_exact : IsExact TidyRule (λ _. Unit {0}) rule_spelling (kind_at rule_rest)
rule_exact = kind_exact rule_takes rule_again

span_exact : IsExact (ℕ × ℕ) (λ x. (x.0 < 2 ^ 64) × (x.1 < 2 ^ 64)) (λ x. span_spelling x.0 x.1) span_at
span_exact = both_exact n64 n64

ended_takes : (kind : ℕ) (bytes : List ℕ) (y : Response × List ℕ) → IsBytes bytes → ended_rest kind bytes ≡ Some y → Takes (kind ∷ bytes) (response_spelling y.0) y.1 × ResponseFits y.0
unfolding ended_rest absent_at found_at committed_at rows_at tidied_at built_at view_at
ended_takes zero = λ bytes y fits e. absurd cc
ended_takes (suc zero) = made_takes (λ x. Done x.0 x.1 Absent) response_spelling ResponseFits 1 span_exact (λ x. refl) (λ x h. (tt, (h.0, h.1, tt)))
ended_takes (suc (suc zero)) = made_takes (λ x. Done x.0.0 x.0.1 (Found x.1)) response_spelling ResponseFits 2 (both_exact span_exact row_exact) (λ x. refl) (λ x h. (h.1.1, (h.0.0, h.0.1, h.1.0)))
ended_takes (suc (suc (suc zero))) = made_takes (λ x. Done x.0.0 x.0.1 (Committed x.1)) response_spelling ResponseFits 3 (both_exact span_exact n64) (λ x. refl) (λ x h. (tt, (h.0.0, h.0.1, h.1)))
ended_takes (suc (suc (suc (suc zero)))) =
    made_takes (λ x. Done x.0.0 x.0.1 (Rows x.1)) response_spelling ResponseFits 4 (both_exact span_exact pairs_exact) (λ x. refl) (λ x h. let parts = pairs_parts x.1 h.1.1 in ((h.1.0, parts.0), (h.0.0, h.0.1, parts.1)))
ended_takes (suc (suc (suc (suc (suc zero))))) = made_takes (λ x. Done x.0.0 x.0.1 (Tidied x.1)) response_spelling ResponseFits 5 (both_exact span_exact rule_exact) (λ x. refl) (λ x h. (tt, (h.0.0, h.0.1, tt)))
ended_takes (suc (suc (suc (suc (suc (suc zero)))))) =
    made_takes (λ x. Done x.0.0 x.0.1 (Built (record { 0 = x.1 }))) response_spelling ResponseFits 6 (both_exact span_exact n64) (λ x. refl) (λ x h. (tt, (h.0.0, h.0.1, h.1)))
ended_takes (suc (suc (suc (suc (suc (suc (suc zero))))))) =
    made_takes (λ x. View (record { at = x.0.0.0; count = x.0.0.1; sums = x.0.1; rows = x.1 })) response_spelling ResponseFits 7 (both_exact (both_exact (both_exact n64 n64) (counted_exact sum_exact)) pairs_exact) (λ x. refl)
    (λ x h. let parts = pairs_parts x.1 h.1.1 in ((h.0.1.0, (h.1.0, parts.0)), (h.0.0.0, h.0.0.1, h.0.1.1, parts.1)))
ended_takes (suc (suc (suc (suc (suc (suc (suc (suc zero)))))))) = made_takes (λ _. Dropped) response_spelling ResponseFits 8 nothing_exact (λ x. refl) (λ x h. (tt, tt))
ended_takes (suc (suc (suc (suc (suc (suc (suc (suc (suc kind))))))))) = λ bytes y fits e. absurd cc

-- ---- reads of one moment

n32 : IsExact ℕ (λ n. n < 2 ^ 32) (λ n. to_be_bytes w32 n) (number_at w32)
n32 = number_exact w32 (2 ^ 32) wide32

found_all_takes : TakesAt ResponseFits response_spelling 13 found_all_at
unfolding found_all_at
found_all_takes = made_takes (λ x. FoundAll x.0 x.1) response_spelling ResponseFits 13 (both_exact n64 (counted16_exact found_exact)) (λ x. refl) (λ x h. let parts = rows_parts x.1 h.1.1 in ((h.1.0, parts.0), (h.0, parts.1)))

total_takes : TakesAt ResponseFits response_spelling 14 total_at
unfolding total_at
total_takes = made_takes (λ x. Done x.0.0 x.0.1 (Counted x.1)) response_spelling ResponseFits 14 (both_exact span_exact n32) (λ x. refl) (λ x h. (tt, (h.0.0, h.0.1, h.1)))

-- ---- what a server answers

Takes-after : (n : ℕ) (bytes text rest : List ℕ) → Takes bytes text rest → Takes (n ∷ bytes) (n ∷ text) rest
Takes-after n bytes text rest t = record { parts = ap (λ (w : List ℕ). n ∷ w) t.parts; rest_fits = t.rest_fits }

zero_guard : (b : Bool) (x y : Unit {0} × List ℕ) → cond b (Some x) None ≡ Some y → (b ≡ true) × (x ≡ y)
zero_guard true x y e = (refl, cc)
zero_guard false x y e = absurd cc

zero_takes : (bytes : List ℕ) (x : Unit {0} × List ℕ) → IsBytes bytes → zero_at bytes ≡ Some x → Takes bytes (to_be_bytes w64 0) x.1 × Unit {0}
unfolding zero_at
zero_takes bytes x fits e =
    let p = bind_some (number_at w64 bytes) (λ number. cond (eqb number.0 0) (Some (tt, number.1)) None) x e in
    let g = zero_guard (eqb p.0.0 0) (tt, p.0.1) x p.2 in
    let t = n64.takes bytes p.0 fits p.1 in
    subst (λ (y : Unit {0} × List ℕ). Takes bytes (to_be_bytes w64 0) y.1 × Unit {0}) g.1 (subst (λ (n : ℕ). Takes bytes (to_be_bytes w64 n) p.0.1) (eqb-true _ _ g.0) t.0, tt)

zero_again : (x : Unit {0}) (rest : List ℕ) → Unit {0} → zero_at (to_be_bytes w64 0 ++ rest) ≡ Some (x, rest)
unfolding zero_at
zero_again x rest h = rw (n64.again 0 rest (omega arith)) refl

zero_exact : IsExact (Unit {0}) (λ _. Unit {0}) (λ _. to_be_bytes w64 0) zero_at
zero_exact = record { takes = zero_takes; again = zero_again }

abbrev server_refusal_spelling : ServerRefusal → List ℕ
server_refusal_spelling turned = server_refusal_number turned ∷ to_be_bytes w64 (server_refusal_detail turned)

no_turned : (kind : ℕ) → TakesAt ServerRefusalNumbers server_refusal_spelling kind (λ bytes. None)
no_turned kind bytes y fits e = absurd cc

abbrev turned_or : (kind n : ℕ) (here there : Reader ServerRefusal) → TakesAt ServerRefusalNumbers server_refusal_spelling n here → TakesAt ServerRefusalNumbers server_refusal_spelling kind there → TakesAt ServerRefusalNumbers server_refusal_spelling kind (cond (eqb kind n) here there)
turned_or = kind_or ServerRefusalNumbers server_refusal_spelling

turned_takes : (kind : ℕ) → TakesAt ServerRefusalNumbers server_refusal_spelling kind (turned_rest kind)
unfolding turned_rest
turned_takes kind =
    turned_or kind 19 _ _ (made_takes (λ x. DiskFailed x) server_refusal_spelling ServerRefusalNumbers 19 n64 (λ x. refl) (λ x h. h))
    (turned_or kind 20 _ _ (made_takes (λ _. DiskFull) server_refusal_spelling ServerRefusalNumbers 20 zero_exact (λ x. refl) (λ x h. tt))
    (turned_or kind 21 _ _ (made_takes (λ _. InMemory) server_refusal_spelling ServerRefusalNumbers 21 zero_exact (λ x. refl) (λ x h. tt))
    (turned_or kind 24 _ _ (made_takes (λ _. NotAllowed) server_refusal_spelling ServerRefusalNumbers 24 zero_exact (λ x. refl) (λ x h. tt))
    (turned_or kind 25 _ _ (made_takes (λ _. TooMuchAtOnce) server_refusal_spelling ServerRefusalNumbers 25 zero_exact (λ x. refl) (λ x h. tt)) (no_turned kind)))))

turned_again : (x : ServerRefusal) (rest : List ℕ) → ServerRefusalNumbers x → turned_rest (server_refusal_number x) (to_be_bytes w64 (server_refusal_detail x) ++ rest) ≡ Some (x, rest)
unfolding turned_rest
turned_again (DiskFailed durable) rest h = made_again (λ x. DiskFailed x) n64 durable rest h
turned_again DiskFull rest h = made_again (λ _. DiskFull) zero_exact tt rest tt
turned_again InMemory rest h = made_again (λ _. InMemory) zero_exact tt rest tt
turned_again NotAllowed rest h = made_again (λ _. NotAllowed) zero_exact tt rest tt
turned_again TooMuchAtOnce rest h = made_again (λ _. TooMuchAtOnce) zero_exact tt rest tt

-- a refusal, of the index or of the server
index_refused : (kind : ℕ) (bytes : List ℕ) (y : Response × List ℕ) → IsBytes bytes → made (λ x. Refused x) (refusal_rest kind) bytes ≡ Some y → Takes (0 ∷ kind ∷ bytes) (response_spelling y.0) y.1 × ResponseFits y.0
index_refused kind bytes y fits e =
    let p = bind_some (refusal_rest kind bytes) (λ x. Some (Refused x.0, x.1)) y e in
    let t = refusal_takes kind bytes p.0 fits p.1 in
    subst (λ (z : Response × List ℕ). Takes (0 ∷ kind ∷ bytes) (response_spelling z.0) z.1 × ResponseFits z.0) (some_is (Refused p.0.0, p.0.1) y p.2) (Takes-after 0 (kind ∷ bytes) (refusal_spelling p.0.0) p.0.1 t.0, (tt, t.1))

server_refused : (kind : ℕ) (bytes : List ℕ) (y : Response × List ℕ) → IsBytes bytes → made (λ x. Served (OfServer x)) (turned_rest kind) bytes ≡ Some y → Takes (0 ∷ kind ∷ bytes) (response_spelling y.0) y.1 × ResponseFits y.0
server_refused kind bytes y fits e =
    let p = bind_some (turned_rest kind bytes) (λ x. Some (Served (OfServer x.0), x.1)) y e in
    let t = turned_takes kind bytes p.0 fits p.1 in
    subst (λ (z : Response × List ℕ). Takes (0 ∷ kind ∷ bytes) (response_spelling z.0) z.1 × ResponseFits z.0) (some_is (Served (OfServer p.0.0), p.0.1) y p.2) (Takes-after 0 (kind ∷ bytes) (server_refusal_spelling p.0.0) p.0.1 t.0, (tt, t.1))

either_refused : (is_low : Bool) (kind : ℕ) (bytes : List ℕ) (y : Response × List ℕ) → IsBytes bytes → cond is_low (made (λ x. Refused x) (refusal_rest kind)) (made (λ x. Served (OfServer x)) (turned_rest kind)) bytes ≡ Some y
    → Takes (0 ∷ kind ∷ bytes) (response_spelling y.0) y.1 × ResponseFits y.0
either_refused true = index_refused
either_refused false = server_refused

refused_takes : TakesAt ResponseFits response_spelling 0 (kind_at refused_rest)
unfolding kind_at byte_at refused_rest
refused_takes [] y fits e = absurd cc
refused_takes (kind ∷ bytes) y fits e = either_refused (ltb kind 19) kind bytes y (IsBytes-rest kind bytes fits) e

-- the index's refusals have lower numbers
refusal_is_low : (refusal : Refusal) → ltb (refusal_number refusal) 19 ≡ true
refusal_is_low refusals.NoMemory = refl
refusal_is_low refusals.KeyTooLong = refl
refusal_is_low refusals.BadColumn = refl
refusal_is_low refusals.ColumnTooLong = refl
refusal_is_low refusals.BadLimit = refl
refusal_is_low refusals.ArenaFull = refl
refusal_is_low (refusals.FeedFull held_from) = refl
refusal_is_low refusals.TooManyCalls = refl
refusal_is_low refusals.NoSuchCall = refl
refusal_is_low refusals.TooManyViews = refl
refusal_is_low refusals.NoSuchView = refl
refusal_is_low (refusals.Behind at) = refl
refusal_is_low refusals.BadRange = refl
refusal_is_low refusals.Spent = refl
refusal_is_low refusals.WrongPass = refl
refusal_is_low (refusals.OtherVersion found) = refl

refused_again : (refusal : Refusal) (rest : List ℕ) → RefusalNumbers refusal → kind_at refused_rest (refusal_spelling refusal ++ rest) ≡ Some (Refused refusal, rest)
unfolding kind_at byte_at refused_rest refusal_rest
refused_again x rest h = rw (refusal_is_low x, n64.again (unwrap_or (refusal_detail x) 0) rest (detail_fits x h), refusal_back x) refl

role_takes : (kind : ℕ) (bytes : List ℕ) (y : Role × List ℕ) → IsBytes bytes → role_rest kind bytes ≡ Some y → Takes (kind ∷ bytes) (role_number y.0 ∷ []) y.1 × Unit {0}
unfolding role_rest
role_takes zero = λ bytes y fits e. absurd cc
role_takes (suc zero) = made_takes (λ _. Read) (λ r. role_number r ∷ []) (λ _. Unit {0}) 1 nothing_exact (λ x. refl) (λ x h. tt)
role_takes (suc (suc zero)) = made_takes (λ _. Write) (λ r. role_number r ∷ []) (λ _. Unit {0}) 2 nothing_exact (λ x. refl) (λ x h. tt)
role_takes (suc (suc (suc zero))) = made_takes (λ _. All) (λ r. role_number r ∷ []) (λ _. Unit {0}) 3 nothing_exact (λ x. refl) (λ x h. tt)
role_takes (suc (suc (suc (suc kind)))) = λ bytes y fits e. absurd cc

role_again : (x : Role) (rest : List ℕ) → Unit {0} → kind_at role_rest ((role_number x ∷ []) ++ rest) ≡ Some (x, rest)
unfolding kind_at byte_at role_rest
role_again Read rest h = refl
role_again Write rest h = refl
role_again All rest h = refl

role_exact : IsExact Role (λ _. Unit {0}) (λ r. role_number r ∷ []) (kind_at role_rest)
role_exact = kind_exact role_takes role_again

abbrev ServedFits : ServerResponse → Type 0
ServedFits response = ServedLengths response × ServedNumbers response

abbrev HelloFits : ((((ℕ × Role) × ℕ) × ℕ) × ℕ) × ℕ → Type 0
HelloFits x = ((((Unit {0} × Unit {0}) × Unit {0}) × (x.0.0.1 < 2 ^ 128)) × (x.0.1 < 2 ^ 64)) × (x.1 < 2 ^ 64)

abbrev hello_fields : ((((ℕ × Role) × ℕ) × ℕ) × ℕ) × ℕ → List ℕ
hello_fields x =
    (((((x.0.0.0.0.0 ∷ []) ++ (role_number x.0.0.0.0.1 ∷ [])) ++ (x.0.0.0.1 ∷ [])) ++ sum_spelling x.0.0.1) ++ to_be_bytes w64 x.0.1) ++ to_be_bytes w64 x.1

abbrev hello_parts : IsExact (((((ℕ × Role) × ℕ) × ℕ) × ℕ) × ℕ) HelloFits hello_fields (both (both (both (both (both byte_at (kind_at role_rest)) byte_at) sum_at) (number_at w64)) (number_at w64))
hello_parts = both_exact (both_exact (both_exact (both_exact (both_exact byte_exact role_exact) byte_exact) sum_exact) n64) n64

hello_takes : TakesAt ServedFits served_spelling 16 hello_at
unfolding hello_at
hello_takes = made_takes (λ x. Hello x.0.0.0.0.0 x.0.0.0.0.1 x.0.0.0.1 x.0.0.1 x.0.1 x.1) served_spelling ServedFits 16 hello_parts (λ x. refl) (λ x h. (tt, (h.0.0.1, h.0.1, h.1)))

ping_takes : TakesAt ServedFits served_spelling 17 ping_at
unfolding ping_at
ping_takes = made_takes (λ x. Ping x.0 x.1) served_spelling ServedFits 17 (both_exact n64 n64) (λ x. refl) (λ x h. (tt, h))

info_takes : TakesAt ServedFits served_spelling 18 info_at
unfolding info_at
info_takes = made_takes (λ x. Info x) served_spelling ServedFits 18 (counted16_exact count_exact) (λ x. refl) (λ x h. let parts = counts_parts x h.1 in ((h.0, parts.0), parts.1))

views_takes : TakesAt ServedFits served_spelling 19 views_at
unfolding views_at
views_takes = made_takes (λ x. Views x.0 x.1) served_spelling ServedFits 19 (both_exact n64 (counted_exact listed_exact)) (λ x. refl) (λ x h. let parts = listed_parts x.1 h.1.1 in ((h.1.0, parts.0), (h.0, parts.1)))

waited_takes : TakesAt ServedFits served_spelling 20 waited_at
unfolding waited_at
waited_takes = made_takes (λ x. Waited x.0.0 x.0.1 x.1) served_spelling ServedFits 20 (both_exact (both_exact flag_exact n64) n64) (λ x. refl) (λ x h. (tt, (h.0.1, h.1)))

stopped_takes : TakesAt ServedFits served_spelling 21 stopped_at
unfolding stopped_at
stopped_takes = made_takes (λ x. Stopped x) served_spelling ServedFits 21 n64 (λ x. refl) (λ x h. (tt, h))

not_served : (kind : ℕ) → TakesAt ServedFits served_spelling kind (λ bytes. None)
not_served kind bytes y fits e = absurd cc

served_takes : (kind : ℕ) → TakesAt ServedFits served_spelling kind (served_rest kind)
unfolding served_rest
served_takes kind =
    kind_or ServedFits served_spelling kind 16 _ _ hello_takes
    (kind_or ServedFits served_spelling kind 17 _ _ ping_takes
    (kind_or ServedFits served_spelling kind 18 _ _ info_takes
    (kind_or ServedFits served_spelling kind 19 _ _ views_takes
    (kind_or ServedFits served_spelling kind 20 _ _ waited_takes
    (kind_or ServedFits served_spelling kind 21 _ _ stopped_takes (not_served kind))))))

response_served : (kind : ℕ) → TakesAt ResponseFits response_spelling kind (made (λ x. Served x) (served_rest kind))
response_served kind bytes y fits e =
    let p = bind_some (served_rest kind bytes) (λ x. Some (Served x.0, x.1)) y e in
    let t = served_takes kind bytes p.0 fits p.1 in
    subst (λ (z : Response × List ℕ). Takes (kind ∷ bytes) (response_spelling z.0) z.1 × ResponseFits z.0) (some_is (Served p.0.0, p.0.1) y p.2) t

either_takes : (is_low : Bool) (kind : ℕ) → TakesAt ResponseFits response_spelling kind (cond is_low (ended_rest kind) (made (λ x. Served x) (served_rest kind)))
either_takes true = ended_takes
either_takes false = response_served

response_takes : (kind : ℕ) → TakesAt ResponseFits response_spelling kind (response_rest kind)
unfolding response_rest
response_takes kind =
    kind_or ResponseFits response_spelling kind 0 _ _ refused_takes
    (kind_or ResponseFits response_spelling kind 13 _ _ found_all_takes
    (kind_or ResponseFits response_spelling kind 14 _ _ total_takes (either_takes (ltb kind 16) kind)))

served_again : (kind : ℕ) (bytes : List ℕ) (x : ServerResponse) (rest : List ℕ) → served_rest kind bytes ≡ Some (x, rest) → made (λ x. Served x) (served_rest kind) bytes ≡ Some (Served x, rest)
served_again kind bytes x rest e = rw e refl

hello_again : (version : ℕ) (role : Role) (columns run commits logged : ℕ) (rest : List ℕ) → ServedFits (Hello version role columns run commits logged)
    → hello_at ((version ∷ role_number role ∷ columns ∷ (sum_spelling run ++ to_be_bytes w64 commits ++ to_be_bytes w64 logged)) ++ rest) ≡ Some (Hello version role columns run commits logged, rest)
unfolding hello_at
hello_again version role columns run commits logged rest h =
    made_again (λ x. Hello x.0.0.0.0.0 x.0.0.0.0.1 x.0.0.0.1 x.0.0.1 x.0.1 x.1) hello_parts (((((version, role), columns), run), commits), logged) rest (((((tt, tt), tt), h.1.0), h.1.1), h.1.2)

turned_served : (turned : ServerRefusal) (rest : List ℕ) → ServerRefusalNumbers turned → kind_at refused_rest (server_refusal_spelling turned ++ rest) ≡ Some (Served (OfServer turned), rest)
unfolding kind_at byte_at refused_rest
turned_served (DiskFailed durable) rest h = rw (turned_again (DiskFailed durable) rest h) refl
turned_served DiskFull rest h = rw (turned_again DiskFull rest h) refl
turned_served InMemory rest h = rw (turned_again InMemory rest h) refl
turned_served NotAllowed rest h = rw (turned_again NotAllowed rest h) refl
turned_served TooMuchAtOnce rest h = rw (turned_again TooMuchAtOnce rest h) refl

abbrev IsServedBack : ServerResponse → List ℕ → Type 0
IsServedBack (OfServer turned) rest = Unit {0}
IsServedBack response rest = kind_at served_rest (served_spelling response ++ rest) ≡ Some (response, rest)

served_back : (x : ServerResponse) (rest : List ℕ) → ServedFits x → IsServedBack x rest
unfolding kind_at byte_at served_rest ping_at info_at views_at waited_at stopped_at
served_back (OfServer turned) rest h = tt
served_back (Hello version role columns run commits logged) rest h = hello_again version role columns run commits logged rest h
served_back (Ping number commits) rest h = made_again (λ x. Ping x.0 x.1) (both_exact n64 n64) (number, commits) rest h.1
served_back (Info counts) rest h = made_again (λ x. Info x) (counted16_exact count_exact) counts rest (h.0.0, counts_whole counts h.0.1 h.1)
served_back (Views commits views) rest h = made_again (λ x. Views x.0 x.1) (both_exact n64 (counted_exact listed_exact)) (commits, views) rest (h.1.0, (h.0.0, listed_whole views h.0.1 h.1.1))
served_back (Waited is_reached commits view) rest h = made_again (λ x. Waited x.0.0 x.0.1 x.1) (both_exact (both_exact flag_exact n64) n64) ((is_reached, commits), view) rest ((tt, h.1.0), h.1.1)
served_back (Stopped commits) rest h = made_again (λ x. Stopped x) n64 commits rest h.1

response_again : (x : Response) (rest : List ℕ) → ResponseFits x → kind_at response_rest (response_spelling x ++ rest) ≡ Some (x, rest)
unfolding kind_at byte_at response_rest ended_rest absent_at found_at committed_at rows_at tidied_at built_at view_at found_all_at total_at
response_again (Refused refusal) rest h = refused_again refusal rest h.1
response_again (Done start stop Absent) rest h = made_again (λ x. Done x.0 x.1 Absent) span_exact (start, stop) rest (h.1.0, h.1.1)
response_again (Done start stop (Found row)) rest h = made_again (λ x. Done x.0.0 x.0.1 (Found x.1)) (both_exact span_exact row_exact) ((start, stop), row) rest ((h.1.0, h.1.1), (h.1.2, h.0))
response_again (Done start stop (Committed number)) rest h = made_again (λ x. Done x.0.0 x.0.1 (Committed x.1)) (both_exact span_exact n64) ((start, stop), number) rest ((h.1.0, h.1.1), h.1.2)
response_again (Done start stop (Rows pairs)) rest h =
    made_again (λ x. Done x.0.0 x.0.1 (Rows x.1)) (both_exact span_exact pairs_exact) ((start, stop), pairs) rest ((h.1.0, h.1.1), (h.0.0, pairs_whole pairs h.0.1 h.1.2))
response_again (Done start stop (Tidied rule)) rest h = made_again (λ x. Done x.0.0 x.0.1 (Tidied x.1)) (both_exact span_exact rule_exact) ((start, stop), rule) rest ((h.1.0, h.1.1), tt)
response_again (Done start stop (Built view)) rest h = made_again (λ x. Done x.0.0 x.0.1 (Built (record { 0 = x.1 }))) (both_exact span_exact n64) ((start, stop), view.0) rest ((h.1.0, h.1.1), h.1.2)
response_again (Done start stop (Counted number)) rest h = made_again (λ x. Done x.0.0 x.0.1 (Counted x.1)) (both_exact span_exact n32) ((start, stop), number) rest ((h.1.0, h.1.1), h.1.2)
response_again (View page) rest h =
    made_again (λ x. View (record { at = x.0.0.0; count = x.0.0.1; sums = x.0.1; rows = x.1 })) (both_exact (both_exact (both_exact n64 n64) (counted_exact sum_exact)) pairs_exact)
    (((page.at, page.count), page.sums), page.rows) rest (((h.1.0, h.1.1), (h.0.0, h.1.2)), (h.0.1.0, pairs_whole page.rows h.0.1.1 h.1.3))
response_again Dropped rest h = refl
response_again (FoundAll at rows) rest h = made_again (λ x. FoundAll x.0 x.1) (both_exact n64 (counted16_exact found_exact)) (at, rows) rest (h.1.0, (h.0.0, rows_whole rows h.0.1 h.1.1))
response_again (Served (OfServer turned)) rest h = turned_served turned rest h.1
response_again (Served (Hello version role columns run commits logged)) rest h = served_again 16 _ (Hello version role columns run commits logged) rest (served_back (Hello version role columns run commits logged) rest h)
response_again (Served (Ping number commits)) rest h = served_again 17 _ (Ping number commits) rest (served_back (Ping number commits) rest h)
response_again (Served (Info counts)) rest h = served_again 18 _ (Info counts) rest (served_back (Info counts) rest h)
response_again (Served (Views commits views)) rest h = served_again 19 _ (Views commits views) rest (served_back (Views commits views) rest h)
response_again (Served (Waited is_reached commits view)) rest h = served_again 20 _ (Waited is_reached commits view) rest (served_back (Waited is_reached commits view) rest h)
response_again (Served (Stopped commits)) rest h = served_again 21 _ (Stopped commits) rest (served_back (Stopped commits) rest h)

pub response_exact : IsExact Response ResponseFits response_spelling (kind_at response_rest)
response_exact = kind_exact response_takes response_again
