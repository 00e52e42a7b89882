-- Reading undoes the spelling of queries.
use Rattle.std.proofs.Common.{◌≡◌, ℕ, zero, suc, ◌^◌, ◌<◌, Bool, true, false, cond, ltb, List, [], ◌∷◌, ◌++◌, Option, Some, None, refl, subst}
use Rattle.std.specs.List.{AllByRecursion}
use Rattle.std.specs.Int.{w16, w32, w64, to_be_bytes}
use Rattle.mt_types.specs.declared.event.Request.TheVariants.{Get, Put, PutIf, Remove, Range, Tidy, Build}
use Rattle.mt_types.specs.declared.view.ViewSpec.{ViewSpec}
use Rattle.mt_types.specs.declared.view.ViewSpec.TheVariants.{Range as RangeOf, Prefix as PrefixOf}
use Rattle.mt_types.specs.declared.view.RowTest.{RowTest}
use Rattle.mt_types.specs.declared.view.RowTest.TheVariants.{Any, Equals, AtLeast}
use Rattle.mt_wire.specs.declared.query.Query.{Query}
use Rattle.mt_wire.specs.declared.query.Query.TheVariants.{Call, ViewRead, ViewDrop, Read, Server}
use Rattle.mt_wire.specs.declared.read.ReadQuery.{ReadQuery}
use Rattle.mt_wire.specs.declared.read.ReadQuery.TheVariants as reads
use Rattle.mt_wire.specs.declared.server.ServerQuery.{ServerQuery}
use Rattle.mt_wire.specs.declared.server.ServerQuery.TheVariants as asks
use Rattle.mt_wire.specs.Spelling.{set_spelling, test_spelling, end_spelling, spec_spelling, read_spelling, query_spelling}
use Rattle.mt_wire.specs.Fits.{ShortFits, TestLengths, TestNumbers, EndLengths, SpecLengths, SpecNumbers, ReadLengths, ReadNumbers, QueryFits}
use Rattle.mt_wire.specs.Reading.{byte_at, number_at, kind_at, set_at, test_rest, end_rest, spec_rest, get_at, put_at, put_if_at, remove_at, range_at, tidy_at, build_at, view_read_at, view_drop_at, index_rest, made}
use Rattle.mt_wire.specs.ReadReading.{gets_at, range_back_at, count_at, read_rest}
use Rattle.mt_wire.specs.ServerReading.{server_rest}
use Rattle.mt_wire.specs.QueryReading.{query_rest}
use Rattle.mt_wire.proofs.ServerLaws.{TakesAt, kind_or, server_takes, server_again}
use Rattle.mt_wire.proofs.Exact.{IsBytes, Takes, IsExact, bind_some, some_is, wide16, wide32, wide64, both_exact, made_takes, made_again, kind_exact, nothing_exact, byte_exact, number_exact, key_exact, short_exact, counted_exact, counted16_exact}

abbrev n16 : IsExact ℕ (λ n. n < 2 ^ 16) (λ n. to_be_bytes w16 n) (number_at w16)
n16 = number_exact w16 (2 ^ 16) wide16

abbrev n64 : IsExact ℕ (λ n. n < 2 ^ 64) (λ n. to_be_bytes w64 n) (number_at w64)
n64 = number_exact w64 (2 ^ 64) wide64

set_exact : IsExact (ℕ × List ℕ) (λ set. Unit {0} × ShortFits set.1) set_spelling set_at
unfolding set_at
set_exact = both_exact byte_exact short_exact

-- the number of a column fits in any case
sets_lengths : (sets : List (ℕ × List ℕ)) → AllByRecursion (λ set. Unit {0} × ShortFits set.1) sets → AllByRecursion (λ set. ShortFits set.1) sets
sets_lengths [] h = tt
sets_lengths (set ∷ sets) h = (h.0.1, sets_lengths sets h.1)

sets_fit : (sets : List (ℕ × List ℕ)) → AllByRecursion (λ set. ShortFits set.1) sets → AllByRecursion (λ set. Unit {0} × ShortFits set.1) sets
sets_fit [] h = tt
sets_fit (set ∷ sets) h = ((tt, h.0), sets_fit sets h.1)

abbrev TestFits : RowTest → Type 0
TestFits test = TestLengths test × TestNumbers test

test_takes : (kind : ℕ) (bytes : List ℕ) (y : RowTest × List ℕ) → IsBytes bytes → test_rest kind bytes ≡ Some y → Takes (kind ∷ bytes) (test_spelling y.0) y.1 × TestFits y.0
unfolding test_rest
test_takes zero = made_takes (λ _. Any) test_spelling TestFits 0 nothing_exact (λ x. refl) (λ x h. (tt, tt))
test_takes (suc zero) = made_takes (λ x. Equals x.0 x.1) test_spelling TestFits 1 (both_exact byte_exact short_exact) (λ x. refl) (λ x h. (h.1, tt))
test_takes (suc (suc zero)) = made_takes (λ x. AtLeast x.0 x.1) test_spelling TestFits 2 (both_exact byte_exact n64) (λ x. refl) (λ x h. (tt, h.1))
test_takes (suc (suc (suc kind))) = λ bytes y fits e. absurd cc

test_again : (x : RowTest) (rest : List ℕ) → TestFits x → kind_at test_rest (test_spelling x ++ rest) ≡ Some (x, rest)
unfolding kind_at byte_at test_rest
test_again Any rest h = refl
test_again (Equals column bytes) rest h = made_again (λ x. Equals x.0 x.1) (both_exact byte_exact short_exact) (column, bytes) rest (tt, h.0)
test_again (AtLeast column least) rest h = made_again (λ x. AtLeast x.0 x.1) (both_exact byte_exact n64) (column, least) rest (tt, h.1)

test_exact : IsExact RowTest TestFits test_spelling (kind_at test_rest)
test_exact = kind_exact test_takes test_again

end_takes : (kind : ℕ) (bytes : List ℕ) (y : Option (List ℕ) × List ℕ) → IsBytes bytes → end_rest kind bytes ≡ Some y → Takes (kind ∷ bytes) (end_spelling y.0) y.1 × EndLengths y.0
unfolding end_rest
end_takes zero = made_takes (λ _. None) end_spelling EndLengths 0 nothing_exact (λ x. refl) (λ x h. tt)
end_takes (suc zero) = made_takes (λ x. Some x) end_spelling EndLengths 1 key_exact (λ x. refl) (λ x h. h)
end_takes (suc (suc kind)) = λ bytes y fits e. absurd cc

end_again : (x : Option (List ℕ)) (rest : List ℕ) → EndLengths x → kind_at end_rest (end_spelling x ++ rest) ≡ Some (x, rest)
unfolding kind_at byte_at end_rest
end_again None rest h = refl
end_again (Some hi) rest h = made_again (λ x. Some x) key_exact hi rest h

end_exact : IsExact (Option (List ℕ)) EndLengths end_spelling (kind_at end_rest)
end_exact = kind_exact end_takes end_again

abbrev pub SpecFits : ViewSpec → Type 0
SpecFits spec = SpecLengths spec × SpecNumbers spec

spec_takes : (kind : ℕ) (bytes : List ℕ) (y : ViewSpec × List ℕ) → IsBytes bytes → spec_rest kind bytes ≡ Some y → Takes (kind ∷ bytes) (spec_spelling y.0) y.1 × SpecFits y.0
unfolding spec_rest
spec_takes zero = made_takes (λ x. RangeOf x.0.0 x.0.1 x.1) spec_spelling SpecFits 0 (both_exact (both_exact key_exact end_exact) test_exact) (λ x. refl) (λ x h. ((h.0.0, h.0.1, h.1.0), h.1.1))
spec_takes (suc zero) = made_takes (λ x. PrefixOf x.0 x.1) spec_spelling SpecFits 1 (both_exact key_exact test_exact) (λ x. refl) (λ x h. ((h.0, h.1.0), h.1.1))
spec_takes (suc (suc kind)) = λ bytes y fits e. absurd cc

spec_again : (x : ViewSpec) (rest : List ℕ) → SpecFits x → kind_at spec_rest (spec_spelling x ++ rest) ≡ Some (x, rest)
unfolding kind_at byte_at spec_rest
spec_again (RangeOf lo hi test) rest h =
    made_again (λ x. RangeOf x.0.0 x.0.1 x.1) (both_exact (both_exact key_exact end_exact) test_exact) ((lo, hi), test) rest ((h.0.0, h.0.1), (h.0.2, h.1))
spec_again (PrefixOf key test) rest h = made_again (λ x. PrefixOf x.0 x.1) (both_exact key_exact test_exact) (key, test) rest (h.0.0, (h.0.1, h.1))

pub spec_exact : IsExact ViewSpec SpecFits spec_spelling (kind_at spec_rest)
spec_exact = kind_exact spec_takes spec_again

-- ---- reads of one moment

n32 : IsExact ℕ (λ n. n < 2 ^ 32) (λ n. to_be_bytes w32 n) (number_at w32)
n32 = number_exact w32 (2 ^ 32) wide32

abbrev ReadFits : ReadQuery → Type 0
ReadFits query = ReadLengths query × ReadNumbers query

gets_takes : TakesAt ReadFits read_spelling 13 gets_at
unfolding gets_at
gets_takes = made_takes (λ x. reads.Gets x.0 x.1) read_spelling ReadFits 13 (both_exact (counted16_exact key_exact) short_exact) (λ x. refl) (λ x h. (h, tt))

range_back_takes : TakesAt ReadFits read_spelling 14 range_back_at
unfolding range_back_at
range_back_takes = made_takes (λ x. reads.RangeBack x.0.0 x.0.1 x.1) read_spelling ReadFits 14 (both_exact (both_exact end_exact n16) short_exact) (λ x. refl) (λ x h. ((h.0.0, h.1), h.0.1))

count_takes : TakesAt ReadFits read_spelling 15 count_at
unfolding count_at
count_takes = made_takes (λ x. reads.Count x.0.0 x.0.1 x.1) read_spelling ReadFits 15 (both_exact (both_exact key_exact end_exact) n32) (λ x. refl) (λ x h. ((h.0.0, h.0.1), h.1))

no_read : (kind : ℕ) → TakesAt ReadFits read_spelling kind (λ bytes. None)
no_read kind bytes y fits e = absurd cc

read_takes : (kind : ℕ) → TakesAt ReadFits read_spelling kind (read_rest kind)
unfolding read_rest
read_takes kind =
    kind_or ReadFits read_spelling kind 13 _ _ gets_takes
    (kind_or ReadFits read_spelling kind 14 _ _ range_back_takes
    (kind_or ReadFits read_spelling kind 15 _ _ count_takes (no_read kind)))

read_again : (x : ReadQuery) (rest : List ℕ) → ReadFits x → kind_at read_rest (read_spelling x ++ rest) ≡ Some (x, rest)
unfolding kind_at byte_at read_rest gets_at range_back_at count_at
read_again (reads.Gets keys columns) rest h = made_again (λ x. reads.Gets x.0 x.1) (both_exact (counted16_exact key_exact) short_exact) (keys, columns) rest h.0
read_again (reads.RangeBack before limit columns) rest h =
    made_again (λ x. reads.RangeBack x.0.0 x.0.1 x.1) (both_exact (both_exact end_exact n16) short_exact) ((before, limit), columns) rest ((h.0.0, h.1), h.0.1)
read_again (reads.Count start stop most) rest h =
    made_again (λ x. reads.Count x.0.0 x.0.1 x.1) (both_exact (both_exact key_exact end_exact) n32) ((start, stop), most) rest ((h.0.0, h.0.1), h.1)

-- ---- queries

index_takes : (kind : ℕ) (bytes : List ℕ) (y : Query × List ℕ) → IsBytes bytes → index_rest kind bytes ≡ Some y → Takes (kind ∷ bytes) (query_spelling y.0) y.1 × QueryFits y.0
unfolding index_rest get_at put_at put_if_at remove_at range_at tidy_at build_at view_read_at view_drop_at
index_takes zero = λ bytes y fits e. absurd cc
index_takes (suc zero) = made_takes (λ x. Call (Get x.0 x.1)) query_spelling QueryFits 1 (both_exact key_exact short_exact) (λ x. refl) (λ x h. (h, tt))
index_takes (suc (suc zero)) = made_takes (λ x. Call (Put x.0 x.1)) query_spelling QueryFits 2 (both_exact key_exact (counted_exact set_exact)) (λ x. refl) (λ x h. ((h.0, (h.1.0, sets_lengths x.1 h.1.1)), tt))
index_takes (suc (suc (suc zero))) = made_takes (λ x. Call (Remove x)) query_spelling QueryFits 3 key_exact (λ x. refl) (λ x h. (h, tt))
index_takes (suc (suc (suc (suc zero)))) = made_takes (λ x. Call (Range x.0.0 x.0.1 x.1)) query_spelling QueryFits 4 (both_exact (both_exact key_exact n16) short_exact) (λ x. refl) (λ x h. ((h.0.0, h.1), h.0.1))
index_takes (suc (suc (suc (suc (suc zero))))) = made_takes (λ x. Call (Tidy x)) query_spelling QueryFits 5 key_exact (λ x. refl) (λ x h. (h, tt))
index_takes (suc (suc (suc (suc (suc (suc zero)))))) = made_takes (λ x. Call (Build x)) query_spelling QueryFits 6 spec_exact (λ x. refl) (λ x h. h)
index_takes (suc (suc (suc (suc (suc (suc (suc zero))))))) =
    made_takes (λ x. ViewRead (record { 0 = x.0.0.0 }) x.0.0.1 x.0.1 x.1) query_spelling QueryFits 7 (both_exact (both_exact (both_exact n64 n64) key_exact) n16) (λ x. refl) (λ x h. (h.0.1, (h.0.0.0, h.0.0.1, h.1)))
index_takes (suc (suc (suc (suc (suc (suc (suc (suc zero)))))))) = made_takes (λ x. ViewDrop (record { 0 = x })) query_spelling QueryFits 8 n64 (λ x. refl) (λ x h. (tt, h))
index_takes (suc (suc (suc (suc (suc (suc (suc (suc (suc zero))))))))) =
    made_takes (λ x. Call (PutIf x.0.0 x.1 x.0.1)) query_spelling QueryFits 9 (both_exact (both_exact key_exact n64) (counted_exact set_exact)) (λ x. refl) (λ x h. ((h.0.0, (h.1.0, sets_lengths x.1 h.1.1)), h.0.1))
index_takes (suc (suc (suc (suc (suc (suc (suc (suc (suc (suc kind)))))))))) = λ bytes y fits e. absurd cc

served_takes : (kind : ℕ) → TakesAt QueryFits query_spelling kind (made (λ x. Server x) (server_rest kind))
served_takes kind bytes y fits e =
    let p = bind_some (server_rest kind bytes) (λ x. Some (Server x.0, x.1)) y e in
    let t = server_takes kind bytes p.0 fits p.1 in
    subst (λ (z : Query × List ℕ). Takes (kind ∷ bytes) (query_spelling z.0) z.1 × QueryFits z.0) (some_is (Server p.0.0, p.0.1) y p.2) t

reads_takes : (kind : ℕ) → TakesAt QueryFits query_spelling kind (made (λ x. Read x) (read_rest kind))
reads_takes kind bytes y fits e =
    let p = bind_some (read_rest kind bytes) (λ x. Some (Read x.0, x.1)) y e in
    let t = read_takes kind bytes p.0 fits p.1 in
    subst (λ (z : Query × List ℕ). Takes (kind ∷ bytes) (query_spelling z.0) z.1 × QueryFits z.0) (some_is (Read p.0.0, p.0.1) y p.2) t

either_takes : (is_low is_read : Bool) (kind : ℕ)
    → TakesAt QueryFits query_spelling kind (cond is_low (index_rest kind) (cond is_read (made (λ x. Read x) (read_rest kind)) (made (λ x. Server x) (server_rest kind))))
either_takes true is_read = index_takes
either_takes false true = reads_takes
either_takes false false = served_takes

query_takes : (kind : ℕ) → TakesAt QueryFits query_spelling kind (query_rest kind)
unfolding query_rest
query_takes kind = either_takes (ltb kind 13) (ltb kind 16) kind

served_again : (kind : ℕ) (bytes : List ℕ) (x : ServerQuery) (rest : List ℕ) → server_rest kind bytes ≡ Some (x, rest) → made (λ x. Server x) (server_rest kind) bytes ≡ Some (Server x, rest)
served_again kind bytes x rest e = rw e refl

reads_again : (kind : ℕ) (bytes : List ℕ) (x : ReadQuery) (rest : List ℕ) → read_rest kind bytes ≡ Some (x, rest) → made (λ x. Read x) (read_rest kind) bytes ≡ Some (Read x, rest)
reads_again kind bytes x rest e = rw e refl

query_again : (x : Query) (rest : List ℕ) → QueryFits x → kind_at query_rest (query_spelling x ++ rest) ≡ Some (x, rest)
unfolding kind_at byte_at query_rest index_rest get_at put_at put_if_at remove_at range_at tidy_at build_at view_read_at view_drop_at
query_again (Call (Get key columns)) rest h = made_again (λ x. Call (Get x.0 x.1)) (both_exact key_exact short_exact) (key, columns) rest h.0
query_again (Call (Put key sets)) rest h = made_again (λ x. Call (Put x.0 x.1)) (both_exact key_exact (counted_exact set_exact)) (key, sets) rest (h.0.0, (h.0.1.0, sets_fit sets h.0.1.1))
query_again (Call (PutIf key sets version)) rest h =
    made_again (λ x. Call (PutIf x.0.0 x.1 x.0.1)) (both_exact (both_exact key_exact n64) (counted_exact set_exact)) ((key, version), sets) rest ((h.0.0, h.1), (h.0.1.0, sets_fit sets h.0.1.1))
query_again (Call (Remove key)) rest h = made_again (λ x. Call (Remove x)) key_exact key rest h.0
query_again (Call (Range start limit columns)) rest h = made_again (λ x. Call (Range x.0.0 x.0.1 x.1)) (both_exact (both_exact key_exact n16) short_exact) ((start, limit), columns) rest ((h.0.0, h.1), h.0.1)
query_again (Call (Tidy key)) rest h = made_again (λ x. Call (Tidy x)) key_exact key rest h.0
query_again (Call (Build spec)) rest h = made_again (λ x. Call (Build x)) spec_exact spec rest h
query_again (ViewRead view floor start limit) rest h =
    made_again (λ x. ViewRead (record { 0 = x.0.0.0 }) x.0.0.1 x.0.1 x.1) (both_exact (both_exact (both_exact n64 n64) key_exact) n16) (((view.0, floor), start), limit) rest (((h.1.0, h.1.1), h.0), h.1.2)
query_again (ViewDrop view) rest h = made_again (λ x. ViewDrop (record { 0 = x })) n64 view.0 rest h.1
query_again (Read (reads.Gets keys columns)) rest h = reads_again 13 _ (reads.Gets keys columns) rest (read_again (reads.Gets keys columns) rest h)
query_again (Read (reads.RangeBack before limit columns)) rest h = reads_again 14 _ (reads.RangeBack before limit columns) rest (read_again (reads.RangeBack before limit columns) rest h)
query_again (Read (reads.Count start stop most)) rest h = reads_again 15 _ (reads.Count start stop most) rest (read_again (reads.Count start stop most) rest h)
query_again (Server (asks.Hello newest secret name)) rest h = served_again 16 _ (asks.Hello newest secret name) rest (server_again (asks.Hello newest secret name) rest h)
query_again (Server (asks.Ping number)) rest h = served_again 17 _ (asks.Ping number) rest (server_again (asks.Ping number) rest h)
query_again (Server asks.Info) rest h = served_again 18 _ asks.Info rest (server_again asks.Info rest h)
query_again (Server asks.Views) rest h = served_again 19 _ asks.Views rest (server_again asks.Views rest h)
query_again (Server (asks.Wait of number milliseconds)) rest h = served_again 20 _ (asks.Wait of number milliseconds) rest (server_again (asks.Wait of number milliseconds) rest h)
query_again (Server (asks.Stop is_at_once)) rest h = served_again 21 _ (asks.Stop is_at_once) rest (server_again (asks.Stop is_at_once) rest h)

pub query_exact : IsExact Query QueryFits query_spelling (kind_at query_rest)
query_exact = kind_exact query_takes query_again
