-- Reading undoes the spelling of queries of the server.
use Rattle.std.proofs.Common.{◌≡◌, ℕ, zero, suc, ◌^◌, ◌<◌, Bool, true, false, cond, eqb, List, ◌∷◌, ◌++◌, Some, None, refl, sym, subst, inl, inr}
use Rattle.std.specs.Int.{w32, w64, to_be_bytes}
use Rattle.std.proofs.lemmas.Bool.Decides.{eqb_tells}
use Rattle.mt_wire.specs.declared.server.Awaited.{Awaited}
use Rattle.mt_wire.specs.declared.server.Awaited.TheVariants as awaits
use Rattle.mt_wire.specs.declared.server.ServerQuery.{ServerQuery}
use Rattle.mt_wire.specs.declared.server.ServerQuery.TheVariants.{Hello, Ping, Info, Views, Wait, Stop}
use Rattle.mt_wire.specs.Spelling.{flag_spelling, awaited_spelling, server_spelling}
use Rattle.mt_wire.specs.Fits.{AwaitedNumbers, ServerLengths, ServerNumbers}
use Rattle.mt_wire.specs.Reading.{Reader, byte_at, number_at, kind_at}
use Rattle.mt_wire.specs.ServerReading.{flag_rest, awaited_rest, hello_at, ping_at, wait_at, stop_at, server_rest}
use Rattle.mt_wire.proofs.Exact.{IsBytes, Takes, IsExact, wide32, wide64, both_exact, made_takes, made_again, kind_exact, nothing_exact, byte_exact, number_exact, key_exact}

abbrev n64 : IsExact ℕ (λ n. n < 2 ^ 64) (λ n. to_be_bytes w64 n) (number_at w64)
n64 = number_exact w64 (2 ^ 64) wide64

flag_takes : (kind : ℕ) (bytes : List ℕ) (y : Bool × List ℕ) → IsBytes bytes → flag_rest kind bytes ≡ Some y → Takes (kind ∷ bytes) (flag_spelling y.0) y.1 × Unit {0}
unfolding flag_rest
flag_takes zero = made_takes (λ _. false) flag_spelling (λ _. Unit {0}) 0 nothing_exact (λ x. refl) (λ x h. tt)
flag_takes (suc zero) = made_takes (λ _. true) flag_spelling (λ _. Unit {0}) 1 nothing_exact (λ x. refl) (λ x h. tt)
flag_takes (suc (suc kind)) = λ bytes y fits e. absurd cc

flag_again : (x : Bool) (rest : List ℕ) → Unit {0} → kind_at flag_rest (flag_spelling x ++ rest) ≡ Some (x, rest)
unfolding kind_at byte_at flag_rest
flag_again false rest h = refl
flag_again true rest h = refl

pub flag_exact : IsExact Bool (λ _. Unit {0}) flag_spelling (kind_at flag_rest)
flag_exact = kind_exact flag_takes flag_again

n32 : IsExact ℕ (λ n. n < 2 ^ 32) (λ n. to_be_bytes w32 n) (number_at w32)
n32 = number_exact w32 (2 ^ 32) wide32

awaited_takes : (kind : ℕ) (bytes : List ℕ) (y : Awaited × List ℕ) → IsBytes bytes → awaited_rest kind bytes ≡ Some y → Takes (kind ∷ bytes) (awaited_spelling y.0) y.1 × AwaitedNumbers y.0
unfolding awaited_rest
awaited_takes zero = made_takes (λ _. awaits.Commits) awaited_spelling AwaitedNumbers 0 nothing_exact (λ x. refl) (λ x h. tt)
awaited_takes (suc zero) = made_takes (λ x. awaits.View (record { 0 = x })) awaited_spelling AwaitedNumbers 1 n64 (λ x. refl) (λ x h. h)
awaited_takes (suc (suc zero)) = made_takes (λ _. awaits.Durable) awaited_spelling AwaitedNumbers 2 nothing_exact (λ x. refl) (λ x h. tt)
awaited_takes (suc (suc (suc kind))) = λ bytes y fits e. absurd cc

awaited_again : (x : Awaited) (rest : List ℕ) → AwaitedNumbers x → kind_at awaited_rest (awaited_spelling x ++ rest) ≡ Some (x, rest)
unfolding kind_at byte_at awaited_rest
awaited_again awaits.Commits rest h = refl
awaited_again (awaits.View view) rest h = made_again (λ x. awaits.View (record { 0 = x })) n64 view.0 rest h
awaited_again awaits.Durable rest h = refl

awaited_exact : IsExact Awaited AwaitedNumbers awaited_spelling (kind_at awaited_rest)
awaited_exact = kind_exact awaited_takes awaited_again

abbrev pub TakesAt : {B : Type 0} → (B → Type 0) → (B → List ℕ) → ℕ → Reader B → Type 0
TakesAt {B} Fits spell kind read = (bytes : List ℕ) (y : B × List ℕ) → IsBytes bytes → read bytes ≡ Some y → Takes (kind ∷ bytes) (spell y.0) y.1 × Fits y.0

-- one reader for this kind, and another for the others
pub kind_or : {B : Type 0} (Fits : B → Type 0) (spell : B → List ℕ) (kind n : ℕ) (here there : Reader B) → TakesAt Fits spell n here → TakesAt Fits spell kind there
    → TakesAt Fits spell kind (cond (eqb kind n) here there)
kind_or {B} Fits spell kind n here there one other bytes y fits e =
    elim (eqb_tells kind n) [
      | inl p ↦ subst (λ (k : ℕ). Takes (k ∷ bytes) (spell y.0) y.1 × Fits y.0) (sym p.1) (one bytes y fits (subst (λ (b : Bool). cond b here there bytes ≡ Some y) p.0 e))
      | inr p ↦ other bytes y fits (subst (λ (b : Bool). cond b here there bytes ≡ Some y) p.0 e)
    ]

abbrev pub ServerFits : ServerQuery → Type 0
ServerFits query = ServerLengths query × ServerNumbers query

hello_takes : TakesAt ServerFits server_spelling 16 hello_at
unfolding hello_at
hello_takes = made_takes (λ x. Hello x.0.0 x.0.1 x.1) server_spelling ServerFits 16 (both_exact (both_exact byte_exact key_exact) key_exact) (λ x. refl) (λ x h. ((h.0.1, h.1), tt))

ping_takes : TakesAt ServerFits server_spelling 17 ping_at
unfolding ping_at
ping_takes = made_takes (λ x. Ping x) server_spelling ServerFits 17 n64 (λ x. refl) (λ x h. (tt, h))

wait_takes : TakesAt ServerFits server_spelling 20 wait_at
unfolding wait_at
wait_takes = made_takes (λ x. Wait x.0.0 x.0.1 x.1) server_spelling ServerFits 20 (both_exact (both_exact awaited_exact n64) n32) (λ x. refl) (λ x h. (tt, (h.0.0, h.0.1, h.1)))

stop_takes : TakesAt ServerFits server_spelling 21 stop_at
unfolding stop_at
stop_takes = made_takes (λ x. Stop x) server_spelling ServerFits 21 flag_exact (λ x. refl) (λ x h. (tt, tt))

none_takes : (kind : ℕ) → TakesAt ServerFits server_spelling kind (λ bytes. None)
none_takes kind bytes y fits e = absurd cc

pub server_takes : (kind : ℕ) → TakesAt ServerFits server_spelling kind (server_rest kind)
unfolding server_rest
server_takes kind =
    kind_or ServerFits server_spelling kind 16 _ _ hello_takes
    (kind_or ServerFits server_spelling kind 17 _ _ ping_takes
    (kind_or ServerFits server_spelling kind 18 _ _ (made_takes (λ _. Info) server_spelling ServerFits 18 nothing_exact (λ x. refl) (λ x h. (tt, tt)))
    (kind_or ServerFits server_spelling kind 19 _ _ (made_takes (λ _. Views) server_spelling ServerFits 19 nothing_exact (λ x. refl) (λ x h. (tt, tt)))
    (kind_or ServerFits server_spelling kind 20 _ _ wait_takes
    (kind_or ServerFits server_spelling kind 21 _ _ stop_takes (none_takes kind))))))

pub server_again : (x : ServerQuery) (rest : List ℕ) → ServerFits x → kind_at server_rest (server_spelling x ++ rest) ≡ Some (x, rest)
unfolding kind_at byte_at server_rest hello_at ping_at wait_at stop_at
server_again (Hello newest secret name) rest h = made_again (λ x. Hello x.0.0 x.0.1 x.1) (both_exact (both_exact byte_exact key_exact) key_exact) ((newest, secret), name) rest ((tt, h.0.0), h.0.1)
server_again (Ping number) rest h = made_again (λ x. Ping x) n64 number rest h.1
server_again Info rest h = refl
server_again Views rest h = refl
server_again (Wait of number milliseconds) rest h = made_again (λ x. Wait x.0.0 x.0.1 x.1) (both_exact (both_exact awaited_exact n64) n32) ((of, number), milliseconds) rest ((h.1.0, h.1.1), h.1.2)
server_again (Stop is_at_once) rest h = made_again (λ x. Stop x) flag_exact is_at_once rest tt
