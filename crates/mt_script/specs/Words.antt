-- Words, numbers and bytes in a text.
use Rattle.std.specs.Prelude.{◌≡◌, ℕ, ◌+◌, ◌-◌, ◌*◌, ◌==◌, ◌&&◌, nat_le, if◌then◌else◌, List, [], ◌∷◌, ◌++◌, length, codes, ⊤, Option, Some, None, Result, Ok, Err}
use Rattle.std.specs.List.{slice_split}
use Rattle.std.specs.Str.{bytes_eq}
use Rattle.hex.specs.Hex.{decode_of}
use Rattle.hex.specs.declared.error.FromHexError.{FromHexError}
use Rattle.mt_script.specs.declared.fault.LineError.{LineError}
use Rattle.mt_script.specs.declared.fault.LineError.TheVariants.{Memory, Bad}

infixl 10 ◌>>=◌
abbrev pub ◌>>=◌ : {A B : Type 0} → Option A → (A → Option B) → Option B
(Some x) >>= f = f x
None >>= f = None

-- What a function returned, seen by view, is what reading gives, unless memory ran out.
abbrev pub Fails : {Y : Type 0} → LineError → Option Y → Type 0
Fails Memory read = Unit {0}
Fails Bad read = read ≡ None

abbrev pub Gives : {X Y : Type 0} → (X → Y) → Result X LineError → Option Y → Type 0
Gives view (Ok x) read = read ≡ Some (view x)
Gives view (Err e) read = Fails e read

-- what was read went to the end of a list, or why it did not
abbrev pub Pushes : {A : Type 0} → Option A → List A → List A → Result ⊤ LineError → Type 0
Pushes {A} read old new (Ok done) = (x : A) × (read ≡ Some x) × (new ≡ old ++ x ∷ [])
Pushes read old new (Err e) = Fails e read

-- what stands before the first stop, and what after it; nothing where no stop stands
abbrev pub word_at : ℕ → List ℕ → Option (List ℕ × List ℕ)
word_at stop [] = None
word_at stop (b ∷ bs) = if b == stop then Some ([], bs) else (word_at stop bs >>= λ x. Some (b ∷ x.0, x.1))

-- the same of the last stop
abbrev pub last_from : ℕ → ℕ → List ℕ → Option (List ℕ × List ℕ) → Option (List ℕ × List ℕ)
last_from stop b bs (Some x) = Some (b ∷ x.0, x.1)
last_from stop b bs None = if b == stop then Some ([], bs) else None

abbrev pub last_word_at : ℕ → List ℕ → Option (List ℕ × List ℕ)
last_word_at stop [] = None
last_word_at stop (b ∷ bs) = last_from stop b bs (last_word_at stop bs)

-- the number n, and then these decimal digits
abbrev pub digits_from : ℕ → List ℕ → Option ℕ
digits_from n [] = Some n
digits_from n (c ∷ cs) = if nat_le 48 c && nat_le c 57 then digits_from (n * 10 + (c - 48)) cs else None

abbrev pub at_most : ℕ → Option ℕ → Option ℕ
at_most most read = read >>= λ n. if nat_le n most then Some n else None

-- decimal digits, at least one, of a number that is at most this
abbrev pub number_of : ℕ → List ℕ → Option ℕ
number_of most word = if length word == 0 then None else at_most most (digits_from 0 word)

abbrev pub decoded : Result (List ℕ) FromHexError → Option (List ℕ)
decoded (Ok bytes) = Some bytes
decoded (Err e) = None

-- hex of either case, of at least one byte, or `-` for no bytes
abbrev pub bytes_of : List ℕ → Option (List ℕ)
bytes_of word = if bytes_eq word (codes "-") then Some [] else if length word == 0 then None else decoded (decode_of word)

-- each of these reads
abbrev pub each : {A : Type 0} → (List ℕ → Option A) → List (List ℕ) → Option (List A)
each f [] = Some []
each f (word ∷ words) = do
  x ← f word
  xs ← each f words
  Some (x ∷ xs)

-- the parts between stops
abbrev pub parts : ℕ → List ℕ → List (List ℕ)
parts stop text = slice_split (λ b. b == stop) text
