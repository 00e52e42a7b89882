-- A text is read byte by byte.
use Rattle.std.proofs.Common.{◌≡◌, ℕ, Bool, List, [], ◌∷◌, ◌++◌, Option, Some, None, refl, sym, ap, ◌∙◌, append_assoc}
use Rattle.mt_frame.specs.declared.fault.ReadError.{ReadError}
use Rattle.mt_frame.specs.declared.fault.ReadError.TheVariants as errors
use Rattle.mt_frame.specs.Reading.{before, unescaped, with_byte, Fails}

pub before_byte : (front : List ℕ) (byte : ℕ) (read : Option (List ℕ)) → before front (with_byte byte read) ≡ before (front ++ byte ∷ []) read
before_byte front byte None = refl
before_byte front byte (Some bytes) = ap (λ (l : List ℕ). Some l) (sym (append_assoc front (byte ∷ []) bytes))

pub before_none : (read : Option (List ℕ)) → before [] read ≡ read
before_none None = refl
before_none (Some bytes) = refl

pub ends : (e : ReadError) (front text : List ℕ) (is_escape : Bool) (total : Option (List ℕ)) → Fails e (unescaped is_escape text) → before front (unescaped is_escape text) ≡ total → Fails e total
ends errors.NoMemory front text is_escape total fails so_far = tt
ends errors.Misspelled front text is_escape total fails so_far = sym so_far ∙ ap (before front) fails
