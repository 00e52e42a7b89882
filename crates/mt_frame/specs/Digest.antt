-- The digest of a frame.
use Rattle.std.specs.Prelude.{ℕ, List}
use Rattle.std.specs.Int.{w64, to_be_bytes}
use Rattle.std.specs.Hash.DefaultHasher as sip

-- SipHash-1-3, with both keys 0, of the generation, the place of the frame in its file, and the content
unfoldable pub digest : ℕ → ℕ → List ℕ → ℕ
digest generation place content =
    sip.finish
    (sip.write (sip.write (sip.write sip.initial (to_be_bytes w64 generation)) (to_be_bytes w64 place)) content)
