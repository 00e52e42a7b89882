-- What the array holds once the bytes are copied to its front.
use Rattle.std.proofs.Common.{◌++◌, List, ℕ, length, drop, replicate, ap, ◌∙◌}
use Rattle.mt_slice.proofs.Slices.{first_eight-padded}
use Rattle.mt_slice.proofs.slicing.padded.Goals as goal

pub returns : goal.returns
returns c =
    ap (λ (w : List ℕ). w ++ drop (length c.args.bytes.now) (replicate 8 0)) c.copy_from_slice.ensures.after
    ∙ first_eight-padded c.args.bytes.now c.requires
