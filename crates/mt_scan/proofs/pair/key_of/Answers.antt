use Rattle.std.proofs.Common.{◌≡◌, ◌++◌, length, Err, ap, sym, ◌∙◌, subst, arith}
use Rattle.mt_slice.specs.Place.{AreBytes, place_of, bytes_of_place}
use Rattle.mt_tree.specs.Seen.{entry_place}
use Rattle.mt_scan.proofs.PairLemmas.{is_held_key}
use Rattle.mt_scan.proofs.pair.key_of.Goals as goal
use Rattle.mt_scan.proofs.pair.key_of.Goals.{In_ok-from_vec}

-- the bytes are those of the key that the entry holds
built : (c : In_ok-from_vec) → c.in_ok-from_vec.field-0 ≡ c.requires.key.key
built c =
    is_held_key c.args.above.now c.args.entry.now c.in_ok-from_vec.field-0 c.requires.key
    (c.in_ok-from_vec.ensures.ok ∙ c.in_ok-push_entry.ensures ∙ ap (λ bytes. bytes ++ bytes_of_place (entry_place c.args.entry.now)) c.in_ok-bytes.ensures)

pub unreachable-requires : goal.unreachable-requires
unreachable-requires c =
    let fits = c.requires.key.fits in
    let same = ap length (built (goal.at.unreachable-requires c).In_ok-from_vec) in
    let more = c.in-Err.ensures.refused.0 (ap Err c.in-Err.ensures.only) in
    omega (arith, fits, same, more)

pub returns-clause-place : goal.returns-clause-place
returns-clause-place c = ap place_of (c.in-Ok.ensures.kept ∙ built (goal.at.returns-clause-place c).In_ok-from_vec) ∙ c.requires.key.place

pub returns-clause-bytes : goal.returns-clause-bytes
returns-clause-bytes c = subst AreBytes (sym (c.in-Ok.ensures.kept ∙ built (goal.at.returns-clause-bytes c).In_ok-from_vec)) c.requires.key.bytes
