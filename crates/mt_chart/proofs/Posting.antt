-- Each step of a posting that runs alone lowers its measure.
use Rattle.std.proofs.Common.{ℕ, ◌≡◌, ◌<◌, ◌≤◌, ◌+◌, ◌*◌, List, [], ◌∷◌, arith}
use Rattle.mt_chart.specs.Posting.{Frame, waits, gives_back, cuts, rank, ranks, posting_measure, once_posted, once_left_out, AllWait, Posts, goes_down, needs_root, too_high, is_put, is_full, root_spare, root_refused, root_filled, root_named, late_has, late_refused, late_filled, late_seen, late_begins_again, has_spare, is_refused, has_unlocked, nests, is_back, ends_so, has_cut, from_head}

-- the end of a frame: those that wait keep their number, and their innermost rank falls
end_posted : (free : ℕ) (fs : List Frame) → AllWait fs → posting_measure free (once_posted fs) ≤ 64 * free + ranks fs
end_posted free [] w = omega arith
end_posted free (f ∷ fs) w = go f w.0
  where
    go : (g : Frame) → g ≡ waits → posting_measure free (cuts ∷ fs) ≤ 64 * free + (rank g + ranks fs)
    go g e = rw e (omega arith)

end_left_out : (free : ℕ) (fs : List Frame) → AllWait fs → posting_measure free (once_left_out fs) ≤ ranks fs
end_left_out free [] w = omega arith
end_left_out free (f ∷ fs) w = go f w.0
  where
    go : (g : Frame) → g ≡ waits → posting_measure free (gives_back ∷ fs) ≤ rank g + ranks fs
    go g e = rw e (omega arith)

pub posting_falls : (n m : ℕ) (f : Frame) (fs gs : List Frame) → AllWait fs → Posts n (f ∷ fs) m gs → posting_measure m gs < posting_measure n (f ∷ fs)
posting_falls n m f fs gs w (goes_down h) = omega arith
posting_falls n m f fs gs w (needs_root h) = omega arith
posting_falls n m f fs gs w too_high = omega (arith, end_left_out n fs w)
posting_falls n m f fs gs w is_put = omega (arith, end_posted n fs w)
posting_falls n m f fs gs w (is_full h) = omega arith
posting_falls n m f fs gs w root_spare = omega arith
posting_falls n m f fs gs w root_refused = omega (arith, end_left_out n fs w)
posting_falls n m f fs gs w root_filled = omega arith
posting_falls n m f fs gs w root_named = omega (arith, end_posted n fs w)
posting_falls n m f fs gs w late_has = omega arith
posting_falls n m f fs gs w late_refused = omega (arith, end_left_out n fs w)
posting_falls n m f fs gs w late_filled = omega arith
posting_falls n m f fs gs w late_seen = omega arith
posting_falls n m f fs gs w late_begins_again = omega arith
posting_falls n m f fs gs w has_spare = omega arith
posting_falls n m f fs gs w is_refused = omega arith
posting_falls n m f fs gs w has_unlocked = omega (arith, end_left_out n fs w)
posting_falls n m f fs gs w nests = omega arith
posting_falls n m f fs gs w is_back = omega arith
posting_falls n m f fs gs w ends_so = omega (arith, end_left_out n fs w)
posting_falls n m f fs gs w has_cut = omega arith
posting_falls n m f fs gs w from_head = omega arith
