-- The cursor of a walk advances: into a layer, to the right neighbour, and out of a layer.
use Rattle.std.proofs.Common.{ℕ, ◌≡◌, ◌<◌, ◌≤◌, ◌+◌, ◌*◌, ◌^◌, ◌⊎◌, inl, Bool, true, false, cond, List, [], ◌∷◌, length, Some, None, refl, subst, arith}
use Rattle.mt_types.specs.declared.numbers.NodeNo.{NodeNo}
use Rattle.mt_slice.specs.Place.{Place, last, deeper, under, Precedes}
use Rattle.mt_border.specs.declared.entry.Content.TheVariants.{Link}
use Rattle.mt_border.specs.declared.entry.RightLink.{RightLink}
use Rattle.mt_chart.specs.Tree.{before_right, no_right}
use Rattle.mt_chart.specs.CursorNumber.{digit_base, digits_number, digits_above}
use Rattle.mt_tree.specs.Seen.{right_seen}
use Rattle.mt_scan.specs.Cursor.{CursorView}
use Rattle.mt_scan.specs.Onward.{last_digit, cursor_digits, HasDigits, cursor_of, all_cursors}
use Rattle.mt_scan.specs.Scan.{ScanView}
use Rattle.mt_scan.specs.declared.scan.ScanMove.TheVariants.{To, Top}
use Rattle.mt_scan.proofs.OnwardLemmas.{within_all, enters_get_on, leaves_get_on}
use Rattle.mt_walk.specs.Standing.{AreNarrow}

-- a scan with nothing taken, at a cursor
abbrev scan_at : List ℕ → Place → ScanView
scan_at prefix at = record { prefix = prefix; at = at; taken = []; limit = 0; asked = [] }

-- the place of a walk, as far as its slice says
abbrev pub coarse : ℕ → Bool → Place
coarse slice after = last slice (cond after 10 0)

digit_most : (slice : ℕ) (after : Bool) → last_digit slice (cond after 10 0) ≤ 2 * slice + 1
digit_most slice true = omega arith
digit_most slice false = omega arith

pub coarse_digits : (slice : ℕ) (after : Bool) → slice < 2 ^ 64 → HasDigits (coarse slice after)
coarse_digits slice after fits = (let most = digit_most slice after in omega (arith, most, fits), tt)

digits_under : (prefix : List ℕ) (at : Place) → AreNarrow prefix → HasDigits at → HasDigits (under prefix at)
digits_under [] at narrow digits = digits
digits_under (slice ∷ prefix) at narrow digits = digits_under prefix (deeper slice at) narrow.1 ((let fits = narrow.0 in omega (arith, fits)), digits)

pub coarse_within : (prefix : List ℕ) (slice : ℕ) (after : Bool) → AreNarrow prefix → slice < 2 ^ 64 → (places : ℕ) → cursor_of places (record { prefix = prefix; at = coarse slice after }) < all_cursors places
coarse_within prefix slice after narrow fits places = within_all places prefix (coarse slice after) (digits_under prefix (coarse slice after) narrow (coarse_digits slice after fits))

abbrev pub Gets : ℕ → CursorView → CursorView → Type 0
Gets places c d = (cursor_of places c < cursor_of places d) ⊎ ((cursor_of places c ≤ cursor_of places d) × (length d.prefix ≡ length c.prefix + 1))

-- into the layer of a link
pub enter_advances : (prefix : List ℕ) (slice : ℕ) (after : Bool) (link : ℕ) (head : NodeNo) → slice < 2 ^ 64 → Precedes (coarse slice after) (last link 10) → (places : ℕ) → length prefix < places
    → Gets places (record { prefix = prefix; at = coarse slice after }) (record { prefix = link ∷ prefix; at = coarse 0 false })
enter_advances prefix slice after link head fits before places deep =
    enters_get_on (scan_at prefix (coarse slice after)) (scan_at prefix (coarse slice after)) (scan_at (link ∷ prefix) (last 0 0)) (record { entries = []; right = None }) refl (coarse_digits slice after fits) places
    (record { layer = deep; to_right = no_right }) link (Link head) head (refl, before) refl

-- to the right neighbour
pub right_advances : (prefix : List ℕ) (slice : ℕ) (after : Bool) (right : RightLink) → slice < 2 ^ 64 → slice < right.low → (places : ℕ) → length prefix < places
    → Gets places (record { prefix = prefix; at = coarse slice after }) (record { prefix = prefix; at = coarse right.low false })
right_advances prefix slice after right fits less places deep =
    leaves_get_on (scan_at prefix (coarse slice after)) (scan_at prefix (coarse slice after)) (scan_at prefix (last right.low 0)) (record { entries = []; right = Some right }) refl (coarse_digits slice after fits) places
    (record { layer = deep; to_right = before_right {link = right_seen right} less }) (Some right) (To right.node) refl refl (λ e. absurd (cc))

digits_at : (above : List ℕ) (at : Place) → cursor_digits (under above at) ≡ digits_above above (cursor_digits at)
digits_at [] at = refl
digits_at (slice ∷ above) at = digits_at above (deeper slice at)

-- out of a layer
pub leave_advances : (above : List ℕ) (link slice : ℕ) (after : Bool) → slice < 2 ^ 64 → (places : ℕ) → length (link ∷ above) < places
    → Gets places (record { prefix = link ∷ above; at = coarse slice after }) (record { prefix = above; at = coarse link true })
leave_advances above link slice after fits places deep =
    inl (subst (λ (ds : List ℕ). cursor_of places (record { prefix = link ∷ above; at = coarse slice after }) < digits_number digit_base places ds) (digits_at above (last link 10))
    (leaves_get_on (scan_at (link ∷ above) (coarse slice after)) (scan_at (link ∷ above) (coarse slice after)) (scan_at [] (under above (last link 10))) (record { entries = []; right = None }) refl (coarse_digits slice after fits) places
    (record { layer = deep; to_right = no_right }) None Top refl refl (λ e. refl)))
