-- The begin of a walk in a border: what is before the rest of a key, and what is not.
use Rattle.std.proofs.Common.{ℕ, ◌≡◌, ◌≢◌, ◌<◌, ◌≤◌, ◌+◌, ◌⊎◌, inl, inr, List, [], ◌∷◌, ◌++◌, length, take, drop, slice_get, Some, refl, sym, ap, subst, ◌∙◌, arith}
use Rattle.std.proofs.lemmas.Bool.{cases_lt}
use Rattle.std.proofs.lemmas.List.{take_more, map-append}
use Rattle.std.proofs.lemmas.Option.{slice_get_within, get_or_from_slice_get}
use Rattle.mt_chart.proofs.Entries.{among_append, among_cases}
use Rattle.std.specs.declared.cmp.Ordering.TheVariants.{Less}
use Rattle.mt_types.specs.Keys.{key_cmp}
use Rattle.mt_slice.specs.Place.{Place, deeper, Precedes, AreBytes, first_slice, place_of, slice_number}
use Rattle.mt_slice.proofs.KeyOrder.{place_cmp-place_of}
use Rattle.mt_slice.proofs.PlaceOn.{place_of-short, place_of-long}
use Rattle.mt_slice.proofs.PlaceOrder.{place_cmp-Less}
use Rattle.mt_slice.proofs.Slices.{bytes-drop}
use Rattle.mt_border.specs.declared.entry.Entry.{Entry}
use Rattle.mt_chart.specs.Tree.{PlainEntry, Among}
use Rattle.mt_chart.specs.Scan.{AtMost}
use Rattle.mt_scan.proofs.StepLemmas.{not_less}
use Rattle.mt_tree.specs.Seen.{entry_seen, entries_seen}
use Rattle.mt_walk.specs.Start.{IsPassed, BeginsAt}

module _ (rest : List ℕ) where
  -- the slice of its place
  pub first_of_rest : first_slice (place_of rest) ≡ slice_number rest
  first_of_rest = elim (cases_lt 8 (length rest)) [
    | inl more ↦ ap first_slice (place_of-long rest more)
    | inr few ↦ ap first_slice (place_of-short rest (omega (arith, few)))
  ]

  -- ---- a suffix
  module _ (suffix : List ℕ) where
    pub less_long : 8 < length rest → AreBytes suffix → AreBytes rest → key_cmp suffix (drop 8 rest) ≡ Less → Precedes (deeper (slice_number rest) (place_of suffix)) (place_of rest)
    less_long more bytes rest_bytes less =
        subst (λ (p : Place). Precedes (deeper (slice_number rest) (place_of suffix)) p) (sym (place_of-long rest more))
        (inr (refl, (place_cmp-Less (place_of suffix) (place_of (drop 8 rest))).0 (place_cmp-place_of suffix (drop 8 rest) bytes (bytes-drop 8 rest rest_bytes) ∙ less)))

    pub more_long : 8 < length rest → AreBytes suffix → AreBytes rest → key_cmp suffix (drop 8 rest) ≢ Less → AtMost (place_of rest) (deeper (slice_number rest) (place_of suffix))
    more_long more bytes rest_bytes other =
        subst (λ (p : Place). AtMost p (deeper (slice_number rest) (place_of suffix))) (sym (place_of-long rest more))
        (deep (not_less (place_of suffix) (place_of (drop 8 rest)) (λ e. other (sym (place_cmp-place_of suffix (drop 8 rest) bytes (bytes-drop 8 rest rest_bytes)) ∙ e))))
      where
        deep : AtMost (place_of (drop 8 rest)) (place_of suffix) → AtMost (deeper (slice_number rest) (place_of (drop 8 rest))) (deeper (slice_number rest) (place_of suffix))
        deep (inl same) = inl (ap (λ (p : Place). deeper (slice_number rest) p) same)
        deep (inr before) = inr (inr (refl, before))

    pub more_short : length rest ≤ 8 → AtMost (place_of rest) (deeper (slice_number rest) (place_of suffix))
    more_short few = subst (λ (p : Place). AtMost p (deeper (slice_number rest) (place_of suffix))) (sym (place_of-short rest few)) (inr (inr (refl, omega (arith, few))))

-- ---- the entries before a place
-- all before it are passed
abbrev pub ArePassed : List Entry → Place → ℕ → Type 0
ArePassed live at place = (e : PlainEntry) → Among e (entries_seen (take place live)) → IsPassed at e

pub one_more_passed : (live : List Entry) (at : Place) (place : ℕ) (entry : Entry) → slice_get live place ≡ Some entry → IsPassed at (entry_seen entry) → ArePassed live at place → ArePassed live at (place + 1)
one_more_passed live at place entry there passed all e i = go ((among_append e (entries_seen (take place live)) (entry_seen entry ∷ [])).0 (subst (λ (es : List PlainEntry). Among e es) more i))
  where
    more : entries_seen (take (place + 1) live) ≡ entries_seen (take place live) ++ entry_seen entry ∷ []
    more =
        ap entries_seen (take_more live place entry (slice_get_within live place entry there) ∙ ap (λ (x : Entry). take place live ++ x ∷ []) (get_or_from_slice_get live place entry entry there))
        ∙ map-append entry_seen (take place live) (entry ∷ [])

    go : Among e (entries_seen (take place live)) ⊎ Among e (entry_seen entry ∷ []) → IsPassed at e
    go (inl j) = all e j
    go (inr j) = elim (among_cases e (entry_seen entry) [] j) [
      | inl same ↦ subst (λ (x : PlainEntry). IsPassed at x) (sym same) passed
      | inr none ↦ elim none [ ]
    ]

pub begins_behind : (live : List Entry) (at : Place) (place : ℕ) → place ≡ length live → ArePassed live at place → BeginsAt live at place
begins_behind live at place is passed = record {
  within = omega (arith, is);
  passed = passed;
  left = λ other there. absurd (let less = slice_get_within live place other there in omega (arith, is, less));
}
