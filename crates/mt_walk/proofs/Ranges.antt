-- A range is a walk with a limit: what its loop keeps, and why its pairs are the right answer.
use Rattle.std.proofs.Common.{ℕ, ◌≡◌, ◌<◌, ◌≤◌, ◌+◌, ◌⊎◌, inl, inr, List, [], ◌∷◌, ◌++◌, length, map, Some, None, refl, sym, ap, subst, ◌∙◌, arith}
use Rattle.std.proofs.lemmas.List.{map-append, length-append, length-map}
use Rattle.mt_types.specs.Rows.{shown}
use Rattle.mt_types.specs.declared.row.Row.{Row}
use Rattle.mt_types.specs.declared.event.Answer.TheVariants.{Rows}
use Rattle.mt_types.specs.declared.event.Request.TheVariants.{Range}
use Rattle.mt_slice.specs.Place.{Place, Precedes, AreBytes, place_of}
use Rattle.mt_arena.specs.Arena.{ArenaView}
use Rattle.mt_chart.specs.Tree.{Arena, Has}
use Rattle.mt_chart.specs.Scan.{AtMost, Pair, Rising, UpTo, Listed, AnswersRange}
use Rattle.mt_chart.specs.ScanRun.{Stood, AllHave}
use Rattle.mt_chart.specs.KeyAnswer.{as_places, KeysAreBytes}
use Rattle.mt_chart.proofs.ScanLemmas.{of_keys}
use Rattle.mt_scan.proofs.TakenLemmas.{as_places-append, bytes-push}
use Rattle.mt_tree.specs.Seen.{arena_seen}
use Rattle.mt_tree.proofs.SeenLemmas.{among_map, among_unmap}
use Rattle.mt_steps.specs.Lone.{IsRightNow}
use Rattle.mt_walk.specs.Walk.{WalkAt, from, behind, NoneToCome, IsNextPair, GivesAll, IsEnough, WalkView, stands_at, GivesRow}
use Rattle.mt_walk.specs.Standing.{HasOne, IsWalk}
use Rattle.mt_walk.specs.Steps.{Begins, StandsOn}
use Rattle.mt_walk.proofs.WalkLemmas.{walk_answers}

-- one pair more
pub gives_more : (arena : Arena) (at now : WalkAt) (pairs : List (Pair Row)) (pair : Pair Row) (then : WalkAt) → GivesAll arena at pairs now → IsNextPair arena now pair → then ≡ behind pair.key → GivesAll arena at (pairs ++ pair ∷ []) then
gives_more arena at now [] pair then same next is = (subst (λ (w : WalkAt). IsNextPair arena w pair) same next, is)
gives_more arena at now (p ∷ ps) pair then (here, rest) next is = (here, gives_more arena (behind p.key) now ps pair then rest next is)

-- ---- with the columns that are asked for
module _ (show : Row → Row) (arena : Arena) where
  abbrev pub as_shown : Pair Row → Pair Row
  as_shown pair = record { key = pair.key; value = show pair.value }

  length_shown : (pairs : List (Pair Row)) → length (map as_shown pairs) ≡ length pairs
  length_shown pairs = length-map pairs as_shown

  shown_rise : (pairs : List (Pair Row)) → Rising pairs → Rising (map as_shown pairs)
  shown_rise [] rises = tt
  shown_rise (pair ∷ pairs) rises = (
    λ other i. (let s = among_unmap as_shown other pairs i in subst (λ (p : Pair Row). Precedes pair.key p.key) s.is (rises.0 s.source s.stands)),
    shown_rise pairs rises.1,
  )

  shown_up_to : (key : Place) (pairs : List (Pair Row)) → UpTo key (map as_shown pairs) → UpTo key pairs
  shown_up_to key pairs (pair, i, most) = let s = among_unmap as_shown pair pairs i in (s.source, s.stands, subst (λ (p : Pair Row). AtMost key p.key) (sym s.is) most)

  shown_listed : (key : Place) (pairs : List (Pair Row)) → Listed key pairs → Listed key (map as_shown pairs)
  shown_listed key pairs (pair, i, is) = (as_shown pair, among_map as_shown pair pairs i, is)

  pub shown_answers : (start : Place) (limit : ℕ) (pairs : List (Pair Row)) → AnswersRange (λ key row. Has arena key row) (HasOne arena) start limit pairs → AnswersRange (Stood show (arena ∷ [])) (AllHave (arena ∷ [])) start limit (map as_shown pairs)
  shown_answers start limit pairs answers = record {
    rises = shown_rise pairs answers.rises;
    from_start = λ pair i. (let s = among_unmap as_shown pair pairs i in subst (λ (p : Pair Row). AtMost start p.key) s.is (answers.from_start s.source s.stands));
    few = (let few = answers.few in omega (arith, few, length_shown pairs));
    shown = λ pair i. (let s = among_unmap as_shown pair pairs i in subst (λ (p : Pair Row). Stood show (arena ∷ []) p.key p.value) s.is (inl (s.source.value, answers.shown s.source s.stands, refl)));
    complete = λ key most had until. shown_listed key pairs (answers.complete key most had.0 (reach key until));
  }
    where
      reach : (key : Place) → (length (map as_shown pairs) < limit) ⊎ UpTo key (map as_shown pairs) → (length pairs < limit) ⊎ UpTo key pairs
      reach key (inl less) = inl (omega (arith, less, length_shown pairs))
      reach key (inr up) = inr (shown_up_to key pairs up)

-- ---- the loop
-- it has the pairs that the walk has given, with the columns that are asked for
pub record IsRanging (a : ArenaView) (start asked : List ℕ) (walk : WalkView) (pairs : List (List ℕ × Row)) (many : ℕ) : Type 0 where
  pub stands : IsWalk walk
  pub tree : walk.tree ≡ a
  pub given : List (Pair Row)
  pub gives : GivesAll (arena_seen a) (from (place_of start)) given (stands_at walk)
  pub shows : as_places pairs ≡ map (as_shown (shown asked) (arena_seen a)) given
  pub bytes : KeysAreBytes pairs
  pub count : length given ≡ many

pub ranging_begins : (a : ArenaView) (start asked : List ℕ) (walk : WalkView) (pairs : List (List ℕ × Row)) → Begins a start walk → pairs ≡ [] → IsRanging a start asked walk pairs 0
ranging_begins a start asked walk pairs begins none = subst (λ (ps : List (List ℕ × Row)). IsRanging a start asked walk ps 0) (sym none) (record {
  stands = begins.stands;
  tree = begins.tree;
  given = [];
  gives = begins.at_start;
  shows = refl;
  bytes = tt;
  count = refl;
})

pub ranging_goes : (a : ArenaView) (start asked : List ℕ) (walk new : WalkView) (pairs after : List (List ℕ × Row)) (many : ℕ) (row : Row) (key : List ℕ) → IsRanging a start asked walk pairs many → StandsOn walk new → GivesRow walk (Some row) new
    → key ≡ new.key → after ≡ pairs ++ (key, shown asked row) ∷ [] → IsRanging a start asked new after (many + 1)
ranging_goes a start asked walk new pairs after many row key s on (next, is) key_is after_is = subst (λ (ps : List (List ℕ × Row)). IsRanging a start asked new ps (many + 1)) (sym after_is)
    (subst (λ (k : List ℕ). IsRanging a start asked new (pairs ++ (k, shown asked row) ∷ []) (many + 1)) (sym key_is) (record {
      stands = on.stands;
      tree = on.tree ∙ s.tree;
      given = s.given ++ pair ∷ [];
      gives = gives_more (arena_seen a) (from (place_of start)) (stands_at walk) s.given pair (stands_at new) s.gives (subst (λ (t : ArenaView). IsNextPair (arena_seen t) (stands_at walk) pair) s.tree next) is;
      shows =
          as_places-append pairs ((new.key, shown asked row) ∷ [])
          ∙ ap (λ (ps : List (Pair Row)). ps ++ as_shown (shown asked) (arena_seen a) pair ∷ []) s.shows
          ∙ sym (map-append (as_shown (shown asked) (arena_seen a)) s.given (pair ∷ []));
      bytes = bytes-push pairs (new.key, shown asked row) s.bytes on.stands.bytes;
      count = length-append s.given (pair ∷ []) ∙ ap (λ (n : ℕ). n + 1) s.count;
    }))
  where
    pair : Pair Row
    pair = record { key = place_of new.key; value = row }

-- ---- its end
ranging_answers : (a : ArenaView) (start asked : List ℕ) (walk : WalkView) (pairs : List (List ℕ × Row)) (many limit : ℕ) → IsRanging a start asked walk pairs many → AreBytes start → many ≤ limit
    → (many ≡ limit) ⊎ NoneToCome (arena_seen a) (stands_at walk) → IsRightNow a (Range start limit asked) (Rows pairs)
ranging_answers a start asked walk pairs many limit s bytes few enough = record {
  bytes = s.bytes;
  answers = of_keys (shown asked) (arena_seen a ∷ []) start limit pairs bytes s.bytes
      (subst (λ (ps : List (Pair Row)). AnswersRange (Stood (shown asked) (arena_seen a ∷ [])) (AllHave (arena_seen a ∷ [])) (place_of start) limit ps) (sym s.shows)
      (shown_answers (shown asked) (arena_seen a) (place_of start) limit s.given
      (walk_answers (arena_seen a) (place_of start) limit s.given (stands_at walk) s.gives (omega (arith, few, s.count)) (is_enough enough))));
}
  where
    is_enough : (many ≡ limit) ⊎ NoneToCome (arena_seen a) (stands_at walk) → IsEnough (arena_seen a) limit s.given (stands_at walk)
    is_enough (inl full) = inl (s.count ∙ full)
    is_enough (inr none) = inr none

-- none is to come
pub ranging_ends : (a : ArenaView) (start asked : List ℕ) (walk new : WalkView) (pairs : List (List ℕ × Row)) (many limit : ℕ) → IsRanging a start asked walk pairs many → AreBytes start → many ≤ limit
    → GivesRow walk None new → IsRightNow a (Range start limit asked) (Rows pairs)
ranging_ends a start asked walk new pairs many limit s bytes few (none, same) =
    ranging_answers a start asked walk pairs many limit s bytes few (inr (subst (λ (t : ArenaView). NoneToCome (arena_seen t) (stands_at walk)) s.tree none))

-- there are as many as were asked for
pub ranging_fills : (a : ArenaView) (start asked : List ℕ) (walk : WalkView) (pairs : List (List ℕ × Row)) (many limit : ℕ) → IsRanging a start asked walk pairs many → AreBytes start → many ≡ limit → IsRightNow a (Range start limit asked) (Rows pairs)
ranging_fills a start asked walk pairs many limit s bytes full = ranging_answers a start asked walk pairs many limit s bytes (omega (arith, full)) (inl full)
