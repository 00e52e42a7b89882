-- The entry of a key, and a tree in which its row is another one, or none.
use Rattle.std.proofs.Common.{◌≡◌, ◌≢◌, ◌≤◌, ℕ, Bool, true, false, List, [], length, Option, Some, None, IsSome, refl, sym, ap, subst, ◌∙◌, inl, inr}
use Rattle.std.specs.Prelude.{IsSomeAnd}
use Rattle.std.proofs.lemmas.Option.{slice_get_within}
use Rattle.mt_types.specs.declared.row.Row.{Row}
use Rattle.mt_slice.specs.Place.{AreBytes, place_of, under}
use Rattle.mt_slice.proofs.Canonical.{same_from_place_of}
use Rattle.mt_word.specs.Version.{VersionView}
use Rattle.mt_arena.specs.Arena.{ArenaView, with_border_changed}
use Rattle.mt_arena.specs.Node.{border_at, node_at}
use Rattle.mt_arena.specs.declared.node.Node.{Node}
use Rattle.mt_arena.proofs.NodeLemmas.{node-from_border}
use Rattle.mt_border.specs.Border.{BorderView, with_hidden, with_value}
use Rattle.mt_border.specs.Order.{IsBorder}
use Rattle.mt_border.proofs.BorderLemmas.{unlocked_written}
use Rattle.mt_border.specs.declared.entry.Entry.{Entry}
use Rattle.mt_border.specs.declared.found.Found.{Found}
use Rattle.mt_border.specs.declared.found.Found.TheVariants.{Absent, Row as RowFound, OtherSuffix, Link as LinkFound}
use Rattle.mt_border.specs.declared.unwritten.Unwritten.TheVariants.{Nothing}
use Rattle.mt_chart.specs.Tree.{Among}
use Rattle.mt_tree.specs.Seen.{entry_place}
use Rattle.mt_tree.specs.Keeping.{IsOnIn, IsIndexAt}
use Rattle.mt_tree.specs.Descent.{found_for, row_found, HasRowOf}
use Rattle.mt_tree.specs.BorderSteps.{HasRowAt, HidesRowAt, SetsRowAt}
use Rattle.mt_tree.proofs.AgeLemmas.{ages_hidden, ages_value}
use Rattle.mt_tree.proofs.RowLemmas.{stands_at}
use Rattle.mt_steps.specs.World.{World, IsWorld, IsLocked, RowsAreOfKeys, Goes}
use Rattle.mt_steps.specs.Lone.{IsLoneTree}
use Rattle.mt_steps.specs.Step.{RowIs}
use Rattle.mt_steps.specs.Way.{Finds, IsAtPlace, Visits, prefix_of, rest_of, start}
use Rattle.mt_steps.specs.declared.way.Way.{Way}
use Rattle.mt_steps.specs.declared.way.Went.TheVariants.{To}
use Rattle.mt_types.specs.declared.limits.TheConstants.{MAX_KEY_BYTES}
use Rattle.mt_steps.proofs.WayLemmas.{starts}
use Rattle.mt_steps.proofs.LoneRow.{IsSought}
use Rattle.mt_steps.proofs.LoneWay.{way_moves, starts_on}
use Rattle.mt_steps.proofs.AgingLemmas.{AgesAt}
use Rattle.mt_steps.proofs.BorderLemmas.{alive_changed, goes_border, on_kept, unlocked_root}
use Rattle.mt_steps.proofs.FoundLemmas.{row_read}
use Rattle.mt_steps.proofs.GetLemmas.{found_is_row, tells_here}
use Rattle.mt_undo.specs.Taking.{IsEntryOf, IsTakenBack}

-- ---- what is found
pub found_at : (a : ArenaView) (key : List ℕ) (way : Way) (now : ℕ) (w : World) (b : BorderView) (found : Found) → IsWorld a now w → IsAtPlace a key way w → AreBytes key → border_at a.nodes way.node.0 ≡ Some b → IsBorder b
    → found ≡ found_for (rest_of key way) b.live → RowIs a key (row_found b.live found)
found_at a key way now w b found world at bytes named sound searched =
    found_is_row a key way now w (rest_of key way) found b refl named searched (tells_here a way (rest_of key way) b named sound key bytes refl found searched) world at

pub searched_at : (a : ArenaView) (key : List ℕ) (way : Way) (b : BorderView) (found : Found) → Finds a key way found → border_at a.nodes way.node.0 ≡ Some b → found ≡ found_for (rest_of key way) b.live
searched_at a key way b found finds named =
    let same : finds.border ≡ b = (let both : ◌≡◌ {A = Option BorderView} (Some finds.border) (Some b) = sym finds.named ∙ named in cc) in
    finds.is ∙ ap (λ (x : BorderView). found_for (rest_of key way) x.live) same

only_rows : (live : List Entry) (found : Found) (row : Row) → ((place : ℕ) → found ≡ RowFound place → ⊥) → row_found live found ≡ Some row → ⊥
only_rows live (RowFound place) row none is = none place refl
only_rows live (Absent place) row none is = cc
only_rows live (OtherSuffix place) row none is = cc
only_rows live (LinkFound place top) row none is = cc

-- a key that has a row is found by its row
pub found_row : (a : ArenaView) (key : List ℕ) (live : List Entry) (found : Found) → (row : Row) × RowIs a key (Some row) → RowIs a key (row_found live found) → ((place : ℕ) → found ≡ RowFound place → ⊥) → ⊥
found_row a key live found (row, has) is none = only_rows live found row none ((is row).0 ((has row).1 refl))

-- ---- the way to a key, in the world that the caller knows of
abbrev pub IsSoughtIn : (a : ArenaView) → IsLoneTree a → List ℕ → Way → Type 0
IsSoughtIn a lone key way = (s : IsSought a key way) × (s.lone ≡ lone)

pub sought_begins_in : (a : ArenaView) (key : List ℕ) (lone : IsLoneTree a) → AreBytes key → length key ≤ MAX_KEY_BYTES → IsSoughtIn a lone key start
sought_begins_in a key lone bytes fits = (
  record {
    lone = lone;
    bytes = bytes;
    fits = fits;
    on = starts a lone.now lone.w 0 key lone.world;
    there = starts_on a lone.now lone.w key lone.world;
  },
  refl,
)

pub sought_goes_in : (a : ArenaView) (key : List ℕ) (lone : IsLoneTree a) (way next : Way) → IsSoughtIn a lone key way → Visits a key way (To next) → IsSoughtIn a lone key next
sought_goes_in a key lone way next (s, same) visits =
    let goes = visits.goes s.lone.now s.lone.w 0 s.lone.world s.on in
    let (there, falls) = way_moves a s.lone.now 0 s.lone.w key way next s.lone.world s.bytes s.fits s.on s.there goes in
    (record { lone = s.lone; bytes = s.bytes; fits = s.fits; on = goes.0; there = there }, same)

-- ---- the entry of a key
module _ (a : ArenaView) (key : List ℕ) (n place : ℕ) (e : IsEntryOf a key n place) where
  abbrev pub prefix : List ℕ
  prefix = prefix_of key e.way

  abbrev pub b : BorderView
  b = e.border

  pub named : border_at a.nodes n ≡ Some b
  named = ap (border_at a.nodes) e.number_is ∙ e.named

  same : e.at.here.border ≡ b
  same = let both : ◌≡◌ {A = Option BorderView} (Some e.at.here.border) (Some b) = sym e.at.here.named ∙ e.named in cc

  pub own : HasRowOf (rest_of key e.way) b.live place
  own = stands_at b e.sound (rest_of key e.way) (RowFound place) (sym e.found)

  pub place_is : under prefix (entry_place own.entry) ≡ place_of key
  place_is = ap (under prefix) own.of_rest ∙ sym e.at.layer.under

  chart_is : e.lone.w.chart n ≡ e.lone.w.chart e.way.node.0
  chart_is = ap e.lone.w.chart e.number_is

  pub on_in : IsOnIn e.lone.w.chart n prefix
  on_in = record { low = _; posted = e.at.here.stands.stands.posted; place = chart_is ∙ e.at.here.stands.stands.place }

  is_locked : b.version.locked ≡ true → IsLocked (node_at a.nodes n)
  is_locked locked = subst (λ (x : Option Node). IsLocked x) (sym (node-from_border a.nodes n b named)) locked

  pub unlocked : b.version.locked ≡ false
  unlocked = elim b.version.locked as (λ (l : Bool). b.version.locked ≡ l → b.version.locked ≡ false) [
    | true ↦ λ is. absurd (e.lone.free n (inl (is_locked is)))
    | false ↦ λ is. is
  ] refl

  pub alive : b.version.deleted ≡ false
  alive = subst (λ (x : BorderView). x.version.deleted ≡ false) same e.at.alive

  -- what a change of this border leaves, that keeps its version
  module _ (change : BorderView → BorderView) (version : (change b).version ≡ b.version) (ages : AgesAt None e.lone.w e.lone.w.chart n b (change b))
      (index : IsIndexAt (with_border_changed a n change) e.lone.now e.lone.w.twins e.lone.w.chart) (keys : RowsAreOfKeys (with_border_changed a n change)) where
    none_owned : (other : ℕ) → Among other [] → ⊥
    none_owned other i = elim i [ ]

    still_unlocked : (change b).version.locked ≡ false
    still_unlocked = subst (λ (v : VersionView). v.locked ≡ false) (sym version) unlocked

    goes : Goes e.lone.now a (with_border_changed a n change) e.lone.w [] [] (λ (x : World). Unit {0})
    goes = goes_border a n b change named e.lone.now e.lone.w [] [] (λ (x : World). Unit {0}) e.lone.world ages index keys
        (λ other taken out. absurd (e.lone.free other taken)) (λ other i. absurd (none_owned other i)) (λ other apart i. i)
        (λ either. elim either [
          | inl locked ↦ absurd (let clash : false ≡ true = sym still_unlocked ∙ locked in cc)
          | inr unknown ↦ absurd (let clash = sym unknown ∙ on_in.place in cc)
        ]) (
          on_kept a e.lone.now e.lone.w.chart n _ prefix _ on_in.posted on_in.place e.lone.world.retired,
          (λ i. absurd (unlocked_root a e.lone.w.closing e.lone.w.chart n b named unlocked e.lone.world.heads i)),
          alive_changed a n b change named e.lone.w.chart (inr (subst (λ (v : VersionView). v.deleted ≡ false) (sym version) alive)),
        )
        tt

    pub lone_changed : IsLoneTree (with_border_changed a n change)
    lone_changed = record {
      now = e.lone.now;
      w = goes.next;
      world = goes.world;
      free = λ number taken. elim (goes.takes number taken) [
        | inl i ↦ none_owned number i
        | inr old ↦ e.lone.free number old.0
      ];
    }

  pub written : b.unwritten ≡ Nothing
  written = unlocked_written b e.sound unlocked

  pub written_there : IsSomeAnd (border_at a.nodes n) (λ (x : BorderView). x.unwritten ≡ Nothing)
  written_there = subst (λ (o : Option BorderView). IsSomeAnd o (λ (x : BorderView). x.unwritten ≡ Nothing)) (sym named) written

  pub row_there : IsSomeAnd (border_at a.nodes n) (λ (x : BorderView). HasRowAt x place)
  row_there = subst (λ (o : Option BorderView). IsSomeAnd o (λ (x : BorderView). HasRowAt x place)) (sym named)
      (record { within = slice_get_within b.live place own.entry own.stands; row = subst (λ (o : Option Row). IsSome o) (sym (row_read place b.live own.entry own.stands)) own.row })

  -- another key is at another place
  pub other_place : (other : List ℕ) → AreBytes other → other ≢ key → place_of other ≢ under prefix (entry_place own.entry)
  other_place other bytes apart is = apart (same_from_place_of other key bytes e.bytes (is ∙ place_is))

  -- ---- the row is hidden
  module _ (hides : HidesRowAt a (with_border_changed a n (λ (x : BorderView). with_hidden x place)) n place) where
    pub hidden_back : IsTakenBack a key None e.lone.now (with_border_changed a n (λ (x : BorderView). with_hidden x place))
    unfolding lone_changed
    hidden_back =
        let removes = (hides.hides b own.entry named own.stands).removes e.lone.now e.lone.w.twins e.lone.w.chart prefix e.lone.world.index on_in in
        record {
          lone = lone_changed (λ (x : BorderView). with_hidden x place) refl (λ known. (ages_hidden b place written, inr refl)) removes.0
              (record { key_of = λ at row has. e.lone.world.keys.key_of at row ((removes.1 at row).0 has).0 });
          same_now = refl;
          own = λ row. ((λ has. absurd (((removes.1 (place_of key) row).0 has).1 (sym place_is))), (λ none. absurd (let clash : ◌≡◌ {A = Option Row} None (Some row) = none in cc)));
          others = λ other bytes apart row. ((λ has. ((removes.1 (place_of other) row).0 has).0), (λ has. (removes.1 (place_of other) row).1 (has, other_place other bytes apart)));
        }

  -- ---- the row is another one
  module _ (before : Row) (sets : SetsRowAt a (with_border_changed a n (λ (x : BorderView). with_value x place before)) n place before) where
    pub set_back : IsTakenBack a key (Some before) e.lone.now (with_border_changed a n (λ (x : BorderView). with_value x place before))
    unfolding lone_changed
    set_back =
        let replaces = (sets.sets b own.entry named own.stands).replaces e.lone.now e.lone.w.twins e.lone.w.chart prefix e.lone.world.index on_in in
        record {
          lone = lone_changed (λ (x : BorderView). with_value x place before) refl (λ known. (ages_value b e.sound place (slice_get_within b.live place own.entry own.stands) before, inr refl)) replaces.0
              (record {
                key_of = λ at row has. elim ((replaces.1 at row).0 has) [
                  | inl new ↦ record { key = key; bytes = e.bytes; fits = e.fits; is = sym (new.0 ∙ place_is) }
                  | inr old ↦ e.lone.world.keys.key_of at row old.0
                ];
              });
          same_now = refl;
          own = λ row. (
            (λ has. elim ((replaces.1 (place_of key) row).0 has) [
              | inl new ↦ ap Some (sym new.1)
              | inr old ↦ absurd (old.1 (sym place_is))
            ]),
            (λ is. (replaces.1 (place_of key) row).1 (inl (sym place_is, (let same : row ≡ before = cc in same)))),
          );
          others = λ other bytes apart row. (
            (λ has. elim ((replaces.1 (place_of other) row).0 has) [
              | inl new ↦ absurd (other_place other bytes apart new.0)
              | inr old ↦ old.0
            ]),
            (λ has. (replaces.1 (place_of other) row).1 (inr (has, other_place other bytes apart))),
          );
        }
