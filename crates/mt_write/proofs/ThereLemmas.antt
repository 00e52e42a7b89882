-- What a put or remove has read of the border of its key, said of the border that is there.
use Rattle.std.proofs.Common.{ℕ, ◌≡◌, ◌∙◌, List, length, Option, Some, None, IsSome, true, refl, sym, ap, subst}
use Rattle.std.specs.Prelude.{IfSome, IsSomeAnd}
use Rattle.mt_types.specs.Rows.{version_of}
use Rattle.mt_types.specs.declared.row.Row.{Row}
use Rattle.mt_types.specs.declared.refusal.Refusal.{Refusal}
use Rattle.mt_slice.specs.Place.{AreBytes}
use Rattle.mt_commit.specs.Log.{LogView}
use Rattle.mt_border.specs.Border.{BorderView, row_at}
use Rattle.mt_border.specs.Order.{IsBorder}
use Rattle.mt_border.specs.declared.found.Found.{Found}
use Rattle.mt_border.specs.declared.found.Found.TheVariants.{Absent as AbsentFound, Row as RowFound, OtherSuffix}
use Rattle.mt_arena.specs.Node.{border_at}
use Rattle.mt_arena.specs.Arena.{ArenaView}
use Rattle.mt_tree.specs.Descent.{IsFoundAt, found_for, row_found}
use Rattle.mt_tree.proofs.RowLemmas.{stands_at}
use Rattle.mt_steps.specs.Entering.{ThereIsTrue}
use Rattle.mt_steps.specs.declared.entering.There.{There}
use Rattle.mt_steps.specs.declared.entering.There.TheVariants.{Absent, Full, Row as RowThere, Other}
use Rattle.mt_steps.specs.Way.{rest_of}
use Rattle.mt_write.specs.declared.writing.Write.{Write}
use Rattle.mt_steps.specs.declared.progress.Progress.TheVariants.{Moved}
use Rattle.mt_write.specs.declared.writing.Stage.{Stage}
use Rattle.mt_write.specs.declared.writing.Stage.TheVariants.{Searched}
use Rattle.mt_write.specs.Follows.{FindsNone, WriteStep}
use Rattle.mt_write.specs.Causes.{RemoveFailsBy, remove_fault, version_fault}
use Rattle.mt_steps.specs.declared.entering.Outline.{Outline}
use Rattle.mt_word.specs.declared.permutation_word.TheConstants.{SLOTS}
use Rattle.mt_write.specs.Ready.{LacksRow, NeedsNoSplit}
use Rattle.mt_slice.specs.Place.{slice_number}
use Rattle.mt_write.specs.Writing.{MayStage, there_row, HoldsSuffixRow}
use Rattle.mt_write.specs.Splitting.{IsRead}

-- what a search finds that finds this
abbrev pub found_of : There → Found
found_of (Absent place) = AbsentFound place
found_of (Full place outline) = AbsentFound place
found_of (RowThere place row) = RowFound place
found_of (Other place suffix row) = OtherSuffix place

found_told : (rest : List ℕ) (b : BorderView) (there : There) → ThereIsTrue rest there b → found_for rest b.live ≡ found_of there
found_told rest b (Absent place) told = told.0
found_told rest b (Full place outline) told = told.0
found_told rest b (RowThere place row) told = told.0
found_told rest b (Other place suffix row) told = told.0

row_told : (rest : List ℕ) (b : BorderView) (there : There) → ThereIsTrue rest there b → row_found b.live (found_for rest b.live) ≡ there_row there
row_told rest b (Absent place) told = ap (row_found b.live) told.0
row_told rest b (Full place outline) told = ap (row_found b.live) told.0
row_told rest b (RowThere place row) told = ap (row_found b.live) told.0 ∙ told.1
row_told rest b (Other place suffix row) told = ap (row_found b.live) told.0

no_row : (log : LogView) (there : There) → there_row there ≡ None → remove_fault log (found_of there) ≡ None
no_row log (Absent place) none = refl
no_row log (Full place outline) none = refl
no_row log (RowThere place row) none = absurd (let clash : ◌≡◌ {A = Option Row} (Some row) None = none in cc)
no_row log (Other place suffix row) none = refl

-- ---- what its calls ask for, before the border is known to be sound
module _ (C : ℕ) (a : ArenaView) (log : LogView) (write : Write) (there : There) (may : MayStage C a log write (Searched there)) where
  pub border_there : IsSome (border_at a.nodes write.way.node.0)
  border_there = let (b, at, told) = may.true.0 in subst (λ (o : Option BorderView). IsSome o) (sym at.named) refl

  pub locked_there : IsSomeAnd (border_at a.nodes write.way.node.0) (λ b. b.version.locked ≡ true)
  locked_there = let (b, at, told) = may.true.0 in subst (λ (o : Option BorderView). IsSomeAnd o (λ b. b.version.locked ≡ true)) (sym at.named) at.locked

  -- ---- and once it is
  module _ (b : BorderView) (named : border_at a.nodes write.way.node.0 ≡ Some b) (sound : IsBorder b) where
    told_here : ThereIsTrue (rest_of write.key write.way) there b
    told_here =
        let (x, at, told) = may.true.0 in
        let same : x ≡ b = (let both : ◌≡◌ {A = Option BorderView} (Some x) (Some b) = sym at.named ∙ named in cc) in
        subst (λ (x : BorderView). ThereIsTrue (rest_of write.key write.way) there x) same told

    at_border : (P : BorderView → Type 0) → P b → IsSomeAnd (border_at a.nodes write.way.node.0) P
    at_border P here = subst (λ (o : Option BorderView). IsSomeAnd o P) (sym named) here

    pub row_is_there : (place : ℕ) (old : Row) → there ≡ RowThere place old → IsSomeAnd (border_at a.nodes write.way.node.0) (λ x. (found_for (rest_of write.key write.way) x.live ≡ RowFound place) × (row_at place x.live ≡ Some old))
    row_is_there place old is = at_border (λ x. (found_for (rest_of write.key write.way) x.live ≡ RowFound place) × (row_at place x.live ≡ Some old))
        (subst (λ (t : There). ThereIsTrue (rest_of write.key write.way) t b) is told_here)

    pub long_is_there : (place : ℕ) (suffix : List ℕ) (old : Row) → there ≡ Other place suffix old → IsSomeAnd (border_at a.nodes write.way.node.0) (λ x. HoldsSuffixRow x place suffix old)
    long_is_there place suffix old is = at_border (λ x. HoldsSuffixRow x place suffix old)
        (slice_number (rest_of write.key write.way), (subst (λ (t : There). ThereIsTrue (rest_of write.key write.way) t b) is told_here).1)

    pub room_is_there : (place : ℕ) → there ≡ Absent place → IsSomeAnd (border_at a.nodes write.way.node.0) (λ x. NeedsNoSplit x (AbsentFound place))
    room_is_there place is = at_border (λ x. NeedsNoSplit x (AbsentFound place)) (subst (λ (t : There). ThereIsTrue (rest_of write.key write.way) t b) is told_here).1

    pub full_is_there : (place : ℕ) (outline : Outline) → there ≡ Full place outline
        → IsSomeAnd (border_at a.nodes write.way.node.0) (λ x. length x.live ≡ SLOTS) × IsSomeAnd (border_at a.nodes write.way.node.0) (λ x. found_for (rest_of write.key write.way) x.live ≡ AbsentFound place) × IsSomeAnd (border_at a.nodes write.way.node.0) (λ x. IsRead x outline)
    full_is_there place outline is =
        let (found, outlined, full, keys) = subst (λ (t : There). ThereIsTrue (rest_of write.key write.way) t b) is told_here in (
          at_border (λ x. length x.live ≡ SLOTS) full,
          at_border (λ x. found_for (rest_of write.key write.way) x.live ≡ AbsentFound place) found,
          at_border (λ x. IsRead x outline) (record { right = outlined.bounded.same; order = outlined.order; keys = keys }),
        )

    pub found_is_there : (found : Found) → found_of there ≡ found → IsSomeAnd (border_at a.nodes write.way.node.0) (λ x. found ≡ found_for (rest_of write.key write.way) x.live)
    found_is_there found is = at_border (λ x. found ≡ found_for (rest_of write.key write.way) x.live) (sym is ∙ sym (found_told (rest_of write.key write.way) b there told_here))

    pub stands_there : (found : Found) → found_of there ≡ found → IsSomeAnd (border_at a.nodes write.way.node.0) (λ x. IsFoundAt (rest_of write.key write.way) x.live found)
    stands_there found is = at_border (λ x. IsFoundAt (rest_of write.key write.way) x.live found)
        (stands_at b sound (rest_of write.key write.way) found (found_told (rest_of write.key write.way) b there told_here ∙ is))

    -- what it tells of a version that is asked for
    pub faults_there : (only : Option ℕ) (version : ℕ) (fault : Option Refusal) → version ≡ version_of (there_row there) → ((row : Option Row) → version ≡ version_of row → fault ≡ version_fault only row)
        → IsSomeAnd (border_at a.nodes write.way.node.0) (λ x. IsBorder x × (fault ≡ version_fault only (row_found x.live (found_for (rest_of write.key write.way) x.live))))
    faults_there only version fault is tells = at_border (λ x. IsBorder x × (fault ≡ version_fault only (row_found x.live (found_for (rest_of write.key write.way) x.live))))
        (sound, subst (λ (r : Option Row). fault ≡ version_fault only r) (sym (row_told (rest_of write.key write.way) b there told_here)) (tells (there_row there) is))

    -- there is no row to remove
    pub lacks_there : there_row there ≡ None → AreBytes write.key → LacksRow write.key write.way a
    lacks_there none bytes = record { b = b; named = named; bytes = bytes; sound = sound; none = row_told (rest_of write.key write.way) b there told_here ∙ none }

    pub faultless_there : there_row there ≡ None → IsSomeAnd (border_at a.nodes write.way.node.0) (λ x. RemoveFailsBy (remove_fault log (found_for (rest_of write.key write.way) x.live)) None)
    faultless_there none = at_border (λ x. RemoveFailsBy (remove_fault log (found_for (rest_of write.key write.way) x.live)) None)
        (ap (remove_fault log) (found_told (rest_of write.key write.way) b there told_here) ∙ no_row log there none)

-- what holds of a border whatever log there is, at one log
pub at_log : (border : Option BorderView) (P : LogView → BorderView → Type 0) → IsSomeAnd border (λ b. (log : LogView) → P log b) → (log : LogView) → IsSomeAnd border (P log)
at_log (Some b) P all log = all log
at_log None P all log = absurd all

-- what was made ready in one of several ways
pub readied_so : (C : ℕ) (a after x : ArenaView) (log left y : LogView) (write : Write) (there : There) (stage z : Stage) → after ≡ x → left ≡ y → stage ≡ z
    → WriteStep C a x log y write (Searched there) Moved (record write { stage = z }) → WriteStep C a after log left write (Searched there) Moved (record write { stage = stage })
readied_so C a after x log left y write there stage z tree_is log_is stage_is step =
    subst (λ (t : ArenaView). WriteStep C a t log left write (Searched there) Moved (record write { stage = stage })) (sym tree_is)
    (subst (λ (l : LogView). WriteStep C a x log l write (Searched there) Moved (record write { stage = stage })) (sym log_is)
    (subst (λ (s : Stage). WriteStep C a x log y write (Searched there) Moved (record write { stage = s })) (sym stage_is) step))

-- ---- what it has made ready, or that it finds no row
pub record MakesReady (C : ℕ) (a after : ArenaView) (log left : LogView) (write : Write) (there : There) (made : Option Stage) : Type 0 where
  pub some : IfSome made (λ stage. WriteStep C a after log left write (Searched there) Moved (record write { stage = stage }))
  pub none : made ≡ None → FindsNone C a after log left write there

pub made_so : (C : ℕ) (a after x : ArenaView) (log left y : LogView) (write : Write) (there : There) (made z : Option Stage) → after ≡ x → left ≡ y → made ≡ z → MakesReady C a x log y write there z → MakesReady C a after log left write there made
made_so C a after x log left y write there made z tree logs same ready =
    subst (λ (t : ArenaView). MakesReady C a t log left write there made) (sym tree)
    (subst (λ (l : LogView). MakesReady C a x log l write there made) (sym logs) (subst (λ (o : Option Stage). MakesReady C a x log y write there o) (sym same) ready))

-- at a full border
pub made_full : (C : ℕ) (a after : ArenaView) (log : LogView) (write : Write) (there : There) (made : Option Stage) (place : ℕ) (outline : Outline) → there ≡ Full place outline → MayStage C a log write (Searched there)
    → (MayStage C a log write (Searched (Full place outline)) → IfSome made (λ stage. WriteStep C a after log log write (Searched (Full place outline)) Moved (record write { stage = stage })))
    → (MayStage C a log write (Searched (Full place outline)) → made ≡ None → FindsNone C a after log log write (Full place outline)) → MakesReady C a after log log write there made
made_full C a after log write there made place outline is may some none =
    let here = subst (λ (t : There). MayStage C a log write (Searched t)) is may in
    subst (λ (t : There). MakesReady C a after log log write t made) (sym is) (record { some = some here; none = none here })
