-- The steps of a build as a call: each is a quiet one of the law.
use Rattle.std.proofs.Common.{ℕ, ◌≡◌, ◌+◌, inl, List, [], ◌∷◌, Option, Some, None, IsSome, true, false, refl, sym, subst}
use Rattle.mt_types.specs.declared.refusal.Refusal.TheVariants.{NoMemory}
use Rattle.mt_commit.specs.Log.{LogView, newest}
use Rattle.mt_arena.specs.Arena.{ArenaView}
use Rattle.mt_chart.specs.Tree.{Arena}
use Rattle.mt_chart.proofs.HeldNodes.{evolves_same}
use Rattle.mt_tree.specs.Seen.{arena_seen}
use Rattle.mt_works.specs.Build.{BuildView, IsScanning}
use Rattle.mt_works.proofs.ReadLemmas.{others_keep}
use Rattle.mt_steps.specs.declared.progress.Progress.TheVariants.{Moved, Waits, Refused}
use Rattle.mt_steps.specs.declared.reader.Reader.TheVariants.{Begins}
use Rattle.mt_steps.specs.World.{World, IsWorld, AreOfKeys}
use Rattle.mt_steps.proofs.FrameLemmas.{goes_same, quiet_same}
use Rattle.mt_steps.proofs.RangeLemmas.{keys_again}
use Rattle.mt_works.specs.declared.building.Building.{Building}
use Rattle.mt_works.specs.Building.{BuildingIsTrue, BuildingLaw, ScanIsTrue, ScansOn, ScansAll, KeepsView, TakesNext, GoesOn}

-- one moment more, in which nothing changes
pub later : (w : World) (begun number : ℕ) (arena : Arena) (past : List Arena) (build : BuildView) → IsScanning w.chart begun (arena ∷ past) number build
    → IsScanning w.chart begun (arena ∷ (arena ∷ past)) number build
later w begun number arena past build = others_keep w.chart w.chart begun number arena (arena ∷ past) build (evolves_same begun w.chart)

-- of a node of which it has read nothing
pub unread_true : (a : ArenaView) (w : World) (begun number : ℕ) (past : List Arena) (build : BuildView) → AreOfKeys (arena_seen a ∷ past) → IsScanning w.chart begun (arena_seen a ∷ past) number build → ScanIsTrue build number Begins begun (arena_seen a ∷ past) a w
unread_true a w begun number past build keys scans = record { scans = later w begun number (arena_seen a) past build scans; keys = keys_again a past keys; reads = tt }

module _ (a : ArenaView) (log : LogView) (old : Building) where
  -- what is to be true of it after a step that is quiet
  abbrev Then : Building → Type 0
  Then new = (now begun moves more : ℕ) (past : List Arena) (w : World) → IsWorld a now w → BuildingIsTrue old begun moves past a w → BuildingIsTrue new begun more (arena_seen a ∷ past) a w

  pub build_moves : (new : Building) → Then new → (C : ℕ) → BuildingLaw C a log old Moved new
  build_moves new then C = record {
    steps = λ now begun moves past w world before truth. record {
      goes = goes_same now a w _ [] [] refl world (then now begun moves (moves + 1) past w world truth);
      does = (quiet_same a log, refl);
      reserved = refl;
      bounds = refl;
      blocked = inl refl;
      may = λ get. absurd (let clash : false ≡ true = get in cc);
    };
  }

  pub build_waits : (new : Building) → Then new → (C : ℕ) → BuildingLaw C a log old Waits new
  build_waits new then C = record {
    steps = λ now begun moves past w world before truth. record {
      goes = goes_same now a w _ [] [] refl world (then now begun moves 0 past w world truth);
      does = (quiet_same a log, refl);
      reserved = refl;
      bounds = refl;
      blocked = inl refl;
      may = tt;
    };
  }

  pub build_fails : (new : Building) (C : ℕ) → BuildingLaw C a log old (Refused NoMemory) new
  build_fails new C = record {
    steps = λ now begun moves past w world before truth. record {
      goes = goes_same now a w _ [] [] refl world tt;
      does = (quiet_same a log, refl, tt, tt);
      reserved = refl;
      bounds = refl;
      blocked = refl;
      may = tt;
    };
  }

-- ---- as the code has it: what it is to take isn't known before the scan's end
pub as_truth : (a : ArenaView) (old : Building) → old.upto ≡ None → (begun moves : ℕ) (past : List Arena) (w : World) → BuildingIsTrue old begun moves past a w → ScanIsTrue old.build old.node.0 old.listing begun past a w
as_truth a old scanning begun moves past w truth = subst (λ (u : Option ℕ). ScansOn u old.build old.node.0 old.listing begun past a w) scanning truth

module _ (a : ArenaView) (log : LogView) (old : Building) (scanning : old.upto ≡ None) where
  -- it scans on, and its view keeps what it is
  pub scans_on : (new : BuildView) → KeepsView old.build.state new.state → GoesOn a log old.upto old.build old.node.0 old.listing old.upto new
  scans_on new keeps = subst (λ (u : Option ℕ). GoesOn a log u old.build old.node.0 old.listing u new) (sym scanning) keeps

  pub has_scanned : (upto : ℕ) (new : BuildView) → upto ≡ newest log → KeepsView old.build.state new.state → ScansAll a old.build old.node.0 old.listing new → GoesOn a log old.upto old.build old.node.0 old.listing (Some upto) new
  has_scanned upto new is keeps all = subst (λ (u : Option ℕ). GoesOn a log u old.build old.node.0 old.listing (Some upto) new) (sym scanning) (is, keeps, all)

-- ---- while it takes deltas
module _ (a : ArenaView) (log : LogView) (old : Building) (upto : ℕ) (scanned : old.upto ≡ Some upto) where
  pub take_moves : (view : BuildView) (C : ℕ) → BuildingLaw C a log old Moved (record { build = view; node = old.node; upto = old.upto; listing = old.listing })
  take_moves view C = build_moves a log old (record { build = view; node = old.node; upto = old.upto; listing = old.listing })
      (λ now begun moves more past w world truth. subst (λ (u : Option ℕ). ScansOn u view old.node.0 old.listing begun (arena_seen a ∷ past) a w) (sym scanned) tt) C

  pub takes : (new : BuildView) → TakesNext log old.build.state new.state → GoesOn a log old.upto old.build old.node.0 old.listing old.upto new
  takes new next = subst (λ (u : Option ℕ). GoesOn a log u old.build old.node.0 old.listing u new) (sym scanned) (refl, next)

-- a number that is known is one
pub is_scanned : (upto : Option ℕ) → IsSome upto → (number : ℕ) × (upto ≡ Some number)
is_scanned (Some number) some = (number, refl)
is_scanned None some = absurd (let clash : false ≡ true = some in cc)
