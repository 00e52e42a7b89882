-- What is true of a call that begins.
use Rattle.std.proofs.Common.{ℕ, ◌≡◌, None, List, [], ◌∷◌, refl, sym, subst, arith}
use Rattle.mt_steps.specs.declared.reader.Reader.TheVariants.{Begins}
use Rattle.mt_tree.specs.Seen.{arena_seen}
use Rattle.mt_works.specs.declared.work.Work.TheVariants.{Get as GetWork, Range as RangeWork, Tidy as TidyWork, Build as BuildWork}
use Rattle.mt_chart.specs.Tree.{Arena}
use Rattle.mt_chart.specs.Chart.{Chart, IsTree}
use Rattle.mt_works.specs.Build.{BuildView, IsScanning}
use Rattle.mt_types.specs.Rows.{shown}
use Rattle.mt_slice.specs.Place.{place_of}
use Rattle.mt_chart.specs.ScanRun.{Stood, AllHave}
use Rattle.mt_chart.proofs.Ranges.{range_begins}
use Rattle.mt_scan.specs.Scan.{ScanView}
use Rattle.mt_steps.specs.Step.{nothing}
use Rattle.mt_steps.specs.World.{World, IsWorld, AreOfKeys}
use Rattle.mt_steps.proofs.ListStays.{keys_later}
use Rattle.mt_arena.specs.Arena.{ArenaView}
use Rattle.mt_remove.specs.declared.tidy.Tidy.{Tidy}
use Rattle.mt_remove.specs.Tidy.{tidy_held, tidy_request, NewTidyIsTrue}
use Rattle.mt_types.specs.declared.event.Request.TheVariants.{Tidy as TidyRequest}
use Rattle.mt_works.specs.Works.{IsKey, AsksForKey, IsAtStart, IsNew}
use Rattle.mt_steps.proofs.WayLemmas.{starts}
use Rattle.mt_steps.proofs.FrameLemmas.{trail_begins}

pub new_get : (C number : ℕ) (key columns : List ℕ) → IsKey key → IsNew C number (GetWork (record { key = key; columns = columns; way = record { node = record { 0 = 0 }; layer = 0 }; finding = Begins }))
new_get C number key columns is = record {
  has = refl;
  key = is;
  at_start = (refl, refl);
  opens = tt;
  true = λ a now begun w world. let way = starts a now w begun key world in (way, record { came = 0; trail = trail_begins w.chart begun 0 _ _ way.held; few = omega arith });
}

-- the rows that the tree has are those of keys
keys_now : (a : ArenaView) (now : ℕ) (w : World) → IsWorld a now w → AreOfKeys (arena_seen a ∷ [])
keys_now a now w world = keys_later a now w world [] (λ arena i. elim i [ ])

pub new_range : (C number : ℕ) (start columns : List ℕ) (limit : ℕ) (scan : ScanView) → IsKey start → scan ≡ record { prefix = []; at = place_of start; taken = []; limit = limit; asked = columns }
    → IsNew C number (RangeWork (record { start = start; limit = limit; columns = columns; scan = scan; node = record { 0 = 0 }; listing = Begins }))
new_range C number start columns limit scan key is = subst (λ (s : ScanView). IsNew C number (RangeWork (record { start = start; limit = limit; columns = columns; scan = s; node = record { 0 = 0 }; listing = Begins }))) (sym is) (record {
  has = refl;
  key = key;
  at_start = (refl, refl, refl);
  opens = tt;
  true = λ a now begun w world. record {
    bytes = key.0;
    limit = refl;
    asked = refl;
    scans = range_begins (arena_seen a) w.chart world.index.tree begun (Stood (shown columns) (arena_seen a ∷ [])) (AllHave (arena_seen a ∷ [])) (place_of start) limit;
    keys = keys_now a now w world;
    listing = tt;
  };
})

pub new_build : (C number : ℕ) (build : BuildView) → ((chart : Chart) (begun : ℕ) (arena : Arena) → IsTree arena chart → IsScanning chart begun (arena ∷ []) 0 build) → build.prefix ≡ [] → build.state.at ≡ number → build.state.columns ≡ C
    → IsNew C number (BuildWork (record { build = build; node = record { 0 = 0 }; upto = None; listing = Begins }))
new_build C number build scans prefix at columns = record {
  has = refl;
  key = tt;
  at_start = (refl, prefix, refl);
  true = λ a now begun w world. record { scans = scans w.chart begun (arena_seen a) world.index.tree; keys = keys_now a now w world; reads = tt };
  opens = (refl, at, columns);
}

pub new_tidy : (C number : ℕ) (tidy : Tidy) (key : List ℕ) → IsKey key → tidy_request tidy ≡ TidyRequest key → tidy_held tidy ≡ nothing → NewTidyIsTrue tidy → IsAtStart (TidyWork tidy) → IsNew C number (TidyWork tidy)
new_tidy C number tidy key is request has begins at_start = record { has = has; key = subst AsksForKey (sym request) is; at_start = at_start; true = λ a now begun w world. begins a now begun w world; opens = tt }
