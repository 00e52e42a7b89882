-- An event that commits nothing, begins and ends no call and changes no view leaves what is true of the machine.
use Rattle.std.proofs.Common.{ℕ, ◌≡◌, ◌≤◌, inl, List, ◌∷◌, ◌++◌, length, Some, sym, ap, subst, ◌∙◌, arith, drop, map}
use Rattle.std.specs.FinMap.{get, len}
use Rattle.std.specs.Prelude.{min, count_by}
use Rattle.mt_types.specs.Rows.{Rows, after}
use Rattle.mt_types.specs.Numbers.{least}
use Rattle.mt_types.specs.declared.row.Row.{Row}
use Rattle.mt_types.specs.declared.row.Change.{Change}
use Rattle.mt_promise.specs.History.{History, Happening, OpenCall, StandingView, moment, rows}
use Rattle.mt_promise.specs.Legal.{MayHappen, is_build, held_from}
use Rattle.mt_slice.specs.Place.{AreBytes, place_of}
use Rattle.mt_commit.specs.Log.{LogView, kept_after}
use Rattle.mt_commit.specs.Laws.{times_held}
use Rattle.mt_commit.specs.Logged.{deltas_of}
use Rattle.mt_arena.specs.Arena.{ArenaView}
use Rattle.mt_chart.specs.Steps.{SameContent}
use Rattle.mt_tree.specs.Seen.{arena_seen}
use Rattle.mt_steps.specs.World.{World, IsWorld}
use Rattle.mt_works.specs.Works.{held}
use Rattle.mt_view.specs.Views.{ViewsView}
use Rattle.mt_index.specs.declared.calls.Call.{Call}
use Rattle.mt_index.specs.Calls.{CallsView}
use Rattle.mt_index.specs.Paired.{Paired}
use Rattle.mt_index.specs.Stands.{MachineView, AllOwned, CallStands, HasRowsOf, Stands, holding}
use Rattle.mt_index.proofs.LogStands.{froms, was_later}
use Rattle.mt_index.proofs.PairedLemmas.{paired-above}
use Rattle.mt_index.proofs.PastLemmas.{past_later}
use Rattle.mt_index.proofs.Reading.{reads_still}
use Rattle.mt_index.proofs.ViewStands.{all_exact_still}

abbrev pub seen : ℕ → ℕ → ArenaView → LogView → CallsView → ViewsView → MachineView
seen C epoch a log calls views = record { columns = C; epoch = epoch; tree = a; log = log; calls = calls; views = views }

-- what is true of a call stays true, in this epoch or a later one
pub call_since : (s : MachineView) (h : History) (x : Happening) (w : World) (now : ℕ) → s.epoch ≤ now → (moment (x ∷ h)).commits ≡ (moment h).commits → (k : ℕ × Call) (c : OpenCall) → CallStands s.columns s.epoch s.tree w h k c → CallStands s.columns now s.tree w (x ∷ h) k c
call_since s h x w now later commits k c r = record {
  pass = r.pass;
  request = r.request;
  from = r.from;
  began = let b = r.began in omega (arith, b);
  epoch = let e = r.epoch in omega (arith, e, later);
  committed = r.committed;
  blocked = was_later c.began x h (held k.1.work).blocked r.blocked;
  past = r.past;
  passed = past_later s.columns c.began c.from x h (arena_seen s.tree ∷ r.past) commits r.passed;
  true = r.true;
  reads = reads_still s.columns (moment h) (moment (x ∷ h)) (inl commits) c.from k.1.work r.reads;
}

pub call_later : (s : MachineView) (h : History) (x : Happening) (w : World) → (moment (x ∷ h)).commits ≡ (moment h).commits → (k : ℕ × Call) (c : OpenCall) → CallStands s.columns s.epoch s.tree w h k c → CallStands s.columns s.epoch s.tree w (x ∷ h) k c
call_later s h x w commits k c r = call_since s h x w s.epoch (omega arith) commits k c r

pub all_since : (s : MachineView) (h : History) (x : Happening) (st : Stands s h) (now : ℕ) → s.epoch ≤ now → (moment (x ∷ h)).commits ≡ (moment h).commits → Paired (CallStands s.columns now s.tree st.w (x ∷ h)) 0 s.calls.begun s.calls.calls (moment h).calls
all_since s h x st now later commits =
    paired-above 0 (CallStands s.columns s.epoch s.tree st.w h) (CallStands s.columns now s.tree st.w (x ∷ h)) 0 s.calls.begun s.calls.calls (moment h).calls
    (λ k c i ne r. call_since s h x st.w now later commits k c r) (omega arith) st.calls

pub all_later : (s : MachineView) (h : History) (x : Happening) (st : Stands s h) → (moment (x ∷ h)).commits ≡ (moment h).commits → Paired (CallStands s.columns s.epoch s.tree st.w (x ∷ h)) 0 s.calls.begun s.calls.calls (moment h).calls
all_later s h x st commits = all_since s h x st s.epoch (omega arith) commits

-- the tree has the rows of the history, if its content is the same as before
pub rows_still : (s : MachineView) (h : History) (x : Happening) (st : Stands s h) (tree : ArenaView) → SameContent (arena_seen s.tree) (arena_seen tree) → (moment (x ∷ h)).commits ≡ (moment h).commits → HasRowsOf s.columns tree (x ∷ h)
rows_still s h x st tree same commits key bytes row =
    let alike : rows s.columns (moment (x ∷ h)) ≡ rows s.columns (moment h) = ap (λ (cs : List Change). after s.columns cs) commits in (
      (λ has. ap (λ (rs : Rows). get rs key) alike ∙ (st.content key bytes row).0 ((same (place_of key) row).0 has)),
      (λ e. (same (place_of key) row).1 ((st.content key bytes row).1 (sym (ap (λ (rs : Rows). get rs key) alike) ∙ e))),
    )

pub keys_later : (s : MachineView) (h : History) (x : Happening) (st : Stands s h) → (moment (x ∷ h)).commits ≡ (moment h).commits → (key : List ℕ) (row : Row) → get (rows s.columns (moment (x ∷ h))) key ≡ Some row → AreBytes key
keys_later s h x st commits key row is = st.keys key row (sym (ap (λ (cs : List Change). get (after s.columns cs) key) commits) ∙ is)

-- the machine is then in this epoch, with this tree, in this world
module _ (s : MachineView) (h : History) (x : Happening) (st : Stands s h) (now : ℕ) (tree : ArenaView) (w : World) (may : MayHappen s.columns h x.event x.outcome x.opens) (commits : (moment (x ∷ h)).commits ≡ (moment h).commits)
    (begun : (moment (x ∷ h)).begun ≡ (moment h).begun) (calls : (moment (x ∷ h)).calls ≡ (moment h).calls) (views : (moment (x ∷ h)).views ≡ (moment h).views) (built : (moment (x ∷ h)).built ≡ (moment h).built) (epoch : now ≡ (moment (x ∷ h)).epoch) where
  same_holding : holding (moment h) ≡ holding (moment (x ∷ h))
  same_holding = ap (λ (vs : List StandingView). map (λ (v : StandingView). v.at) vs ++ froms (moment h).calls) (sym views) ∙ ap (λ (cs : List OpenCall). map (λ (v : StandingView). v.at) (moment (x ∷ h)).views ++ froms cs) (sym calls)

  same_bound : min (held_from (moment h)) (kept_after s.log (length (moment h).commits)) ≡ min (held_from (moment (x ∷ h))) (kept_after s.log (length (moment (x ∷ h)).commits))
  same_bound =
      ap (λ (l : List ℕ). min (least (length (moment h).commits) l) (kept_after s.log (length (moment h).commits))) same_holding
      ∙ ap (λ (cs : List Change). min (least (length cs) (holding (moment (x ∷ h)))) (kept_after s.log (length cs))) (sym commits)

  pub quiet_stands : IsWorld tree now w → SameContent (arena_seen s.tree) (arena_seen tree) → Paired (CallStands s.columns now tree w (x ∷ h)) 0 s.calls.begun s.calls.calls (moment h).calls → AllOwned tree w s.calls.calls → Stands (seen s.columns now tree s.log s.calls s.views) (x ∷ h)
  quiet_stands world same related owned = record {
    legal = (st.legal, may);
    few = st.few;
    commits = st.commits ∙ ap length (sym commits);
    begun = st.begun ∙ sym begun;
    epoch = epoch;
    in_order = st.in_order;
    w = w;
    world = world;
    content = rows_still s h x st tree same commits;
    keys = keys_later s h x st commits;
    logged = st.logged ∙ ap (λ (cs : List Change). drop s.log.held_after (deltas_of s.columns cs)) (sym commits);
    trimmed = st.trimmed ∙ same_bound;
    counted = st.counted ∙ ap (λ (cs : List Change). len (after s.columns cs)) (sym commits);
    held = λ number. st.held number ∙ ap (times_held number) same_holding;
    views = record {
      built = st.views.built ∙ sym built;
      standing = views ∙ st.views.standing;
      exact = all_exact_still s.columns (moment h) (moment (x ∷ h)) (inl commits) s.views.views st.views.exact;
      rises = st.views.rises;
      building = st.views.building ∙ ap (count_by (λ (call : OpenCall). is_build call.request)) (sym calls);
      few = st.views.few;
    };
    calls = subst (λ cs. Paired (CallStands s.columns now tree w (x ∷ h)) 0 s.calls.begun s.calls.calls cs) (sym calls) related;
    apart = st.apart;
    owned = owned;
    reserved = st.reserved;
  }

-- an event that changes nothing
pub same_stands : (s : MachineView) (h : History) (x : Happening) → Stands s h → MayHappen s.columns h x.event x.outcome x.opens → (moment (x ∷ h)).commits ≡ (moment h).commits → (moment (x ∷ h)).begun ≡ (moment h).begun → (moment (x ∷ h)).calls ≡ (moment h).calls → (moment (x ∷ h)).views ≡ (moment h).views → (moment (x ∷ h)).built ≡ (moment h).built → (moment (x ∷ h)).epoch ≡ (moment h).epoch
    → Stands s (x ∷ h)
same_stands s h x st may commits begun calls views built epoch =
    quiet_stands s h x st s.epoch s.tree st.w may commits begun calls views built (st.epoch ∙ sym epoch) st.world (λ place row. ((λ has. has), (λ has. has))) (all_later s h x st commits) st.owned
