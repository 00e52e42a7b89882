-- The next epoch, and a collection: each leads from a machine at a history to a machine at the next one.
use Rattle.std.proofs.Common.{ℕ, ◌≡◌, ◌≤◌, ◌<◌, ◌+◌, inl, inr, List, [], ◌∷◌, take, drop, Some, refl, sym, ap, subst, ◌∙◌, arith}
use Rattle.std.specs.Prelude.{All}
use Rattle.std.proofs.lemmas.List.Elements.{All-drop, All-nil, All-weaker}
use Rattle.mt_types.specs.Numbers.{greatest_number}
use Rattle.mt_types.specs.declared.event.Event.TheVariants.{Advance, Collect}
use Rattle.mt_types.specs.declared.event.Outcome.{Outcome}
use Rattle.mt_types.specs.declared.event.Outcome.TheVariants.{Epoch, Freed, Refused}
use Rattle.mt_types.specs.declared.refusal.Refusal.TheVariants.{Spent}
use Rattle.mt_promise.specs.History.{History, Happening, OpenCall, happening, moment}
use Rattle.mt_promise.specs.Legal.{MayAdvance}
use Rattle.mt_arena.specs.Arena.{ArenaView}
use Rattle.mt_arena.specs.declared.retired.Retired.{Retired}
use Rattle.mt_chart.specs.Tree.{Among, first}
use Rattle.mt_tree.specs.Seen.{arena_seen}
use Rattle.mt_steps.specs.World.{World, IsGone}
use Rattle.mt_steps.specs.Collecting.{GivesBack, IsCollected, TakenSince, CollectLaw, Leaves}
use Rattle.mt_steps.proofs.CollectLemmas.{advances}
use Rattle.mt_steps.proofs.CollectingLemmas.{law_none}
use Rattle.mt_works.specs.Works.{held}
use Rattle.mt_works.proofs.WorkLemmas.{stays, owned_taken, owned_since}
use Rattle.mt_index.specs.declared.calls.Call.{Call}
use Rattle.mt_index.specs.Calls.{BeganInOrder, oldest_epoch}
use Rattle.mt_index.specs.Paired.{Paired}
use Rattle.mt_index.specs.Stands.{MachineView, AllOwned, CallStands, Stands, Advances, Collects, IsOldest}
use Rattle.mt_index.specs.Causes.{AllBeganAfter, OneBeganBy, IsCaused}
use Rattle.mt_index.proofs.NumberLemmas.{Entries}
use Rattle.mt_index.proofs.ListLemmas.{order_from}
use Rattle.mt_index.proofs.LogStands.{was_later}
use Rattle.mt_index.proofs.PairedLemmas.{paired-above, paired-each}
use Rattle.mt_index.proofs.PastLemmas.{past_more}
use Rattle.mt_index.proofs.Reading.{reads_still}
use Rattle.mt_index.proofs.LaterStands.{all_since, rows_still, keys_later, quiet_stands, same_stands, seen}
use Rattle.mt_index.proofs.ApplyStands.{if_behind, if_current}

-- ---- the next epoch
pub advances-stand : (s t : MachineView) (h : History) (st : Stands s h) (outcome : Outcome) → Advances s outcome t → Stands t (happening Advance outcome 0 ∷ h)
advances-stand s t h st outcome (inl (spent, is, same)) =
    subst (λ (u : MachineView). Stands u (happening Advance outcome 0 ∷ h)) (sym same)
    (subst (λ (o : Outcome). Stands s (happening Advance o 0 ∷ h)) (sym is)
    (same_stands s h (happening Advance (Refused Spent) 0) st (let now = st.epoch in if_current (moment h).epoch greatest_number _ _ (omega (arith, now, spent)) refl) refl refl refl refl refl refl))
advances-stand s t h st outcome (inr (more, is, next)) =
    subst (λ (u : MachineView). Stands u (happening Advance outcome 0 ∷ h)) (sym next)
    (subst (λ (o : Outcome). Stands (seen s.columns (s.epoch + 1) s.tree s.log s.calls s.views) (happening Advance o 0 ∷ h)) (sym is)
    (quiet_stands s h x st (s.epoch + 1) s.tree st.w may refl refl refl refl refl refl (advances s.tree s.epoch st.w st.world) (λ place row. ((λ has. has), (λ has. has))) (all_since s h x st (s.epoch + 1) (omega arith) refl) st.owned))
  where
    x : Happening
    x = happening Advance (Epoch (s.epoch + 1)) 0

    may : MayAdvance (moment h) (Epoch (s.epoch + 1))
    may = let now = st.epoch in if_behind (moment h).epoch greatest_number _ _ (omega (arith, now, more)) (ap (λ (e : ℕ). Epoch (e + 1)) now)

-- ---- a collection
-- each open call began in that epoch or later
oldest_of : (now before least : ℕ) (ks : Entries) → BeganInOrder least ks → IsOldest now before (oldest_epoch ks) → (k : ℕ × Call) → Among k ks → before ≤ k.1.epoch
oldest_of now before least [] order is k i = elim i [ ]
oldest_of now before least (e ∷ es) order is k i = order_from before (e ∷ es) (omega (arith, is), order.1) k i

module _ (s : MachineView) (h : History) (st : Stands s h) (before : ℕ) (oldest : IsOldest s.epoch before (oldest_epoch s.calls.calls)) where
  since : (k : ℕ × Call) → Among k s.calls.calls → before ≤ k.1.epoch
  since k i = oldest_of s.epoch before 0 s.calls.calls st.in_order oldest k i

  -- so what is taken, and gone, went in that epoch or later
  taken_since : TakenSince before s.tree st.w
  taken_since number taken below prefix low epoch place =
      let (k, i, owns) = st.owned number taken in
      let (c, r) = paired-each (CallStands s.columns s.epoch s.tree st.w h) 0 s.calls.begun s.calls.calls (moment h).calls st.calls k i in
      let went = owned_since s.columns k.1.epoch c.moves r.past s.tree s.epoch st.w st.world k.1.work r.true number owns below prefix low epoch place in
      let began = since k i in
      omega (arith, went, began)

  module _ (after : ArenaView) (count : ℕ) (left : Leaves s.epoch before s.tree after st.w) where
    abbrev x : Happening
    x = happening Collect (Freed count) 0

    call_left : (k : ℕ × Call) (c : OpenCall) → Among k s.calls.calls → CallStands s.columns s.epoch s.tree st.w h k c → CallStands s.columns s.epoch after left.next (x ∷ h) k c
    call_left k c i r = record {
      pass = r.pass;
      request = r.request;
      from = r.from;
      began = let b = r.began in omega (arith, b);
      epoch = r.epoch;
      committed = r.committed;
      blocked = was_later c.began x h (held k.1.work).blocked r.blocked;
      past = arena_seen s.tree ∷ r.past;
      passed = let b = r.began in past_more s.columns c.began c.from x h after (arena_seen s.tree ∷ r.past) (omega (arith, b)) (rows_still s h x st after left.content refl) (keys_later s h x st refl) (inl refl) r.passed;
      true = stays s.tree after st.w left.next s.columns k.1.epoch c.moves r.past (left.evolves k.1.epoch (since k i)) s.epoch left.world left.age k.1.work
          (λ number owned. left.leaves number (owned_taken s.columns k.1.epoch c.moves r.past s.tree st.w k.1.work r.true number owned)) r.true;
      reads = reads_still s.columns (moment h) (moment (x ∷ h)) (inl refl) c.from k.1.work r.reads;
    }

    all_left : Paired (CallStands s.columns s.epoch after left.next (x ∷ h)) 0 s.calls.begun s.calls.calls (moment h).calls
    all_left =
        paired-above 0 (CallStands s.columns s.epoch s.tree st.w h) (CallStands s.columns s.epoch after left.next (x ∷ h)) 0 s.calls.begun s.calls.calls (moment h).calls
        (λ k c i ne r. call_left k c i r) (omega arith) st.calls

    owned_left : AllOwned after left.next s.calls.calls
    owned_left number taken = st.owned number (left.takes number taken)

    collected : Stands (seen s.columns s.epoch after s.log s.calls s.views) (x ∷ h)
    collected = quiet_stands s h x st s.epoch after left.next (count, refl) refl refl refl refl refl st.epoch left.world left.content all_left owned_left

pub collects-stand : (s t : MachineView) (h : History) (st : Stands s h) (outcome : Outcome) → Collects s outcome t → Stands t (happening Collect outcome 0 ∷ h)
collects-stand s t h st outcome o =
    subst (λ (u : MachineView). Stands u (happening Collect outcome 0 ∷ h)) (sym o.is_next)
    (subst (λ (z : Outcome). Stands (seen s.columns s.epoch o.after s.log s.calls s.views) (happening Collect z 0 ∷ h)) (sym o.is_outcome)
    (collected s h st o.before o.oldest o.after o.count (o.keeps s.epoch st.w st.world (taken_since s h st o.before o.oldest))))

-- exactly the nodes are freed since whose retiring each open call began
kept_for : (a : ArenaView) (now before least : ℕ) (w : World) (ks : Entries) (left : List Retired) → BeganInOrder least ks → IsOldest now before (oldest_epoch ks) → All (IsGone a now w.chart) left → All (λ (node : Retired). before ≤ node.epoch) left → All (OneBeganBy ks) left
kept_for a now before least w [] left order is dead late = λ k d within.
    let g = dead k d within in let dated = g.dated in let l = late k d within in absurd (omega (arith, is, dated, l))
kept_for a now before least w (e ∷ es) left order is dead late = All-weaker (λ (node : Retired). before ≤ node.epoch) (OneBeganBy (e ∷ es)) (λ node l. (e, first, omega (arith, is, l))) left late

pub collects-caused : (s t : MachineView) (h : History) (st : Stands s h) (outcome : Outcome) → Collects s outcome t → IsCaused s Collect outcome t
collects-caused s t h st outcome o =
    subst (λ (z : Outcome). IsCaused s Collect z t) (sym o.is_outcome) (record {
      few = o.exactly.few;
      left = subst (λ (m : MachineView). GivesBack o.count s.tree m.tree) (sym o.is_next) o.exactly.left;
      freed = All-weaker (λ (node : Retired). node.epoch < o.before) (AllBeganAfter s.calls.calls) (λ node less k i. let began = since s h st o.before o.oldest k i in omega (arith, less, began)) (take o.count s.tree.retired) o.exactly.freed;
      kept = kept_for s.tree s.epoch o.before 0 st.w s.calls.calls (drop o.count s.tree.retired) st.in_order o.oldest
          (All-drop (IsGone s.tree s.epoch st.w.chart) o.count s.tree.retired st.world.retired.each)
          (subst (λ (l : List Retired). All (λ (node : Retired). o.before ≤ node.epoch) l) o.exactly.left.rest o.exactly.kept);
    })

-- ---- as the code takes it
-- nothing is freed where a call is open since epoch 0
pub collects_none : (s : MachineView) → oldest_epoch s.calls.calls ≡ Some 0 → Collects s (Freed 0) s
collects_none s is = record {
  before = 0;
  count = 0;
  after = s.tree;
  oldest = subst (IsOldest s.epoch 0) (sym is) refl;
  exactly = record { few = omega arith; left = record { nodes = λ number. refl; rest = refl }; freed = All-nil (λ (node : Retired). node.epoch < 0); kept = λ k d within. omega arith };
  keeps = law_none s.tree 0;
  is_outcome = refl;
  is_next = refl;
}

pub collects_some : (s : MachineView) (tree : ArenaView) (upto count : ℕ) → IsOldest s.epoch (upto + 1) (oldest_epoch s.calls.calls) → IsCollected s.tree tree (upto + 1) count → CollectLaw s.tree tree (upto + 1) → Collects s (Freed count) (seen s.columns s.epoch tree s.log s.calls s.views)
collects_some s tree upto count oldest exactly keeps = record {
  before = upto + 1;
  count = count;
  after = tree;
  oldest = oldest;
  exactly = exactly;
  keeps = keeps;
  is_outcome = refl;
  is_next = refl;
}
