-- The steps of a put or remove.
use Rattle.std.proofs.Common.{ℕ, ◌≡◌, ◌≢◌, ◌≤◌, ◌+◌, ◌⊎◌, inl, inr, List, [], Option, Some, None, IsSome, true, false, refl, sym, ap, subst, ◌∙◌}
use Rattle.std.specs.Option.{option_map}
use Rattle.mt_types.specs.declared.row.Row.{Row}
use Rattle.mt_types.specs.declared.event.Request.TheVariants.{Put as PutRequest, Remove as RemoveRequest}
use Rattle.mt_promise.specs.Legal.{is_get}
use Rattle.mt_types.specs.declared.refusal.Refusal.{Refusal}
use Rattle.mt_types.specs.declared.refusal.Refusal.TheVariants.{NoMemory, ArenaFull, FeedFull, Spent, OtherVersion}
use Rattle.mt_types.specs.declared.numbers.NodeNo.{NodeNo}
use Rattle.mt_slice.specs.Place.{place_of, first_slice}
use Rattle.mt_commit.specs.Log.{LogView, slowest}
use Rattle.mt_border.specs.Border.{BorderView}
use Rattle.mt_border.specs.declared.entry.Entry.{Entry}
use Rattle.mt_border.specs.declared.entry.RightLink.{RightLink}
use Rattle.std.specs.Option.{option_and_then}
use Rattle.mt_arena.specs.Node.{border_at, border_of}
use Rattle.mt_chart.proofs.Basics.{same_number}
use Rattle.mt_border.specs.declared.unwritten.Unwritten.TheVariants.{Nothing}
use Rattle.mt_arena.specs.Arena.{ArenaView, with_border_changed}
use Rattle.mt_chart.specs.Tree.{first, Arena, BorderNode, Below}
use Rattle.mt_chart.specs.Chart.{Chart, OnBorder, spot, Spot, at_level, on}
use Rattle.mt_chart.specs.Steps.{SameContent}
use Rattle.mt_chart.specs.TreeLaws.{IsWhere}
use Rattle.mt_tree.specs.Seen.{arena_seen, border_seen, right_seen}
use Rattle.mt_tree.specs.Descent.{IsLast, found_for}
use Rattle.mt_tree.proofs.SeenLemmas.{seen-border}
use Rattle.mt_steps.specs.declared.way.Way.{Way}
use Rattle.mt_write.specs.declared.writing.Edit.{Edit}
use Rattle.mt_write.specs.declared.writing.Edit.TheVariants.{Put as PutEdit, Remove as RemoveEdit}
use Rattle.mt_write.specs.declared.writing.Stage.{Stage}
use Rattle.mt_write.specs.declared.writing.Stage.TheVariants.{Seeks}
use Rattle.mt_write.specs.declared.writing.Halves.{Halves}
use Rattle.mt_steps.specs.declared.progress.Progress.TheVariants.{Moved, Waits}
use Rattle.mt_steps.specs.World.{World, NotAmong, Goes}
use Rattle.mt_steps.specs.Way.{rest_of, prefix_of, IsLayerOf}
use Rattle.mt_steps.specs.Step.{Held, Stepped, StepLaw, MayStep, put_row, Blocks, Commits, Changes, blocked_by, IsOfLog, MayRefuse, IsRight}
use Rattle.mt_write.specs.Causes.{version_fault}
use Rattle.mt_write.specs.Held.{put_request, edit_request, written_answer, stage_held}
use Rattle.mt_write.specs.Writing.{PutsNew, IsOtherwise, Tells, IsLockedAt, IsOwnedAt, HasOthers, HasLocked, AreHalves, StageIsTrue, HeadedStage}
use Rattle.mt_steps.specs.World.{IsLockedBorder}
use Rattle.mt_steps.proofs.FrameLemmas.{goes_same, quiet_same}
use Rattle.std.specs.Prelude.{IsTrue}
use Rattle.mt_write.proofs.VersionLemmas.{same_version}
use Rattle.mt_steps.proofs.WayLemmas.{starts}
use Rattle.mt_steps.proofs.BorderLemmas.{now_named, others_named, among_one}

-- no write is a get
pub no_get : (key : List ℕ) (edit : Edit) → IsTrue (is_get (edit_request key edit)) → ⊥
no_get key (PutEdit sets None) get = (let clash : false ≡ true = get in cc)
no_get key (PutEdit sets (Some version)) get = (let clash : false ≡ true = get in cc)
no_get key RemoveEdit get = (let clash : false ≡ true = get in cc)

-- a write that fails is blocked at nothing, or at the number from which the log is held
pub fails_at : (log : LogView) (refusal : Refusal) → IsOfLog log refusal → (blocked_by refusal ≡ None) ⊎ (blocked_by refusal ≡ Some (slowest log))
fails_at log (FeedFull number) is = inr (ap (λ (m : ℕ). Some m) is)
fails_at log _ is = inl refl

-- a step that moves, and of which neither the rows nor the log tell anything
pub quiet_step : {C now moves : ℕ} {past : List Arena} {a after : ArenaView} {log : LogView} {w : World} {held then : Held} {True : ℕ → World → Type 0} (key : List ℕ) (edit : Edit) → Goes now a after w held.owns then.owns (True (moves + 1))
    → SameContent (arena_seen a) (arena_seen after) → then.committed ≡ held.committed → then.reserves ≡ held.reserves → Blocks log held.blocked Moved then.blocked → Stepped C now moves past a after log log w (edit_request key edit) held Moved then True
quiet_step {C} {now} {moves} {past} {a} {after} {log} key edit goes content committed reserves blocked = record {
  goes = goes;
  does = (record { content = content; trimmed = refl; deltas = refl; rows = refl }, committed);
  reserved = ap (λ (n : ℕ). log.reserved + n) (sym reserves);
  bounds = refl;
  blocked = blocked;
  may = λ get. absurd (no_get key edit get);
}

-- ---- on its way
module _ (C : ℕ) (a : ArenaView) (key : List ℕ) (edit : Edit) (way : Way) (log : LogView) where
  -- the law of a step that stays on its way and waits
  abbrev SeekLaw : Way → Type 0
  SeekLaw next = StepLaw C a a log log (edit_request key edit) (stage_held way.node.0 Seeks) Waits (stage_held next.node.0 Seeks) (λ begun moves past x w. StageIsTrue C key edit way Seeks begun x w) (λ begun moves past x w. StageIsTrue C key edit next Seeks begun x w)

  pub seek_again : SeekLaw (record { node = record { 0 = 0 }; layer = 0 })
  seek_again = record {
    steps = λ now begun moves past w world before truth. record {
      goes = goes_same now a w _ [] [] refl world (starts a now w begun key world);
      does = (quiet_same a log, refl);
      reserved = refl;
      bounds = refl;
      blocked = inl refl;
      may = tt;
    };
  }

  pub seek_waits : SeekLaw way
  seek_waits = record {
    steps = λ now begun moves past w world before truth. record {
      goes = goes_same now a w _ [] [] refl world truth;
      does = (quiet_same a log, refl);
      reserved = refl;
      bounds = refl;
      blocked = inl refl;
      may = tt;
    };
  }

pub written_at : (a : ArenaView) (key : List ℕ) (way : Way) (b : BorderView) (w : World) → b.unwritten ≡ Nothing → IsOwnedAt a key way b w → IsLockedAt a key way b w
written_at a key way b w written at = record { layer = at.layer; named = at.named; stands = at.stands; alive = at.alive; last = at.last; locked = at.locked; written = written; free = at.free }

-- ---- the border of the key, once it is changed but for what stands in it
pub owned_at-changed : (a : ArenaView) (key : List ℕ) (way : Way) (b : BorderView) (w : World) (change : BorderView → BorderView) → border_at a.nodes way.node.0 ≡ Some b → IsLayerOf key way
    → IsWhere (arena_seen a) w.chart way.node.0 (prefix_of key way) (border_seen b) (place_of (rest_of key way)) → IsLast (found_for (rest_of key way) b.live)
    → (change b).low ≡ b.low → (change b).right ≡ b.right → (change b).live ≡ b.live → (change b).version.deleted ≡ false → (change b).version.locked ≡ true → NotAmong way.node.0 w.closing
    → IsOwnedAt (with_border_changed a way.node.0 change) key way (change b) w
owned_at-changed a key way b w change named layer stands ends low right live alive locked free =
    let now_is = now_named a way.node.0 b change named in
    record {
      layer = layer;
      named = now_is;
      stands = record {
        stands = record {
          posted = stands.stands.posted;
          place = subst (λ (l : ℕ). w.chart way.node.0 ≡ Some (spot (at_level 0) (prefix_of key way) l (on stands.stands.posted))) (sym low) stands.stands.place;
          node = seen-border (with_border_changed a way.node.0 change) way.node.0 (change b) now_is;
        };
        from_low = subst (λ (l : ℕ). l ≤ first_slice (place_of (rest_of key way))) (sym low) stands.from_low;
        to_right = subst (λ (r : Option RightLink). Below (first_slice (place_of (rest_of key way))) (option_map right_seen r)) (sym right) stands.to_right;
      };
      alive = alive;
      last = subst (λ (l : List Entry). IsLast (found_for (rest_of key way) l)) (sym live) ends;
      locked = locked;
      free = free;
    }

-- a border that is on is known
pub known_on : (arena : Arena) (chart : Chart) (number : ℕ) (prefix : List ℕ) (node : BorderNode) → OnBorder arena chart number prefix node → IsSome (chart number)
known_on arena chart number prefix node stands = subst (λ (x : Option Spot). IsSome x) (sym stands.place) refl

-- what a write answers is right
pub answer_right : (past : List Arena) (a : ArenaView) (key : List ℕ) (edit : Edit) (number : ℕ) → IsRight past a (edit_request key edit) (Some number) (written_answer edit number)
answer_right past a key (PutEdit sets None) number = refl
answer_right past a key (PutEdit sets (Some version)) number = refl
answer_right past a key RemoveEdit number = refl

-- ---- what is locked
pub alone : (a : ArenaView) (key : List ℕ) (way : Way) (b : BorderView) (w : World) → IsLockedAt a key way b w → HasLocked (prefix_of key way) a w way.node.0 None
alone a key way b w at = record {
  locked = λ other i. subst (λ (m : ℕ). IsLockedBorder a w m) (sym (among_one other way.node.0 i)) (record { b = b; named = at.named; known = known_on (arena_seen a) w.chart way.node.0 (prefix_of key way) (border_seen b) at.stands.stands; locked = at.locked; alive = at.alive; written = at.written; free = at.free });
  own = first;
  halves = tt;
}

pub other_locked : (a : ArenaView) (n : ℕ) (b : BorderView) (change : BorderView → BorderView) (named : border_at a.nodes n ≡ Some b) (w : World) (other : ℕ) → other ≢ n → IsLockedBorder a w other → IsLockedBorder (with_border_changed a n change) w other
other_locked a n b change named w other differ k = record { b = k.b; named = ap (option_and_then border_of) (others_named a n b change named other differ) ∙ k.named; known = k.known; locked = k.locked; alive = k.alive; written = k.written; free = k.free }

halves_changed : (prefix : List ℕ) (a : ArenaView) (n : ℕ) (b : BorderView) (change : BorderView → BorderView) (named : border_at a.nodes n ≡ Some b) (w : World) (split : Option Halves) → (change b).low ≡ b.low → AreHalves prefix a w split → AreHalves prefix (with_border_changed a n change) w split
halves_changed prefix a n b change named w None low halves = tt
halves_changed prefix a n b change named w (Some split) low halves = record {
  apart = halves.apart;
  low = halves.low;
  place = halves.place;
  low_is = λ c is. elim (same_number split.half.0 n) [
    | inl e ↦ (let both : ◌≡◌ {A = Option BorderView} (Some (change b)) (Some c) = sym (now_named a n b change named) ∙ (ap (λ (m : ℕ). border_at (with_border_changed a n change).nodes m) (sym e) ∙ is) in
        let same : change b ≡ c = cc in ap (λ (x : BorderView). x.low) (sym same) ∙ (low ∙ halves.low_is b (ap (λ (m : ℕ). border_at a.nodes m) e ∙ named)))
    | inr differ ↦ halves.low_is c (sym (ap (option_and_then border_of) (others_named a n b change named split.half.0 differ)) ∙ is)
  ];
}

pub has_changed : (prefix : List ℕ) (a : ArenaView) (n : ℕ) (b : BorderView) (change : BorderView → BorderView) (named : border_at a.nodes n ≡ Some b) (w : World) (split : Option Halves) → (change b).version.locked ≡ true → (change b).version.deleted ≡ false → (change b).unwritten ≡ Nothing → (change b).low ≡ b.low → HasLocked prefix a w n split → HasLocked prefix (with_border_changed a n change) w n split
has_changed prefix a n b change named w split locked alive written low has = record {
  locked = λ other i. elim (same_number other n) [
    | inl e ↦ subst (λ (m : ℕ). IsLockedBorder (with_border_changed a n change) w m) (sym e) (record { b = change b; named = now_named a n b change named; known = (has.locked n has.own).known; locked = locked; alive = alive; written = written; free = (has.locked n has.own).free })
    | inr differ ↦ other_locked a n b change named w other differ (has.locked other i)
  ];
  own = has.own;
  halves = halves_changed prefix a n b change named w split low has.halves;
}

-- its border is changed, and something of it is unwritten
pub others_changed : (prefix : List ℕ) (a : ArenaView) (n : ℕ) (b : BorderView) (change : BorderView → BorderView) (named : border_at a.nodes n ≡ Some b) (w : World) (split : Option Halves) → (change b).low ≡ b.low → HasLocked prefix a w n split → HasOthers prefix (with_border_changed a n change) w n split
others_changed prefix a n b change named w split low has = record {
  locked = λ other i differ. other_locked a n b change named w other differ (has.locked other i);
  own = has.own;
  halves = halves_changed prefix a n b change named w split low has.halves;
}

-- and is written
pub others_written : (key : List ℕ) (a : ArenaView) (way : Way) (b : BorderView) (change : BorderView → BorderView) (named : border_at a.nodes way.node.0 ≡ Some b) (w : World) (split : Option Halves) → (change b).low ≡ b.low
    → IsLockedAt (with_border_changed a way.node.0 change) key way (change b) w → HasOthers (prefix_of key way) a w way.node.0 split → HasLocked (prefix_of key way) (with_border_changed a way.node.0 change) w way.node.0 split
others_written key a way b change named w split low at has = record {
  locked = λ other i. elim (same_number other way.node.0) [
    | inl e ↦ subst (λ (m : ℕ). IsLockedBorder (with_border_changed a way.node.0 change) w m) (sym e) ((alone _ key way (change b) w at).locked way.node.0 first)
    | inr differ ↦ other_locked a way.node.0 b change named w other differ (has.locked other i differ)
  ];
  own = has.own;
  halves = halves_changed (prefix_of key way) a way.node.0 b change named w split low has.halves;
}

-- ---- what a put that asks for a version may come to
pub as_put : (key : List ℕ) (sets : List (ℕ × List ℕ)) (only : Option ℕ) (refusal : Refusal) → MayRefuse (PutRequest key sets) refusal → MayRefuse (put_request key sets only) refusal
as_put key sets None refusal may = may
as_put key sets (Some version) NoMemory may = tt
as_put key sets (Some version) ArenaFull may = tt
as_put key sets (Some version) (FeedFull number) may = tt
as_put key sets (Some version) Spent may = tt
as_put key sets (Some version) _ may = absurd may

pub put_otherwise : (key : List ℕ) (sets : List (ℕ × List ℕ)) (refusal : Refusal) → MayRefuse (PutRequest key sets) refusal → IsOtherwise refusal
put_otherwise key sets (OtherVersion other) may = absurd may
put_otherwise key sets _ may = tt

pub remove_otherwise : (key : List ℕ) (refusal : Refusal) → MayRefuse (RemoveRequest key) refusal → IsOtherwise refusal
remove_otherwise key (OtherVersion other) may = absurd may
remove_otherwise key _ may = tt

pub otherwise_tells : (a : ArenaView) (w : World) (key : List ℕ) (way : Way) (refusal : Refusal) (split : Option Halves) → IsOtherwise refusal → Tells a w key way refusal split
otherwise_tells a w key way (OtherVersion other) split otherwise = absurd otherwise
otherwise_tells a w key way _ split otherwise = otherwise

pub split_otherwise : (a : ArenaView) (w : World) (key : List ℕ) (way : Way) (refusal : Refusal) (split : Halves) → Tells a w key way refusal (Some split) → IsOtherwise refusal
split_otherwise a w key way (OtherVersion other) split tells = tells
split_otherwise a w key way _ split tells = tells

pub own_agrees : (sets : List (ℕ × List ℕ)) (only : Option ℕ) → (p : PutsNew (PutEdit sets only)) → version_fault only None ≡ None
own_agrees sets only p = let same : only ≡ p.only = (let both : PutEdit sets only ≡ PutEdit p.sets p.only = p.is_put in cc) in subst (λ (o : Option ℕ). version_fault o None ≡ None) (sym same) p.agrees

-- its commit
pub commits_put : (C : ℕ) (a after : ArenaView) (log left : LogView) (key : List ℕ) (sets : List (ℕ × List ℕ)) (only : Option ℕ) (before : Option Row) (number : ℕ) → version_fault only before ≡ None
    → Changes a after log left key before (Some (put_row C number sets before)) number → Commits C a after log left (put_request key sets only) number
commits_put C a after log left key sets None before number agrees done = (before, done)
commits_put C a after log left key sets (Some version) before number agrees done = (before, same_version version before agrees, done)

-- what a step asks at one stage it asks at the stage that is the same
pub may_at : (C : ℕ) (a : ArenaView) (log : LogView) (key : List ℕ) (edit : Edit) (way : Way) (head : NodeNo) (stage old : Stage) → old ≡ stage
    → MayStep a log (stage_held way.node.0 old) (λ begun moves past x w. HeadedStage C key edit way head old begun x w) → MayStep a log (stage_held way.node.0 stage) (λ begun moves past x w. HeadedStage C key edit way head stage begun x w)
may_at C a log key edit way head stage old is may = subst (λ (s : Stage). MayStep a log (stage_held way.node.0 s) (λ begun moves past x w. HeadedStage C key edit way head s begun x w)) is may
