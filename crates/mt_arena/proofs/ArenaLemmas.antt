-- What holds of every arena holds after each change.
use Rattle.std.proofs.Common.{◌≡◌, ◌≢◌, inl, inr, ℕ, suc, ◌+◌, ◌-◌, ◌<◌, ◌≤◌, List, [], ◌∷◌, ◌++◌, length, set, get_or, None, IsSome, subst, sym, ◌∙◌, arith}
use Rattle.std.specs.Prelude.{All, AllPairs}
use Rattle.std.proofs.lemmas.Bool.{cases_eq}
use Rattle.std.proofs.lemmas.List.Elements.{All-head, All-tail, All-push}
use Rattle.std.proofs.lemmas.List.Quantifiers.{all_pairs_push}
use Rattle.std.proofs.lemmas.List.Sorted.{IsNonDecreasingBy-push, IsNonDecreasingBy-drop}
use Rattle.mt_types.specs.declared.numbers.NodeNo.{NodeNo}
use Rattle.mt_arena.specs.Node.{Nodes, node_at, occupied, Updates, NamesNoneFrom}
use Rattle.mt_arena.specs.Arena.{arena_view, AreRetired, IsSoundArena}
use Rattle.mt_arena.specs.declared.retired.Retired.{Retired}
use Rattle.mt_arena.proofs.NodeLemmas.{updates-without, occupied-without}

abbrev Named : Nodes → Retired → Type 0
Named nodes r = IsSome (node_at nodes r.node.0)

abbrev Apart : Retired → Retired → Type 0
Apart r later = r.node.0 ≢ later.node.0

-- the retired nodes after the first are other nodes
apart_from_first : (first : Retired) (later : List Retired) → AllPairs Apart (first ∷ later) → All (λ r. r.node.0 ≢ first.node.0) later
apart_from_first first later once k d within = λ same. once 0 (suc k) d (omega arith) (omega arith) (sym same)

pairs-tail : (first : Retired) (later : List Retired) → AllPairs Apart (first ∷ later) → AllPairs Apart later
pairs-tail first later once i j d before within = once (suc i) (suc j) d (omega arith) (omega arith)

-- nodes that are not the one that is freed are still named
still_named : (old new : Nodes) (number : ℕ) (retired : List Retired) → Updates old new number None → All (λ r. r.node.0 ≢ number) retired → All (Named old) retired → All (Named new) retired
still_named old new number retired updates apart named k d within =
    let same = updates.others (get_or retired k d).node.0 (apart k d within) in
    rw same (named k d within)

-- there are no more retired nodes than nodes
pub retired_among : (nodes : Nodes) (retired : List Retired) → All (Named nodes) retired → AllPairs Apart retired → length retired ≤ occupied nodes
retired_among nodes [] named once = omega arith
retired_among nodes (first ∷ later) named once =
    let here : IsSome (node_at nodes first.node.0) = All-head (Named nodes) first later named in
    let rest = still_named nodes (set nodes first.node.0 None) first.node.0 later (updates-without nodes first.node.0 here) (apart_from_first first later once) (All-tail (Named nodes) first later named) in
    let fewer = retired_among (set nodes first.node.0 None) later rest (pairs-tail first later once) in
    omega (arith, fewer, occupied-without nodes first.node.0 here)

-- and fewer, if one node is not retired
pub retired_below : (nodes : Nodes) (retired : List Retired) (number : ℕ) → AreRetired nodes retired → IsSome (node_at nodes number) → All (λ r. r.node.0 ≢ number) retired → length retired < occupied nodes
retired_below nodes retired number h here apart =
    let rest = still_named nodes (set nodes number None) number retired (updates-without nodes number here) apart h.named in
    let fewer = retired_among (set nodes number None) retired rest h.once in
    omega (arith, fewer, occupied-without nodes number here)

below-without : (limit : ℕ) (old new : Nodes) (number : ℕ) → Updates old new number None → NamesNoneFrom limit old → NamesNoneFrom limit new
below-without limit old new number updates below = record {
  each = λ other past. elim (cases_eq other number) [
    | inl same ↦ rw same updates.changed
    | inr apart ↦ updates.others other apart ∙ below.each other past
  ];
}

-- a node that is not retired is freed
pub sound-freed : (nodes new : Nodes) (retired : List Retired) (number room : ℕ) → Updates nodes new number None → occupied new + 1 ≡ occupied nodes → All (λ r. r.node.0 ≢ number) retired →
    IsSoundArena (arena_view nodes retired) room → IsSoundArena (arena_view new retired) room
sound-freed nodes new retired number room updates less apart h =
    let within = h.arena.within in
    let roomy = h.room_for_all in
    record {
      arena = record {
        below = below-without 4294967295 nodes new number updates h.arena.below;
        within = omega (arith, less, within);
        retired = record { named = still_named nodes new number retired updates apart h.arena.retired.named; once = h.arena.retired.once; epochs = h.arena.retired.epochs };
      };
      room_for_all = omega (arith, less, roomy);
    }

-- a node is retired
pub sound-retired : (nodes : Nodes) (retired : List Retired) (number : NodeNo) (epoch room : ℕ) → IsSome (node_at nodes number.0) → All (λ r. r.node.0 ≢ number.0) retired → All (λ r. r.epoch ≤ epoch) retired →
    IsSoundArena (arena_view nodes retired) room → IsSoundArena (arena_view nodes (retired ++ record { node = number; epoch = epoch } ∷ [])) room
sound-retired nodes retired number epoch room here apart earlier h = record {
  arena = record {
    below = h.arena.below;
    within = h.arena.within;
    retired = record {
      named = All-push (Named nodes) retired (record { node = number; epoch = epoch }) h.arena.retired.named here;
      once = all_pairs_push Apart retired (record { node = number; epoch = epoch }) h.arena.retired.once apart;
      epochs = IsNonDecreasingBy-push (λ (r : Retired). r.epoch) retired (record { node = number; epoch = epoch }) h.arena.retired.epochs (λ d some. earlier (length retired - 1) d (omega arith));
    };
  };
  room_for_all = h.room_for_all;
}

-- the first of the retired nodes is taken off their list
later_retired : (nodes : Nodes) (first : Retired) (later : List Retired) → AreRetired nodes (first ∷ later) → AreRetired nodes later
later_retired nodes first later h = record {
  named = All-tail (Named nodes) first later h.named;
  once = pairs-tail first later h.once;
  epochs = IsNonDecreasingBy-drop (λ (r : Retired). r.epoch) 1 (first ∷ later) h.epochs;
}

-- and freed
pub sound-first_freed : (nodes new : Nodes) (retired : List Retired) (first : Retired) (later : List Retired) (room : ℕ) → retired ≡ first ∷ later → Updates nodes new first.node.0 None → occupied new + 1 ≡ occupied nodes →
    IsSoundArena (arena_view nodes retired) room → IsSoundArena (arena_view new later) room
sound-first_freed nodes new retired first later room is updates less h =
    let both : AreRetired nodes (first ∷ later) = subst (AreRetired nodes) is h.arena.retired in
    sound-freed nodes new later first.node.0 room updates less (apart_from_first first later both.once)
    (record {
      arena = record { below = h.arena.below; within = h.arena.within; retired = later_retired nodes first later both };
      room_for_all = h.room_for_all;
    })
