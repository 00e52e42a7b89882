-- How many numbers name a node after a change, that the heads are as before, and that nothing comes to be marked
-- deleted; and why no number can be occupied.
use Rattle.std.proofs.Common.{ℕ, ◌≡◌, ◌⊎◌, inl, inr, set, Option, Some, None, IsSome, true, false, refl, sym, ap, subst, ◌∙◌}
use Rattle.std.specs.Prelude.{IsSomeAnd, ◌↔◌, Result, Err}
use Rattle.std.specs.Option.{option_and_then, option_map}
use Rattle.std.proofs.lemmas.List.{set-get_or}
use Rattle.mt_types.specs.declared.limits.TheConstants.{MAX_NODES}
use Rattle.mt_types.specs.declared.numbers.NodeNo.{NodeNo}
use Rattle.mt_types.specs.declared.refusal.Refusal.{Refusal}
use Rattle.mt_types.specs.declared.refusal.Refusal.TheVariants.{ArenaFull, NoMemory}
use Rattle.mt_interior.specs.Head.{HeadView}
use Rattle.mt_interior.specs.Interior.{InteriorView}
use Rattle.mt_arena.specs.Node.{Nodes, node_at, head_at, head_of, occupied, with_node, Updates}
use Rattle.mt_arena.specs.Arena.{ArenaView, with_changed, with_interior_changed, with_head_changed, interior_changed, head_changed, without_node}
use Rattle.mt_arena.specs.declared.node.Node.{Node}
use Rattle.mt_arena.specs.declared.node.Node.TheVariants.{Head, Interior, Border}
use Rattle.mt_arena.proofs.NodeLemmas.{updates-with_node, updates-without, occupied-with_node, occupied-without}
use Rattle.mt_chart.proofs.Basics.{same_number}
use Rattle.mt_post.specs.Causes.{RefusesSpare}
use Rattle.mt_post.specs.Follows.{GivesOneBack, OccupiesAsMany, SameHeads, MarksNone, mark_of}

-- what a step leaves that puts a node in and takes none out, and names no new root
pub record LeavesAll (a after : ArenaView) : Type 0 where
  pub numbers : OccupiesAsMany a after
  pub heads : SameHeads a after
  pub marks : MarksNone a after

-- ---- a node that is changed in place
module _ (a : ArenaView) (n : ℕ) (change : Node → Node) where
  -- there is one, or nothing is changed
  with_one : (o : Option Node) → node_at a.nodes n ≡ o → occupied (set a.nodes n (option_map change o)) ≡ occupied a.nodes
  with_one None is = ap (λ (o : Option Node). occupied (set a.nodes n o)) (sym is) ∙ ap occupied (set-get_or a.nodes n None)
  with_one (Some node) is = occupied-with_node a.nodes n (change node) (subst (λ (o : Option Node). IsSome o) (sym is) refl)

  changed_numbers : OccupiesAsMany a (with_changed change a n)
  changed_numbers = with_one (node_at a.nodes n) refl

  -- what is seen of nodes, and is the same of one that is changed
  module _ {X : Type 0} (look : Option Node → X) (keeps : (node : Node) → look (Some (change node)) ≡ look (Some node)) where
    look_with : (o : Option Node) → node_at a.nodes n ≡ o → (number : ℕ) → look (node_at (set a.nodes n (option_map change o)) number) ≡ look (node_at a.nodes number)
    look_with None is number = ap (λ (o : Option Node). look (node_at (set a.nodes n o) number)) (sym is) ∙ ap (λ (nodes : Nodes). look (node_at nodes number)) (set-get_or a.nodes n None)
    look_with (Some node) is number =
        let updates = updates-with_node a.nodes n (change node) (subst (λ (o : Option Node). IsSome o) (sym is) refl) in
        elim (same_number number n) [
          | inl e ↦ ap (λ (m : ℕ). look (node_at (with_node a.nodes n (change node)) m)) e ∙ (ap look updates.changed ∙ (keeps node ∙ (sym (ap look is) ∙ ap (λ (m : ℕ). look (node_at a.nodes m)) (sym e))))
          | inr apart ↦ ap look (updates.others number apart)
        ]

    same_look : (number : ℕ) → look (node_at (with_changed change a n).nodes number) ≡ look (node_at a.nodes number)
    same_look number = look_with (node_at a.nodes n) refl number

keeps_head : (change : InteriorView → InteriorView) (node : Node) → head_of (interior_changed change node) ≡ head_of node
keeps_head change (Head h) = refl
keeps_head change (Interior i) = refl
keeps_head change (Border b) = refl

-- a change that marks nothing
abbrev KeepsMark : (InteriorView → InteriorView) → Type 0
KeepsMark change = (i : InteriorView) → (change i).version.deleted ≡ i.version.deleted

keeps_mark : (change : InteriorView → InteriorView) → KeepsMark change → (node : Node) → mark_of (Some (interior_changed change node)) ≡ mark_of (Some node)
keeps_mark change keeps (Head h) = refl
keeps_mark change keeps (Interior i) = keeps i
keeps_mark change keeps (Border b) = refl

keeps_head_mark : (change : HeadView → HeadView) → ((h : HeadView) → (change h).version.deleted ≡ h.version.deleted) → (node : Node) → mark_of (Some (head_changed change node)) ≡ mark_of (Some node)
keeps_head_mark change keeps (Head h) = keeps h
keeps_head_mark change keeps (Interior i) = refl
keeps_head_mark change keeps (Border b) = refl

-- an interior is changed
pub interior_leaves : (a after : ArenaView) (n : ℕ) (change : InteriorView → InteriorView) → after ≡ with_interior_changed a n change → KeepsMark change → LeavesAll a after
interior_leaves a after n change is keeps = subst (λ (x : ArenaView). LeavesAll a x) (sym is)
    (record {
      numbers = changed_numbers a n (interior_changed change);
      heads = same_look a n (interior_changed change) (option_and_then head_of) (keeps_head change);
      marks = λ number marked. sym (same_look a n (interior_changed change) mark_of (keeps_mark change keeps) number) ∙ marked;
    })

-- the same twice
pub interior_leaves_twice : (a between after : ArenaView) (n : ℕ) (change again : InteriorView → InteriorView) → between ≡ with_interior_changed a n change → after ≡ with_interior_changed between n again → KeepsMark change → KeepsMark again → LeavesAll a after
interior_leaves_twice a between after n change again is then keeps keeps_again =
    let one = interior_leaves a between n change is keeps in
    let two = interior_leaves between after n again then keeps_again in
    record { numbers = two.numbers ∙ one.numbers; heads = λ number. two.heads number ∙ one.heads number; marks = λ number marked. one.marks number (two.marks number marked) }

-- the same, by what another node is
pub interior_leaves_by : {T : Type 0} (a after : ArenaView) (n : ℕ) (change : T → InteriorView → InteriorView) (o : Option T) → IsSomeAnd o (λ x. after ≡ with_interior_changed a n (change x)) → ((x : T) → KeepsMark (change x)) → LeavesAll a after
interior_leaves_by a after n change None value keeps = absurd value
interior_leaves_by a after n change (Some x) value keeps = interior_leaves a after n (change x) value (keeps x)

-- a head is changed
pub head_leaves_by : {T : Type 0} (a after : ArenaView) (n : ℕ) (change : T → HeadView → HeadView) (o : Option T) → IsSomeAnd o (λ x. after ≡ with_head_changed a n (change x)) → ((x : T) (h : HeadView) → (change x h).version.deleted ≡ h.version.deleted)
    → OccupiesAsMany a after × MarksNone a after
head_leaves_by a after n change None value keeps = absurd value
head_leaves_by a after n change (Some x) value keeps = subst (λ (x : ArenaView). OccupiesAsMany a x × MarksNone a x) (sym value)
    (changed_numbers a n (head_changed (change x)), λ number marked. sym (same_look a n (head_changed (change x)) mark_of (keeps_head_mark (change x) (keeps x)) number) ∙ marked)

-- ---- a number is occupied by an interior, or given back
pub occupied_heads : (a after : ArenaView) (n : ℕ) (i : InteriorView) → node_at a.nodes n ≡ None → Updates a.nodes after.nodes n (Some (Interior i)) → SameHeads a after
occupied_heads a after n i vacant updates number = elim (same_number number n) [
  | inl e ↦ ap (λ (m : ℕ). head_at after.nodes m) e ∙ (ap (option_and_then head_of) updates.changed ∙ (sym (ap (option_and_then head_of) vacant) ∙ ap (λ (m : ℕ). head_at a.nodes m) (sym e)))
  | inr apart ↦ ap (option_and_then head_of) (updates.others number apart)
]

pub occupied_marks : (a after : ArenaView) (n : ℕ) (i : InteriorView) → Updates a.nodes after.nodes n (Some (Interior i)) → i.version.deleted ≡ false → MarksNone a after
occupied_marks a after n i updates alive number marked = elim (same_number number n) [
  | inl e ↦ absurd (let clash : false ≡ true = sym alive ∙ (sym (ap mark_of updates.changed) ∙ (ap (λ (m : ℕ). mark_of (node_at after.nodes m)) (sym e) ∙ marked)) in cc)
  | inr apart ↦ sym (ap mark_of (updates.others number apart)) ∙ marked
]

pub given_back : (a after : ArenaView) (n : ℕ) → after ≡ without_node a n → IsSome (node_at a.nodes n) → head_at a.nodes n ≡ None → GivesOneBack a after × SameHeads a after × MarksNone a after
given_back a after n is named none = subst (λ (x : ArenaView). GivesOneBack a x × SameHeads a x × MarksNone a x) (sym is) (occupied-without a.nodes n named, heads, marks)
  where
    heads : SameHeads a (without_node a n)
    heads number =
        let updates = updates-without a.nodes n named in
        elim (same_number number n) [
          | inl e ↦ ap (λ (m : ℕ). head_at (without_node a n).nodes m) e ∙ (ap (option_and_then head_of) updates.changed ∙ (sym none ∙ ap (λ (m : ℕ). head_at a.nodes m) (sym e)))
          | inr apart ↦ ap (option_and_then head_of) (updates.others number apart)
        ]

    marks : MarksNone a (without_node a n)
    marks number marked =
        let updates = updates-without a.nodes n named in
        elim (same_number number n) [
          | inl e ↦ absurd (let clash : false ≡ true = sym (ap mark_of updates.changed) ∙ (ap (λ (m : ℕ). mark_of (node_at (without_node a n).nodes m)) (sym e) ∙ marked) in cc)
          | inr apart ↦ sym (ap mark_of (updates.others number apart)) ∙ marked
        ]

-- ---- none is occupied
pub refuses_spare : (a : ArenaView) (spared : Result NodeNo Refusal) (refusal : Refusal) → spared ≡ Err refusal → ((spared ≡ Err ArenaFull) ↔ (occupied a.nodes ≡ MAX_NODES)) → (refusal ≡ ArenaFull) ⊎ (refusal ≡ NoMemory) → RefusesSpare a refusal
refuses_spare a spared refusal is full (inl all) = subst (λ (r : Refusal). RefusesSpare a r) (sym all) (full.0 (is ∙ ap (λ (r : Refusal). Err r) all))
refuses_spare a spared refusal is full (inr lacks) = subst (λ (r : Refusal). RefusesSpare a r) (sym lacks)
    (λ all. (let clash : ◌≡◌ {A = Result NodeNo Refusal} (Err NoMemory) (Err ArenaFull) = sym (is ∙ ap (λ (r : Refusal). Err r) lacks) ∙ full.1 all in cc))
