-- What the step leaves that marks the head of a layer deleted; and the closing borders, once one is none any more.
use Rattle.std.proofs.Common.{ℕ, ◌≡◌, ◌≢◌, ◌==◌, inl, inr, List, [], ◌∷◌, Option, Some, None, IsSome, Bool, true, false, if◌then◌else◌, refl, sym, ap, subst, ◌∙◌}
use Rattle.std.specs.Prelude.{IsSomeAnd}
use Rattle.std.specs.Option.{option_and_then}
use Rattle.std.proofs.lemmas.Bool.Decides.{eqb_tells}
use Rattle.mt_border.specs.Border.{BorderView}
use Rattle.mt_interior.specs.Head.{HeadView, with_deleted}
use Rattle.mt_arena.specs.Node.{node_at, head_at, head_of, interior_at, interior_of, border_at, border_of, Updates}
use Rattle.mt_arena.specs.Arena.{ArenaView, with_head_changed}
use Rattle.mt_arena.specs.declared.node.Node.{Node}
use Rattle.mt_arena.specs.declared.node.Node.TheVariants.{Head}
use Rattle.mt_arena.proofs.NodeLemmas.{updates-with_node, node-from_head}
use Rattle.mt_chart.specs.Tree.{Among, first, later}
use Rattle.mt_chart.specs.Chart.{on, OnHead}
use Rattle.mt_chart.specs.Steps.{SameContent}
use Rattle.mt_chart.proofs.Basics.{same_number}
use Rattle.mt_chart.proofs.Entries.{among_cases}
use Rattle.mt_chart.proofs.HeldNodes.{evolves_same}
use Rattle.mt_tree.specs.Seen.{arena_seen}
use Rattle.mt_tree.specs.Keeping.{KeepsTree}
use Rattle.mt_tree.proofs.SeenLemmas.{changed-head}
use Rattle.mt_steps.specs.World.{World, IsWorld, IsLockedRoot, HeadsStand, IsTaken, IsSame, NotAmong, Goes}
use Rattle.mt_steps.proofs.FrameLemmas.{is_among, taken_back}
use Rattle.mt_steps.proofs.BorderLemmas.{keys_same, no_interior, twins_beside, retired_kept, on_kept, no_root, roots_kept}
use Rattle.mt_steps.proofs.AliveLemmas.{alive_head, alive_there}
use Rattle.mt_steps.proofs.AgingLemmas.{age_beside}
use Rattle.mt_steps.proofs.NodeLemmas.{alive_free, known_some}

-- ---- the closing borders without one
abbrev pub without : ℕ → List ℕ → List ℕ
without number [] = []
without number (other ∷ numbers) = if other == number then without number numbers else other ∷ without number numbers

pub among_without : (number other : ℕ) (numbers : List ℕ) → Among other (without number numbers) → Among other numbers × (other ≢ number)
among_without number other [] i = elim i [ ]
among_without number other (x ∷ xs) i = elim (eqb_tells x number) [
  | inl p ↦ let (j, ne) = among_without number other xs (subst (λ (b : Bool). Among other (if b then without number xs else x ∷ without number xs)) p.0 i) in (later j, ne)
  | inr p ↦ elim (among_cases other x (without number xs) (subst (λ (b : Bool). Among other (if b then without number xs else x ∷ without number xs)) p.0 i)) [
    | inl e ↦ (subst (λ (m : ℕ). Among other (m ∷ xs)) e first, λ f. p.1 (sym e ∙ f))
    | inr j ↦ let (k, ne) = among_without number other xs j in (later k, ne)
  ]
]

pub without_among : (number other : ℕ) (numbers : List ℕ) → Among other numbers → other ≢ number → Among other (without number numbers)
without_among number other [] i ne = elim i [ ]
without_among number other (x ∷ xs) i ne = elim (eqb_tells x number) [
  | inl p ↦ subst (λ (b : Bool). Among other (if b then without number xs else x ∷ without number xs)) (sym p.0) (elim (among_cases other x xs i) [
    | inl e ↦ absurd (ne (e ∙ p.1))
    | inr j ↦ without_among number other xs j ne
  ])
  | inr p ↦ subst (λ (b : Bool). Among other (if b then without number xs else x ∷ without number xs)) (sym p.0) (elim (among_cases other x xs i) [
    | inl e ↦ subst (λ (m : ℕ). Among other (m ∷ without number xs)) e first
    | inr j ↦ later (without_among number other xs j ne)
  ])
]

-- ---- a head is marked deleted
module _ (a : ArenaView) (n : ℕ) (h : HeadView) (named : head_at a.nodes n ≡ Some h) where
  abbrev marked : ArenaView
  marked = with_head_changed a n with_deleted

  updated : Updates a.nodes marked.nodes n (Some (Head (with_deleted h)))
  updated = subst (λ (x : ArenaView). Updates a.nodes x.nodes n (Some (Head (with_deleted h)))) (sym (changed-head a n h with_deleted named))
      (updates-with_node a.nodes n (Head (with_deleted h)) (subst (λ (x : Option Node). IsSome x) (sym (node-from_head a.nodes n h named)) refl))

  pub head_now : head_at marked.nodes n ≡ Some (with_deleted h)
  head_now = ap (option_and_then head_of) updated.changed

  pub head_others : (other : ℕ) → other ≢ n → node_at marked.nodes other ≡ node_at a.nodes other
  head_others = updated.others

  no_border : border_at a.nodes n ≡ None
  no_border = ap (option_and_then border_of) (node-from_head a.nodes n h named)

  none_there : interior_at a.nodes n ≡ None
  none_there = ap (option_and_then interior_of) (node-from_head a.nodes n h named)

  -- a border has another number, and is named as it was
  pub border_apart : (other : ℕ) (b : BorderView) → border_at a.nodes other ≡ Some b → other ≢ n
  border_apart other b is e = (let clash : ◌≡◌ {A = Option BorderView} None (Some b) = sym no_border ∙ (ap (λ (m : ℕ). border_at a.nodes m) (sym e) ∙ is) in cc)

  pub border_same : (other : ℕ) (b : BorderView) → border_at a.nodes other ≡ Some b → border_at marked.nodes other ≡ Some b
  border_same other b is = ap (option_and_then border_of) (head_others other (border_apart other b is)) ∙ is

  -- from now on the root is closing
  abbrev pub closing_too : World → World
  closing_too w = record { twins = w.twins; closing = h.root.0 ∷ w.closing; chart = w.chart }

  -- The head of a layer, which nobody has taken, is marked deleted. Its root is a border that the call owns; from now on the call owns the head too.
  module _ (now : ℕ) (w : World) (prefix : List ℕ) (b : BorderView) (owned owns : List ℕ) (Then : World → Type 0) (world : IsWorld a now w) (stands : OnHead w.chart n prefix) (alive : h.version.deleted ≡ false) (is_root : border_at a.nodes h.root.0 ≡ Some b)
      (locked : b.version.locked ≡ true) (mine : Among h.root.0 owned) (keeps : KeepsTree a marked) where
    unlocked : h.version.locked ≡ false
    unlocked = (world.heads.alive n prefix h stands named).1

    nobody : IsTaken a w n → ⊥
    nobody = alive_free a n h w named unlocked alive (known_some w n _ stands)

    out_of : (other : ℕ) → NotAmong other owned → Among other (h.root.0 ∷ w.closing) → Among other w.closing
    out_of other out i = elim (among_cases other h.root.0 w.closing i) [
      | inl e ↦ absurd (out (subst (λ (m : ℕ). Among m owned) (sym e) mine))
      | inr j ↦ j
    ]

    is_same : (other : ℕ) → other ≢ n → NotAmong other owned → IsSame a marked w (closing_too w) other
    is_same other differ out = record { node = head_others other differ; spot = refl; twins = λ one two here. ((λ k. k), (λ k. k)); closing = out_of other out; retired = ((λ k. k), (λ k. k)) }

    heads_marked : HeadsStand marked (h.root.0 ∷ w.closing) w.chart
    heads_marked = record {
      alive = λ number layer x place there. elim (same_number number n) [
        | inl e ↦ (let both : ◌≡◌ {A = Option HeadView} (Some (with_deleted h)) (Some x) = sym head_now ∙ (ap (λ (k : ℕ). head_at marked.nodes k) (sym e) ∙ there) in
            let is_x : with_deleted h ≡ x = cc in
            (inr (subst (λ (v : HeadView). Among v.root.0 (h.root.0 ∷ w.closing)) is_x first), ap (λ (v : HeadView). v.version.locked) (sym is_x) ∙ unlocked))
        | inr differ ↦ let was = world.heads.alive number layer x place (sym (ap (option_and_then head_of) (head_others number differ)) ∙ there) in
            (elim was.0 [ inl d ↦ inl d | inr i ↦ inr (later i) ], was.1)
      ];
      roots = λ number i. elim (among_cases number h.root.0 w.closing i) [
        | inl e ↦ subst (λ (m : ℕ). IsLockedRoot marked m) (sym e) (subst (λ (o : Option BorderView). IsSomeAnd o (λ x. x.version.locked ≡ true)) (sym (border_same h.root.0 b is_root)) locked)
        | inr j ↦ roots_kept a marked w.closing n (λ k. absurd (no_root a w.closing w.chart n no_border world.heads k)) head_others world.heads.roots number j
      ];
    }

    pub goes_marked : ((other : ℕ) → Among other owned → Among other owns) → Among n owns → ((other : ℕ) → other ≢ n → Among other owns → Among other owned) → Then (closing_too w) → Goes now a marked w owned owns Then × SameContent (arena_seen a) (arena_seen marked)
    goes_marked more its fewer truth =
        let kept = keeps.keeps now w.twins w.chart world.index in (
          record {
            next = closing_too w;
            world = record {
              index = kept.index;
              keys = keys_same a marked kept.content world.keys;
              heads = heads_marked;
              alive = alive_there a marked w.chart n (alive_head marked w.chart n prefix 0 (on true) stands) head_others world.alive;
              twins = twins_beside a marked w.chart w.chart w.twins n (evolves_same 0 w.chart) (no_interior a w.chart n none_there) head_others world.twins;
              retired = retired_kept a marked now w.chart w.chart n (evolves_same 0 w.chart) (on_kept a now w.chart n _ _ _ _ stands world.retired) head_others refl world.retired;
            };
            evolves = λ begun before. evolves_same begun w.chart;
            leaves = λ other taken out.
                let differ : other ≢ n = λ e. nobody (subst (λ (m : ℕ). IsTaken a w m) e taken) in
                (is_same other differ out, λ i. out (fewer other differ i));
            takes = λ number taken. elim (same_number number n) [
              | inl e ↦ inl (subst (λ (m : ℕ). Among m owns) (sym e) its)
              | inr differ ↦ elim (is_among number owned) [
                | inl i ↦ inl (more number i)
                | inr out ↦ inr (taken_back a marked w (closing_too w) number (is_same number differ out) taken, out)
              ]
            ];
            spots = λ number out apart. refl;
            age = age_beside n no_border head_others;
            true = truth;
          },
          kept.content,
        )
