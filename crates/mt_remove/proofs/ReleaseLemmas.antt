-- A border that a tidy has locked is unlocked, and it owns the others still.
use Rattle.std.proofs.Common.{ℕ, ◌≡◌, inl, inr, List, ◌∷◌, Option, Some, None, IsSome, true, false, refl, sym, subst}
use Rattle.mt_border.specs.Border.{BorderView, with_unlocked}
use Rattle.mt_arena.specs.Node.{border_at}
use Rattle.mt_arena.specs.Arena.{ArenaView, with_border_changed}
use Rattle.mt_chart.specs.Tree.{first, later}
use Rattle.mt_chart.specs.Chart.{Spot}
use Rattle.mt_chart.specs.Steps.{SameContent}
use Rattle.mt_chart.proofs.Entries.{among_cases}
use Rattle.mt_tree.specs.Seen.{arena_seen}
use Rattle.mt_tree.specs.Keeping.{KeepsTree}
use Rattle.mt_tree.proofs.AgeLemmas.{ages_unlocked}
use Rattle.mt_steps.specs.World.{World, IsWorld, NotAmong, Goes}
use Rattle.mt_steps.proofs.BorderLemmas.{keys_same, goes_border, mine_free, locked_may}

abbrev pub unlocked_one : BorderView → BorderView
unlocked_one b = with_unlocked b

pub goes_unlocked : (epoch : ℕ) (a : ArenaView) (w : World) (n : ℕ) (b : BorderView) → border_at a.nodes n ≡ Some b → b.version.locked ≡ true → b.version.deleted ≡ false → NotAmong n w.closing → IsSome (w.chart n) → (rest : List ℕ) → NotAmong n rest → IsWorld a epoch w → (after : ArenaView) → after ≡ with_border_changed a n unlocked_one → KeepsTree a after
    → (Then : ArenaView → World → Type 0) → Then (with_border_changed a n unlocked_one) w → Goes epoch a after w (n ∷ rest) rest (Then after) × SameContent (arena_seen a) (arena_seen after)
goes_unlocked epoch a w n b named locked alive free known rest once world after value keeps Then truth =
    let new : ArenaView = with_border_changed a n unlocked_one in
    let kept = (subst (λ (x : ArenaView). KeepsTree a x) value keeps).keeps epoch w.twins w.chart world.index in
    subst (λ (x : ArenaView). Goes epoch a x w (n ∷ rest) rest (Then x) × SameContent (arena_seen a) (arena_seen x)) (sym value) (
      goes_border a n b unlocked_one named epoch w (n ∷ rest) rest (Then new) world (λ known. (ages_unlocked b, inr refl)) kept.index (keys_same a new kept.content world.keys) (mine_free a n w (n ∷ rest) first) (λ other i. inl (later i))
          (λ other ne i. elim (among_cases other n rest i) [ inl e ↦ absurd (ne e) | inr j ↦ j ])
          (λ taken. absurd (elim taken [ inl held ↦ (let clash : false ≡ true = held in cc) | inr none ↦ (let some : IsSome (let nothing : Option Spot = None in nothing) = subst (λ (x : Option Spot). IsSome x) none known in cc) ]))
          (locked_may a n b unlocked_one named epoch w world locked free (inr alive)) truth,
      kept.content,
    )
