-- The step of a posting that cuts the interior whose new half is posted: the two are twins no more.
use Rattle.std.proofs.Common.{ℕ, zero, suc, ◌≡◌, ◌≢◌, ◌≤◌, ◌<◌, ◌⊎◌, inl, inr, List, [], ◌∷◌, length, take, drop, Option, Some, true, false, refl, sym, ap, subst, ◌∙◌, arith, length-drop}
use Rattle.std.specs.Prelude.{IsSomeAnd}
use Rattle.std.specs.Option.{option_and_then}
use Rattle.mt_interior.specs.Interior.{InteriorView, with_lock, with_first}
use Rattle.mt_interior.specs.declared.child.Child.{Child}
use Rattle.mt_interior.specs.declared.interior.TheConstants.{KEPT_CHILDREN}
use Rattle.mt_arena.specs.Node.{node_at, interior_at, interior_of}
use Rattle.mt_arena.specs.Arena.{ArenaView, with_interior_changed}
use Rattle.mt_chart.specs.Tree.{first, later, Among, head, interior, Arena, InteriorNode, PlainChild, PlainNode}
use Rattle.mt_chart.specs.Chart.{at_level, on, gone, Spot, spot, Chart, NoChildTwice, Owns, by_head, by_interior}
use Rattle.mt_chart.specs.Steps.{Twin, AreTwins, SameContent}
use Rattle.mt_chart.proofs.Basics.{same_number}
use Rattle.mt_chart.proofs.Entries.{among_cases}
use Rattle.mt_chart.proofs.HeldNodes.{evolves_same}
use Rattle.mt_chart.proofs.InteriorLaws.{fewer_twins}
use Rattle.mt_tree.specs.Seen.{arena_seen, interior_seen, child_seen, children_seen}
use Rattle.mt_tree.specs.Keeping.{KeepsWhere}
use Rattle.mt_tree.specs.InteriorSteps.{IsNotGone, CutsAt}
use Rattle.mt_tree.proofs.SeenLemmas.{seen-interior}
use Rattle.mt_tree.proofs.InteriorPlaces.{is_on_as}
use Rattle.mt_steps.specs.World.{World, IsWorld, IsTaken, HasSameTwins, Goes}
use Rattle.mt_steps.proofs.BorderLemmas.{keys_same, interior_kept, retired_kept, on_kept}
use Rattle.mt_steps.proofs.AliveLemmas.{alive_there}
use Rattle.mt_steps.proofs.FoundLemmas.{some_at}
use Rattle.mt_post.specs.declared.posting.Posting.{Posting}
use Rattle.mt_post.specs.declared.posting.Progressed.TheVariants.{Moved}
use Rattle.mt_post.specs.declared.split.Split.{Split}
use Rattle.mt_post.specs.declared.posting.PostStage.TheVariants.{HalfPosted, HalfCut}
use Rattle.mt_post.specs.Posting.{goal_level, split_owns, AreWaiting, IsToPost, IsHeadOf, IsPostedHalf, PostingIsTrue}
use Rattle.mt_post.specs.Follows.{PostStep}
use Rattle.mt_steps.proofs.AgingLemmas.{age_beside}
use Rattle.mt_steps.proofs.NodeLemmas.{goes_with, heads_beside, interior_now, interior_others, interior_no_head, interior_no_border, interior_alive, interior_taken, not_both, known_some}
use Rattle.mt_post.proofs.WalkLemmas.{at_stage}
use Rattle.mt_post.proofs.KeptLemmas.{all_stay, owns_below}
use Rattle.mt_post.proofs.NumberLemmas.{interior_leaves_twice}

-- ---- the twins but for those of a number
abbrev kept_pair : {A B C D : Type 0} → Twin → A ⊎ B → C ⊎ D → List Twin → List Twin
kept_pair t (inl e) d twins = twins
kept_pair t (inr x) (inl e) twins = twins
kept_pair t (inr x) (inr y) twins = t ∷ twins

abbrev pub without : ℕ → List Twin → List Twin
without n [] = []
without n (t ∷ twins) = kept_pair t (same_number t.one n) (same_number t.other n) (without n twins)

kept_in : {one other n : ℕ} (t : Twin) (d : (t.one ≡ n) ⊎ (t.one ≢ n)) (e : (t.other ≡ n) ⊎ (t.other ≢ n)) (twins rest : List Twin) → one ≢ n → other ≢ n → AreTwins (t ∷ rest) one other → (AreTwins rest one other → AreTwins twins one other) → AreTwins (kept_pair t d e twins) one other
kept_in {one = one} {other = other} t (inl at) e twins rest not_one not_other pair go = elim (among_cases (record { one = one; other = other }) t rest pair) [ inl same ↦ absurd (not_one (ap (λ (x : Twin). x.one) same ∙ at)) | inr i ↦ go i ]
kept_in {one = one} {other = other} t (inr x) (inl at) twins rest not_one not_other pair go = elim (among_cases (record { one = one; other = other }) t rest pair) [ inl same ↦ absurd (not_other (ap (λ (x : Twin). x.other) same ∙ at)) | inr i ↦ go i ]
kept_in {one = one} {other = other} t (inr x) (inr y) twins rest not_one not_other pair go = elim (among_cases (record { one = one; other = other }) t rest pair) [ inl same ↦ subst (λ (v : Twin). Among (record { one = one; other = other }) (v ∷ twins)) same first | inr i ↦ later (go i) ]

pub without_in : (n : ℕ) (twins : List Twin) (one other : ℕ) → one ≢ n → other ≢ n → AreTwins twins one other → AreTwins (without n twins) one other
without_in n [] one other not_one not_other pair = elim pair [ ]
without_in n (t ∷ twins) one other not_one not_other pair = kept_in t (same_number t.one n) (same_number t.other n) (without n twins) twins not_one not_other pair (λ i. without_in n twins one other not_one not_other i)

kept_out : {one other n : ℕ} (t : Twin) (d : (t.one ≡ n) ⊎ (t.one ≢ n)) (e : (t.other ≡ n) ⊎ (t.other ≢ n)) (twins rest : List Twin) → AreTwins (kept_pair t d e twins) one other → (AreTwins twins one other → AreTwins rest one other × (one ≢ n) × (other ≢ n)) → AreTwins (t ∷ rest) one other × (one ≢ n) × (other ≢ n)
kept_out t (inl at) e twins rest pair go = let (i, x, y) = go pair in (later i, x, y)
kept_out t (inr u) (inl at) twins rest pair go = let (i, x, y) = go pair in (later i, x, y)
kept_out {one = one} {other = other} {n = n} t (inr u) (inr v) twins rest pair go = elim (among_cases (record { one = one; other = other }) t twins pair) [
  | inl same ↦ (
    subst (λ (s : Twin). Among (record { one = one; other = other }) (s ∷ rest)) same first,
    (λ e. u (sym (ap (λ (s : Twin). s.one) same) ∙ e)),
    (λ e. v (sym (ap (λ (s : Twin). s.other) same) ∙ e)),
  )
  | inr i ↦ (let (j, x, y) = go i in (later j, x, y))
]

pub without_out : (n : ℕ) (twins : List Twin) (one other : ℕ) → AreTwins (without n twins) one other → AreTwins twins one other × (one ≢ n) × (other ≢ n)
without_out n [] one other pair = elim pair [ ]
without_out n (t ∷ twins) one other pair = kept_out t (same_number t.one n) (same_number t.other n) (without n twins) twins pair (λ i. without_out n twins one other i)

-- ---- two parts of a list of children
dropped : (k : ℕ) (children : List Child) (c : PlainChild) → Among c (children_seen (drop k children)) → Among c (children_seen children)
dropped zero children c i = i
dropped (suc k) [] c i = i
dropped (suc k) (x ∷ children) c i = later (dropped k children c i)

parted : (k : ℕ) (children : List Child) (c d : PlainChild) → NoChildTwice (children_seen children) → Among c (children_seen (take k children)) → Among d (children_seen (drop k children)) → c.number ≢ d.number
parted zero children c d once i j = elim i [ ]
parted (suc k) [] c d once i j = elim i [ ]
parted (suc k) (x ∷ children) c d once i j = λ e. elim (among_cases c (child_seen x) (children_seen (take k children)) i) [
  | inl same ↦ once.0 d (dropped k children d j) (sym e ∙ ap (λ (v : PlainChild). v.number) same)
  | inr rest ↦ parted k children c d once.1 rest j e
]

-- what an interior names is one of its children
owned_child : (arena : Arena) (chart : Chart) (number child : ℕ) (node : InteriorNode) → arena number ≡ Some (interior node) → Owns arena chart number child → (c : PlainChild) × Among c node.children × (c.number ≡ child)
owned_child arena chart number child node there (by_head prefix other place is named) = absurd (let clash : ◌≡◌ {A = Option PlainNode} (Some (head other)) (Some (interior node)) = sym is ∙ there in cc)
owned_child arena chart number child node there (by_interior below prefix low posted other c place is among named) =
    let both : ◌≡◌ {A = Option PlainNode} (Some (interior other)) (Some (interior node)) = sym is ∙ there in
    let same : other ≡ node = cc in
    (c, subst (λ (v : InteriorNode). Among c v.children) same among, named)

-- ---- the interior is cut
module _ (a : ArenaView) (posting : Posting) (split : Split) (is : posting.stage ≡ HalfPosted split) where
  abbrev i : ℕ
  i = split.interior.0

  abbrev m : ℕ
  m = split.half.node.0

  abbrev cut_one : InteriorView → InteriorView
  cut_one x = with_first x KEPT_CHILDREN

  abbrev unlock : InteriorView → InteriorView
  unlock x = with_lock x false

  abbrev middle : ArenaView
  middle = with_interior_changed a i cut_one

  abbrev new : ArenaView
  new = with_interior_changed middle i unlock

  abbrev rest : List ℕ
  rest = split_owns posting.half.0 posting.waiting

  abbrev then : Posting
  then = record posting { stage = HalfCut split.half.node }

  -- the halves differ
  halves_differ : (w : World) (prefix : List ℕ) (p : IsPostedHalf a w prefix split) → m ≢ i
  halves_differ w prefix p e =
      let both : ◌≡◌ {A = Option InteriorView} (Some p.half) (Some p.interior) = sym p.half_named ∙ (ap (λ (k : ℕ). interior_at a.nodes k) e ∙ p.named) in
      let same : p.half ≡ p.interior = cc in
      let count = length-drop KEPT_CHILDREN p.interior.children in
      let lengths : length p.interior.children ≡ length (drop KEPT_CHILDREN p.interior.children) = sym (ap (λ (v : InteriorView). length v.children) same) ∙ ap (λ (l : List Child). length l) p.upper in
      let full = p.full in
      omega (arith, count, lengths, full)

  not_gone : (w : World) (prefix : List ℕ) (p : IsPostedHalf a w prefix split) → IsNotGone w.chart i
  not_gone w prefix p role other low epoch e = (let clash : ◌≡◌ {A = Option Spot} (Some (spot (at_level p.stands.level) prefix p.stands.low (on p.stands.posted))) (Some (spot role other low (gone epoch))) = sym p.stands.place ∙ e in cc)

  -- others have the twins that they had
  same_twins : (w : World) (prefix : List ℕ) (p : IsPostedHalf a w prefix split) (other : ℕ) → other ≢ m → other ≢ i → HasSameTwins w.twins (without i w.twins) other
  same_twins w prefix p other out_m out_i one two here = (
    (λ pair. (without_out i w.twins one two pair).0),
    (λ pair. without_in i w.twins one two (λ e. beside one two here pair (inl e)) (λ e. beside one two here pair (inr e)) pair),
  )
    where
      beside : (one two : ℕ) → (one ≡ other) ⊎ (two ≡ other) → AreTwins w.twins one two → (one ≡ i) ⊎ (two ≡ i) → ⊥
      beside one two here pair at = elim here [
        | inl h ↦ elim at [
          | inl e ↦ out_i (sym h ∙ e)
          | inr e ↦ elim (p.twins one two pair (inr e)) [ inl f ↦ out_m (sym h ∙ f) | inr f ↦ halves_differ w prefix p (sym f ∙ e) ]
        ]
        | inr h ↦ elim at [
          | inl e ↦ elim (p.twins one two pair (inl e)) [ inl f ↦ halves_differ w prefix p (sym f ∙ e) | inr f ↦ out_m (sym h ∙ f) ]
          | inr e ↦ out_i (sym h ∙ e)
        ]
      ]

  cut_so : (now begun : ℕ) (w : World) (prefix : List ℕ) → IsWorld a now w → begun ≤ now → IsToPost a w prefix posting.half.0 posting.low → IsHeadOf w begun posting.head.0 prefix → AreWaiting a w prefix posting.waiting → goal_level posting.waiting < split.half.level → (p : IsPostedHalf a w prefix split)
      → KeepsWhere a middle (CutsAt a i KEPT_CHILDREN) → KeepsWhere middle new (λ chart. IsNotGone chart i ⊎ ((cut_one p.interior).version.deleted ≡ true))
      → Goes now a new w (m ∷ i ∷ rest) (m ∷ rest) (λ next. PostingIsTrue begun then new next) × SameContent (arena_seen a) (arena_seen new)
  cut_so now begun w prefix world before t known all above p keeps keeps_again =
      let x = p.interior in
      let half : ℕ = posting.half.0 in
      let owns : List ℕ = m ∷ i ∷ rest in
      let differ = halves_differ w prefix p in
      let there : interior_at middle.nodes i ≡ Some (cut_one x) = interior_now a i x cut_one p.named in
      let kept = keeps.keeps now w.twins w.chart world.index (record { stays = not_gone w prefix p; split = x; half_number = m; half = p.half; is_split = p.named; is_half = p.half_named; upper = p.upper; prefix = prefix; half_stands = p.half_stands }) in
      let again = keeps_again.keeps now w.twins w.chart kept.index (inl (not_gone w prefix p)) in
      let others : (other : ℕ) → other ≢ i → node_at new.nodes other ≡ node_at a.nodes other = λ other apart. interior_others middle i (cut_one x) unlock there other apart ∙ interior_others a i x cut_one p.named other apart in
      let now_i : interior_at new.nodes i ≡ Some (unlock (cut_one x)) = interior_now middle i (cut_one x) unlock there in
      let now_m : interior_at new.nodes m ≡ Some p.half = ap (option_and_then interior_of) (others m differ) ∙ p.half_named in
      let once = (is_on_as a i x p.named now w.twins w.chart world.index prefix p.stands).once in
      let fewer : List Twin = without i w.twins in
      let no_common : (child : ℕ) → Owns (arena_seen new) w.chart i child → Owns (arena_seen new) w.chart m child → ⊥ = λ child by_i by_m.
      let (c, c_among, c_is) = owned_child (arena_seen new) w.chart i child (interior_seen (unlock (cut_one x))) (seen-interior new i (unlock (cut_one x)) now_i) by_i in
      let (d, d_among, d_is) = owned_child (arena_seen new) w.chart m child (interior_seen p.half) (seen-interior new m p.half now_m) by_m in
      parted KEPT_CHILDREN x.children c d once c_among (subst (λ (l : List Child). Among d (children_seen l)) p.upper d_among) (c_is ∙ sym d_is) in
      let index = fewer_twins now w.twins fewer (arena_seen new) w.chart again.index (λ one other child by_one by_other pair. elim (same_number one i) [
        | inl e ↦ absurd (elim (p.twins one other pair (inl e)) [
          | inl at ↦ differ (sym at ∙ e)
          | inr at ↦ no_common child (subst (λ (k : ℕ). Owns (arena_seen new) w.chart k child) e by_one) (subst (λ (k : ℕ). Owns (arena_seen new) w.chart k child) at by_other)
        ])
        | inr not_one ↦ elim (same_number other i) [
          | inl e ↦ absurd (elim (p.twins one other pair (inr e)) [
            | inl at ↦ no_common child (subst (λ (k : ℕ). Owns (arena_seen new) w.chart k child) e by_other) (subst (λ (k : ℕ). Owns (arena_seen new) w.chart k child) at by_one)
            | inr at ↦ differ (sym at ∙ e)
          ])
          | inr not_other ↦ inr (without_in i w.twins one other not_one not_other pair)
        ]
      ]) in
      let stay = all_stay a new w (record { twins = fewer; closing = w.closing; chart = w.chart }) prefix half posting.low posting.waiting (λ number k.
      let not_half = owns_below a w prefix half posting.low m p.half posting.waiting t all p.half_named (subst (λ (l : ℕ). goal_level posting.waiting < l) (sym p.half_level) above) number k in
      let not_split = owns_below a w prefix half posting.low i x posting.waiting t all p.named (subst (λ (l : ℕ). goal_level posting.waiting < l) (sym p.level) above) number k in
      record { node = others number not_split; spot = refl; twins = same_twins w prefix p number not_half not_split; closing = λ j. j; retired = ((λ e. e), (λ e. e)) }) t all in
      let content : SameContent (arena_seen a) (arena_seen new) = λ key row. ((λ h. (kept.content key row).0 ((again.content key row).0 h)), (λ h. (again.content key row).1 ((kept.content key row).1 h))) in (
        goes_with now a new w (record { twins = fewer; closing = w.closing; chart = w.chart }) i owns (m ∷ rest) (λ next. PostingIsTrue begun then new next) (record {
          index = index;
          keys = keys_same a new content world.keys;
          heads = heads_beside a new w.chart w.chart i (λ number q h. h) (interior_no_head middle i (cut_one x) unlock there) (interior_no_border a i x cut_one p.named) others world.heads;
          alive = alive_there a new w.chart i (interior_alive middle i (cut_one x) unlock there w.chart (inr p.alive)) others world.alive;
          twins = record {
            locked = λ one other pair.
                let (old, not_one, not_other) = without_out i w.twins one other pair in
                let both = world.twins.locked one other old in
                (interior_kept a new w.chart w.chart one (evolves_same 0 w.chart) (others one not_one) both.0, interior_kept a new w.chart w.chart other (evolves_same 0 w.chart) (others other not_other) both.1);
          };
          retired = retired_kept a new now w.chart w.chart i (evolves_same 0 w.chart) (on_kept a now w.chart i _ _ _ _ p.stands.place world.retired) others refl world.retired;
        }) (age_beside i (interior_no_border a i x cut_one p.named) others) refl refl (λ b le. evolves_same b w.chart) others (λ other apart. refl)
            (λ other apart. same_twins w prefix p other (λ e. apart (subst (λ (v : ℕ). Among v owns) (sym e) first)) (λ e. apart (subst (λ (v : ℕ). Among v owns) (sym e) (later first))))
            (λ taken apart. absurd (apart (later first)))
            (λ other taken out k. elim (among_cases other m rest k) [ inl e ↦ out (subst (λ (v : ℕ). Among v owns) (sym e) first) | inr j ↦ out (later (later j)) ])
            (λ other k taken. elim (among_cases other m (i ∷ rest) k) [
              | inl e ↦ subst (λ (v : ℕ). Among v (m ∷ rest)) (sym e) first
              | inr j ↦ elim (among_cases other i rest j) [
                | inl e ↦ absurd (not_both (unlock (cut_one x)).version.locked (w.chart i) refl (known_some w i _ p.stands.place) (interior_taken middle i (cut_one x) unlock there (record { twins = fewer; closing = w.closing; chart = w.chart }) (subst (λ (v : ℕ). IsTaken new (record { twins = fewer; closing = w.closing; chart = w.chart }) v) e taken)))
                | inr l ↦ later l
              ]
            ])
            (λ apart taken. absurd (apart (later first))) (
              prefix,
              record {
                border = stay.0;
                head = known;
                waiting = stay.1;
                walks = tt;
                stage = record {
                  interior = p.half;
                  named = now_m;
                  locked = p.half_locked;
                  alive = p.half_alive;
                  stands = p.half_stands;
                  lone = (
                    (λ other pair. let (old, not_one, not_other) = without_out i w.twins other m pair in elim (p.half_twins other m old (inr refl)) [ inl e ↦ not_one e | inr e ↦ not_other e ]),
                    (λ other pair. let (old, not_one, not_other) = without_out i w.twins m other pair in elim (p.half_twins m other old (inl refl)) [ inl e ↦ not_one e | inr e ↦ not_other e ]),
                  );
                  above = subst (λ (l : ℕ). goal_level posting.waiting < l) (sym p.half_level) above;
                };
              },
            ),
        content,
      )

  pub cuts : (between after : ArenaView) → between ≡ middle → KeepsWhere a between (CutsAt a i KEPT_CHILDREN) → after ≡ with_interior_changed between i unlock
      → IsSomeAnd (interior_at between.nodes i) (λ x. KeepsWhere between after (λ chart. IsNotGone chart i ⊎ (x.version.deleted ≡ true))) → PostStep a after posting Moved then
  cuts between after cut_is keeps unlocked keeps_again = at_stage a after posting posting.waiting (HalfPosted split) Moved then refl is (record {
    steps = λ now begun w prefix world before t known all truth.
        let (above, p) = truth in
        let is_new : after ≡ new = unlocked ∙ ap (λ (v : ArenaView). with_interior_changed v i unlock) cut_is in
        let there : interior_at middle.nodes i ≡ Some (cut_one p.interior) = interior_now a i p.interior cut_one p.named in
        let again = some_at _ (interior_at middle.nodes i) (cut_one p.interior) (subst (λ (v : ArenaView). IsSomeAnd (interior_at v.nodes i) (λ x. KeepsWhere v after (λ chart. IsNotGone chart i ⊎ (x.version.deleted ≡ true)))) cut_is keeps_again) there in
        subst (λ (v : ArenaView). Goes now a v w (m ∷ i ∷ rest) (m ∷ rest) (λ next. PostingIsTrue begun then v next) × SameContent (arena_seen a) (arena_seen v)) (sym is_new)
        (cut_so now begun w prefix world before t known all above p (subst (λ (v : ArenaView). KeepsWhere a v (CutsAt a i KEPT_CHILDREN)) cut_is keeps)
        (subst (λ (v : ArenaView). KeepsWhere middle v (λ chart. IsNotGone chart i ⊎ ((cut_one p.interior).version.deleted ≡ true))) is_new again));
    same = refl;
    waits = tt;
    ends = tt;
    gets_on = refl;
    numbers = (interior_leaves_twice a between after i cut_one unlock cut_is unlocked (λ i. refl) (λ i. refl)).numbers;
    heads = (interior_leaves_twice a between after i cut_one unlock cut_is unlocked (λ i. refl) (λ i. refl)).heads;
    marks = (interior_leaves_twice a between after i cut_one unlock cut_is unlocked (λ i. refl) (λ i. refl)).marks;
  })
