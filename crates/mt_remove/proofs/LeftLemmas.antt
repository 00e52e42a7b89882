-- The steps that find the border before one that is marked deleted, and lock it.
use Rattle.std.proofs.Common.{ℕ, ◌≡◌, ◌≢◌, ◌≤◌, inl, inr, List, [], ◌∷◌, Option, Some, None, IsSome, Bool, true, false, refl, sym, ap, subst, ◌∙◌, arith}
use Rattle.std.specs.Prelude.{IsSomeAnd}
use Rattle.std.specs.Option.{option_and_then}
use Rattle.mt_slice.specs.Place.{slice_number}
use Rattle.mt_border.specs.Border.{BorderView, with_locked}
use Rattle.mt_border.specs.Order.{IsBorder}
use Rattle.mt_border.proofs.BorderLemmas.{unlocked_written}
use Rattle.mt_arena.specs.Node.{node_at, border_at, border_of}
use Rattle.mt_arena.specs.Arena.{ArenaView, with_border_changed}
use Rattle.mt_arena.specs.declared.node.Node.{Node}
use Rattle.mt_arena.specs.declared.part.Part.{Part}
use Rattle.mt_arena.proofs.NodeLemmas.{node-from_border}
use Rattle.mt_chart.specs.Tree.{first, later}
use Rattle.mt_chart.specs.Chart.{top, Holds}
use Rattle.mt_chart.specs.Steps.{SameContent}
use Rattle.mt_chart.proofs.Entries.{among_cases}
use Rattle.mt_chart.proofs.HeldNodes.{border_is_on}
use Rattle.mt_tree.specs.Seen.{arena_seen, border_seen}
use Rattle.mt_tree.specs.Descent.{is_marked, MayVisit}
use Rattle.mt_tree.specs.Keeping.{KeepsTree}
use Rattle.mt_tree.proofs.HeldLemmas.{held_may_visit}
use Rattle.mt_tree.proofs.SeenLemmas.{seen-border}
use Rattle.mt_tree.proofs.AgeLemmas.{ages_locked}
use Rattle.mt_steps.specs.declared.progress.Progress.{Progress}
use Rattle.mt_steps.specs.declared.progress.Progress.TheVariants.{Moved, Waits}
use Rattle.mt_steps.specs.declared.reader.Reader.TheVariants.{Begins, Looked, Bounded, Reads, AtValue, Settles}
use Rattle.mt_steps.specs.declared.reader.Reading.TheVariants.{Restarts, Repeats, GoesOn, To, Finds}
use Rattle.mt_steps.specs.Causes.{IsMarkedAt, IsLockedAlready}
use Rattle.mt_steps.specs.Finding.{Finding, FindReading, FindingWaits}
use Rattle.mt_steps.specs.Reader.{IsReader, MayRead, ReadWaits}
use Rattle.mt_steps.specs.Step.{left_with}
use Rattle.mt_steps.specs.Way.{prefix_of}
use Rattle.mt_steps.specs.World.{World, IsWorld, Goes}
use Rattle.mt_steps.proofs.BorderLemmas.{alive_changed, now_named, others_named, goes_border, keys_same, unlocked_free, unlocked_root, on_kept}
use Rattle.mt_steps.proofs.NodeLemmas.{known_some}
use Rattle.mt_steps.proofs.RangeLemmas.{slice_back}
use Rattle.mt_remove.specs.declared.stage.Stage.{Stage}
use Rattle.mt_remove.specs.declared.stage.Stage.TheVariants.{Marked, LeftLocked}
use Rattle.mt_remove.specs.declared.stage.Unlinking.{Unlinking}
use Rattle.mt_remove.specs.declared.tidy.Tidy.{Tidy}
use Rattle.mt_remove.specs.Reading.{SeekReads, seek_reading}
use Rattle.mt_remove.specs.Tidy.{stage_owns, tidy_held, StageIsTrue, ThenTidy, IsTidied, StageReads, MayTidy}
use Rattle.mt_remove.specs.Locked.{IsUnlinking, HasLeft}
use Rattle.mt_remove.specs.Known.{LeftFinding, AtLock}
use Rattle.mt_remove.specs.Follows.{approach_progress, approached, slice_rest, LocksLeftBy, Follows, StageWaits, TidyStep}
use Rattle.mt_remove.proofs.LeftReads.{LeftLeads, left_leads}
use Rattle.mt_remove.proofs.NoFinds.{NoFinds, seek_none}
use Rattle.mt_remove.proofs.SeekWaits.{seek_waits}
use Rattle.mt_remove.proofs.StageLemmas.{at_stage, true_at, law_same}

-- what the call knows of the border that it unlinks, if another changes
pub unlinking_beside : (begun : ℕ) (a : ArenaView) (w : World) (prefix : List ℕ) (u : Unlinking) (n : ℕ) → IsUnlinking begun a w prefix u → (b : BorderView) (change : BorderView → BorderView) → border_at a.nodes n ≡ Some b → u.border.0 ≢ n → IsUnlinking begun (with_border_changed a n change) w prefix u
unlinking_beside begun a w prefix u n k b change named differ =
    let e = k.border in
    record {
      border = record {
        b = e.b;
        named = ap (option_and_then border_of) (others_named a n b change named u.border.0 differ) ∙ e.named;
        locked = e.locked;
        written = e.written;
        empty = e.empty;
        later = e.later;
        place = e.place;
        free = e.free;
      };
      marked = k.marked;
      before = k.before;
      fits = k.fits;
      noted = k.noted;
      above = k.above;
      headed = k.headed;
    }

-- ---- on its way to the border before it
-- the way begins again at the head
pub from_head : (begun : ℕ) (a : ArenaView) (w : World) (prefix : List ℕ) (u : Unlinking) → IsUnlinking begun a w prefix u → IsUnlinking begun a w prefix (record u { node = u.head }) × Holds w.chart begun u.head.0 prefix u.slice
from_head begun a w prefix u k = (
  record { border = k.border; marked = k.marked; before = k.before; fits = k.fits; noted = k.noted; above = k.above; headed = k.headed },
  record { role = top; low = 0; standing = k.headed.standing; place = k.headed.place; at_most = omega arith; since = k.headed.since },
)

module _ (epoch : ℕ) (a : ArenaView) (tidy : Tidy) (u : Unlinking) (is : tidy.stage ≡ Marked u) where
  abbrev Truth : ℕ → World → Type 0
  Truth begun w = StageIsTrue begun tidy.key tidy.way tidy.finding (Marked u) a w

  abbrev prefix : List ℕ
  prefix = prefix_of tidy.key tidy.way

  -- ---- what it asks
  module _ (may : MayTidy epoch a tidy) where
    truth : Truth may.begun may.w
    truth = true_at epoch a tidy (Marked u) is may

    visits : MayVisit a u.node.0 u.slice
    visits = held_may_visit a epoch may.w.twins may.w.chart may.begun u.node.0 u.slice prefix may.world.index truth.1

    pub left_named : IsSome (node_at a.nodes u.node.0)
    left_named = visits.named

    reader : (finding : Finding) → LeftFinding may.begun prefix u.slice u.node.0 finding a may.w → IsReader finding
    reader Begins t = tt
    reader (Looked counters) t = tt
    reader (Bounded counters right) t = tt
    reader (Reads notes) t = absurd t
    reader (AtValue notes kind) t = absurd t
    reader (Settles counters sight) t = tt

    begins : (finding : Finding) → LeftFinding may.begun prefix u.slice u.node.0 finding a may.w → border_at a.nodes u.node.0 ≡ None → finding ≡ Begins
    begins Begins t none = refl
    begins (Looked counters) at none = absurd (let clash : ◌≡◌ {A = Option BorderView} (Some at.b) None = sym at.named ∙ none in cc)
    begins (Bounded counters right) at none = absurd (let clash : ◌≡◌ {A = Option BorderView} (Some at.b) None = sym at.named ∙ none in cc)
    begins (Reads notes) t none = absurd t
    begins (AtValue notes kind) t none = absurd t
    begins (Settles counters sight) t none = absurd t

    module _ (finding : Finding) (finding_is : finding ≡ tidy.finding) where
      pub left_reader : IsReader finding
      left_reader = subst IsReader (sym finding_is) (reader tidy.finding truth.2)

      pub left_may : (rest : List ℕ) → rest ≡ slice_rest u → MayRead a u.node.0 (slice_number rest) finding
      left_may rest rest_is =
          subst (λ (s : ℕ). MayRead a u.node.0 s finding) (sym (slice_back u.slice rest rest_is truth.0.fits))
          (subst (λ (f : Finding). MayRead a u.node.0 u.slice f) (sym finding_is) (record { begins = begins tidy.finding truth.2; child = visits.has_child }))

    bounded_at : (finding : Finding) → LeftFinding may.begun prefix u.slice u.node.0 finding a may.w → AtLock finding → IsSome (border_at a.nodes u.node.0)
    bounded_at (Bounded counters right) at lock = subst (λ (o : Option BorderView). IsSome o) (sym at.named) refl
    bounded_at Begins t lock = absurd lock
    bounded_at (Looked counters) t lock = absurd lock
    bounded_at (Reads notes) t lock = absurd lock
    bounded_at (AtValue notes kind) t lock = absurd lock
    bounded_at (Settles counters sight) t lock = absurd lock

    -- it locks a border
    pub lock_there : AtLock tidy.finding → IsSome (border_at a.nodes u.node.0)
    lock_there lock = bounded_at tidy.finding truth.2 lock

  -- ---- a reading
  -- what is true where it leads
  approached_true : (begun : ℕ) (w : World) (world : IsWorld a epoch w) (t : Truth begun w) (reading : FindReading) → LeftLeads a epoch w world begun prefix u.slice u.node.0 t.0.fits t.1 reading
      → ThenTidy (approach_progress reading) begun (approached tidy u reading) a w
  approached_true begun w world t Restarts led = let (k, held) = from_head begun a w prefix u t.0 in (k, held, tt)
  approached_true begun w world t Repeats led = (t.0, t.1, tt)
  approached_true begun w world t (GoesOn next) led = (t.0, t.1, led)
  approached_true begun w world t (To node) led = (record { border = t.0.border; marked = t.0.marked; before = t.0.before; fits = t.0.fits; noted = t.0.noted; above = t.0.above; headed = t.0.headed }, led, tt)
  approached_true begun w world t (Finds sight) led = (t.0, t.1, tt)

  approached_owns : (reading : FindReading) → stage_owns (Marked u) ≡ (left_with (approach_progress reading) (tidy_held (approached tidy u reading))).owns
  approached_owns Restarts = refl
  approached_owns Repeats = refl
  approached_owns (GoesOn next) = refl
  approached_owns (To node) = refl
  approached_owns (Finds sight) = refl

  approached_key : (reading : FindReading) → (approached tidy u reading).key ≡ tidy.key
  approached_key Restarts = refl
  approached_key Repeats = refl
  approached_key (GoesOn next) = refl
  approached_key (To node) = refl
  approached_key (Finds sight) = refl

  approached_same : (dest : Finding) (reading : FindReading) → approached (record tidy { finding = dest }) u reading ≡ approached tidy u reading
  approached_same dest Restarts = refl
  approached_same dest Repeats = refl
  approached_same dest (GoesOn next) = refl
  approached_same dest (To node) = refl
  approached_same dest (Finds sight) = refl

  approached_tidied : (reading : FindReading) → IsTidied (approach_progress reading)
  approached_tidied Restarts = tt
  approached_tidied Repeats = tt
  approached_tidied (GoesOn next) = tt
  approached_tidied (To node) = tt
  approached_tidied (Finds sight) = tt

  approached_waits : (reading : FindReading) → NoFinds reading → ReadWaits (FindingWaits tidy.finding) a u.node.0 reading → StageWaits a tidy (Marked u) (approach_progress reading)
  approached_waits Restarts apart why = inl why
  approached_waits Repeats apart why = inl why
  approached_waits (GoesOn next) apart why = tt
  approached_waits (To node) apart why = tt
  approached_waits (Finds sight) apart why = absurd apart

  -- it finds nothing before it locks the border
  finds_none : (begun : ℕ) (w : World) (finding : Finding) → LeftFinding begun prefix u.slice u.node.0 finding a w → (part : Part) (rest : List ℕ) → NoFinds (seek_reading finding rest part)
  finds_none begun w Begins t part rest = seek_none Begins (λ e. e) rest part
  finds_none begun w (Looked counters) t part rest = seek_none (Looked counters) (λ e. e) rest part
  finds_none begun w (Bounded counters right) t part rest = seek_none (Bounded counters right) (λ e. e) rest part
  finds_none begun w (Reads notes) t part rest = absurd t
  finds_none begun w (AtValue notes kind) t part rest = absurd t
  finds_none begun w (Settles counters sight) t part rest = absurd t

  module _ (before : AtLock tidy.finding → ⊥) (finding : Finding) (finding_is : finding ≡ tidy.finding) (rest : List ℕ) (rest_is : rest ≡ slice_rest u) (reading : FindReading) (reads_it : SeekReads a u.node.0 rest finding reading) (may : MayTidy epoch a tidy) where
    own : SeekReads a u.node.0 (slice_rest u) tidy.finding reading
    own = subst (λ (r : List ℕ). SeekReads a u.node.0 r tidy.finding reading) rest_is (subst (λ (f : Finding). SeekReads a u.node.0 rest f reading) finding_is reads_it)

    none : NoFinds reading
    none = subst NoFinds (sym own.does) (finds_none may.begun may.w tidy.finding (truth may).2 own.part (slice_rest u))

    why : ReadWaits (FindingWaits tidy.finding) a u.node.0 reading
    why = subst (λ (r : FindReading). ReadWaits (FindingWaits tidy.finding) a u.node.0 r) (sym own.does) (seek_waits a u.node.0 (slice_rest u) tidy.finding (left_may may tidy.finding refl (slice_rest u) refl) own.part own.lent)

    -- WHAT A READING on the way leads to
    pub approaches : (dest : Finding) (p : Progress) (new : Tidy) → p ≡ approach_progress reading → new ≡ approached (record tidy { finding = dest }) u reading → TidyStep epoch a a tidy p new
    approaches dest p new p_is new_is =
        subst (λ (q : Progress). TidyStep epoch a a tidy q new) (sym p_is)
        (subst (λ (t : Tidy). TidyStep epoch a a tidy (approach_progress reading) t) (sym (new_is ∙ approached_same dest reading))
        (at_stage epoch a a tidy (Marked u) (approach_progress reading) (approached tidy u reading) is (approached_key reading) refl
        (law_same epoch a tidy (Marked u) (approach_progress reading) (approached tidy u reading) (approached_owns reading) (λ begun w world t.
        approached_true begun w world t reading (subst (λ (r : FindReading). LeftLeads a epoch w world begun prefix u.slice u.node.0 t.0.fits t.1 r) (sym own.does)
        (left_leads a epoch w world begun prefix u.slice u.node.0 t.0.fits t.1 tidy.finding t.2 own.part own.lent before))))
        (approached_tidied reading) (approached_waits reading none why) (inl (record {
          before = before;
          part = own.part;
          lent = own.lent;
          does = (ap approach_progress own.does, ap (approached tidy u) own.does);
        }))))

  -- ---- the lock
  module _ (lock : AtLock tidy.finding) (b : BorderView) (named : border_at a.nodes u.node.0 ≡ Some b) where
    -- what follows, by the mark and the lock
    looks_by : (p : Progress) (then : Tidy) → LocksLeftBy tidy u b.version.deleted b.version.locked p then → Follows a tidy (Marked u) p then
    looks_by p then so = inr (lock, subst (λ (o : Option BorderView). IsSomeAnd o (λ x. LocksLeftBy tidy u x.version.deleted x.version.locked p then)) (sym named) so)

    by_both : (locked : Bool) (p : Progress) (then : Tidy) → b.version.deleted ≡ false → b.version.locked ≡ locked → LocksLeftBy tidy u false locked p then → LocksLeftBy tidy u b.version.deleted b.version.locked p then
    by_both locked p then alive is so =
        subst (λ (d : Bool). LocksLeftBy tidy u d b.version.locked p then) (sym alive) (subst (λ (l : Bool). LocksLeftBy tidy u false l p then) (sym is) so)

    -- the border is marked deleted: the way begins again
    pub gone_again : b.version.deleted ≡ true → (new : Tidy) → new ≡ approached tidy u Restarts → TidyStep epoch a a tidy Waits new
    gone_again marked new new_is =
        let at : IsMarkedAt a u.node.0 = subst (λ (o : Option Node). IsSomeAnd o (λ node. is_marked node ≡ true)) (sym (node-from_border a.nodes u.node.0 b named)) marked in
        subst (λ (t : Tidy). TidyStep epoch a a tidy Waits t) (sym new_is)
        (at_stage epoch a a tidy (Marked u) Waits (approached tidy u Restarts) is refl refl
        (law_same epoch a tidy (Marked u) Waits (approached tidy u Restarts) refl (λ begun w world t. let (k, held) = from_head begun a w prefix u t.0 in (k, held, tt)))
        tt (inr (lock, inl at)) (looks_by Waits (approached tidy u Restarts) (subst (λ (d : Bool). LocksLeftBy tidy u d b.version.locked Waits (approached tidy u Restarts)) (sym marked) (refl, refl))))

    -- it is not, and another call has locked it: it waits
    pub locked_waits : b.version.deleted ≡ false → b.version.locked ≡ true → TidyStep epoch a a tidy Waits tidy
    locked_waits alive locked =
        let held : IsLockedAlready a u.node.0 = subst (λ (o : Option BorderView). IsSomeAnd o (λ x. x.version.locked ≡ true)) (sym named) locked in
        at_stage epoch a a tidy (Marked u) Waits tidy is refl refl
        (law_same epoch a tidy (Marked u) Waits tidy (sym (ap stage_owns is)) (λ begun w world t. subst (λ (s : Stage). StageIsTrue begun tidy.key tidy.way tidy.finding s a w) (sym is) t)) tt (inr (lock, inr held))
        (looks_by Waits tidy (by_both true Waits tidy alive locked (refl, refl)))

    abbrev taken : BorderView → BorderView
    taken x = with_locked x

    low_at : (begun : ℕ) (w : World) (finding : Finding) → AtLock finding → LeftFinding begun prefix u.slice u.node.0 finding a w → b.low ≤ u.slice
    low_at begun w (Bounded counters right) is_lock at = subst (λ (x : BorderView). x.low ≤ u.slice) (let both : ◌≡◌ {A = Option BorderView} (Some at.b) (Some b) = sym at.named ∙ named in let same : at.b ≡ b = cc in same) at.looked.from_low
    low_at begun w Begins is_lock t = absurd is_lock
    low_at begun w (Looked counters) is_lock t = absurd is_lock
    low_at begun w (Reads notes) is_lock t = absurd is_lock
    low_at begun w (AtValue notes kind) is_lock t = absurd is_lock
    low_at begun w (Settles counters sight) is_lock t = absurd is_lock

    -- it is locked
    pub locks_left : (after : ArenaView) → IsBorder b → b.version.deleted ≡ false → b.version.locked ≡ false → after ≡ with_border_changed a u.node.0 taken → KeepsTree a after → TidyStep epoch a after tidy Moved (record tidy { finding = Begins; stage = LeftLocked u })
    locks_left after sound alive unlocked value keeps = at_stage epoch a after tidy (Marked u) Moved (record tidy { finding = Begins; stage = LeftLocked u }) is refl (ap (λ (x : ArenaView). x.retired) value) (record {
      reads = locked_so tidy.finding lock;
      steps = λ begun w world before t.
          let (k, held, finding_true) = t in
          let new : ArenaView = with_border_changed a u.node.0 taken in
          let (on_border, low_is) = border_is_on (arena_seen a) w.chart world.index.tree begun u.node.0 u.slice prefix (border_seen b) held (seen-border a u.node.0 b named) alive in
          let differ : u.border.0 ≢ u.node.0 = λ e. clash k.border.b k.border.locked unlocked (ap (λ (m : ℕ). border_at a.nodes m) (sym e) ∙ k.border.named) in
          let kept = (subst (λ (x : ArenaView). KeepsTree a x) value keeps).keeps epoch w.twins w.chart world.index in
          let Then : ArenaView → World → Type 0 = λ x next. HasLeft begun x next prefix u in
          subst (λ (x : ArenaView). Goes epoch a x w (u.border.0 ∷ []) (u.node.0 ∷ u.border.0 ∷ []) (Then x) × SameContent (arena_seen a) (arena_seen x)) (sym value) (
            goes_border a u.node.0 b taken named epoch w (u.border.0 ∷ []) (u.node.0 ∷ u.border.0 ∷ []) (Then new) world (λ known. (ages_locked b, inr refl)) kept.index (keys_same a new kept.content world.keys)
                (unlocked_free a u.node.0 b taken named w (u.border.0 ∷ []) unlocked (known_some w u.node.0 _ on_border.place))
                (λ other i. elim (among_cases other u.node.0 (u.border.0 ∷ []) i) [ inl e ↦ inr e | inr j ↦ inl j ]) (λ other ne i. later i) (λ locked. first)
                (on_kept a epoch w.chart u.node.0 _ _ _ _ on_border.place world.retired, λ i. refl, alive_changed a u.node.0 b taken named w.chart (inl refl)) (record {
                  unlinking = unlinking_beside begun a w prefix u u.node.0 k b taken named differ;
                  left = record { b = taken b; named = now_named a u.node.0 b taken named; locked = refl; alive = alive; written = unlocked_written b sound unlocked; posted = on_border.posted; place = on_border.place; free = unlocked_root a w.closing w.chart u.node.0 b named unlocked world.heads };
                  low = low_at begun w tidy.finding lock finding_true;
                }),
            kept.content,
          );
    }) tt tt (looks_by Moved (record tidy { finding = Begins; stage = LeftLocked u }) (by_both false Moved (record tidy { finding = Begins; stage = LeftLocked u }) alive unlocked (refl, refl)))
      where
        locked_so : (finding : Finding) → AtLock finding → StageReads a after finding (Marked u)
        locked_so (Bounded counters right) lock = inr value
        locked_so Begins lock = absurd lock
        locked_so (Looked counters) lock = absurd lock
        locked_so (Reads notes) lock = absurd lock
        locked_so (AtValue notes kind) lock = absurd lock
        locked_so (Settles counters sight) lock = absurd lock

        clash : (x : BorderView) → x.version.locked ≡ true → b.version.locked ≡ false → border_at a.nodes u.node.0 ≡ Some x → ⊥
        clash x locked free there =
            let same : b ≡ x = (let both : ◌≡◌ {A = Option BorderView} (Some b) (Some x) = sym named ∙ there in cc) in
            let no : false ≡ true = sym free ∙ (ap (λ (y : BorderView). y.version.locked) same ∙ locked) in
            cc
