-- What is true of builds by the commits of a history, after steps of others and after steps of their own.
use Rattle.std.proofs.Common.{ℕ, zero, suc, ◌≡◌, ◌≤◌, ◌<◌, ◌+◌, ◌-◌, inl, inr, List, [], ◌∷◌, ◌++◌, length, take, drop, Option, Some, None, true, refl, sym, ap, subst, ◌∙◌, arith}
use Rattle.std.specs.Prelude.{slice_get}
use Rattle.std.proofs.lemmas.List.{length-drop, take_all, take-append-le, drop-append-le}
use Rattle.mt_types.specs.Rows.{after}
use Rattle.mt_types.specs.declared.row.Change.{Change}
use Rattle.mt_types.specs.declared.row.Delta.{Delta}
use Rattle.mt_types.specs.declared.view.ViewSpec.{ViewSpec}
use Rattle.mt_types.specs.declared.event.Request.TheVariants.{Get as GetRequest, Put as PutRequest, PutIf as PutIfRequest, Remove as RemoveRequest, Range as RangeRequest, Tidy as TidyRequest, Build as BuildRequest}
use Rattle.mt_promise.specs.History.{History, Moment, moment, rows}
use Rattle.mt_promise.specs.Legal.{reads_log}
use Rattle.mt_commit.specs.Log.{newest, delta_of}
use Rattle.mt_commit.specs.Logged.{deltas_of}
use Rattle.mt_commit.proofs.DeltaLemmas.{deltas_of-length}
use Rattle.mt_view.specs.State.{StateView}
use Rattle.mt_chart.specs.Tree.{Arena}
use Rattle.mt_tree.specs.Seen.{arena_seen}
use Rattle.mt_works.specs.Build.{BuildView}
use Rattle.mt_works.specs.History.{LeadsTo}
use Rattle.mt_works.proofs.HistoryLemmas.{deltas_lead}
use Rattle.mt_works.proofs.ReadLemmas.{builds_exact}
use Rattle.mt_steps.specs.declared.progress.Progress.{Progress}
use Rattle.mt_steps.specs.declared.progress.Progress.TheVariants.{Moved, Waits, Committed, Answered, Refused}
use Rattle.mt_write.specs.declared.writing.Edit.{Edit}
use Rattle.mt_write.specs.declared.writing.Edit.TheVariants.{Put as PutEdit, Remove as RemoveEdit}
use Rattle.mt_write.specs.Held.{edit_request}
use Rattle.mt_works.specs.declared.work.Work.{Work}
use Rattle.mt_works.specs.declared.work.Work.TheVariants.{Get as GetWork, Write as WriteWork, Range as RangeWork, Tidy as TidyWork, Build as BuildWork}
use Rattle.mt_works.specs.Building.{ScansOn, GoesOn, IsUpTo, IsInLog}
use Rattle.mt_steps.specs.Listing.{Listing}
use Rattle.mt_works.specs.Works.{request_of, IsTrue, IsBuiltWork, HasNext, WorkBuilds}
use Rattle.mt_index.specs.Viewing.{ReadsFrom, ReadsOf, deltas_between}
use Rattle.mt_index.specs.Stands.{MachineView, IsPast, Stands}
use Rattle.mt_index.proofs.LawLemmas.{slice_get-drop, each_commit_is_logged}
use Rattle.mt_index.proofs.PastLemmas.{Grows}

-- ---- one commit more leaves it as it was
module _ (C : ℕ) (m later : Moment) (grows : Grows C m later) where
  -- the first commits are what they were
  pub taken_still : (n : ℕ) → n ≤ length m.commits → take n later.commits ≡ take n m.commits
  taken_still n within = elim grows [
    | inl same ↦ ap (take n) same
    | inr one ↦ ap (take n) one.commits ∙ take-append-le n m.commits (one.change ∷ []) within
  ]

  pub more_commits : length m.commits ≤ length later.commits
  more_commits = elim grows [
    | inl same ↦ (let e = ap (λ (cs : List Change). length cs) same in omega (arith, e))
    | inr one ↦ (let d = ap (λ (ds : List Delta). length ds) one.deltas in let e = deltas_of-length C m.commits in let f = deltas_of-length C later.commits in let g = longer (deltas_of C m.commits) one.delta in omega (arith, d, e, f, g))
  ]
    where
      longer : (ds : List Delta) (d : Delta) → length (ds ++ d ∷ []) ≡ length ds + 1
      longer [] d = refl
      longer (e ∷ ds) d = let rest = longer ds d in omega (arith, rest)

  between_still : (at upto : ℕ) → at ≤ upto → upto ≤ length m.commits → deltas_between C later.commits at upto ≡ deltas_between C m.commits at upto
  between_still at upto up within = elim grows [
    | inl same ↦ ap (λ (cs : List Change). deltas_between C cs at upto) same
    | inr one ↦ (let n = deltas_of-length C m.commits in
        let left = length-drop at (deltas_of C m.commits) in
        ap (λ (ds : List Delta). take (upto - at) (drop at ds)) one.deltas
        ∙ ap (take (upto - at)) (drop-append-le at (deltas_of C m.commits) (one.delta ∷ []) (omega (arith, n, up, within)))
        ∙ take-append-le (upto - at) (drop at (deltas_of C m.commits)) (one.delta ∷ []) (omega (arith, n, left, up, within)))
  ]

  from_still : (from : ℕ) (upto : Option ℕ) (state : StateView) → ReadsFrom C m.commits from upto state → ReadsFrom C later.commits from upto state
  from_still from None state reads = reads
  from_still from (Some upto) state (since, up, within, leads) = (
    since,
    up,
    (let more = more_commits in omega (arith, within, more)),
    subst (λ (ds : List Delta). LeadsTo ds (after C (take upto later.commits)) state) (sym (between_still state.at upto up within))
        (subst (λ (cs : List Change). LeadsTo (deltas_between C m.commits state.at upto) (after C cs) state) (sym (taken_still upto within)) leads),
  )

  pub reads_still : (from : ℕ) (work : Work) → ReadsOf C m.commits from work → ReadsOf C later.commits from work
  reads_still from (BuildWork building) (columns, reads) = (columns, from_still from building.upto building.build.state reads)
  reads_still from (GetWork g) reads = tt
  reads_still from _ reads = tt

-- ---- a step of a build
drop_next : (ds : List Delta) (at : ℕ) (d : Delta) → slice_get ds at ≡ Some d → drop at ds ≡ d ∷ drop (suc at) ds
drop_next [] at d is = absurd (cc)
drop_next (e ∷ ds) zero d is = let same : e ≡ d = cc in ap (λ (x : Delta). x ∷ ds) same
drop_next (e ∷ ds) (suc at) d is = drop_next ds at d is

-- the first of the deltas between, and the others
between_next : (ds : List Delta) (at upto : ℕ) (d : Delta) → slice_get ds at ≡ Some d → at < upto → take (upto - at) (drop at ds) ≡ d ∷ take (upto - (at + 1)) (drop (at + 1) ds)
between_next ds at upto d is below =
    let one : upto - at ≡ suc (upto - (at + 1)) = omega (arith, below) in
    let next : suc at ≡ at + 1 = omega arith in
    ap (λ (n : ℕ). take n (drop at ds)) one ∙ ap (take (suc (upto - (at + 1)))) (drop_next ds at d is) ∙ ap (λ (n : ℕ). d ∷ take (upto - (at + 1)) (drop n ds)) next

-- there is a change at each number of a commit
pub change_at : (cs : List Change) (n : ℕ) → n < length cs → (c : Change) × (slice_get cs n ≡ Some c)
change_at [] n below = absurd (omega (arith, below))
change_at (c ∷ cs) zero below = (c, refl)
change_at (c ∷ cs) (suc n) below = change_at cs n (omega (arith, below))

module _ (s : MachineView) (h : History) (st : Stands s h) where
  commits : List Change
  commits = (moment h).commits

  -- the delta that the log has there is the history's, with its number
  pub logged_delta : (at : ℕ) (d : Delta) → s.log.held_after ≤ at → at < length (moment h).commits → delta_of s.log (at + 1) ≡ Some d → (slice_get (deltas_of s.columns (moment h).commits) at ≡ Some d) × (d.number ≡ at + 1)
  logged_delta at d reaches below is =
      let (change, there) = change_at (moment h).commits at below in
      let (made, logged, tells) = each_commit_is_logged s h at change st reaches there in
      let same : made ≡ d = (let both : Some made ≡ Some d = sym logged ∙ is in cc) in
      let place : s.log.held_after + (at + 1 - s.log.held_after - 1) ≡ at = omega (arith, reaches) in (
        sym (ap (λ (ds : List Delta). slice_get ds (at + 1 - s.log.held_after - 1)) st.logged ∙ slice_get-drop s.log.held_after (at + 1 - s.log.held_after - 1) (deltas_of s.columns (moment h).commits) ∙ ap (slice_get (deltas_of s.columns (moment h).commits)) place) ∙ is,
        sym (ap (λ (x : Delta). x.number) same) ∙ tells.number,
      )

  module _ (from began begun : ℕ) (past : List Arena) (passed : IsPast s.columns began from h (arena_seen s.tree ∷ past)) where
    abbrev ds : List Delta
    ds = deltas_of s.columns (moment h).commits

    scanned_leads : (state : StateView) (upto : ℕ) → state.at ≡ from → upto ≡ newest s.log → LeadsTo (drop from ds) (rows s.columns (moment h)) state → ReadsFrom s.columns (moment h).commits from (Some upto) state
    scanned_leads state upto at is leads =
        let all = st.commits in
        let r = passed.reached in
        let n = deltas_of-length s.columns (moment h).commits in
        let left = length-drop from ds in (
          omega (arith, at),
          omega (arith, at, is, all, r),
          omega (arith, is, all),
          subst (λ (k : ℕ). LeadsTo (take (upto - k) (drop k ds)) (after s.columns (take upto (moment h).commits)) state) (sym at)
              (subst (λ (l : List Delta). LeadsTo l (after s.columns (take upto (moment h).commits)) state) (sym (take_all (upto - from) (drop from ds) (omega (arith, n, left, is, all))))
              (subst (λ (cs : List Change). LeadsTo (drop from ds) (after s.columns cs) state) (sym (take_all upto (moment h).commits (omega (arith, is, all)))) leads)),
        )

    build_reads : (upto then : Option ℕ) (old new : BuildView) (number : ℕ) (listing : Listing) → s.log.held_after ≤ from → GoesOn s.tree s.log upto old number listing then new → ScansOn upto old number listing begun past s.tree st.w → (IsUpTo upto old.state.at → ⊥)
        → old.state.columns ≡ s.columns → ReadsFrom s.columns (moment h).commits from upto old.state → (new.state.columns ≡ s.columns) × ReadsFrom s.columns (moment h).commits from then new.state
    build_reads None None old new number listing reaches keeps truth unbuilt columns at = (ap (λ (v : StateView). v.columns) keeps ∙ columns, ap (λ (v : StateView). v.at) keeps ∙ at)
    build_reads None (Some upto) old new number listing reaches (is, keeps, all) truth unbuilt columns at = (
      ap (λ (v : StateView). v.columns) keeps ∙ columns,
      scanned_leads new.state upto (ap (λ (v : StateView). v.at) keeps ∙ at) is
          (builds_exact (arena_seen s.tree) past (rows s.columns (moment h)) passed.earlier (drop from ds) new.state passed.had passed.goes (all s.epoch begun past st.w st.world truth)),
    )
    build_reads (Some upto) then old new number listing reaches (same, takes) truth unbuilt columns (since, up, within, leads) =
        let below : old.state.at < upto = less old.state.at upto up unbuilt in
        let (there, numbered) = logged_delta old.state.at takes.delta (omega (arith, reaches, since)) (omega (arith, below, within)) takes.is_next in
        let at_is : new.state.at ≡ old.state.at + 1 = ap (λ (v : StateView). v.at) takes.taken ∙ numbered in
        let next = deltas_lead takes.delta (take (upto - (old.state.at + 1)) (drop (old.state.at + 1) ds)) (after s.columns (take upto (moment h).commits)) old.state
        (subst (λ (l : List Delta). LeadsTo l (after s.columns (take upto (moment h).commits)) old.state) (between_next ds old.state.at upto takes.delta there below) leads) in (
          ap (λ (v : StateView). v.columns) takes.taken ∙ columns,
          subst (λ (u : Option ℕ). ReadsFrom s.columns (moment h).commits from u new.state) (sym same) (
            omega (arith, since, at_is),
            omega (arith, below, at_is),
            within,
            subst (λ (k : ℕ). LeadsTo (take (upto - k) (drop k ds)) (after s.columns (take upto (moment h).commits)) new.state) (sym at_is)
                (subst (λ (v : StateView). LeadsTo (take (upto - (old.state.at + 1)) (drop (old.state.at + 1) ds)) (after s.columns (take upto (moment h).commits)) v) (sym takes.taken) next),
          ),
        )
      where
        less : (at upto : ℕ) → at ≤ upto → ((at ≡ upto) → ⊥) → at < upto
        less at upto up not = omega (arith, up, not)

    -- what is to be taken next is in the log
    pub has_next : (work : Work) → (reads_log (request_of work) ≡ true → s.log.held_after ≤ from) → ReadsOf s.columns (moment h).commits from work → (IsBuiltWork work → ⊥) → HasNext s.log work
    has_next (GetWork g) reaches reads unbuilt = tt
    has_next (WriteWork g) reaches reads unbuilt = tt
    has_next (RangeWork g) reaches reads unbuilt = tt
    has_next (TidyWork g) reaches reads unbuilt = tt
    has_next (BuildWork g) reaches (columns, reads) unbuilt = by_upto g.upto g.build.state reads unbuilt
      where
        by_upto : (upto : Option ℕ) (state : StateView) → ReadsFrom s.columns (moment h).commits from upto state → (IsUpTo upto state.at → ⊥) → IsInLog s.log state.at upto
        by_upto None state reads not = tt
        by_upto (Some upto) state (since, up, within, leads) not = (let low = reaches refl in omega (arith, low, since), let all = st.commits in omega (arith, up, within, all, not))

    -- a call that isn't a build
    no_build : (work : Work) → ((spec : ViewSpec) → request_of work ≡ BuildRequest spec → ⊥) → ReadsOf s.columns (moment h).commits from work
    no_build (BuildWork g) never = absurd (never g.build.state.spec refl)
    no_build _ never = tt

    no_edit : (key : List ℕ) (edit : Edit) (spec : ViewSpec) → edit_request key edit ≡ BuildRequest spec → ⊥
    no_edit key (PutEdit sets None) spec is = let clash : PutRequest key sets ≡ BuildRequest spec = is in cc
    no_edit key (PutEdit sets (Some version)) spec is = let clash : PutIfRequest key sets version ≡ BuildRequest spec = is in cc
    no_edit key RemoveEdit spec is = let clash : RemoveRequest key ≡ BuildRequest spec = is in cc

    -- after a step of its own that ends nothing
    pub reads_on : (kept work : Work) (p : Progress) → (reads_log (request_of kept) ≡ true → s.log.held_after ≤ from) → WorkBuilds s.tree s.log kept p work → request_of work ≡ request_of kept → (moves : ℕ) → IsTrue s.columns kept begun moves past s.tree st.w → (IsBuiltWork kept → ⊥)
        → ((refusal : _) → p ≡ Refused refusal → ⊥) → ReadsOf s.columns (moment h).commits from kept → ReadsOf s.columns (moment h).commits from work
    reads_on (GetWork g) work p reaches builds same moves truth unbuilt goes reads = no_build work (λ spec is. let clash : GetRequest g.key g.columns ≡ BuildRequest spec = sym same ∙ is in cc)
    reads_on (RangeWork g) work p reaches builds same moves truth unbuilt goes reads = no_build work (λ spec is. let clash : RangeRequest g.start g.limit g.columns ≡ BuildRequest spec = sym same ∙ is in cc)
    reads_on (WriteWork g) work p reaches builds same moves truth unbuilt goes reads = no_build work (λ spec is. no_edit g.key g.edit spec (sym same ∙ is))
    reads_on (TidyWork g) work p reaches builds same moves truth unbuilt goes reads = no_build work (λ spec is. let clash : TidyRequest g.key ≡ BuildRequest spec = sym same ∙ is in cc)
    reads_on (BuildWork old) (GetWork g) p reaches builds same moves truth unbuilt goes reads = absurd builds
    reads_on (BuildWork old) (BuildWork new) (Refused refusal) reaches builds same moves truth unbuilt goes reads = absurd (goes refusal refl)
    reads_on (BuildWork old) (BuildWork new) Moved reaches builds same moves truth unbuilt goes (columns, reads) = build_reads old.upto new.upto old.build new.build old.node.0 old.listing (reaches refl) builds truth unbuilt columns reads
    reads_on (BuildWork old) (BuildWork new) Waits reaches builds same moves truth unbuilt goes (columns, reads) = build_reads old.upto new.upto old.build new.build old.node.0 old.listing (reaches refl) builds truth unbuilt columns reads
    reads_on (BuildWork old) (BuildWork new) (Committed number) reaches builds same moves truth unbuilt goes (columns, reads) = build_reads old.upto new.upto old.build new.build old.node.0 old.listing (reaches refl) builds truth unbuilt columns reads
    reads_on (BuildWork old) (BuildWork new) (Answered answer) reaches builds same moves truth unbuilt goes (columns, reads) = build_reads old.upto new.upto old.build new.build old.node.0 old.listing (reaches refl) builds truth unbuilt columns reads
    reads_on (BuildWork old) _ p reaches builds same moves truth unbuilt goes reads = absurd builds
