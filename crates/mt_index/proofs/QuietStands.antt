-- A machine on which no call is open that changes the tree: what is read of it directly.
use Rattle.std.proofs.Common.{ℕ, ◌≡◌, Bool, true, false, List, [], ◌∷◌, Option, Some, None, refl, sym, subst, inl, inr, cond, arith}
use Rattle.std.specs.FinMap.{get}
use Rattle.mt_types.specs.declared.row.Row.{Row}
use Rattle.mt_slice.specs.Place.{AreBytes}
use Rattle.mt_chart.specs.Tree.{Among}
use Rattle.mt_chart.proofs.Entries.{among_cases}
use Rattle.mt_promise.specs.History.{History, moment, rows}
use Rattle.mt_promise.specs.Legal.{reads_log}
use Rattle.mt_steps.specs.Lone.{IsLoneTree}
use Rattle.mt_steps.specs.Step.{RowIs}
use Rattle.mt_write.specs.declared.writing.Edit.{Edit}
use Rattle.mt_write.specs.declared.writing.Edit.TheVariants.{Put, Remove}
use Rattle.mt_write.specs.Held.{put_request, edit_request}
use Rattle.mt_works.specs.declared.work.Work.{Work}
use Rattle.mt_works.specs.declared.work.Work.TheVariants.{Write, Tidy}
use Rattle.mt_works.specs.Works.{request_of, held}
use Rattle.mt_index.specs.declared.calls.Call.{Call}
use Rattle.mt_index.specs.Calls.{changing}
use Rattle.mt_index.specs.Stands.{MachineView, Stands}
use Rattle.mt_index.specs.Alone.{IsQuiet}
use Rattle.mt_index.proofs.NumberLemmas.{Entries}

-- a put reads no log
put_reads_none : (key : List ℕ) (sets : List (ℕ × List ℕ)) (only : Option ℕ) → reads_log (put_request key sets only) ≡ true → ⊥
put_reads_none key sets None e = let clash : false ≡ true = e in cc
put_reads_none key sets (Some version) e = let clash : false ≡ true = e in cc

edit_reads_none : (key : List ℕ) (edit : Edit) → reads_log (edit_request key edit) ≡ true → ⊥
edit_reads_none key (Put sets only) e = put_reads_none key sets only e
edit_reads_none key Remove e = let clash : false ≡ true = e in cc

-- a call that only reads owns no number
pub reader_owns : (work : Work) → reads_log (request_of work) ≡ true → (held work).owns ≡ []
reader_owns (Tidy tidy) reads = absurd (let clash : false ≡ true = reads in cc)
reader_owns (Write write) reads = absurd (edit_reads_none write.key write.edit reads)
reader_owns _ reads = refl

counts_none : (b : Bool) → ◌≡◌ {A = ℕ} (cond b 0 1) 0 → b ≡ true
counts_none true e = refl
counts_none false e = absurd (omega (arith, e))

-- if none of the calls changes the tree, each only reads
pub all_read : (ks : Entries) → changing ks ≡ 0 → (k : ℕ × Call) → Among k ks → reads_log (request_of k.1.work) ≡ true
all_read [] none k i = elim i [ ]
all_read (x ∷ xs) none k i = elim (among_cases k x xs i) [
  | inl e ↦ subst (λ z. reads_log (request_of z.1.work) ≡ true) (sym e) (counts_none (reads_log (request_of x.1.work)) (omega (arith, none)))
  | inr more ↦ all_read xs (omega (arith, none)) k more
]

none_among : (number : ℕ) → Among number [] → ⊥
none_among number i = elim i [ ]

-- ---- A QUIET MACHINE HAS A LONE TREE: what is taken is owned by an open call, and one that only reads owns nothing
pub quiet_tree : (s : MachineView) (h : History) → Stands s h → IsQuiet s → IsLoneTree s.tree
quiet_tree s h st quiet = record {
  now = s.epoch;
  w = st.w;
  world = st.world;
  free = λ n taken.
      let (k, i, owned) = st.owned n taken in
      none_among n (subst (λ (l : List ℕ). Among n l) (reader_owns k.1.work (all_read s.calls.calls quiet k i)) owned);
}

-- ---- the row of a key is that of the rows
pub read_row : (s : MachineView) (h : History) → Stands s h → (key : List ℕ) → AreBytes key → (found : Option Row) → RowIs s.tree key found
    → found ≡ get (rows s.columns (moment h)) key
read_row s h st key bytes (Some row) is = sym ((st.content key bytes row).0 ((is row).1 refl))
read_row s h st key bytes None is = go (get (rows s.columns (moment h)) key) refl
  where
    go : (there : Option Row) → get (rows s.columns (moment h)) key ≡ there → None ≡ get (rows s.columns (moment h)) key
    go None e = sym e
    go (Some row) e = absurd (let clash : ◌≡◌ {A = Option Row} None (Some row) = (is row).0 ((st.content key bytes row).1 e) in cc)
