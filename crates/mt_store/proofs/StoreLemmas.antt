-- A map and its log: after a change of the map, after a write of the log, and what is found after a crash.
use Rattle.std.proofs.Common.{◌≡◌, ℕ, zero, suc, ◌≤◌, ◌+◌, ◌∙◌, ◌++◌, ◌∷◌, List, [], length, map, take, drop, ap, sym, refl, subst, arith}
use Rattle.std.proofs.lemmas.List.{length-append}
use Rattle.mt_types.specs.declared.row.Change.{Change}
use Rattle.mt_types.specs.declared.row.Delta.{Delta}
use Rattle.mt_promise.specs.History.{History, moment}
use Rattle.mt_commit.specs.Logged.{deltas_of}
use Rattle.mt_index.specs.Stands.{MachineView, Stands}
use Rattle.mt_frame.specs.declared.entry.Record.{Record}
use Rattle.mt_journal.specs.declared.position.Position.{Position}
use Rattle.mt_journal.specs.Appending.{with_commits}
use Rattle.mt_journal.specs.Keeping.{AllSurvive, Keeps}
use Rattle.mt_replay.specs.Replay.{record_of, records_of}
use Rattle.mt_replay.proofs.ReplayLemmas.{records_taken}
use Rattle.mt_store.specs.Extending.{Adds}
use Rattle.mt_store.specs.Stored.{AllRecover, HasMade, IsStored, Recovers}
use Rattle.mt_store.proofs.RecordLemmas.{longer, recovers_as_it_is, recovers_longer, still_within}

-- ---- more commits
take_of_front : {A : Type 0} (n : ℕ) (xs more : List A) → n ≤ length xs → take n (xs ++ more) ≡ take n xs
take_of_front zero xs more less = refl
take_of_front (suc n) [] more less = absurd (omega (arith, less))
take_of_front (suc n) (x ∷ xs) more less = ap (λ ys. x ∷ ys) (take_of_front n xs more (omega (arith, less)))

same_records : (C n : ℕ) (changes made : List Change) → n ≤ length changes → take n (records_of C (changes ++ made)) ≡ take n (records_of C changes)
same_records C n changes made less = records_taken C n (changes ++ made) ∙ (ap (records_of C) (take_of_front n changes made less) ∙ sym (records_taken C n changes))

more_recovers : (C : ℕ) (changes made : List Change) (durable : ℕ) (left : List ℕ) → Recovers C changes durable left → Recovers C (changes ++ made) durable left
more_recovers C changes made durable left r =
    let all = length-append changes made in
    let within = r.within in
    record {
      header = r.header;
      own = r.own;
      entries = r.entries;
      log = r.log;
      count = r.count;
      within = omega (arith, all, within);
      kept = r.kept;
      records = r.records ∙ sym (same_records C r.count changes made r.within);
    }

has_made : (s t : MachineView) (changes made : List Change) → Adds s made t → HasMade changes s → HasMade (changes ++ made) t
has_made s t changes made adds r =
    let (g, stands, is) = adds.1 r.h r.stands in
    record { h = g; stands = stands; commits = is ∙ ap (λ (cs : List Change). cs ++ made) r.commits }

pub found_more : (s t : MachineView) (changes made : List Change) (durable : ℕ) (may_leave : List ℕ → Type 0) → Adds s made t → AllRecover changes s durable may_leave → AllRecover (changes ++ made) t durable may_leave
found_more s t changes made durable may_leave adds r = record {
  made = has_made s t changes made adds r.made;
  found = λ left may. subst (λ (C : ℕ). Recovers C (changes ++ made) durable left) (sym adds.0) (more_recovers s.columns changes made durable left (r.found left may));
}

pub stored_more : (s t : MachineView) (changes made : List Change) (at : Position) (seen : List ℕ) (may_leave : List ℕ → Type 0) → Adds s made t → IsStored changes s at seen may_leave → IsStored (changes ++ made) t at seen may_leave
stored_more s t changes made at seen may_leave adds st =
    let all = length-append changes made in
    let within = st.within in
    record {
      made = has_made s t changes made adds st.made;
      header = st.header;
      own = record { columns = st.own.columns ∙ sym adds.0; base = st.own.base };
      entries = st.entries;
      keeps = st.keeps;
      within = omega (arith, all, within);
      written = st.written ∙ (sym (same_records s.columns at.newest changes made st.within)
          ∙ ap (λ (C : ℕ). take at.newest (records_of C (changes ++ made))) (sym adds.0));
    }

-- ---- the log
module _ (changes : List Change) (s : MachineView) (at : Position) (seen : List ℕ) (may_leave : List ℕ → Type 0) (st : IsStored changes s at seen may_leave) where
  pub found_as_it_is : (durable : ℕ) (leaves : List ℕ → Type 0) → AllSurvive st.header st.entries durable leaves → AllRecover changes s durable leaves
  found_as_it_is durable leaves survive = record {
    made = st.made;
    found = λ left may. recovers_as_it_is s.columns changes st.header st.entries at st.own.base st.own.columns st.keeps.newest st.within st.written durable left (survive left may);
  }

  pub stored_same : (then_at : Position) (then_seen : List ℕ) (leaves : List ℕ → Type 0) → Keeps then_at then_seen leaves st.header st.entries → then_at.newest ≡ at.newest → IsStored changes s then_at then_seen leaves
  stored_same then_at then_seen leaves keeps newest =
      let within = st.within in
      record {
        made = st.made;
        header = st.header;
        own = st.own;
        entries = st.entries;
        keeps = keeps;
        within = omega (arith, within, newest);
        written = st.written ∙ ap (λ (n : ℕ). take n (records_of s.columns changes)) (sym newest);
      }

  module _ (limit : ℕ) (deltas : List Delta) (fed : (h : History) → Stands s h → deltas ≡ take limit (drop at.newest (deltas_of s.columns (moment h).commits))) (records : List Record) (made : records ≡ map record_of deltas) where
    from_changes : deltas ≡ take limit (drop at.newest (deltas_of s.columns changes))
    from_changes = fed st.made.h st.made.stands ∙ ap (λ (cs : List Change). take limit (drop at.newest (deltas_of s.columns cs))) st.made.commits

    pub found_longer : (durable : ℕ) (leaves : List ℕ → Type 0) → AllSurvive st.header (with_commits at records st.entries) durable leaves → AllRecover changes s durable leaves
    found_longer durable leaves survive = record {
      made = st.made;
      found = λ left may. recovers_longer s.columns changes st.header st.entries at limit deltas st.own.base st.keeps.newest st.within st.written from_changes records made durable left st.own.columns (survive left may);
    }

    pub stored_longer : (then_at : Position) (then_seen : List ℕ) (leaves : List ℕ → Type 0) → Keeps then_at then_seen leaves st.header (with_commits at records st.entries) → then_at.newest ≡ at.newest + length records → IsStored changes s then_at then_seen leaves
    stored_longer then_at then_seen leaves keeps newest =
        let within = still_within s.columns changes st.header st.entries at limit deltas st.own.base st.keeps.newest st.within st.written from_changes records made in
        record {
          made = st.made;
          header = st.header;
          own = st.own;
          entries = with_commits at records st.entries;
          keeps = keeps;
          within = omega (arith, within, newest);
          written = longer s.columns changes st.header st.entries at limit deltas st.own.base st.keeps.newest st.within st.written from_changes records made
              ∙ ap (λ (n : ℕ). take n (records_of s.columns changes)) (sym newest);
        }
