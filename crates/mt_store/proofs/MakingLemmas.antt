-- Commits made again, one more of them.
use Rattle.std.proofs.Common.{◌≡◌, ℕ, ◌<◌, ◌≤◌, ◌+◌, ◌∙◌, ◌++◌, ◌∷◌, List, [], length, map, take, get_or, ap, sym, subst}
use Rattle.std.proofs.lemmas.List.{map-append, take_all}
use Rattle.mt_types.specs.declared.row.Change.{Change}
use Rattle.mt_index.specs.Stands.{MachineView}
use Rattle.mt_frame.specs.declared.entry.Entry.{Entry}
use Rattle.mt_frame.specs.declared.entry.Record.{Record}
use Rattle.mt_replay.specs.Replay.{change_again, records_in}
use Rattle.mt_replay.proofs.EntryLemmas.{records-append, take_item}
use Rattle.mt_store.specs.Extending.{Adds}
use Rattle.mt_store.proofs.ExtendLemmas.{adds_both}

-- ---- records
module _ (first mid last : MachineView) (records : List Record) (n : ℕ) where
  pub one_more : (r : Record) → n < length records → r ≡ get_or records n r → Adds first (map change_again (take n records)) mid → Adds mid (change_again r ∷ []) last → Adds first (map change_again (take (n + 1) records)) last
  one_more r less is so_far one = subst (λ (cs : List Change). Adds first cs last) (sym (ap (map change_again) (take_item n records r less is) ∙ map-append change_again (take n records) (r ∷ [])))
      (adds_both first mid last (map change_again (take n records)) (change_again r ∷ []) so_far one)

  pub all_made : length records ≤ n → Adds first (map change_again (take n records)) mid → Adds first (map change_again records) mid
  all_made all so_far = subst (λ (rs : List Record). Adds first (map change_again rs) mid) (take_all n records all) so_far

-- ---- entries
module _ (first mid last : MachineView) (entries : List Entry) (n : ℕ) where
  pub entry_more : (entry : Entry) (records : List Record) → n < length entries → entry ≡ get_or entries n entry → records_in (entry ∷ []) ≡ records → Adds first (map change_again (records_in (take n entries))) mid → Adds mid (map change_again records) last
      → Adds first (map change_again (records_in (take (n + 1) entries))) last
  entry_more entry records less is own so_far more =
      let whole : records_in (take (n + 1) entries) ≡ records_in (take n entries) ++ records =
      ap records_in (take_item n entries entry less is) ∙ (records-append (take n entries) (entry ∷ []) ∙ ap (λ (rs : List Record). records_in (take n entries) ++ rs) own) in
      subst (λ (cs : List Change). Adds first cs last) (sym (ap (map change_again) whole ∙ map-append change_again (records_in (take n entries)) records))
      (adds_both first mid last (map change_again (records_in (take n entries))) (map change_again records) so_far more)

  pub all_entries : length entries ≤ n → Adds first (map change_again (records_in (take n entries))) mid → Adds first (map change_again (records_in entries)) mid
  all_entries all so_far = subst (λ (es : List Entry). Adds first (map change_again (records_in es)) mid) (take_all n entries all) so_far
