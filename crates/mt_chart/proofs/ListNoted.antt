-- What was read is a noted list.
use Rattle.std.proofs.Common.{ℕ, ◌≡◌, ◌≤◌, ◌⊎◌, inl, inr, List, [], ◌∷◌, refl, sym, ap, subst, ◌∙◌}
use Rattle.mt_slice.specs.Place.{Place, deeper, under, first_slice}
use Rattle.mt_types.specs.declared.row.Row.{Row}
use Rattle.mt_chart.specs.Tree.{link, PlainEntry, Arena, Among, first, later, Below, HoldsRow, Has}
use Rattle.mt_chart.specs.ScanRun.{AllHave}
use Rattle.mt_chart.proofs.HeldNodes.{known_holds}
use Rattle.mt_chart.proofs.Keys.{holds_slice}
use Rattle.mt_chart.specs.Noted.{entries_in}
use Rattle.mt_chart.specs.ListNoted.{ListsAreNoted}
use Rattle.mt_chart.proofs.NotedLemmas.{read_at}

had_then : (past : List Arena) (moment : Arena) (key : Place) → Among moment past → AllHave past key → (row : Row) × Has moment key row
had_then [] moment key i all = elim i [ ]
had_then (a ∷ past) moment key first all = all.0
had_then (a ∷ past) moment key (later i) all = had_then past moment key i all.1

pub lists_are_noted : ListsAreNoted
lists_are_noted show chart begun past prefix moment then right was now kept passed all are read lasts true_now next keeps = record {
  to_right = λ e i. ((keeps e).0 i).1;
  shown = λ e x row i h. (true_now e ((keeps e).0 i).0).row x row h;
  heads = λ s h sought i. known_holds chart begun h (s ∷ prefix) ((true_now (record { slice = s; content = link h }) ((keeps (record { slice = s; content = link h })).0 i).0).link h refl) sought;
  covers = covers;
  next = next;
}
  where
    Goal : Place → Type 0
    Goal place = ((e : PlainEntry) × (row : Row) × Among e kept × HoldsRow e.slice e.content place row)
        ⊎ ((rest : Place) × (number : ℕ) × (place ≡ deeper (first_slice place) rest) × Among (record { slice = first_slice place; content = link number }) kept)

    keep : (e : PlainEntry) (slice : ℕ) → e.slice ≡ slice → Below slice right → Among e (entries_in now) → Among e kept
    keep e slice s below i = (keeps e).1 (i, subst (λ (n : ℕ). Below n right) (sym s) below)

    as_link : (e : PlainEntry) (slice number : ℕ) → e.slice ≡ slice → e.content ≡ link number → Among e kept → Among (record { slice = slice; content = link number }) kept
    as_link e slice number s c i = subst (λ (x : PlainEntry). Among x kept) (λ j. record { slice = s j; content = c j }) i

    -- a row of a longer key continues below its slice, as does each key whose slot came to hold a link
    covers : (place : Place) → then.low ≤ first_slice place → Below (first_slice place) right → AllHave past (under prefix place) → Goal place
    covers place low below t = go (had_then past moment (under prefix place) passed t).0 (all place (had_then past moment (under prefix place) passed t).0 low (lasts (first_slice place) below) (had_then past moment (under prefix place) passed t).1)
      where
        go : (row : Row) → ((entry : PlainEntry) × Among entry then.entries × HoldsRow entry.slice entry.content place row)
            ⊎ ((rest : Place) × (number : ℕ) × (place ≡ deeper (first_slice place) rest) × Among (record { slice = first_slice place; content = link number }) then.entries) → Goal place
        go row (inl (e, i, holds)) =
            let (old, new, same, j, key) = read_at was now read e (subst (λ (es : List PlainEntry). Among e es) are i) in
            let slice = key.slice ∙ ap (λ (x : PlainEntry). x.slice) same ∙ sym (holds_slice e.slice e.content place row holds).0 in
            elim (key.rows place row (subst (λ (x : PlainEntry). HoldsRow x.slice x.content place row) (sym same) holds)) [
              | inl (then_row, h) ↦ inl (new.entry, then_row, keep new.entry (first_slice place) slice below j, h)
              | inr (number, is, rest, deep) ↦ inr (rest, number, deep, as_link new.entry (first_slice place) number slice is (keep new.entry (first_slice place) slice below j))
            ]
        go row (inr (rest, number, is, i)) =
            let (old, new, same, j, key) = read_at was now read (record { slice = first_slice place; content = link number }) (subst (λ (es : List PlainEntry). Among (record { slice = first_slice place; content = link number }) es) are i) in
            let slice = key.slice ∙ ap (λ (x : PlainEntry). x.slice) same in
            inr (rest, number, is, as_link new.entry (first_slice place) number slice (key.links number (ap (λ (x : PlainEntry). x.content) same)) (keep new.entry (first_slice place) slice below j))
