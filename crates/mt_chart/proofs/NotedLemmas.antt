-- What others leave of what a reader has noted.
use Rattle.std.proofs.Common.{ℕ, ◌≡◌, inl, inr, List, [], ◌∷◌, Bool, true, false, refl, sym, subst, ◌∙◌, arith}
use Rattle.mt_slice.specs.Place.{under}
use Rattle.mt_chart.specs.Tree.{link, PlainEntry, Among, first, later}
use Rattle.mt_chart.specs.Chart.{top}
use Rattle.mt_chart.proofs.HeldNodes.{known_link}
use Rattle.mt_chart.proofs.Walk.{known_kept}
use Rattle.mt_chart.proofs.Reach.{has}
use Rattle.mt_chart.specs.Noted.{SlotSeen, FieldsSeen, Counters, IsQuiet, HasComeTo, IsSameKey, KeepsSlot, StaysQuiet, Ages, IsTrueEntry, IsNoted, NotedSlotsStay, AreRead, entries_in}

-- what is quiet now was quiet before
pub quiet_before : (v : Counters) (f g : FieldsSeen) → HasComeTo v f → Ages f g → IsQuiet v g → IsQuiet v f
quiet_before v f g come ages q = record {
  alive = unset f.node.deleted refl (λ e. let set = ages.deleted e in let not = q.alive in let clash : true ≡ false = sym set ∙ not in cc);
  no_insert = unset f.inserting refl (λ e. let rose = ages.inserted e q.no_insert in let is = q.inserts in let low = come.inserts in omega (arith, rose, is, low));
  no_split = unset f.splitting refl (λ e. let rose = ages.split e q.no_split in let is = q.splits in let low = come.splits in omega (arith, rose, is, low));
  inserts = let up = ages.inserts in let is = q.inserts in let low = come.inserts in omega (arith, up, is, low);
  splits = let up = ages.splits in let is = q.splits in let low = come.splits in omega (arith, up, is, low);
}
  where
    unset : (b : Bool) {c : Bool} → c ≡ b → (c ≡ true → ⊥) → c ≡ false
    unset true e never = absurd (never e)
    unset false e never = e

same_again : (a b c : SlotSeen) → IsSameKey a b → IsSameKey b c → IsSameKey a c
same_again a b c h i = record {
  slice = i.slice ∙ h.slice;
  class = i.class ∙ h.class;
  plain = λ p. let (q, rows) = i.plain p in let (r, olds) = h.plain q in (r, λ place row holds. let (mid, m) = rows place row holds in olds place mid m);
  rows = λ place row holds. elim (h.rows place row holds) [
    | inl (mid, m) ↦ i.rows place mid m
    | inr (number, is, rest, deep) ↦ inr (number, i.links number is, rest, deep)
  ];
  links = λ number is. i.links number (h.links number is);
}

pub noted_slots_stay : NotedSlotsStay
noted_slots_stay show begun number chart next after past prefix f g v was k evolves tree on slots come ages noted quiet =
    go (g.lives k) refl (still.slots k (before.held))
  where
    quiet_f : IsQuiet v f
    quiet_f = quiet_before v f g come ages quiet

    before : IsNoted show chart begun past prefix f was k
    before = noted quiet_f

    still : StaysQuiet f g
    still = ages.quiet v quiet_f quiet

    go : (lives : Bool) → g.lives k ≡ lives → KeepsSlot (f.slot k) (g.slot k) (f.lives k) lives → IsNoted show next begun (after ∷ past) prefix g was k
    go true is (lived, same) = record {
      held = still.held k before.held;
      same = same_again was (f.slot k) (g.slot k) before.same same;
      true = record {
        row = λ place row holds. inl (row, has after next tree (under prefix place) row (record { prefix = prefix; number = number; node = g.node; entry = (g.slot k).entry; place = place; on_border = on; live = slots.live k is quiet.no_split; holds = holds; is_key = refl }), refl);
        link = λ head is_link. known_link after next tree begun number (g.slot k).entry.slice head prefix g.node on (among head is_link (slots.live k is quiet.no_split));
      };
    }
      where
        among : (head : ℕ) → (g.slot k).entry.content ≡ link head → Among (g.slot k).entry g.node.entries → Among (record { slice = (g.slot k).entry.slice; content = link head }) g.node.entries
        among head e i = subst (λ c. Among (record { slice = (g.slot k).entry.slice; content = c }) g.node.entries) e i
    go false is same = record {
      held = still.held k before.held;
      same = subst (λ (x : SlotSeen). IsSameKey was x) (sym same) before.same;
      true = subst (λ (x : SlotSeen). IsTrueEntry show next begun (after ∷ past) prefix x.entry) (sym same) (record {
        row = λ place row holds. inr (before.true.row place row holds);
        link = λ head is_link. known_kept begun head top ((f.slot k).entry.slice ∷ prefix) 0 chart next evolves (before.true.link head is_link);
      });
    }

-- ---- what was read of an entry
pub read_at : (was now : List SlotSeen) → AreRead was now → (entry : PlainEntry) → Among entry (entries_in was) → (old new : SlotSeen) × (old.entry ≡ entry) × Among new.entry (entries_in now) × IsSameKey old new
read_at [] [] all entry i = elim i [ ]
read_at (x ∷ xs) (y ∷ ys) (same, all) entry first = (x, y, refl, first, same)
read_at (x ∷ xs) (y ∷ ys) (same, all) entry (later i) = let (old, new, e, j, s) = read_at xs ys all entry i in (old, new, e, later j, s)
read_at [] (y ∷ ys) all entry i = absurd all
read_at (x ∷ xs) [] all entry i = absurd all
