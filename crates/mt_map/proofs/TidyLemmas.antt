-- Tidies at a place, one after the other.
use Rattle.std.proofs.Common.{ℕ, ◌<◌, List, Bool, true, false, inl, inr, suc, arith}
use Rattle.mt_index.specs.Stands.{MachineView}
use Rattle.mt_map.specs.Tidies.{Tidies, TidiesAll, TidiesOnce}
use Rattle.mt_walk.specs.declared.place.TheConstants.{MAX_TIDIES}

-- one more, which is the last
pub tidied_once : (s m t : MachineView) (key : List ℕ) (tidies : ℕ) (took : Bool) → Tidies tidies s key m → TidiesOnce m key took t → tidies < MAX_TIDIES → TidiesAll s key t
tidied_once s m t key tidies true before (rule, came, some) few = inl (suc tidies, omega arith, omega (arith, few), (m, rule, before, came, some))
tidied_once s m t key tidies false before once few = inr (tidies, m, few, before, once)
