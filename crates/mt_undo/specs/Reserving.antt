-- Why room for several deltas is refused.
use Rattle.std.specs.Prelude.{ℕ, ◌+◌, ◌<◌, ◌≡◌, MatchOption}
use Rattle.mt_types.specs.declared.refusal.Refusal.{Refusal}
use Rattle.mt_types.specs.declared.refusal.Refusal.TheVariants.{NoMemory}
use Rattle.mt_commit.specs.Log.{LogView, reserve_fault}

-- one of so many rooms is refused for this, when there are those before it
pub record IsRoomRefused (log : LogView) (count : ℕ) (refusal : Refusal) : Type 0 where
  pub made : ℕ
  pub few : made < count
  pub why : MatchOption (reserve_fault (record log { reserved = log.reserved + made })) (refusal ≡ NoMemory)
      (λ fault. refusal ≡ fault)
