-- What was read of a log, and what is after it, in the bytes that its disk has.
use Rattle.std.proofs.Common.{◌≡◌, ℕ, List, Option, subst}
use Rattle.mt_folder.specs.Looking.{IsFirstLost, IsReadTo}
use Rattle.mt_folder.specs.declared.log.LogRead.{LogRead}
use Rattle.mt_journal.specs.declared.position.Position.{Position}
use Rattle.mt_journal.specs.Recovery.{HasReadAll}

pub read_to : (C : ℕ) (log : LogRead) (at : Position) (bytes seen : List ℕ) → log.header.columns ≡ C → HasReadAll log.header log.entries.items at bytes → bytes ≡ seen → IsReadTo C seen at
read_to C log at bytes seen columns read same = record {
  log = log;
  columns = columns;
  read = subst (λ (l : List ℕ). HasReadAll log.header log.entries.items at l) same read;
}

pub first_lost : (at : Position) (bytes seen : List ℕ) (found other : Option ℕ) → bytes ≡ seen → found ≡ other → IsFirstLost at bytes found → IsFirstLost at seen other
first_lost at bytes seen found other same is first =
    subst (λ (l : List ℕ). IsFirstLost at l other) same (subst (λ (o : Option ℕ). IsFirstLost at bytes o) is first)
