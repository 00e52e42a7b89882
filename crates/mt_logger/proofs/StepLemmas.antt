-- What the next step of a checkpoint says of the log.
use Rattle.std.proofs.Common.{◌≡◌, ◌<◌, ℕ, Bool, true, false, Option, Some, None, refl}
use Rattle.std.specs.Prelude.{◌&&◌, nat_le, nat_lt, if◌then◌else◌, is_some}
use Rattle.std.proofs.lemmas.Bool.{ltb-true}
use Rattle.mt_frame.specs.declared.entry.Part.{Part}
use Rattle.mt_journal.specs.declared.position.Position.{Position}
use Rattle.mt_folder_log.specs.declared.checkpoint.Other.{Other}
use Rattle.mt_folder_log.specs.declared.checkpoint.Other.TheVariants.{Free, Needed, Gone}
use Rattle.mt_folder_log.specs.declared.checkpoint.Round.{Round}
use Rattle.mt_folder_log.specs.declared.checkpoint.Round.TheVariants.{Rests as RoundRests, Moves as RoundMoves, Copies as RoundCopies, Seals as RoundSeals}
use Rattle.mt_folder_log.specs.Folder.{HasAll}
use Rattle.mt_folder_log.specs.Moving.{round_of, IfFree, IfNeeded}
use Rattle.mt_logger.specs.declared.checkpoint.Step.TheVariants.{Rests, Moves, Reads, Copies, Seals}
use Rattle.mt_logger.specs.Rounds.{step_of}

-- ---- the round of a step
no_reads : (b : Bool) → Moves ≡ (if b then Copies else Reads) → ⊥
no_reads true is = cc
no_reads false is = cc

no_seals : (b : Bool) → Seals ≡ (if b then Copies else Reads) → ⊥
no_seals true is = cc
no_seals false is = cc

no_copies : (b : Bool) → Copies ≡ (if b then Rests else Moves) → ⊥
no_copies true is = cc
no_copies false is = cc

no_moved_seals : (b : Bool) → Seals ≡ (if b then Rests else Moves) → ⊥
no_moved_seals true is = cc
no_moved_seals false is = cc

has_some : (b : Bool) → Copies ≡ (if b then Copies else Reads) → b ≡ true
has_some true is = refl
has_some false is = cc

pub step_moves : (is_last has_rows : Bool) (round : Round) → Moves ≡ step_of is_last has_rows round → round ≡ RoundMoves
step_moves is_last has_rows RoundRests is = cc
step_moves is_last has_rows RoundMoves is = refl
step_moves is_last has_rows RoundCopies is = absurd (no_reads has_rows is)
step_moves is_last has_rows RoundSeals is = cc

pub step_copies : (is_last has_rows : Bool) (round : Round) → Copies ≡ step_of is_last has_rows round → (round ≡ RoundCopies) × (has_rows ≡ true)
step_copies is_last has_rows RoundRests is = absurd (let clash : Copies ≡ Rests = is in cc)
step_copies is_last has_rows RoundMoves is = absurd (no_copies is_last is)
step_copies is_last has_rows RoundCopies is = (refl, has_some has_rows is)
step_copies is_last has_rows RoundSeals is = absurd (let clash : Copies ≡ Seals = is in cc)

pub step_seals : (is_last has_rows : Bool) (round : Round) → Seals ≡ step_of is_last has_rows round → round ≡ RoundSeals
step_seals is_last has_rows RoundRests is = cc
step_seals is_last has_rows RoundMoves is = absurd (no_moved_seals is_last is)
step_seals is_last has_rows RoundCopies is = absurd (no_seals has_rows is)
step_seals is_last has_rows RoundSeals is = refl

-- ---- what the other file is
second_of : (a b c : Bool) → (if a && b && c then RoundMoves else RoundRests) ≡ RoundMoves → b ≡ true
second_of true true c is = refl
second_of false true c is = refl
second_of true false c is = cc
second_of false false c is = cc

neither : (b : Bool) → (if b then RoundMoves else RoundRests) ≡ RoundCopies → ⊥
neither true is = cc
neither false is = cc

pub of_moves : {D P : Type 0} (least : ℕ) (at : Position) (other : Other D) → round_of least at other ≡ RoundMoves → IfFree other P → P
of_moves least at (Free disk most) is p = p
of_moves least at (Needed disk last copied true) is p = cc
of_moves least at (Needed disk last copied false) is p = cc
of_moves least at Gone is p = cc

pub some_moves : {D : Type 0} (least : ℕ) (at : Position) (other : Other D) → round_of least at other ≡ RoundMoves → 0 < at.newest
some_moves least at (Free disk most) is = ltb-true 0 at.newest (second_of (nat_lt 0 least) (nat_lt 0 at.newest) (nat_le most at.end) is)
some_moves least at (Needed disk last copied true) is = cc
some_moves least at (Needed disk last copied false) is = cc
some_moves least at Gone is = cc

pub of_copies : {D P : Type 0} (least : ℕ) (at : Position) (other : Other D) → round_of least at other ≡ RoundCopies → IfNeeded other (λ copied. P) → P
of_copies least at (Free disk most) is p = absurd (neither (nat_lt 0 least && nat_lt 0 at.newest && nat_le most at.end) is)
of_copies least at (Needed disk last copied true) is p = cc
of_copies least at (Needed disk last copied false) is p = p
of_copies least at Gone is p = cc

pub of_seals : {D : Type 0} (least : ℕ) (at : Position) (other : Other D) → round_of least at other ≡ RoundSeals → HasAll other
of_seals least at (Free disk most) is = tt
of_seals least at (Needed disk last copied true) is = refl
of_seals least at (Needed disk last copied false) is = cc
of_seals least at Gone is = tt

-- rows were read
pub of_some : (ready : Option Part) (P : Option Part → Type 0) → is_some ready ≡ true → ((part : Part) → ready ≡ Some part → P (Some part)) → P ready
of_some None P some f = absurd (let clash : false ≡ true = some in cc)
of_some (Some part) P some f = f part refl
