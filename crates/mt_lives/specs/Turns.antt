-- WHERE TURNS LEAD: what a plain list of changes answers, of which some are written and some durable.
use Rattle.std.specs.Prelude.{◌≡◌, ◌+◌, ◌-◌, ℕ, min, List, [], ◌∷◌, ◌++◌, length, Result, Ok, Err}
use Rattle.mt_types.specs.Rows.{Rows, after}
use Rattle.mt_types.specs.declared.event.Answer.{Answer}
use Rattle.mt_types.specs.declared.event.Request.{Request}
use Rattle.mt_types.specs.declared.limits.TheConstants.{MAX_RANGE}
use Rattle.mt_types.specs.declared.refusal.Refusal.{Refusal}
use Rattle.mt_types.specs.declared.row.Change.{Change}
use Rattle.mt_asked.specs.Borrowed.{request_of}
use Rattle.mt_promise.specs.Alone.{IsPlain, IsPlainRefusal}
use Rattle.mt_lives.specs.declared.turn.Told.{Told}
use Rattle.mt_lives.specs.declared.turn.Told.TheVariants.{Answered, Written, Durable, Advanced}
use Rattle.mt_lives.specs.declared.turn.Turn.{Turn}
use Rattle.mt_lives.specs.declared.turn.Turn.TheVariants.{Ask, Write, Sync, Advance}

-- what turns have reached: the changes that were made, how many of them were written, and the last number that was said to be durable
pub record Reached : Type 0 where
  pub changes : List Change
  pub written : ℕ
  pub durable : ℕ

-- A PLAIN MAP of these rows after n commits ANSWERS SO, and makes these changes by that; none if it refuses
abbrev pub AnswersAs : Rows → ℕ → Request → Result Answer Refusal → List Change → Type 0
AnswersAs map n request (Ok answer) made = IsPlain map n request answer made
AnswersAs map n request (Err refusal) made = IsPlainRefusal map request refusal × (made ≡ [])

-- A TURN LEADS from a to b, and is answered so
abbrev pub Leads : ℕ → Turn → Told → Reached → Reached → Type 0
Leads C (Ask asked) (Answered result) a b =
    (made : List Change) × AnswersAs (after C a.changes) (length a.changes) (request_of asked) result made
    × (b ≡ record { changes = a.changes ++ made; written = a.written; durable = a.durable })
Leads C Write Written a b =
    b ≡ record { changes = a.changes; written = a.written + min MAX_RANGE (length a.changes - a.written); durable = a.durable }
Leads C Sync (Durable number) a b =
    (number ≡ a.written) × (b ≡ record { changes = a.changes; written = a.written; durable = number })
Leads C (Advance begins) (Advanced going) a b = b ≡ a
Leads C _ _ a b = ⊥

-- THE FIRST OF THESE TURNS LEAD from a to b, and are answered so, each where the one before has led; the others were left
abbrev pub LeadsAll : ℕ → List Turn → List Told → Reached → Reached → Type 0
LeadsAll C turns [] a b = b ≡ a
LeadsAll C [] (told ∷ more) a b = ⊥
LeadsAll C (turn ∷ turns) (told ∷ more) a b = (m : Reached) × Leads C turn told a m × LeadsAll C turns more m b
