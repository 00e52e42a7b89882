-- What survives of lives one after the other.
use Rattle.std.proofs.Common.{◌≡◌, ◌∙◌, ◌≤◌, ℕ, List, [], ◌∷◌, length, take, inl, refl, sym, subst, arith}
use Rattle.std.proofs.lemmas.List.{length-take-le, take-take}
use Rattle.mt_types.specs.declared.row.Change.{Change}
use Rattle.mt_folder_laws.specs.Left.{AreLeft, FirstAreRead, HasNoNewer}
use Rattle.mt_folder_log.specs.declared.checkpoint.Other.{Other}
use Rattle.mt_folder_log.specs.declared.checkpoint.Other.TheVariants.{Free, Needed, Gone}
use Rattle.mt_folder_log.specs.Folder.{MayBeBeside}
use Rattle.mt_map_folder.specs.declared.log.MapLog.{MapLog}
use Rattle.mt_lives.specs.Lives.{AllAreLeft}
use Rattle.mt_lives.specs.Sentence.{opened_at, AreLeftOf, AreRowsAfter, HasFirst, IsLife, LivesSurvive, MayLeaveOther, Survive}
use Rattle.mt_lives.specs.Turns.{LeadsAll, Reached}
use Rattle.mt_lives.specs.declared.turn.Told.{Told}
use Rattle.mt_lives.specs.declared.turn.Turn.{Turn}

-- the first m, of which others are the first too
again : {A : Type 0} (m : ℕ) (xs later : List A) → take m later ≡ take m (take m xs) → take m later ≡ take m xs
again m xs later same = same ∙ take-take m m xs (omega arith)

module _ (reads : FirstAreRead) (C : ℕ) (changes : List Change) (durable : ℕ) (left others : List ℕ) (are : AreLeft C changes durable left others) where
  within : are.count ≤ length changes
  within = (are.again changes refl).within

  -- the files have the first of the changes
  first_of : HasFirst C (take are.count changes) are.count left others
  first_of =
      let long : length (take are.count changes) ≡ are.count = length-take-le are.count changes within in (
        omega (arith, long),
        inl (λ later same. inl (are.again later (again are.count changes later same))),
      )

  -- and exactly their rows are read
  read : AreRowsAfter C (take are.count changes) left others
  read = λ rows from.
      let long : length (take are.count changes) ≡ are.count = length-take-le are.count changes within in
      let is = reads C changes are.count left others rows (are.again changes refl) from in
      (is.0 ∙ sym long, is.1)

pub survive : FirstAreRead → LivesSurvive
survive reads C even odd changes n [] first lives = tt
survive reads C even odd changes n (life ∷ lives) first (one, more) =
    let is = one changes n first in (
      is.reached,
      is.leads,
      λ fair.
          let are = is.left fair in
          let front = take are.count is.reached.changes in
          let same : take are.count front ≡ take are.count is.reached.changes = again are.count is.reached.changes front refl in (
            are.count,
            are.enough,
            within reads C is.reached.changes is.reached.durable life.left life.others are,
            read reads C is.reached.changes is.reached.durable life.left life.others are,
            subst (λ (cs : List Change). Survive C (record { changes = cs; written = are.count; durable = are.count }) lives) same
                (survive reads C life.left life.others front are.count lives (first_of reads C is.reached.changes is.reached.durable life.left life.others are) more),
          ),
    )

-- ---- one life
-- the file that the log in use doesn't have, if a crash leaves this of it
beside : {D : Type 0} (C : ℕ) (may_leave : D → List ℕ → Type 0) (durable generation : ℕ) (other : Other D) (others : List ℕ) → MayLeaveOther may_leave other others
    → HasNoNewer C generation durable others → MayBeBeside C may_leave durable generation other others
beside C may_leave durable generation (Free disk most) others leaves none = none
beside C may_leave durable generation (Needed disk last copied has_all) others leaves none = leaves
beside C may_leave durable generation Gone others leaves none = none

-- turns that were taken since a life began, and what a crash leaves then
pub life_of : {D : Type 0} (may_leave : D → List ℕ → Type 0) (C : ℕ) (changes : List Change) (n : ℕ) (turns : List Turn) (told : List Told) (log : MapLog D) (left others : List ℕ) (b : Reached)
    → LeadsAll C turns told (opened_at changes n) b → AllAreLeft may_leave C b log → AreLeftOf may_leave log left others → IsLife C (record { turns = turns; told = told; left = left; others = others }) changes n
life_of may_leave C changes n turns told log left others b leads all (of_log, of_other) = record {
  reached = b;
  leads = leads;
  left = λ fair.
      let (header, entries, is, columns, generation) = all.heads left of_log in
      let none = subst (λ (k : ℕ). HasNoNewer C k b.durable others) generation (fair header entries is columns) in
      all.found left others of_log (beside C may_leave b.durable all.generation log.log.other others of_other none);
}
