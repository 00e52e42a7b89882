-- What is computed of the versions of a log that is read tells what was so at its numbers.
use Rattle.std.proofs.Common.{◌≡◌, ◌≤◌, ℕ, Bool, List, length, ap, sym, ◌∙◌, subst}
use Rattle.std.specs.Prelude.{IsTrue, ◌↔◌, Result, IfOk}
use Rattle.mt_types.specs.declared.event.Request.{Request}
use Rattle.mt_types.specs.declared.event.Answer.{Answer}
use Rattle.std.specs.BTreeMap as tree
use Rattle.std.specs.Option.{is_none}
use Rattle.mt_types.specs.Keys.{key_cmp}
use Rattle.mt_types.specs.Ranges.{IsRangeAnswer}
use Rattle.mt_types.specs.declared.row.Row.{Row}
use Rattle.mt_types.specs.declared.row.Delta.{Delta}
use Rattle.mt_check.specs.declared.versions.Version.{Version}
use Rattle.mt_check.specs.declared.versions.Versions.{Versions}
use Rattle.mt_check.specs.Receipts.{Sometime, Throughout, Shows, Lacks, Stands, IsRightAnswer}
use Rattle.mt_check.specs.Versions.{Rising, versions_of, versions_in, some_between, shows_as}
use Rattle.mt_check.specs.Ranges.{walks_in}
use Rattle.mt_check.specs.Judging.{IsRead}
use Rattle.mt_check.proofs.VersionLemmas.{rising_versions}
use Rattle.mt_check.proofs.RangeLemmas.{Told, lacks_sometime, sometime_lacks, shown_sometime, sometime_shown, walks_right, right_walks}

-- the versions of each key rise
pub read_rise : (deltas : List Delta) (versions : Versions) → IsRead deltas versions → (key : List ℕ) → Rising 0 (versions_in versions key)
read_rise deltas versions read key = subst (λ (vs : List Version). Rising 0 vs) (sym (read.are key)) (rising_versions key 0 deltas read.sound.numbered)

pub found_rise : (deltas : List Delta) (versions : Versions) (key : List ℕ) (vs : List Version) → IsRead deltas versions → vs ≡ versions_in versions key → Rising 0 vs
found_rise deltas versions key vs read found = subst (λ (ws : List Version). Rising 0 ws) (sym found) (read_rise deltas versions read key)

are_found : (deltas : List Delta) (versions : Versions) (key k : List ℕ) (vs : List Version) → IsRead deltas versions → k ≡ key → vs ≡ versions_in versions k → vs ≡ versions_of key deltas
are_found deltas versions key k vs read same found = found ∙ ap (versions_in versions) same ∙ read.are key

pub tells_lacking : (deltas : List Delta) (versions : Versions) (from to : ℕ) (key k : List ℕ) (vs : List Version) (yes_ : Bool) → IsRead deltas versions → from ≤ to
    → k ≡ key → vs ≡ versions_in versions k → yes_ ≡ some_between is_none from to vs → IsTrue yes_ ↔ Sometime from to (Lacks deltas key)
tells_lacking deltas versions from to key k vs yes_ read span same found e =
    let is : yes_ ≡ some_between is_none from to (versions_of key deltas) = e ∙ ap (some_between is_none from to) (are_found deltas versions key k vs read same found) in (
      λ y. lacks_sometime deltas from to key span read.sound.numbered (sym is ∙ y),
      λ s. is ∙ sometime_lacks deltas from to key read.sound.numbered s,
    )

pub tells_shown : (deltas : List Delta) (versions : Versions) (from to : ℕ) (key k asked : List ℕ) (answer : Row) (vs : List Version) (yes_ : Bool) → IsRead deltas versions → from ≤ to
    → k ≡ key → vs ≡ versions_in versions k → yes_ ≡ some_between (shows_as asked answer) from to vs → IsTrue yes_ ↔ Sometime from to (Shows deltas key asked answer)
tells_shown deltas versions from to key k asked answer vs yes_ read span same found e =
    let is : yes_ ≡ some_between (shows_as asked answer) from to (versions_of key deltas) = e ∙ ap (some_between (shows_as asked answer) from to) (are_found deltas versions key k vs read same found) in (
      λ y. shown_sometime deltas from to key asked answer span read.sound.numbered (sym is ∙ y),
      λ s. is ∙ sometime_shown deltas from to key asked answer read.sound.numbered s,
    )

-- too many pairs, or a walk that ends badly, are no right answer; else they are one
pub tells_range : (deltas : List Delta) (versions : Versions) (from to : ℕ) (start s asked : List ℕ) (limit : ℕ) (pairs : List (List ℕ × Row)) (yes_ : Bool) → IsRead deltas versions → from ≤ to
    → s ≡ start → tree.IsOrdered key_cmp versions.of → length pairs ≤ limit → yes_ ≡ walks_in versions s limit asked from to pairs
    → IsTrue yes_ ↔ IsRangeAnswer (λ key answer. Sometime from to (Shows deltas key asked answer)) (λ key. Throughout from to (Stands deltas key)) start limit pairs
tells_range deltas versions from to start s asked limit pairs yes_ read span same ordered few e =
    let told : Told deltas versions = record { numbered = read.sound.numbered; are = read.are; ordered = ordered } in
    let is : yes_ ≡ walks_in versions start limit asked from to pairs = e ∙ ap (λ (z : List ℕ). walks_in versions z limit asked from to pairs) same in (
      λ y. walks_right deltas versions start limit asked from to pairs told span few (sym is ∙ y),
      λ right. is ∙ right_walks deltas versions start limit asked from to pairs told span right,
    )

-- what is known of a request and an answer is known of the same ones
pub of_answer : {E : Type 0} (C : ℕ) (deltas : List Delta) (from to : ℕ) (request q : Request) (answer a : Answer) (r : Result Bool E) → request ≡ q → answer ≡ a
    → IfOk r (λ yes_. IsTrue yes_ ↔ IsRightAnswer C deltas from to q a) → IfOk r (λ yes_. IsTrue yes_ ↔ IsRightAnswer C deltas from to request answer)
of_answer C deltas from to request q answer a r e f h =
    subst (λ (z : Request). IfOk r (λ yes_. IsTrue yes_ ↔ IsRightAnswer C deltas from to z answer)) (sym e)
    (subst (λ (z : Answer). IfOk r (λ yes_. IsTrue yes_ ↔ IsRightAnswer C deltas from to q z)) (sym f) h)
