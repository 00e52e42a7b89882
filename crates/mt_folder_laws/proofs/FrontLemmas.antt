-- The first entries of a log that has no seal.
use Rattle.std.proofs.Common.{◌≡◌, ◌∙◌, ◌++◌, ◌-◌, ◌≤◌, ◌||◌, ◌==◌, ℕ, Bool, true, false, List, length, take, drop, refl, sym, ap, arith, append_assoc, length-append, IsTrue, inl, inr}
use Rattle.std.specs.List.{list_any}
use Rattle.std.proofs.Math.Seq.{take-append_seam}
use Rattle.std.proofs.lemmas.Bool.Decides.{eqb_tells}
use Rattle.std.proofs.lemmas.List.{take-append-drop}
use Rattle.std.proofs.lemmas.List.Folds.{list_any-append}
use Rattle.mt_types.specs.declared.row.Change.{Change}
use Rattle.mt_frame.specs.declared.entry.Entry.{Entry}
use Rattle.mt_frame.specs.declared.entry.Record.{Record}
use Rattle.mt_replay.specs.Redo.{is_seal, number_after}
use Rattle.mt_replay.specs.RedoLaws.{HaveCommits}
use Rattle.mt_replay.specs.Replay.{records_in, records_of}
use Rattle.mt_replay.proofs.EntryLemmas.{records-append}

-- they have the commits that follow those before
pub have_front : (C : ℕ) (changes : List Change) (b count : ℕ) (entries : List Entry) → HaveCommits C changes b entries → HaveCommits C changes b (take count entries)
have_front C changes b count entries have =
    let first = records_in (take count entries) in
    let rest = records_in (drop count entries) in
    let all = drop b (records_of C changes) in
    let n = number_after b entries - b in
    let parts : first ++ rest ≡ take n all = sym (records-append (take count entries) (drop count entries)) ∙ ap records_in (take-append-drop count entries) ∙ have in
    let whole : all ≡ first ++ (rest ++ drop n all) =
    sym (take-append-drop n all) ∙ ap (λ (l : List Record). l ++ drop n all) (sym parts) ∙ append_assoc first rest (drop n all) in
    let long : length first ≡ number_after b (take count entries) - b = omega arith in
    sym (take-append_seam first (rest ++ drop n all)) ∙ ap (take (length first)) (sym whole) ∙ ap (λ (k : ℕ). take k all) long

first_is_false : (a b : Bool) → (a || b) ≡ false → a ≡ false
first_is_false false b none = refl
first_is_false true b none = cc

-- nor have they a seal
pub front_unsealed : (count : ℕ) (entries : List Entry) → list_any is_seal entries ≡ false → list_any is_seal (take count entries) ≡ false
front_unsealed count entries none =
    first_is_false (list_any is_seal (take count entries)) (list_any is_seal (drop count entries))
    (sym (list_any-append is_seal (take count entries) (drop count entries)) ∙ ap (list_any is_seal) (take-append-drop count entries) ∙ none)

-- what has no seal is whole only from the first commit on
pub whole_from_first : (base : ℕ) (sealed : Bool) → sealed ≡ false → IsTrue ((base == 0) || sealed) → base ≡ 0
whole_from_first base sealed none whole = elim (eqb_tells base 0) [
  | inl is ↦ is.1
  | inr other ↦ absurd (let clash : false ≡ true = sym (ap (λ (b : Bool). b || sealed) other.0 ∙ none) ∙ whole in cc)
]

-- nor more commits than all of them
pub front_within : (b count : ℕ) (entries : List Entry) → number_after b (take count entries) ≤ number_after b entries
front_within b count entries =
    let first = records_in (take count entries) in
    let rest = records_in (drop count entries) in
    let parts : first ++ rest ≡ records_in entries = sym (records-append (take count entries) (drop count entries)) ∙ ap records_in (take-append-drop count entries) in
    omega (arith, ap length parts, length-append first rest)
