-- The changes of a batch as calls, one after the other, of three events each.
use Rattle.std.proofs.Common.{◌≡◌, ◌<◌, ◌≤◌, ◌+◌, ℕ, List, [], ◌∷◌, ◌++◌, length, map, Option, None, Some, refl, sym, ap, subst, ◌∙◌, arith, length-append}
use Rattle.std.specs.List.{AllByRecursion}
use Rattle.std.proofs.lemmas.List.{append_assoc, append-nil, length-map}
use Rattle.mt_types.specs.Numbers.{greatest_number}
use Rattle.mt_types.specs.Limits.{request_fault}
use Rattle.std.specs.FinMap.{get}
use Rattle.mt_types.specs.Rows.{Rows, after}
use Rattle.mt_types.specs.declared.row.Row.{Row}
use Rattle.mt_types.specs.declared.limits.TheConstants.{MAX_KEY_BYTES}
use Rattle.mt_types.specs.declared.event.Request.TheVariants as asked
use Rattle.mt_types.specs.declared.event.Answer.{Answer}
use Rattle.mt_types.specs.declared.event.Answer.TheVariants.{Stored}
use Rattle.mt_types.specs.declared.row.Change.{Change as RowChange}
use Rattle.mt_types.specs.declared.row.Change.TheVariants as made
use Rattle.mt_promise.specs.History.{History, moment, rows}
use Rattle.mt_promise.specs.Legal.{Legal}
use Rattle.mt_reach.proofs.Steps.{done, legal_done, one_call_done}
use Rattle.mt_asked.specs.Borrowed.{sets_of}
use Rattle.mt_undo.specs.Removing.{AreApart, AreThere, Taken, drops}
use Rattle.mt_index.specs.Marks.{GoesOnByCalls}
use Rattle.mt_index.proofs.RemovingStands.{removes_go}
use Rattle.mt_batch.specs.declared.batch.Change.{Change}
use Rattle.mt_batch.specs.declared.batch.Change.TheVariants.{Put, Remove}
use Rattle.mt_batch.specs.Batch.{changes_fault}
use Rattle.mt_batch.specs.Changes.{IsTwice, key_of, made_of, puts_of, request_of_change, taken_at, taken_of}
use Rattle.mt_batch.proofs.ChangeLemmas.{all_apart, first_none, taken_fit, taken_there, then_none}

no_calls : (C : ℕ) (h : History) → Legal C h → (moment h).calls ≡ [] → GoesOnByCalls C h [] h
no_calls C h legal none = record {
  on = record { own = []; block = refl; commits = sym (append-nil (moment h).commits); views = refl; built = refl; epoch = refl; begun = omega arith };
  legal = legal;
  closed = none;
  begun = omega arith;
  events = omega arith;
}

calls_on : (C : ℕ) (h m t : History) (first more : List RowChange) → GoesOnByCalls C h first m → GoesOnByCalls C m more t → GoesOnByCalls C h (first ++ more) t
calls_on C h m t first more a b = record {
  on = record {
    own = b.on.own ++ a.on.own;
    block = b.on.block ∙ ap (λ (l : History). b.on.own ++ l) a.on.block ∙ sym (append_assoc b.on.own a.on.own h);
    commits = b.on.commits ∙ ap (λ (cs : List RowChange). cs ++ more) a.on.commits ∙ append_assoc (moment h).commits first more;
    views = b.on.views ∙ a.on.views;
    built = b.on.built ∙ a.on.built;
    epoch = b.on.epoch ∙ a.on.epoch;
    begun = let one = a.on.begun in let other = b.on.begun in let both = length-append first more in omega (arith, one, other, both);
  };
  legal = b.legal;
  closed = b.closed;
  begun = let one = a.begun in let other = b.begun in let both = length-append first more in omega (arith, one, other, both);
  events = let one = a.events in let other = b.events in let both = length-append first more in omega (arith, one, other, both);
}

-- a put
module _ (C : ℕ) (h : History) (legal : Legal C h) (none : (moment h).calls ≡ []) (left : (moment h).begun < greatest_number) (key : List ℕ) (sets : List (ℕ × List ℕ))
    (fits : request_fault C (asked.Put key sets) ≡ None) where
  abbrev stored : Answer
  stored = Stored (length (moment h).commits + 1)

  abbrev put_done : History
  put_done = done C h legal none left (asked.Put key sets) fits refl stored

  put_goes : GoesOnByCalls C h (made.Put key sets ∷ []) put_done
  put_goes =
      let on = one_call_done C h legal none left (asked.Put key sets) fits refl stored refl in
      record {
        on = record {
          own = on.own;
          block = on.block;
          commits = on.commits;
          views = on.views;
          built = on.built;
          epoch = on.epoch;
          begun = let is = on.begun in omega (arith, is);
        };
        legal = legal_done C h legal none left (asked.Put key sets) fits refl stored (refl, refl) refl;
        closed = on.calls;
        begun = on.begun;
        events = omega arith;
      }

puts_go : (C : ℕ) (h : History) (changes : List Change) → Legal C h → (moment h).calls ≡ [] → (moment h).begun + length (puts_of changes) ≤ greatest_number → changes_fault C changes ≡ None
    → (later : History) × GoesOnByCalls C h (puts_of changes) later
puts_go C h [] legal none few fits = (h, no_calls C h legal none)
puts_go C h (Remove key ∷ changes) legal none few fits = puts_go C h changes legal none few (then_none (request_fault C (request_of_change (Remove key))) (changes_fault C changes) fits)
puts_go C h (Put key sets ∷ changes) legal none few fits =
    let left : (moment h).begun < greatest_number = omega (arith, few) in
    let own_fits = first_none (request_fault C (request_of_change (Put key sets))) (changes_fault C changes) fits in
    let first = put_goes C h legal none left key.now (sets_of sets.now) own_fits in
    let next = put_done C h legal none left key.now (sets_of sets.now) own_fits in
    let (later, rest) = puts_go C next changes first.legal first.closed (let begun = first.begun in omega (arith, few, begun)) (then_none (request_fault C (request_of_change (Put key sets))) (changes_fault C changes) fits) in
    (later, calls_on C h next later (made.Put key.now (sets_of sets.now) ∷ []) (puts_of changes) first rest)

-- rows are removed
takes_go : (C : ℕ) (h : History) (taken : List Taken) → Legal C h → (moment h).calls ≡ [] → (moment h).begun + length taken ≤ greatest_number → AreThere (rows C (moment h)) taken → AreApart taken
    → AllByRecursion (λ (t : Taken). length t.0 ≤ MAX_KEY_BYTES) taken → (later : History) × GoesOnByCalls C h (drops taken) later
takes_go C h taken legal none few there apart fit =
    let g = removes_go C h taken legal none few there apart fit in
    let many : length (drops taken) ≡ length taken = length-map taken (λ (t : Taken). made.Drop t.0) in (
      g.ahead,
      record {
        on = g.on;
        legal = g.legal;
        closed = g.calls;
        begun = let begun = g.begun in omega (arith, begun, many);
        events = let events = g.events in omega (arith, events, many);
      },
    )

-- all of them
pub all_go : (C : ℕ) (h : History) (changes : List Change) (taken : List Taken) → Legal C h → (moment h).calls ≡ [] → (moment h).begun + length (puts_of changes ++ drops taken) ≤ greatest_number
    → changes_fault C changes ≡ None → (IsTwice (map key_of changes) → ⊥) → taken ≡ taken_of (after C ((moment h).commits ++ puts_of changes)) changes
    → (later : History) × GoesOnByCalls C h (puts_of changes ++ drops taken) later
all_go C h changes taken legal none few fits once is =
    let both = length-append (puts_of changes) (drops taken) in
    let many : length (drops taken) ≡ length taken = length-map taken (λ (t : Taken). made.Drop t.0) in
    let (m, first) = puts_go C h changes legal none (omega (arith, few, both)) fits in
    let then_rows = after C ((moment h).commits ++ puts_of changes) in
    let there : AreThere then_rows taken = subst (AreThere then_rows) (sym is) (taken_there then_rows changes) in
    let apart : AreApart taken = subst AreApart (sym is) (all_apart then_rows changes once) in
    let fit = subst (λ (ts : List Taken). AllByRecursion (λ (t : Taken). length t.0 ≤ MAX_KEY_BYTES) ts) (sym is) (taken_fit C then_rows changes fits) in
    let (later, rest) = takes_go C m taken first.legal first.closed (let begun = first.begun in omega (arith, few, both, many, begun))
    (subst (λ (cs : List RowChange). AreThere (after C cs) taken) (sym first.on.commits) there) apart fit in
    (later, calls_on C h m later (puts_of changes) (drops taken) first rest)

-- ---- how many there are
taken_few : (key : List ℕ) (row : Option Row) → length (taken_at key row) ≤ 1
taken_few key None = omega arith
taken_few key (Some row) = omega arith

made_few : (rows : Rows) (changes : List Change) → length (puts_of changes) + length (taken_of rows changes) ≤ length changes
made_few rows [] = omega arith
made_few rows (Put key sets ∷ changes) = let rest = made_few rows changes in omega (arith, rest)
made_few rows (Remove key ∷ changes) =
    let rest = made_few rows changes in
    let one = taken_few key.now (get rows key.now) in
    let both = length-append (taken_at key.now (get rows key.now)) (taken_of rows changes) in
    omega (arith, rest, one, both)

-- at most as many commits as changes
pub commits_few : (C : ℕ) (before : List RowChange) (changes : List Change) → length (made_of C before changes) ≤ length changes
commits_few C before changes =
    let few = made_few (after C (before ++ puts_of changes)) changes in
    let both = length-append (puts_of changes) (drops (taken_of (after C (before ++ puts_of changes)) changes)) in
    let many = length-map (taken_of (after C (before ++ puts_of changes)) changes) (λ (t : Taken). made.Drop t.0) in
    omega (arith, few, both, many)
