-- How many of the open calls change the tree, as calls begin, continue and end.
use Rattle.std.proofs.Common.{ℕ, ◌≡◌, ◌≤◌, ◌+◌, ◌++◌, Bool, true, false, [], ◌∷◌, length, Some, ap, cond, arith}
use Rattle.mt_types.specs.declared.event.Request.{Request}
use Rattle.mt_promise.specs.Legal.{reads_log}
use Rattle.mt_arena.specs.Arena.{ArenaView}
use Rattle.mt_commit.specs.Log.{LogView}
use Rattle.mt_works.specs.Works.{request_of}
use Rattle.mt_index.specs.declared.calls.Call.{Call}
use Rattle.mt_index.specs.declared.calls.Found.{Found}
use Rattle.mt_index.specs.declared.calls.Found.TheVariants.{Missing, Built, Stepped}
use Rattle.mt_index.specs.Calls.{call_at, with_changed, with_work, without, changes, changing, FindsCall}
use Rattle.mt_index.proofs.NumberLemmas.{Entries}
use Rattle.mt_index.proofs.ListLemmas.{total_changed, total_without, total_append}

counts_few : (b : Bool) → cond b 0 1 ≤ 1
counts_few true = omega arith
counts_few false = omega arith

pub changes_few : (call : Call) → changes call ≤ 1
changes_few call = counts_few (reads_log (request_of call.work))

pub changing_few : (ks : Entries) → changing ks ≤ length ks
changing_few [] = omega arith
changing_few (k ∷ ks) =
    let rest = changing_few ks in
    let one : changes k.1 ≤ 1 = counts_few (reads_log (request_of k.1.work)) in
    omega (arith, rest, one)

-- a step changes no call's kind
pub same_changes : (now C : ℕ) (call new : Call) (a after : ArenaView) (log left : LogView) (found : Found) → FindsCall now C call new a after log left found → changes new ≡ changes call
same_changes now C call new a after log left Missing finds = absurd finds
same_changes now C call new a after log left Built finds = ap changes finds.1
same_changes now C call new a after log left (Stepped stepped) finds =
    let counts : Request → ℕ = λ q. cond (reads_log q) 0 1 in
    ap counts finds.1.same_request

pub changing_begun : (ks : Entries) (number : ℕ) (call : Call) → changing (ks ++ (number, call) ∷ []) ≡ changing ks + changes call
changing_begun ks number call = total_append changes ks (number, call)

pub changing_kept : (number : ℕ) (kept new : Call) (ks : Entries) → call_at number ks ≡ Some kept → changes new ≡ changes kept → changing (with_changed (with_work new.work) number ks) ≡ changing ks
changing_kept number kept new ks at same =
    let both = total_changed number kept changes (with_work new.work) ks at in
    let one : changes (with_work new.work kept) ≡ changes kept = same in
    omega (arith, both, one)

pub changing_left : (number : ℕ) (kept : Call) (ks : Entries) → call_at number ks ≡ Some kept → changing (without number ks) + changes kept ≡ changing ks
changing_left number kept ks at = total_without number kept changes ks at
