-- Where `==` holds of two values of the index, they are the same.
use Rattle.std.specs.Prelude.{ℕ, ◌&&◌, List}
use Rattle.std.specs.Cmp.{first_so, second_so}
use Rattle.std.specs.Cmp.Lexicographic.{pointwise, bytes_decides}
use Rattle.std.proofs.Common.{refl, ap, eqb, rules}
use Rattle.std.proofs.lemmas.Bool.{false≢true}
use Rattle.mt_promise.specs.ExactLists.{TellsSame, same_items, same_pairs, same_options}
use Rattle.mt_types.specs.declared.numbers.CallNo.{CallNo}
use Rattle.mt_types.specs.declared.numbers.PassNo.{PassNo}
use Rattle.mt_types.specs.declared.numbers.ViewNo.{ViewNo}
use Rattle.mt_types.specs.declared.row.Row.{Row}
use Rattle.mt_types.specs.declared.row.Delta.{Delta}
use Rattle.mt_types.specs.declared.row.Change.{Change}
use Rattle.mt_types.specs.declared.row.Change.TheVariants.{Put as PutChange, Drop}
use Rattle.mt_types.specs.declared.view.Page.{Page}
use Rattle.mt_types.specs.declared.view.ViewSpec.{ViewSpec}
use Rattle.mt_types.specs.declared.refusal.Refusal.{Refusal}
use Rattle.mt_types.specs.declared.event.TidyRule.{TidyRule}
use Rattle.mt_types.specs.declared.event.Request.{Request}
use Rattle.mt_types.specs.declared.event.Request.TheVariants.{Get, Put, PutIf, Remove, Range, Tidy, Build}
use Rattle.mt_types.specs.declared.event.Event.{Event}
use Rattle.mt_types.specs.declared.event.Event.TheVariants.{Begin, Step, Apply, ViewRead, ViewDrop, Advance, Collect}
use Rattle.mt_types.specs.declared.event.Answer.{Answer}
use Rattle.mt_types.specs.declared.event.Answer.TheVariants.{Absent, Found, Stored, Removed, Rows, Tidied, Built}
use Rattle.mt_types.specs.declared.event.Reply.{Reply}
use Rattle.mt_types.specs.declared.event.Outcome.{Outcome}
use Rattle.mt_types.specs.declared.event.Outcome.TheVariants.{Call, Moved, Again, Commit, Done, Applied, Current, View, Dropped, Epoch, Freed, Refused}
use Rattle.mt_types.specs.contracts.numbers.CallNoPartialEq.TheImpl as CallNoEq
use Rattle.mt_types.specs.contracts.numbers.PassNoPartialEq.TheImpl as PassNoEq
use Rattle.mt_types.specs.contracts.numbers.ViewNoPartialEq.TheImpl as ViewNoEq
use Rattle.mt_types.specs.contracts.row.RowPartialEq.TheImpl as RowEq
use Rattle.mt_types.specs.contracts.row.ChangePartialEq.TheImpl as ChangeEq
use Rattle.mt_types.specs.contracts.row.DeltaPartialEq.TheImpl as DeltaEq
use Rattle.mt_types.specs.contracts.view.PagePartialEq.TheImpl as PageEq
use Rattle.mt_types.specs.contracts.view.ViewSpecPartialEq.TheImpl as ViewSpecEq
use Rattle.mt_types.specs.contracts.refusal.RefusalPartialEq.TheImpl as RefusalEq
use Rattle.mt_types.specs.contracts.event.TidyRulePartialEq.TheImpl as TidyRuleEq
use Rattle.mt_types.specs.contracts.event.RequestPartialEq.TheImpl as RequestEq
use Rattle.mt_types.specs.contracts.event.EventPartialEq.TheImpl as EventEq
use Rattle.mt_types.specs.contracts.event.AnswerPartialEq.TheImpl as AnswerEq
use Rattle.mt_types.specs.contracts.event.ReplyPartialEq.TheImpl as ReplyEq
use Rattle.mt_types.specs.contracts.event.OutcomePartialEq.TheImpl as OutcomeEq
use Rattle.std.specs.contracts.prelude.U64PartialEq.TheImpl as U64Eq

same_number : TellsSame (λ (x y : ℕ). (U64Eq.ghosts).eq x y)
same_number x y e = search rules

pub same_bytes : TellsSame (pointwise (λ (x y : ℕ). eqb x y))
same_bytes x y e = (bytes_decides x y).0 e

pub same_rows : TellsSame (λ (x y : Row). (RowEq.ghosts).eq x y)
same_rows x y e =
    let version = same_number x.version y.version (first_so _ _ e) in
    let columns = same_items same_bytes x.columns y.columns (second_so _ _ e) in
    λ i. record { version = version i; columns = columns i }

same_sets : TellsSame (pointwise (λ (x y : ℕ × List ℕ). eqb x.0 y.0 && pointwise (λ (a b : ℕ). eqb a b) x.1 y.1))
same_sets = same_items (same_pairs same_number same_bytes)

same_keyed_rows : TellsSame (pointwise
    (λ (x y : List ℕ × Row). pointwise (λ (a b : ℕ). eqb a b) x.0 y.0 && (RowEq.ghosts).eq x.1 y.1))
same_keyed_rows = same_items (same_pairs same_bytes same_rows)

pub same_changes : TellsSame (λ (x y : Change). (ChangeEq.ghosts).eq x y)
same_changes (PutChange k s) (PutChange l t) e =
    let key = same_bytes k l (first_so _ _ e) in
    let sets = same_sets s t (second_so _ _ e) in
    λ i. PutChange (key i) (sets i)
same_changes (PutChange k s) (Drop l) e = absurd (false≢true e)
same_changes (Drop k) (PutChange l t) e = absurd (false≢true e)
same_changes (Drop k) (Drop l) e = ap Drop (same_bytes k l e)

pub same_deltas : TellsSame (λ (x y : Delta). (DeltaEq.ghosts).eq x y)
same_deltas x y e =
    let number = same_number x.number y.number (first_so _ _ e) in
    let rest = second_so _ _ e in
    let key = same_bytes x.key y.key (first_so _ _ rest) in
    let rows = second_so _ _ rest in
    let before = same_options same_rows x.before y.before (first_so _ _ rows) in
    let after = same_options same_rows x.after y.after (second_so _ _ rows) in
    λ i. record { number = number i; key = key i; before = before i; after = after i }

pub same_pages : TellsSame (λ (x y : Page). (PageEq.ghosts).eq x y)
same_pages x y e =
    let at = same_number x.at y.at (first_so _ _ e) in
    let rest = second_so _ _ e in
    let count = same_number x.count y.count (first_so _ _ rest) in
    let lists = second_so _ _ rest in
    let sums = same_items same_number x.sums y.sums (first_so _ _ lists) in
    let rows = same_keyed_rows x.rows y.rows (second_so _ _ lists) in
    λ i. record { at = at i; count = count i; sums = sums i; rows = rows i }

same_call_numbers : TellsSame (λ (x y : CallNo). (CallNoEq.ghosts).eq x y)
same_call_numbers x y e = search rules

same_pass_numbers : TellsSame (λ (x y : PassNo). (PassNoEq.ghosts).eq x y)
same_pass_numbers x y e = search rules

same_view_numbers : TellsSame (λ (x y : ViewNo). (ViewNoEq.ghosts).eq x y)
same_view_numbers x y e = search rules

same_view_specs : TellsSame (λ (x y : ViewSpec). (ViewSpecEq.ghosts).eq x y)
same_view_specs x y e = search rules

same_refusals : TellsSame (λ (x y : Refusal). (RefusalEq.ghosts).eq x y)
same_refusals x y e = search rules

same_tidy_rules : TellsSame (λ (x y : TidyRule). (TidyRuleEq.ghosts).eq x y)
same_tidy_rules x y e = search rules

pub same_requests : TellsSame (λ (x y : Request). (RequestEq.ghosts).eq x y)
same_requests (Get k c) (Get l d) e =
    let key = same_bytes k l (first_so _ _ e) in
    let columns = same_bytes c d (second_so _ _ e) in
    λ i. Get (key i) (columns i)
same_requests (Put k s) (Put l t) e =
    let key = same_bytes k l (first_so _ _ e) in
    let sets = same_sets s t (second_so _ _ e) in
    λ i. Put (key i) (sets i)
same_requests (PutIf k s m) (PutIf l t n) e =
    let key = same_bytes k l (first_so _ _ e) in
    let rest = second_so _ _ e in
    let sets = same_sets s t (first_so _ _ rest) in
    let version = same_number m n (second_so _ _ rest) in
    λ i. PutIf (key i) (sets i) (version i)
same_requests (Remove k) (Remove l) e = ap Remove (same_bytes k l e)
same_requests (Range s m c) (Range t n d) e =
    let start = same_bytes s t (first_so _ _ e) in
    let rest = second_so _ _ e in
    let limit = same_number m n (first_so _ _ rest) in
    let columns = same_bytes c d (second_so _ _ rest) in
    λ i. Range (start i) (limit i) (columns i)
same_requests (Tidy k) (Tidy l) e = ap Tidy (same_bytes k l e)
same_requests (Build s) (Build t) e = ap Build (same_view_specs s t e)
same_requests (Get k c) _ e = absurd (false≢true e)
same_requests (Put k s) _ e = absurd (false≢true e)
same_requests (PutIf k s m) _ e = absurd (false≢true e)
same_requests (Remove k) _ e = absurd (false≢true e)
same_requests (Range s m c) _ e = absurd (false≢true e)
same_requests (Tidy k) _ e = absurd (false≢true e)
same_requests (Build s) _ e = absurd (false≢true e)

pub same_answers : TellsSame (λ (x y : Answer). (AnswerEq.ghosts).eq x y)
same_answers Absent Absent e = refl
same_answers (Found r) (Found s) e = ap Found (same_rows r s e)
same_answers (Stored m) (Stored n) e = ap Stored (same_number m n e)
same_answers (Removed m) (Removed n) e = ap Removed (same_number m n e)
same_answers (Rows p) (Rows q) e = ap Rows (same_keyed_rows p q e)
same_answers (Tidied r) (Tidied s) e = ap Tidied (same_tidy_rules r s e)
same_answers (Built v) (Built w) e = ap Built (same_view_numbers v w e)
same_answers Absent _ e = absurd (false≢true e)
same_answers (Found r) _ e = absurd (false≢true e)
same_answers (Stored m) _ e = absurd (false≢true e)
same_answers (Removed m) _ e = absurd (false≢true e)
same_answers (Rows p) _ e = absurd (false≢true e)
same_answers (Tidied r) _ e = absurd (false≢true e)
same_answers (Built v) _ e = absurd (false≢true e)

pub same_replies : TellsSame (λ (x y : Reply). (ReplyEq.ghosts).eq x y)
same_replies x y e =
    let pass = same_pass_numbers x.pass y.pass (first_so _ _ e) in
    let rest = second_so _ _ e in
    let call = same_call_numbers x.call y.call (first_so _ _ rest) in
    let numbers = second_so _ _ rest in
    let from = same_number x.from y.from (first_so _ _ numbers) in
    let last = second_so _ _ numbers in
    let to = same_number x.to y.to (first_so _ _ last) in
    let answer = same_answers x.answer y.answer (second_so _ _ last) in
    λ i. record { pass = pass i; call = call i; from = from i; to = to i; answer = answer i }

pub same_events : TellsSame (λ (x y : Event). (EventEq.ghosts).eq x y)
same_events (Begin p q) (Begin r s) e =
    let pass = same_pass_numbers p r (first_so _ _ e) in
    let request = same_requests q s (second_so _ _ e) in
    λ i. Begin (pass i) (request i)
same_events (Step c) (Step d) e = ap Step (same_call_numbers c d e)
same_events (Apply v) (Apply w) e = ap Apply (same_view_numbers v w e)
same_events (ViewRead v f s m) (ViewRead w g t n) e =
    let view = same_view_numbers v w (first_so _ _ e) in
    let rest = second_so _ _ e in
    let floor = same_number f g (first_so _ _ rest) in
    let last = second_so _ _ rest in
    let start = same_bytes s t (first_so _ _ last) in
    let limit = same_number m n (second_so _ _ last) in
    λ i. ViewRead (view i) (floor i) (start i) (limit i)
same_events (ViewDrop v) (ViewDrop w) e = ap ViewDrop (same_view_numbers v w e)
same_events Advance Advance e = refl
same_events Collect Collect e = refl
same_events (Begin p q) _ e = absurd (false≢true e)
same_events (Step c) _ e = absurd (false≢true e)
same_events (Apply v) _ e = absurd (false≢true e)
same_events (ViewRead v f s m) _ e = absurd (false≢true e)
same_events (ViewDrop v) _ e = absurd (false≢true e)
same_events Advance _ e = absurd (false≢true e)
same_events Collect _ e = absurd (false≢true e)

pub same_outcomes : TellsSame (λ (x y : Outcome). (OutcomeEq.ghosts).eq x y)
same_outcomes (Call c) (Call d) e = ap Call (same_call_numbers c d e)
same_outcomes Moved Moved e = refl
same_outcomes Again Again e = refl
same_outcomes (Commit m) (Commit n) e = ap Commit (same_number m n e)
same_outcomes (Done r) (Done s) e = ap Done (same_replies r s e)
same_outcomes (Applied m) (Applied n) e = ap Applied (same_number m n e)
same_outcomes Current Current e = refl
same_outcomes (View p) (View q) e = ap View (same_pages p q e)
same_outcomes Dropped Dropped e = refl
same_outcomes (Epoch m) (Epoch n) e = ap Epoch (same_number m n e)
same_outcomes (Freed m) (Freed n) e = ap Freed (same_number m n e)
same_outcomes (Refused r) (Refused s) e = ap Refused (same_refusals r s e)
same_outcomes (Call c) _ e = absurd (false≢true e)
same_outcomes Moved _ e = absurd (false≢true e)
same_outcomes Again _ e = absurd (false≢true e)
same_outcomes (Commit m) _ e = absurd (false≢true e)
same_outcomes (Done r) _ e = absurd (false≢true e)
same_outcomes (Applied m) _ e = absurd (false≢true e)
same_outcomes Current _ e = absurd (false≢true e)
same_outcomes (View p) _ e = absurd (false≢true e)
same_outcomes Dropped _ e = absurd (false≢true e)
same_outcomes (Epoch m) _ e = absurd (false≢true e)
same_outcomes (Freed m) _ e = absurd (false≢true e)
same_outcomes (Refused r) _ e = absurd (false≢true e)
