use Rattle.std.proofs.Common.{ℕ, ◌≡◌, ◌∙◌, true, List, ap, sym, subst}
use Rattle.std.specs.Prelude.{Option, Ok, Err}
use Rattle.std.specs.Range.Bound.{bound_map}
use Rattle.std.specs.declared.ops.Bound.{Bound}
use Rattle.mt_asked.specs.Bounds.{is_from}
use Rattle.std.proofs.lemmas.Result.{err_from_is_err_and}
use Rattle.mt_shared.specs.declared.answers.At.{At}
use Rattle.mt_shared.specs.Walks.{IsLastKey, IsPiece, Rows}
use Rattle.std.specs.Prelude.{Result, Some, []}
use Rattle.mt_types.specs.declared.limits.TheConstants.{MAX_RANGE}
use Rattle.mt_types.specs.declared.refusal.Refusal.{Refusal}
use Rattle.mt_types.specs.declared.refusal.Refusal.TheVariants.{NoMemory}
use Rattle.mt_types.specs.declared.event.Reply.{Reply}
use Rattle.mt_types.specs.declared.event.Request.TheVariants.{Range}
use Rattle.mt_asked.specs.Bounds.{start_key}
use Rattle.mt_shared.specs.Clients.{Reads, answer_at, rows_within}
use Rattle.mt_shared.proofs.WalkLemmas.{is_later, moved, no_piece, piece_of, refused_piece, short_piece}
use Rattle.mt_shared.proofs.walk.Walk.next.Goals as goal

-- the last key of a piece isn't before the bound from which it was read
pub go_to-requires-clause-later : goal.go_to-requires-clause-later
go_to-requires-clause-later g c =
    let (ended, is, reads) = c.in_ok-piece.ensures.answers in
    subst (λ (b : Bound (List ℕ)). is_from b c.in-Some.last ≡ true) c.rest.ensures.start
    (is_later (bound_map (λ key. key.now) c.rest.result.0) (bound_map (λ key. key.now) c.rest.result.1) ended c.in_ok-piece.piece c.in-Some.last (sym is)
    (subst (λ (k : Option (List ℕ)). IsLastKey c.in_ok-piece.piece.value (Ok k)) c.in-Some.is c.in_ok-last.ensures))

pub returns-in_default-clause-piece : goal.returns-in_default-clause-piece
returns-in_default-clause-piece g c =
    let (ended, is, reads) = c.in_ok-piece.ensures.answers in
    let from = bound_map (λ key. key.now) c.rest.result.0 in
    let end = bound_map (λ key. key.now) c.rest.result.1 in
    moved (λ (b : Bound (List ℕ)) (e : Result Reply Refusal). Reads g.S.Shared.does g.S.Shared.shows (g.S.Shared.columns c.args.client.now.shared) c.args.client.now.shared c.args.client.now.pass (Range (start_key b) MAX_RANGE []) e c.range.new.self.shared c.range.new.self.pass)
    from _ end _ ended c.args.self.now.last _ _ c.rest.ensures.start c.rest.ensures.end reads
    (no_piece (answer_at (rows_within from end) ended) c.in_ok-piece.piece c.args.self.now.last (sym is)
    (subst (λ (k : Option (List ℕ)). IsLastKey c.in_ok-piece.piece.value (Ok k)) c.in_default.is c.in_ok-last.ensures))

pub returns-clause-piece : goal.returns-clause-piece
returns-clause-piece g c =
    let (ended, is, reads) = c.in_ok-piece.ensures.answers in
    let from = bound_map (λ key. key.now) c.rest.result.0 in
    let end = bound_map (λ key. key.now) c.rest.result.1 in
    moved (λ (b : Bound (List ℕ)) (e : Result Reply Refusal). Reads g.S.Shared.does g.S.Shared.shows (g.S.Shared.columns c.args.client.now.shared) c.args.client.now.shared c.args.client.now.pass (Range (start_key b) MAX_RANGE []) e c.range.new.self.shared c.range.new.self.pass)
    from _ end _ ended c.args.self.now.last _ _ c.rest.ensures.start c.rest.ensures.end reads
    (subst (λ (next : Option (List ℕ)). IsPiece (answer_at (rows_within from end) ended) c.args.self.now.last (Ok (Some c.in_ok-piece.piece)) next) (sym c.go_to.ensures.last)
    (piece_of (answer_at (rows_within from end) ended) c.in_ok-piece.piece c.args.self.now.last c.in-Some.last (sym is)
    (subst (λ (k : Option (List ℕ)). IsLastKey c.in_ok-piece.piece.value (Ok k)) c.in-Some.is c.in_ok-last.ensures)))

pub returns-in_err-piece-clause-piece : goal.returns-in_err-piece-clause-piece
returns-in_err-piece-clause-piece g c =
    let (ended, is, reads) = c.in_err-piece.ensures.answers in
    let from = bound_map (λ key. key.now) c.rest.result.0 in
    let end = bound_map (λ key. key.now) c.rest.result.1 in
    moved (λ (b : Bound (List ℕ)) (e : Result Reply Refusal). Reads g.S.Shared.does g.S.Shared.shows (g.S.Shared.columns c.args.client.now.shared) c.args.client.now.shared c.args.client.now.pass (Range (start_key b) MAX_RANGE []) e c.range.new.self.shared c.range.new.self.pass)
    from _ end _ ended c.args.self.now.last _ _ c.rest.ensures.start c.rest.ensures.end reads
    (let p = err_from_is_err_and c.from_residual.result c.from_residual.ensures.1 in
    let same : c.from_residual.result ≡ Err c.in_err-piece.field-0.0 = p.1 ∙ ap (λ (e : Refusal). Err e) p.2 in
    subst (λ (r : Result (Option (At Rows)) Refusal). IsPiece (answer_at (rows_within from end) ended) c.args.self.now.last r c.args.self.now.last) (sym same)
    (refused_piece (answer_at (rows_within from end) ended) c.in_err-piece.field-0.0 c.args.self.now.last (sym is)))

pub returns-in_err-last-clause-piece : goal.returns-in_err-last-clause-piece
returns-in_err-last-clause-piece g c =
    let (ended, is, reads) = c.in_ok-piece.ensures.answers in
    let from = bound_map (λ key. key.now) c.rest.result.0 in
    let end = bound_map (λ key. key.now) c.rest.result.1 in
    moved (λ (b : Bound (List ℕ)) (e : Result Reply Refusal). Reads g.S.Shared.does g.S.Shared.shows (g.S.Shared.columns c.args.client.now.shared) c.args.client.now.shared c.args.client.now.pass (Range (start_key b) MAX_RANGE []) e c.range.new.self.shared c.range.new.self.pass)
    from _ end _ ended c.args.self.now.last _ _ c.rest.ensures.start c.rest.ensures.end reads
    (let p = err_from_is_err_and c.from_residual-in_err-last.result c.from_residual-in_err-last.ensures.1 in
    let same : c.from_residual-in_err-last.result ≡ Err NoMemory = p.1 ∙ ap (λ (e : Refusal). Err e) p.2 in
    subst (λ (r : Result (Option (At Rows)) Refusal). IsPiece (answer_at (rows_within from end) ended) c.args.self.now.last r c.args.self.now.last) (sym same)
    (short_piece (answer_at (rows_within from end) ended) c.in_ok-piece.piece c.args.self.now.last c.in_err-last.field-0.0 (sym is) c.in_err-last.ensures))
