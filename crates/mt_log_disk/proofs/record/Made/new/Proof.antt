-- `new` makes a struct of no bytes, and its list is the empty one.
use Rattle.std.proofs.Common.{[], ◌∷◌, refl}
use Rattle.std.proofs.raw_atomic.Walks.{proved}
use mir.Val.{vstruct, vnil}
use contract.Running.{tables}
use types.Kit.{raw, ◌$◌, ◌∵◌, !, qed, keep, join, suffices, done}
use types.Run.{no_more, returns, enter}
use types.Part.{agg}
use types.ByLocal.{alloc_all, pass_all, free_all, look_at, sets}
use denote.Shadow.{pure_i}
use denote.Steps.{nothing}
use denote.Triple.Entry.{on_entry}
use denote.Triple.Walked.{says, ends_at}
use Rattle.mt_log_disk.specs.declared.record.Made.{Made}
use Rattle.mt_log_disk.specs.contracts.record.Made.{the_row}
use Rattle.mt_log_disk.specs.contracts.record.Made.new as f
use Rattle.mt_log_disk.proofs.record.Made.new.Statement.{statement}
use Rattle.mt_log_disk.proofs.record.Made.new.Code as code

pub new_spec : {M : Type 1} → statement M
new_spec 𝓤 𝓛 𝓜 𝓡 wired =
    let c = f.clauses 𝓛 𝓜.mem 𝓡.returns in let 𝓣 = tables 𝓤 𝓛.H 𝓜 𝓡 𝓡.env in let empty : Made = record { events = [] } in
    proved 𝓛 f.ended tt c 𝓜 𝓡 tt f.Key.name code.function (code.unfolded 𝓤 𝓛.H 𝓜 𝓡 wired) (λ κs. tt) (λ κs. tt) (λ κs qs bounds a g are.
    qed 𝓛 (raw (on_entry 𝓛 f.signature κs qs a tt) ∷ raw ((c κs a).requires g) ∷ []) ∵ keep ! [] $
    enter ! 𝓣.C 𝓣.Λ code.function [] _ $ alloc_all ! (λ l. pass_all ! refl tt $
    sets ! (agg ! (no_more !)) refl (tt, tt) $ returns ! (look_at ! 0 refl) $ free_all ! refl $
    pure_i ! (the_row.own_val empty (vstruct vnil ∷ [])) ((λ vss. (tt, tt)), tt) ((tt, (refl, tt)), tt) $
    suffices ! _ (ends_at 𝓛 f.ended tt c ((κs, qs, bounds, a, tt), g) (vstruct vnil) empty tt tt) $ says ! refl $
    nothing ! $ join ! $ nothing ! $ done !))
