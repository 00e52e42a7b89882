use Rattle.std.proofs.Common.{Bool, ◌<◌, subst}
use Rattle.std.specs.Prelude.{OnSome}
use Rattle.std.specs.Option.{option_copied, option_map}
use Rattle.mt_types.specs.declared.row.Row.{Row}
use Rattle.mt_promise.specs.History.{History, moment, rows}
use Rattle.mt_slice.specs.Place.{place_of}
use Rattle.mt_arena.specs.Arena.{ArenaView}
use Rattle.mt_tree.specs.Seen.{arena_seen}
use Rattle.mt_index.specs.Stands.{Stands}
use Rattle.mt_walk.specs.Walk.{Gives, stands_at, view_of}
use Rattle.mt_reads.specs.Walks.{GivesNext, IsWalking, RowsView, keys_to_come}
use Rattle.mt_reads.proofs.KeysToCome.{fewer_to_come}
use Rattle.mt_reads.proofs.WalkLemmas.{gives_next}
use Rattle.mt_reads.proofs.rows.Rows.next.Goals as goal

pub returns-in-Ok-clause-row : goal.returns-in-Ok-clause-row
returns-in-Ok-clause-row c =
    let walking = subst (λ (b : Bool). IsWalking b c.self.inside.machine.now c.self.inside.walk) c.if-self.false c.self.invariant in
    let new = view_of c.next.new.self in
    subst (λ (v : RowsView). (h : History) → Stands v.machine h → GivesNext (rows v.machine.columns (moment h)) v.at (option_copied c.in-Ok.row) (record { key = c.next.new.self.key.items; given = c.next.new.self.given })) c.self.view_is
    (λ h st. gives_next (rows c.self.inside.machine.now.columns (moment h)) (arena_seen c.self.inside.machine.now.tree) st.content st.keys
    (record { key = c.self.inside.walk.key.items; given = c.self.inside.walk.given }) (option_copied c.in-Ok.row) (record { key = c.next.new.self.key.items; given = c.next.new.self.given })
    walking.1.bytes c.in-Ok.ensures.stands.stands.bytes
    (subst (λ (a : ArenaView). Gives (arena_seen a) (stands_at (view_of c.self.inside.walk)) (option_map (λ (r : Row). record { key = place_of new.key; value = r }) (option_copied c.in-Ok.row)) (stands_at new)) walking.2 c.in-Ok.ensures.gives))

pub returns-in-Ok-clause-fewer : goal.returns-in-Ok-clause-fewer
returns-in-Ok-clause-fewer c =
    let walking = subst (λ (b : Bool). IsWalking b c.self.inside.machine.now c.self.inside.walk) c.if-self.false c.self.invariant in
    let stands = c.in-Ok.ensures.stands.stands in
    subst (λ (v : RowsView). OnSome c.in-Ok.row (keys_to_come (record { key = c.next.new.self.key.items; given = c.next.new.self.given }) < keys_to_come v.at)) c.self.view_is
    (fewer_to_come (λ r. r.now) (arena_seen (view_of c.self.inside.walk).tree)
    (record { key = c.self.inside.walk.key.items; given = c.self.inside.walk.given }) c.in-Ok.row (record { key = c.next.new.self.key.items; given = c.next.new.self.given })
    walking.1.bytes stands.bytes walking.1.short stands.short c.in-Ok.ensures.gives)
