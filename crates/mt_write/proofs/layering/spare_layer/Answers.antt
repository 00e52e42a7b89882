use Rattle.std.proofs.Common.{ℕ, List, [], ◌∷◌, ◌≡◌, Some, IsSome, ◌+◌, ◌∙◌, ap, refl, subst, inr, rules}
use Rattle.mt_types.specs.declared.row.Row.{Row}
use Rattle.mt_border.specs.Entry.{IsEntry, entry_of_row}
use Rattle.mt_write.proofs.EntryLemmas.{same_long}
use Rattle.mt_slice.specs.Place.{slice_number}
use Rattle.mt_border.specs.Border.{BorderView}
use Rattle.mt_interior.specs.Head.{HeadView}
use Rattle.mt_arena.specs.Node.{Updates, node_at}
use Rattle.mt_arena.specs.Arena.{ArenaView, without_node}
use Rattle.mt_arena.proofs.NodeLemmas.{updates-without}
use Rattle.mt_tree.specs.Keeping.{KeepsUnknown}
use Rattle.mt_arena.specs.declared.node.Node.TheVariants.{Border, Head}
use Rattle.mt_steps.specs.Way.{rest_of}
use Rattle.mt_steps.proofs.FoundLemmas.{some_at}
use Rattle.mt_write.proofs.layering.spare_layer.Goals as goal

pub returns-in-Ok-clause-ready : goal.returns-in-Ok-clause-ready
returns-in-Ok-clause-ready c = λ C log.
    let b = c.border.result.now in
    let named = c.border.ensures.value in
    let other = some_at _ _ b c.requires.other named in
    let there = some_at _ _ b c.requires.there named in
    let same = same_long b.live c.args.place (slice_number (rest_of c.args.row.now.key.now c.args.row.now.way)) there.0 other.suffix c.args.suffix.now other.row c.args.old.now other.stands there.1 in
    let moves = subst (λ (s : List ℕ). (c.in_ok-entries.entries ≡ entry_of_row s other.row ∷ []) × IsEntry (entry_of_row s other.row)) same.0
    (subst (λ (r : Row). (c.in_ok-entries.entries ≡ entry_of_row c.args.suffix.now r ∷ []) × IsEntry (entry_of_row c.args.suffix.now r)) same.1 c.in_ok-entries.ensures) in (
      refl,
      record {
        b = b;
        named = named;
        at = record { sound = c.len-sound.ensures.sound; other = other };
        number = c.args.row.now.way.layer + 1;
        between = c.occupy.new.self;
        root = record {
          vacant = c.in_ok-root.ensures.vacant;
          updates = subst (λ (x : BorderView). Updates c.args.tree.now.nodes c.occupy.new.self.nodes c.in_ok-root.root.0 (Some (Border x))) c.new.ensures.value c.in_ok-root.ensures.updates;
          retired = c.occupy.ensures.retired;
          unknown = c.in_ok-root.ensures.unknown;
          keeps = c.in_ok-root.ensures.keeps;
        };
        head = record {
          vacant = c.in-Ok.ensures.vacant;
          updates = subst (λ (x : HeadView). Updates c.occupy.new.self.nodes c.occupy-2.new.self.nodes c.in-Ok.head.0 (Some (Head x))) c.new_locked.ensures.value c.in-Ok.ensures.updates;
          retired = c.occupy-2.ensures.retired;
          unknown = c.in-Ok.ensures.unknown;
          keeps = c.in-Ok.ensures.keeps;
        };
        moved = moves.0;
        whole = moves.1;
      },
      refl,
    )

pub returns-in-Err-clause-ready : goal.returns-in-Err-clause-ready
returns-in-Err-clause-ready c =
    let number = c.in_ok-root.root.0 in
    let between : ArenaView = c.occupy.new.self in
    let same : c.occupy-2.new.self ≡ between = c.in-Err.ensures.err in
    let is : c.give_back.new.self ≡ without_node between number = c.give_back.ensures.value ∙ ap (λ (x : ArenaView). without_node x number) same in
    let there : IsSome (node_at between.nodes number) = rw c.in_ok-root.ensures.updates.changed cc in (
      λ log. search rules,
      inr (record {
        number = number;
        node = Border c.new.result;
        between = between;
        occupied = record {
          vacant = c.in_ok-root.ensures.vacant;
          updates = c.in_ok-root.ensures.updates;
          retired = c.occupy.ensures.retired;
          unknown = c.in_ok-root.ensures.unknown;
          keeps = c.in_ok-root.ensures.keeps;
        };
        back = rw is (updates-without between.nodes number there);
        retired = ap (λ (x : ArenaView). x.retired) is;
        keeps = subst (λ (x : ArenaView). KeepsUnknown x c.give_back.new.self number) same c.give_back.ensures.keeps;
      }),
    )
