-- The half that is spared, and the cut, by the keys that were read.
use Rattle.std.proofs.Common.{get_or, ℕ, ◌≡◌, ◌∙◌, Some, length, true, refl, ap, sym, subst}
use Rattle.mt_word.specs.declared.permutation_word.TheConstants.{SLOTS}
use Rattle.mt_border.specs.Border.{BorderView, new_border}
use Rattle.mt_border.specs.declared.entry.Entry.{Entry}
use Rattle.mt_arena.specs.Node.{Updates}
use Rattle.mt_arena.specs.declared.node.Node.TheVariants.{Border}
use Rattle.mt_steps.specs.declared.listing.SlotKey.{SlotKey}
use Rattle.mt_steps.proofs.FoundLemmas.{some_at}
use Rattle.mt_write.specs.Splitting.{IsRead}
use Rattle.mt_write.proofs.CopyLemmas.{cut_by_keys, key_noted, none_by_keys}
use Rattle.mt_write.proofs.splitting.spare.Goals as goal

pub cut_of-cut-requires-clause-some : goal.cut_of-cut-requires-clause-some
cut_of-cut-requires-clause-some c =
    let b = c.border-border.result.now in
    let named = c.border-border.ensures.value in
    none_by_keys b c.layer-layer.ensures.sound (some_at (λ (x : BorderView). length x.live ≡ SLOTS) _ b c.requires.full named) c.args.outline (some_at (λ (x : BorderView). IsRead x c.args.outline) _ b c.requires.read named) c.as_slice-keys.result.now c.as_slice-keys.ensures

pub returns-clause-ready : goal.returns-clause-ready
returns-clause-ready c = λ C log.
    let b = c.border-border.result.now in
    let named = c.border-border.ensures.value in
    let sound = c.layer-layer.ensures.sound in
    let full = some_at (λ (x : BorderView). length x.live ≡ SLOTS) _ b c.requires.full named in
    let read = some_at (λ (x : BorderView). IsRead x c.args.outline) _ b c.requires.read named in
    let k = cut_by_keys b sound full c.args.outline read c.as_slice-keys.result.now c.as_slice-keys.ensures c.cut_of-cut.result c.cut_of-cut.ensures in
    let low : (get_or c.as_slice-keys.result.now c.cut_of-cut.result c.index-keys-cut.result).slice ≡ k.middle.slice = ap (λ (key : SlotKey). key.slice) (sym c.index-keys-cut.is) ∙ (ap (λ (key : SlotKey). key.slice) (key_noted b sound c.args.outline read c.cut_of-cut.result k.within c.as_slice-keys.result.now c.index-keys-cut.result c.as_slice-keys.ensures c.index-keys-cut.is) ∙ ap (λ (e : Entry). e.slice) (sym k.is)) in (
      refl,
      record {
        b = b;
        named = named;
        cut_at = record {
          sound = sound;
          full = full;
          best = k.best;
          middle = k.middle;
          is_middle = k.is_middle;
          absent = some_at _ _ b c.requires.absent named;
        };
        read = read;
        between = c.occupy.new.self;
        occupied = record {
          vacant = c.in_ok-half.ensures.vacant;
          updates = subst (λ (s : ℕ). Updates c.args.tree.now.nodes c.occupy.new.self.nodes c.in_ok-half.half.0 (Some (Border (new_border b.layer s true)))) low
              (subst (λ (l : ℕ). Updates c.args.tree.now.nodes c.occupy.new.self.nodes c.in_ok-half.half.0 (Some (Border (new_border l (get_or c.as_slice-keys.result.now c.cut_of-cut.result c.index-keys-cut.result).slice true)))) c.layer-layer.ensures.value
              (subst (λ (x : BorderView). Updates c.args.tree.now.nodes c.occupy.new.self.nodes c.in_ok-half.half.0 (Some (Border x))) c.new_locked.ensures.value c.in_ok-half.ensures.updates));
          retired = c.occupy.ensures.retired;
          unknown = c.in_ok-half.ensures.unknown;
          keeps = c.in_ok-half.ensures.keeps;
        };
        marked = c.mark_splitting.ensures.value;
        sound = c.mark_splitting.ensures.sound;
        keeps = c.mark_splitting.ensures.keeps;
      },
      c.from_vec-entries.ensures ∙ c.in_ok-with_capacity.ensures.items,
      refl,
    )
