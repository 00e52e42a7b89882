-- An entry more: the key that was noted is the entry's, and so is the value that is lent.
use Rattle.std.proofs.Common.{◌≡◌, ◌<◌, ◌∙◌, ◌++◌, ◌∷◌, [], List, length, ap, subst}
use Rattle.std.specs.Prelude.{ℕ}
use Rattle.mt_border.specs.Border.{BorderView}
use Rattle.mt_border.specs.declared.entry.Entry.{Entry}
use Rattle.mt_border.specs.Parts.{IsValueOf}
use Rattle.mt_border.specs.Slots.{slot_at}
use Rattle.mt_border.specs.declared.unwritten.Unwritten.TheVariants.{Nothing}
use Rattle.mt_arena.specs.Node.{border_at}
use Rattle.mt_arena.specs.declared.part.Field.TheVariants.{Value as ValueField}
use Rattle.mt_arena.specs.declared.part.Part.{Part}
use Rattle.mt_arena.specs.declared.part.Part.TheVariants.{Value as ValuePartOf}
use Rattle.mt_steps.specs.Standing.{Lends}
use Rattle.mt_steps.proofs.FoundLemmas.{some_at}
use Rattle.mt_steps.proofs.PartLemmas.{lends_field}
use Rattle.mt_steps.proofs.ReaderLemmas.{lent_of}
use Rattle.mt_write.specs.Splitting.{IsRead}
use Rattle.mt_write.proofs.CopyLemmas.{key_noted, noted_there, value_there}
use Rattle.mt_write.proofs.copying.copy_next.Goals as goal

pub entry_of-requires : goal.entry_of-requires
entry_of-requires c =
    let b = c.border-border.result.now in
    let here = some_at (λ (x : BorderView). IsRead x c.args.outline.now × (c.args.place < length x.live) × (x.unwritten ≡ Nothing)) (border_at c.args.tree.now.nodes c.args.number.0) b c.requires.read c.border-border.ensures.value in
    let sound = c.border-border.ensures.sound in
    let lent : Lends c.args.tree.now c.args.number.0 (ValueField c.slot-number_there.result) (ValuePartOf c.in-Value.value) =
    subst (λ (p : Part). Lends c.args.tree.now c.args.number.0 (ValueField c.slot-number_there.result) p) c.in-Value.is
    (lent_of c.args.tree.now c.args.number.0 (ValueField c.slot-number_there.result) c.part.result c.part.ensures.value c.part.ensures.sound c.part.ensures.arena) in
    let field = lends_field c.args.tree.now c.args.number.0 (ValueField c.slot-number_there.result) (ValuePartOf c.in-Value.value) lent b c.border-border.ensures.value in
    let noted = key_noted b sound c.args.outline.now here.0 c.args.place here.1 c.as_slice.result.now c.index-as_slice-place.result c.as_slice.ensures c.index-as_slice-place.is in (
      _,
      noted,
      value_there b sound c.args.outline.now here.0 c.args.place here.1 c.in-Value.value
          (subst (λ (n : ℕ). IsValueOf (slot_at b n).entry.content c.in-Value.value) c.slot-number_there.ensures.value field.is),
    )

pub returns : goal.returns
returns c =
    let b = c.border-border.result.now in
    let here = some_at (λ (x : BorderView). IsRead x c.args.outline.now × (c.args.place < length x.live) × (x.unwritten ≡ Nothing)) (border_at c.args.tree.now.nodes c.args.number.0) b c.requires.read c.border-border.ensures.value in
    let sound = c.border-border.ensures.sound in
    let lent : Lends c.args.tree.now c.args.number.0 (ValueField c.slot-number_there.result) (ValuePartOf c.in-Value.value) =
    subst (λ (p : Part). Lends c.args.tree.now c.args.number.0 (ValueField c.slot-number_there.result) p) c.in-Value.is
    (lent_of c.args.tree.now c.args.number.0 (ValueField c.slot-number_there.result) c.part.result c.part.ensures.value c.part.ensures.sound c.part.ensures.arena) in
    record {
      copies = record {
        value = c.in-Value.value;
        lent = subst (λ (n : ℕ). Lends c.args.tree.now c.args.number.0 (ValueField n) (ValuePartOf c.in-Value.value)) c.slot-number_there.ensures.value lent;
        key = c.index-as_slice-place.result;
        noted = noted_there b sound c.args.outline.now here.0 c.args.place here.1 c.as_slice.result.now c.index-as_slice-place.result c.as_slice.ensures c.index-as_slice-place.is;
        entry = c.in_ok-entry.entry;
        is = c.in_ok-entry.ensures;
        more = c.from_vec.ensures ∙ (c.in_ok-push.ensures.items ∙ ap (λ (es : List Entry). es ++ (c.in_ok-entry.entry ∷ [])) c.into_vec-copies.ensures);
      };
    }
