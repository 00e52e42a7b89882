-- The key, and then the value, of the first unused slot.
use Rattle.mt_arena.specs.Node.{border_at}
use Rattle.mt_steps.proofs.FoundLemmas.{some_and}
use Rattle.mt_write.proofs.InsertLemmas.{awaits_there}
use Rattle.mt_write.proofs.inserting.write_slot.Goals as goal

pub write_value-requires : goal.write_value-requires
write_value-requires c =
    let (b, named, may) = some_and _ (border_at c.args.tree.now.nodes c.args.number.0) c.requires in
    (awaits_there c.args.tree.now c.write_key.new.self c.args.number.0 b c.args.slot_key named c.write_key.ensures.value).0

pub returns : goal.returns
returns c =
    let (b, named, may) = some_and _ (border_at c.args.tree.now.nodes c.args.number.0) c.requires in
    record {
      keyed = c.write_key.new.self;
      key = c.write_key.ensures.value;
      key_sound = c.write_key.ensures.sound;
      key_keeps = c.write_key.ensures.keeps;
      arena = c.free_numbers-arena.ensures.arena;
      value = c.write_value.ensures.value c.args.slot_key (awaits_there c.args.tree.now c.write_key.new.self c.args.number.0 b c.args.slot_key named c.write_key.ensures.value).1;
      value_sound = c.write_value.ensures.sound;
      value_keeps = c.write_value.ensures.keeps;
    }
