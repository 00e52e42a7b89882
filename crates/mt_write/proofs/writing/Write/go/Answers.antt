use Rattle.std.proofs.Common.{◌∙◌, sym}
use Rattle.mt_write.proofs.StageSteps.{at_step, may_be}
use Rattle.mt_write.proofs.writing.Write.go.Goals as goal

pub seek-requires-clause-may : goal.seek-requires-clause-may
seek-requires-clause-may c = (c.args.columns, c.args.log.now, may_be c.args.columns c.args.tree.now c.args.log.now c.args.self.now c.args.self.now.stage _ (c.is_seeking.ensures.0 c.if-is_seeking.true) c.requires)

pub returns-then-is_seeking : goal.returns-then-is_seeking
returns-then-is_seeking c = at_step c.args.columns c.args.tree.now c.seek.new.tree c.args.log.now c.args.log.now c.args.self.now c.args.self.now.stage _ c.seek.result c.seek.new.self (c.is_seeking.ensures.0 c.if-is_seeking.true) (c.seek.ensures c.args.columns c.args.log.now)

pub seek-requires-in-Seeks-clause-may : goal.seek-requires-in-Seeks-clause-may
seek-requires-in-Seeks-clause-may c = (c.args.columns, c.args.log.now, may_be c.args.columns c.args.tree.now c.args.log.now c.args.self.now c.replace.new.dest _ (sym c.replace.ensures.value ∙ c.in-Seeks.is) c.requires)

pub returns-in-Seeks : goal.returns-in-Seeks
returns-in-Seeks c = at_step c.args.columns c.args.tree.now c.seek-in-Seeks.new.tree c.args.log.now c.args.log.now c.args.self.now c.replace.new.dest _ c.seek-in-Seeks.result c.seek-in-Seeks.new.self (sym c.replace.ensures.value ∙ c.in-Seeks.is) (c.seek-in-Seeks.ensures c.args.columns c.args.log.now)

pub make_ready-requires : goal.make_ready-requires
make_ready-requires c = may_be c.args.columns c.args.tree.now c.args.log.now c.args.self.now c.replace.new.dest _ (sym c.replace.ensures.value ∙ c.in-Searched.is) c.requires

pub returns-in-Searched : goal.returns-in-Searched
returns-in-Searched c = at_step c.args.columns c.args.tree.now c.make_ready.new.tree c.args.log.now c.make_ready.new.log c.args.self.now c.replace.new.dest _ c.make_ready.result c.make_ready.new.self (sym c.replace.ensures.value ∙ c.in-Searched.is) c.make_ready.ensures

pub enter-requires : goal.enter-requires
enter-requires c = (c.args.columns, c.args.log.now, may_be c.args.columns c.args.tree.now c.args.log.now c.args.self.now c.replace.new.dest _ (sym c.replace.ensures.value ∙ c.in-Enters.is) c.requires)

pub returns-in-Enters : goal.returns-in-Enters
returns-in-Enters c = at_step c.args.columns c.args.tree.now c.args.tree.now c.args.log.now c.args.log.now c.args.self.now c.replace.new.dest _ c.enter.result c.enter.new.self (sym c.replace.ensures.value ∙ c.in-Enters.is) (c.enter.ensures c.args.columns c.args.log.now)

pub go_right-requires : goal.go_right-requires
go_right-requires c = (c.args.columns, c.args.log.now, may_be c.args.columns c.args.tree.now c.args.log.now c.args.self.now c.replace.new.dest _ (sym c.replace.ensures.value ∙ c.in-Rightward.is) c.requires)

pub returns-in-Rightward : goal.returns-in-Rightward
returns-in-Rightward c = at_step c.args.columns c.args.tree.now c.go_right.new.tree c.args.log.now c.args.log.now c.args.self.now c.replace.new.dest _ c.go_right.result c.go_right.new.self (sym c.replace.ensures.value ∙ c.in-Rightward.is) (c.go_right.ensures c.args.columns c.args.log.now)

pub copy_value-requires : goal.copy_value-requires
copy_value-requires c = (c.args.columns, c.args.log.now, may_be c.args.columns c.args.tree.now c.args.log.now c.args.self.now c.replace.new.dest _ (sym c.replace.ensures.value ∙ c.in-Copies.is) c.requires)

pub returns-in-Copies : goal.returns-in-Copies
returns-in-Copies c = at_step c.args.columns c.args.tree.now c.args.tree.now c.args.log.now c.args.log.now c.args.self.now c.replace.new.dest _ c.copy_value.result c.copy_value.new.self (sym c.replace.ensures.value ∙ c.in-Copies.is) (c.copy_value.ensures c.args.columns c.args.log.now)

pub give_back-requires : goal.give_back-requires
give_back-requires c = record { may = (c.args.columns, c.args.log.now, may_be c.args.columns c.args.tree.now c.args.log.now c.args.self.now c.replace.new.dest _ (sym c.replace.ensures.value ∙ c.in-GivesBack.is) c.requires) }

pub returns-in-GivesBack : goal.returns-in-GivesBack
returns-in-GivesBack c = at_step c.args.columns c.args.tree.now c.give_back.new.tree c.args.log.now c.args.log.now c.args.self.now c.replace.new.dest _ c.give_back.result _ (sym c.replace.ensures.value ∙ c.in-GivesBack.is) (c.give_back.ensures c.args.columns c.args.log.now)

pub fill_spared-requires : goal.fill_spared-requires
fill_spared-requires c = (c.args.columns, c.args.log.now, may_be c.args.columns c.args.tree.now c.args.log.now c.args.self.now c.replace.new.dest _ (sym c.replace.ensures.value ∙ c.in-Spared.is) c.requires)

pub returns-in-Spared : goal.returns-in-Spared
returns-in-Spared c = at_step c.args.columns c.args.tree.now c.fill_spared.new.tree c.args.log.now c.args.log.now c.args.self.now c.replace.new.dest _ c.fill_spared.result c.fill_spared.new.self (sym c.replace.ensures.value ∙ c.in-Spared.is) (c.fill_spared.ensures.step c.args.columns c.args.log.now)

pub link-requires : goal.link-requires
link-requires c = (c.args.columns, c.args.log.now, may_be c.args.columns c.args.tree.now c.args.log.now c.args.self.now c.replace.new.dest _ (sym c.replace.ensures.value ∙ c.in-HalfFilled.is) c.requires)

pub returns-in-HalfFilled : goal.returns-in-HalfFilled
returns-in-HalfFilled c = at_step c.args.columns c.args.tree.now c.link.new.tree c.args.log.now c.args.log.now c.args.self.now c.replace.new.dest _ c.link.result c.link.new.self (sym c.replace.ensures.value ∙ c.in-HalfFilled.is) (c.link.ensures.step c.args.columns c.args.log.now)

pub cut-requires : goal.cut-requires
cut-requires c = (c.args.columns, c.args.log.now, may_be c.args.columns c.args.tree.now c.args.log.now c.args.self.now c.replace.new.dest _ (sym c.replace.ensures.value ∙ c.in-HalfLinked.is) c.requires)

pub returns-in-HalfLinked : goal.returns-in-HalfLinked
returns-in-HalfLinked c = at_step c.args.columns c.args.tree.now c.cut.new.tree c.args.log.now c.args.log.now c.args.self.now c.replace.new.dest _ c.cut.result c.cut.new.self (sym c.replace.ensures.value ∙ c.in-HalfLinked.is) (c.cut.ensures.step c.args.columns c.args.log.now)

pub reserve_in_half-requires : goal.reserve_in_half-requires
reserve_in_half-requires c = may_be c.args.columns c.args.tree.now c.args.log.now c.args.self.now c.replace.new.dest _ (sym c.replace.ensures.value ∙ c.in-Halved.is) c.requires

pub returns-in-Halved : goal.returns-in-Halved
returns-in-Halved c = at_step c.args.columns c.args.tree.now c.reserve_in_half.new.tree c.args.log.now c.reserve_in_half.new.log c.args.self.now c.replace.new.dest _ c.reserve_in_half.result c.reserve_in_half.new.self (sym c.replace.ensures.value ∙ c.in-Halved.is) c.reserve_in_half.ensures

pub post-requires : goal.post-requires
post-requires c = (c.args.columns, c.args.log.now, may_be c.args.columns c.args.tree.now c.args.log.now c.args.self.now c.replace.new.dest _ (sym c.replace.ensures.value ∙ c.in-Posts.is) c.requires)

pub returns-in-Posts : goal.returns-in-Posts
returns-in-Posts c = at_step c.args.columns c.args.tree.now c.post.new.tree c.args.log.now c.args.log.now c.args.self.now c.replace.new.dest _ c.post.result c.post.new.self (sym c.replace.ensures.value ∙ c.in-Posts.is) (c.post.ensures c.args.columns c.args.log.now)

pub fill_root-requires : goal.fill_root-requires
fill_root-requires c = (c.args.columns, c.args.log.now, may_be c.args.columns c.args.tree.now c.args.log.now c.args.self.now c.replace.new.dest _ (sym c.replace.ensures.value ∙ c.in-LayerSpared.is) c.requires)

pub returns-in-LayerSpared : goal.returns-in-LayerSpared
returns-in-LayerSpared c = at_step c.args.columns c.args.tree.now c.fill_root.new.tree c.args.log.now c.args.log.now c.args.self.now c.replace.new.dest _ c.fill_root.result c.fill_root.new.self (sym c.replace.ensures.value ∙ c.in-LayerSpared.is) (c.fill_root.ensures c.args.columns c.args.log.now)

pub unlock_head-requires : goal.unlock_head-requires
unlock_head-requires c = (c.args.columns, c.args.log.now, may_be c.args.columns c.args.tree.now c.args.log.now c.args.self.now c.replace.new.dest _ (sym c.replace.ensures.value ∙ c.in-LayerFilled.is) c.requires)

pub returns-in-LayerFilled : goal.returns-in-LayerFilled
returns-in-LayerFilled c = at_step c.args.columns c.args.tree.now c.unlock_head.new.tree c.args.log.now c.args.log.now c.args.self.now c.replace.new.dest _ c.unlock_head.result c.unlock_head.new.self (sym c.replace.ensures.value ∙ c.in-LayerFilled.is) (c.unlock_head.ensures c.args.columns c.args.log.now)

pub mark_unstable-requires : goal.mark_unstable-requires
mark_unstable-requires c = (c.args.columns, c.args.log.now, may_be c.args.columns c.args.tree.now c.args.log.now c.args.self.now c.replace.new.dest _ (sym c.replace.ensures.value ∙ c.in-LayerReady.is) c.requires)

pub returns-in-LayerReady : goal.returns-in-LayerReady
returns-in-LayerReady c = at_step c.args.columns c.args.tree.now c.mark_unstable.new.tree c.args.log.now c.args.log.now c.args.self.now c.replace.new.dest _ c.mark_unstable.result c.mark_unstable.new.self (sym c.replace.ensures.value ∙ c.in-LayerReady.is) (c.mark_unstable.ensures c.args.columns c.args.log.now)

pub link_layer-requires : goal.link_layer-requires
link_layer-requires c = (c.args.columns, c.args.log.now, may_be c.args.columns c.args.tree.now c.args.log.now c.args.self.now c.replace.new.dest _ (sym c.replace.ensures.value ∙ c.in-LayerMarked.is) c.requires)

pub returns-in-LayerMarked : goal.returns-in-LayerMarked
returns-in-LayerMarked c = at_step c.args.columns c.args.tree.now c.link_layer.new.tree c.args.log.now c.args.log.now c.args.self.now c.replace.new.dest _ c.link_layer.result c.link_layer.new.self (sym c.replace.ensures.value ∙ c.in-LayerMarked.is) (c.link_layer.ensures c.args.columns c.args.log.now)

pub mark_layer-requires : goal.mark_layer-requires
mark_layer-requires c = (c.args.columns, c.args.log.now, may_be c.args.columns c.args.tree.now c.args.log.now c.args.self.now c.replace.new.dest _ (sym c.replace.ensures.value ∙ c.in-LayerLinked.is) c.requires)

pub returns-in-LayerLinked : goal.returns-in-LayerLinked
returns-in-LayerLinked c = at_step c.args.columns c.args.tree.now c.mark_layer.new.tree c.args.log.now c.args.log.now c.args.self.now c.replace.new.dest _ c.mark_layer.result c.mark_layer.new.self (sym c.replace.ensures.value ∙ c.in-LayerLinked.is) (c.mark_layer.ensures c.args.columns c.args.log.now)

pub go_below-requires : goal.go_below-requires
go_below-requires c = (c.args.columns, c.args.log.now, may_be c.args.columns c.args.tree.now c.args.log.now c.args.self.now c.replace.new.dest _ (sym c.replace.ensures.value ∙ c.in-Layered.is) c.requires)

pub returns-in-Layered : goal.returns-in-Layered
returns-in-Layered c = at_step c.args.columns c.args.tree.now c.go_below.new.tree c.args.log.now c.args.log.now c.args.self.now c.replace.new.dest _ c.go_below.result c.go_below.new.self (sym c.replace.ensures.value ∙ c.in-Layered.is) (c.go_below.ensures c.args.columns c.args.log.now)

pub write_key-requires : goal.write_key-requires
write_key-requires c = (c.args.columns, c.args.log.now, may_be c.args.columns c.args.tree.now c.args.log.now c.args.self.now c.replace.new.dest _ (sym c.replace.ensures.value ∙ c.in-Reserved.is) c.requires)

pub returns-in-Reserved : goal.returns-in-Reserved
returns-in-Reserved c = at_step c.args.columns c.args.tree.now c.write_key.new.tree c.args.log.now c.args.log.now c.args.self.now c.replace.new.dest _ c.write_key.result c.write_key.new.self (sym c.replace.ensures.value ∙ c.in-Reserved.is) (c.write_key.ensures c.args.columns c.args.log.now)

pub write_value-requires : goal.write_value-requires
write_value-requires c = (c.args.columns, c.args.log.now, may_be c.args.columns c.args.tree.now c.args.log.now c.args.self.now c.replace.new.dest _ (sym c.replace.ensures.value ∙ c.in-KeyWritten.is) c.requires)

pub returns-in-KeyWritten : goal.returns-in-KeyWritten
returns-in-KeyWritten c = at_step c.args.columns c.args.tree.now c.write_value.new.tree c.args.log.now c.args.log.now c.args.self.now c.replace.new.dest _ c.write_value.result c.write_value.new.self (sym c.replace.ensures.value ∙ c.in-KeyWritten.is) (c.write_value.ensures c.args.columns c.args.log.now)

pub show_row-requires : goal.show_row-requires
show_row-requires c = (c.args.columns, may_be c.args.columns c.args.tree.now c.args.log.now c.args.self.now c.replace.new.dest _ (sym c.replace.ensures.value ∙ c.in-Filled.is) c.requires)

pub returns-in-Filled : goal.returns-in-Filled
returns-in-Filled c = at_step c.args.columns c.args.tree.now c.show_row.new.tree c.args.log.now c.show_row.new.log c.args.self.now c.replace.new.dest _ c.show_row.result c.show_row.new.self (sym c.replace.ensures.value ∙ c.in-Filled.is) (c.show_row.ensures c.args.columns)

pub write_row-requires : goal.write_row-requires
write_row-requires c = (c.args.columns, may_be c.args.columns c.args.tree.now c.args.log.now c.args.self.now c.replace.new.dest _ (sym c.replace.ensures.value ∙ c.in-Made.is) c.requires)

pub returns-in-Made : goal.returns-in-Made
returns-in-Made c = at_step c.args.columns c.args.tree.now c.write_row.new.tree c.args.log.now c.write_row.new.log c.args.self.now c.replace.new.dest _ c.write_row.result c.write_row.new.self (sym c.replace.ensures.value ∙ c.in-Made.is) (c.write_row.ensures c.args.columns)

pub hide_row-requires : goal.hide_row-requires
hide_row-requires c = (c.args.columns, may_be c.args.columns c.args.tree.now c.args.log.now c.args.self.now c.replace.new.dest _ (sym c.replace.ensures.value ∙ c.in-Taken.is) c.requires)

pub returns-in-Taken : goal.returns-in-Taken
returns-in-Taken c = at_step c.args.columns c.args.tree.now c.hide_row.new.tree c.args.log.now c.hide_row.new.log c.args.self.now c.replace.new.dest _ c.hide_row.result c.hide_row.new.self (sym c.replace.ensures.value ∙ c.in-Taken.is) (c.hide_row.ensures c.args.columns)

pub end_stored-requires-clause-may : goal.end_stored-requires-clause-may
end_stored-requires-clause-may c = (c.args.columns, c.args.log.now, may_be c.args.columns c.args.tree.now c.args.log.now c.args.self.now c.replace.new.dest _ (sym c.replace.ensures.value ∙ c.in-Stored.is) c.requires)

pub returns-in-Stored : goal.returns-in-Stored
returns-in-Stored c = at_step c.args.columns c.args.tree.now c.end_stored.new.tree c.args.log.now c.args.log.now c.args.self.now c.replace.new.dest _ c.end_stored.result c.end_stored.new.self (sym c.replace.ensures.value ∙ c.in-Stored.is) (c.end_stored.ensures c.args.columns c.args.log.now)

pub mark_hidden-requires : goal.mark_hidden-requires
mark_hidden-requires c = (c.args.columns, c.args.log.now, may_be c.args.columns c.args.tree.now c.args.log.now c.args.self.now c.replace.new.dest _ (sym c.replace.ensures.value ∙ c.in-Hidden.is) c.requires)

pub returns-in-Hidden : goal.returns-in-Hidden
returns-in-Hidden c = at_step c.args.columns c.args.tree.now c.mark_hidden.new.tree c.args.log.now c.args.log.now c.args.self.now c.replace.new.dest _ c.mark_hidden.result c.mark_hidden.new.self (sym c.replace.ensures.value ∙ c.in-Hidden.is) (c.mark_hidden.ensures c.args.columns c.args.log.now)

pub forget_row-requires : goal.forget_row-requires
forget_row-requires c = (c.args.columns, c.args.log.now, may_be c.args.columns c.args.tree.now c.args.log.now c.args.self.now c.replace.new.dest _ (sym c.replace.ensures.value ∙ c.in-Forgets.is) c.requires)

pub returns-in-Forgets : goal.returns-in-Forgets
returns-in-Forgets c = at_step c.args.columns c.args.tree.now c.forget_row.new.tree c.args.log.now c.args.log.now c.args.self.now c.replace.new.dest _ c.forget_row.result c.forget_row.new.self (sym c.replace.ensures.value ∙ c.in-Forgets.is) (c.forget_row.ensures c.args.columns c.args.log.now)

pub end_failed-requires : goal.end_failed-requires
end_failed-requires c = (c.args.columns, c.args.log.now, may_be c.args.columns c.args.tree.now c.args.log.now c.args.self.now c.replace.new.dest _ (sym c.replace.ensures.value ∙ c.in-Failed.is) c.requires)

pub returns-in-Failed : goal.returns-in-Failed
returns-in-Failed c = at_step c.args.columns c.args.tree.now c.end_failed.new.tree c.args.log.now c.args.log.now c.args.self.now c.replace.new.dest _ c.end_failed.result c.end_failed.new.self (sym c.replace.ensures.value ∙ c.in-Failed.is) (c.end_failed.ensures c.args.columns c.args.log.now)
