use Rattle.mt_remove.proofs.AboveLemmas.{search_there, search_below, search_within, search_place, search_at, searches}
use Rattle.mt_remove.proofs.tidy.Tidy.search_above.Goals as goal

pub slice_above-slice-requires-clause-below : goal.slice_above-slice-requires-clause-below
slice_above-slice-requires-clause-below c = search_below c.args.epoch c.args.tree.now c.args.self.now c.args.layer c.args.order c.args.place c.args.at c.requires.at c.requires.may

pub slice_above-slice-requires-clause-within : goal.slice_above-slice-requires-clause-within
slice_above-slice-requires-clause-within c = search_within c.args.epoch c.args.tree.now c.args.self.now c.args.layer c.args.order c.args.place c.args.at c.requires.at c.requires.may

pub slot-requires : goal.slot-requires
slot-requires c = search_place c.args.epoch c.args.tree.now c.args.self.now c.args.layer c.args.order c.args.place c.args.at c.requires.at c.requires.may

pub leads_below-is_it-requires-clause-border : goal.leads_below-is_it-requires-clause-border
leads_below-is_it-requires-clause-border c = search_there c.args.epoch c.args.tree.now c.args.self.now c.args.layer c.args.order c.args.place c.args.at c.requires.at c.requires.may

pub searched-self-requires : goal.searched-self-requires
searched-self-requires c = search_at c.args.epoch c.args.tree.now c.args.self.now c.args.layer c.args.order c.args.place c.args.at c.requires.at c.requires.may c.leads_below-is_it.result c.place_noted.result c.place_noted.ensures

pub returns : goal.returns
returns c = searches c.args.epoch c.args.tree.now c.args.self.now c.args.layer c.args.order c.args.place c.args.at c.requires.at c.slice_above-slice.result c.slice_above-slice.ensures c.slot.result c.slot.ensures.value c.leads_below-is_it.result c.leads_below-is_it.ensures c.place_noted.result c.place_noted.ensures c.searched-self.result c.searched-self.ensures
