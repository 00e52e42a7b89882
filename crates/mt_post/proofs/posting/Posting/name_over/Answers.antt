use Rattle.mt_post.proofs.NameLemmas.{names_half, may_name_half}
use Rattle.mt_post.proofs.RootLemmas.{names, may_name}
use Rattle.mt_post.proofs.posting.Posting.name_over.Goals as goal

pub name_root-requires : goal.name_root-requires
name_root-requires c = let s = c.requires.still in may_name c.args.tree.now c.args.self.now c.args.old c.args.root c.requires.filled s.head s.named s.alive s.root_is s.level_is c.in_default.ensures.none.0 c.requires.may

pub returns-in_default : goal.returns-in_default
returns-in_default c = let s = c.requires.still in names c.args.tree.now c.args.self.now c.args.old c.args.root c.requires.filled s.head s.named s.alive s.root_is s.level_is c.in_default.ensures.none.0 c.name_root.new.self c.pop.new.self c.name_root.ensures.value c.name_root.ensures.keeps c.requires.may

pub name_root_over_half-requires : goal.name_root_over_half-requires
name_root_over_half-requires c = may_name_half c.args.tree.now c.args.self.now c.args.old c.args.root c.in-Some.split c.pop.new.self c.requires.filled c.in-Some.ensures.some c.requires.arena c.requires.still c.requires.may

pub returns : goal.returns
returns c = names_half c.args.tree.now c.args.self.now c.args.old c.args.root c.in-Some.split c.pop.new.self c.requires.filled c.in-Some.ensures.some c.requires.arena c.requires.still c.name_root_over_half.new.self c.name_root_over_half.ensures.value c.name_root_over_half.ensures.keeps
