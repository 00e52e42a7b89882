-- Lemmas on the children of an interior node.
pub mod ChildrenLemmas
pub mod InteriorLemmas
