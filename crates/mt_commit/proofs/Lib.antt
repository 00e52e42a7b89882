-- Lemmas on holders, on the log and on what deltas say of rows.
pub mod HolderLemmas
pub mod LogLemmas
pub mod RowLemmas
pub mod CountLemmas
pub mod DeltaLemmas
