-- How rows are stored as plain data, which the model of the sorted map needs.
pub mod RowsCode
