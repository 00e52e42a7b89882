-- the verdict: what a reader must believe
pub mod Audit
-- what a line says
pub mod Lines
pub mod Answers
-- for the inner functions: what the code has read
pub mod Book
