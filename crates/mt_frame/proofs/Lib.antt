-- Loops.
mod Loop
mod Unescaping
-- Texts, lengths, and what is at the front of bytes.
mod Escapes
mod Lengths
mod Framing
mod FrontLaws
-- What is spelled is read.
mod Contents
mod Bodies
pub mod FrameLaws
