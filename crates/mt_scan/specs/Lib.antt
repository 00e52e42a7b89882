-- What the contracts of this crate cite.
pub mod Cursor
pub mod CursorCode
pub mod Listed
pub mod Onward
pub mod Scan
pub mod ScanCode
