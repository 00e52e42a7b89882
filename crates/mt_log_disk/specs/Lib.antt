pub mod Noted
pub mod Disks
