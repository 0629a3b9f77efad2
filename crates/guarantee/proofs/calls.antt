-- Each call as a list of events of the protocol, under every fate.
-- Assumes nothing.
pub mod Stop
pub mod Note
pub mod Read
pub mod Export
pub mod Reassign
pub mod Take
pub mod Issue
pub mod Open
pub mod Trim
pub mod Prepare
pub mod Send
pub mod Copy
pub mod Restore
