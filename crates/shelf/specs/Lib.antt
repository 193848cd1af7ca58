-- What a shelf holds, and what its calls answer and leave.
pub mod Refusals
pub mod Contents
pub mod Leaves
pub mod WritingOut
pub mod Sending
