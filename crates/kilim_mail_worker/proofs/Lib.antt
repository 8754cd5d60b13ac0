pub mod Handing
pub mod Noted
pub mod Bodies
pub mod Closing
