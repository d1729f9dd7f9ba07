pub mod Runs
pub mod Token
pub mod Units
pub mod Grammar
pub mod Text
pub mod Inside
