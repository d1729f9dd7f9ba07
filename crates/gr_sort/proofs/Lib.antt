mod KeptLemmas
pub mod KeyLemmas
pub mod OrderLemmas
mod RowLemmas
pub mod TotalLemmas
mod WindowLemmas
