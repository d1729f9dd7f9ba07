pub mod BlockLemmas
mod DataLemmas
mod EndLemmas
pub mod LegibleLemmas
mod ListedLemmas
mod NamedLemmas
pub mod PrintLemmas
mod RowsLemmas
pub mod WrittenLemmas
