pub mod ByColumnLemmas
pub mod WantsLemmas
pub mod NewIndexLemmas
pub mod Grows
pub mod Fitting
