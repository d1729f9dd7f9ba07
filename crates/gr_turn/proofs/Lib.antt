pub mod KnownLemmas
pub mod TotalLemmas
pub mod RuleLemmas
pub mod StepLemmas
pub mod EndLemmas
pub mod PassLemmas
