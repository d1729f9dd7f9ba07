mod BlockLemmas
mod CountLemmas
mod FittingLemmas
mod GatheredLemmas
mod GroupLemmas
mod LegibleLemmas
mod ListedLemmas
mod OrderLemmas
