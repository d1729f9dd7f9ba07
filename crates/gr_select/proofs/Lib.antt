mod BlocksLemmas
mod FittingLemmas
