mod DeleteLemmas
mod EndsLemmas
mod HoldsLemmas
mod HomeLemmas
mod KeptLemmas
mod LoadLemmas
mod MeaningLemmas
pub mod OwnLemmas
pub mod ReplyLemmas
mod ReplyTextLemmas
mod StepsLemmas
mod ToldLemmas
