mod BlockLemmas
mod FitsLemmas
mod LeafLemmas
mod MarkLemmas
mod PlaneLemmas
mod ScanLemmas
mod ScoreLemmas
