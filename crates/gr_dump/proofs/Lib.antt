mod ColumnLemmas
mod EachLemmas
mod HeadLemmas
mod IndexLemmas
mod LoadLemmas
mod TableLemmas
