pub mod ListLemmas
pub mod RunLemmas
pub mod FrontLemmas
pub mod CursorLemmas
pub mod FoldLemmas
pub mod TestLemmas
