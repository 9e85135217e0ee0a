pub mod ExplainLemmas
