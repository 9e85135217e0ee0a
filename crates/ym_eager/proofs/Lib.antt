pub mod EagerLemmas
