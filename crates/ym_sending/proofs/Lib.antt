pub mod BatchLemmas
pub mod LineLemmas
pub mod PeerLemmas
