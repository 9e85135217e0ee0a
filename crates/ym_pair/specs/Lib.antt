pub mod AnyPeer
pub mod PairingExamples
pub mod Logs
pub mod Pairing
