pub mod Codes
pub mod Stands
pub mod Feeding
pub mod Buffers
pub mod ReceiverInC
pub mod SenderInC
pub mod Fronts
pub mod Headers
