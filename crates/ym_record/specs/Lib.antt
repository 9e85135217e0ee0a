pub mod RecordGrowth
pub mod RecordNames
