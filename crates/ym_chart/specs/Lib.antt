pub mod Arrows
pub mod ChartExamples
pub mod ChartText
pub mod Drawing
pub mod LineParts
pub mod Rows
