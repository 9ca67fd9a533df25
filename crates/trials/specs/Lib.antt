pub mod Sheets
pub mod AxisOrders
pub mod Trials
pub mod Differences
