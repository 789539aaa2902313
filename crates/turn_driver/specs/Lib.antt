pub mod Given
pub mod Next
pub mod Run
pub mod Driver
pub mod OnTime
pub mod Late
pub mod Rests
pub mod DrivenRows
