pub mod Control
pub mod ControlData
pub mod Lent
pub mod Origins
pub mod Over
pub mod StreamSteps
pub mod Wanted
