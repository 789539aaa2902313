pub mod Input
pub mod Program
