pub mod Program
pub mod States
