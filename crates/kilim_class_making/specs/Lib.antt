pub mod pool_needs
