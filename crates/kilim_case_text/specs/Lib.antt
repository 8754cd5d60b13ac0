pub mod run_tables
