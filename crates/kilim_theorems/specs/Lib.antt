pub mod instruction_examples
pub mod link_examples
pub mod linked_weaving
pub mod mailbox_histories
pub mod run_examples
pub mod serving_weaver
pub mod weaving
pub mod woven_files
