pub mod TableFormats
