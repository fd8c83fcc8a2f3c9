pub mod CheckReport
