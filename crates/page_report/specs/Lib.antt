pub mod PageReport
