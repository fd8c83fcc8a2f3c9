pub mod PageArgument
