pub mod TableKeys
